use Rattle.std.proofs.Common.{refl}
use Rattle.mkv_lines.specs.declared.status.CommandEnd.TheVariants as stop
use Rattle.mkv_generate.specs.Generate.{both_words}
use Rattle.mkv_generate.proofs.MakingLemmas.{both-begun}
use Rattle.mkv_generate.proofs.making.make_both.Goals as goal

-- Memory ran out for the command line.
pub returns-in-Err-clause-makes : goal.returns-in-Err-clause-makes
returns-in-Err-clause-makes g c =
    let names = g.F.Files.names c.args.files.now in
    both-begun names names c.args.names.now (both_words c.args.names.now) refl stop.Memory refl
