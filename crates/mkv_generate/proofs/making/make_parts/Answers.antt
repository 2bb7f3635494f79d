use Rattle.std.proofs.Common.{refl}
use Rattle.mkv_lines.specs.declared.status.CommandEnd.TheVariants as stop
use Rattle.mkv_generate.specs.Generate.{parts_words}
use Rattle.mkv_generate.proofs.MakingLemmas.{parts-begun}
use Rattle.mkv_generate.proofs.making.make_parts.Goals as goal

-- Memory ran out for the command line.
pub returns-in-Err-clause-makes : goal.returns-in-Err-clause-makes
returns-in-Err-clause-makes g c =
    let names = g.F.Files.names c.args.files.now in
    parts-begun names names c.args.names.now (parts_words c.args.names.now) refl c.args.both stop.Memory refl
