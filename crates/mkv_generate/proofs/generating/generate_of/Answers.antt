use Rattle.std.proofs.Common.{◌+◌, ◌≤◌, ◌≢◌, refl, sym, subst}
use Rattle.mkv_lines.specs.Command.{seen_in}
use Rattle.mkv_lines.specs.Verdict.{Reaches}
use Rattle.mkv_lines.proofs.VerdictLemmas.{IsStopped-before}
use Rattle.mkv_generate.specs.declared.names.Names as own
use Rattle.mkv_generate.specs.Asked.{AsksToGenerate}
use Rattle.mkv_generate.specs.Bound.{most_made}
use Rattle.mkv_generate.specs.Generate.{generate_verdict, verdict_of}
use Rattle.mkv_generate.proofs.SoundLemmas.{names-apart}
use Rattle.mkv_generate.proofs.generating.generate_of.Goals as goal

pub generate-requires-clause-apart : goal.generate-requires-clause-apart
generate-requires-clause-apart g c = subst (λ (names : own.Names). names.pictures ≢ names.sounds) (sym c.in-Ok.ensures) (names-apart c.args.prefix.now)

-- The files were made.
pub returns-in-Ok-clause-verdict : goal.returns-in-Ok-clause-verdict
returns-in-Ok-clause-verdict g c = λ world told.
    subst (λ (names : own.Names). Reaches (seen_in g.F.Reads g.F.Files g.P.Report c.args.files.now c.args.report.now)
    (seen_in g.F.Reads g.F.Files g.P.Report c.generate.new.files c.generate.new.report) c.generate.result (verdict_of c.args.n names)) c.in-Ok.ensures (c.generate.ensures.verdict world told)

-- Memory ran out for the names.
pub returns-in-Err-clause-verdict : goal.returns-in-Err-clause-verdict
returns-in-Err-clause-verdict g c = λ world told.
    let still = seen_in g.F.Reads g.F.Files g.P.Report c.args.files.now c.args.report.now in
    IsStopped-before still still (generate_verdict c.args.n c.args.prefix.now) refl refl

-- The bytes that are read.
pub returns-in-Ok-clause-octets : goal.returns-in-Ok-clause-octets
returns-in-Ok-clause-octets g c = λ world told.
    subst (λ (names : own.Names). g.F.Reads.octets_read c.generate.new.files ≤ g.F.Reads.octets_read c.args.files.now + most_made c.args.n names) c.in-Ok.ensures (c.generate.ensures.octets world told)

-- The names that are opened and made.
pub returns-in-Ok-clause-asks : goal.returns-in-Ok-clause-asks
returns-in-Ok-clause-asks g c =
    subst (λ (names : own.Names). AsksToGenerate names (g.F.Files.asked c.args.files.now) (g.F.Files.asked c.generate.new.files)) c.in-Ok.ensures c.generate.ensures.asks
