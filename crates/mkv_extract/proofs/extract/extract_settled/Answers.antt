use Rattle.std.proofs.Common.{[], ◌∷◌, refl}
use Rattle.std.proofs.lemmas.Result.{err_from_is_err_and}
use Rattle.mkv_io.proofs.AskedLemmas.{asks-more}
use Rattle.sidecar_edit.specs.Name.{sidecar_of}
use Rattle.extractors.specs.Job.{names_for}
use Rattle.sidecar_edit.specs.Pending.{is_pending}
use Rattle.mkv_lines.specs.Command.{seen_in}
use Rattle.mkv_lines.proofs.VerdictLemmas.{IsStopped-before}
use Rattle.mkv_extract.specs.Extract.{verdict_of}
use Rattle.mkv_extract.specs.Steps.{settled_taken}
use Rattle.mkv_extract.proofs.ExtractLemmas.{asks-settled}
use Rattle.mkv_extract.proofs.extract.extract_settled.Goals as goal

-- The journal couldn't be read.
pub returns-in_err-is_pending-clause-verdict : goal.returns-in_err-is_pending-clause-verdict
returns-in_err-is_pending-clause-verdict g c = λ world told bytes is.
    let p = err_from_is_err_and c.from_residual.result c.from_residual.ensures.1 in
    let name = c.args.name.now in
    let job = c.args.job.now in
    rw p.1
    (IsStopped-before (seen_in g.F.Reads g.F.Files g.P.Report c.args.files.now c.args.report.now)
    (seen_in g.F.Reads g.F.Files g.P.Report c.is_pending.new.files c.args.report.now)
    (verdict_of name (settled_taken name job (is_pending world name) bytes))
    refl c.is_pending.ensures.looks.names)

-- Only the journal was opened.
pub returns-in_err-is_pending-clause-asks : goal.returns-in_err-is_pending-clause-asks
returns-in_err-is_pending-clause-asks g c =
    asks-more (sidecar_of c.args.name.now ∷ []) [] (sidecar_of c.args.name.now ∷ []) (names_for c.args.job.now) (g.F.Files.asked c.args.files.now) (g.F.Files.asked c.is_pending.new.files) (λ other others. others) (λ other others. tt) c.is_pending.ensures.looks.kept.asks

pub returns-then-branch-clause-asks : goal.returns-then-branch-clause-asks
returns-then-branch-clause-asks g c =
    asks-more (sidecar_of c.args.name.now ∷ []) [] (sidecar_of c.args.name.now ∷ []) (names_for c.args.job.now) (g.F.Files.asked c.args.files.now) (g.F.Files.asked c.is_pending.new.files) (λ other others. others) (λ other others. tt) c.is_pending.ensures.looks.kept.asks

-- Then the outputs were created.
pub returns-clause-asks : goal.returns-clause-asks
returns-clause-asks g c =
    asks-settled c.args.name.now (names_for c.args.job.now) (g.F.Files.asked c.args.files.now) (g.F.Files.asked c.is_pending.new.files) (g.F.Files.asked c.extract_file.new.files) c.is_pending.ensures.looks.kept.asks c.extract_file.ensures.asks
