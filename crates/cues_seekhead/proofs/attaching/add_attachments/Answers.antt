use Rattle.std.proofs.lemmas.Result.{err_from_is_err_and}
use Rattle.cues_seekhead.proofs.AppendingLemmas.{AppendsOnly-memory}
use Rattle.cues_seekhead.proofs.attaching.add_attachments.Goals as goal

-- There is no memory for the buffer.
pub returns-in_err-buffer : goal.returns-in_err-buffer
returns-in_err-buffer g c =
    let p = err_from_is_err_and c.from_residual.result c.from_residual.ensures.1 in
    rw (p.1, p.2) (AppendsOnly-memory g.F.Reads g.F.Files c.args.file _ _ c.args.files.now)
