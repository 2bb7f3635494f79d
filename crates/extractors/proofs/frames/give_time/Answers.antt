use Rattle.extractors.proofs.FramesLemmas.{Gives-err, HasPart-none}
use Rattle.extractors.proofs.frames.give_time.Goals as goal

-- Memory for the text ran out, and nothing was written.
pub returns-in_err-push_time-clause-gives : goal.returns-in_err-push_time-clause-gives
returns-in_err-push_time-clause-gives g c =
    Gives-err g.F.Files c.args.files.now c.args.files.now c.args.outputs.now c.args.outputs.now c.args.k _ c.from_residual.result c.from_residual.ensures.0
    (HasPart-none g.F.Files c.args.files.now c.args.outputs.now c.args.k _)
