use Rattle.output_laws.proofs.FrameLemmas.{frames-can}
use Rattle.output_laws.proofs.outputs.frames_can_be_written.Goals as goal

pub returns : goal.returns
returns c = frames-can
