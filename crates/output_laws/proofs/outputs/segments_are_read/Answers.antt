use Rattle.output_laws.proofs.SegmentLemmas.{segment-is_read}
use Rattle.output_laws.proofs.outputs.segments_are_read.Goals as goal

pub returns : goal.returns
returns c = segment-is_read
