use Rattle.elementary.proofs.SegmentsLemmas.{segments_of-again, segments_of-joins}
use Rattle.elementary.proofs.laws.segments_are_read.Goals as goal

pub returns : goal.returns
returns c = λ octets segments. (segments_of-joins octets segments, segments_of-again octets segments)
