use Rattle.cues_seekhead.proofs.FrontLemmas.{head-parts}
use Rattle.cues_seekhead.proofs.front.head_octets.Goals as goal

pub returns : goal.returns
returns c = head-parts _ _ _ _ _ _ _ _ _ _ _ c.new-out.ensures c.in_ok-put_ebml.ensures.ok c.in_ok-put_segment.ensures.ok c.in_ok-put_void.ensures.ok c.in_ok-append.ensures.ok c.as_slice.ensures
