use Rattle.cues_seekhead.proofs.EndingLemmas.{ids-behind}
use Rattle.cues_seekhead.proofs.ending.Ending.new.Goals as goal

-- The IDs of the new Seeks are valid.
pub area_octets-requires-clause-ids : goal.area_octets-requires-clause-ids
area_octets-requires-clause-ids c =
    rw c.deref.ensures.value (ids-behind _ _ _ _ _ _ _ _ c.requires.chapters c.requires.tags c.in_ok-back.ensures c.requires.ids)
