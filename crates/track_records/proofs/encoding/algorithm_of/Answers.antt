-- The compression is valid in the encoding.
use Rattle.std.proofs.Common.{sym}
use Rattle.tree_format.proofs.ChildLemmas.{first_child-sound, HasUint-of}
use Rattle.track_records.proofs.EntryLemmas.{algorithm}
use Rattle.track_records.proofs.encoding.algorithm_of.Goals as goal

pub uint_in-requires-clause-sound : goal.uint_in-requires-clause-sound
uint_in-requires-clause-sound c = (first_child-sound _ _ _ c.requires.sound (sym c.in-Some.ensures.exact)).sound

pub uint_in-requires-clause-uint : goal.uint_in-requires-clause-uint
uint_in-requires-clause-uint c = HasUint-of _ _ _ (first_child-sound _ _ _ c.requires.sound (sym c.in-Some.ensures.exact)) algorithm
