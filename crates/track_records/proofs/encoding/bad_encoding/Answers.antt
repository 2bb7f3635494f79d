-- The ContentEncodings is valid in the entry.
use Rattle.std.proofs.Common.{sym}
use Rattle.tree_format.proofs.ChildLemmas.{first_child-sound}
use Rattle.track_records.proofs.encoding.bad_encoding.Goals as goal

pub can_be_undone-requires : goal.can_be_undone-requires
can_be_undone-requires c = first_child-sound _ _ _ c.requires.sound (sym c.in_ok-encodings.ensures.exact)
