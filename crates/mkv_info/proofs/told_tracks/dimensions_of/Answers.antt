-- A Video of a sound entry is sound.
use Rattle.std.proofs.Common.{sym}
use Rattle.tree_format.proofs.ChildLemmas.{first_child-sound}
use Rattle.mkv_info.proofs.told_tracks.dimensions_of.Goals as goal

pub pixels_in-requires : goal.pixels_in-requires
pixels_in-requires c = first_child-sound _ _ _ c.requires.sound (sym c.in-Some.ensures.exact)
