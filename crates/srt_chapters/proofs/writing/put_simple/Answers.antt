-- The edition is a child of sound chapters.
use Rattle.std.proofs.Common.{sym}
use Rattle.tree_format.proofs.ChildLemmas.{first_child-sound}
use Rattle.srt_chapters.proofs.writing.put_simple.Goals as goal

pub put_atoms-requires : goal.put_atoms-requires
put_atoms-requires c = first_child-sound _ _ _ c.requires.sound (sym c.in-Some.ensures.exact)
