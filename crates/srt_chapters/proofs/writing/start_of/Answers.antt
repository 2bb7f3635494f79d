-- The start is a child of a sound atom.
use Rattle.std.proofs.Common.{sym}
use Rattle.tree_format.proofs.ChildLemmas.{first_child-short, HasUint-of}
use Rattle.srt_chapters.proofs.ExtractedLemmas.{start}
use Rattle.srt_chapters.proofs.writing.start_of.Goals as goal

pub uint-requires : goal.uint-requires
uint-requires c = first_child-short _ _ _ c.requires.sound (HasUint-of _ _ _ c.requires start) (sym c.in-Some.ensures.exact)
