-- An end is valid in an atom.
use Rattle.std.proofs.Common.{ℕ, sym, subst}
use Rattle.mkv_schema.specs.declared.ids.TheConstants.{CHAPTER_TIME_END}
use Rattle.tree_format.specs.Values.{HasUint}
use Rattle.tree_format.proofs.ChildLemmas.{first_child-short}
use Rattle.record_changes.proofs.ChapterFacts.{end}
use Rattle.record_changes.proofs.cutting.own_end.Goals as goal

pub uint-requires : goal.uint-requires
uint-requires c =
    let P : ℕ → Type 0 = λ p. HasUint p CHAPTER_TIME_END in
    first_child-short _ _ _ c.requires.sound (subst P (sym c.requires.id) end.known) (sym c.in_ok-end.ensures.exact)
