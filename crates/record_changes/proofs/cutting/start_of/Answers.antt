-- A start is valid in an atom.
use Rattle.std.proofs.Common.{ℕ, sym, subst}
use Rattle.mkv_schema.specs.declared.ids.TheConstants.{CHAPTER_TIME_START}
use Rattle.tree_format.specs.Values.{HasUint}
use Rattle.record_changes.proofs.ChapterFacts.{start}
use Rattle.record_changes.proofs.cutting.start_of.Goals as goal

pub value_in-requires-clause-uint : goal.value_in-requires-clause-uint
value_in-requires-clause-uint c = let P : ℕ → Type 0 = λ p. HasUint p CHAPTER_TIME_START in subst P (sym c.requires.id) start.known
