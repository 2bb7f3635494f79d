-- The lines of a report, each a list of bytes, if they are visible to the proof.
use Rattle.std.specs.Prelude.{◌≡◌, ◌⊎◌, ℕ, List, [], ◌∷◌, ◌++◌, Option, Some, None}

-- the given lines of a report with `more` after them, or None if they aren't visible to the proof. Contracts of calls that print use it.
abbrev pub with_lines : Option (List (List ℕ)) → List (List ℕ) → Option (List (List ℕ))
with_lines None more = None
with_lines (Some lines) more = Some (lines ++ more)

-- The lines of a report are the same in `new` as in `old`, or `line` was appended. The contract of `say` promises it after a failure.
abbrev pub MaySay : Option (List (List ℕ)) → Option (List (List ℕ)) → List ℕ → Type 0
MaySay old new line = (new ≡ old) ⊎ (new ≡ with_lines old (line ∷ []))
