-- File names, and the content of each.
use Rattle.std.specs.Prelude.{◌≡◌, ◌≢◌, ◌⊎◌, ℕ, List, [], ◌∷◌, Option, Some, None, if◌then◌else◌}
use Rattle.std.specs.Str.{bytes_eq}

-- the content of each name, with None for a name without a file; or None if the contents are invisible to the proof. Contracts on files describe a
-- state by it. Used by `ChangesFile`, `Appends` and others.
abbrev pub Names : Type 0
Names = Option (List ℕ → Option (List ℕ))

-- the content of the name `other`, after the content of the name `name` in `world` changed by `change`. A content is None if there is no file.
-- `with_change` uses it.
abbrev pub changed_at : List ℕ → (Option (List ℕ) → Option (List ℕ)) → (List ℕ → Option (List ℕ)) → List ℕ → Option (List ℕ)
changed_at name change world other = if bytes_eq name other then change (world other) else world other

-- the given names after the content of `name` changed by `change`, as a write leaves them; None if they are invisible to the proof
abbrev pub with_change : Names → List ℕ → (Option (List ℕ) → Option (List ℕ)) → Names
with_change None name change = None
with_change (Some world) name change = Some (changed_at name change world)

-- the names `names` after `name` got the content `bytes`, whatever it had before, as creating a file or writing an output leaves them. Used by
-- `MayEmpty`, `IsMadeFile` and others.
abbrev pub with_content : Names → List ℕ → List ℕ → Names
with_content names name bytes = with_change names name (λ _. Some bytes)

-- The names `new` are the names `old`, except that the content of `name` may have become empty. The contract of `create` promises it after a failure.
abbrev pub MayEmpty : Names → Names → List ℕ → Type 0
MayEmpty old new name = (new ≡ old) ⊎ (new ≡ with_content old name [])

-- The name `name` isn't in the given list. Used for files that a call may not open or write.
abbrev pub AreOthers : List ℕ → List (List ℕ) → Type 0
AreOthers name [] = Unit {0}
AreOthers name (other ∷ names) = (other ≢ name) × AreOthers name names

-- The names in the given list are pairwise different. `extract` requires it of its outputs.
abbrev pub AreApart : List (List ℕ) → Type 0
AreApart [] = Unit {0}
AreApart (name ∷ names) = AreOthers name names × AreApart names
