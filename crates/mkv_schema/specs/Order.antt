-- The order of Elements: RFC 8794, section 7.7 (Master Element).
use Rattle.std.specs.Prelude.{ℕ, ◌+◌, ◌≤◌, ⊤, List, [], ◌∷◌}
use Rattle.ebml_numbers.specs.declared.number.Size.{Size}
use Rattle.mkv_schema.specs.declared.element.Header.{Header}
use Rattle.mkv_schema.specs.Elements.{level_1}

-- The offsets of the Elements in the list ascend: the first is at least `p`, and each other one is greater than the previous one. `Level1Ascends`
-- requires it. Used by `Level1Ascends`.
abbrev pub AscendFrom : ℕ → List Header → Type 0
AscendFrom p [] = ⊤
AscendFrom p (h ∷ hs) = (p ≤ h.offset) × AscendFrom (h.offset + 1) hs

-- The offsets of the Elements of level 1 of each Segment ascend. It is the law `level_1_ascends`. Used by `level_1_ascends`.
abbrev pub Level1Ascends : Type 0
Level1Ascends = (bytes : List ℕ) (size : Size) (p e : ℕ) → AscendFrom p (level_1 bytes size p e).list
