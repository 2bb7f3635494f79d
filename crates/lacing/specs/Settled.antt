-- Laces that are known from their first bytes: RFC 9559, section 10.3 (Block Lacing).
use Rattle.std.specs.Prelude.{◌≡◌, ℕ, ◌-◌, ◌≤◌, nat_le, Bool, true, false, List, ◌++◌, length, take, replicate, Option, Some, None}
use Rattle.ebml_numbers.specs.Number.{AreOctets}
use Rattle.lacing.specs.declared.kind.Lace.{Lace}
use Rattle.lacing.specs.Lace.{FindsLace}
use Rattle.lacing.specs.Reading.{lace_in, sizes_in, with_last}

-- `len` bytes that begin with `front` and continue with zeros. `is_settled` reads a lace in them.
abbrev pub with_zeros : List ℕ → ℕ → List ℕ
with_zeros front len = front ++ replicate (len - length front) 0

-- The result of reading a lace, `found`, is a lace, and its head lies in the first bytes `front`. `is_settled` uses it.
abbrev pub has_head_within : List ℕ → Option (List ℕ × ℕ) → Bool
has_head_within front None = false
has_head_within front (Some (sizes, head)) = nat_le head (length front)

-- The first bytes `front` are enough to know that `len` bytes are a lace of `count` frames of the kind `kind`. With zeros after `front` they are a
-- lace, and its head lies in `front`. The contract of `is_settled` in the code has it.
abbrev pub is_settled : Lace → ℕ → List ℕ → ℕ → Bool
is_settled kind count front len = has_head_within front (lace_in kind count (with_zeros front len))

-- The first bytes `front` are enough to know all sizes of `count` frames of the kind `kind` except the last. They leave the last one a size of 0 or
-- more in `len` bytes. The contract of `settles_sizes` in the code has it.
abbrev pub settles_sizes : Lace → ℕ → List ℕ → ℕ → Bool
settles_sizes kind count front len = has_head_within front (with_last len (sizes_in kind (count - 1) None (with_zeros front len)))

-- The bytes `octets` are a lace of the kind `kind` with `frames` frames, and its head lies in the first bytes `front`. Used by `FrontSettlesLace`.
pub record HasLace (kind : Lace) (frames : ℕ) (front octets : List ℕ) : Type 0 where
  pub sizes : List ℕ
  pub head : ℕ
  pub inside : head ≤ length front
  pub finds : FindsLace kind frames octets sizes head
  pub read : lace_in kind frames octets ≡ Some (sizes, head)

-- If `is_settled` is true for the first bytes `front` of `octets`, then `octets` are a lace of `count` frames of the kind `kind`, whatever follows
-- `front`. The law `the_front_settles_the_lace` states it.
abbrev pub FrontSettlesLace : Type 0
FrontSettlesLace =
    (kind : Lace) (count : ℕ) (front octets : List ℕ) → AreOctets front → front ≡ take (length front) octets
    → is_settled kind count front (length octets) ≡ true → HasLace kind count front octets
