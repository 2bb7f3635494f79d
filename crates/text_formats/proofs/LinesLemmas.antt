-- Lines taken off one by one.
use Rattle.std.proofs.Common.{◌≡◌, ℕ, ◌+◌, ◌<◌, Bool, true, false, cond, nat_lt, List, [], ◌∷◌, length, take, drop, Some, None, refl, arith}
use Rattle.std.proofs.lemmas.Grind.{common_steps}
use Rattle.std.proofs.lemmas.Bool.Decides.{nat_tests}
use Rattle.std.proofs.lemmas.List.Splits.{slice_split_first, length-slice_split}
use Rattle.std.specs.Prelude.{◌==◌}
use Rattle.std.specs.List.{slice_split, position, position_or_len}
use Rattle.std.specs.Str.Lines.{lines, lines_of_parts, strip_carriage_return}
use Rattle.lemmas.proofs.PlainLemmas.{lines-more as part_more}

abbrev pub is_lf : ℕ → Bool
is_lf b = b == 10

first_at : (w : List ℕ) → position_or_len is_lf w < length w → lines w ≡ strip_carriage_return (take (position_or_len is_lf w) w) ∷ lines (drop (position_or_len is_lf w + 1) w)
first_at w within =
    let k = position_or_len is_lf w in
    let split = slice_split_first is_lf w 0 within in
    let some : 0 < length (slice_split is_lf (drop (k + 1) w)) = omega (arith, length-slice_split is_lf (drop (k + 1) w)) in
    rw split (part_more (take k w) (slice_split is_lf (drop (k + 1) w)) some)

first_cases : (w : List ℕ) (i : ℕ) (b : Bool) → nat_lt (position_or_len is_lf w) (length w) ≡ b → cond b (Some (position_or_len is_lf w)) None ≡ Some i →
    lines w ≡ strip_carriage_return (take i w) ∷ lines (drop (i + 1) w)
first_cases w i true is e =
    let same : position_or_len is_lf w ≡ i = cc in
    let within : position_or_len is_lf w < length w = grind (arith, nat_tests) in
    let h = first_at w within in
    rw same at h
first_cases w i false is e = cc

-- The first line ends at the first line feed.
pub lines_first : (w : List ℕ) (i : ℕ) → position is_lf w ≡ Some i → lines w ≡ strip_carriage_return (take i w) ∷ lines (drop (i + 1) w)
lines_first w i e = first_cases w i (nat_lt (position_or_len is_lf w) (length w)) refl e

module _ (p : ℕ → Bool) where
  alone_cases : (x : ℕ) (xs : List ℕ) (b : Bool) → p x ≡ b → nat_lt (position_or_len p (x ∷ xs)) (length (x ∷ xs)) ≡ false →
      (nat_lt (position_or_len p xs) (length xs) ≡ false → slice_split p xs ≡ xs ∷ []) →
      slice_split p (x ∷ xs) ≡ (x ∷ xs) ∷ []
  alone_cases x xs true is none rest = let h = rw is at none in absurd (grind (arith, nat_tests, h))
  alone_cases x xs false is none rest =
      let h = rw is at none in
      let inner : nat_lt (position_or_len p xs) (length xs) ≡ false = grind (arith, nat_tests, h) in
      rw (is, rest inner)

  split_none : (xs : List ℕ) → nat_lt (position_or_len p xs) (length xs) ≡ false → slice_split p xs ≡ xs ∷ []
  split_none [] none = refl
  split_none (x ∷ xs) none = alone_cases x xs (p x) refl none (λ inner. split_none xs inner)

last_part : (w : List ℕ) → 0 < length w → lines_of_parts (w ∷ []) ≡ w ∷ []
last_part [] some = absurd (omega arith)
last_part (b ∷ bs) some = grind (arith, common_steps)

last_cases : (w : List ℕ) (b : Bool) → nat_lt (position_or_len is_lf w) (length w) ≡ b → cond b (Some (position_or_len is_lf w)) None ≡ None → 0 < length w → lines w ≡ w ∷ []
last_cases w true is e some = cc
last_cases w false is e some = rw (split_none is_lf w is) (last_part w some)

-- Text without a line feed is one line.
pub lines_last : (w : List ℕ) → position is_lf w ≡ None → 0 < length w → lines w ≡ w ∷ []
lines_last w e some = last_cases w (nat_lt (position_or_len is_lf w) (length w)) refl e some

pub drop_all : (w : List ℕ) → lines (drop (length w) w) ≡ []
drop_all w = let none : drop (length w) w ≡ [] = grind (arith, common_steps) in rw none refl
