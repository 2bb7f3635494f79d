-- Statements over plain lists, options, numbers and Booleans, which several crates cite.
use Rattle.std.specs.List.{All, concat, list_all}
use Rattle.std.proofs.Common.{Bool, Err, List, None, Ok, OnOk, Option, Result, Some, [], ap, arith, drop, false, get_or, length, map, nat_abs, refl, rules, subst, suc, sum, sym, true, unwrap_or, zero, ℕ, ℤ, ◌&&◌, ◌+ℤ◌, ◌+◌, ◌-◌, ◌<◌, ◌==◌, ◌||◌, ◌∙◌, ◌∷◌, ◌≡◌, ◌≢◌, ◌≤◌}
use Rattle.std.specs.Prelude.{IfOk, slice_get, ◌-ℤ◌}
use Rattle.std.proofs.lemmas.Str.Parse.{IsNumeralModel, numerals_by_value}
use Rattle.std.specs.Str.{bytes_eq}
use Rattle.std.proofs.lemmas.Slice.Eq.{bytes_eq-Decides}
use Rattle.std.specs.Str.Parse.{digits_value}
use Rattle.std.proofs.lemmas.List.{drop_more, length-append}
use Rattle.std.proofs.lemmas.Bool.{false_from_ne_true}
use Rattle.std.proofs.lemmas.Option.{get_or_from_slice_get, slice_get_within}
use Rattle.std.proofs.lemmas.Int.{ints}
use Rattle.std.specs.Char.{is_ascii_digit}
use Rattle.std.specs.Str.Lines.{lines_of_parts, strip_carriage_return}
use Rattle.std.proofs.lemmas.Bool.Decides.{nat_tests}
use Rattle.std.specs.Option.{option_map, option_map_or}
use Rattle.std.proofs.lemmas.List.Sums.{sum_by-cons}

pub map-none : {A B : Type 0} (g : A → B) (o : Option A) → option_map g o ≡ None → o ≡ None
map-none g None is = refl
map-none g (Some x) is = absurd (cc)

pub both-true : (a b : Bool) → (a && b) ≡ true → (a ≡ true) × (b ≡ true)
both-true true b is = (refl, is)
both-true false b is = absurd (cc)

pub differ-false : (a b : ℕ) → a ≢ b → (a == b) ≡ false
differ-false a b other = grind (arith, nat_tests)

pub or-true : (a : Bool) → (a || true) ≡ true
or-true true = refl
or-true false = refl

-- The length of joined frames is the sum of their lengths.
pub length-concat : (frames : List (List ℕ)) → length (concat frames) ≡ sum (map length frames)
length-concat [] = refl
length-concat (f ∷ fs) = length-append f (concat fs) ∙ ap (λ n. length f + n) (length-concat fs) ∙ sym (sum_by-cons (λ x. x) (length f) (map length fs))

pub lines-more : (x : List ℕ) (parts : List (List ℕ)) → 0 < length parts → lines_of_parts (x ∷ parts) ≡ strip_carriage_return x ∷ lines_of_parts parts
lines-more x [] some = absurd (omega arith)
lines-more x (y ∷ more) some = refl

pub neither-true : (a b : Bool) → (a || b) ≡ false → (a ≡ false) × (b ≡ false)
neither-true true b none = absurd (cc)
neither-true false b none = (refl, none)

pub bytes_eq-differ : (a b : List ℕ) → a ≢ b → bytes_eq a b ≡ false
bytes_eq-differ a b other = false_from_ne_true (bytes_eq a b) (λ is. other ((bytes_eq-Decides a b).0 is))

pub abs-add : (a b : ℤ) → nat_abs (a +ℤ b) ≤ nat_abs a + nat_abs b
abs-add a b = grind (arith, ints)

pub abs-sub : (x y : ℤ) → nat_abs (x -ℤ y) ≤ nat_abs x + nat_abs y
abs-sub x y = omega (arith, ints)

pub decimal-numeral : IsNumeralModel (λ ds. list_all is_ascii_digit ds ≡ true) (digits_value 10)
decimal-numeral = numerals_by_value (λ ds. list_all is_ascii_digit ds ≡ true) (search rules)

-- If element `i` of `xs` exists, it is the first element of `drop i xs`.
pub drop-some : {X : Type 0} (xs : List X) (i : ℕ) (x : X) → slice_get xs i ≡ Some x → drop i xs ≡ x ∷ drop (suc i) xs
drop-some [] i x e = cc
drop-some (y ∷ ys) zero x e = let same : y ≡ x = cc in rw same
drop-some (y ∷ ys) (suc i) x e = drop-some ys i x e

-- `drop k xs` is element `k` and then `drop (k + 1) xs`.
pub drop-get_or : {A : Type 0} (xs : List A) (k : ℕ) (x : A) → k < length xs → x ≡ get_or xs k x → drop k xs ≡ x ∷ drop (k + 1) xs
drop-get_or xs k x below is = drop_more xs k x below ∙ ap (λ y. y ∷ drop (k + 1) xs) (sym is)

pub drop-none : {X : Type 0} (xs : List X) (k : ℕ) → slice_get xs k ≡ None → drop k xs ≡ []
drop-none [] zero is = refl
drop-none [] (suc k) is = refl
drop-none (y ∷ ys) zero is = cc
drop-none (y ∷ ys) (suc k) is = drop-none ys k is

pub All-get : {X : Type 0} (P : X → Type 0) (xs : List X) (k : ℕ) (x : X) → All P xs → slice_get xs k ≡ Some x → P x
All-get P xs k x all is = subst P (get_or_from_slice_get xs k x x is) (all k x (slice_get_within xs k x is))

pub map-or : {A B : Type 0} (f : A → B) (o : Option A) (d : B) → option_map_or f o d ≡ unwrap_or (option_map f o) d
map-or f None d = refl
map-or f (Some x) d = refl

-- If a result satisfies `P`, and `P` implies `Q`, the result satisfies `Q`.
pub IfOk-map : {T E : Type 0} (P Q : T → Type 0) (r : Result T E) → ((x : T) → P x → Q x) → IfOk r P → IfOk r Q
IfOk-map P Q (Ok x) so has = so x has
IfOk-map P Q (Err e) so has = tt

-- The consequence of a successful result may be weakened.
pub OnOk-map : {T E A B : Type 0} (result : Result T E) → (A → B) → OnOk result A → OnOk result B
OnOk-map (Ok value) gives holds = gives holds
OnOk-map (Err fault) gives holds = tt
