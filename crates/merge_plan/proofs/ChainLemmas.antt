-- Output tracks of things, by the items of each.
use Rattle.std.proofs.Common.{◌≡◌, ◌≤◌, ◌<◌, ℕ, zero, suc, ◌+◌, Bool, true, false, cond, if◌then◌else◌, List, [], ◌∷◌, ◌++◌, length, map, flat_map, refl, sym, ap, ap₂, ◌∙◌, arith, length-append}
use Rattle.std.specs.List.{All, enumerate_from, slice_get, sum, sum_by, take_while}
use Rattle.std.specs.Option.{option_to_list}
use Rattle.std.proofs.Math.ListN.{length-take}
use Rattle.std.proofs.lemmas.List.{length-map, map-append}
use Rattle.std.proofs.lemmas.List.Elements.{All-nil, All-cons, All-head, All-tail, All-append, All-map, All-take, All-weaker}
use Rattle.std.proofs.lemmas.List.Sums.{sum-map, sum_by-append, sum_by-cons, sum_by-take-le, take_while-cons}
use Rattle.merge_plan.specs.Chains.{at_place, columns_from, lanes_begun, lanes_by}

-- ---- the first items that pass a test

pub while-map : {X Y : Type 0} (p : Y → Bool) (f : X → Y) (xs : List X) → take_while p (map f xs) ≡ map f (take_while (λ x. p (f x)) xs)
while-map p f [] = refl
while-map {X = X} {Y = Y} p f (x ∷ xs) =
    take_while-cons p (f x) (map f xs) ∙ of (p (f x)) (while-map p f xs) ∙ ap (map f) (sym (take_while-cons (λ y. p (f y)) x xs))
  where
    of : (b : Bool) → take_while p (map f xs) ≡ map f (take_while (λ y. p (f y)) xs) → cond b (f x ∷ take_while p (map f xs)) [] ≡ map f (cond b (x ∷ take_while (λ y. p (f y)) xs) [])
    of true rest = ap (λ l. f x ∷ l) rest
    of false rest = refl

while-length : {X : Type 0} (p : X → Bool) (xs : List X) → length (take_while p xs) ≤ length xs
while-length p xs = simp length-take (omega arith)

-- ---- things with their numbers

pub enumerate-map : {X Y : Type 0} (f : X → Y) (n : ℕ) (xs : List X) → enumerate_from n (map f xs) ≡ map (λ (p : ℕ × X). (p.0, f p.1)) (enumerate_from n xs)
enumerate-map f n [] = refl
enumerate-map f n (x ∷ xs) = ap (λ l. (n, f x) ∷ l) (enumerate-map f (n + 1) xs)

pub unnumbered : {X Y : Type 0} (f : X → Y) (n : ℕ) (xs : List X) → map (λ (p : ℕ × X). f p.1) (enumerate_from n xs) ≡ map f xs
unnumbered f n [] = refl
unnumbered f n (x ∷ xs) = ap (λ l. f x ∷ l) (unnumbered f (n + 1) xs)

pub enumerate-push : {X : Type 0} (n : ℕ) (xs : List X) (x : X) → enumerate_from n (xs ++ x ∷ []) ≡ enumerate_from n xs ++ (n + length xs, x) ∷ []
enumerate-push n [] x = let same : n ≡ n + 0 = omega arith in ap (λ m. (m, x) ∷ []) same
enumerate-push n (y ∷ xs) x =
    let same : n + 1 + length xs ≡ n + suc (length xs) = omega arith in
    ap (λ l. (n, y) ∷ l) (enumerate-push (n + 1) xs x ∙ ap (λ m. enumerate_from (n + 1) xs ++ (m, x) ∷ []) same)

pub while-enumerate : {X : Type 0} (p : X → Bool) (n : ℕ) (xs : List X) → take_while (λ (e : ℕ × X). p e.1) (enumerate_from n xs) ≡ enumerate_from n (take_while p xs)
while-enumerate p n [] = refl
while-enumerate {X = X} p n (x ∷ xs) =
    take_while-cons (λ (e : ℕ × X). p e.1) (n, x) (enumerate_from (n + 1) xs) ∙ of (p x) (while-enumerate p (n + 1) xs) ∙ ap (enumerate_from n) (sym (take_while-cons p x xs))
  where
    of : (b : Bool) → take_while (λ (e : ℕ × X). p e.1) (enumerate_from (n + 1) xs) ≡ enumerate_from (n + 1) (take_while p xs)
        → cond b ((n, x) ∷ take_while (λ (e : ℕ × X). p e.1) (enumerate_from (n + 1) xs)) [] ≡ enumerate_from n (cond b (x ∷ take_while p xs) [])
    of true rest = ap (λ l. (n, x) ∷ l) rest
    of false rest = refl

pub enumerate-all : {X : Type 0} (P : X → Type 0) (n : ℕ) (xs : List X) → All P xs → All (λ (e : ℕ × X). P e.1) (enumerate_from n xs)
enumerate-all P n [] all = All-nil _
enumerate-all {X = X} P n (x ∷ xs) all = All-cons (λ (e : ℕ × X). P e.1) (n, x) (enumerate_from (n + 1) xs) (All-head P x xs all) (enumerate-all P (n + 1) xs (All-tail P x xs all))

enumerate-below : {X : Type 0} (most n : ℕ) (xs : List X) → n + length xs ≤ most → All (λ (e : ℕ × X). e.0 < most) (enumerate_from n xs)
enumerate-below {X = X} most n [] few = All-nil (λ (e : ℕ × X). e.0 < most)
enumerate-below {X = X} most n (x ∷ xs) few = All-cons (λ (e : ℕ × X). e.0 < most) (n, x) (enumerate_from (n + 1) xs) (omega arith) (enumerate-below most (n + 1) xs (omega arith))

-- ---- mapped items of a row

module _ {B C : Type 0} (f : B → C) where
  one-map : (place : ℕ) (row : List B) → option_to_list (slice_get (map f row) place) ≡ map f (option_to_list (slice_get row place))
  one-map place [] = refl
  one-map zero (x ∷ row) = refl
  one-map (suc place) (x ∷ row) = one-map place row

  at-map : (place : ℕ) (rows : List (List B)) → at_place place (map (map f) rows) ≡ map f (at_place place rows)
  at-map place [] = refl
  at-map place (row ∷ rows) =
      ap₂ (λ a b. a ++ b) (one-map place row) (at-map place rows) ∙ sym (map-append f (option_to_list (slice_get row place)) (at_place place rows))

  columns-map : (place : ℕ) (row : List B) (rows : List (List B)) → columns_from place (map f row) (map (map f) rows) ≡ map (map f) (columns_from place row rows)
  columns-map place [] rows = refl
  columns-map place (x ∷ row) rows = ap₂ (λ l ls. (f x ∷ l) ∷ ls) (at-map place rows) (columns-map (place + 1) row rows)

-- The output tracks of mapped things are the mapped output tracks.
module _ {X Y B C : Type 0} (appended : Y → Bool) (row : Y → List C) (h : X → Y) (own : X → List B) (f : B → C) (same : (x : X) → row (h x) ≡ map f (own x)) where
  rows-map : (xs : List X) → map row (map h xs) ≡ map (map f) (map own xs)
  rows-map [] = refl
  rows-map (x ∷ xs) = ap₂ (λ l ls. l ∷ ls) (same x) (rows-map xs)

  begun-map : (x : X) (xs : List X) → lanes_begun appended row (h x) (map h xs) ≡ map (map f) (lanes_begun (λ y. appended (h y)) own x xs)
  begun-map x xs = of (appended (h x))
    where
      behind : List X
      behind = take_while (λ y. appended (h y)) xs

      of : (b : Bool) → (if b then [] else columns_from 0 (row (h x)) (map row (take_while appended (map h xs)))) ≡ map (map f) (if b then [] else columns_from 0 (own x) (map own (take_while (λ y. appended (h y)) xs)))
      of true = refl
      of false = ap₂ (columns_from 0) (same x) (ap (map row) (while-map appended h xs) ∙ rows-map (take_while (λ y. appended (h y)) xs)) ∙ columns-map f 0 (own x) (map own (take_while (λ y. appended (h y)) xs))

  pub lanes-map : (xs : List X) → lanes_by appended row (map h xs) ≡ map (map f) (lanes_by (λ y. appended (h y)) own xs)
  lanes-map [] = refl
  lanes-map (x ∷ xs) =
      ap₂ (λ a b. a ++ b) (begun-map x xs) (lanes-map xs) ∙ sym (map-append (map f) (lanes_begun (λ y. appended (h y)) own x xs) (lanes_by (λ y. appended (h y)) own xs))

-- ---- the first item of each output track

-- the items that begin output tracks
abbrev pub begins : {A B : Type 0} → (A → Bool) → (A → List B) → A → List B
begins appended row x = if appended x then [] else row x

module _ {A B C : Type 0} (appended : A → Bool) (row : A → List B) (g : List B → C) (h : B → C) (first : (x : B) (xs : List B) → g (x ∷ xs) ≡ h x) where
  columns-first : (place : ℕ) (own : List B) (rows : List (List B)) → map g (columns_from place own rows) ≡ map h own
  columns-first place [] rows = refl
  columns-first place (x ∷ own) rows = ap₂ (λ a b. a ∷ b) (first x (at_place place rows)) (columns-first (place + 1) own rows)

  begun-first : (x : A) (xs : List A) → map g (lanes_begun appended row x xs) ≡ map h (begins appended row x)
  begun-first x xs = of (appended x)
    where
      of : (b : Bool) → map g (if b then [] else columns_from 0 (row x) (map row (take_while appended xs))) ≡ map h (if b then [] else row x)
      of true = refl
      of false = columns-first 0 (row x) (map row (take_while appended xs))

  pub lanes-first : (xs : List A) → map g (lanes_by appended row xs) ≡ map h (flat_map (begins appended row) xs)
  lanes-first [] = refl
  lanes-first (x ∷ xs) =
      map-append g (lanes_begun appended row x xs) (lanes_by appended row xs)
      ∙ ap₂ (λ a b. a ++ b) (begun-first x xs) (lanes-first xs)
      ∙ sym (map-append h (begins appended row x) (flat_map (begins appended row) xs))

-- ---- a fact of each item

module _ {B : Type 0} (P : B → Type 0) where
  one-all : (place : ℕ) (row : List B) → All P row → All P (option_to_list (slice_get row place))
  one-all place [] all = All-nil P
  one-all zero (x ∷ row) all = All-cons P x [] (All-head P x row all) (All-nil P)
  one-all (suc place) (x ∷ row) all = one-all place row (All-tail P x row all)

  at-all : (place : ℕ) (rows : List (List B)) → All (All P) rows → All P (at_place place rows)
  at-all place [] all = All-nil P
  at-all place (row ∷ rows) all =
      All-append P (option_to_list (slice_get row place)) (at_place place rows) (one-all place row (All-head (All P) row rows all)) (at-all place rows (All-tail (All P) row rows all))

  columns-all : (place : ℕ) (own : List B) (rows : List (List B)) → All P own → All (All P) rows → All (All P) (columns_from place own rows)
  columns-all place [] rows here behind = All-nil (All P)
  columns-all place (x ∷ own) rows here behind =
      All-cons (All P) (x ∷ at_place place rows) (columns_from (place + 1) own rows)
      (All-cons P x (at_place place rows) (All-head P x own here) (at-all place rows behind)) (columns-all (place + 1) own rows (All-tail P x own here) behind)

  module _ {A : Type 0} (appended : A → Bool) (row : A → List B) (Q : A → Type 0) (each : (x : A) → Q x → All P (row x)) where
    begun-all : (x : A) (xs : List A) → Q x → All Q xs → All (All P) (lanes_begun appended row x xs)
    begun-all x xs one rest = of (appended x)
      where
        of : (b : Bool) → All (All P) (if b then [] else columns_from 0 (row x) (map row (take_while appended xs)))
        of true = All-nil (All P)
        of false = columns-all 0 (row x) (map row (take_while appended xs)) (each x one) (All-map (All P) row (take_while appended xs) (All-weaker Q (λ y. All P (row y)) each (take_while appended xs) (All-take Q _ xs rest)))

    pub lanes-all : (xs : List A) → All Q xs → All (All P) (lanes_by appended row xs)
    lanes-all [] all = All-nil (All P)
    lanes-all (x ∷ xs) all =
        All-append (All P) (lanes_begun appended row x xs) (lanes_by appended row xs) (begun-all x xs (All-head Q x xs all) (All-tail Q x xs all)) (lanes-all xs (All-tail Q x xs all))

-- ---- the number of links of an output track

one-few : {B : Type 0} (place : ℕ) (row : List B) → length (option_to_list (slice_get row place)) ≤ 1
one-few place [] = omega arith
one-few zero (x ∷ row) = omega arith
one-few (suc place) (x ∷ row) = one-few place row

at-few : {B : Type 0} (place : ℕ) (rows : List (List B)) → length (at_place place rows) ≤ length rows
at-few place [] = omega arith
at-few {B = B} place (row ∷ rows) =
    let here = one-few place row in
    let behind = at-few place rows in
    simp (length-append {A = B}) (omega arith)

module _ {A B : Type 0} (appended : A → Bool) (row : A → List B) where
  columns-few : (most place : ℕ) (own : List B) (rows : List (List B)) → suc (length rows) ≤ most → All (λ (lane : List B). length lane ≤ most) (columns_from place own rows)
  columns-few most place [] rows few = All-nil (λ (lane : List B). length lane ≤ most)
  columns-few most place (x ∷ own) rows few =
      let here = at-few place rows in
      All-cons (λ (lane : List B). length lane ≤ most) (x ∷ at_place place rows) (columns_from (place + 1) own rows) (omega arith) (columns-few most (place + 1) own rows few)

  pub lanes-few : (xs : List A) → All (λ (lane : List B). length lane ≤ length xs) (lanes_by appended row xs)
  lanes-few [] = All-nil (λ (lane : List B). length lane ≤ 0)
  lanes-few (x ∷ xs) =
      All-append (λ (lane : List B). length lane ≤ suc (length xs)) (lanes_begun appended row x xs) (lanes_by appended row xs) (of (appended x))
      (All-weaker (λ (lane : List B). length lane ≤ length xs) (λ (lane : List B). length lane ≤ suc (length xs)) (λ lane few. omega arith) (lanes_by appended row xs) (lanes-few xs))
    where
      of : (b : Bool) → All (λ (lane : List B). length lane ≤ suc (length xs)) (if b then [] else columns_from 0 (row x) (map row (take_while appended xs)))
      of true = All-nil (λ (lane : List B). length lane ≤ suc (length xs))
      of false =
          let many : length (map row (take_while appended xs)) ≡ length (take_while appended xs) = length-map (take_while appended xs) row in
          let few = while-length appended xs in
          columns-few (suc (length xs)) 0 (row x) (map row (take_while appended xs)) (omega arith)

-- ---- the total weight of an output track's links

one-light : {B : Type 0} (weight : B → ℕ) (most place : ℕ) (row : List B) → All (λ b. weight b ≤ most) row → sum_by weight (option_to_list (slice_get row place)) ≤ most
one-light weight most place [] light = omega arith
one-light weight most zero (x ∷ row) light = omega (arith, All-head (λ b. weight b ≤ most) x row light)
one-light weight most (suc place) (x ∷ row) light = one-light weight most place row (All-tail (λ b. weight b ≤ most) x row light)

module _ {A B : Type 0} (appended : A → Bool) (row : A → List B) (weight : B → ℕ) (most : A → ℕ) (light : (x : A) → All (λ b. weight b ≤ most x) (row x)) where
  at-light : (place : ℕ) (xs : List A) → sum_by weight (at_place place (map row xs)) ≤ sum_by most xs
  at-light place [] = omega arith
  at-light place (x ∷ xs) =
      let here = one-light weight (most x) place (row x) (light x) in
      let behind = at-light place xs in
      let left = sum_by-append weight (option_to_list (slice_get (row x) place)) (at_place place (map row xs)) in
      let right = sum_by-cons most x xs in
      omega arith

  columns-light : (whole first place : ℕ) (own : List B) (xs : List A) → All (λ b. weight b ≤ first) own → first + sum_by most xs ≤ whole → All (λ (lane : List B). sum_by weight lane ≤ whole) (columns_from place own (map row xs))
  columns-light whole first place [] xs each fits = All-nil (λ (lane : List B). sum_by weight lane ≤ whole)
  columns-light whole first place (b ∷ own) xs each fits =
      let here = All-head (λ b. weight b ≤ first) b own each in
      let behind = at-light place xs in
      let lane = sum_by-cons weight b (at_place place (map row xs)) in
      All-cons (λ (lane : List B). sum_by weight lane ≤ whole) (b ∷ at_place place (map row xs)) (columns_from (place + 1) own (map row xs)) (omega arith)
      (columns-light whole first (place + 1) own xs (All-tail (λ b. weight b ≤ first) b own each) fits)

  pub lanes-light : (xs : List A) → All (λ (lane : List B). sum_by weight lane ≤ sum_by most xs) (lanes_by appended row xs)
  lanes-light [] = All-nil (λ (lane : List B). sum_by weight lane ≤ 0)
  lanes-light (x ∷ xs) =
      let whole = sum_by-cons most x xs in
      All-append (λ (lane : List B). sum_by weight lane ≤ sum_by most (x ∷ xs)) (lanes_begun appended row x xs) (lanes_by appended row xs) (of (appended x))
      (All-weaker (λ (lane : List B). sum_by weight lane ≤ sum_by most xs) (λ (lane : List B). sum_by weight lane ≤ sum_by most (x ∷ xs)) (λ lane fits. omega arith) (lanes_by appended row xs) (lanes-light xs))
    where
      of : (b : Bool) → All (λ (lane : List B). sum_by weight lane ≤ sum_by most (x ∷ xs)) (if b then [] else columns_from 0 (row x) (map row (take_while appended xs)))
      of true = All-nil (λ (lane : List B). sum_by weight lane ≤ sum_by most (x ∷ xs))
      of false =
          let few : sum_by most (take_while appended xs) ≤ sum_by most xs = sum_by-take-le most xs _ in
          let whole = sum_by-cons most x xs in
          columns-light (sum_by most (x ∷ xs)) (most x) 0 (row x) (take_while appended xs) (light x) (omega arith)

-- Numbering things doesn't change their total weight.
pub enumerate-sum : {X : Type 0} (weight : X → ℕ) (n : ℕ) (xs : List X) → sum_by (λ (e : ℕ × X). weight e.1) (enumerate_from n xs) ≡ sum_by weight xs
enumerate-sum {X = X} weight n xs = sym (sum-map (λ (e : ℕ × X). weight e.1) (enumerate_from n xs)) ∙ ap sum (unnumbered weight n xs) ∙ sum-map weight xs

-- ---- if nothing is appended

columns-alone : {B : Type 0} (place : ℕ) (own : List B) → columns_from place own [] ≡ map (λ b. b ∷ []) own
columns-alone place [] = refl
columns-alone place (x ∷ own) = ap (λ l. (x ∷ []) ∷ l) (columns-alone (place + 1) own)

-- ---- numbers

-- The numbers of inputs in output tracks are below the number of the next input.
pub numbers-below : {A : Type 0} (appended : ℕ × A → Bool) (row : ℕ × A → List ℕ) → ((e : ℕ × A) → All (λ m. m ≡ e.0) (row e)) → (n most : ℕ) (xs : List A) → n + length xs ≤ most
    → All (All (λ m. m < most)) (lanes_by appended row (enumerate_from n xs))
numbers-below {A = A} appended row own n most xs few =
    lanes-all (λ m. m < most) appended row (λ (e : ℕ × A). e.0 < most) (λ e below. All-weaker (λ m. m ≡ e.0) (λ m. m < most) (λ m is. omega arith) (row e) (own e)) (enumerate_from n xs) (enumerate-below most n xs few)
