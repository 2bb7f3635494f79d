-- A list can be sorted stably in only one way.
use Rattle.std.proofs.Common.{◌≡◌, ℕ, suc, ◌<◌, ◌≤◌, Bool, true, false, not, ◌&&◌, cond, nat_lt, List, [], ◌∷◌, length, get_or, refl, sym, subst, arith, le_refl, inl, inr}
use Rattle.std.proofs.lemmas.Bool.Decides.{nat_tests}
use Rattle.std.proofs.lemmas.Bool.{cases_lt}
use Rattle.std.specs.Prelude.{◌==◌}
use Rattle.std.specs.List.{filter}
use Rattle.std.specs.List.Sorted.{ties, IsStableByKey, IsNonDecreasingBy}
use Rattle.std.specs.Ordering.{is_lt, nat_cmp}
use Rattle.mkv_io.specs.Sorted.{insert_by, sorted_by}

-- Each key in the list is at least `k`.
abbrev pub Above : {X : Type 0} → (X → ℕ) → ℕ → List X → Type 0
Above key k [] = Unit {0}
Above key k (y ∷ ys) = (k ≤ key y) × Above key k ys

abbrev pub Ascends : {X : Type 0} → (X → ℕ) → List X → Type 0
Ascends key [] = Unit {0}
Ascends key (y ∷ ys) = Above key (key y) ys × Ascends key ys

abbrev pub is_tie : {X : Type 0} → (X → ℕ) → X → X → Bool
is_tie key = ties (λ x y. is_lt (nat_cmp (key x) (key y)))

abbrev tie_of : ℕ → ℕ → Bool
tie_of a b = not (is_lt (nat_cmp a b)) && not (is_lt (nat_cmp b a))

below_nat : (a b : ℕ) → a < b → tie_of a b ≡ (a == b)
below_nat a b h = let n : nat_lt a b ≡ true = grind (arith, nat_tests) in let m : (a == b) ≡ false = grind (arith, nat_tests) in rw (n, m) refl

and_no : (u v : Bool) → v ≡ false → (u && v) ≡ false
and_no true v e = e
and_no false v e = refl

above_nat : (a b : ℕ) → b < a → tie_of a b ≡ (a == b)
above_nat a b h =
    let n : nat_lt b a ≡ true = grind (arith, nat_tests) in
    let m : not (is_lt (nat_cmp b a)) ≡ false = rw n refl in
    let e : (a == b) ≡ false = grind (arith, nat_tests) in
    let z = and_no (not (is_lt (nat_cmp a b))) (not (is_lt (nat_cmp b a))) m in
    cc

same_nat : (a b : ℕ) → a ≡ b → tie_of a b ≡ (a == b)
same_nat a b e =
    let n : nat_lt a b ≡ false = grind (arith, nat_tests) in
    let m : nat_lt b a ≡ false = grind (arith, nat_tests) in
    let t : (a == b) ≡ true = grind (arith, nat_tests) in
    let u : (b == a) ≡ true = grind (arith, nat_tests) in
    rw (n, m, t, u) refl

tie_is : (a b : ℕ) → tie_of a b ≡ (a == b)
tie_is a b = elim (cases_lt a b) [ inl h ↦ below_nat a b h | inr h ↦ elim (cases_lt b a) [ inl g ↦ above_nat a b g | inr g ↦ same_nat a b (omega arith) ] ]

module _ {X : Type 0} (key : X → ℕ) where
  -- the elements with key `k`
  abbrev with_key : ℕ → List X → List X
  with_key k [] = []
  with_key k (y ∷ ys) = cond (k == key y) (y ∷ with_key k ys) (with_key k ys)

  with_none : (j k : ℕ) (ys : List X) → j < k → Above key k ys → with_key j ys ≡ []
  with_none j k [] less above = refl
  with_none j k (y ∷ ys) less above =
      let no_tie : (j == key y) ≡ false = grind (arith, nat_tests, above.0) in
      rw no_tie (with_none j k ys less above.1)

  -- ---- inserting keeps the elements of each key
  insert_cases : (x y : X) (ys : List X) (j : ℕ) (b t u : Bool) → nat_lt (key y) (key x) ≡ b → (j == key x) ≡ t → (j == key y) ≡ u →
      with_key j (insert_by key x ys) ≡ with_key j (x ∷ ys) → with_key j (insert_by key x (y ∷ ys)) ≡ with_key j (x ∷ y ∷ ys)
  insert_cases x y ys j false t u e f g rest = rw e refl
  insert_cases x y ys j true true true e f g rest = absurd (grind (arith, nat_tests))
  insert_cases x y ys j true true false e f g rest = let r = rw f at rest in rw (e, g, f) r
  insert_cases x y ys j true false true e f g rest = let r = rw f at rest in rw (e, g, f, r) refl
  insert_cases x y ys j true false false e f g rest = let r = rw f at rest in rw (e, g, f) r

  insert_with : (x : X) (ys : List X) (j : ℕ) → with_key j (insert_by key x ys) ≡ with_key j (x ∷ ys)
  insert_with x [] j = refl
  insert_with x (y ∷ ys) j = insert_cases x y ys j (nat_lt (key y) (key x)) (j == key x) (j == key y) refl refl refl (insert_with x ys j)

  more_with : (x : X) (ys zs : List X) (j : ℕ) → with_key j ys ≡ with_key j zs → with_key j (x ∷ ys) ≡ with_key j (x ∷ zs)
  more_with x ys zs j e = rw e refl

  sorted_with : (xs : List X) (j : ℕ) → with_key j (sorted_by key xs) ≡ with_key j xs
  sorted_with [] j = refl
  sorted_with (x ∷ xs) j =
      let a = insert_with x (sorted_by key xs) j in
      let b = more_with x (sorted_by key xs) xs j (sorted_with xs j) in
      cc (a, b)

  -- ---- inserting keeps the order
  insert_above_cases : (k : ℕ) (x y : X) (ys : List X) (b : Bool) → nat_lt (key y) (key x) ≡ b → k ≤ key x → Above key k (y ∷ ys) →
      Above key k (insert_by key x ys) → Above key k (insert_by key x (y ∷ ys))
  insert_above_cases k x y ys true e le above rest = rw e (above.0, rest)
  insert_above_cases k x y ys false e le above rest = rw e (le, above)

  insert_above : (k : ℕ) (x : X) (ys : List X) → k ≤ key x → Above key k ys → Above key k (insert_by key x ys)
  insert_above k x [] le above = (le, tt)
  insert_above k x (y ∷ ys) le above = insert_above_cases k x y ys (nat_lt (key y) (key x)) refl le above (insert_above k x ys le above.1)

  lower : (j k : ℕ) (ys : List X) → j ≤ k → Above key k ys → Above key j ys
  lower j k [] le above = tt
  lower j k (y ∷ ys) le above = (let a = above.0 in omega arith, lower j k ys le above.1)

  insert_ascends_cases : (x y : X) (ys : List X) (b : Bool) → nat_lt (key y) (key x) ≡ b → Ascends key (y ∷ ys) →
      Ascends key (insert_by key x ys) → Ascends key (insert_by key x (y ∷ ys))
  insert_ascends_cases x y ys true e asc rest =
      let le : key y ≤ key x = grind (arith, nat_tests) in
      rw e (insert_above (key y) x ys le asc.0, rest)
  insert_ascends_cases x y ys false e asc rest =
      let le : key x ≤ key y = grind (arith, nat_tests) in
      rw e ((le, lower (key x) (key y) ys le asc.0), asc)

  insert_ascends : (x : X) (ys : List X) → Ascends key ys → Ascends key (insert_by key x ys)
  insert_ascends x [] asc = (tt, tt)
  insert_ascends x (y ∷ ys) asc = insert_ascends_cases x y ys (nat_lt (key y) (key x)) refl asc (insert_ascends x ys asc.1)

  sorted_ascends : (xs : List X) → Ascends key (sorted_by key xs)
  sorted_ascends [] = tt
  sorted_ascends (x ∷ xs) = insert_ascends x (sorted_by key xs) (sorted_ascends xs)

  -- ---- only one such list exists
  self : (y : X) (ys : List X) → with_key (key y) (y ∷ ys) ≡ y ∷ with_key (key y) ys
  self y ys = let e : (key y == key y) ≡ true = grind (arith, nat_tests) in rw e refl

  first_missing : (y z : X) (ys zs : List X) → Ascends key (z ∷ zs) → key y < key z → with_key (key y) (y ∷ ys) ≡ with_key (key y) (z ∷ zs) → ⊥
  first_missing y z ys zs asc less e =
      let none = with_none (key y) (key z) (z ∷ zs) less (le_refl (key z), asc.0) in
      let s = self y ys in cc

  tails_cases : (y : X) (ys zs : List X) (j : ℕ) (b : Bool) → (j == key y) ≡ b → with_key j (y ∷ ys) ≡ with_key j (y ∷ zs) → with_key j ys ≡ with_key j zs
  tails_cases y ys zs j true e h = let g = rw e at h in cc
  tails_cases y ys zs j false e h = rw e at h

  firsts : (y z : X) (ys zs : List X) → key y ≡ key z → with_key (key y) (y ∷ ys) ≡ with_key (key y) (z ∷ zs) → y ≡ z
  firsts y z ys zs e h =
      let s = self y ys in let t = self z zs in
      let h2 : with_key (key z) (y ∷ ys) ≡ with_key (key z) (z ∷ zs) = subst (λ (j : ℕ). with_key j (y ∷ ys) ≡ with_key j (z ∷ zs)) e h in
      let s2 : with_key (key z) (y ∷ ys) ≡ y ∷ with_key (key z) ys = subst (λ (j : ℕ). with_key j (y ∷ ys) ≡ y ∷ with_key j ys) e s in
      cc

  same_lists : (ys zs : List X) → Ascends key ys → Ascends key zs → ((j : ℕ) → with_key j ys ≡ with_key j zs) → ys ≡ zs
  same_lists [] [] a b h = refl
  same_lists [] (z ∷ zs) a b h = let s = self z zs in let e = h (key z) in absurd (cc)
  same_lists (y ∷ ys) [] a b h = let s = self y ys in let e = h (key y) in absurd (cc)
  same_lists (y ∷ ys) (z ∷ zs) a b h =
      elim (cases_lt (key y) (key z)) [
        | inl less ↦ absurd (first_missing y z ys zs b less (h (key y)))
        | inr over ↦ elim (cases_lt (key z) (key y)) [
          | inl less ↦ absurd (first_missing z y zs ys a less (sym (h (key z))))
          | inr under ↦
              let first : y ≡ z = firsts y z ys zs (omega arith) (h (key y)) in
              let moved : (j : ℕ) → with_key j (y ∷ ys) ≡ with_key j (y ∷ zs) = λ j. let e = h j in rw (← first) at e in
              let rest = same_lists ys zs a.1 b.1 (λ j. tails_cases y ys zs j (j == key y) refl (moved j)) in
              cc
        ]
      ]

  -- ---- sorting
  filter_with : (x : X) (ys : List X) → filter (is_tie key x) ys ≡ with_key (key x) ys
  filter_with x [] = refl
  filter_with x (y ∷ ys) = rw (tie_is (key x) (key y), filter_with x ys) refl

  above_index : (k : ℕ) (ys : List X) → ((j : ℕ) (d : X) → j < length ys → k ≤ key (get_or ys j d)) → Above key k ys
  above_index k [] h = tt
  above_index k (y ∷ ys) h = (h 0 y (omega arith), above_index k ys (λ j d less. h (suc j) d (omega arith)))

  ascends_index : (ys : List X) → IsNonDecreasingBy key ys → Ascends key ys
  ascends_index [] h = tt
  ascends_index (y ∷ ys) h = (
    above_index (key y) ys (λ j d less. h 0 (suc j) d (omega arith) (omega arith)),
    ascends_index ys (λ i j d le less. h (suc i) (suc j) d (omega arith) (omega arith)),
  )

  -- A list that is sorted stably is the sorted list.
  pub stable_sorted : ((j : ℕ) → (x : X) × (key x ≡ j)) → (xs ys : List X) → IsStableByKey key nat_cmp xs ys → IsNonDecreasingBy key ys → ys ≡ sorted_by key xs
  stable_sorted at xs ys stable rises =
      same_lists ys (sorted_by key xs) (ascends_index ys rises) (sorted_ascends xs)
      (λ j. let x = (at j).0 in
      let e : key x ≡ j = (at j).1 in
      let s : with_key (key x) ys ≡ with_key (key x) xs = (let a = filter_with x ys in let b = filter_with x xs in let f = stable x in cc) in
      let t : with_key j ys ≡ with_key j xs = subst (λ (i : ℕ). with_key i ys ≡ with_key i xs) e s in
      let r = sorted_with xs j in cc)
