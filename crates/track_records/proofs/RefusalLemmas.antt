-- Damage of a Tracks element, one step at a time.
use Rattle.std.proofs.Common.{◌≡◌, ◌<◌, ℕ, suc, ◌+◌, ◌-◌, ◌==◌, Bool, true, false, not, ◌&&◌, ◌||◌, List, ◌∷◌, length, take, drop, find, get_or, Option, cond, nat_le, nat_lt, nat_cmp, refl, sym, ap, ap₂, subst, ◌∙◌, arith, add-one, eqb-true}
use Rattle.std.proofs.Math.Seq.{drop-cons}
use Rattle.std.proofs.lemmas.Bool.Decides.{nat_tests}
use Rattle.std.specs.List.{list_any, range_with_len}
use Rattle.std.specs.Ordering.{is_eq}
use Rattle.std.specs.declared.cmp.Ordering.TheVariants.{Less, Equal, Greater}
use Rattle.std.proofs.lemmas.List.Folds.{list_any_more}
use Rattle.mkv_schema.specs.declared.ids.TheConstants.{TRACK_NUMBER, DEFAULT_DURATION}
use Rattle.tree_format.specs.Node.{Node, id_of}
use Rattle.tree_format.specs.Changes.{without}
use Rattle.tree_format.specs.Values.{integer_of}
use Rattle.file_format.specs.Refusal.{firsts, is_bad, too_long}
use Rattle.file_format.proofs.FirstLemmas.{find-same, find-without}
use Rattle.track_records.specs.Met.{is_met}

-- The node `n` is invalid, and no node with its ID came before.
abbrev pub is_new_bad : Bool → Bool → Node → Bool
is_new_bad numbered timed n = not (is_met numbered timed (id_of n)) && is_bad n

-- ---- tests

-- A value with the same ID isn't new any more.
same_id : (a b t d z y : Bool) → not (((a || t) && t) || ((b || d) && d)) && ((t && z) || (d && y)) ≡ false
same_id true b true d z y = refl
same_id false b true d z y = refl
same_id true true false true z y = refl
same_id true false false true z y = refl
same_id false true false true z y = refl
same_id false false false true z y = refl
same_id true true false false z y = refl
same_id true false false false z y = refl
same_id false true false false z y = refl
same_id false false false false z y = refl

-- A value with another ID stays new.
other_id : (a u t : Bool) → t && u ≡ false → (a || u) && t ≡ a && t
other_id true u t apart = refl
other_id false true true apart = absurd (cc)
other_id false true false apart = refl
other_id false false t apart = refl

apart_of : (x k c : ℕ) → (x == k) ≡ false → (x == c) && (k == c) ≡ false
apart_of x k c other = grind (arith, nat_tests)

-- After an element, the new ones have other IDs.
new_next : (a b : Bool) (n m : Node) → not (id_of m == id_of n) && is_new_bad a b m ≡ is_new_bad (a || id_of n == TRACK_NUMBER) (b || id_of n == DEFAULT_DURATION) m
new_next a b n m = split (id_of m == id_of n) refl
  where
    split : (p : Bool) → (id_of m == id_of n) ≡ p → not p && is_new_bad a b m ≡ is_new_bad (a || id_of n == TRACK_NUMBER) (b || id_of n == DEFAULT_DURATION) m
    split true is =
        let P : ℕ → Type 0 = λ k. false ≡ not (((a || k == TRACK_NUMBER) && id_of m == TRACK_NUMBER) || ((b || k == DEFAULT_DURATION) && id_of m == DEFAULT_DURATION)) && is_bad m in
        subst P (eqb-true (id_of m) (id_of n) is) (sym (same_id a b (id_of m == TRACK_NUMBER) (id_of m == DEFAULT_DURATION) (integer_of m == 0) (nat_le too_long (integer_of m))))
    split false is =
        ap₂ (λ s t. not (s || t) && is_bad m)
        (sym (other_id a (id_of n == TRACK_NUMBER) (id_of m == TRACK_NUMBER) (apart_of (id_of m) (id_of n) TRACK_NUMBER is)))
        (sym (other_id b (id_of n == DEFAULT_DURATION) (id_of m == DEFAULT_DURATION) (apart_of (id_of m) (id_of n) DEFAULT_DURATION is)))

-- ---- the first bad value

-- The rest of a list begins with its next item.
next-is : (i : ℕ) (ns : List Node) (n : Node) → i < length ns → n ≡ get_or ns i n → drop i ns ≡ n ∷ drop (i + 1) ns
next-is i ns n inside is = drop-cons ns i n inside ∙ rw (add-one, ← is) refl

-- After a child that is valid or not new, the first damage is the same.
pub bad-next : (a b : Bool) (i id : ℕ) (ns : List Node) (n : Node) (all : Option Node) → i < length ns → n ≡ get_or ns i n → id ≡ id_of n → is_new_bad a b n ≡ false → find (is_new_bad a b) (firsts (drop i ns)) ≡ all
    → find (is_new_bad (a || id == TRACK_NUMBER) (b || id == DEFAULT_DURATION)) (firsts (drop (i + 1) ns)) ≡ all
bad-next a b i id ns n all inside is of old same =
    let rest = firsts (drop (i + 1) ns) in
    let step : find (is_new_bad a b) (firsts (drop i ns)) ≡ find (is_new_bad a b) (without (id_of n) rest) =
    ap (λ l. find (is_new_bad a b) (firsts l)) (next-is i ns n inside is) ∙ rw old refl in
    let new = find-same (λ m. not (id_of m == id_of n) && is_new_bad a b m) (is_new_bad (a || id_of n == TRACK_NUMBER) (b || id_of n == DEFAULT_DURATION)) (new_next a b n) rest in
    rw of (sym new ∙ sym (find-without (is_new_bad a b) (id_of n) rest) ∙ sym step ∙ same)

pub met-old : (a b : Bool) (n : Node) (id : ℕ) (met : Bool) → id ≡ id_of n → met ≡ is_met a b id → met ≡ true → is_new_bad a b n ≡ false
met-old a b n id met of is holds = let old : is_met a b (id_of n) ≡ true = rw (← of, ← is) holds in rw old refl

pub good-old : (a b : Bool) (n : Node) (bad : Bool) → bad ≡ is_bad n → bad ≡ false → is_new_bad a b n ≡ false
good-old a b n bad is fails = split (not (is_met a b (id_of n))) (sym is ∙ fails)
  where
    split : (new : Bool) → is_bad n ≡ false → new && is_bad n ≡ false
    split true good = good
    split false good = refl

-- ---- the first repeated number

range-next : (k n : ℕ) → k < n → range_with_len k (n - k) ≡ k ∷ range_with_len (k + 1) (n - (k + 1))
range-next k n inside = let more : n - k ≡ suc (n - (k + 1)) = omega arith in ap (range_with_len k) more

pub find-passes : (p : ℕ → Bool) (k n : ℕ) (all : Option ℕ) → k < n → p k ≡ false → find p (range_with_len k (n - k)) ≡ all → find p (range_with_len (k + 1) (n - (k + 1))) ≡ all
find-passes p k n all inside passes same = sym (ap (find p) (range-next k n inside) ∙ rw passes refl) ∙ same

-- A number equals only itself.
is_eq-nat_cmp : (x q : ℕ) → is_eq (nat_cmp x q) ≡ (x == q)
is_eq-nat_cmp x q = split (nat_lt x q) refl (x == q) refl
  where
    split : (a : Bool) → nat_lt x q ≡ a → (b : Bool) → (x == q) ≡ b → is_eq (cond a Less (cond b Equal Greater)) ≡ b
    split true less true same = absurd (grind (arith, nat_tests))
    split true less false other = refl
    split false more true same = refl
    split false more false other = refl

-- One more number is known.
pub known-next : (numbers : List ℕ) (k q : ℕ) (old new : Bool) → k < length numbers → old ≡ list_any (λ n. n == q) (take k numbers) → new ≡ cond (is_eq (nat_cmp (get_or numbers k 0) q)) true old → new ≡ list_any (λ n. n == q) (take (k + 1) numbers)
known-next numbers k q old new inside before is =
    is ∙ ap₂ (λ t o. cond t true o) (is_eq-nat_cmp (get_or numbers k 0) q) before
    ∙ join (get_or numbers k 0 == q) (list_any (λ n. n == q) (take k numbers))
    ∙ sym (list_any_more (λ n. n == q) numbers k 0 inside)
  where
    join : (t o : Bool) → cond t true o ≡ o || t
    join true true = refl
    join true false = refl
    join false true = refl
    join false false = refl

-- A number that is added isn't repeated.
pub added-new : (added found : Bool) → added ≡ not found → added ≡ true → found ≡ false
added-new added true is new = absurd (cc)
added-new added false is new = refl
