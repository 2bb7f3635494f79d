-- The numbers of tags by TrackUID.
use Rattle.std.proofs.Common.{◌≡◌, ℕ, ◌+◌, ◌==◌, nat_eq, Bool, true, false, ◌||◌, if◌then◌else◌, List, [], ◌∷◌, ◌++◌, length, Result, Ok, Err, OnOk, refl, sym, ◌∙◌, ap, arith}
use Rattle.std.specs.List.{list_any, IsDistinct, AllByRecursion}
use Rattle.std.proofs.lemmas.Bool.{eqb-true}
use Rattle.std.proofs.lemmas.Bool.Decides.{nat_tests}
use Rattle.std.proofs.lemmas.List.Folds.{list_any-append}
use Rattle.std.proofs.lemmas.Map.Keys.{IsDistinct-head}
use Rattle.indexmap.specs.IndexSet.{insert_all, insert_key}
use Rattle.indexmap.specs.IndexMap.{IndexMap}
use Rattle.mkv_schema.specs.declared.ids.TheConstants.{SIMPLE_TAG}
use Rattle.tree_format.specs.Node.{Node, children}
use Rattle.tree_format.specs.Changes.{part}
use Rattle.mkv_info.specs.Tags.{tracks_named}
use Rattle.mkv_info.specs.TagCounts.{AddsFor, CountsTag, tags_of_uid, if_among, uids_named}

-- A number that differs from all isn't among them.
not-among : (u : ℕ) (us : List ℕ) → AllByRecursion (λ (y : ℕ). nat_eq u y ≡ false) us → list_any (nat_eq u) us ≡ false
not-among u [] apart = refl
not-among u (y ∷ ys) apart = ap (λ (a : Bool). a || list_any (nat_eq u) ys) apart.0 ∙ not-among u ys apart.1

-- The counts of the first number and of the rest are those of all.
pub among-next : (u : ℕ) (us : List ℕ) (count uid : ℕ) → IsDistinct nat_eq (u ∷ us) → if_among (u ∷ []) count uid + if_among us count uid ≡ if_among (u ∷ us) count uid
among-next u us count uid apart = by (nat_eq uid u) refl
  where
    by : (same : Bool) → nat_eq uid u ≡ same → (if (same || false) then count else 0) + if_among us count uid ≡ (if (same || list_any (nat_eq uid) us) then count else 0)
    by false is = grind arith
    by true is =
        let none : list_any (nat_eq uid) us ≡ false = ap (λ (n : ℕ). list_any (nat_eq n) us) (eqb-true uid u is) ∙ not-among u us (IsDistinct-head nat_eq u us apart) in
        ap (λ (a : Bool). count + (if a then count else 0)) none ∙ (omega arith)

or_false : (a : Bool) → (a || false) ≡ a
or_false true = refl
or_false false = refl

or_true : (a : Bool) → (a || true) ≡ true
or_true true = refl
or_true false = refl

or_apart : (a b c : Bool) → ((a || b) || c) ≡ (a || (b || c))
or_apart true b c = refl
or_apart false b c = refl

-- A number that is inserted is among the numbers.
among-one : (ks : List ℕ) (k n : ℕ) → list_any (nat_eq n) (insert_key nat_eq ks k) ≡ (list_any (nat_eq n) ks || (k == n))
among-one ks k n = by (list_any (nat_eq k) ks) refl
  where
    same-both : nat_eq n k ≡ (k == n)
    same-both = grind (arith, nat_tests)

    again : list_any (nat_eq k) ks ≡ true → (same : Bool) → (k == n) ≡ same → list_any (nat_eq n) ks ≡ (list_any (nat_eq n) ks || same)
    again there false is_other = sym (or_false (list_any (nat_eq n) ks))
    again there true is_same = (ap (λ (m : ℕ). list_any (nat_eq m) ks) (sym (eqb-true k n is_same)) ∙ there) ∙ sym (or_true (list_any (nat_eq n) ks))

    by : (there : Bool) → list_any (nat_eq k) ks ≡ there → list_any (nat_eq n) (if there then ks else ks ++ k ∷ []) ≡ (list_any (nat_eq n) ks || (k == n))
    by true there = again there (k == n) refl
    by false there = list_any-append (nat_eq n) ks (k ∷ []) ∙ ap (λ (a : Bool). list_any (nat_eq n) ks || a) (or_false (nat_eq n k) ∙ same-both)

-- Numbers that are inserted are among the numbers.
among-all : (n : ℕ) (ks xs : List ℕ) → list_any (nat_eq n) (insert_all nat_eq ks xs) ≡ (list_any (nat_eq n) ks || list_any (λ (x : ℕ). x == n) xs)
among-all n ks [] = sym (or_false (list_any (nat_eq n) ks))
among-all n ks (x ∷ xs) =
    among-all n (insert_key nat_eq ks x) xs
    ∙ ap (λ (a : Bool). a || list_any (λ (y : ℕ). y == n) xs) (among-one ks x n)
    ∙ or_apart (list_any (nat_eq n) ks) (x == n) (list_any (λ (y : ℕ). y == n) xs)

-- The count of the numbers that are inserted is the count of all.
among-inserted : (count n : ℕ) (xs : List ℕ) → if_among (insert_all nat_eq [] xs) count n ≡ (if list_any (λ (x : ℕ). x == n) xs then count else 0)
among-inserted count n xs = ap (λ (a : Bool). if a then count else 0) (among-all n [] xs)

-- A Tag is counted if its count was added for the TrackUIDs that it names.
pub tag-counted : {S T E : Type 0} (result : Result T E) (old new : IndexMap ℕ ℕ S) (uids : List ℕ) (count : ℕ) (tag : Node) → OnOk result (AddsFor old new uids count) → uids ≡ uids_named tag → count ≡ length (part SIMPLE_TAG (children tag)) → OnOk result (CountsTag old new tag)
tag-counted (Err e) old new uids count tag added are is = tt
tag-counted (Ok x) old new uids count tag added are is = λ uid.
    added uid
    ∙ ap (λ (us : List ℕ). tags_of_uid old uid + if_among us count uid) are
    ∙ ap (λ (n : ℕ). tags_of_uid old uid + if_among (uids_named tag) n uid) is
    ∙ ap (λ (n : ℕ). tags_of_uid old uid + n) (among-inserted (length (part SIMPLE_TAG (children tag))) uid (tracks_named tag))
