-- The children of an ID, and of every other, after a change.
use Rattle.std.proofs.Common.{◌≡◌, ◌⊎◌, inl, inr, ℕ, ◌+◌, ◌==◌, nat_lt, Bool, true, false, not, cond, List, [], ◌∷◌, ◌++◌, length, length-append, append-nil, append_assoc, drop, position, None, Some, refl, sym, ap, ap₂, ◌∙◌, arith}
use Rattle.std.specs.List.{position_or_len}
use Rattle.std.proofs.Math.Seq.{take-append_seam, drop-append_seam}
use Rattle.std.proofs.lemmas.Bool.{cond-true, cond-false, lt-ltb, le-ltb, eq-eqb}
use Rattle.std.proofs.lemmas.Bool.Decides.{nat_tests}
use Rattle.std.proofs.lemmas.List.Elements.{All-nil, All-cons, All-head, All-tail, filter-append}
use Rattle.tree_format.specs.Node.{Node, id_of}
use Rattle.tree_format.specs.Changes.{without, placed_at, with_child, part, HasNone}
use Rattle.tree_format.specs.Laws.{ChildrenChange}
use Rattle.lemmas.proofs.PlainLemmas.{differ-false as apart}

-- If no child has an ID, a removal of this ID changes nothing.
pub without-none : (id : ℕ) (ns : List Node) → HasNone id ns → without id ns ≡ ns
without-none id [] none = refl
without-none id (n ∷ ns) none =
    ap (λ (t : Bool). cond (not t) (n ∷ without id ns) (without id ns)) (All-head (λ k. (id_of k == id) ≡ false) n ns none)
    ∙ ap (λ l. n ∷ l) (without-none id ns (All-tail (λ k. (id_of k == id) ≡ false) n ns none))

-- The first child with an ID is at the end of the others before it.
pub place-first : (id : ℕ) (m : Node) (front back : List Node) → (id_of m == id) ≡ true → HasNone id front → position_or_len (λ k. id_of k == id) (front ++ m ∷ back) ≡ length front
place-first id m [] back is none = ap (λ (t : Bool). cond (not t) (1 + position_or_len (λ k. id_of k == id) back) 0) is
place-first id m (x ∷ front) back is none =
    ap (λ (t : Bool). cond (not t) (1 + position_or_len (λ k. id_of k == id) (front ++ m ∷ back)) 0) (All-head (λ k. (id_of k == id) ≡ false) x front none)
    ∙ ap (λ k. 1 + k) (place-first id m front back is (All-tail (λ k. (id_of k == id) ≡ false) x front none)) ∙ omega arith

-- ---- the first of an ID

-- the first child with the ID `id`, and the children before and after it
pub record SplitAt (id : ℕ) (ns : List Node) : Type 0 where
  pub front : List Node
  pub first : Node
  pub back : List Node
  pub whole : ns ≡ front ++ first ∷ back
  pub is : (id_of first == id) ≡ true
  pub none_before : HasNone id front

-- There is no child with an ID, or a first one.
pub split-first : (id : ℕ) (ns : List Node) → HasNone id ns ⊎ SplitAt id ns
split-first id [] = inl (All-nil (λ k. (id_of k == id) ≡ false))
split-first id (n ∷ ns) = of (split-first id ns) (id_of n == id) refl
  where
    of : HasNone id ns ⊎ SplitAt id ns → (t : Bool) → (id_of n == id) ≡ t → HasNone id (n ∷ ns) ⊎ SplitAt id (n ∷ ns)
    of rest true is = inr (record { front = []; first = n; back = ns; whole = refl; is = is; none_before = All-nil (λ k. (id_of k == id) ≡ false) })
    of (inl rest) false is = inl (All-cons (λ k. (id_of k == id) ≡ false) n ns is rest)
    of (inr s) false is = inr (record {
      front = n ∷ s.front;
      first = s.first;
      back = s.back;
      whole = ap (λ l. n ∷ l) s.whole;
      is = s.is;
      none_before = All-cons (λ k. (id_of k == id) ≡ false) n s.front is s.none_before;
    })

-- ---- a child that is set

pub with_child-at : (n m : Node) (front back : List Node) → (id_of m == id_of n) ≡ true → HasNone (id_of n) front → with_child n (front ++ m ∷ back) ≡ front ++ n ∷ without (id_of n) back
with_child-at n m front back is no_front =
    let ns : List Node = front ++ m ∷ back in
    let k : ℕ = length front in
    let at : position_or_len (λ x. id_of x == id_of n) ns ≡ k = place-first (id_of n) m front back is no_front in
    let long : length ns ≡ k + length (m ∷ back) = length-append front (m ∷ back) in
    let one : length (front ++ m ∷ []) ≡ k + 1 = length-append front (m ∷ []) in
    let found : position (λ x. id_of x == id_of n) ns ≡ Some k =
    ap (λ (i : ℕ). cond (nat_lt i (length ns)) (Some i) None) at ∙ cond-true (nat_lt k (length ns)) (Some k) None (lt-ltb k (length ns) (omega arith)) in
    let rest : drop (k + 1) ns ≡ back = ap₂ (λ (i : ℕ) (l : List Node). drop i l) (sym one) (sym (append_assoc front (m ∷ []) back)) ∙ drop-append_seam (front ++ m ∷ []) back in
    ap (placed_at n ns) found ∙ ap₂ (λ (a b : List Node). a ++ n ∷ without (id_of n) b) (take-append_seam front (m ∷ back)) rest

none_at : (id : ℕ) (ns : List Node) → HasNone id ns → position_or_len (λ k. id_of k == id) ns ≡ length ns
none_at id [] lacks = refl
none_at id (n ∷ ns) lacks =
    ap (λ (t : Bool). cond (not t) (1 + position_or_len (λ k. id_of k == id) ns) 0) (All-head (λ k. (id_of k == id) ≡ false) n ns lacks)
    ∙ ap (λ k. 1 + k) (none_at id ns (All-tail (λ k. (id_of k == id) ≡ false) n ns lacks)) ∙ omega arith

pub with_child-none : (n : Node) (ns : List Node) → HasNone (id_of n) ns → with_child n ns ≡ ns ++ n ∷ []
with_child-none n ns lacks =
    ap (λ (i : ℕ). placed_at n ns (cond (nat_lt i (length ns)) (Some i) None)) (none_at (id_of n) ns lacks)
    ∙ ap (placed_at n ns) (cond-false (nat_lt (length ns) (length ns)) (Some (length ns)) None (le-ltb _ _ (omega arith)))

-- ---- the children of an ID after a change

pub part-none : (id : ℕ) (ns : List Node) → HasNone id ns → part id ns ≡ []
part-none id [] lacks = refl
part-none id (n ∷ ns) lacks =
    ap (λ (t : Bool). cond t (n ∷ part id ns) (part id ns)) (All-head (λ k. (id_of k == id) ≡ false) n ns lacks) ∙ part-none id ns (All-tail (λ k. (id_of k == id) ≡ false) n ns lacks)

-- A removal of another ID leaves the children with the ID `id`.
pub part-without : (id other : ℕ) (ns : List Node) → (other == id) ≡ false → part id (without other ns) ≡ part id ns
part-without id other [] apart = refl
part-without id other (n ∷ ns) apart = of (id_of n == other) (id_of n == id) refl refl (part-without id other ns apart)
  where
    of : (s t : Bool) → (id_of n == other) ≡ s → (id_of n == id) ≡ t → part id (without other ns) ≡ part id ns
        → part id (cond (not s) (n ∷ without other ns) (without other ns)) ≡ cond t (n ∷ part id ns) (part id ns)
    of true true is_other is_id rest =
        let never : true ≡ false = sym (grind (arith, nat_tests)) ∙ apart in
        absurd (cc)
    of true false is_other is_id rest = rest
    of false t is_other is_id rest = ap (λ (b : Bool). cond b (n ∷ part id (without other ns)) (part id (without other ns))) is_id ∙ ap (λ (l : List Node). cond t (n ∷ l) l) rest

-- A removal of the ID leaves no child with it.
pub none-without : (id : ℕ) (ns : List Node) → HasNone id (without id ns)
none-without id [] = All-nil (λ k. (id_of k == id) ≡ false)
none-without id (n ∷ ns) = of (id_of n == id) refl (none-without id ns)
  where
    of : (t : Bool) → (id_of n == id) ≡ t → HasNone id (without id ns) → HasNone id (cond (not t) (n ∷ without id ns) (without id ns))
    of true is rest = rest
    of false is rest = All-cons (λ k. (id_of k == id) ≡ false) n (without id ns) is rest

-- A child with another ID that is set leaves the children with the ID `id`.
pub part-other : (id : ℕ) (c : Node) (ns : List Node) → (id_of c == id) ≡ false → part id (with_child c ns) ≡ part id ns
part-other id c ns apart = of (split-first (id_of c) ns)
  where
    skips : (m : Node) (l : List Node) → (id_of m == id) ≡ false → part id (m ∷ l) ≡ part id l
    skips m l other = ap (λ (t : Bool). cond t (m ∷ part id l) (part id l)) other

    same-id : (m : Node) → (id_of m == id_of c) ≡ true → (id_of m == id) ≡ false
    same-id m is = ap (λ n. n == id) (let e : id_of m ≡ id_of c = grind (arith, nat_tests) in e) ∙ apart

    of : HasNone (id_of c) ns ⊎ SplitAt (id_of c) ns → part id (with_child c ns) ≡ part id ns
    of (inl lacks) =
        ap (part id) (with_child-none c ns lacks) ∙ filter-append (λ k. id_of k == id) ns (c ∷ []) ∙ ap (λ l. part id ns ++ l) (skips c [] apart) ∙ append-nil (part id ns)
    of (inr s) =
        ap (λ l. part id (with_child c l)) s.whole
        ∙ ap (part id) (with_child-at c s.first s.front s.back s.is s.none_before)
        ∙ filter-append (λ k. id_of k == id) s.front (c ∷ without (id_of c) s.back)
        ∙ ap (λ l. part id s.front ++ l) (skips c (without (id_of c) s.back) apart ∙ part-without id (id_of c) s.back apart ∙ sym (skips s.first s.back (same-id s.first s.is)))
        ∙ sym (filter-append (λ k. id_of k == id) s.front (s.first ∷ s.back))
        ∙ ap (part id) (sym s.whole)

itself : (n : Node) → (id_of n == id_of n) ≡ true
itself n = grind (arith, nat_tests)

-- A child that is set is the only one with its ID.
pub part-set : (n : Node) (ns : List Node) → part (id_of n) (with_child n ns) ≡ n ∷ []
part-set n ns = of (split-first (id_of n) ns)
  where
    alone : (front back : List Node) → HasNone (id_of n) front → HasNone (id_of n) back → part (id_of n) (front ++ n ∷ back) ≡ n ∷ []
    alone front back no_front no_back =
        filter-append (λ k. id_of k == id_of n) front (n ∷ back)
        ∙ ap₂ (λ (a b : List Node). a ++ b) (part-none (id_of n) front no_front) (ap (λ (t : Bool). cond t (n ∷ part (id_of n) back) (part (id_of n) back)) (itself n) ∙ ap (λ l. n ∷ l) (part-none (id_of n) back no_back))

    of : HasNone (id_of n) ns ⊎ SplitAt (id_of n) ns → part (id_of n) (with_child n ns) ≡ n ∷ []
    of (inl lacks) = ap (part (id_of n)) (with_child-none n ns lacks) ∙ alone ns [] lacks (All-nil (λ k. (id_of k == id_of n) ≡ false))
    of (inr s) =
        ap (part (id_of n)) (ap (with_child n) s.whole ∙ with_child-at n s.first s.front s.back s.is s.none_before)
        ∙ alone s.front (without (id_of n) s.back) s.none_before (none-without (id_of n) s.back)

-- The effects of a change on the children with each ID.
pub children-change : ChildrenChange
children-change = record {
  at = λ n m front back same none_before. with_child-at n m front back (eq-eqb (id_of m) (id_of n) same) none_before;
  last = with_child-none;
  one = part-set;
  set_others = λ id n ns other. part-other id n ns (apart (id_of n) id other);
  gone = none-without;
  kept_others = λ id other ns differs. part-without id other ns (apart other id differs);
}
