-- The trees with an ID are removed from a list in one pass.
use Rattle.std.proofs.Common.{◌≡◌, ◌≤◌, ◌<◌, ◌⊎◌, inl, inr, ℕ, ◌+◌, ◌==◌, not, cond, Bool, true, false, List, [], ◌∷◌, ◌++◌, length, position, None, take, drop, get_or, set, swap, sym, ap, ap₂, ◌∙◌, arith, append_assoc}
use Rattle.std.proofs.lemmas.List.{take-set, take-set-le, take_more_set, drop-set-lt, length-set}
use Rattle.std.proofs.lemmas.List.Edits.{length-swap, swap_is}
use Rattle.tree_format.specs.Node.{Node, id_of}
use Rattle.tree_format.specs.Changes.{without, HasChild}
use Rattle.ebml_tree.proofs.LoopLemmas.{next-is}

-- The trees before `from` stay. The trees with another ID between `from` and `k` are before `kept`, and the trees from `k` on are unchanged.
pub record Compacted (id from kept k : ℕ) (old now : List Node) : Type 0 where
  pub after : from ≤ kept
  pub before : kept ≤ k
  pub long : length now ≡ length old
  pub same : take kept now ++ without id (drop k now) ≡ take from old ++ without id (drop from old)

-- ---- one more tree

le-cases : (i j : ℕ) → i ≤ j → (i ≡ j) ⊎ (i < j)
le-cases i j le = grind arith

-- After the tree at `k` moved to `kept`, it follows the trees before `kept`.
take-swap : (ns : List Node) (kept k : ℕ) (n : Node) → kept ≤ k → k < length ns → n ≡ get_or ns k n → take (kept + 1) (swap ns kept k) ≡ take kept ns ++ n ∷ []
take-swap ns kept k n before inside is = ap (take (kept + 1)) (sym made) ∙ split (le-cases kept k before)
  where
    made : set (set ns kept (get_or ns k n)) k (get_or ns kept n) ≡ swap ns kept k
    made = swap_is ns kept k n (omega arith) inside

    split : (kept ≡ k) ⊎ (kept < k) → take (kept + 1) (set (set ns kept (get_or ns k n)) k (get_or ns kept n)) ≡ take kept ns ++ n ∷ []
    split (inl same) =
        ap (λ i. take (kept + 1) (set (set ns kept (get_or ns k n)) i (get_or ns kept n))) (sym same)
        ∙ take_more_set (set ns kept (get_or ns k n)) kept (get_or ns kept n) (rw length-set (omega arith))
        ∙ ap₂ (λ l m. l ++ m ∷ []) (take-set ns kept (get_or ns k n)) (ap (λ i. get_or ns i n) same ∙ sym is)
    split (inr below) =
        take-set-le (kept + 1) (set ns kept (get_or ns k n)) k (get_or ns kept n) (omega arith)
        ∙ take_more_set ns kept (get_or ns k n) (omega arith)
        ∙ ap (λ m. take kept ns ++ m ∷ []) (sym is)

-- The trees after `k` are unchanged.
drop-swap : (ns : List Node) (kept k : ℕ) (n : Node) → kept ≤ k → k < length ns → drop (k + 1) (swap ns kept k) ≡ drop (k + 1) ns
drop-swap ns kept k n before inside =
    ap (drop (k + 1)) (sym (swap_is ns kept k n (omega arith) inside))
    ∙ drop-set-lt (k + 1) (set ns kept (get_or ns k n)) k (get_or ns kept n) (omega arith)
    ∙ drop-set-lt (k + 1) ns kept (get_or ns k n) (omega arith)

-- The trees with another ID from `k` on.
without-next : (id k : ℕ) (ns : List Node) (n : Node) (is_id : Bool) → k < length ns → n ≡ get_or ns k n → (id_of n == id) ≡ is_id
    → without id (drop k ns) ≡ cond (not is_id) (n ∷ without id (drop (k + 1) ns)) (without id (drop (k + 1) ns))
without-next id k ns n is_id inside is tells =
    ap (without id) (next-is k ns n inside is) ∙ ap (λ b. cond (not b) (n ∷ without id (drop (k + 1) ns)) (without id (drop (k + 1) ns))) tells

module _ (id from kept k : ℕ) (old now : List Node) (n : Node) (so_far : Compacted id from kept k old now) (inside : k < length now) (is : n ≡ get_or now k n) where
  -- A tree with another ID is kept.
  pub compact-other : (id_of n == id) ≡ false → Compacted id from (kept + 1) (k + 1) old (swap now kept k)
  compact-other other =
      let after = so_far.after in
      let before = so_far.before in
      record {
        after = omega arith;
        before = omega arith;
        long = length-swap now kept k ∙ so_far.long;
        same =
            ap₂ (λ l m. l ++ without id m) (take-swap now kept k n before inside is) (drop-swap now kept k n before inside)
            ∙ append_assoc (take kept now) (n ∷ []) (without id (drop (k + 1) now))
            ∙ ap (λ l. take kept now ++ l) (sym (without-next id k now n false inside is other))
            ∙ so_far.same;
      }

  -- A tree with the ID is skipped.
  pub compact-same : (id_of n == id) ≡ true → Compacted id from kept (k + 1) old now
  compact-same same =
      let before = so_far.before in
      record {
        after = so_far.after;
        before = omega arith;
        long = so_far.long;
        same = ap (λ l. take kept now ++ l) (sym (without-next id k now n true inside is same)) ∙ so_far.same;
      }

-- ---- a child with an ID

-- If none is found, there is none.
pub none-found : (id own : ℕ) (found all : List Node) → None ≡ position (λ n. id_of n == id) found → found ≡ all → id ≡ own → HasChild own all → ⊥
none-found id own found all none same is has =
    let no : None ≡ position (λ n. id_of n == own) all = none ∙ ap₂ (λ i l. position (λ n. id_of n == i) l) is same in
    let h = rw (← no) at has in
    absurd (cc)
