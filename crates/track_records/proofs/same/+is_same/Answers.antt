-- The children decide, one after the other.
use Rattle.std.proofs.Common.{◌≡◌, ◌<◌, ℕ, ◌+◌, Bool, true, false, not, ◌&&◌, List, [], ◌∷◌, Option, Some, None, is_some, MatchOption, drop, length, get_or, refl, sym, ap, ap₂, subst, ◌∙◌, arith}
use denote.Ref.{Bor}
use Rattle.std.specs.Str.{bytes_eq}
use Rattle.tree_format.specs.Node.{Node, count, id_of, body_of, children, nodes_of}
use Rattle.tree_format.specs.NormalForm.{is_filler}
use Rattle.track_records.specs.Same.{without_fillers, is_end, is_same, are_same}
use Rattle.track_records.proofs.SameLemmas.{same-whole, same-next, same-missing, same-end, count-child}
use Rattle.track_records.proofs.same.+is_same.Goals as goal

-- The Elements have one ID and the same data, so that their children decide.
whole : (a b : Node) (i j : ℕ) (p q : List ℕ) (items others : List Node) → i ≡ id_of a → j ≡ id_of b → i ≡ j → p ≡ body_of a → q ≡ body_of b → false ≡ not (bytes_eq p q) → items ≡ children a → others ≡ children b
    → is_same a b ≡ are_same (nodes_of items) (without_fillers others)
whole a b i j p q items others of_i of_j ids of_p of_q equal of_items of_others =
    same-whole a b items others of_items of_others (sym of_i ∙ ids ∙ of_j) (ap₂ bytes_eq (sym of_p) (sym of_q) ∙ is_true (bytes_eq p q) equal)
  where
    is_true : (t : Bool) → false ≡ not t → t ≡ true
    is_true true is = refl
    is_true false is = absurd (cc)

pub returns-in_default : goal.returns-in_default
returns-in_default t c =
    sym (whole _ _ _ _ _ _ _ _ c.id.ensures c.id-2.ensures c.if-id.false c.body.ensures c.body-else-id.ensures c.if-ne.ensures c.children-tree-items.ensures.exact c.children-others.ensures.exact
    ∙ sym c.loop-tree.invariant
    ∙ same-missing c.children-tree-items.result.now c.loop-tree.others.now c.loop-tree.tree-index c.tree-item.result c.loop-tree-test.true c.tree-item.is (ap is_filler (sym c.id-in-loop-tree.ensures) ∙ sym c.if-is_filler.ensures) c.in_default.ensures)

pub is_same-requires : goal.is_same-requires
is_same-requires t c =
    let inside = subst (λ (l : List Node). c.loop-tree.tree-index < length l) c.children-tree-items.ensures.exact c.loop-tree-test.true in
    let below : count c.tree-item.result < count c.args.a.now = subst (λ (l : Node). count l < count c.args.a.now) (sym (c.tree-item.is ∙ ap (λ (l : List Node). get_or l c.loop-tree.tree-index c.tree-item.result) c.children-tree-items.ensures.exact)) (count-child c.args.a.now c.loop-tree.tree-index c.tree-item.result inside) in
    (omega (arith, below, c.decreases), tt)

pub returns-then-not-is_same : goal.returns-then-not-is_same
returns-then-not-is_same t c =
    sym (whole _ _ _ _ _ _ _ _ c.id.ensures c.id-2.ensures c.if-id.false c.body.ensures c.body-else-id.ensures c.if-ne.ensures c.children-tree-items.ensures.exact c.children-others.ensures.exact
    ∙ sym c.loop-tree.invariant
    ∙ same-next c.children-tree-items.result.now c.loop-tree.others.now c.loop-tree.tree-index c.tree-item.result c.in-Some.other.now (without_fillers c.in-Some.behind.now) c.loop-tree-test.true c.tree-item.is (ap is_filler (sym c.id-in-loop-tree.ensures) ∙ sym c.if-is_filler.ensures) c.in-Some.ensures
    ∙ ap (λ s. s && are_same (nodes_of (drop (c.loop-tree.tree-index + 1) c.children-tree-items.result.now)) (without_fillers c.in-Some.behind.now)) (sym c.is_same.ensures ∙ c.if-not-is_same.true))

-- Nothing is left exactly if there is no first Element that is left.
ends : (ns : List Node) (found : Option (Bor Node × Bor (List Node))) → MatchOption found (without_fillers ns ≡ []) (λ p. without_fillers ns ≡ p.0.now ∷ without_fillers p.1.now) → (none : Bool) → is_some found ≡ not none → is_end (without_fillers ns) ≡ none
ends ns None first true is = ap is_end first
ends ns None first false is = absurd (cc)
ends ns (Some p) first true is = absurd (cc)
ends ns (Some p) first false is = ap is_end first

pub returns : goal.returns
returns t c =
    sym (whole _ _ _ _ _ _ _ _ c.id.ensures c.id-2.ensures c.if-id.false c.body.ensures c.body-else-id.ensures c.if-ne.ensures c.children-tree-items.ensures.exact c.children-others.ensures.exact
    ∙ sym c.loop-tree.invariant
    ∙ same-end c.children-tree-items.result.now c.loop-tree.others.now c.loop-tree.tree-index c.loop-tree-test.false
    ∙ ends c.loop-tree.others.now c.next_written-2.result c.next_written-2.ensures c.is_none.result c.is_none.ensures)
