-- The items that the next pair names are appended.
use Rattle.std.proofs.Common.{◌≡◌, ℕ, ◌∷◌, ◌++◌, ◌+◌, drop, get_or, ap, ◌∙◌, refl, drop-cons, add-one}
use Rattle.merge_plan.specs.Order.{in_order, names, names_other, picked}
use Rattle.merge_plan.proofs.OrderLemmas.{order_next}
use Rattle.merge_plan.proofs.order.in_order.Goals as goal

pub loop-pair-preserved : goal.loop-pair-preserved
loop-pair-preserved g c =
    let order = c.args.order.now in
    let k = c.loop-pair.pair-index in
    let pair : ℕ × ℕ = get_or order k (0, 0) in
    let keys = c.loop-pair.left_keys.items in
    let items = c.loop-pair.left.items in
    let left : drop k order ≡ pair ∷ drop (k + 1) order = drop-cons order k (0, 0) c.loop-pair-test.true ∙ rw add-one refl in
    c.loop-pair.invariant
    ∙ ap (λ l. c.loop-pair.first.items ++ in_order l keys items) left
    ∙ order_next pair (drop (k + 1) order) keys c.in_ok-left_keys-2.left_keys.items c.loop-pair.first.items c.in_ok-named.named.items c.in_ok-named.others.items c.append.new.items.items items
    (c.in_ok-named.ensures.named ∙ ap (λ ks. picked (names pair) ks items) c.as_slice.ensures.value)
    (c.in_ok-named.ensures.others ∙ ap (λ ks. picked (names_other pair) ks items) c.as_slice.ensures.value)
    (c.in_ok-left_keys-2.ensures ∙ ap (λ ks. picked (names_other pair) ks ks) c.as_slice-in-loop-pair.ensures.value)
    c.in_ok-append.ensures
