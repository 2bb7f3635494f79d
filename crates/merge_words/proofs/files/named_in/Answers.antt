use Rattle.std.proofs.Common.{◌≡◌, ◌+◌, ◌∙◌, ap, drop, [], arith}
use Rattle.std.proofs.lemmas.List.{drop_all}
use Rattle.std.specs.List.{flat_map}
use Rattle.merge_words.specs.declared.item.Item.{Item}
use Rattle.merge_words.specs.Files.{ids_of, with_new, named_in}
use Rattle.merge_words.proofs.FilesLemmas.{named_next, once_is}
use Rattle.merge_words.proofs.files.named_in.Goals as goal

pub loop-item-preserved : goal.loop-item-preserved
loop-item-preserved c =
    let l = c.loop-item in let items = c.args.items.now in
    ap (λ list. with_new list (flat_map (λ (i : Item). ids_of i.value) (drop (l.item-index + 1) items))) c.in_ok-add_ids.ensures
    ∙ (named_next l.named.keys items l.item-index c.item-item.result c.loop-item-test.true c.item-item.is ∙ l.invariant)

pub returns : goal.returns
unfolding named_in
returns c =
    let l = c.loop-item in let items = c.args.items.now in
    let none : drop l.item-index items ≡ [] = drop_all l.item-index items (omega arith) in
    c.from_vec.ensures ∙ (c.in_ok-from_slice.ensures.items ∙ (c.as_slice.ensures.keys ∙ ((rw none at l.invariant) ∙ once_is (flat_map (λ (i : Item). ids_of i.value) items))))
