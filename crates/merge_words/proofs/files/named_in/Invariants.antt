-- All tracks are the tracks that were named and the tracks of the rest.
use Rattle.std.proofs.Common.{◌≡◌, drop, []}
use Rattle.std.specs.List.{flat_map}
use Rattle.merge_words.specs.declared.item.Item.{Item}
use Rattle.merge_words.specs.Files.{ids_of, with_new}
use Rattle.merge_words.proofs.files.named_in.Given as goal

abbrev pub invariant-loop-item : goal.invariant-loop-item
invariant-loop-item l =
    with_new l.named.keys (flat_map (λ (i : Item). ids_of i.value) (drop l.item-index l.items)) ≡ with_new [] (flat_map (λ (i : Item). ids_of i.value) l.items)
