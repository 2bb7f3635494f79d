use Rattle.std.proofs.Common.{subst}
use Rattle.std.proofs.lemmas.List.{length-map}
use Rattle.std.specs.String.{string_bytes}
use Rattle.word_values.specs.Place.{texts}
use Rattle.merge_words.specs.Merge.{AreWithin}
use Rattle.merge_words.proofs.PlaceLemmas.{items_within}
use Rattle.merge_words.proofs.merge.read_merge.Goals as goal

-- The items begin at arguments of the command line.
pub misplaced-requires : goal.misplaced-requires
misplaced-requires c =
    let within = items_within (texts c.args.words.now) c.in_ok-items.items c.in_ok-items.ensures in
    rw c.as_slice-3.ensures (subst (λ n. AreWithin n c.in_ok-items.items) (length-map c.args.words.now string_bytes) within)
