-- The next number is none of the rest, so its count is added once.
use Rattle.std.proofs.Common.{◌≡◌, ◌+◌, ◌∷◌, nat_eq, drop, drop-cons, slice_index, add-one, ap, subst, arith}
use Rattle.std.specs.List.{IsDistinct}
use Rattle.std.proofs.lemmas.Map.Keys.{IsDistinct-tail}
use Rattle.mkv_info.specs.TagCounts.{tags_of_uid, if_among}
use Rattle.mkv_info.proofs.TagCountLemmas.{among-next}
use Rattle.mkv_info.proofs.tag_counts.add_all.Goals as goal

pub loop-uid-preserved : goal.loop-uid-preserved
loop-uid-preserved c =
    let us = c.args.uids.now in
    let k = c.loop-uid.uid-index in
    let u = slice_index us k in
    let rest = drop (k + 1) us in
    let next : drop k us ≡ u ∷ rest = rw add-one (drop-cons us k 0 c.loop-uid-test.true) in
    let apart : IsDistinct nat_eq (u ∷ rest) = subst (IsDistinct nat_eq) next c.loop-uid.invariant.apart in
    record {
      apart = IsDistinct-tail nat_eq u rest apart;
      counts = λ uid.
          let added = c.in_ok-add.ensures uid in
          let both = among-next u rest c.args.count uid apart in
          let before = ap (λ left. tags_of_uid c.loop-uid.counts uid + if_among left c.args.count uid) next in
          let all = c.loop-uid.invariant.counts uid in
          grind (arith, added, both, before, all);
    }
