-- The count was added for the numbers before.
use Rattle.std.proofs.Common.{◌≡◌, ◌+◌, ℕ, nat_eq, drop}
use Rattle.std.specs.List.{IsDistinct}
use Rattle.mkv_info.specs.TagCounts.{tags_of_uid, if_among}
use Rattle.mkv_info.proofs.tag_counts.add_all.Given as goal

abbrev pub invariant-loop-uid : goal.invariant-loop-uid
invariant-loop-uid l = record {
  apart : IsDistinct nat_eq (drop l.uid-index l.uids);
  counts : (uid : ℕ) → tags_of_uid l.counts uid + if_among (drop l.uid-index l.uids) l.count uid ≡ tags_of_uid l.initial.counts uid + if_among l.uids l.count uid;
}
