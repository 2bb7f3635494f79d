-- The first inputs have their timestamps, and the others follow.
use Rattle.std.proofs.Common.{◌≡◌, ◌++◌, map}
use Rattle.mkv_merge.specs.Prepared.{reads_in}
use Rattle.mkv_merge.specs.Timed.{shared_from, untimed}
use Rattle.mkv_merge.proofs.texts.timed.Given as goal

abbrev pub invariant-loop-number : goal.invariant-loop-number
invariant-loop-number l = record {
  exact : reads_in l.list ++ shared_from l.shared l.number-iterator.count (reads_in l.number-iterator.iter.rest.items) ≡ shared_from l.shared 0 (reads_in l.initial.number-iterator.iter.rest.items);
  same : map untimed l.list ++ map untimed l.number-iterator.iter.rest.items ≡ map untimed l.initial.number-iterator.iter.rest.items;
}
