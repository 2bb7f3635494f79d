-- All entries are the entries that were made and the entries of the rest; each is whole.
use Rattle.std.proofs.Common.{◌≡◌, ◌+◌, ◌++◌, drop}
use Rattle.std.specs.List.{All}
use Rattle.track_records.specs.Entry.{IsWholeEntry}
use Rattle.merge_plan.specs.Lent.{lent}
use Rattle.merge_plan.specs.Records.{entries_from}
use Rattle.merge_plan.proofs.entries.entries_of.Given as goal

abbrev pub invariant-loop-k : goal.invariant-loop-k
invariant-loop-k l = record {
  all : l.entries ++ entries_from (l.k + 1) (drop l.k l.uids) (drop l.k (lent l.taken)) ≡ entries_from 1 l.uids (lent l.taken);
  whole : All IsWholeEntry l.entries;
}
