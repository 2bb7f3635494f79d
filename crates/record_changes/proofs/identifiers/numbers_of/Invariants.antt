-- The numbers found and the rest make the whole; each identifier has at most one.
use Rattle.std.proofs.Common.{◌≡◌, ◌≤◌, ◌++◌, length, drop}
use Rattle.record_changes.specs.Identifiers.{renumbered_from, renumbered}
use Rattle.record_changes.specs.Taken.{is_taken, IsNext}
use Rattle.record_changes.proofs.identifiers.numbers_of.Given as goal

abbrev pub invariant-loop-uid : goal.invariant-loop-uid
invariant-loop-uid l = record {
  all : l.given.keys ++ renumbered_from l.uids l.given.keys (drop l.uid-index l.uids) ≡ renumbered l.uids;
  next : IsNext (is_taken l.source l.given) l.least;
  few : length l.given.keys ≤ l.uid-index;
}
