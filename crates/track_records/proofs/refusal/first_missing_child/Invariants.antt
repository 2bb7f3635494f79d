-- The rest has the first damage.
use Rattle.std.proofs.Common.{◌≡◌}
use Rattle.file_format.specs.Entry.{entries_of}
use Rattle.file_format.specs.Refusal.{first_in, missing_child}
use Rattle.track_records.proofs.EntriesLemmas.{entries_from}
use Rattle.track_records.proofs.refusal.first_missing_child.Given as goal

abbrev pub invariant-loop-child : goal.invariant-loop-child
invariant-loop-child l = first_in missing_child (entries_from l.child-index l.child-items) ≡ first_in missing_child (entries_of l.tracks)
