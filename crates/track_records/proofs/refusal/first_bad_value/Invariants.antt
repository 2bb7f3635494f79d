-- The rest has the first damage.
use Rattle.std.proofs.Common.{◌≡◌}
use Rattle.file_format.specs.Entry.{entries_of}
use Rattle.file_format.specs.Refusal.{first_in, bad_value}
use Rattle.track_records.proofs.EntriesLemmas.{entries_from}
use Rattle.track_records.proofs.refusal.first_bad_value.Given as goal

abbrev pub invariant-loop-child : goal.invariant-loop-child
invariant-loop-child l = first_in bad_value (entries_from l.child-index l.child-items) ≡ first_in bad_value (entries_of l.tracks)
