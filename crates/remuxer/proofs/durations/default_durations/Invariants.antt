-- The durations found and the rest make the whole list.
use Rattle.std.proofs.Common.{◌≡◌, ◌++◌, map}
use Rattle.file_format.specs.Entry.{default_duration_of, entries_of}
use Rattle.track_records.proofs.EntriesLemmas.{entries_from}
use Rattle.remuxer.proofs.durations.default_durations.Given as goal

abbrev pub invariant-loop-entry : goal.invariant-loop-entry
invariant-loop-entry l = l.durations ++ map default_duration_of (entries_from l.entry-index l.entry-items) ≡ map default_duration_of (entries_of l.tracks)
