-- The numbers found and the rest make the whole list.
use Rattle.std.proofs.Common.{◌≡◌, ◌++◌, map}
use Rattle.file_format.specs.Entry.{entries_of, number_of}
use Rattle.track_records.proofs.EntriesLemmas.{entries_from}
use Rattle.track_records.proofs.refusal.numbers_of.Given as goal

abbrev pub invariant-loop-child : goal.invariant-loop-child
invariant-loop-child l = l.numbers.items ++ map number_of (entries_from l.child-index l.child-items) ≡ map number_of (entries_of l.tracks)
