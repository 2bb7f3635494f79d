-- All entries are the entries that were read and the entries from the next head on.
use Rattle.std.proofs.Common.{◌≡◌, ◌+◌, ◌^◌, ◌<◌, ◌≤◌, ◌++◌, length, MatchOption, All}
use Rattle.text_formats.specs.Lines.{lines_of}
use Rattle.text_formats.specs.Srt.{entries, first_bad}
use Rattle.text_formats.specs.Reading.{entries_at, bad_at, left}
use Rattle.text_formats.specs.Times.{latest}
use Rattle.mkv_io.specs.declared.entry.Entry.{Entry}
use Rattle.text_formats.proofs.reading.read_entries.Given as goal

abbrev pub invariant-loop-next : goal.invariant-loop-next
invariant-loop-next l = record {
  same : entries (lines_of l.bytes) ≡ l.list.items ++ entries_at l.next;
  bad : first_bad (lines_of l.bytes) ≡ bad_at l.next;
  room : MatchOption l.next (Unit {0}) (λ h. (h.number + length h.rest.now < 2 ^ 64) × (h.times.start ≤ h.times.end) × (h.times.end < latest));
  few : length l.list.items + left l.next ≤ length l.bytes;
  ends : All (λ (e : Entry). e.start + e.duration < latest) l.list.items;
}

abbrev pub decreases-loop-next : goal.decreases-loop-next
decreases-loop-next l = left l.next
