-- The events that were read are written and reported. The advance of the cursor bounds the bytes that were read.
use Rattle.std.proofs.Common.{◌≡◌, ◌≤◌, ◌+◌, ◌-◌, length}
use Rattle.mkv_io.specs.Told.{IfVisible}
use Rattle.cluster_reader.specs.Reading.{CanRead, left_of, read_to}
use Rattle.extractors.specs.Walks.{WritesAndReads}
use Rattle.extractors.proofs.WalkLemmas.{MetSoFar}
use Rattle.extractors.proofs.blocks.write_blocks.Given as goal

abbrev pub invariant-steps : goal.invariant-steps
invariant-steps g l = record {
  so : IfVisible ((g.F.Reads.files (g.F.Reads.standing l.initial.files)).content l.initial.cursor.file.n) (λ bytes. MetSoFar g.F.Files l.list l.initial.files l.files l.initial.outputs l.outputs l.numbers.items (left_of bytes l.initial.cursor) (left_of bytes l.cursor) l.told.damages l.told.bad_frames);
  count : length l.numbers.items ≡ length l.list;
  ready : CanRead (g.F.Reads.files (g.F.Reads.standing l.files)) l.cursor;
  file : l.cursor.file ≡ l.initial.cursor.file;
  walks : WritesAndReads g.F.Reads g.F.Files l.initial.files l.files l.initial.outputs l.outputs;
  pays : g.F.Reads.octets_read l.files + read_to l.initial.cursor ≤ g.F.Reads.octets_read l.initial.files + read_to l.cursor;
  most : read_to l.cursor ≤ (g.F.Reads.files (g.F.Reads.standing l.initial.files)).size l.initial.cursor.file.n;
  writing : g.F.Files.writing_faults l.files ≡ g.F.Files.writing_faults l.initial.files;
  reading : g.F.Reads.reading_faults l.files ≡ g.F.Reads.reading_faults l.initial.files;
}

abbrev pub decreases-steps : goal.decreases-steps
decreases-steps g l = l.cursor.place.end - l.cursor.place.at
