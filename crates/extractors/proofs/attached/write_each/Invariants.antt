-- The files of the first targets are complete, and no other name was written.
use Rattle.std.proofs.Common.{◌≡◌, ◌≤◌, ◌+◌, ◌*◌, map, take}
use Rattle.mkv_io.specs.Sources.{file_size}
use Rattle.mkv_io.specs.Told.{IfVisible}
use Rattle.mkv_io.specs.Writing.{KeepsOthers}
use Rattle.mkv_outputs.specs.Outputs.{with_outputs}
use Rattle.extractors.specs.Job.{names_of}
use Rattle.meta_records.specs.Attached.{in_file}
use Rattle.extractors.specs.Attached.{attached_outputs}
use Rattle.extractors.proofs.attached.write_each.Given as goal

abbrev pub invariant-loop-target : goal.invariant-loop-target
invariant-loop-target g l = record {
  writes : IfVisible ((g.F.Reads.files (g.F.Reads.standing l.initial.files)).content l.source.file.n) (λ bytes. g.F.Files.names l.files ≡ with_outputs (g.F.Files.names l.initial.files) (attached_outputs bytes (take l.target-index l.targets) (map in_file l.source.attachments)));
  kept : KeepsOthers g.F.Reads g.F.Files (names_of l.targets) l.initial.files l.files;
  reading : g.F.Reads.reading_faults l.files ≡ g.F.Reads.reading_faults l.initial.files;
  writing : g.F.Files.writing_faults l.files ≡ g.F.Files.writing_faults l.initial.files;
  reads : g.F.Reads.octets_read l.files ≤ g.F.Reads.octets_read l.initial.files + l.target-index * file_size g.F.Reads l.initial.files l.source.file;
}
