-- The files of the first targets are complete, and no other name was written.
use Rattle.std.proofs.Common.{◌≡◌, ◌≤◌, take}
use Rattle.mkv_io.specs.Writing.{KeepsOthers}
use Rattle.mkv_outputs.specs.Outputs.{with_outputs}
use Rattle.extractors.specs.Job.{names_of}
use Rattle.meta_records.specs.Records.{scale_of_info}
use Rattle.extractors.specs.Cues.{cues_outputs}
use Rattle.extractors.specs.Source.{entries_in}
use Rattle.extractors.proofs.cues.write_cues.Given as goal

abbrev pub invariant-loop-target : goal.invariant-loop-target
invariant-loop-target g l = record {
  writes : g.F.Files.names l.files ≡ with_outputs (g.F.Files.names l.initial.files) (cues_outputs (scale_of_info l.source.info) l.source.cues (take l.target-index l.targets) (entries_in l.source));
  kept : KeepsOthers g.F.Reads g.F.Files (names_of l.targets) l.initial.files l.files;
  reading : g.F.Reads.reading_faults l.files ≡ g.F.Reads.reading_faults l.initial.files;
  writing : g.F.Files.writing_faults l.files ≡ g.F.Files.writing_faults l.initial.files;
  reads : g.F.Reads.octets_read l.files ≤ g.F.Reads.octets_read l.initial.files;
}
