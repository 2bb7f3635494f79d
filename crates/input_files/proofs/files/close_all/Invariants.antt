-- The first files are closed, the others are live, and nothing else was changed.
use Rattle.std.proofs.Common.{◌≡◌, length, true, false}
use Rattle.std.specs.List.{AllWithin}
use Rattle.mkv_io.specs.declared.outside.FileId.{FileId}
use Rattle.mkv_io.specs.LiveFiles.{KeepsFiles, KeepsHolders}
use Rattle.mkv_outputs.specs.Sinks.{IsNoneOf}
use Rattle.input_files.proofs.files.close_all.Given as goal

abbrev pub invariant-loop-id : goal.invariant-loop-id
invariant-loop-id g l = record {
  ended : AllWithin (λ (f : FileId). (g.F.Reads.files (g.F.Reads.standing l.files)).live f.n ≡ false) l.ids 0 l.id-index;
  left : AllWithin (λ (f : FileId). (g.F.Reads.files (g.F.Reads.standing l.files)).live f.n ≡ true) l.ids l.id-index (length l.ids);
  others : KeepsFiles (g.F.Reads.files (g.F.Reads.standing l.initial.files)) (g.F.Reads.files (g.F.Reads.standing l.files)) (λ file. IsNoneOf file l.ids);
  names : g.F.Files.names l.files ≡ g.F.Files.names l.initial.files;
  holders : KeepsHolders (g.F.Reads.files (g.F.Reads.standing l.files)).live (g.F.Files.holder l.initial.files) (g.F.Files.holder l.files);
  numbers : g.F.Files.given l.files ≡ g.F.Files.given l.initial.files;
  asked : g.F.Files.asked l.files ≡ g.F.Files.asked l.initial.files;
  writing : g.F.Files.writing_faults l.files ≡ g.F.Files.writing_faults l.initial.files;
  reading : g.F.Reads.reading_faults l.files ≡ g.F.Reads.reading_faults l.initial.files;
  octets : g.F.Reads.octets_read l.files ≡ g.F.Reads.octets_read l.initial.files;
}
