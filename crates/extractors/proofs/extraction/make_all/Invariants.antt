-- The first outputs were created with their first bytes, and no other name was written.
use Rattle.std.proofs.Common.{◌≡◌, [], take}
use Rattle.mkv_outputs.specs.Sinks.{AreOpen, HaveBeenGiven, MadeSince}
use Rattle.extractors.specs.Content.{names_in, outputs_of}
use Rattle.extractors.proofs.extraction.make_all.Given as goal

abbrev pub invariant-loop-k : goal.invariant-loop-k
invariant-loop-k g l = record {
  has : HaveBeenGiven (g.F.Files.names l.initial.files) (g.F.Files.names l.files) (g.F.Files.holder l.files) l.outputs (outputs_of (take l.k l.list) []);
  outputs : AreOpen g.F.Reads l.files l.outputs;
  made : MadeSince g.F.Reads g.F.Files (names_in l.list) l.initial.files l.files l.outputs;
  writing : g.F.Files.writing_faults l.files ≡ g.F.Files.writing_faults l.initial.files;
  reading : g.F.Reads.reading_faults l.files ≡ g.F.Reads.reading_faults l.initial.files;
  octets : g.F.Reads.octets_read l.files ≡ g.F.Reads.octets_read l.initial.files;
}
