-- No bytes wait for the first outputs. The bytes that were given are the same, and only these outputs were written.
use Rattle.std.proofs.Common.{◌≡◌, List, length}
use Rattle.mkv_io.specs.Names.{Names}
use Rattle.mkv_outputs.specs.Outputs.{Output}
use Rattle.mkv_outputs.specs.Sinks.{ArePassed, HaveBeenGiven, WritesOutputs}
use Rattle.mkv_outputs.proofs.outputs.Outputs.flush.Given as goal

abbrev pub invariant-loop-k : goal.invariant-loop-k
invariant-loop-k g l = record {
  has : (since : Names) (given : List Output) → HaveBeenGiven since (g.F.Files.names l.initial.files) (g.F.Files.holder l.initial.files) l.initial.self given → HaveBeenGiven since (g.F.Files.names l.files) (g.F.Files.holder l.files) l.self given;
  passed : ArePassed l.k l.self;
  count : length l.self ≡ length l.initial.self;
  wrote : WritesOutputs g.F.Reads g.F.Files l.initial.files l.files l.initial.self l.self;
  writing : g.F.Files.writing_faults l.files ≡ g.F.Files.writing_faults l.initial.files;
}
