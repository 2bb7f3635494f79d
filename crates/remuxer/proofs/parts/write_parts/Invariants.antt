use Rattle.std.proofs.Common.{◌≡◌}
use Rattle.remuxer.specs.Output.{turns_left}
use Rattle.remuxer.proofs.OutputsLemmas.{OnTheWay}
use Rattle.remuxer.proofs.parts.write_parts.Given as goal

abbrev pub invariant-parts : goal.invariant-parts
invariant-parts g l = record {
  way : OnTheWay g.F.Reads g.F.Files l.fn.spec l.fn.files l.fn.blocks l.files l.spec l.blocks l.written l.begun;
  reading : g.F.Reads.reading_faults l.files ≡ g.F.Reads.reading_faults l.fn.files;
  writing : g.F.Files.writing_faults l.files ≡ g.F.Files.writing_faults l.fn.files;
}

abbrev pub decreases-parts : goal.decreases-parts
decreases-parts g l = turns_left l.blocks l.begun
