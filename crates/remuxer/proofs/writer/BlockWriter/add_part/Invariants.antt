use Rattle.std.proofs.Common.{◌≡◌, ◌≤◌, false, Ok}
use Rattle.mkv_io.specs.Sources.{live_files}
use Rattle.cluster_writer.specs.Gathered.{HoldsSmall}
use Rattle.splitter.specs.Steps.{start_of}
use Rattle.time_merge.specs.Merge.{IsTold, way}
use Rattle.remuxer.specs.Places.{StandsAhead, is_within, turns}
use Rattle.remuxer.specs.Taking.{GoesOn, TakesSome, WritesInto}
use Rattle.remuxer.proofs.writer.BlockWriter.add_part.Given as goal

abbrev pub invariant-steps : goal.invariant-steps
invariant-steps g l = record {
  writes : WritesInto {T = Unit {0}} g.F.Reads g.F.Files l.initial.files l.files l.initial.self l.self (Ok (tt {0}));
  held : HoldsSmall l.initial.self.buffer → HoldsSmall l.self.buffer;
  goes : GoesOn g.F.Reads 0 l.initial.files l.files l.initial.blocks l.blocks;
  stands : StandsAhead l.blocks;
  start : l.blocks.start ≡ l.initial.blocks.start;
  on : is_within l.blocks.ahead ≡ false → turns l.blocks ≤ way l.initial.blocks.merge;
  less : way l.blocks.merge ≤ way l.initial.blocks.merge;
  reading : g.F.Reads.reading_faults l.files ≡ g.F.Reads.reading_faults l.initial.files;
  writing : g.F.Files.writing_faults l.files ≡ g.F.Files.writing_faults l.initial.files;
  takes : IsTold (live_files g.F.Reads l.initial.files) l.initial.blocks.merge
      → TakesSome g.F.Reads g.F.Files l.rules (start_of l.initial.blocks.cuts) l.initial.files l.files l.initial.self l.self l.initial.blocks l.blocks;
}

abbrev pub decreases-steps : goal.decreases-steps
decreases-steps g l = turns l.blocks
