use Rattle.std.proofs.Common.{ap, ◌∙◌}
use Rattle.mkv_outputs.specs.declared.sink.Sink.{Sink}
use Rattle.mkv_outputs.proofs.FilesLemmas.{AreLive-at, AreOpen-kept, WritesOnly-sink}
use Rattle.mkv_outputs.proofs.GivenLemmas.{Gives-wrote, ids_of-set}
use Rattle.mkv_outputs.proofs.outputs.Outputs.write.Goals as goal

-- the file of each output is live
pub write-requires-clause-live : goal.write-requires-clause-live
write-requires-clause-live g c =
    AreLive-at (g.F.Reads.files (g.F.Reads.standing c.args.files.now)).live c.self.inside.sinks.items c.args.k c.index_mut.result.now
    (rw (← c.self.view_is) at c.requires.outputs.live) (rw (← c.self.view_is) at c.requires.below) c.index_mut.ensures.value

-- The first of the waiting and new bytes are written, and the others wait.
pub returns-clause-gives : goal.returns-clause-gives
returns-clause-gives g c = rw (← c.self.view_is)
    (Gives-wrote g.F.Files c.args.files.now c.write.new.files c.write.result (g.F.Reads.files (g.F.Reads.standing c.args.files.now)).live c.self.inside.sinks.items c.args.k
    c.index_mut.result.now c.write.new.sink c.args.bytes.now c.index_mut.ensures.value c.write.ensures.file (rw (← c.self.view_is) at c.requires.below)
    (rw (← c.self.view_is) at c.requires.outputs.live) c.write.ensures.only.kept.holders c.write.ensures.passes)

-- The files are the same and stay open, and only one is written.
pub returns-clause-only : goal.returns-clause-only
returns-clause-only g c = rw (← c.self.view_is)
    (let same = ids_of-set c.self.inside.sinks.items c.args.k c.index_mut.result.now c.write.new.sink (c.write.ensures.file ∙ ap (λ (s : Sink). s.file) c.index_mut.ensures.value) in
    record {
      same = same;
      outputs = AreOpen-kept g.F.Reads c.args.files.now c.write.new.files c.self.inside.sinks.items _ (rw (← c.self.view_is) at c.requires.outputs) same c.write.ensures.only.kept.live;
      only = WritesOnly-sink g.F.Reads g.F.Files c.args.files.now c.write.new.files c.self.inside.sinks.items c.args.k c.index_mut.result.now
          (rw (← c.self.view_is) at c.requires.below) c.index_mut.ensures.value c.write.ensures.only;
    })
