use Rattle.std.proofs.Common.{ap, ◌∙◌}
use Rattle.mkv_outputs.specs.declared.sink.Sink.{Sink}
use Rattle.mkv_outputs.proofs.FilesLemmas.{AreLive-at, AreOpen-kept, ArePassed-more, OnOk-map, WritesOnly-sink}
use Rattle.mkv_outputs.proofs.GivenLemmas.{Gives-flushed, ids_of-set}
use Rattle.mkv_outputs.proofs.outputs.Outputs.flush_one.Goals as goal

-- the file of each output is live
pub flush-requires-clause-live : goal.flush-requires-clause-live
flush-requires-clause-live g c =
    AreLive-at (g.F.Reads.files (g.F.Reads.standing c.args.files.now)).live c.self.inside.sinks.items c.args.k c.index_mut.result.now
    (rw (← c.self.view_is) at c.requires.outputs.live) (rw (← c.self.view_is) at c.requires.below) c.index_mut.ensures.value

-- The first of the waiting bytes are written, and the others wait.
pub returns-clause-gives : goal.returns-clause-gives
returns-clause-gives g c = rw (← c.self.view_is)
    (Gives-flushed g.F.Files c.args.files.now c.flush.new.files c.flush.result (g.F.Reads.files (g.F.Reads.standing c.args.files.now)).live c.self.inside.sinks.items c.args.k
    c.index_mut.result.now c.flush.new.sink c.index_mut.ensures.value c.flush.ensures.file (rw (← c.self.view_is) at c.requires.below)
    (rw (← c.self.view_is) at c.requires.outputs.live) c.flush.ensures.only.kept.holders c.flush.ensures.passes)

-- The files are the same and stay open, and only one is written.
pub returns-clause-only : goal.returns-clause-only
returns-clause-only g c = rw (← c.self.view_is)
    (let same = ids_of-set c.self.inside.sinks.items c.args.k c.index_mut.result.now c.flush.new.sink (c.flush.ensures.file ∙ ap (λ (s : Sink). s.file) c.index_mut.ensures.value) in
    record {
      same = same;
      outputs = AreOpen-kept g.F.Reads c.args.files.now c.flush.new.files c.self.inside.sinks.items _ (rw (← c.self.view_is) at c.requires.outputs) same c.flush.ensures.only.kept.live;
      only = WritesOnly-sink g.F.Reads g.F.Files c.args.files.now c.flush.new.files c.self.inside.sinks.items c.args.k c.index_mut.result.now
          (rw (← c.self.view_is) at c.requires.below) c.index_mut.ensures.value c.flush.ensures.only;
    })

-- No bytes wait for one more output.
pub returns-clause-passed : goal.returns-clause-passed
returns-clause-passed g c = λ are. OnOk-map c.flush.result
    (λ none. ArePassed-more c.self.inside.sinks.items c.args.k c.flush.new.sink (rw (← c.self.view_is) at c.requires.below) none (rw (← c.self.view_is) at are)) c.flush.ensures.ok
