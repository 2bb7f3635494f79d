use Rattle.std.proofs.Common.{sym, ◌∙◌, ap}
use Rattle.block_reader.specs.declared.head.BlockHead.{BlockHead}
use Rattle.lanes.proofs.EndLemmas.{frames-here}
use Rattle.lanes.proofs.frames.frames_of.Goals as goal

-- All frames of the track's block are its own.
pub returns-then-head-track-clause-exact : goal.returns-then-head-track-clause-exact
returns-then-head-track-clause-exact c =
    c.from.ensures
    ∙ c.frames.ensures.exact
    ∙ sym (frames-here c.args.track.now c.args.cursor.now.block (sym (ap (λ (h : BlockHead). h.track) c.head.ensures.exact) ∙ c.if-head-track.true))
