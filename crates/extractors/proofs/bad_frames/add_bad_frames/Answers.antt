use Rattle.std.proofs.Common.{[], ◌∷◌, replicate, ◌∙◌, ap, subst}
use Rattle.std.proofs.lemmas.List.{replicate_more}
use Rattle.block_reader.specs.Buffered.{block_of}
use Rattle.cluster_reader.specs.ToldDamages.{with_damage}
use Rattle.extractors.specs.BadFrames.{TellsMore, bad_frame}
use Rattle.extractors.proofs.BadFramesLemmas.{TellsMore-one, TellsMore-then}
use Rattle.extractors.proofs.bad_frames.add_bad_frames.Goals as goal

-- One more frame is reported.
pub loop-preserved : goal.loop-preserved
loop-preserved c =
    let d = bad_frame (block_of c.args.cursor.now.block) in
    subst (TellsMore c.args.bad.now c.add.new.self) (replicate_more c.loop.counter d)
    (TellsMore-then c.args.bad.now c.loop.bad c.add.new.self (replicate c.loop.counter d) (d ∷ []) c.loop.invariant
    (TellsMore-one c.loop.bad c.add.new.self d (c.add.ensures ∙ ap (with_damage c.loop.bad) c.bad_frame.ensures)))
