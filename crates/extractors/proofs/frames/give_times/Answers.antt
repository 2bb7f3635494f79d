use Rattle.std.proofs.Common.{◌+◌, ◌-◌, ℕ, List, refl, sym, ◌∙◌, ap, subst, rules, w64, SFits, to_z, of_z}
use Rattle.mkv_outputs.specs.Outputs.{with_more}
use Rattle.mkv_outputs.specs.Sinks.{Gives}
use Rattle.mkv_outputs.proofs.FilesLemmas.{WritesOutputs-none, WritesOutputs-then}
use Rattle.mkv_outputs.proofs.GivenLemmas.{length-same}
use Rattle.extractors.specs.Content.{counted}
use Rattle.extractors.specs.Times.{time_line}
use Rattle.extractors.proofs.FramesLemmas.{GivesUpTo-begins, GivesUpTo-ends, GivesUpTo-more, GivesUpTo-stops, HasGiven, length-times, times-block, times_left, times_left-found, times_left-none}
use Rattle.extractors.proofs.frames.give_times.Goals as goal

-- No time is written yet.
pub loop-i-init : goal.loop-i-init
loop-i-init g c = record {
  so = GivesUpTo-begins g.F.Files c.args.files.now c.args.outputs.now c.args.k _ _ refl;
  count = refl;
  wrote = WritesOutputs-none g.F.Reads g.F.Files c.args.files.now c.args.outputs.now c.requires.open;
  writing = refl;
}

-- The next time was written.
pub loop-i-preserved : goal.loop-i-preserved
loop-i-preserved g c =
    let step = c.args.output.now.step in
    let time = c.head-head.result.now.time in
    let n = c.frames-frames.result in
    let fits : SFits w64 c.frame_time-time.result = search rules in
    record {
      so = GivesUpTo-more c.loop-i.invariant.so c.give_time.new.files c.give_time.new.outputs (time_line (to_z w64 (of_z w64 c.frame_time-time.result))) (times_left step time (c.loop-i.i + 1) (n - (c.loop-i.i + 1)))
          (times_left-found step time c.loop-i.i n c.frame_time-time.result c.loop-i-test.true fits c.frame_time-time.ensures)
          c.in_ok-give_time.ensures.gives;
      count = length-same c.loop-i.outputs c.give_time.new.outputs c.give_time.ensures.only.same ∙ c.loop-i.invariant.count;
      wrote = WritesOutputs-then g.F.Reads g.F.Files c.args.files.now c.loop-i.files c.give_time.new.files c.args.outputs.now c.loop-i.outputs c.give_time.new.outputs c.requires.open c.loop-i.invariant.wrote c.give_time.ensures.only;
      writing = c.in_ok-give_time.ensures.cause ∙ c.loop-i.invariant.writing;
    }

-- The time was written in part.
pub returns-in_err-give_time-clause-gives : goal.returns-in_err-give_time-clause-gives
returns-in_err-give_time-clause-gives g c = λ b known.
    let step = c.args.output.now.step in
    let time = c.head-head.result.now.time in
    let n = c.frames-frames.result in
    let fits : SFits w64 c.frame_time-time.result = search rules in
    subst (λ (octets : List ℕ). Gives g.F.Files c.args.files.now c.give_time.new.files c.args.outputs.now c.give_time.new.outputs (with_more c.args.k octets) c.from_residual.result)
    (times-block c.args.output.now c.args.number c.head-head.result.now n b c.args.cursor.now.block c.requires.times c.head-head.ensures.exact c.frames-frames.ensures.exact known)
    (GivesUpTo-stops c.loop-i.invariant.so c.give_time.new.files c.give_time.new.outputs (time_line (to_z w64 (of_z w64 c.frame_time-time.result))) (times_left step time (c.loop-i.i + 1) (n - (c.loop-i.i + 1)))
    (times_left-found step time c.loop-i.i n c.frame_time-time.result c.loop-i-test.true fits c.frame_time-time.ensures)
    c.from_residual.result c.from_residual.ensures.0 c.in_err-give_time.ensures.gives)

-- Only the output was written until then.
pub returns-in_err-give_time-clause-only : goal.returns-in_err-give_time-clause-only
returns-in_err-give_time-clause-only g c =
    WritesOutputs-then g.F.Reads g.F.Files c.args.files.now c.loop-i.files c.give_time.new.files c.args.outputs.now c.loop-i.outputs c.give_time.new.outputs c.requires.open c.loop-i.invariant.wrote c.give_time.ensures.only

-- All times were written.
pub returns-clause-gives : goal.returns-clause-gives
returns-clause-gives g c = λ b known.
    let n = c.frames-frames.result in
    subst (HasGiven g.F.Files c.args.files.now c.loop-i.files c.args.outputs.now c.loop-i.outputs c.args.k)
    (times-block c.args.output.now c.args.number c.head-head.result.now n b c.args.cursor.now.block c.requires.times c.head-head.ensures.exact c.frames-frames.ensures.exact known)
    (GivesUpTo-ends c.loop-i.invariant.so (times_left-none c.args.output.now.step c.head-head.result.now.time c.loop-i.i n c.loop-i-test.false))

-- The result is the number after them.
pub returns-clause-number : goal.returns-clause-number
returns-clause-number g c = λ b known.
    c.saturating_add.ensures
    ∙ ap (λ (n : ℕ). counted (c.args.number + n)) (sym (length-times c.args.output.now.step c.frames-frames.result b c.args.cursor.now.block c.frames-frames.ensures.exact known))
