use mir.Val.{bool_byte}
use Rattle.std.proofs.Common.{◌≡◌, ◌<◌, ◌≤◌, ◌+◌, ◌-◌, ℕ, Bool, true, false, not, if◌then◌else◌, Some, take, drop, List, length, get_or, sum, refl, sym, ◌∙◌, ap, subst, rules, arith, w64, SFits}
use Rattle.mkv_outputs.specs.Outputs.{with_more}
use Rattle.mkv_outputs.specs.Sinks.{Gives}
use Rattle.mkv_outputs.proofs.FilesLemmas.{WritesOutputs-none, WritesOutputs-then}
use Rattle.mkv_outputs.proofs.GivenLemmas.{length-same}
use Rattle.extractors.specs.BadFrames.{is_bad}
use Rattle.extractors.specs.Content.{counted, entry_of}
use Rattle.extractors.proofs.BadFramesLemmas.{bad_left, bad_left-block, bad_left-next, bad_left-none}
use Rattle.extractors.proofs.FramesLemmas.{GivesUpTo-begins, GivesUpTo-ends, GivesUpTo-more, GivesUpTo-stops, HasGiven, entries_left, entries_left-block, entries_left-found, entries_left-none, length-frames_in, rest-next}
use Rattle.extractors.proofs.frames.give_frames.Goals as goal

less : (a b : ℕ) → (a + b) - a ≡ b
less a b = omega arith

-- A flag counts as 1 or 0.
byte-is : (b : Bool) → bool_byte b ≡ (if b then 1 else 0)
byte-is true = refl
byte-is false = refl

byte-small : (b : Bool) → bool_byte b ≤ 1
byte-small true = omega arith
byte-small false = omega arith

-- One more frame is counted, if it is bad.
counted-on : (bad one first left next total : ℕ) → one ≡ first → left ≡ first + next → bad + left ≡ total → bad + one + next ≡ total
counted-on bad one first left next total same step all = omega (arith, same, step, all)

all-counted : (bad left total : ℕ) → left ≡ 0 → bad + left ≡ total → bad ≡ total
all-counted bad left total none all = omega (arith, none, all)

-- No frame is written yet.
pub loop-i-init : goal.loop-i-init
loop-i-init g c = record {
  so = GivesUpTo-begins g.F.Files c.args.files.now c.args.outputs.now c.args.k _ _ refl;
  rest = none (sum c.sizes-sizes.result.now) ∙ ap sum c.sizes-sizes.ensures.exact ∙ c.body-body.ensures.cut;
  bad = none (bad_left c.args.output.now c.sizes-sizes.result.now c.body-body.result.now 0 0)
      ∙ bad_left-block c.args.output.now c.sizes-sizes.result.now c.body-body.result.now c.args.cursor.now.block c.sizes-sizes.ensures.exact c.body-body.ensures.exact;
  few = omega arith;
  count = refl;
  wrote = WritesOutputs-none g.F.Reads g.F.Files c.args.files.now c.args.outputs.now c.requires.open;
  writing = refl;
}
  where
    none : (n : ℕ) → 0 + n ≡ n
    none n = omega arith

-- The next frame was written.
pub loop-i-preserved : goal.loop-i-preserved
loop-i-preserved g c =
    let o = c.args.output.now in
    let time = c.head-head.result.now.time in
    let sizes = c.sizes-sizes.result.now in
    let body = c.body-body.result.now in
    let below : c.loop-i.i < length sizes = c.loop-i-test.true in
    let fits : SFits w64 c.frame_time.result = search rules in
    record {
      so = GivesUpTo-more c.loop-i.invariant.so c.give_frame.new.files c.give_frame.new.outputs (entry_of o c.saturating_add.result _)
          (entries_left o c.args.number o.step time c.unwrap_or-duration.result sizes body (c.loop-i.i + 1) (c.loop-i.at + get_or sizes c.loop-i.i 0))
          (entries_left-found o c.args.number time c.unwrap_or-duration.result sizes body c.loop-i.i c.loop-i.at c.saturating_add.result c.frame_time.result below c.saturating_add.ensures fits c.frame_time.ensures)
          c.in_ok-is_written.ensures.gives;
      rest = rest-next sizes c.loop-i.i c.loop-i.at _ (length body) below refl c.loop-i.invariant.rest;
      bad =
          let seen = c.in_ok-is_written.ensures.good ∙ ap (λ (n : ℕ). not (is_bad o (take n (drop c.loop-i.at body)))) (less c.loop-i.at (get_or sizes c.loop-i.i 0)) in
          let next = bad_left-next o sizes body c.loop-i.i c.loop-i.at (get_or sizes c.loop-i.i 0) c.in_ok-is_written.is_written below refl seen in
          let one = c.from-bad.ensures ∙ byte-is (not c.in_ok-is_written.is_written) in
          counted-on c.loop-i.bad c.from-bad.result _ _ _ _ one next c.loop-i.invariant.bad;
      few =
          let one = byte-small (not c.in_ok-is_written.is_written) in
          omega (arith, c.loop-i.invariant.few, c.from-bad.ensures, one);
      count = length-same c.loop-i.outputs c.give_frame.new.outputs c.give_frame.ensures.only.same ∙ c.loop-i.invariant.count;
      wrote = WritesOutputs-then g.F.Reads g.F.Files c.args.files.now c.loop-i.files c.give_frame.new.files c.args.outputs.now c.loop-i.outputs c.give_frame.new.outputs c.requires.open c.loop-i.invariant.wrote c.give_frame.ensures.only;
      writing = c.in_ok-is_written.ensures.cause ∙ c.loop-i.invariant.writing;
    }

-- The frame was written in part.
pub returns-in_err-is_written-clause-gives : goal.returns-in_err-is_written-clause-gives
returns-in_err-is_written-clause-gives g c =
    let o = c.args.output.now in
    let time = c.head-head.result.now.time in
    let sizes = c.sizes-sizes.result.now in
    let body = c.body-body.result.now in
    let fits : SFits w64 c.frame_time.result = search rules in
    subst (λ (octets : List ℕ). Gives g.F.Files c.args.files.now c.give_frame.new.files c.args.outputs.now c.give_frame.new.outputs (with_more c.args.k octets) c.from_residual.result)
    (entries_left-block o c.args.number o.step sizes body c.head-head.result.now c.unwrap_or-duration.result c.args.cursor.now.block c.head-head.ensures.exact c.sizes-sizes.ensures.exact c.body-body.ensures.exact c.unwrap_or-duration.ensures)
    (GivesUpTo-stops c.loop-i.invariant.so c.give_frame.new.files c.give_frame.new.outputs (entry_of o c.saturating_add.result _)
    (entries_left o c.args.number o.step time c.unwrap_or-duration.result sizes body (c.loop-i.i + 1) (c.loop-i.at + get_or sizes c.loop-i.i 0))
    (entries_left-found o c.args.number time c.unwrap_or-duration.result sizes body c.loop-i.i c.loop-i.at c.saturating_add.result c.frame_time.result c.loop-i-test.true c.saturating_add.ensures fits c.frame_time.ensures)
    c.from_residual.result c.from_residual.ensures.0 c.in_err-is_written.ensures.gives)

-- Only the output was written until then.
pub returns-in_err-is_written-clause-only : goal.returns-in_err-is_written-clause-only
returns-in_err-is_written-clause-only g c =
    WritesOutputs-then g.F.Reads g.F.Files c.args.files.now c.loop-i.files c.give_frame.new.files c.args.outputs.now c.loop-i.outputs c.give_frame.new.outputs c.requires.open c.loop-i.invariant.wrote c.give_frame.ensures.only

-- All frames were written.
pub returns-clause-gives : goal.returns-clause-gives
returns-clause-gives g c =
    let o = c.args.output.now in
    subst (HasGiven g.F.Files c.args.files.now c.loop-i.files c.args.outputs.now c.loop-i.outputs c.args.k)
    (entries_left-block o c.args.number o.step c.sizes-sizes.result.now c.body-body.result.now c.head-head.result.now c.unwrap_or-duration.result c.args.cursor.now.block c.head-head.ensures.exact c.sizes-sizes.ensures.exact c.body-body.ensures.exact c.unwrap_or-duration.ensures)
    (GivesUpTo-ends c.loop-i.invariant.so (entries_left-none o c.args.number o.step c.head-head.result.now.time c.unwrap_or-duration.result c.sizes-sizes.result.now c.body-body.result.now c.loop-i.i c.loop-i.at c.loop-i-test.false))

-- All bad frames were counted.
pub returns-clause-bad : goal.returns-clause-bad
returns-clause-bad g c =
    let none = bad_left-none c.args.output.now c.sizes-sizes.result.now c.body-body.result.now c.loop-i.i c.loop-i.at c.loop-i-test.false in
    ap Some (all-counted c.loop-i.bad _ _ none c.loop-i.invariant.bad)

-- The result is the number after them.
pub returns-clause-number : goal.returns-clause-number
returns-clause-number g c =
    c.saturating_add-2.ensures
    ∙ ap (λ (n : ℕ). counted (c.args.number + n)) (sym (length-frames_in c.args.output.now.step c.args.cursor.now.block c.sizes-sizes.result.now c.sizes-sizes.ensures.exact))
