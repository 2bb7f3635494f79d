use Rattle.std.proofs.Common.{◌≡◌, ℕ, ◌+◌, List, length, IfOk, ap, sym, subst, ◌∙◌, arith, ◌==◌, true, Bool, Option, Some, None, if◌then◌else◌, eq-eqb}
use Rattle.block_reader.specs.declared.head.BlockHead.{BlockHead}
use Rattle.cluster_reader.specs.Takes.{IsKnownByHead}
use Rattle.extractors.specs.Content.{counted, entries_from}
use Rattle.extractors.specs.Frames.{Frame, frames_of_block}
use Rattle.extractors.specs.Takes.{IsEnough}
use Rattle.extractors.specs.declared.frame_form.FrameForm.{FrameForm}
use Rattle.mkv_outputs.specs.Outputs.{with_more}
use Rattle.mkv_outputs.specs.Sinks.{Gives, HaveBeenGiven}
use Rattle.mkv_outputs.proofs.OutputsLemmas.{with_more-none}
use Rattle.extractors.proofs.BlocksLemmas.{count-none, frames_for-all, piece-none}
use Rattle.extractors.proofs.TakesLemmas.{enough-octets}
use Rattle.extractors.specs.declared.frames.Given.{Given}
use Rattle.std.specs.List.{filter}
use Rattle.extractors.specs.BadFrames.{is_bad}
use Rattle.extractors.proofs.BadFramesLemmas.{none-counted}
use Rattle.extractors.proofs.blocks.give_to.Goals as goal

-- A block of another track adds nothing.
pub returns-then-head-output-clause-gives : goal.returns-then-head-output-clause-gives
returns-then-head-output-clause-gives g c = λ b enough since given has.
    subst (HaveBeenGiven since (g.F.Files.names c.args.files.now) (g.F.Files.holder c.args.files.now) c.args.outputs.now)
    (sym (ap (λ (octets : List ℕ). with_more c.args.k octets given)
    (piece-none c.args.output.now c.args.number b (λ same. c.if-head-output.true (ap (λ (h : BlockHead). h.track) c.head.ensures.exact ∙ sym enough.track ∙ same)))
    ∙ with_more-none c.args.k given))
    has

pub returns-then-head-output-clause-number : goal.returns-then-head-output-clause-number
returns-then-head-output-clause-number g c = λ b enough.
    count-none c.args.output.now c.args.number b (λ same. c.if-head-output.true (ap (λ (h : BlockHead). h.track) c.head.ensures.exact ∙ sym enough.track ∙ same)) (omega (arith, c.ranges.number))

-- A block of the output's track adds its frames.
pub returns-in_default-clause-gives : goal.returns-in_default-clause-gives
returns-in_default-clause-gives g c = λ b enough.
    let track = sym (ap (λ (h : BlockHead). h.track) c.head.ensures.exact) ∙ c.if-head-output.false in
    let is = enough-octets c.args.output.now.form b c.args.cursor.now.block c.in_default.not-Time (enough.own track) in
    let P : List Frame → Type 0 = λ frames. Gives g.F.Files c.args.files.now c.give_frames.new.files c.args.outputs.now c.give_frames.new.outputs (with_more c.args.k (entries_from c.args.output.now c.args.number frames)) c.give_frames.result in
    subst P (ap (frames_of_block c.args.output.now.step) (sym is) ∙ sym (frames_for-all c.args.output.now b (enough.track ∙ track))) c.give_frames.ensures.gives

pub returns-in_default-clause-number : goal.returns-in_default-clause-number
returns-in_default-clause-number g c = λ b enough.
    let track = sym (ap (λ (h : BlockHead). h.track) c.head.ensures.exact) ∙ c.if-head-output.false in
    let is = enough-octets c.args.output.now.form b c.args.cursor.now.block c.in_default.not-Time (enough.own track) in
    let P : List Frame → Type 0 = λ frames. IfOk c.give_frames.result (λ (given : Given). given.next ≡ counted (c.args.number + length frames)) in
    subst P (ap (frames_of_block c.args.output.now.step) (sym is) ∙ sym (frames_for-all c.args.output.now b (enough.track ∙ track))) c.give_frames.ensures.number

-- Or it adds their timestamps.
pub returns-in-Time-clause-gives : goal.returns-in-Time-clause-gives
returns-in-Time-clause-gives g c = λ b enough.
    let track = sym (ap (λ (h : BlockHead). h.track) c.head.ensures.exact) ∙ c.if-head-output.false in
    let known : IsKnownByHead b c.args.cursor.now.block = subst (λ (f : FrameForm). IsEnough f b c.args.cursor.now.block) c.in-Time.is (enough.own track) in
    let P : List Frame → Type 0 = λ frames. Gives g.F.Files c.args.files.now c.give_times.new.files c.args.outputs.now c.give_times.new.outputs (with_more c.args.k (entries_from c.args.output.now c.args.number frames)) c.give_times.result in
    subst P (sym (frames_for-all c.args.output.now b (enough.track ∙ track))) (c.give_times.ensures.gives b known)

pub returns-in-Time-clause-number : goal.returns-in-Time-clause-number
returns-in-Time-clause-number g c = λ b enough.
    let track = sym (ap (λ (h : BlockHead). h.track) c.head.ensures.exact) ∙ c.if-head-output.false in
    let known : IsKnownByHead b c.args.cursor.now.block = subst (λ (f : FrameForm). IsEnough f b c.args.cursor.now.block) c.in-Time.is (enough.own track) in
    let P : List Frame → Type 0 = λ frames. IfOk c.give_times.result (λ (given : Given). given.next ≡ counted (c.args.number + length frames)) in
    subst P (sym (frames_for-all c.args.output.now b (enough.track ∙ track))) (c.give_times.ensures.number b known)

-- No frame is bad where timestamps are written.
pub returns-in-Time-clause-bad : goal.returns-in-Time-clause-bad
returns-in-Time-clause-bad g c = λ b enough.
    let o = c.args.output.now in
    let track = enough.track ∙ sym (ap (λ (h : BlockHead). h.track) c.head.ensures.exact) ∙ c.if-head-output.false in
    let own : (o.track == b.track) ≡ true = eq-eqb o.track b.track (sym track) in
    subst (λ (bad : Option ℕ). IfOk c.give_times.result (λ (given : Given). given.bad ≡ bad))
    (ap Some (sym (none-counted o b c.in-Time.is)) ∙ ap (λ (is : Bool). if is then Some (length (filter (is_bad o) b.frames)) else None) (sym own))
    c.give_times.ensures.bad
