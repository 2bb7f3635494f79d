-- The inputs were read, got their append offsets, and were planned.
use Rattle.std.proofs.Common.{◌≡◌, ℕ, None, List, ◌++◌, Err, get_or, length, map, sym, ◌∙◌, ap, subst, arith}
use Rattle.std.specs.List.{All}
use Rattle.std.proofs.lemmas.List.{length-map}
use Rattle.std.proofs.lemmas.Result.{err_from_is_err_and}
use Rattle.mkv_io.specs.LiveFiles.{LiveFiles}
use Rattle.mkv_io.specs.Sources.{live_files}
use Rattle.mkv_io.specs.declared.outside.FileId.{FileId}
use Rattle.mkv_outputs.specs.Sinks.{AreLive}
use Rattle.input_files.specs.Inputs.{first_large, sizes_of}
use Rattle.merge_inputs.specs.Input.{IsInput, read_in}
use Rattle.merge_inputs.specs.declared.input.Input.{Input}
use Rattle.merge_plan.specs.Appending.{append_refusal}
use Rattle.merge_plan.specs.Planned.{CanBeWritten, IsPlanOf, Plans}
use Rattle.merge_plan.specs.Refusal.{plan_refusal}
use Rattle.merge_plan.specs.TakenTracks.{HasRecords, HasTaken}
use Rattle.merge_plan.proofs.PlanLemmas.{input-taken}
use Rattle.mkv_merge.specs.Attached.{ChecksSizes, attached_reads}
use Rattle.mkv_merge.specs.Prepared.{AreTold, reads_in}
use Rattle.mkv_merge.proofs.PreparingLemmas.{attached-lengths, chapters-ended, differs-refused, input-ended, large-refused, pays-both, plan-ended, plan-found, times-ended}
use Rattle.mkv_merge.proofs.TextsLemmas.{inputs-timed}
use Rattle.mkv_merge.proofs.preparing.prepare.Goals as goal

-- An input wasn't read.
pub returns-in_err-read-clause-exact : goal.returns-in_err-read-clause-exact
returns-in_err-read-clause-exact g c = λ contents told attached other.
    let p = err_from_is_err_and c.from_residual.result c.from_residual.ensures.1 in
    rw (p.1, p.2) (input-ended c.args.words.now c.args.texts contents attached c.in_err-read.field-0.0 (c.in_err-read.ensures.exact contents told))

-- The chapter file was refused.
pub returns-in_err-chaptered-clause-exact : goal.returns-in_err-chaptered-clause-exact
returns-in_err-chaptered-clause-exact g c = λ contents told attached other.
    let p = err_from_is_err_and c.from_residual-in_err-chaptered.result c.from_residual-in_err-chaptered.ensures.1 in
    rw (p.1, p.2) (chapters-ended c.args.words.now c.args.texts contents attached c.in_ok-read.read c.in_err-chaptered.field-0.0 (c.in_ok-read.ensures.exact contents told) c.in_err-chaptered.ensures.exact)

-- A timestamp file was refused.
pub returns-in_err-timed-clause-exact : goal.returns-in_err-timed-clause-exact
returns-in_err-timed-clause-exact g c = λ contents told attached other.
    let p = err_from_is_err_and c.from_residual-in_err-timed.result c.from_residual-in_err-timed.ensures.1 in
    rw (p.1, p.2)
    (times-ended c.args.words.now c.args.texts contents attached c.in_ok-read.read c.in_ok-chaptered.chaptered (c.in_ok-read.ensures.exact contents told) c.in_ok-chaptered.ensures.exact c.in_err-timed.field-0.0 c.in_err-timed.ensures.exact)

-- An attached file is too large.
pub returns-in_err-check_sizes-clause-exact : goal.returns-in_err-check_sizes-clause-exact
returns-in_err-check_sizes-clause-exact g c = λ contents told attached other.
    let p = err_from_is_err_and c.from_residual-in_err-check_sizes.result c.from_residual-in_err-check_sizes.ensures.1 in
    let words = c.args.words.now in
    let now = live_files g.R.Reads c.read_inputs.new.src in
    let standing : now ≡ live_files g.R.Reads c.args.src.now = ap g.R.Reads.files c.in_ok-read.ensures.reading.standing in
    let lens = attached-lengths now (g.met.R.Reads.told_size (g.R.Reads.standing c.read_inputs.new.src)) c.args.attached.now attached (subst (λ (f : LiveFiles). AreTold f c.args.attached.now attached) (sym standing) other) in
    rw (p.1, p.2)
    (large-refused words c.args.texts contents attached c.in_ok-read.read c.in_ok-chaptered.chaptered (c.in_ok-read.ensures.exact contents told) c.in_ok-chaptered.ensures.exact c.in_ok-timed.timed c.in_ok-timed.ensures.exact
    c.in_err-check_sizes.field-0.0 (subst (λ (ns : List ℕ). ChecksSizes {T = Unit {0}} ns (Err c.in_err-check_sizes.field-0.0)) lens c.in_err-check_sizes.ensures))

-- An appended input can't continue the output tracks.
pub returns-in-Some-clause-exact : goal.returns-in-Some-clause-exact
returns-in-Some-clause-exact g c = λ contents told attached other.
    let words = c.args.words.now in
    let now = live_files g.R.Reads c.read_inputs.new.src in
    let standing : now ≡ live_files g.R.Reads c.args.src.now = ap g.R.Reads.files c.in_ok-read.ensures.reading.standing in
    let lens = attached-lengths now (g.met.R.Reads.told_size (g.R.Reads.standing c.read_inputs.new.src)) c.args.attached.now attached (subst (λ (f : LiveFiles). AreTold f c.args.attached.now attached) (sym standing) other) in
    let small = ap first_large (sym lens) ∙ c.in_ok-check_sizes.ensures in
    differs-refused words c.args.texts contents attached c.in_ok-read.read c.in_ok-chaptered.chaptered (c.in_ok-read.ensures.exact contents told) c.in_ok-chaptered.ensures.exact c.in_ok-timed.timed c.in_ok-timed.ensures.exact small c.in-Some.differs
    (ap append_refusal (sym (ap (map read_in) c.as_slice.ensures)) ∙ sym c.append_refusal.ensures ∙ c.in-Some.is)

-- The attached files are live.
pub check_sizes-requires : goal.check_sizes-requires
check_sizes-requires g c = subst (λ (f : LiveFiles). AreLive f.live c.args.attached.now) (sym (ap g.R.Reads.files c.in_ok-read.ensures.reading.standing)) c.requires.attached.live

pub with_attached-requires : goal.with_attached-requires
with_attached-requires g c = record {
  live = record {
    live = subst (λ (f : LiveFiles). AreLive f.live c.args.attached.now) (sym (ap g.R.Reads.files (c.in_ok-placed.ensures.standing ∙ c.in_ok-read.ensures.reading.standing))) c.requires.attached.live;
    each = c.requires.attached.each;
  };
}

-- The inputs that were read are inputs of the files.
pub assign_append_offsets-requires-clause-inputs : goal.assign_append_offsets-requires-clause-inputs
assign_append_offsets-requires-clause-inputs g c =
    (inputs-timed (live_files g.R.Reads c.read_inputs.new.src) c.args.files.now c.args.words.now.webm c.args.texts.chapters c.in_ok-read.read c.in_ok-chaptered.chaptered c.in_ok-timed.timed
    c.requires.chapters c.in_ok-read.ensures.inputs c.in_ok-chaptered.ensures.exact c.in_ok-timed.ensures.same).good

-- There are at most 64 inputs.
pub assign_append_offsets-requires-clause-few : goal.assign_append_offsets-requires-clause-few
assign_append_offsets-requires-clause-few g c =
    let inputs : List Input = c.in_ok-timed.timed in
    let are = inputs-timed (live_files g.R.Reads c.read_inputs.new.src) c.args.files.now c.args.words.now.webm c.args.texts.chapters c.in_ok-read.read c.in_ok-chaptered.chaptered inputs
    c.requires.chapters c.in_ok-read.ensures.inputs c.in_ok-chaptered.ensures.exact c.in_ok-timed.ensures.same in
    omega (arith, length-map inputs (λ (i : Input). i.file), ap (λ (l : List FileId). length l) are.of, c.requires.ready.each, c.requires.ready.sound.files.most)

-- The inputs and the attached files can be planned.
pub plan_of-requires-clause-tracks : goal.plan_of-requires-clause-tracks
plan_of-requires-clause-tracks g c =
    let f = live_files g.R.Reads c.assign_append_offsets.new.src in
    let good : All (IsInput f) c.in_ok-inputs.inputs = c.in_ok-inputs.ensures.valid.good c.in_ok-placed.ensures.placed.good in
    subst (All HasTaken) (sym c.as_slice-2.ensures) (λ k d below. input-taken f (get_or c.in_ok-inputs.inputs k d) (good k d below))

pub plan_of-requires-clause-records : goal.plan_of-requires-clause-records
plan_of-requires-clause-records g c =
    let f = live_files g.R.Reads c.assign_append_offsets.new.src in
    let good : All (IsInput f) c.in_ok-inputs.inputs = c.in_ok-inputs.ensures.valid.good c.in_ok-placed.ensures.placed.good in
    subst (All HasRecords) (sym c.as_slice-2.ensures)
    (λ k d below. record { attachments = (good k d below).attachments; chapters = (good k d below).chapters; tags = (good k d below).tags })

-- The inputs aren't planned.
pub returns-in_err-plan-clause-exact : goal.returns-in_err-plan-clause-exact
returns-in_err-plan-clause-exact g c = λ contents told attached other.
    let p = err_from_is_err_and c.from_residual-in_err-plan.result c.from_residual-in_err-plan.ensures.1 in
    let words = c.args.words.now in
    let now = live_files g.R.Reads c.read_inputs.new.src in
    let standing : now ≡ live_files g.R.Reads c.args.src.now = ap g.R.Reads.files c.in_ok-read.ensures.reading.standing in
    let lens = attached-lengths now (g.met.R.Reads.told_size (g.R.Reads.standing c.read_inputs.new.src)) c.args.attached.now attached (subst (λ (f : LiveFiles). AreTold f c.args.attached.now attached) (sym standing) other) in
    let small = ap first_large (sym lens) ∙ c.in_ok-check_sizes.ensures in
    let later : live_files g.R.Reads c.assign_append_offsets.new.src ≡ now = ap g.R.Reads.files c.in_ok-placed.ensures.standing in
    let added = c.in_ok-inputs.ensures.exact ∙ ap (λ (sizes : List ℕ). reads_in c.in_ok-placed.placed ++ attached_reads words.webm words.attached sizes) (ap (λ (f : LiveFiles). sizes_of f c.args.attached.now) later ∙ lens) in
    rw (p.1, p.2)
    (plan-ended words c.args.texts contents attached c.in_ok-read.read c.in_ok-chaptered.chaptered (c.in_ok-read.ensures.exact contents told) c.in_ok-chaptered.ensures.exact c.in_ok-timed.timed c.in_ok-timed.ensures.exact small
    (live_files g.R.Reads c.args.src.now) now c.args.files.now c.args.attached.now c.in_ok-placed.placed c.in_ok-inputs.inputs standing c.requires.chapters c.in_ok-read.ensures.inputs c.in_ok-timed.ensures.same
    c.in_ok-placed.ensures.placed.files told (ap append_refusal (sym (ap (map read_in) c.as_slice.ensures)) ∙ sym c.append_refusal.ensures ∙ c.in_default.is) c.in_ok-placed.ensures.exact added c.in_ok-inputs.ensures.valid.of other
    c.in_err-plan.field-0.0 (subst (λ (inputs : List Input). Plans words inputs (Err c.in_err-plan.field-0.0)) c.as_slice-2.ensures c.in_err-plan.ensures.exact))

-- The inputs are planned.
pub returns-clause-exact : goal.returns-clause-exact
returns-clause-exact g c = λ contents told attached other.
    let words = c.args.words.now in
    let now = live_files g.R.Reads c.read_inputs.new.src in
    let standing : now ≡ live_files g.R.Reads c.args.src.now = ap g.R.Reads.files c.in_ok-read.ensures.reading.standing in
    let lens = attached-lengths now (g.met.R.Reads.told_size (g.R.Reads.standing c.read_inputs.new.src)) c.args.attached.now attached (subst (λ (f : LiveFiles). AreTold f c.args.attached.now attached) (sym standing) other) in
    let small = ap first_large (sym lens) ∙ c.in_ok-check_sizes.ensures in
    let later : live_files g.R.Reads c.assign_append_offsets.new.src ≡ now = ap g.R.Reads.files c.in_ok-placed.ensures.standing in
    let added = c.in_ok-inputs.ensures.exact ∙ ap (λ (sizes : List ℕ). reads_in c.in_ok-placed.placed ++ attached_reads words.webm words.attached sizes) (ap (λ (f : LiveFiles). sizes_of f c.args.attached.now) later ∙ lens) in
    plan-found words c.args.texts contents attached c.in_ok-read.read c.in_ok-chaptered.chaptered (c.in_ok-read.ensures.exact contents told) c.in_ok-chaptered.ensures.exact c.in_ok-timed.timed c.in_ok-timed.ensures.exact small
    (live_files g.R.Reads c.args.src.now) now c.args.files.now c.args.attached.now c.in_ok-placed.placed c.in_ok-inputs.inputs standing c.requires.chapters c.in_ok-read.ensures.inputs c.in_ok-timed.ensures.same
    c.in_ok-placed.ensures.placed.files told (ap append_refusal (sym (ap (map read_in) c.as_slice.ensures)) ∙ sym c.append_refusal.ensures ∙ c.in_default.is) c.in_ok-placed.ensures.exact added c.in_ok-inputs.ensures.valid.of other
    None (ap (plan_refusal words) (sym (ap (map read_in) c.as_slice-2.ensures)) ∙ c.in_ok-plan.ensures.exact.0)

pub returns-clause-prepared : goal.returns-clause-prepared
returns-clause-prepared g c =
    let ids = c.args.files.now in
    let timed : List Input = c.in_ok-timed.timed in
    let placed = c.in_ok-placed.ensures.placed in
    let now = live_files g.R.Reads c.read_inputs.new.src in
    let are = inputs-timed now ids c.args.words.now.webm c.args.texts.chapters c.in_ok-read.read c.in_ok-chaptered.chaptered timed
    c.requires.chapters c.in_ok-read.ensures.inputs c.in_ok-chaptered.ensures.exact c.in_ok-timed.ensures.same in
    let valid = c.in_ok-inputs.ensures.valid in
    let of : map (λ (i : Input). i.file) c.in_ok-placed.placed ≡ ids = placed.files ∙ are.of in
    record {
      inputs = record {
        good = valid.good placed.good;
        of = valid.of ∙ ap (λ (l : List FileId). l ++ c.args.attached.now) of;
        places = valid.places placed.places;
      };
      both = record {
        own = reads_in c.in_ok-placed.placed;
        sizes = sizes_of (live_files g.R.Reads c.assign_append_offsets.new.src) c.args.attached.now;
        are = c.in_ok-inputs.ensures.exact;
        many = length-map c.in_ok-placed.placed read_in ∙ sym (length-map c.in_ok-placed.placed (λ (i : Input). i.file)) ∙ ap (λ (l : List FileId). length l) of ∙ c.requires.ready.each;
      };
      plan = subst (λ (inputs : List Input). IsPlanOf c.args.words.now inputs c.in_ok-plan.plan) c.as_slice-2.ensures c.in_ok-plan.ensures.exact.1;
      written = subst (λ (inputs : List Input). CanBeWritten c.args.words.now.order inputs c.in_ok-plan.plan) c.as_slice-2.ensures c.in_ok-plan.ensures.written;
    }

-- ---- bytes read

pub returns-in_err-placed-clause-octets : goal.returns-in_err-placed-clause-octets
returns-in_err-placed-clause-octets g c =
    pays-both (live_files g.R.Reads c.args.src.now) (live_files g.R.Reads c.read_inputs.new.src) c.args.words.now.files c.args.files.now c.args.words.now.webm c.args.texts.chapters c.in_ok-read.read c.in_ok-chaptered.chaptered c.in_ok-timed.timed
    (g.R.Reads.octets_read c.args.src.now) (g.R.Reads.octets_read c.read_inputs.new.src) (g.R.Reads.octets_read c.assign_append_offsets.new.src) (ap g.R.Reads.files c.in_ok-read.ensures.reading.standing)
    c.requires.chapters c.in_ok-read.ensures.inputs c.in_ok-read.ensures.unmoved c.in_ok-chaptered.ensures.exact c.in_ok-timed.ensures.same c.read_inputs.ensures.octets c.assign_append_offsets.ensures.octets

pub returns-in_err-plan-clause-octets : goal.returns-in_err-plan-clause-octets
returns-in_err-plan-clause-octets g c =
    pays-both (live_files g.R.Reads c.args.src.now) (live_files g.R.Reads c.read_inputs.new.src) c.args.words.now.files c.args.files.now c.args.words.now.webm c.args.texts.chapters c.in_ok-read.read c.in_ok-chaptered.chaptered c.in_ok-timed.timed
    (g.R.Reads.octets_read c.args.src.now) (g.R.Reads.octets_read c.read_inputs.new.src) (g.R.Reads.octets_read c.assign_append_offsets.new.src) (ap g.R.Reads.files c.in_ok-read.ensures.reading.standing)
    c.requires.chapters c.in_ok-read.ensures.inputs c.in_ok-read.ensures.unmoved c.in_ok-chaptered.ensures.exact c.in_ok-timed.ensures.same c.read_inputs.ensures.octets c.assign_append_offsets.ensures.octets

pub returns-clause-octets : goal.returns-clause-octets
returns-clause-octets g c =
    pays-both (live_files g.R.Reads c.args.src.now) (live_files g.R.Reads c.read_inputs.new.src) c.args.words.now.files c.args.files.now c.args.words.now.webm c.args.texts.chapters c.in_ok-read.read c.in_ok-chaptered.chaptered c.in_ok-timed.timed
    (g.R.Reads.octets_read c.args.src.now) (g.R.Reads.octets_read c.read_inputs.new.src) (g.R.Reads.octets_read c.assign_append_offsets.new.src) (ap g.R.Reads.files c.in_ok-read.ensures.reading.standing)
    c.requires.chapters c.in_ok-read.ensures.inputs c.in_ok-read.ensures.unmoved c.in_ok-chaptered.ensures.exact c.in_ok-timed.ensures.same c.read_inputs.ensures.octets c.assign_append_offsets.ensures.octets

-- Memory ran out for an attached file.
pub returns-in_err-inputs-clause-octets : goal.returns-in_err-inputs-clause-octets
returns-in_err-inputs-clause-octets g c =
    pays-both (live_files g.R.Reads c.args.src.now) (live_files g.R.Reads c.read_inputs.new.src) c.args.words.now.files c.args.files.now c.args.words.now.webm c.args.texts.chapters c.in_ok-read.read c.in_ok-chaptered.chaptered c.in_ok-timed.timed
    (g.R.Reads.octets_read c.args.src.now) (g.R.Reads.octets_read c.read_inputs.new.src) (g.R.Reads.octets_read c.assign_append_offsets.new.src) (ap g.R.Reads.files c.in_ok-read.ensures.reading.standing)
    c.requires.chapters c.in_ok-read.ensures.inputs c.in_ok-read.ensures.unmoved c.in_ok-chaptered.ensures.exact c.in_ok-timed.ensures.same c.read_inputs.ensures.octets c.assign_append_offsets.ensures.octets
