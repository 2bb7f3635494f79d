use Rattle.std.proofs.Common.{◌≡◌, ℕ, ◌+◌, List, [], ◌∷◌, ◌++◌, get_or, sym, ◌∙◌, ap, subst, arith, map, take}
use Rattle.std.specs.List.{All}
use Rattle.std.proofs.lemmas.List.{map-append, take_all}
use Rattle.std.proofs.lemmas.List.Elements.{All-push}
use Rattle.std.proofs.lemmas.Result.{err_from_is_err_and}
use Rattle.mkv_io.specs.Faults.{counted}
use Rattle.mkv_io.specs.Sources.{file_size, live_files}
use Rattle.requests.specs.declared.merge.FileWords.{FileWords}
use Rattle.requests.specs.Sound.{IsSoundFile}
use Rattle.merge_inputs.specs.Input.{IsInput, read_in}
use Rattle.merge_inputs.specs.declared.input.Input.{Input}
use Rattle.merge_plan.specs.TakenTracks.{HasPlace}
use Rattle.mkv_merge.specs.Prepared.{AreUnmoved, reads_in}
use Rattle.mkv_merge.proofs.PreparingLemmas.{GoesOn, files-more, pays-all, pays-more, read-at, read-end, read-place, refused-at, shifts-more}
use Rattle.mkv_merge.proofs.preparing.read_inputs.Goals as goal

-- The file's part of the command line is valid.
pub read_one-requires-clause-delays : goal.read_one-requires-clause-delays
read_one-requires-clause-delays g c =
    let w = c.index-as_slice-input.result in
    let is : w ≡ get_or c.args.words.now.files c.loop-input.input w = c.index-as_slice-input.is ∙ ap (λ (files : List FileWords). get_or files c.loop-input.input w) c.as_slice.ensures in
    subst IsSoundFile (sym is) (c.requires.ready.sound.each c.loop-input.input w (omega arith))

-- A refusal of the input refuses the merge.
pub returns-in_err-read-clause-exact : goal.returns-in_err-read-clause-exact
returns-in_err-read-clause-exact g c = λ contents told.
    let p = err_from_is_err_and c.from_residual.result c.from_residual.ensures.1 in
    let w = c.index-as_slice-input.result in
    rw (p.1, p.2) (refused-at (live_files g.R.Reads c.args.src.now) c.args.words.now c.args.files.now contents c.loop-input.input c.loop-input.held (reads_in c.loop-input.inputs) w (record { n = 0 }) c.in_err-read.field-0.0
    c.requires.ready.each c.loop-input-test.true
    (c.index-as_slice-input.is ∙ ap (λ (files : List FileWords). get_or files c.loop-input.input w) c.as_slice.ensures) told
    (λ bytes is. c.in_err-read.ensures.exact bytes (ap (λ standing. (g.R.Reads.files standing).content (get_or c.args.files.now c.loop-input.input (record { n = 0 })).n) c.loop-input.invariant.standing ∙ is))
    (c.loop-input.invariant.goes_on contents told))

-- The input wasn't read to its end.
pub returns-in_err-read-clause-octets : goal.returns-in_err-read-clause-octets
returns-in_err-read-clause-octets g c =
    let f = live_files g.R.Reads c.args.src.now in
    let start = g.R.Reads.octets_read c.args.src.now in
    let now = g.R.Reads.octets_read c.read_one.new.src in
    pays-all f c.args.files.now (c.loop-input.input + 1) start now
    (pays-more f c.args.files.now c.loop-input.input (record { n = 0 }) start (g.R.Reads.octets_read c.loop-input.src) now
    (file_size g.R.Reads c.loop-input.src (get_or c.args.files.now c.loop-input.input (record { n = 0 }))) c.loop-input-test.true
    (ap (λ standing. (g.R.Reads.files standing).size (get_or c.args.files.now c.loop-input.input (record { n = 0 })).n) c.loop-input.invariant.standing)
    c.loop-input.invariant.octets c.read_one.ensures.octets)

-- Memory ran out for the input.
pub returns-in_err-push-clause-octets : goal.returns-in_err-push-clause-octets
returns-in_err-push-clause-octets g c =
    let f = live_files g.R.Reads c.args.src.now in
    let start = g.R.Reads.octets_read c.args.src.now in
    let now = g.R.Reads.octets_read c.read_one.new.src in
    pays-all f c.args.files.now (c.loop-input.input + 1) start now
    (pays-more f c.args.files.now c.loop-input.input (record { n = 0 }) start (g.R.Reads.octets_read c.loop-input.src) now
    (file_size g.R.Reads c.loop-input.src (get_or c.args.files.now c.loop-input.input (record { n = 0 }))) c.loop-input-test.true
    (ap (λ standing. (g.R.Reads.files standing).size (get_or c.args.files.now c.loop-input.input (record { n = 0 })).n) c.loop-input.invariant.standing)
    c.loop-input.invariant.octets c.read_one.ensures.octets)

-- One more input is read.
pub loop-input-preserved : goal.loop-input-preserved
loop-input-preserved g c = record {
  good = subst (All (IsInput (live_files g.R.Reads c.args.src.now))) (sym c.in_ok-push.ensures.ok)
      (All-push (IsInput (live_files g.R.Reads c.args.src.now)) c.loop-input.inputs c.in_ok-read.read c.loop-input.invariant.good
      (subst (λ standing. IsInput (g.R.Reads.files standing) c.in_ok-read.read) (c.read_one.ensures.reading.standing ∙ c.loop-input.invariant.standing) c.in_ok-read.ensures.input));
  of = ap (map (λ (i : Input). i.file)) c.in_ok-push.ensures.ok
      ∙ files-more c.loop-input.inputs c.in_ok-read.read c.args.files.now c.loop-input.input (record { n = 0 }) c.loop-input-test.true c.in_ok-read.ensures.file.file c.loop-input.invariant.of;
  unmoved =
      let w = c.index-as_slice-input.result in
      subst (AreUnmoved (take (c.loop-input.input + 1) c.args.words.now.files)) (sym c.in_ok-push.ensures.ok)
      (shifts-more c.loop-input.inputs c.in_ok-read.read c.args.words.now.files c.loop-input.input w (omega (arith, c.requires.ready.each, c.loop-input-test.true))
      (c.index-as_slice-input.is ∙ ap (λ (files : List FileWords). get_or files c.loop-input.input w) c.as_slice.ensures)
      c.in_ok-read.ensures.file.unmoved c.loop-input.invariant.unmoved);
  places = subst (All HasPlace) (sym c.in_ok-push.ensures.ok) (All-push HasPlace c.loop-input.inputs c.in_ok-read.read c.loop-input.invariant.places (read-place _ _ c.in_ok-read.read c.in_ok-read.ensures.file));
  goes_on = λ contents told.
      let w = c.index-as_slice-input.result in
      let read = c.in_ok-read.read in
      subst (GoesOn c.args.words.now contents (c.loop-input.input + 1) c.saturating_add-held.result)
      (sym (ap reads_in c.in_ok-push.ensures.ok ∙ map-append read_in c.loop-input.inputs (read ∷ [])))
      (subst (λ (held : ℕ). GoesOn c.args.words.now contents (c.loop-input.input + 1) held (reads_in c.loop-input.inputs ++ read_in read ∷ []))
      (sym (c.saturating_add-held.ensures ∙ ap (counted c.loop-input.held) c.held_by.ensures))
      (read-at (live_files g.R.Reads c.args.src.now) c.args.words.now c.args.files.now contents c.loop-input.input c.loop-input.held (reads_in c.loop-input.inputs) w (record { n = 0 }) (read_in read)
      c.requires.ready.each c.loop-input-test.true
      (c.index-as_slice-input.is ∙ ap (λ (files : List FileWords). get_or files c.loop-input.input w) c.as_slice.ensures) told
      (λ bytes is. c.in_ok-read.ensures.exact bytes (ap (λ standing. (g.R.Reads.files standing).content (get_or c.args.files.now c.loop-input.input (record { n = 0 })).n) c.loop-input.invariant.standing ∙ is))
      (c.loop-input.invariant.goes_on contents told)));
  standing = c.read_one.ensures.reading.standing ∙ c.loop-input.invariant.standing;
  faults = c.in_ok-read.ensures.reading.cause ∙ c.loop-input.invariant.faults;
  octets = pays-more (live_files g.R.Reads c.args.src.now) c.args.files.now c.loop-input.input (record { n = 0 }) (g.R.Reads.octets_read c.args.src.now) (g.R.Reads.octets_read c.loop-input.src) (g.R.Reads.octets_read c.read_one.new.src)
      (file_size g.R.Reads c.loop-input.src (get_or c.args.files.now c.loop-input.input (record { n = 0 }))) c.loop-input-test.true
      (ap (λ standing. (g.R.Reads.files standing).size (get_or c.args.files.now c.loop-input.input (record { n = 0 })).n) c.loop-input.invariant.standing)
      c.loop-input.invariant.octets c.read_one.ensures.octets;
}

-- All inputs are read.
pub returns-clause-exact : goal.returns-clause-exact
returns-clause-exact g c = λ contents told.
    read-end c.args.words.now contents c.loop-input.input c.loop-input.held (reads_in c.loop-input.inputs) (omega arith) (c.loop-input.invariant.goes_on contents told)

-- All inputs have the append offsets of their files.
pub returns-clause-unmoved : goal.returns-clause-unmoved
returns-clause-unmoved g c =
    subst (λ (files : List FileWords). AreUnmoved files c.loop-input.inputs) (take_all c.loop-input.input c.args.words.now.files (omega (arith, c.requires.ready.each))) c.loop-input.invariant.unmoved

pub returns-clause-octets : goal.returns-clause-octets
returns-clause-octets g c =
    pays-all (live_files g.R.Reads c.args.src.now) c.args.files.now c.loop-input.input (g.R.Reads.octets_read c.args.src.now) (g.R.Reads.octets_read c.loop-input.src) c.loop-input.invariant.octets
