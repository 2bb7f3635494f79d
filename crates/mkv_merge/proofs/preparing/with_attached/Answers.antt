use Rattle.std.proofs.Common.{◌≡◌, List, [], ◌∷◌, ◌++◌, get_or, append_assoc, sym, ◌∙◌, ap, ap₂, subst, map, take}
use Rattle.std.specs.List.{All}
use Rattle.std.proofs.lemmas.List.{append-nil, map-append}
use Rattle.std.proofs.lemmas.List.Elements.{All-push}
use Rattle.mkv_io.specs.Sources.{live_files}
use Rattle.mkv_io.specs.declared.outside.FileId.{FileId}
use Rattle.input_files.specs.Inputs.{sizes_of}
use Rattle.requests.specs.declared.merge.AttachedWords.{AttachedWords}
use Rattle.merge_inputs.specs.Input.{InputRead, IsInput, read_in}
use Rattle.merge_inputs.specs.declared.input.Input.{Input}
use Rattle.merge_plan.specs.TakenTracks.{HasPlace}
use Rattle.mkv_merge.specs.Attached.{attached_reads}
use Rattle.mkv_merge.specs.Prepared.{reads_in}
use Rattle.mkv_merge.proofs.PreparingLemmas.{attached-more, attached-none, taken-more}
use Rattle.mkv_merge.proofs.preparing.with_attached.Goals as goal

-- No file is attached yet.
pub loop-k-init : goal.loop-k-init
loop-k-init g c = record {
  exact =
      sym (ap (λ (rest : List InputRead). reads_in c.args.inputs ++ rest) (attached-none c.args.words.now.webm c.args.words.now.attached) ∙ append-nil (reads_in c.args.inputs));
  of = sym (append-nil (map (λ (i : Input). i.file) c.args.inputs));
  good = λ each. each;
  places = λ each. each;
}

-- One more file is attached.
pub loop-k-preserved : goal.loop-k-preserved
loop-k-preserved g c =
    let words = c.args.words.now in
    let f = live_files g.R.Reads c.args.src.now in
    let ids = c.args.attached.now in
    let k = c.loop-k.k in
    let none : FileId = record { n = 0 } in
    let w = c.index-as_slice-k.result in
    let input = c.in_ok-attached_input.field-0 in
    let made = c.in_ok-attached_input.ensures in
    let is : w ≡ get_or words.attached k w = c.index-as_slice-k.is ∙ ap (λ (each : List AttachedWords). get_or each k w) c.as_slice.ensures in
    record {
      exact =
          ap reads_in c.in_ok-push.ensures.ok ∙ map-append read_in c.loop-k.list (input ∷ [])
          ∙ ap₂ (λ (reads : List InputRead) (read : InputRead). reads ++ read ∷ []) c.loop-k.invariant.exact made.exact
          ∙ append_assoc (reads_in c.args.inputs) (attached_reads words.webm words.attached (sizes_of f (take k ids))) _
          ∙ ap (λ (rest : List InputRead). reads_in c.args.inputs ++ rest) (sym (attached-more f words.webm words.attached ids k w none c.requires.live.each c.loop-k-test.true is));
      of =
          ap (map (λ (i : Input). i.file)) c.in_ok-push.ensures.ok ∙ map-append (λ (i : Input). i.file) c.loop-k.list (input ∷ [])
          ∙ ap₂ (λ (files : List FileId) (file : FileId). files ++ file ∷ []) c.loop-k.invariant.of made.input.of
          ∙ append_assoc (map (λ (i : Input). i.file) c.args.inputs) (take k ids) _
          ∙ ap (λ (rest : List FileId). map (λ (i : Input). i.file) c.args.inputs ++ rest) (sym (taken-more ids k none c.loop-k-test.true));
      good = λ each. subst (All (IsInput f)) (sym c.in_ok-push.ensures.ok) (All-push (IsInput f) c.loop-k.list input (c.loop-k.invariant.good each) made.input.good);
      places = λ each. subst (All HasPlace) (sym c.in_ok-push.ensures.ok) (All-push HasPlace c.loop-k.list input (c.loop-k.invariant.places each) made.input.place);
    }
