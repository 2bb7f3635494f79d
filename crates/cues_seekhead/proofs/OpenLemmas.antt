-- An open output from call to call.
use Rattle.std.proofs.Common.{◌≡◌, ℕ, List, ◌++◌, length, sym, ap, ◌∙◌, arith}
use Rattle.std.proofs.lemmas.List.{length-append}
use Rattle.mkv_io.specs.Contents.{with_appended}
use Rattle.mkv_io.specs.Names.{Names, with_change, with_content}
use Rattle.mkv_io.specs.declared.reads.Reads.{Ghosts}
use Rattle.mkv_io.specs.declared.files.Files as writing
use Rattle.output_model.specs.declared.places.CuePoint.{CuePoint}
use Rattle.output_model.specs.Element.{joined}
use Rattle.output_model.specs.SeekHead.{open_area}
use Rattle.output_model.specs.Document.{Front, ending_at, file_with, front_elements, opened_with, unknown_size}
use Rattle.cues_seekhead.specs.OpenOutput.{OpenOutput, IsOpen, StandsOpen, grown, with_cue}
use Rattle.cues_seekhead.proofs.DraftLemmas.{appended-to}
use Rattle.cues_seekhead.proofs.DurationLemmas.{ending-twice, length-front, place-ending, seeks-front}
use Rattle.cues_seekhead.proofs.LayoutLemmas.{opened-more}

-- Bytes were appended to it.
pub StandsOpen-grown : {S : Type 0} (r : Ghosts S) (f : writing.Ghosts S) (before : Names) (name : List ℕ) (front : Front) (behind more : List ℕ) (old new : S) (o : OpenOutput) → StandsOpen r f before name front behind old o
    → f.names new ≡ with_change (f.names old) (f.holder old o.file.n) (with_appended more) → f.holder new o.file.n ≡ f.holder old o.file.n → IsOpen r new (grown o (length more)) → StandsOpen r f before name front (behind ++ more) new (grown o (length more))
StandsOpen-grown r f before name front behind more old new o stands added holder is_open = record {
  is_open = is_open;
  holder = holder ∙ stands.holder;
  names = appended-to before (f.names old) (f.names new) name (opened_with front behind) more stands.names (added ∙ ap (λ h. with_change (f.names old) h (with_appended more)) stands.holder)
      ∙ ap (with_content before name) (opened-more front behind more);
  known = record { webm = stands.known.webm; len = omega (arith, stands.known.len, length-append behind more); place = stands.known.place; seeks = stands.known.seeks };
}

-- A cue point was added.
pub StandsOpen-cued : {S : Type 0} (r : Ghosts S) (f : writing.Ghosts S) (before : Names) (name : List ℕ) (front : Front) (behind : List ℕ) (files : S) (o : OpenOutput) (point : CuePoint) → StandsOpen r f before name front behind files o → StandsOpen r f before name front behind files (with_cue o point)
StandsOpen-cued r f before name front behind files o point stands = record {
  is_open = record { live = stands.is_open.live; size = stands.is_open.size };
  holder = stands.holder;
  names = stands.names;
  known = record { webm = stands.known.webm; len = stands.known.len; place = stands.known.place; seeks = stands.known.seeks };
}

-- Other files were read.
pub StandsOpen-read : {S : Type 0} (r : Ghosts S) (f : writing.Ghosts S) (before : Names) (name : List ℕ) (front : Front) (behind : List ℕ) (old new : S) (o : OpenOutput) → r.standing new ≡ r.standing old → f.names new ≡ f.names old → f.holder new o.file.n ≡ f.holder old o.file.n
    → StandsOpen r f before name front behind old o → StandsOpen r f before name front behind new o
StandsOpen-read r f before name front behind old new o same names holder stands = record {
  is_open = record {
    live = ap (λ standing. (r.files standing).live o.file.n) same ∙ stands.is_open.live;
    size = ap (λ standing. (r.files standing).size o.file.n) same ∙ stands.is_open.size;
  };
  holder = holder ∙ stands.holder;
  names = names ∙ stands.names;
  known = stands.known;
}

-- Before its last writes, an output is the same for each end.
pub opened-ending : (end : ℕ) (front : Front) (behind : List ℕ) → opened_with (ending_at end front) behind ≡ opened_with front behind
opened-ending end front behind = ap (λ (g : Front). file_with front.webm unknown_size open_area (joined (front_elements g) ++ behind)) (ending-twice 0 end front)

-- An open output agrees with each end.
pub StandsOpen-ending : {S : Type 0} (r : Ghosts S) (f : writing.Ghosts S) (before : Names) (name : List ℕ) (front : Front) (end : ℕ) (behind : List ℕ) (files : S) (o : OpenOutput) → StandsOpen r f before name front behind files o → StandsOpen r f before name (ending_at end front) behind files o
StandsOpen-ending r f before name front end behind files o stands = record {
  is_open = stands.is_open;
  holder = stands.holder;
  names = stands.names ∙ ap (with_content before name) (sym (opened-ending end front behind));
  known = record {
    webm = stands.known.webm;
    len = omega (arith, stands.known.len, length-front front end);
    place = stands.known.place ∙ sym (place-ending front.info end front.lasting);
    seeks = stands.known.seeks ∙ sym (seeks-front front end 256);
  };
}
