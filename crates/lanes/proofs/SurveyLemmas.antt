-- A survey of a file, from a walk over it.
use Rattle.std.proofs.Common.{◌≡◌, ℕ, Bool, true, false, List, [], ◌∷◌, map, Some, None, refl, sym, ◌∙◌, ap, ap₂, subst}
use Rattle.std.specs.Prelude.{◌||◌, is_some}
use Rattle.std.specs.List.{All}
use Rattle.std.proofs.lemmas.List.Elements.{All-head, All-tail}
use Rattle.mkv_io.specs.LiveFiles.{LiveFiles}
use Rattle.block_format.specs.Elements.{with_limits}
use Rattle.block_format.specs.Events.{Event, events_of, last_of}
use Rattle.merge_model.specs.Ends.{file_end}
use Rattle.merge_model.specs.FileLinks.{given_in, octets_in, track_events, track_with}
use Rattle.merge_model.specs.declared.link.Link.{Link}
use Rattle.merge_model.specs.declared.link.Link.TheVariants.{Track, Entries}
use Rattle.merge_model.specs.declared.link.TrackLink.{TrackLink}
use Rattle.lanes.specs.Ends.{given_by, texts_end}
use Rattle.lanes.specs.Survey.{AreOfOneFile, IsOfFile, IsSameFile, IsSurvey, first_track, stops_any}
use Rattle.lanes.specs.Walked.{IsWalked}
use Rattle.lanes.specs.declared.survey_result.Survey.{Survey}
pub use Rattle.lemmas.proofs.PlainLemmas.{IfOk-map as answer-map}

-- Tracks of the same file have the same events.
same-events : (f : LiveFiles) (t other : TrackLink) → IsSameFile t other → track_events f other ≡ track_events f t
same-events f t other same =
    ap (λ (scale : ℕ). events_of (with_limits scale) (octets_in f other.file.n) other.outline.value.segment) same.scale
    ∙ ap (λ file. events_of (with_limits t.scale) (octets_in f file.n) other.outline.value.segment) same.file
    ∙ ap (λ segment. events_of (with_limits t.scale) (octets_in f t.file.n) segment) same.segment

-- The links of one file agree with its events.
given-one : (f : LiveFiles) (t : TrackLink) (link : Link) → IsOfFile t link → given_in f link ≡ given_by (track_events f t) link
given-one f t (Track other) is = ap (track_with other) (same-events f t other is)
given-one f t (Entries e) is = refl

pub given-all : (f : LiveFiles) (t : TrackLink) (links : List Link) → All (IsOfFile t) links → map (given_in f) links ≡ map (given_by (track_events f t)) links
given-all f t [] all = refl
given-all f t (link ∷ links) all = ap₂ (λ g gs. g ∷ gs) (given-one f t link (All-head (IsOfFile t) link links all)) (given-all f t links (All-tail (IsOfFile t) link links all))

-- ---- without a track

pub given-texts : (f : LiveFiles) (links : List Link) → first_track links ≡ None → map (given_in f) links ≡ map (given_by []) links
given-texts f [] none = refl
given-texts f (Track t ∷ links) none = absurd (cc)
given-texts f (Entries e ∷ links) none = ap (λ gs. given_in f (Entries e) ∷ gs) (given-texts f links none)

stops-texts : (f : LiveFiles) (links : List Link) → first_track links ≡ None → stops_any f links ≡ false
stops-texts f [] none = refl
stops-texts f (Track t ∷ links) none = absurd (cc)
stops-texts f (Entries e ∷ links) none = stops-texts f links none

pub survey-texts : (f : LiveFiles) (links : List Link) (end : ℕ) → first_track links ≡ None → end ≡ texts_end links → IsSurvey f links (record { end = end; stopped = false })
survey-texts f links end none is = record {
  end = is ∙ ap file_end (sym (given-texts f links none));
  stopped = sym (stops-texts f links none);
}

-- ---- with a track

or-same : (s x : Bool) → (x || s) ≡ s → ((s || x) || s) ≡ s
or-same true x rest = refl
or-same false x rest = rest

or-first : (s x : Bool) → (x || s) ≡ s → (s || x) ≡ s
or-first true x rest = refl
or-first false true rest = rest
or-first false false rest = refl

-- A text never stops, and a track stops if its file does.
stops-given : (f : LiveFiles) (t : TrackLink) (links : List Link) → All (IsOfFile t) links → (stops_any f links || is_some (last_of (track_events f t))) ≡ is_some (last_of (track_events f t))
stops-given f t [] all = refl
stops-given f t (Track other ∷ links) all =
    ap (λ (es : List Event). (is_some (last_of es) || stops_any f links) || is_some (last_of (track_events f t))) (same-events f t other (All-head (IsOfFile t) (Track other) links all))
    ∙ or-same (is_some (last_of (track_events f t))) (stops_any f links) (stops-given f t links (All-tail (IsOfFile t) (Track other) links all))
stops-given f t (Entries e ∷ links) all = stops-given f t links (All-tail (IsOfFile t) (Entries e) links all)

stops-first : (f : LiveFiles) (t : TrackLink) (links : List Link) → first_track links ≡ Some t → All (IsOfFile t) links → stops_any f links ≡ is_some (last_of (track_events f t))
stops-first f t [] is all = absurd (cc)
stops-first f t (Track other ∷ links) is all =
    ap (λ (es : List Event). is_some (last_of es) || stops_any f links) (same-events f t other (All-head (IsOfFile t) (Track other) links all))
    ∙ or-first (is_some (last_of (track_events f t))) (stops_any f links) (stops-given f t links (All-tail (IsOfFile t) (Track other) links all))
stops-first f t (Entries e ∷ links) is all = stops-first f t links is (All-tail (IsOfFile t) (Entries e) links all)

pub survey-walked : (f : LiveFiles) (links : List Link) (t : TrackLink) (s : Survey) (es : List Event) → first_track links ≡ Some t → AreOfOneFile links → es ≡ track_events f t → IsWalked es links s → IsSurvey f links s
survey-walked f links t s es first one is walked =
    let given : map (given_in f) links ≡ map (given_by es) links = given-all f t links (one t first) ∙ ap (λ each. map (given_by each) links) (sym is) in
    record {
      end = walked.end ∙ ap file_end (sym given);
      stopped = walked.stopped ∙ ap (λ (each : List Event). is_some (last_of each)) is ∙ sym (stops-first f t links first (one t first));
    }

-- A fact about all links holds for the first track.
pub first-all : (P : Link → Type 0) (links : List Link) (t : TrackLink) → first_track links ≡ Some t → All P links → P (Track t)
first-all P [] t is all = absurd (cc)
first-all P (Track other ∷ links) t is all = let same : other ≡ t = cc in subst (λ each. P (Track each)) same (All-head P (Track other) links all)
first-all P (Entries e ∷ links) t is all = first-all P links t is (All-tail P (Entries e) links all)
