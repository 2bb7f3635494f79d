-- The copied tracks: facts about them, and the first one that refuses the input.
use Rattle.std.proofs.Common.{◌≡◌, ◌<◌, ℕ, suc, ◌+◌, ◌^◌, ℤ, pos, nat_abs, ◌==◌, Bool, true, false, ◌&&◌, if◌then◌else◌, List, [], ◌∷◌, ◌++◌, length, drop, get_or, flat_map, Option, Some, None, Err, unwrap_or, sym, ◌∙◌, ap, subst, arith}
use Rattle.std.specs.List.{All}
use Rattle.std.proofs.Math.Seq.{drop-cons}
use Rattle.std.proofs.lemmas.List.Elements.{All-append, All-cons, All-head, All-nil, All-tail, All-weaker}
use Rattle.mkv_io.specs.declared.damage.Damage.{Damage}
use Rattle.mkv_schema.specs.Outline.{first_damage}
use Rattle.mkv_io.specs.Results.{unless}
use Rattle.tree_format.specs.Node.{HasRoom}
use Rattle.file_format.specs.Tracks.{IsTrack}
use Rattle.track_records.specs.Sound.{IsEntry}
use Rattle.track_records.specs.Track.{track_of}
use Rattle.track_records.specs.Usable.{as_stored, causes_of, prefix_for, usable_track}
use Rattle.track_records.specs.declared.track.Track.{Track}
use Rattle.meta_records.specs.Records.{AreRead}
use Rattle.meta_records.proofs.CausesLemmas.{first_damage-behind, first_damage-front, first_damage-some}
use Rattle.requests.specs.Sound.{IsSoundFile}
use Rattle.requests.specs.declared.merge.FileWords.{FileWords}
use Rattle.merge_inputs.specs.Select.{is_taken}
use Rattle.merge_inputs.specs.Taken.{IsTaken, first_unusable, taken_from, taken_one, taken_track, track_for, value_for}
use Rattle.merge_inputs.specs.declared.taken.TakenTrack.{TakenTrack}

-- the possible damage of tracks
abbrev causes_in : List TakenTrack → List (Option Damage)
causes_in taken = flat_map (λ (t : TakenTrack). causes_of t.track) taken

-- ---- facts about all tracks hold for the copied ones

taken_each : (P : TakenTrack → Type 0) (words : FileWords) (id : ℕ) (tracks : List Track) → ((k : ℕ) → All (λ (t : Track). P (taken_track words k t)) tracks) → All P (taken_from words id tracks)
taken_each P words id [] each = All-nil P
taken_each P words id (t ∷ ts) each =
    All-append P (taken_one words id t) (taken_from words (id + 1) ts) (one (is_taken words id t.kind))
    (taken_each P words (id + 1) ts (λ k. All-tail (λ (s : Track). P (taken_track words k s)) t ts (each k)))
  where
    one : (taken : Bool) → All P (if taken then taken_track words id t ∷ [] else [])
    one true = All-cons P (taken_track words id t) [] (All-head (λ (s : Track). P (taken_track words id s)) t ts (each id)) (All-nil P)
    one false = All-nil P

-- A fact about the tracks that doesn't tell whether frames are taken as they are stored holds for the copied tracks.
pub taken-tracks : (P : Track → Type 0) (words : FileWords) (tracks : List Track) → ((b : Bool) (t : Track) → P t → P (record t { stored = b })) → All P tracks
    → All (λ (t : TakenTrack). P t.track) (taken_from words 0 tracks)
taken-tracks P words tracks stored each =
    taken_each (λ (t : TakenTrack). P t.track) words 0 tracks
    (λ k. All-weaker P (λ (t : Track). P (track_for words t)) (λ t is. stored (words.keep_encodings && (as_stored t).stored) t is) tracks each)

-- The copied tracks agree with their entries.
abbrev SaysSo : Track → Type 0
SaysSo t = t ≡ record (track_of t.entry) { stored = t.stored }

taken-said : (words : FileWords) (tracks : List Track) → All (λ (t : Track). t ≡ track_of t.entry) tracks → All (λ (t : TakenTrack). SaysSo t.track) (taken_from words 0 tracks)
taken-said words tracks each =
    taken_each (λ (t : TakenTrack). SaysSo t.track) words 0 tracks
    (λ k. All-weaker (λ (t : Track). t ≡ track_of t.entry) (λ (t : Track). SaysSo (track_for words t))
    (λ t said. ap (λ (t' : Track). record t' { stored = words.keep_encodings && (as_stored t).stored }) said) tracks each)

-- ---- delays

near_value : (id : ℕ) (syncs : List (ℕ × ℤ)) → All (λ (sync : ℕ × ℤ). nat_abs sync.1 < 2 ^ 55) syncs → nat_abs (unwrap_or (value_for id syncs) (pos 0)) < 2 ^ 55
near_value id [] each = omega arith
near_value id (s ∷ ss) each = here (s.0 == id) (near_value id ss (All-tail (λ (sync : ℕ × ℤ). nat_abs sync.1 < 2 ^ 55) s ss each))
  where
    here : (is : Bool) → nat_abs (unwrap_or (value_for id ss) (pos 0)) < 2 ^ 55 → nat_abs (unwrap_or (if is then Some s.1 else value_for id ss) (pos 0)) < 2 ^ 55
    here true later = All-head (λ (sync : ℕ × ℤ). nat_abs sync.1 < 2 ^ 55) s ss each
    here false later = later

taken-near : (words : FileWords) (tracks : List Track) → IsSoundFile words → All (λ (t : TakenTrack). nat_abs t.delay < 2 ^ 55) (taken_from words 0 tracks)
taken-near words tracks sound = taken_each (λ (t : TakenTrack). nat_abs t.delay < 2 ^ 55) words 0 tracks (λ k i d below. near_value k words.syncs sound.delays)

-- ---- first track that can't be used

-- The rest begins with the next track.
unusable-next : (taken : List TakenTrack) (k : ℕ) (t : TakenTrack) → k < length taken → t ≡ get_or taken k t → first_unusable (drop k taken) ≡ first_damage (causes_of t.track ++ causes_in (drop (k + 1) taken))
unusable-next taken k t below is =
    ap first_unusable (drop-cons taken k t below ∙ ap (λ (each : TakenTrack). each ∷ drop (suc k) taken) (sym is))
    ∙ ap (λ (n : ℕ). first_damage (causes_of t.track ++ causes_in (drop n taken))) (one_more k)
  where
    one_more : (n : ℕ) → suc n ≡ n + 1
    one_more n = omega arith

-- A track that can't be used is the first.
pub unusable-here : (taken : List TakenTrack) (k : ℕ) (t : TakenTrack) (d : Damage) → k < length taken → t ≡ get_or taken k t → first_damage (causes_of t.track) ≡ Some d → first_unusable (drop k taken) ≡ Some d
unusable-here taken k t d below is some = unusable-next taken k t below is ∙ first_damage-some (causes_of t.track) (causes_in (drop (k + 1) taken)) d some

-- The result of the call for a track tells the same.
pub usable-some : (t : Track) (d : Damage) → usable_track t ≡ Err d → first_damage (causes_of t) ≡ Some d
usable-some t d is = step (first_damage (causes_of t)) is
  where
    step : (refusal : Option Damage) → unless refusal (prefix_for t) ≡ Err d → refusal ≡ Some d
    step None made = absurd (cc)
    step (Some e) made = let same : e ≡ d = cc in ap (λ (x : Damage). Some x) same

-- If there is none, each track can be used.
taken-usable : (taken : List TakenTrack) → first_unusable taken ≡ None → All (λ (t : TakenTrack). first_damage (causes_of t.track) ≡ None) taken
taken-usable [] none = All-nil (λ (t : TakenTrack). first_damage (causes_of t.track) ≡ None)
taken-usable (t ∷ ts) none =
    let own : first_damage (causes_of t.track) ≡ None = first_damage-front (causes_of t.track) (causes_in ts) none in
    All-cons (λ (each : TakenTrack). first_damage (causes_of each.track) ≡ None) t ts own
    (taken-usable ts (sym (first_damage-behind (causes_of t.track) (causes_in ts) own) ∙ none))

-- ---- copied tracks

-- The copied tracks are valid unless they are refused.
pub AreTaken-read : (words : FileWords) (tracks : List Track) (taken : List TakenTrack) → taken ≡ taken_from words 0 tracks → AreRead tracks → IsSoundFile words → first_unusable taken ≡ None → All IsTaken taken
AreTaken-read words tracks taken is read sound none =
    subst (All IsTaken) (sym is) (λ k d below. record {
      said = taken-said words tracks read.said k d below;
      entry = taken-tracks (λ (t : Track). IsEntry t.entry) words tracks (λ b t is. is) read.sound k d below;
      track = taken-tracks (λ (t : Track). IsTrack t.entry) words tracks (λ b t is. is) read.each k d below;
      room = taken-tracks (λ (t : Track). HasRoom t.entry) words tracks (λ b t is. is) read.room k d below;
      usable = taken-usable (taken_from words 0 tracks) (ap first_unusable (sym is) ∙ none) k d below;
      near = taken-near words tracks sound k d below;
    })
