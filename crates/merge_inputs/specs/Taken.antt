-- The copied tracks of a file, with their options: RFC 9559, section 5.1.4 (Tracks).
use Rattle.std.specs.Prelude.{◌≡◌, ◌<◌, ℕ, ◌+◌, ◌^◌, pos, nat_abs, ◌==◌, ◌&&◌, if◌then◌else◌, List, [], ◌∷◌, ◌++◌, flat_map, Option, Some, None, unwrap_or}
use Rattle.mkv_io.specs.declared.damage.Damage.{Damage}
use Rattle.mkv_schema.specs.Outline.{first_damage}
use Rattle.tree_format.specs.Node.{HasRoom}
use Rattle.file_format.specs.Tracks.{IsTrack}
use Rattle.track_records.specs.Sound.{IsEntry}
use Rattle.track_records.specs.Track.{track_of}
use Rattle.track_records.specs.Usable.{as_stored, causes_of}
use Rattle.track_records.specs.declared.track.Track.{Track}
use Rattle.track_records.specs.declared.track_change.FlagChange.{FlagChange}
use Rattle.requests.specs.declared.merge.FlagWords.{FlagWords}
use Rattle.requests.specs.declared.merge.FileWords.{FileWords}
use Rattle.merge_inputs.specs.Select.{is_taken}
use Rattle.merge_inputs.specs.declared.taken.TakenTrack.{TakenTrack}

-- the value that an option of `merge` gives to the track with the ID `id`, or None. The last argument has the IDs with their values, and the first
-- for an ID counts.
abbrev pub value_for : {T : Type 0} → ℕ → List (ℕ × T) → Option T
value_for id [] = None
value_for id (pair ∷ pairs) = if pair.0 == id then Some pair.1 else value_for id pairs

-- the flags that the options `words` of an input give to its track with the ID `id`, counted from 0; the first value of an option for a track counts.
-- Used by `taken_track`.
abbrev pub flags_for : ℕ → FlagWords → FlagChange
flags_for id words = record {
  enabled = value_for id words.enabled;
  hearing_impaired = value_for id words.hearing_impaired;
  visual_impaired = value_for id words.visual_impaired;
  text_descriptions = value_for id words.text_descriptions;
  original = value_for id words.original;
  commentary = value_for id words.commentary;
}

-- the track `t` as an input with the options `words` takes it: with its frames as they are stored exactly if `words` has `--keep-encodings` and its
-- ContentEncodings can't be undone. `taken_track` uses it.
abbrev pub track_for : FileWords → Track → Track
track_for words t = record t { stored = words.keep_encodings && (as_stored t).stored }

-- the selected track `t` of an input with the ID `id`, counted from 0, and the options in `words` for it; its delay in nanoseconds is 0 by default.
-- Used by `taken_one`.
abbrev pub taken_track : FileWords → ℕ → Track → TakenTrack
taken_track words id t = record {
  id = id;
  track = track_for words t;
  name = value_for id words.names;
  language = value_for id words.languages;
  language_tag = value_for id words.language_tags;
  flag_default = value_for id words.defaults;
  flag_forced = value_for id words.forced;
  flags = flags_for id words.flags;
  delay = unwrap_or (value_for id words.syncs) (pos 0);
  cues = value_for id words.cues;
}

-- the track `t` of an input with the ID `id`, with its options, as a list of one, if `words` selects it, and otherwise an empty list; for
-- `taken_from`
abbrev pub taken_one : FileWords → ℕ → Track → List TakenTrack
taken_one words id t = if is_taken words id t.kind then taken_track words id t ∷ [] else []

-- the tracks that the options `words` of an input select, with their options, in the given list of its tracks with IDs from `id` onwards. Used by
-- `taken_of`, `input_with` and others.
abbrev pub taken_from : FileWords → ℕ → List Track → List TakenTrack
taken_from words id [] = []
taken_from words id (t ∷ ts) = taken_one words id t ++ taken_from words (id + 1) ts

-- the first damage that makes the frames of one of the selected tracks `taken` of an input unusable, or None; the input is refused for it
abbrev pub first_unusable : List TakenTrack → Option Damage
first_unusable taken = first_damage (flat_map (λ (t : TakenTrack). causes_of t.track) taken)

-- ---- facts about copied tracks

-- The selected track `t` of an input can be copied by `merge`. It agrees with its TrackEntry, which is valid and fits in a Tracks Element, and says
-- besides only whether its frames are taken as they are stored. Its frames can be used, and its delay is below 2^55 nanoseconds in either direction.
pub record IsTaken (t : TakenTrack) : Type 0 where
  pub said : t.track ≡ record (track_of t.track.entry) { stored = t.track.stored }
  pub entry : IsEntry t.track.entry
  pub track : IsTrack t.track.entry
  pub room : HasRoom t.track.entry
  pub usable : first_damage (causes_of t.track) ≡ None
  pub near : nat_abs t.delay < 2 ^ 55
