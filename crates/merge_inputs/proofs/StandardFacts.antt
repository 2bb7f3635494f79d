-- The options of small inputs, and the copied tracks. They are computed: a wrong definition doesn't check.
use Rattle.std.proofs.Common.{◌≡◌, ℕ, Bool, true, false, [], ◌∷◌, Some, None, refl}
use Rattle.std.specs.Prelude.{ℤ, pos, neg_ℤ}
use Rattle.requests.specs.declared.track.Select.{Select}
use Rattle.requests.specs.declared.track.Select.TheVariants.{All, These, AllBut, Off}
use Rattle.requests.specs.Plain.{plain_file}
use Rattle.requests.specs.declared.merge.FileWords.{FileWords}
use Rattle.merge_inputs.specs.Select.{is_taken, keeps_attachments, keeps_chapters, keeps_tags}
use Rattle.merge_inputs.specs.Taken.{value_for}

-- ---- options of a file

-- options with these selections and kept parts: attached files, chapters, tags of tracks, and other tags
abbrev words_with : Select → Select → Select → Bool → Bool → Bool → Bool → FileWords
words_with video audio subtitles attachments chapters track_tags global_tags = record (plain_file []) {
  video = video;
  audio = audio;
  subtitles = subtitles;
  attachments = attachments;
  track_tags = track_tags;
  global_tags = global_tags;
  chapters = chapters;
}

-- no options
abbrev plain : FileWords
plain = plain_file []

-- `-d 0 -a !1 -S`
abbrev chosen : FileWords
chosen = words_with (These (0 ∷ [])) (AllBut (1 ∷ [])) Off true true true true

-- ---- copied tracks

pub record AreTaken : Type 0 where
  -- Without options all tracks of three types are copied.
  pub video : is_taken plain 0 1 ≡ true
  pub audio : is_taken plain 7 2 ≡ true
  pub subtitles : is_taken plain 2 17 ≡ true
  pub complex : is_taken plain 0 3 ≡ false
  pub buttons : is_taken plain 0 18 ≡ false
  pub metadata : is_taken plain 0 33 ≡ false
  -- A selection only applies to its own type.
  pub video_0 : is_taken chosen 0 1 ≡ true
  pub video_1 : is_taken chosen 1 1 ≡ false
  pub audio_0 : is_taken chosen 0 2 ≡ true
  pub audio_1 : is_taken chosen 1 2 ≡ false
  pub no_subtitles : is_taken chosen 0 17 ≡ false

pub taken : AreTaken
taken = record { video = refl; audio = refl; subtitles = refl; complex = refl; buttons = refl; metadata = refl; video_0 = refl; video_1 = refl; audio_0 = refl; audio_1 = refl; no_subtitles = refl }

-- ---- options of a track

pub record AreValues : Type 0 where
  pub own : value_for {T = ℕ} 2 ((1, 10) ∷ (2, 20) ∷ []) ≡ Some 20
  pub first : value_for {T = ℕ} 1 ((1, 10) ∷ (1, 20) ∷ []) ≡ Some 10
  pub none : value_for {T = ℕ} 0 ((1, 10) ∷ (2, 20) ∷ []) ≡ None
  pub delay : value_for {T = ℤ} 0 ((0, neg_ℤ (pos 5000000)) ∷ []) ≡ Some (neg_ℤ (pos 5000000))

pub values : AreValues
values = record { own = refl; first = refl; none = refl; delay = refl }

-- ---- other kept parts

pub record AreKept : Type 0 where
  pub attachments : keeps_attachments plain false ≡ true
  pub chapters : keeps_chapters plain false ≡ true
  -- `-M`, `--no-chapters`
  pub no_attachments : keeps_attachments (words_with All All All false true true true) false ≡ false
  pub no_chapters : keeps_chapters (words_with All All All true false true true) false ≡ false
  -- WebM has neither attached files nor chapters.
  pub webm_attachments : keeps_attachments plain true ≡ false
  pub webm_chapters : keeps_chapters plain true ≡ false
  -- Either kind of tags is kept.
  pub track_tags : keeps_tags (words_with All All All false false true false) ≡ true
  pub global_tags : keeps_tags (words_with All All All false false false true) ≡ true
  pub no_tags : keeps_tags (words_with All All All true true false false) ≡ false

pub kept : AreKept
kept = record { attachments = refl; chapters = refl; no_attachments = refl; no_chapters = refl; webm_attachments = refl; webm_chapters = refl; track_tags = refl; global_tags = refl; no_tags = refl }
