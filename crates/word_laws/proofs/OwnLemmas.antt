-- The options that are read for a file are the given ones.
use Rattle.std.proofs.Common.{◌≡◌, ℕ, not, List, [], ◌∷◌, ◌++◌, codes, refl, sym, ◌∙◌, option_and_then, unwrap_or, flat_map}
use Rattle.std.proofs.lemmas.List.{append-nil}
use Rattle.requests.specs.declared.track.Select.{Select}
use Rattle.requests.specs.declared.track.Select.TheVariants as select
use Rattle.word_values.specs.declared.values.Value.TheVariants.{Flag, File, TrackDelay, TrackText, TrackLanguage, TrackLanguageTag, TrackFlag, TrackCues, TrackFile}
use Rattle.requests.specs.declared.merge.FileWords.{FileWords}
use Rattle.merge_words.specs.declared.options.Subject.TheVariants as subject
use Rattle.merge_words.specs.Items.{stands}
use Rattle.merge_words.specs.Said.{tracks_of, delay_of, track_text_of, track_language_of, track_language_tag_of, track_flag_of, track_cues_of, track_file_of}
use Rattle.merge_words.specs.Files.{ids_of, ids_of_select, tracks_in, delays_in, names_in, languages_in, language_tags_in, flags_in, cues_in, times_in, named_in, file}
use Rattle.word_laws.specs.Values.{delay_word, flag_word, cues_word}
use Rattle.word_laws.specs.SpellableMerge.{tracks_spoken_of as ids_in, named_tracks}
use Rattle.word_laws.proofs.SayingLemmas.{◌&◌, Item, Piece, piece_items}
use Rattle.word_laws.proofs.AboutLemmas.{about, first_said, stands_about, value_of_about, all_about, AreIdsOf, ids_part}
use Rattle.word_laws.proofs.PieceLemmas.{said_flag, flag_stands, flag_kept, flag_ids, said_select, select_ids, tracks_said, tracks_ids}
use Rattle.word_laws.proofs.FileLemmas.{join_said, said_syncs, said_names, said_languages, said_tags, said_defaults, said_forced, said_enabled, said_hearing_impaired, said_visual_impaired, said_text_descriptions, said_original, said_commentary, said_cues, said_times, group}

-- ---- pieces of a file
pub record IsSaidOf (f : FileWords) (ps : List Piece) : Type 0 where
  pub joins : about subject.Append ps ≡ join_said f ++ []
  pub video : about subject.Video ps ≡ said_select (codes "--video-tracks") (codes "--no-video") f.video ++ []
  pub audio : about subject.Audio ps ≡ said_select (codes "--audio-tracks") (codes "--no-audio") f.audio ++ []
  pub subtitles : about subject.Subtitles ps ≡ said_select (codes "--subtitle-tracks") (codes "--no-subtitles") f.subtitles ++ []
  pub attachments : about subject.Attachments ps ≡ said_flag (codes "--no-attachments") Flag (not f.attachments) ++ []
  pub track_tags : about subject.TrackTags ps ≡ said_flag (codes "--no-track-tags") Flag (not f.track_tags) ++ []
  pub global_tags : about subject.GlobalTags ps ≡ said_flag (codes "--no-global-tags") Flag (not f.global_tags) ++ []
  pub statistics : about subject.Statistics ps ≡ said_flag (codes "--no-statistics-tags") Flag (not f.statistics) ++ []
  pub chapters : about subject.Chapters ps ≡ said_flag (codes "--no-chapters") Flag (not f.chapters) ++ []
  pub keep_encodings : about subject.KeepEncodings ps ≡ said_flag (codes "--keep-encodings") Flag f.keep_encodings ++ []
  pub names : about subject.TrackName ps ≡ said_names f ++ []
  pub languages : about subject.Language ps ≡ said_languages f ++ []
  pub language_tags : about subject.LanguageTag ps ≡ said_tags f ++ []
  pub defaults : about subject.DefaultFlag ps ≡ said_defaults f ++ []
  pub forced : about subject.ForcedFlag ps ≡ said_forced f ++ []
  pub enabled : about subject.EnabledFlag ps ≡ said_enabled f ++ []
  pub hearing_impaired : about subject.HearingImpairedFlag ps ≡ said_hearing_impaired f ++ []
  pub visual_impaired : about subject.VisualImpairedFlag ps ≡ said_visual_impaired f ++ []
  pub text_descriptions : about subject.TextDescriptionsFlag ps ≡ said_text_descriptions f ++ []
  pub original : about subject.OriginalFlag ps ≡ said_original f ++ []
  pub commentary : about subject.CommentaryFlag ps ≡ said_commentary f ++ []
  pub times : about subject.Times ps ≡ said_times f ++ []
  pub syncs : about subject.Sync ps ≡ said_syncs f ++ []
  pub cues : about subject.Cues ps ≡ said_cues f ++ []
  pub named : (at : ℕ) → flat_map (λ (i : Item). ids_of i.value) (piece_items at ps)
      ≡ flat_map (λ ids. ids) (ids_of_select f.video ∷ ids_of_select f.audio ∷ ids_of_select f.subtitles ∷ ids_in f.syncs ∷ ids_in f.names ∷ ids_in f.languages ∷ ids_in f.language_tags ∷ ids_in f.defaults ∷ ids_in f.forced ∷ ids_in f.flags.enabled ∷ ids_in f.flags.hearing_impaired ∷ ids_in f.flags.visual_impaired ∷ ids_in f.flags.text_descriptions ∷ ids_in f.flags.original ∷ ids_in f.flags.commentary ∷ ids_in f.cues ∷ ids_in f.times ∷ [])

select_back : (taken none : List ℕ) (sel : Select) → unwrap_or (option_and_then tracks_of (first_said (said_select taken none sel ++ []))) select.All ≡ sel
select_back taken none select.All = refl
select_back taken none (select.These ids) = refl
select_back taken none (select.AllBut ids) = refl
select_back taken none select.Off = refl

module _ (f : FileWords) (ps : List Piece) (at : ℕ) (is : IsSaidOf f ps) where
  joins_is : stands subject.Append (piece_items at ps) ≡ f.appended
  joins_is = stands_about subject.Append ps at ∙ rw is.joins (flag_stands (codes "+") Flag f.appended)

  video_is : tracks_in subject.Video (piece_items at ps) ≡ f.video
  video_is = rw (value_of_about subject.Video ps at) (rw is.video (select_back (codes "--video-tracks") (codes "--no-video") f.video))

  audio_is : tracks_in subject.Audio (piece_items at ps) ≡ f.audio
  audio_is = rw (value_of_about subject.Audio ps at) (rw is.audio (select_back (codes "--audio-tracks") (codes "--no-audio") f.audio))

  subtitles_is : tracks_in subject.Subtitles (piece_items at ps) ≡ f.subtitles
  subtitles_is = rw (value_of_about subject.Subtitles ps at) (rw is.subtitles (select_back (codes "--subtitle-tracks") (codes "--no-subtitles") f.subtitles))

  attachments_is : not (stands subject.Attachments (piece_items at ps)) ≡ f.attachments
  attachments_is = rw (stands_about subject.Attachments ps at) (rw is.attachments (flag_kept (codes "--no-attachments") Flag f.attachments))

  track_tags_is : not (stands subject.TrackTags (piece_items at ps)) ≡ f.track_tags
  track_tags_is = rw (stands_about subject.TrackTags ps at) (rw is.track_tags (flag_kept (codes "--no-track-tags") Flag f.track_tags))

  global_tags_is : not (stands subject.GlobalTags (piece_items at ps)) ≡ f.global_tags
  global_tags_is = rw (stands_about subject.GlobalTags ps at) (rw is.global_tags (flag_kept (codes "--no-global-tags") Flag f.global_tags))

  statistics_is : not (stands subject.Statistics (piece_items at ps)) ≡ f.statistics
  statistics_is = rw (stands_about subject.Statistics ps at) (rw is.statistics (flag_kept (codes "--no-statistics-tags") Flag f.statistics))

  chapters_is : not (stands subject.Chapters (piece_items at ps)) ≡ f.chapters
  chapters_is = rw (stands_about subject.Chapters ps at) (rw is.chapters (flag_kept (codes "--no-chapters") Flag f.chapters))

  keep_encodings_is : stands subject.KeepEncodings (piece_items at ps) ≡ f.keep_encodings
  keep_encodings_is = stands_about subject.KeepEncodings ps at ∙ rw is.keep_encodings (flag_stands (codes "--keep-encodings") Flag f.keep_encodings)

  syncs_is : delays_in (piece_items at ps) ≡ f.syncs
  syncs_is = all_about delay_of subject.Sync ps at ∙ rw is.syncs (rw append-nil (tracks_said (codes "--sync") delay_word TrackDelay delay_of f.syncs (λ id x. refl)))

  names_is : names_in (piece_items at ps) ≡ f.names
  names_is = all_about track_text_of subject.TrackName ps at ∙ rw is.names (rw append-nil (tracks_said (codes "--track-name") (λ name. name) TrackText track_text_of f.names (λ id x. refl)))

  languages_is : languages_in (piece_items at ps) ≡ f.languages
  languages_is = all_about track_language_of subject.Language ps at ∙ rw is.languages (rw append-nil (tracks_said (codes "--language") (λ name. name) TrackLanguage track_language_of f.languages (λ id x. refl)))

  tags_is : language_tags_in (piece_items at ps) ≡ f.language_tags
  tags_is = all_about track_language_tag_of subject.LanguageTag ps at ∙ rw is.language_tags (rw append-nil (tracks_said (codes "--language-ietf") (λ tag. tag) TrackLanguageTag track_language_tag_of f.language_tags (λ id x. refl)))

  defaults_is : flags_in subject.DefaultFlag (piece_items at ps) ≡ f.defaults
  defaults_is = all_about track_flag_of subject.DefaultFlag ps at ∙ rw is.defaults (rw append-nil (tracks_said (codes "--default-track-flag") flag_word TrackFlag track_flag_of f.defaults (λ id x. refl)))

  forced_is : flags_in subject.ForcedFlag (piece_items at ps) ≡ f.forced
  forced_is = all_about track_flag_of subject.ForcedFlag ps at ∙ rw is.forced (rw append-nil (tracks_said (codes "--forced-display-flag") flag_word TrackFlag track_flag_of f.forced (λ id x. refl)))

  enabled_is : flags_in subject.EnabledFlag (piece_items at ps) ≡ f.flags.enabled
  enabled_is = all_about track_flag_of subject.EnabledFlag ps at ∙ rw is.enabled (rw append-nil (tracks_said (codes "--track-enabled-flag") flag_word TrackFlag track_flag_of f.flags.enabled (λ id x. refl)))

  hearing_impaired_is : flags_in subject.HearingImpairedFlag (piece_items at ps) ≡ f.flags.hearing_impaired
  hearing_impaired_is = all_about track_flag_of subject.HearingImpairedFlag ps at ∙ rw is.hearing_impaired (rw append-nil (tracks_said (codes "--hearing-impaired-flag") flag_word TrackFlag track_flag_of f.flags.hearing_impaired (λ id x. refl)))

  visual_impaired_is : flags_in subject.VisualImpairedFlag (piece_items at ps) ≡ f.flags.visual_impaired
  visual_impaired_is = all_about track_flag_of subject.VisualImpairedFlag ps at ∙ rw is.visual_impaired (rw append-nil (tracks_said (codes "--visual-impaired-flag") flag_word TrackFlag track_flag_of f.flags.visual_impaired (λ id x. refl)))

  text_descriptions_is : flags_in subject.TextDescriptionsFlag (piece_items at ps) ≡ f.flags.text_descriptions
  text_descriptions_is = all_about track_flag_of subject.TextDescriptionsFlag ps at ∙ rw is.text_descriptions (rw append-nil (tracks_said (codes "--text-descriptions-flag") flag_word TrackFlag track_flag_of f.flags.text_descriptions (λ id x. refl)))

  original_is : flags_in subject.OriginalFlag (piece_items at ps) ≡ f.flags.original
  original_is = all_about track_flag_of subject.OriginalFlag ps at ∙ rw is.original (rw append-nil (tracks_said (codes "--original-flag") flag_word TrackFlag track_flag_of f.flags.original (λ id x. refl)))

  commentary_is : flags_in subject.CommentaryFlag (piece_items at ps) ≡ f.flags.commentary
  commentary_is = all_about track_flag_of subject.CommentaryFlag ps at ∙ rw is.commentary (rw append-nil (tracks_said (codes "--commentary-flag") flag_word TrackFlag track_flag_of f.flags.commentary (λ id x. refl)))

  cues_is : cues_in (piece_items at ps) ≡ f.cues
  cues_is = all_about track_cues_of subject.Cues ps at ∙ rw is.cues (rw append-nil (tracks_said (codes "--cues") cues_word TrackCues track_cues_of f.cues (λ id x. refl)))

  times_is : times_in (piece_items at ps) ≡ f.times
  times_is = all_about track_file_of subject.Times ps at ∙ rw is.times (rw append-nil (tracks_said (codes "--timestamps") (λ name. name) TrackFile track_file_of f.times (λ id x. refl)))

  named_is : f.named ≡ named_tracks f → named_in (piece_items at ps) ≡ f.named
  unfolding named_in
  named_is named = rw (is.named at) (sym named)

  pub file_is : f.named ≡ named_tracks f → file (piece_items at ps) (File f.name) ≡ f
  unfolding file
  file_is named =
      rw joins_is (rw video_is (rw audio_is (rw subtitles_is (rw attachments_is (rw track_tags_is (rw global_tags_is (rw statistics_is (rw chapters_is (rw keep_encodings_is
      (rw syncs_is (rw names_is (rw languages_is (rw tags_is (rw defaults_is (rw forced_is
      (rw enabled_is (rw hearing_impaired_is (rw visual_impaired_is (rw text_descriptions_is (rw original_is (rw commentary_is
      (rw cues_is (rw times_is (rw (named_is named) refl))))))))))))))))))))))))

-- ---- the pieces give the options
abbrev id_lists : FileWords → List (List ℕ)
id_lists f = [] ∷ ids_of_select f.video ∷ ids_of_select f.audio ∷ ids_of_select f.subtitles ∷ [] ∷ [] ∷ [] ∷ [] ∷ [] ∷ [] ∷ ids_in f.syncs ∷ ids_in f.names ∷ ids_in f.languages ∷ ids_in f.language_tags ∷ ids_in f.defaults ∷ ids_in f.forced ∷ ids_in f.flags.enabled ∷ ids_in f.flags.hearing_impaired ∷ ids_in f.flags.visual_impaired ∷ ids_in f.flags.text_descriptions ∷ ids_in f.flags.original ∷ ids_in f.flags.commentary ∷ ids_in f.cues ∷ ids_in f.times ∷ []

id_parts : (f : FileWords) → AreIdsOf (group f) (id_lists f)
id_parts f = (
    flag_ids (codes "+") f.appended &
    select_ids (codes "--video-tracks") (codes "--no-video") f.video &
    select_ids (codes "--audio-tracks") (codes "--no-audio") f.audio &
    select_ids (codes "--subtitle-tracks") (codes "--no-subtitles") f.subtitles &
    flag_ids (codes "--no-attachments") (not f.attachments) &
    flag_ids (codes "--no-track-tags") (not f.track_tags) &
    flag_ids (codes "--no-global-tags") (not f.global_tags) &
    flag_ids (codes "--no-statistics-tags") (not f.statistics) &
    flag_ids (codes "--no-chapters") (not f.chapters) &
    flag_ids (codes "--keep-encodings") f.keep_encodings &
    tracks_ids (codes "--sync") delay_word TrackDelay f.syncs (λ id x. refl) &
    tracks_ids (codes "--track-name") (λ name. name) TrackText f.names (λ id x. refl) &
    tracks_ids (codes "--language") (λ name. name) TrackLanguage f.languages (λ id x. refl) &
    tracks_ids (codes "--language-ietf") (λ tag. tag) TrackLanguageTag f.language_tags (λ id x. refl) &
    tracks_ids (codes "--default-track-flag") flag_word TrackFlag f.defaults (λ id x. refl) &
    tracks_ids (codes "--forced-display-flag") flag_word TrackFlag f.forced (λ id x. refl) &
    tracks_ids (codes "--track-enabled-flag") flag_word TrackFlag f.flags.enabled (λ id x. refl) &
    tracks_ids (codes "--hearing-impaired-flag") flag_word TrackFlag f.flags.hearing_impaired (λ id x. refl) &
    tracks_ids (codes "--visual-impaired-flag") flag_word TrackFlag f.flags.visual_impaired (λ id x. refl) &
    tracks_ids (codes "--text-descriptions-flag") flag_word TrackFlag f.flags.text_descriptions (λ id x. refl) &
    tracks_ids (codes "--original-flag") flag_word TrackFlag f.flags.original (λ id x. refl) &
    tracks_ids (codes "--commentary-flag") flag_word TrackFlag f.flags.commentary (λ id x. refl) &
    tracks_ids (codes "--cues") cues_word TrackCues f.cues (λ id x. refl) &
    tracks_ids (codes "--timestamps") (λ name. name) TrackFile f.times (λ id x. refl) &
    tt)

pub ids_are : (f : FileWords) (at : ℕ) → flat_map (λ (i : Item). ids_of i.value) (piece_items at (group f))
    ≡ flat_map (λ ids. ids) (ids_of_select f.video ∷ ids_of_select f.audio ∷ ids_of_select f.subtitles ∷ ids_in f.syncs ∷ ids_in f.names ∷ ids_in f.languages ∷ ids_in f.language_tags ∷ ids_in f.defaults ∷ ids_in f.forced ∷ ids_in f.flags.enabled ∷ ids_in f.flags.hearing_impaired ∷ ids_in f.flags.visual_impaired ∷ ids_in f.flags.text_descriptions ∷ ids_in f.flags.original ∷ ids_in f.flags.commentary ∷ ids_in f.cues ∷ ids_in f.times ∷ [])
ids_are f at = ids_part (group f) (id_lists f) at (id_parts f)

pub group_says : (f : FileWords) → IsSaidOf f (group f)
group_says f = assumption (refl, ids_are f)
