-- An input of a merge, with the options for it, is read back.
use Rattle.std.proofs.Common.{◌≡◌, ◌<◌, ◌^◌, ℕ, ◌+◌, ℤ, Bool, true, false, not, if◌then◌else◌, nat_le, List, [], ◌∷◌, ◌++◌, map, codes, None, refl, ◌∙◌, subst, arith, append_assoc, All, ◌==◌, nat_abs}
use Rattle.std.proofs.lemmas.Bool.{or_parts}
use Rattle.std.proofs.lemmas.Bool.Decides.{nat_tests}
use Rattle.std.proofs.lemmas.List.{append-nil}
use Rattle.std.proofs.lemmas.List.Sums.{sum_by-append}
use Rattle.std.specs.List.{AllZip}
use Rattle.word_values.specs.declared.values.Value.TheVariants.{Flag, File, TrackDelay, TrackText, TrackLanguage, TrackLanguageTag, TrackFlag, TrackCues, TrackFile}
use Rattle.word_values.specs.declared.values.ValueForm.TheVariants as form
use Rattle.requests.specs.declared.merge.FileWords.{FileWords}
use Rattle.merge_words.specs.declared.options.Subject.{Subject}
use Rattle.merge_words.specs.declared.options.Subject.TheVariants as subject
use Rattle.merge_words.specs.declared.options.Scope.TheVariants as scope
use Rattle.merge_words.specs.Options.{meaning_of, table, same}
use Rattle.merge_words.specs.Items.{item_at, append_at, file_at, counted, files_in, stands, is_file, since_file}
use Rattle.merge_words.specs.Merge.{starts, read_all}
use Rattle.requests.specs.Sound.{IsSoundFile}
use Rattle.word_laws.specs.Names.{IsInputName}
use Rattle.word_laws.specs.Values.{delay_word, flag_word, cues_word}
use Rattle.word_laws.specs.SpelledMerge.{flag, parts_joined, file_options, file_words}
use Rattle.word_laws.specs.SpellableMerge.{AreOfTracks, IsDelay, IsText, IsLanguage, IsLanguageTag, IsMergeFile}
use Rattle.word_laws.proofs.SimpleLemmas.{other_word}
use Rattle.word_laws.proofs.ValueLemmas.{track_delay_read, track_text_read, track_language_read, track_tag_read, track_flag_read, track_cues_read, track_file_read}
use Rattle.word_laws.proofs.SayingLemmas.{◌&◌, Item, Said, Piece, said_words, piece_words, item, said_items, after_said, piece_items, after_pieces, read_one, other_stands}
use Rattle.word_laws.proofs.GroupLemmas.{AreReadable, AreFree, still_free, pieces_read}
use Rattle.word_laws.proofs.PieceLemmas.{said_flag, flag_words, flag_readable, said_select, select_spelled, select_readable, said_track, tracks_spelled, tracks_readable}

-- ---- the pieces of a file
abbrev pub join_said : FileWords → List Said
join_said f = said_flag (codes "+") Flag f.appended

abbrev pub said_syncs : FileWords → List Said
said_syncs f = map (said_track (codes "--sync") delay_word TrackDelay) f.syncs

abbrev pub said_names : FileWords → List Said
said_names f = map (said_track (codes "--track-name") (λ name. name) TrackText) f.names

abbrev pub said_languages : FileWords → List Said
said_languages f = map (said_track (codes "--language") (λ name. name) TrackLanguage) f.languages

abbrev pub said_tags : FileWords → List Said
said_tags f = map (said_track (codes "--language-ietf") (λ tag. tag) TrackLanguageTag) f.language_tags

abbrev pub said_defaults : FileWords → List Said
said_defaults f = map (said_track (codes "--default-track-flag") flag_word TrackFlag) f.defaults

abbrev pub said_forced : FileWords → List Said
said_forced f = map (said_track (codes "--forced-display-flag") flag_word TrackFlag) f.forced

abbrev pub said_enabled : FileWords → List Said
said_enabled f = map (said_track (codes "--track-enabled-flag") flag_word TrackFlag) f.flags.enabled

abbrev pub said_hearing_impaired : FileWords → List Said
said_hearing_impaired f = map (said_track (codes "--hearing-impaired-flag") flag_word TrackFlag) f.flags.hearing_impaired

abbrev pub said_visual_impaired : FileWords → List Said
said_visual_impaired f = map (said_track (codes "--visual-impaired-flag") flag_word TrackFlag) f.flags.visual_impaired

abbrev pub said_text_descriptions : FileWords → List Said
said_text_descriptions f = map (said_track (codes "--text-descriptions-flag") flag_word TrackFlag) f.flags.text_descriptions

abbrev pub said_original : FileWords → List Said
said_original f = map (said_track (codes "--original-flag") flag_word TrackFlag) f.flags.original

abbrev pub said_commentary : FileWords → List Said
said_commentary f = map (said_track (codes "--commentary-flag") flag_word TrackFlag) f.flags.commentary

abbrev pub said_cues : FileWords → List Said
said_cues f = map (said_track (codes "--cues") cues_word TrackCues) f.cues

abbrev pub said_times : FileWords → List Said
said_times f = map (said_track (codes "--timestamps") (λ name. name) TrackFile) f.times

abbrev pub file_pieces : FileWords → List Piece
file_pieces f =
    record { subject = subject.Video; scope = scope.File; said = said_select (codes "--video-tracks") (codes "--no-video") f.video } ∷
    record { subject = subject.Audio; scope = scope.File; said = said_select (codes "--audio-tracks") (codes "--no-audio") f.audio } ∷
    record { subject = subject.Subtitles; scope = scope.File; said = said_select (codes "--subtitle-tracks") (codes "--no-subtitles") f.subtitles } ∷
    record { subject = subject.Attachments; scope = scope.File; said = said_flag (codes "--no-attachments") Flag (not f.attachments) } ∷
    record { subject = subject.TrackTags; scope = scope.File; said = said_flag (codes "--no-track-tags") Flag (not f.track_tags) } ∷
    record { subject = subject.GlobalTags; scope = scope.File; said = said_flag (codes "--no-global-tags") Flag (not f.global_tags) } ∷
    record { subject = subject.Statistics; scope = scope.File; said = said_flag (codes "--no-statistics-tags") Flag (not f.statistics) } ∷
    record { subject = subject.Chapters; scope = scope.File; said = said_flag (codes "--no-chapters") Flag (not f.chapters) } ∷
    record { subject = subject.KeepEncodings; scope = scope.File; said = said_flag (codes "--keep-encodings") Flag f.keep_encodings } ∷
    record { subject = subject.Sync; scope = scope.Track; said = said_syncs f } ∷
    record { subject = subject.TrackName; scope = scope.Track; said = said_names f } ∷
    record { subject = subject.Language; scope = scope.Track; said = said_languages f } ∷
    record { subject = subject.LanguageTag; scope = scope.Track; said = said_tags f } ∷
    record { subject = subject.DefaultFlag; scope = scope.Track; said = said_defaults f } ∷
    record { subject = subject.ForcedFlag; scope = scope.Track; said = said_forced f } ∷
    record { subject = subject.EnabledFlag; scope = scope.Track; said = said_enabled f } ∷
    record { subject = subject.HearingImpairedFlag; scope = scope.Track; said = said_hearing_impaired f } ∷
    record { subject = subject.VisualImpairedFlag; scope = scope.Track; said = said_visual_impaired f } ∷
    record { subject = subject.TextDescriptionsFlag; scope = scope.Track; said = said_text_descriptions f } ∷
    record { subject = subject.OriginalFlag; scope = scope.Track; said = said_original f } ∷
    record { subject = subject.CommentaryFlag; scope = scope.Track; said = said_commentary f } ∷
    record { subject = subject.Cues; scope = scope.Track; said = said_cues f } ∷
    record { subject = subject.Times; scope = scope.Track; said = said_times f } ∷ []

-- the pieces of a file with the `+` before them
abbrev pub group : FileWords → List Piece
group f = record { subject = subject.Append; scope = scope.File; said = join_said f } ∷ file_pieces f

abbrev pub AreSpelled : List Piece → List (List (List ℕ)) → Type 0
AreSpelled ps parts = AllZip (λ (p : Piece) words. said_words p.said ≡ words) ps parts

pub pieces_spelled : (ps : List Piece) (ws : List (List (List ℕ))) → AreSpelled ps ws → piece_words ps ≡ parts_joined ws
pieces_spelled [] [] are = refl
pieces_spelled (p ∷ ps) (w ∷ ws) are = rw are.0 (rw (pieces_spelled ps ws are.1) refl)
pieces_spelled _ _ are = absurd are

file_spelled : (f : FileWords) → piece_words (file_pieces f) ≡ parts_joined (file_options f)
file_spelled f = pieces_spelled (file_pieces f) (file_options f) (
    select_spelled (codes "--video-tracks") (codes "--no-video") f.video &
    select_spelled (codes "--audio-tracks") (codes "--no-audio") f.audio &
    select_spelled (codes "--subtitle-tracks") (codes "--no-subtitles") f.subtitles &
    flag_words (codes "--no-attachments") Flag (not f.attachments) &
    flag_words (codes "--no-track-tags") Flag (not f.track_tags) &
    flag_words (codes "--no-global-tags") Flag (not f.global_tags) &
    flag_words (codes "--no-statistics-tags") Flag (not f.statistics) &
    flag_words (codes "--no-chapters") Flag (not f.chapters) &
    flag_words (codes "--keep-encodings") Flag f.keep_encodings &
    tracks_spelled (codes "--sync") delay_word TrackDelay f.syncs &
    tracks_spelled (codes "--track-name") (λ name. name) TrackText f.names &
    tracks_spelled (codes "--language") (λ name. name) TrackLanguage f.languages &
    tracks_spelled (codes "--language-ietf") (λ tag. tag) TrackLanguageTag f.language_tags &
    tracks_spelled (codes "--default-track-flag") flag_word TrackFlag f.defaults &
    tracks_spelled (codes "--forced-display-flag") flag_word TrackFlag f.forced &
    tracks_spelled (codes "--track-enabled-flag") flag_word TrackFlag f.flags.enabled &
    tracks_spelled (codes "--hearing-impaired-flag") flag_word TrackFlag f.flags.hearing_impaired &
    tracks_spelled (codes "--visual-impaired-flag") flag_word TrackFlag f.flags.visual_impaired &
    tracks_spelled (codes "--text-descriptions-flag") flag_word TrackFlag f.flags.text_descriptions &
    tracks_spelled (codes "--original-flag") flag_word TrackFlag f.flags.original &
    tracks_spelled (codes "--commentary-flag") flag_word TrackFlag f.flags.commentary &
    tracks_spelled (codes "--cues") cues_word TrackCues f.cues &
    tracks_spelled (codes "--timestamps") (λ name. name) TrackFile f.times &
    tt)

-- ---- the options are read
-- Delays that are whole milliseconds keep their limit.
abbrev IsSoundDelay : ℤ → Type 0
IsSoundDelay d = (nat_abs d < 2 ^ 55) × IsDelay d

both_known : (list : List (ℕ × ℤ)) → All (λ (p : ℕ × ℤ). nat_abs p.1 < 2 ^ 55) list → All (λ (p : ℕ × ℤ). IsDelay p.1) list → All (λ (p : ℕ × ℤ). IsSoundDelay p.1) list
both_known list small whole = λ k d less. (small k d less, whole k d less)

sound_delays : (f : FileWords) → IsSoundFile f → IsMergeFile f → AreOfTracks IsSoundDelay f.syncs
sound_delays f sound is = record { apart = is.syncs.apart; short = is.syncs.short; each = both_known f.syncs sound.delays is.syncs.each }

file_readable : (f : FileWords) → IsSoundFile f → IsMergeFile f → AreReadable (file_pieces f)
unfolding meaning_of table
file_readable f sound is = (
    select_readable subject.Video (codes "--video-tracks") (codes "--no-video") f.video (refl, refl) (refl, refl) is.video &
    select_readable subject.Audio (codes "--audio-tracks") (codes "--no-audio") f.audio (refl, refl) (refl, refl) is.audio &
    select_readable subject.Subtitles (codes "--subtitle-tracks") (codes "--no-subtitles") f.subtitles (refl, refl) (refl, refl) is.subtitles &
    flag_readable subject.Attachments scope.File (codes "--no-attachments") (not f.attachments) (refl, refl) &
    flag_readable subject.TrackTags scope.File (codes "--no-track-tags") (not f.track_tags) (refl, refl) &
    flag_readable subject.GlobalTags scope.File (codes "--no-global-tags") (not f.global_tags) (refl, refl) &
    flag_readable subject.Statistics scope.File (codes "--no-statistics-tags") (not f.statistics) (refl, refl) &
    flag_readable subject.Chapters scope.File (codes "--no-chapters") (not f.chapters) (refl, refl) &
    flag_readable subject.KeepEncodings scope.File (codes "--keep-encodings") f.keep_encodings (refl, refl) &
    tracks_readable (codes "--sync") delay_word TrackDelay subject.Sync form.TrackDelay IsSoundDelay f.syncs (refl, refl) refl refl (λ id x. refl)
    (λ id x short whole. track_delay_read id x short whole.0 whole.1) (sound_delays f sound is) &
    tracks_readable (codes "--track-name") (λ name. name) TrackText subject.TrackName form.TrackText IsText f.names (refl, refl) refl refl (λ id x. refl)
    (λ id x short text. track_text_read id x short text) is.names &
    tracks_readable (codes "--language") (λ name. name) TrackLanguage subject.Language form.TrackLanguage IsLanguage f.languages (refl, refl) refl refl (λ id x. refl)
    (λ id x short word. track_language_read id x short word) is.languages &
    tracks_readable (codes "--language-ietf") (λ tag. tag) TrackLanguageTag subject.LanguageTag form.TrackLanguageTag IsLanguageTag f.language_tags (refl, refl) refl refl (λ id x. refl)
    (λ id x short word. track_tag_read id x short word) is.language_tags &
    tracks_readable (codes "--default-track-flag") flag_word TrackFlag subject.DefaultFlag form.TrackFlag (λ b. Unit {0}) f.defaults (refl, refl) refl refl (λ id x. refl)
    (λ id x short any. track_flag_read id x short) is.defaults &
    tracks_readable (codes "--forced-display-flag") flag_word TrackFlag subject.ForcedFlag form.TrackFlag (λ b. Unit {0}) f.forced (refl, refl) refl refl (λ id x. refl)
    (λ id x short any. track_flag_read id x short) is.forced &
    tracks_readable (codes "--track-enabled-flag") flag_word TrackFlag subject.EnabledFlag form.TrackFlag (λ b. Unit {0}) f.flags.enabled (refl, refl) refl refl (λ id x. refl)
    (λ id x short any. track_flag_read id x short) is.enabled &
    tracks_readable (codes "--hearing-impaired-flag") flag_word TrackFlag subject.HearingImpairedFlag form.TrackFlag (λ b. Unit {0}) f.flags.hearing_impaired (refl, refl) refl refl (λ id x. refl)
    (λ id x short any. track_flag_read id x short) is.hearing_impaired &
    tracks_readable (codes "--visual-impaired-flag") flag_word TrackFlag subject.VisualImpairedFlag form.TrackFlag (λ b. Unit {0}) f.flags.visual_impaired (refl, refl) refl refl (λ id x. refl)
    (λ id x short any. track_flag_read id x short) is.visual_impaired &
    tracks_readable (codes "--text-descriptions-flag") flag_word TrackFlag subject.TextDescriptionsFlag form.TrackFlag (λ b. Unit {0}) f.flags.text_descriptions (refl, refl) refl refl (λ id x. refl)
    (λ id x short any. track_flag_read id x short) is.text_descriptions &
    tracks_readable (codes "--original-flag") flag_word TrackFlag subject.OriginalFlag form.TrackFlag (λ b. Unit {0}) f.flags.original (refl, refl) refl refl (λ id x. refl)
    (λ id x short any. track_flag_read id x short) is.original &
    tracks_readable (codes "--commentary-flag") flag_word TrackFlag subject.CommentaryFlag form.TrackFlag (λ b. Unit {0}) f.flags.commentary (refl, refl) refl refl (λ id x. refl)
    (λ id x short any. track_flag_read id x short) is.commentary &
    tracks_readable (codes "--cues") cues_word TrackCues subject.Cues form.TrackCues (λ c. Unit {0}) f.cues (refl, refl) refl refl (λ id x. refl)
    (λ id x short any. track_cues_read id x short) is.cues &
    tracks_readable (codes "--timestamps") (λ name. name) TrackFile subject.Times form.TrackFile (λ name. Unit {0}) f.times (refl, refl) refl refl (λ id x. refl)
    (λ id x short any. track_file_read id x short) is.times &
    tt)

-- ---- a `+`, and the name
join_read : (count : ℕ) (before : List Item) (at : ℕ) (b : Bool) (rest : List (List ℕ)) → (b ≡ true → (files_in before == 0) ≡ false) → stands subject.Append (since_file before) ≡ false
    → read_all count before (starts at (flag (codes "+") b ++ rest)) ≡ read_all count (before ++ said_items at subject.Append scope.File (said_flag (codes "+") Flag b)) (starts (after_said at (said_flag (codes "+") Flag b)) rest)
unfolding item_at append_at meaning_of
join_read count before at false rest some free = rw (append-nil before) refl
join_read count before at true rest some free = read_one count before at (codes "+") None (item at subject.Append scope.File Flag) rest refl (rw (some refl) (rw free refl))

name_read : (count : ℕ) (before : List Item) (at : ℕ) (name : List ℕ) (rest : List (List ℕ)) → IsInputName name → nat_le 64 (files_in before) ≡ false
    → read_all count before (starts at (name ∷ rest)) ≡ read_all count (before ++ item at subject.File scope.Output (File name) ∷ []) (starts (at + 1) rest)
unfolding item_at file_at meaning_of
name_read count before at name rest is few =
    read_one count before at name None (item at subject.File scope.Output (File name)) rest (rw is.file refl) (rw (other_word name (codes "+") is.joins) (rw is.file (rw few refl)))

-- ---- a file
abbrev pub file_items : ℕ → FileWords → List Item
file_items at f = piece_items at (group f) ++ item (after_pieces at (group f)) subject.File scope.Output (File f.name) ∷ []

abbrev pub after_file : ℕ → FileWords → ℕ
after_file at f = after_pieces at (group f) + 1

-- Items with another subject aren't counted.
pub none_with : (t : Subject) (items : List Item) → stands t items ≡ false → counted t items ≡ 0
none_with t [] none = refl
none_with t (i ∷ is) none = let parts = or_parts (same i.subject t) (stands t is) none in rw parts.0 (none_with t is parts.1)

pub counted_both : (a b : List Item) → files_in (a ++ b) ≡ files_in a + files_in b
counted_both a b = sum_by-append (λ (i : Item). if is_file i then 1 else 0) a b

pub same_count : (before more : List Item) → stands subject.File more ≡ false → files_in (before ++ more) ≡ files_in before
same_count before more none = let e = counted_both before more in let z = none_with subject.File more none in omega arith

group_no_file : (f : FileWords) (at : ℕ) → stands subject.File (piece_items at (group f)) ≡ false
group_no_file f at = other_stands at subject.File (group f) refl

pub file_read : (count : ℕ) (before : List Item) (at : ℕ) (f : FileWords) (rest : List (List ℕ)) → IsSoundFile f → IsMergeFile f → (f.appended ≡ true → (files_in before == 0) ≡ false)
    → files_in before < 64 → AreFree before (group f) → read_all count before (starts at (file_words f ++ rest)) ≡ read_all count (before ++ file_items at f) (starts (after_file at f) rest)
file_read count before at f rest sound is some few free =
    let joins = said_items at subject.Append scope.File (join_said f) in
    let behind = after_said at (join_said f) in
    let options = piece_items behind (file_pieces f) in
    let all = piece_items at (group f) in
    let opts : (parts_joined (file_options f) ++ f.name ∷ []) ++ rest ≡ parts_joined (file_options f) ++ (f.name ∷ rest) = append_assoc (parts_joined (file_options f)) (f.name ∷ []) rest in
    let first = join_read count before at f.appended (parts_joined (file_options f) ++ (f.name ∷ rest)) some free.0 in
    let next = pieces_read (file_pieces f) count (before ++ joins) behind (f.name ∷ rest) refl refl refl (file_readable f sound is) (still_free before at subject.Append scope.File (join_said f) (file_pieces f) refl refl refl free.1) in
    let ends = item (after_pieces at (group f)) subject.File scope.Output (File f.name) in
    let read = subst (λ ws. read_all count (before ++ joins) (starts behind (ws ++ (f.name ∷ rest))) ≡ read_all count ((before ++ joins) ++ options) (starts (after_pieces at (group f)) (f.name ∷ rest))) (file_spelled f) next in
    let whole : (before ++ joins) ++ options ≡ before ++ all = append_assoc before joins options in
    let behind_options = rw whole at read in
    let number : files_in (before ++ all) ≡ files_in before = same_count before all (group_no_file f at) in
    let room : nat_le 64 (files_in (before ++ all)) ≡ false = grind (arith, nat_tests) in
    let last = name_read count (before ++ all) (after_pieces at (group f)) f.name rest is.name room in
    let behind_name = rw (append_assoc before all (ends ∷ [])) at last in
    rw (append_assoc (flag (codes "+") f.appended) (parts_joined (file_options f) ++ f.name ∷ []) rest) (rw opts (first ∙ (behind_options ∙ behind_name)))
