-- The canonical command line of a merge: the options for the whole output, then each attached file and each file after the options for it.
use Rattle.std.specs.Prelude.{ℕ, ◌/◌, ◌==◌, Bool, true, false, not, if◌then◌else◌, List, [], ◌∷◌, ◌++◌, codes, Option, Some, None, option_map}
use Rattle.std.specs.List.{flat_map}
use Rattle.std.specs.Fmt.{decimal}
use Rattle.requests.specs.declared.track.Select.{Select}
use Rattle.requests.specs.declared.track.Select.TheVariants as select
use Rattle.requests.specs.declared.merge.AttachedWords.{AttachedWords}
use Rattle.requests.specs.declared.merge.FileWords.{FileWords}
use Rattle.requests.specs.declared.merge.MergeWords.{MergeWords}
use Rattle.word_laws.specs.Values.{with_number, numbers_word, split_word, uuids_word, order_word, delay_word, flag_word, cues_word}

-- the option `option`, which takes no value, as arguments, if it is given. For the options of a merge.
abbrev pub flag : List ℕ → Bool → List (List ℕ)
flag option true = option ∷ []
flag option false = []

-- the option `option` and its value as arguments, if there is a value. For the options of a merge.
abbrev pub with_value : List ℕ → Option (List ℕ) → List (List ℕ)
with_value option None = []
with_value option (Some value) = option ∷ value ∷ []

-- the number `n`, unless it is the default `usual`. For options with a default. Used by `length_word` and `output_options`.
abbrev pub unusual : ℕ → ℕ → Option ℕ
unusual usual n = if n == usual then None else Some n

-- the value of `--cluster-length`, for a limit of `blocks` blocks and `span` nanoseconds; none if both are the default. `span` is in nanoseconds. For
-- `output_options`.
abbrev pub length_word : ℕ → ℕ → Option (List ℕ)
length_word blocks span =
    if blocks == 65535 then option_map (λ t. decimal (t / 1000000) ++ codes "ms") (unusual 5000000000 span)
    else Some (decimal blocks)

-- the arguments for a selection of tracks of one type. `taken` is the option that names tracks, and `none` the option that excludes all. For
-- `file_options`, in the laws on canonical command lines.
abbrev pub select_words : List ℕ → List ℕ → Select → List (List ℕ)
select_words taken none select.All = []
select_words taken none (select.These ids) = taken ∷ numbers_word ids ∷ []
select_words taken none (select.AllBut ids) = taken ∷ (codes "!" ++ numbers_word ids) ∷ []
select_words taken none select.Off = none ∷ []

-- the arguments of `option`, given once for each track in `list`; `word` gives the text of a value. For `file_options`, in the laws on canonical
-- command lines.
abbrev pub for_tracks : {X : Type 0} → List ℕ → (X → List ℕ) → List (ℕ × X) → List (List ℕ)
for_tracks {X} option word list = flat_map (λ (p : ℕ × X). option ∷ with_number p.0 (word p.1) ∷ []) list

-- the arguments of several options, `parts`, in sequence. For `merge_words` and `file_words`, in the laws on canonical command lines.
abbrev pub parts_joined : List (List (List ℕ)) → List (List ℕ)
parts_joined parts = flat_map (λ part. part) parts

-- the arguments of each option of the merge `words` for the whole output, in canonical order; none for a default. For `merge_words`.
abbrev pub output_options : MergeWords → List (List (List ℕ))
output_options words =
    with_value (codes "--output") (Some words.output) ∷
    flag (codes "--webm") words.webm ∷
    with_value (codes "--title") words.title ∷
    with_value (codes "--chapters") words.chapters ∷
    with_value (codes "--timestamp-scale") (option_map decimal (unusual 1000000 words.scale)) ∷
    with_value (codes "--cluster-length") (length_word words.blocks words.span) ∷
    with_value (codes "--split") (option_map split_word words.split) ∷
    with_value (codes "--segment-uid") (uuids_word words.uuids) ∷
    flag (codes "--link") words.link ∷
    flag (codes "--duration") words.duration ∷
    flag (codes "--append-damaged") words.append_damaged ∷
    with_value (codes "--track-order") (order_word words.order) ∷ []

-- the arguments of each option for the file `file` and its tracks, in canonical order; none for a default. For `file_words`, in the laws on canonical
-- command lines.
abbrev pub file_options : FileWords → List (List (List ℕ))
file_options file =
    select_words (codes "--video-tracks") (codes "--no-video") file.video ∷
    select_words (codes "--audio-tracks") (codes "--no-audio") file.audio ∷
    select_words (codes "--subtitle-tracks") (codes "--no-subtitles") file.subtitles ∷
    flag (codes "--no-attachments") (not file.attachments) ∷
    flag (codes "--no-track-tags") (not file.track_tags) ∷
    flag (codes "--no-global-tags") (not file.global_tags) ∷
    flag (codes "--no-statistics-tags") (not file.statistics) ∷
    flag (codes "--no-chapters") (not file.chapters) ∷
    flag (codes "--keep-encodings") file.keep_encodings ∷
    for_tracks (codes "--sync") delay_word file.syncs ∷
    for_tracks (codes "--track-name") (λ name. name) file.names ∷
    for_tracks (codes "--language") (λ name. name) file.languages ∷
    for_tracks (codes "--language-ietf") (λ tag. tag) file.language_tags ∷
    for_tracks (codes "--default-track-flag") flag_word file.defaults ∷
    for_tracks (codes "--forced-display-flag") flag_word file.forced ∷
    for_tracks (codes "--track-enabled-flag") flag_word file.flags.enabled ∷
    for_tracks (codes "--hearing-impaired-flag") flag_word file.flags.hearing_impaired ∷
    for_tracks (codes "--visual-impaired-flag") flag_word file.flags.visual_impaired ∷
    for_tracks (codes "--text-descriptions-flag") flag_word file.flags.text_descriptions ∷
    for_tracks (codes "--original-flag") flag_word file.flags.original ∷
    for_tracks (codes "--commentary-flag") flag_word file.flags.commentary ∷
    for_tracks (codes "--cues") cues_word file.cues ∷
    for_tracks (codes "--timestamps") (λ name. name) file.times ∷ []

-- the arguments for the input `file`: `+` if it is appended, the options for it, and its name. For `merge_words`, in the laws on canonical command
-- lines.
abbrev pub file_words : FileWords → List (List ℕ)
file_words file = flag (codes "+") file.appended ++ (parts_joined (file_options file) ++ file.name ∷ [])

-- the arguments for the attached file `attached`: its name, media type and description, and the file. For `merge_words`, in the laws on canonical
-- command lines.
abbrev pub attached_words : AttachedWords → List (List ℕ)
attached_words attached =
    codes "--attachment-name" ∷ attached.name ∷ codes "--attachment-mime-type" ∷ attached.media_type ∷
    codes "--attachment-description" ∷ attached.description ∷ codes "--attach-file" ∷ attached.file ∷ []

-- the arguments of the merge `words` after `merge`. For `spelled`.
abbrev pub merge_words : MergeWords → List (List ℕ)
merge_words words = parts_joined (output_options words) ++ (flat_map attached_words words.attached ++ flat_map file_words words.files)
