-- Values of options by their form, in this project's grammar.
use Rattle.std.specs.Prelude.{ℕ, ◌*◌, Bool, true, false, ◌&&◌, ◌==◌, nat_le, if◌then◌else◌, List, length, codes, Option, Some, None, option_map}
use Rattle.std.specs.List.{list_any, list_all}
use Rattle.std.specs.Char.{is_ascii_lowercase}
use Rattle.std.specs.Str.{bytes_eq}
use Rattle.requests.specs.declared.track.CueWord.{CueWord}
use Rattle.requests.specs.declared.track.CueWord.TheVariants as cue
use Rattle.requests.specs.declared.track.Select.TheVariants as select
use Rattle.word_values.specs.declared.values.ValueForm.{ValueForm}
use Rattle.word_values.specs.declared.values.ValueForm.TheVariants as form
use Rattle.word_values.specs.declared.values.Value.{Value}
use Rattle.word_values.specs.declared.values.Value.TheVariants.{Flag, File, Text, Scale, Blocks, Span, Split, Uuids, Order, Tracks, TrackDelay, TrackText, TrackLanguage, TrackLanguageTag, TrackFlag, TrackCues, TrackFile}
use Rattle.mkv_io.specs.Characters.{COLON, char}
use Rattle.mkv_io.specs.Optional.{◌>>=◌}
use Rattle.mkv_io.specs.Octets.{cut}
use Rattle.word_values.specs.Numbers.{from, delay, ends, front}
use Rattle.requests.specs.Decimal.{below, number}
use Rattle.requests.specs.Language.{is_language_tag}
use Rattle.word_values.specs.Lists.{ids, order, split, uuids}

-- the value of an option of this form that takes no argument, or None if its form needs one. The contract of the function with this name promises it.
-- Used by `said` of `merge_words`.
abbrev pub flag_of : ValueForm → Option Value
flag_of form.Flag = Some Flag
flag_of form.Exclusion = Some (Tracks select.Off)
flag_of _ = None

-- the text `word`, if it has no zero byte, or else None, for titles and names of tracks. Used by `track_value` and `value_of`.
unfoldable pub text : List ℕ → Option (List ℕ)
text word = if list_any (λ b. b == 0) word then None else Some word

-- the text `word`, if it isn't empty and has no zero byte, or else None, for the name of an attached file. Used by `value_of`.
unfoldable pub full_text : List ℕ → Option (List ℕ)
full_text word = if length word == 0 then None else text word

-- The byte `octet` is a printable ASCII character, from a space to `~`. Used by `is_media_type`.
abbrev pub is_printable : ℕ → Bool
is_printable octet = nat_le 32 octet && nat_le octet 126

-- The word `word`, the value of `merge --attachment-mime-type`, has 1 to 127 printable ASCII characters. Used by `media_type`.
abbrev pub is_media_type : List ℕ → Bool
is_media_type word = nat_le 1 (length word) && (nat_le (length word) 127 && list_all is_printable word)

-- the media type `word`, if it has 1 to 127 printable ASCII characters, or else None, for `--attachment-mime-type`. Used by `value_of`.
unfoldable pub media_type : List ℕ → Option (List ℕ)
media_type word = if is_media_type word then Some word else None

-- The word `word`, the value of `merge --language`, is a language code: it consists of three lower-case letters. Used by `language`.
abbrev pub is_language : List ℕ → Bool
is_language word = length word == 3 && list_all is_ascii_lowercase word

-- the language code `word`, if it has three lower-case letters, or else None, for `--language`
unfoldable pub language : List ℕ → Option (List ℕ)
language word = if is_language word then Some word else None

-- the language tag `word`, if it has the form of one, or else None, for the LanguageBCP47 of a track. Used by `track_value` and others.
unfoldable pub language_tag : List ℕ → Option (List ℕ)
language_tag word = if is_language_tag word then Some word else None

-- the value `word` of `--timestamp-scale`: 1000 to 10000000 nanoseconds per tick, or None
unfoldable pub scale : List ℕ → Option Value
scale word = option_map Scale (below 10000001 (from 1000 (number word)))

-- the value `word` of `--cluster-length`: 100 to 32000 milliseconds followed by `ms`, in nanoseconds, or 1 to 65535 blocks; or None
unfoldable pub cluster_length : List ℕ → Option Value
cluster_length word =
    if ends word (char "s") && ends (front word) (char "m")
    then option_map (λ n. Span (n * 1000000)) (below 32001 (from 100 (number (front (front word)))))
    else option_map Blocks (below 65536 (from 1 (number word)))

-- the argument `word` of an option of a track, split at the first `:`: the track's number, and the part after it; or None. Used by `track_flag`,
-- `value_of` and others.
unfoldable pub track_and_rest : List ℕ → Option (ℕ × List ℕ)
track_and_rest word = do
  p ← cut COLON word
  id ← number p.0
  Some (id, p.1)

-- the flag of the track `id`, from 0, that `word`, 0 or 1, gives, or None for any other. `flag_in` uses it.
abbrev pub flag_digit : ℕ → List ℕ → Option Value
flag_digit id word =
    if bytes_eq word (codes "0") then Some (TrackFlag id false)
    else if bytes_eq word (codes "1") then Some (TrackFlag id true) else None

-- the flag of a track: 0 or 1 after the track's number if the argument was split, or else only the number `word`, which means 1. It is None for any
-- other. `track_flag` uses it.
abbrev pub flag_in : List ℕ → Option (ℕ × List ℕ) → Option Value
flag_in word None = option_map (λ id. TrackFlag id true) (number word)
flag_in word (Some p) = flag_digit p.0 p.1

-- the value `word` of a track's flag: a track and 0 or 1, or only a track, which means 1; or None. Used by `value_of`.
unfoldable pub track_flag : List ℕ → Option Value
track_flag word = flag_in word (track_and_rest word)

-- the rule for the blocks of a track that get a cue point, by the value `word` of `--cues` after the track, or None
unfoldable pub cue_word : List ℕ → Option CueWord
cue_word word =
    if bytes_eq word (codes "none") then Some cue.Never
    else if bytes_eq word (codes "iframes") then Some cue.Key
    else if bytes_eq word (codes "all") then Some cue.All else None

-- the value of this form for the track `id`, from 0, or None; `rest` is the part of the argument after the track ID and `:`. `value_of` uses it.
unfoldable pub track_value : ValueForm → ℕ → List ℕ → Option Value
track_value form.TrackDelay id rest = option_map (λ t. TrackDelay id t) (delay rest)
track_value form.TrackText id rest = option_map (λ t. TrackText id t) (text rest)
track_value form.TrackLanguage id rest = option_map (λ t. TrackLanguage id t) (language rest)
track_value form.TrackLanguageTag id rest = option_map (λ t. TrackLanguageTag id t) (language_tag rest)
track_value form.TrackCues id rest = option_map (λ t. TrackCues id t) (cue_word rest)
track_value form.TrackFile id rest = Some (TrackFile id rest)
track_value _ id rest = None

-- the value of this form that the argument `word` gives, or None if it doesn't have the form. The contract of the function with this name promises
-- it. The contract of the function of the same name states it.
unfoldable pub value_of : ValueForm → List ℕ → Option Value
value_of form.Flag word = None
value_of form.Exclusion word = None
value_of form.Name word = Some (File word)
value_of form.Text word = option_map Text (text word)
value_of form.FullText word = option_map Text (full_text word)
value_of form.MediaType word = option_map Text (media_type word)
value_of form.Scale word = scale word
value_of form.Length word = cluster_length word
value_of form.Split word = option_map Split (split word)
value_of form.Uuids word = option_map Uuids (uuids word)
value_of form.Order word = option_map Order (order word)
value_of form.Ids word = option_map Tracks (ids word)
value_of form.TrackFlag word = track_flag word
value_of track_form word = track_and_rest word >>= (λ p. track_value track_form p.0 p.1)
