-- The merges that have a canonical command line: their values are ones that a command line can give.
use Rattle.std.specs.Prelude.{◌≡◌, ◌⊎◌, ◌<◌, ◌≤◌, IfSome, ⊤, ℕ, ℤ, ◌-◌, ◌%◌, ◌^◌, ◌==◌, ◌||◌, nat_lt, nat_abs, All, length, Bool, true, false, List, [], ◌∷◌, map}
use Rattle.std.specs.List.{flat_map}
use Rattle.requests.specs.declared.track.Select.{Select}
use Rattle.requests.specs.declared.track.Select.TheVariants as select
use Rattle.requests.specs.declared.split.SplitWords.{SplitWords}
use Rattle.requests.specs.declared.split.SplitWords.TheVariants as split
use Rattle.requests.specs.Lists.{differ}
use Rattle.requests.specs.Language.{is_language_tag}
use Rattle.word_values.specs.Lists.{pairs_differ}
use Rattle.word_values.specs.Values.{is_language, is_media_type}
use Rattle.requests.specs.declared.merge.AttachedWords.{AttachedWords}
use Rattle.requests.specs.declared.merge.FileWords.{FileWords}
use Rattle.requests.specs.declared.merge.MergeWords.{MergeWords}
use Rattle.merge_words.specs.Files.{ids_of_select, once}
use Rattle.merge_words.specs.Merge.{all_begin}
use Rattle.word_laws.specs.Names.{IsInputName}
use Rattle.mkv_io.specs.Octets.{lacks}
use Rattle.word_laws.specs.Values.{HasFewDigits, is_in}

-- the numbers of the tracks in `list`, the pairs of a track and a value that an option gives, in its order. For `named_tracks`, in the laws on
-- canonical command lines.
abbrev pub tracks_spoken_of : {X : Type 0} → List (ℕ × X) → List ℕ
tracks_spoken_of {X} list = map (λ (p : ℕ × X). p.0) list

-- the tracks that the options for the file `f` name, in the order of the canonical command line, each once. For `IsMergeFile`, in the laws on
-- canonical command lines.
abbrev pub named_tracks : FileWords → List ℕ
named_tracks f = once (flat_map (λ ids. ids) (
    ids_of_select f.video ∷ ids_of_select f.audio ∷ ids_of_select f.subtitles ∷ tracks_spoken_of f.syncs ∷ tracks_spoken_of f.names ∷ tracks_spoken_of f.languages ∷
    tracks_spoken_of f.language_tags ∷ tracks_spoken_of f.defaults ∷ tracks_spoken_of f.forced ∷
    tracks_spoken_of f.flags.enabled ∷ tracks_spoken_of f.flags.hearing_impaired ∷ tracks_spoken_of f.flags.visual_impaired ∷
    tracks_spoken_of f.flags.text_descriptions ∷ tracks_spoken_of f.flags.original ∷ tracks_spoken_of f.flags.commentary ∷ tracks_spoken_of f.cues ∷ tracks_spoken_of f.times ∷ []))

-- The track IDs `ids` can be given as a list with commas: there is at least one, each of at most 18 digits. For selections of tracks and for
-- `--split`.
pub record AreIds (ids : List ℕ) : Type 0 where
  pub some : 0 < length ids
  pub short : All HasFewDigits ids

-- The selection of tracks can be given on a command line: all, none, or some that are selected or left out. For `IsMergeFile`, in the laws on
-- canonical command lines.
abbrev pub IsSelect : Select → Type 0
IsSelect select.All = ⊤
IsSelect (select.These ids) = AreIds ids
IsSelect (select.AllBut ids) = AreIds ids
IsSelect select.Off = ⊤

-- The option can be given for the tracks in `list`. Each has a number of at most 18 digits, occurs once, and has a value that satisfies `Is`. For
-- `IsMergeFile`, in the laws on canonical command lines.
pub record AreOfTracks {X : Type 0} (Is : X → Type 0) (list : List (ℕ × X)) : Type 0 where
  pub apart : differ (tracks_spoken_of list) ≡ true
  pub short : All (λ (p : ℕ × X). HasFewDigits p.0) list
  pub each : All (λ (p : ℕ × X). Is p.1) list

-- The delay `delay`, in nanoseconds, is a whole number of milliseconds. For `IsMergeFile`, in the laws on canonical command lines.
abbrev pub IsDelay : ℤ → Type 0
IsDelay delay = nat_abs delay % 1000000 ≡ 0

-- The text `text` has no zero byte. For the title and the names of tracks.
abbrev pub IsText : List ℕ → Type 0
IsText text = lacks 0 text ≡ true

-- The language code `word` has three lower-case letters. For `IsMergeFile`, in the laws on canonical command lines.
abbrev pub IsLanguage : List ℕ → Type 0
IsLanguage word = is_language word ≡ true

-- The language tag `word` has letters, digits and hyphens only. For `IsMergeFile`, in the laws on canonical command lines.
abbrev pub IsLanguageTag : List ℕ → Type 0
IsLanguageTag word = is_language_tag word ≡ true

-- The options for the file `f` can be given on a command line; the tracks that they name are in the canonical order. For `IsSpellableMerge`, in the
-- laws on canonical command lines.
pub record IsMergeFile (f : FileWords) : Type 0 where
  pub name : IsInputName f.name
  pub video : IsSelect f.video
  pub audio : IsSelect f.audio
  pub subtitles : IsSelect f.subtitles
  pub syncs : AreOfTracks IsDelay f.syncs
  pub names : AreOfTracks IsText f.names
  pub languages : AreOfTracks IsLanguage f.languages
  pub language_tags : AreOfTracks IsLanguageTag f.language_tags
  pub defaults : AreOfTracks (λ flag. ⊤) f.defaults
  pub forced : AreOfTracks (λ flag. ⊤) f.forced
  pub enabled : AreOfTracks (λ flag. ⊤) f.flags.enabled
  pub hearing_impaired : AreOfTracks (λ flag. ⊤) f.flags.hearing_impaired
  pub visual_impaired : AreOfTracks (λ flag. ⊤) f.flags.visual_impaired
  pub text_descriptions : AreOfTracks (λ flag. ⊤) f.flags.text_descriptions
  pub original : AreOfTracks (λ flag. ⊤) f.flags.original
  pub commentary : AreOfTracks (λ flag. ⊤) f.flags.commentary
  pub cues : AreOfTracks (λ cue. ⊤) f.cues
  pub times : AreOfTracks (λ name. ⊤) f.times
  pub named : f.named ≡ named_tracks f

-- The number of bytes `limit` can be given on a command line: as it is, as a multiple of a unit, or as 2^64 - 1. For `IsSplit`, in the laws on
-- canonical command lines.
abbrev pub is_size : ℕ → Bool
is_size limit = nat_lt limit (10 ^ 12) || (is_in 1024 limit || (is_in 1048576 limit || (is_in 1073741824 limit || limit == 2 ^ 64 - 1)))

-- The split can be given on a command line: it has at least one time, period or chapter, if it needs some. For `IsSpellableMerge`, in the laws on
-- canonical command lines.
abbrev pub IsSplit : SplitWords → Type 0
IsSplit (split.Duration by) = ⊤
IsSplit (split.Times at) = 0 < length at
IsSplit (split.Parts spans) = 0 < length spans
IsSplit split.AllChapters = ⊤
IsSplit (split.Chapters numbers) = AreIds numbers
IsSplit (split.Size limit) = is_size limit ≡ true

-- Parts may be linked, which needs their identifiers `uuids`, or aren't linked. For `IsSpellableMerge`, in the laws on canonical command lines.
abbrev pub IsLinkable : Bool → List ℕ → Type 0
IsLinkable true uuids = 0 < length uuids
IsLinkable false uuids = ⊤

-- The limits of a Cluster, `blocks` blocks and `span` nanoseconds, can be given on a command line. One of the two is the default, since the option
-- can be given only once. For `IsSpellableMerge`, in the laws on canonical command lines.
abbrev pub IsLength : ℕ → ℕ → Type 0
IsLength blocks span = (blocks ≡ 65535) ⊎ (span ≡ 5000000000)

-- The attached file `attached` can be given on a command line: its name isn't empty, its texts have no zero byte, and its media type has printable
-- ASCII characters only. For `IsSpellableMerge`, in the laws on canonical command lines.
pub record IsAttachable (attached : AttachedWords) : Type 0 where
  pub some : 0 < length attached.name
  pub name : IsText attached.name
  pub media_type : is_media_type attached.media_type ≡ true
  pub description : IsText attached.description

-- The order of tracks `order`, of a merge of the inputs `files`, can be given on a command line. Its tracks differ, their numbers have at most 18
-- digits, and each is of an input that isn't appended to another one. For `IsSpellableMerge`, in the laws on canonical command lines.
pub record IsOrder (files : List FileWords) (order : List (ℕ × ℕ)) : Type 0 where
  pub differ : pairs_differ order ≡ true
  pub short : All (λ (track : ℕ × ℕ). HasFewDigits track.0 × HasFewDigits track.1) order
  pub begin : all_begin files order ≡ true

-- The merge `words` has a canonical command line: its options for the output and the files can be given. For `IsSpellable`.
pub record IsSpellableMerge (words : MergeWords) : Type 0 where
  pub title : IfSome words.title IsText
  pub few : length words.attached ≤ 256
  pub attached : All IsAttachable words.attached
  pub length : IsLength words.blocks words.span
  pub milliseconds : words.span % 1000000 ≡ 0
  pub split : IfSome words.split IsSplit
  pub uuids : All (λ u. u < 2 ^ 128) words.uuids
  pub link : IsLinkable words.link words.uuids
  pub order : IsOrder words.files words.order
  pub files : All IsMergeFile words.files
