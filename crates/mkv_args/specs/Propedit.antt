-- The command line of `propedit`: this project's grammar, after mkvpropedit(1).
use Rattle.std.specs.Prelude.{ℕ, ◌+◌, Bool, true, false, ◌==◌, if◌then◌else◌, List, [], ◌∷◌, length, drop, codes, Option, Some, None, option_map, Result, Ok, slice_get}
use Rattle.std.specs.List.{starts_with}
use Rattle.std.specs.Str.{bytes_eq}
use Rattle.requests.specs.declared.edit.Edit.{Edit}
use Rattle.requests.specs.declared.edit.Selector.{Selector}
use Rattle.requests.specs.declared.edit.Selector.TheVariants.{Info, Nth, Typed, Uid, Number}
use Rattle.requests.specs.declared.edit.Change.{Change}
use Rattle.requests.specs.declared.edit.Change.TheVariants.{Set, Add, Delete}
use Rattle.word_values.specs.declared.usage.Usage.{Usage}
use Rattle.word_values.specs.declared.usage.Why.TheVariants.{MissingValue, UnknownOption}
use Rattle.mkv_args.specs.declared.propedit.TheConstants.{VIDEO_TRACK, AUDIO_TRACK, SUBTITLE_TRACK}
use Rattle.mkv_args.specs.declared.propedit.EditOptionKind.{EditOptionKind}
use Rattle.mkv_args.specs.declared.propedit.EditOptionKind.TheVariants as step
use Rattle.mkv_args.specs.declared.propedit.EditOption.{EditOption}
use Rattle.mkv_args.specs.declared.propedit.EditOption.TheVariants as says
use Rattle.mkv_args.specs.declared.command.Command.{Command}
use Rattle.mkv_args.specs.declared.command.Command.TheVariants as command
use Rattle.mkv_args.specs.Entry.{Entry, entry, meant}
use Rattle.mkv_io.specs.Characters.{EQUALS}
use Rattle.merge_words.specs.Items.{read_value}
use Rattle.word_values.specs.Answers.{wrong, ◌>>=◌}
use Rattle.mkv_io.specs.Octets.{cut}
use Rattle.word_values.specs.Numbers.{from}
use Rattle.requests.specs.Decimal.{number}
use Rattle.word_values.specs.Place.{due, due_at, file_at}

-- the position of a track in `word`, a part of a section of `propedit`, counted from 1, or None for another form
unfoldable pub place : List ℕ → Option ℕ
place word = from 1 (number word)

-- the selector of a track by its position among the tracks with the TrackType `kind`; `word` has the position, counted from 1. It is None for another
-- form. Used by `track`.
unfoldable pub typed : ℕ → List ℕ → Option Selector
typed kind word = option_map (λ n. Typed kind n) (place word)

-- The text `word`, a section of `propedit` or a part of it, begins with `mark`.
abbrev pub begins : List ℕ → List ℕ → Bool
begins mark word = starts_with (λ a b. a == b) word mark

-- the selector of `propedit` in `word`, the part of a section after `track:`, or None for another form. `N` is the N-th track; `vN`, `aN` or `sN` is
-- the N-th video, audio or subtitle track. `=UID` or `@NUMBER` names it.
unfoldable pub track : List ℕ → Option Selector
track word =
    if begins (codes "v") word then typed VIDEO_TRACK (drop 1 word)
    else if begins (codes "a") word then typed AUDIO_TRACK (drop 1 word)
    else if begins (codes "s") word then typed SUBTITLE_TRACK (drop 1 word)
    else if begins (codes "=") word then option_map Uid (number (drop 1 word))
    else if begins (codes "@") word then option_map Number (number (drop 1 word))
    else option_map Nth (place word)

-- the section in `word`, the value of `--edit` of `propedit`: `info`, or `track:` and the selector of a track. It is None for another form.
unfoldable pub selector : List ℕ → Option Selector
selector word =
    if bytes_eq word (codes "info") then Some Info
    else if begins (codes "track:") word then track (drop 6 word)
    else None

-- the table of the options of `propedit` with their spellings and kinds, which options of a command line are looked up in
unfoldable pub steps : List (Entry EditOptionKind)
steps =
    entry (codes "-e") (codes "--edit") step.Section ∷
    entry (codes "-s") (codes "--set") (step.Edit Set) ∷
    entry (codes "-a") (codes "--add") (step.Edit Add) ∷
    entry (codes "-d") (codes "--delete") (step.Edit Delete) ∷ []

-- the kind of the option `word` of `propedit`, or None if it isn't one
unfoldable pub step_of : List ℕ → Option EditOptionKind
step_of word = meant steps word

-- an option of `propedit`, its argument number, and the argument after it as its value, or None if it is the last argument
pub record Pair : Type 0 where
  pub at : ℕ
  pub option : List ℕ
  pub value : Option (List ℕ)

-- the option `option` of `propedit`, argument number `at` of `words`, with the argument after it as its value, if there is one
abbrev pub pair_at : List (List ℕ) → ℕ → List ℕ → Pair
pair_at words at option = record { at = at; option = option; value = slice_get words (at + 1) }

-- The given arguments of `propedit`, of which the first has the number `at`, in pairs of option and value. The last pair may lack its value.
abbrev pub pairs : ℕ → List (List ℕ) → List Pair
pairs at [] = []
pairs at (o ∷ []) = record { at = at; option = o; value = None } ∷ []
pairs at (o ∷ v ∷ ws) = record { at = at; option = o; value = Some v } ∷ pairs (at + 2) ws

-- An option of `propedit` of the given kind is allowed after the options before it. `edited` is true if the last section has an edit, which it must
-- have before the next one.
abbrev pub may_follow : Bool → EditOptionKind → Bool
may_follow edited step.Section = edited
may_follow edited (step.Edit change) = true

-- the given kind of the option of `propedit` at argument number `at`, if it is allowed there, or its refusal; `edited` is true if the last section
-- has an edit
abbrev pub following : ℕ → Bool → Option EditOptionKind → Result EditOptionKind Usage
following at edited None = wrong at UnknownOption
following at edited (Some step) = if may_follow edited step then Ok step else wrong at UnknownOption

-- the change `change` of a property by `NAME=VALUE` in `word`, an argument of `propedit`; the name ends at the first `=`. It is None for another
-- form.
abbrev pub changed : Change → List ℕ → Option EditOption
changed change word = option_map (λ (p : List ℕ × List ℕ). says.Change change p.0 p.1) (cut EQUALS word)

-- the option of `propedit` of the given kind with the value `word`, or None if that hasn't its form
abbrev pub meaning : EditOptionKind → List ℕ → Option EditOption
meaning step.Section word = option_map says.Section (selector word)
meaning (step.Edit Delete) word = Some (says.Change Delete word [])
meaning (step.Edit Set) word = changed Set word
meaning (step.Edit Add) word = changed Add word

-- the option of `propedit` of the kind `step` with the given value, argument number `at`, on a command line of `count` arguments, or its refusal
abbrev pub saying_at : ℕ → EditOptionKind → Option (List ℕ) → ℕ → Result EditOption Usage
saying_at at step value count = do
  word ← due count value
  read_value at (meaning step word)

-- the option of `propedit` in `pair` with its value, or its refusal. `edited` is true if the section before it has an edit; the command line has
-- `count` arguments.
abbrev pub said : ℕ → Bool → Pair → Result EditOption Usage
said count edited pair = do
  step ← following pair.at edited (step_of pair.option)
  saying_at (pair.at + 1) step pair.value count

-- The given option of `propedit` changes a property; it doesn't begin a section.
abbrev pub is_edit : EditOption → Bool
is_edit (says.Section place) = false
is_edit (says.Change change name value) = true

-- The options of `propedit` in the given pairs, in order, or the first refusal. `edited` is true if the section before them has an edit. The command
-- line has `count` arguments.
abbrev pub all_said : ℕ → Bool → List Pair → Result (List EditOption) Usage
all_said count edited [] = if edited then Ok [] else wrong count MissingValue
all_said count edited (p ∷ ps) = do
  here ← said count edited p
  more ← all_said count (is_edit here) ps
  Ok (here ∷ more)

-- the changes among the given options of `propedit` as edits, each of the last section before it; the section before all of them is `place`
abbrev pub edits_in : Selector → List EditOption → List Edit
edits_in place [] = []
edits_in place (says.Section next ∷ more) = edits_in next more
edits_in place (says.Change change name value ∷ more) = record { place = place; change = change; name = name; value = value } ∷ edits_in place more

-- the section of `propedit` that the argument number `at` of `words` names, or its refusal
abbrev pub section_at : List (List ℕ) → ℕ → Result Selector Usage
section_at words at = do
  word ← due_at words at
  read_value at (selector word)

-- the section of `propedit` in argument 3 of `words`, if argument 2 is the option `--edit`, which is given by its kind, or the refusal
abbrev pub section_behind : Option EditOptionKind → List (List ℕ) → Result Selector Usage
section_behind (Some step.Section) words = section_at words 3
section_behind _ words = wrong 2 UnknownOption

-- the first section of `propedit`, in the arguments 2 and 3 of `words`, or its refusal; the first option after FILE must be `--edit`
unfoldable pub first_section : List (List ℕ) → Result Selector Usage
first_section words = do
  option ← due_at words 2
  section_behind (step_of option) words

-- the edits of all sections that the command line `words` of `propedit` asks for, in order, or the first refusal
unfoldable pub edits : List (List ℕ) → Result (List Edit) Usage
edits words = do
  place ← first_section words
  all ← all_said (length words) false (pairs 4 (drop 4 words))
  Ok (edits_in place all)

-- the command that the command line `words`, `propedit FILE` with sections and their edits, asks for, or the first wrong argument
unfoldable pub propedit : List (List ℕ) → Result Command Usage
propedit words = do
  file ← file_at words 1
  list ← edits words
  Ok (command.Propedit file list)
