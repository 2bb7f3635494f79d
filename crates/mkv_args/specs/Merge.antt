-- The command line of `merge`, or of `merge -J`, which identifies a file. It is this project's, after mkvmerge(1).
use Rattle.std.specs.Prelude.{ℕ, Bool, false, ◌&&◌, ◌||◌, if◌then◌else◌, List, slice_get, codes, Option, Some, None, is_none, Result, Ok}
use Rattle.std.specs.Str.{bytes_eq}
use Rattle.word_values.specs.declared.usage.Usage.{Usage}
use Rattle.word_values.specs.declared.usage.Why.TheVariants.{UnknownOption, ExtraWord}
use Rattle.word_values.specs.Answers.{wrong, ◌>>=◌}
use Rattle.word_values.specs.Place.{is_option, due_at}
use Rattle.requests.specs.declared.merge.MergeWords.{MergeWords}
use Rattle.merge_words.specs.Options.{meaning_of}
use Rattle.merge_words.specs.Merge.{merged}
use Rattle.mkv_args.specs.declared.command.Command.{Command}
use Rattle.mkv_args.specs.declared.command.Command.TheVariants as command

-- the refusal of `word`, argument number `at` of `merge -J FILE`, which can't be there; for `identified` and `identify`
unfoldable pub beside : ℕ → List ℕ → Result Command Usage
beside at word = if is_option word && is_none (meaning_of word) then wrong at UnknownOption else wrong at ExtraWord

-- the command `merge -J` for the file `file`, if the second argument, the one after it on the command line, is None; an argument there is refused
abbrev pub identified : List ℕ → Option (List ℕ) → Result Command Usage
identified file None = Ok (command.Identify file)
identified file (Some extra) = beside 3 extra

-- the command that the command line `words`, `merge -J FILE`, asks for, or the first wrong argument and the reason; for `merge`
unfoldable pub identify : List (List ℕ) → Result Command Usage
identify words = do
  file ← due_at words 2
  if bytes_eq file (codes "+") || is_option file then beside 2 file else identified file (slice_get words 3)

-- The argument of a command line, the second one here, is present and is the text `spelled`, such as `-J`.
abbrev pub is_word : List ℕ → Option (List ℕ) → Bool
is_word spelled None = false
is_word spelled (Some word) = bytes_eq word spelled

-- the command `merge` for `said`, the request that its arguments ask for, or the first wrong argument
abbrev pub merged_by : Result MergeWords Usage → Result Command Usage
merged_by said = do
  words ← said
  Ok (command.Merge words)

-- the command that the command line `words` of `merge` asks for: `merge` with its options and files, or `merge -J FILE`, or the first wrong argument
unfoldable pub merge : List (List ℕ) → Result Command Usage
merge words = if is_word (codes "-J") (slice_get words 1) then identify words else merged_by (merged words)
