-- The meaning of a command line: a command, or the first wrong word and the reason. The grammar is this project's.
use Rattle.std.specs.Prelude.{ℕ, Bool, ◌&&◌, if◌then◌else◌, List, [], ◌∷◌, slice_get, codes, Option, Some, None, is_none, option_and_then, Result, Ok}
use Rattle.word_values.specs.declared.usage.Usage.{Usage}
use Rattle.word_values.specs.declared.usage.Why.TheVariants.{NoCommand, UnknownCommand}
use Rattle.mkv_args.specs.declared.command.Command.{Command}
use Rattle.mkv_args.specs.declared.command.Command.TheVariants as commands
use Rattle.mkv_args.specs.declared.commands.Verb.{Verb}
use Rattle.mkv_args.specs.declared.commands.Verb.TheVariants as verb
use Rattle.mkv_args.specs.Entry.{meant}
use Rattle.mkv_args.specs.Commands.{commands as verbs}
use Rattle.word_values.specs.Answers.{wrong, ◌>>=◌}
use Rattle.word_values.specs.Numbers.{from}
use Rattle.requests.specs.Decimal.{below, number}
use Rattle.word_values.specs.Place.{due_at, file_at, end_at, is_option}
use Rattle.merge_words.specs.Items.{read_value}
use Rattle.mkv_args.specs.Explain.{explain}
use Rattle.mkv_args.specs.Extract.{extract}
use Rattle.mkv_args.specs.Propedit.{propedit}
use Rattle.mkv_args.specs.Merge.{merge, is_word}

-- the name in argument 1 of `words`, which must be the last one, or its refusal, for `info`, `recover` and `reindex`
unfoldable pub only_file : List (List ℕ) → Result (List ℕ) Usage
only_file words = do
  file ← file_at words 1
  _ ← end_at words 2
  Ok file

-- the command `command`, if its name is the only argument of `words`, or the refusal; for `--help` and `--version`. Used by `command_named`.
unfoldable pub alone : Command → List (List ℕ) → Result Command Usage
alone command words = do
  _ ← end_at words 1
  Ok command

-- the command that the command line `words`, `info FILE`, asks for, or its refusal; for `command_named`
unfoldable pub info : List (List ℕ) → Result Command Usage
info words = do
  file ← only_file words
  Ok (commands.Info file)

-- the command that the command line `words`, `recover FILE`, asks for, or its refusal; for `command_named`
unfoldable pub recover : List (List ℕ) → Result Command Usage
recover words = do
  file ← only_file words
  Ok (commands.Recover file)

-- the command that the command line `words`, `reindex FILE`, asks for, or its refusal; for `command_named`
unfoldable pub reindex : List (List ℕ) → Result Command Usage
reindex words = do
  file ← only_file words
  Ok (commands.Reindex file)

-- the number in argument `at` of `words`, the N of `generate`, from 1 to 100000, or its refusal
unfoldable pub blocks_at : List (List ℕ) → ℕ → Result ℕ Usage
blocks_at words at = do
  word ← due_at words at
  read_value at (below 100001 (from 1 (number word)))

-- the command that the command line `words`, `generate N PREFIX`, asks for, or its refusal: the number of video frames, and the start of the names of
-- the files; for `command_named`
unfoldable pub generate : List (List ℕ) → Result Command Usage
generate words = do
  n ← blocks_at words 1
  prefix ← due_at words 2
  _ ← end_at words 3
  Ok (commands.Generate n prefix)

-- the command that the command line `words` asks for, given the command that argument 0 names, or None for an unknown name, which is refused
unfoldable pub command_named : Option Verb → List (List ℕ) → Result Command Usage
command_named None words = wrong 0 UnknownCommand
command_named (Some verb.Info) words = info words
command_named (Some verb.Merge) words = merge words
command_named (Some verb.Extract) words = extract words
command_named (Some verb.Propedit) words = propedit words
command_named (Some verb.Recover) words = recover words
command_named (Some verb.Reindex) words = reindex words
command_named (Some verb.Generate) words = generate words
command_named (Some verb.Explain) words = explain words
command_named (Some verb.Help) words = alone (commands.Help None) words
command_named (Some verb.Version) words = alone commands.Version words

-- the command that the given command line asks for, if it isn't `-h` or `COMMAND --help`, or the first wrong argument and the reason; for `help_or`
unfoldable pub first_command : List (List ℕ) → Result Command Usage
first_command [] = wrong 0 NoCommand
first_command (first ∷ rest) = command_named (meant verbs first) (first ∷ rest)

-- The only argument of `words` is `-h`, which asks for the overview of all commands.
abbrev pub is_short_help : List (List ℕ) → Bool
is_short_help words = is_word (codes "-h") (slice_get words 0) && is_none (slice_get words 1)

-- the command with the name `word`, or None if there is none or `word` looks like an option; for `COMMAND --help`. Used by `helped`.
abbrev pub named : List ℕ → Option Verb
named word = if is_option word then None else meant verbs word

-- the command that `COMMAND --help` asks the page of, if these are the only two arguments of `words`, or None; for `command`
abbrev pub helped : List (List ℕ) → Option Verb
helped words = if is_word (codes "--help") (slice_get words 1) && is_none (slice_get words 2) then option_and_then named (slice_get words 0) else None

-- the command `--help` for the given command, the first argument, or if it is None the command that `words` ask for; for `command`
abbrev pub help_or : Option Verb → List (List ℕ) → Result Command Usage
help_or (Some verb) words = Ok (commands.Help (Some verb))
help_or None words = first_command words

-- the command that the arguments `words` ask for, or the first wrong argument and the reason; the command is argument 0. `read_words` returns it.
unfoldable pub command : List (List ℕ) → Result Command Usage
command words = if is_short_help words then Ok (commands.Help None) else help_or (helped words) words
