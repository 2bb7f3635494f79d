-- The command line of `extract`: this project's grammar, after mkvextract(1).
use Rattle.std.specs.Prelude.{ℕ, ◌+◌, Bool, nat_lt, if◌then◌else◌, List, [], ◌∷◌, ◌++◌, drop, codes, Option, Some, None, Result, Ok}
use Rattle.std.specs.List.{list_any}
use Rattle.std.specs.Str.{bytes_eq}
use Rattle.requests.specs.declared.job.Job.{Job}
use Rattle.requests.specs.declared.job.Job.TheVariants as jobs
use Rattle.requests.specs.declared.job.Form.{Form}
use Rattle.requests.specs.declared.job.Form.TheVariants as form
use Rattle.requests.specs.declared.job.Target.{Target}
use Rattle.word_values.specs.declared.usage.Usage.{Usage}
use Rattle.word_values.specs.declared.usage.Why.TheVariants.{UnknownCommand, UnknownOption, BadValue, RepeatedOutput}
use Rattle.mkv_args.specs.declared.command.Command.{Command}
use Rattle.mkv_args.specs.declared.command.Command.TheVariants as command
use Rattle.mkv_args.specs.declared.extract.Mode.{Mode}
use Rattle.mkv_args.specs.declared.extract.Mode.TheVariants as mode
use Rattle.mkv_args.specs.Entry.{Entry, entry, meant}
use Rattle.word_values.specs.Answers.{wrong, ◌>>=◌}
use Rattle.word_values.specs.Place.{due_at, file_at, end_at, is_option}
use Rattle.word_values.specs.Values.{track_and_rest}

-- One of `targets`, the earlier targets on a command line of `extract`, has the output `name`, so that another can't.
abbrev pub is_taken : List ℕ → List Target → Bool
is_taken name targets = list_any (λ (t : Target). bytes_eq t.name name) targets

-- the target `ID:OUT` of `extract` at argument number `at`, given as a pair, or its refusal; None has another form. The ID must be at least `least`,
-- and OUT no output of the targets `before`.
abbrev pub target_of : ℕ → List Target → ℕ → Option (ℕ × List ℕ) → Result Target Usage
target_of least before at None = wrong at BadValue
target_of least before at (Some p) =
    if nat_lt p.0 least then wrong at BadValue
    else if is_taken p.1 before then wrong at RepeatedOutput
    else Ok (record { id = p.0; name = p.1 })

-- the target of `extract` in `word`, argument number `at`, after the targets `before`, or its refusal; its ID must be at least `least`
unfoldable pub target : ℕ → List Target → ℕ → List ℕ → Result Target Usage
target least before at word = target_of least before at (track_and_rest word)

-- the targets `before` of `extract`, and the ones in the given arguments, of which the first has the number `at`, or the first refusal. IDs must be
-- at least `least`, and each output must differ from all earlier ones.
abbrev pub targets_from : ℕ → List Target → ℕ → List (List ℕ) → Result (List Target) Usage
targets_from least before at [] = Ok before
targets_from least before at (w ∷ ws) = do
  t ← target least before at w
  targets_from least (before ++ t ∷ []) (at + 1) ws

-- one or more targets of `extract`, from argument number `start` of `words` to the last one, with IDs of at least `least`, or the first refusal
unfoldable pub targets : ℕ → List (List ℕ) → ℕ → Result (List Target) Usage
targets least words start = do
  _ ← due_at words start
  targets_from least [] start (drop start words)

-- the extraction of tracks in the form `form`, whose targets begin at argument number `start` of `words`, or the first refusal; for `tracks` and
-- `job_of`
abbrev pub tracks_by : Form → List (List ℕ) → ℕ → Result Job Usage
tracks_by form words start = do
  list ← targets 0 words start
  Ok (jobs.Tracks form list)

-- the extraction that `[--raw or --fullraw] ID:OUT..` asks for, from argument 3 of `words` onwards, in the mode `tracks` of `extract`, or its refusal
unfoldable pub tracks : List (List ℕ) → Result Job Usage
tracks words = do
  word ← due_at words 3
  if bytes_eq word (codes "--raw") then tracks_by form.Raw words 4
      else if bytes_eq word (codes "--fullraw") then tracks_by form.Full words 4
      else if is_option word then wrong 3 UnknownOption
      else tracks_by form.ByCodec words 3

-- the extraction of chapters as text to OUT, which is argument 4 of `words` and the last one, or its refusal; for the mode `chapters`
abbrev pub simple : List (List ℕ) → Result Job Usage
simple words = do
  out ← due_at words 4
  _ ← end_at words 5
  Ok (jobs.Chapters out)

-- the extraction that `--simple OUT` asks for, from argument 3 of `words` onwards, in the mode `chapters` of `extract`, or its refusal
unfoldable pub chapters : List (List ℕ) → Result Job Usage
chapters words = do
  word ← due_at words 3
  if bytes_eq word (codes "--simple") then simple words
      else if is_option word then wrong 3 UnknownOption
      else wrong 3 BadValue

-- the extraction that `make` makes of the targets in `said`, or their refusal; for the modes `cues` and `attachments`. Used by `job_of`.
abbrev pub listed : (List Target → Job) → Result (List Target) Usage → Result Job Usage
listed make said = do
  list ← said
  Ok (make list)

-- the table of the modes of `extract` with their names, which argument 2 of a command line is looked up in
unfoldable pub modes : List (Entry Mode)
modes =
    entry (codes "") (codes "tracks") mode.Tracks ∷
    entry (codes "") (codes "timestamps_v2") mode.Timestamps ∷
    entry (codes "") (codes "cues") mode.Cues ∷
    entry (codes "") (codes "attachments") mode.Attachments ∷
    entry (codes "") (codes "chapters") mode.Chapters ∷ []

-- the extraction that the arguments of `extract` after the given mode ask for, or their refusal; the mode is argument 2 of `words`, and None if it is
-- unknown
unfoldable pub job_of : Option Mode → List (List ℕ) → Result Job Usage
job_of None words = wrong 2 UnknownCommand
job_of (Some mode.Tracks) words = tracks words
job_of (Some mode.Timestamps) words = tracks_by form.Times words 3
job_of (Some mode.Cues) words = listed jobs.Cues (targets 0 words 3)
job_of (Some mode.Attachments) words = listed jobs.Attachments (targets 1 words 3)
job_of (Some mode.Chapters) words = chapters words

-- the extraction that the arguments of `extract` after the mode `word` ask for, or their refusal; the mode is argument 2 of `words`
unfoldable pub job : List ℕ → List (List ℕ) → Result Job Usage
job word words = job_of (meant modes word) words

-- the command that the command line `words`, `extract FILE MODE ARGS`, asks for, or the first wrong argument and the reason
unfoldable pub extract : List (List ℕ) → Result Command Usage
extract words = do
  file ← file_at words 1
  word ← due_at words 2
  work ← job word words
  Ok (command.Extract file work)
