-- Arguments of the command line by their index, counted from 0, and the refusal of a missing or surplus one. The rule is this project's.
use Rattle.std.specs.Prelude.{ℕ, Bool, ◌&&◌, ◌==◌, nat_lt, nat_le, if◌then◌else◌, List, length, map, slice_get, slice_index, Option, Some, None, Result, Ok, ◌≡◌, ◌+◌, ◌∷◌, drop}
use Rattle.std.specs.String.{string_bytes}
use Rattle.std.specs.declared.string.String.{String}
use Rattle.std.specs.declared.alloc.Global.{Global}
use Rattle.word_values.specs.declared.usage.Usage.{Usage}
use Rattle.word_values.specs.declared.usage.Why.TheVariants.{MissingValue, ExtraWord, UnknownOption}
use Rattle.mkv_io.specs.Characters.{DASH}
use Rattle.word_values.specs.Answers.{wrong, ◌>>=◌}

-- the bytes of each argument of the code's command line `words`, as the definitions of commands read them. Used by `word_at`, `text_at` and others.
abbrev pub texts : List (String Global) → List (List ℕ)
texts words = map string_bytes words

-- The argument of `words` with the index `at`, counted from 0, is `word`: the arguments from there on are `word` and the ones after it. The contract
-- of `word_at` promises it.
abbrev pub IsWordAt : List (List ℕ) → ℕ → List ℕ → Type 0
IsWordAt words at word = drop at words ≡ word ∷ drop (at + 1) words

-- the argument, if it is present; if not, the refusal, whose index is `count`, the number of arguments. `due_at` uses it.
abbrev pub due : ℕ → Option (List ℕ) → Result (List ℕ) Usage
due count None = wrong count MissingValue
due count (Some word) = Ok word

-- the argument of `words` with the index `at`, counted from 0, that a command needs, or the refusal if it is missing. The contract of the function
-- with this name promises it.
abbrev pub due_at : List (List ℕ) → ℕ → Result (List ℕ) Usage
due_at words at = due (length words) (slice_get words at)

-- The argument `word` looks like an option: it has two or more bytes and begins with `-`. Parsers of commands distinguish options by it. Used by
-- `file_at` and others.
abbrev pub is_option : List ℕ → Bool
is_option word = nat_le 2 (length word) && slice_index word 0 == DASH

-- the argument of `words` with the index `at`, from 0, the name of a file that is read. It is refused if it is missing or looks like an option.
-- Commands with a file use it.
abbrev pub file_at : List (List ℕ) → ℕ → Result (List ℕ) Usage
file_at words at = do
  file ← due_at words at
  if is_option file then wrong at UnknownOption else Ok file

-- the refusal of the argument with the index `at`, from 0, of the command line `words`, after a complete command, if there is one. Definitions of
-- commands end with it. The contract of the function of the same name states it.
abbrev pub end_at : List (List ℕ) → ℕ → Result (Unit {0}) Usage
end_at words at = if nat_lt at (length words) then wrong at ExtraWord else Ok tt
