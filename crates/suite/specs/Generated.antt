-- The promise of a run of `generate`. It is this project's.
use Rattle.std.specs.Prelude.{◌≡◌, ◌⊎◌, ℕ, List, Ok}
use Rattle.mkv_io.specs.Names.{Names}
use Rattle.mkv_io.specs.Told.{IfVisible}
use Rattle.mkv_args.specs.Words.{command}
use Rattle.mkv_args.specs.declared.command.Command.TheVariants.{Generate}
use Rattle.mkv_lines.specs.declared.status.Status.{Status}
use Rattle.mkv_lines.specs.declared.status.Status.TheVariants as status
use Rattle.generate_laws.specs.Generated.{IsGenerated}

-- A run of `generate` with the status `s` did all of its work without a warning, or memory ran out, or a call of the system failed. `GeneratesWell`
-- promises it.
abbrev pub IsDoneOrStopped : Status → Type 0
IsDoneOrStopped s = (s ≡ status.Done) ⊎ ((s ≡ status.NoMemory) ⊎ (s ≡ status.Outside))

-- If the command line `words` asks for `generate`, its result is the status Done and one line, and each of its files holds its blocks. The run ends
-- with that status `s` unless it is stopped, if the files `names` are visible to the proof. The contract of `run` promises it.
abbrev pub GeneratesWell : Names → List (List ℕ) → Status → Type 0
GeneratesWell names words s =
    (n : ℕ) (prefix : List ℕ) → command words ≡ Ok (Generate n prefix) → IsGenerated n prefix × IfVisible names (λ world. IsDoneOrStopped s)
