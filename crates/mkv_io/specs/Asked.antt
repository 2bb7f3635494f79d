-- The names that files were opened or created under, in order. The name of a `create` that failed may be among them.
use Rattle.std.specs.Prelude.{◌≡◌, ◌≢◌, ◌⊎◌, ℕ, List, [], ◌∷◌, ◌++◌, Result, Ok, Err}
use Rattle.std.specs.List.{All}
use Rattle.mkv_io.specs.declared.asked.Asked.{Asked}
use Rattle.mkv_io.specs.declared.asked.Asked.TheVariants.{Made, Opened}
use Rattle.mkv_io.specs.Names.{AreOthers}

-- A call that opens or creates a file changed the asked names from `old` to `new`: it appended its name, `name`. A refused call appended it or
-- nothing, since a file may have been created or emptied before it failed. The contracts of `open_file` and `create` promise it.
abbrev pub AsksFor : {T E : Type 0} → Asked → List Asked → List Asked → Result T E → Type 0
AsksFor name old new (Ok _) = new ≡ old ++ name ∷ []
AsksFor name old new (Err _) = (new ≡ old) ⊎ (new ≡ old ++ name ∷ [])

-- The entry `name`, an opened or created name, isn't among the asked names `asked`. `AsksNone` uses it for both states of a call.
abbrev pub IsUnasked : Asked → List Asked → Type 0
IsUnasked name asked = All (λ (other : Asked). other ≢ name) asked

-- From `old` to `new`, lists of asked names, no entry that fulfils `Are` was added, unless it was there before. The contract of `run` promises it for
-- names that the command line doesn't ask for.
abbrev pub AsksNone : (Asked → Type 0) → List Asked → List Asked → Type 0
AsksNone Are old new = (name : Asked) → Are name → IsUnasked name old → IsUnasked name new

-- The entry isn't the opening of a name in `opened`, and isn't the creation of a name in `made`. It is the set of names that `AsksOnly` forbids.
abbrev pub IsNotAmong : List (List ℕ) → List (List ℕ) → Asked → Type 0
IsNotAmong opened made (Opened name) = AreOthers name opened
IsNotAmong opened made (Made name) = AreOthers name made

-- From `old` to `new`, lists of asked names, only names in `opened` were newly opened, and only names in `made` were newly created. Contracts of
-- `extract`, and of calls that open and write several files, promise it.
abbrev pub AsksOnly : List (List ℕ) → List (List ℕ) → List Asked → List Asked → Type 0
AsksOnly opened made old new = AsksNone (IsNotAmong opened made) old new
