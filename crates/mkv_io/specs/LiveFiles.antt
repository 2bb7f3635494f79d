-- The effects of a call on the live files, each known by its number, and on their names.
use Rattle.std.specs.Prelude.{◌≡◌, ℕ, ◌+◌, ◌≤◌, Bool, true, List, length, take, Option}
use Rattle.mkv_io.specs.Contents.{with_appended, with_overwritten}
use Rattle.mkv_io.specs.Names.{Names, with_change}

-- the numbers of the live files, the length in bytes of each, and its content if it is visible to the proof. Each function is given a file number.
-- Used by `IsSameFile`, `KeepsFiles` and others.
pub record LiveFiles : Type 0 where
  pub live : ℕ → Bool
  pub size : ℕ → ℕ
  pub content : ℕ → Option (List ℕ)

-- The file with the number `file` is live in `new` if and only if it is live in `old`. A live file has the same length and content in both. `old` and
-- `new` are the live files before and after a call. `KeepsFiles` requires it.
pub record IsSameFile (old new : LiveFiles) (file : ℕ) : Type 0 where
  pub alive : new.live file ≡ old.live file
  pub size : old.live file ≡ true → new.size file ≡ old.size file
  pub content : old.live file ≡ true → new.content file ≡ old.content file

-- Each file whose number fulfils `Is` is the same in `old` and `new`, as `IsSameFile` requires. Contracts of calls on one file use it for the others.
abbrev pub KeepsFiles : LiveFiles → LiveFiles → (ℕ → Type 0) → Type 0
KeepsFiles old new Is = (file : ℕ) → Is file → IsSameFile old new file

-- Each live file has the same name in `new` as in `old`, the one that it was opened under. `live` selects the files by number. Contracts of calls on
-- files use it.
abbrev pub KeepsHolders : (ℕ → Bool) → (ℕ → List ℕ) → (ℕ → List ℕ) → Type 0
KeepsHolders live old new = (file : ℕ) → live file ≡ true → new file ≡ old file

-- From `old` to `new` the live file `file` got the length `new_size` in bytes. Its content changed by `change`, and so did the content of its name
-- `holder` among the names, from `old_names` to `new_names`. `Appends` and `Overwrites` are its two uses.
pub record ChangesFile (old new : LiveFiles) (old_names new_names : Names) (file : ℕ) (holder : List ℕ) (new_size : ℕ) (change : Option (List ℕ) → Option (List ℕ)) : Type 0 where
  pub size : new.size file ≡ new_size
  pub content : new.content file ≡ change (old.content file)
  pub names : new_names ≡ with_change old_names holder change

-- From `old` to `new` the bytes `more` were appended to the live file `file`, and to the content of its name `holder`. The names were `old_names` and
-- are `new_names`. The contract of `append` promises it.
abbrev pub Appends : LiveFiles → LiveFiles → Names → Names → ℕ → List ℕ → List ℕ → Type 0
Appends old new old_names new_names file holder more =
    ChangesFile old new old_names new_names file holder (old.size file + length more) (with_appended more)

-- From `old` to `new` the first `kept` bytes of `more` were appended to the live file `file`, and to the content of its name `holder`. The names were
-- `old_names` and are `new_names`. The contract of `append` promises it after a failure.
pub record AppendsPart (old new : LiveFiles) (old_names new_names : Names) (file : ℕ) (holder more : List ℕ) : Type 0 where
  pub kept : ℕ
  pub within : kept ≤ length more
  pub added : Appends old new old_names new_names file holder (take kept more)

-- From `old` to `new` the bytes `now` were written over the live file `file` and the content of its name `holder`. They begin at the offset `at`. The
-- names were `old_names` and are `new_names`. The contract of `overwrite` promises it.
abbrev pub Overwrites : LiveFiles → LiveFiles → Names → Names → ℕ → List ℕ → ℕ → List ℕ → Type 0
Overwrites old new old_names new_names file holder at now =
    ChangesFile old new old_names new_names file holder (old.size file) (with_overwritten at now)

-- From `old` to `new` some `n` bytes were written over the live file `file` and the content of its name `holder`. They begin at the offset `at`. The
-- names were `old_names` and are `new_names`. The contract of `overwrite` promises it after a failure.
pub record OverwritesWithin (old new : LiveFiles) (old_names new_names : Names) (file : ℕ) (holder : List ℕ) (at n : ℕ) : Type 0 where
  pub now : List ℕ
  pub count : length now ≡ n
  pub changed : Overwrites old new old_names new_names file holder at now
