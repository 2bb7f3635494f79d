-- The possible contents after a crash at any moment of a sequence of calls.
use Rattle.std.specs.Prelude.{◌≡◌, ◌≢◌, ◌⊎◌, ◌≤◌, ℕ, List, Bool, IsTrue}
use Rattle.mkv_io.specs.LiveFiles.{LiveFiles}
use Rattle.mkv_io.specs.declared.outside.FileId.{FileId}
use Rattle.mkv_disk.specs.Image.{DiskFile}
use Rattle.mkv_disk.specs.Pair.{IsPairWith, Pair}

-- A crash at any moment from the state `old` to `new` leaves contents of the file and its journal that fulfil `P`. Since an earlier moment, it leaves
-- such contents or ones that were possible in `old`. Contents that were possible in `old` stay possible. `moment` gives the moment of a state, and
-- `left_since` the contents that a crash since a moment may leave. Contracts of all calls on a disk promise it.
pub record LeavesOnly {D : Type 0} (moment : D → ℕ) (left_since : D → ℕ → List ℕ → List ℕ → Type 0) (old new : D) (P : List ℕ → List ℕ → Type 0) : Type 0 where
  pub later : moment old ≤ moment new
  pub each : (m s : List ℕ) → left_since new (moment old) m s → P m s
  pub before : (t : ℕ) (m s : List ℕ) → t ≤ moment old → left_since new t m s → left_since old t m s ⊎ P m s
  pub keeps : (t : ℕ) (m s : List ℕ) → t ≤ moment old → left_since old t m s → left_since new t m s

-- A crash at any moment from the state `old` to `new` leaves an image of the pair with `change` made to `file`. `pair` gives the pair of a state,
-- `moment` its moment, and `left_since` the contents that a crash since a moment may leave. It is promised if contents are visible to the proof
-- (`told`). Contracts of `Disk::write_at` and `Disk::cut` promise it.
abbrev pub LeavesChanged : {D : Type 0} → Bool → (D → ℕ) → (D → ℕ → List ℕ → List ℕ → Type 0) → (D → Pair) → D → D → FileId → (DiskFile → DiskFile) → Type 0
LeavesChanged told moment left_since pair old new file change = IsTrue told → LeavesOnly moment left_since old new (IsPairWith file change (pair old))

-- From the files `old` to `new`, only the file with the number `file` changes. The same files are open, and every other file keeps its length.
-- Contracts of `Disk::write_at`, `cut` and `sync` promise it.
pub record ChangesOne (old new : LiveFiles) (file : ℕ) : Type 0 where
  pub live : (n : ℕ) → new.live n ≡ old.live n
  pub size : (n : ℕ) → n ≢ file → new.size n ≡ old.size n
