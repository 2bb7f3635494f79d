-- The two files of a disk: the file that is edited in place, and its journal.
use Rattle.std.specs.Prelude.{◌≡◌, ℕ, zero, suc, List, Option, Some, max}
use Rattle.mkv_disk.specs.Image.{DiskFile, IsImage, clean}
use Rattle.mkv_io.specs.declared.outside.FileId.{FileId}
use Rattle.mkv_io.specs.Sources.{IsLive, file_size}
use Rattle.mkv_io.specs.declared.reads.Reads.{Ghosts}
use Rattle.mkv_disk.specs.declared.disk.TheConstants.{MEDIA, SIDECAR}

-- The two files of a disk: the file that is edited in place, and its journal. Contracts of edits describe states by it. Used by `MakesPair`,
-- `LeavesImages` and others.
pub record Pair : Type 0 where
  pub media : DiskFile
  pub sidecar : DiskFile

-- The contents `m` of the file and `s` of the journal are what a crash may leave of the pair `p`, independently of each other. Contracts of calls on
-- a disk use it. Used by `open_pair`, `sync` and others.
pub record IsPairImage (p : Pair) (m s : List ℕ) : Type 0 where
  pub media : IsImage p.media m
  pub sidecar : IsImage p.sidecar s

-- the file of the pair `p` with the number that is given: 0 is the file that is edited, any other number the journal. `Disk::write_at` and `cut`
-- require an offset inside it.
abbrev pub file_of : ℕ → Pair → DiskFile
file_of zero p = p.media
file_of (suc _) p = p.sidecar

-- the pair `p` after `change` was made to the file with the given number. 0 is the file that is edited, any other number the journal. Calls on a disk
-- change one file so. Used by `write_at`, `cut` and others.
abbrev pub on : ℕ → (DiskFile → DiskFile) → Pair → Pair
on zero change p = record { media = change p.media; sidecar = p.sidecar }
on (suc _) change p = record { media = p.media; sidecar = change p.sidecar }

-- a file with the content `media` and a journal with the content `sidecar`, without pending writes. Contracts of edits describe results by it. Used
-- by `IsSynced` and others.
abbrev pub both : List ℕ → List ℕ → Pair
both media sidecar = record { media = clean media; sidecar = clean sidecar }

-- The pair `p` has no pending writes: a crash leaves exactly what reads return. Edits require it at their start. Used by `AtRest` and others.
abbrev pub IsSynced : Pair → Type 0
IsSynced p = p ≡ both p.media.reads p.sidecar.reads

-- Contents of the file and its journal, the last two arguments, are what a crash may leave of `p` after `change` was made to `file`. `LeavesChanged`
-- uses it.
abbrev pub IsPairWith : FileId → (DiskFile → DiskFile) → Pair → List ℕ → List ℕ → Type 0
IsPairWith file change p = IsPairImage (on file.n change p)

-- The file `name` and its journal are open on `disk`, and it is the file that was opened last, as `opened` gives it. `r` has the live files of a
-- state. The contract of `Disk::open_pair` promises it.
pub record OpensPair {S : Type 0} (r : Ghosts S) (opened : S → Option (List ℕ)) (disk : S) (name : List ℕ) : Type 0 where
  pub media : IsLive r disk MEDIA
  pub sidecar : IsLive r disk SIDECAR
  pub named : opened disk ≡ Some name

-- From the state `old` to `new`, the file `file` keeps its length in bytes, or grows to the offset `end` if that is greater. `r` has the live files
-- of a state. The contract of `Disk::write_at` promises it.
abbrev pub ReachesTo : {S : Type 0} → Ghosts S → S → S → FileId → ℕ → Type 0
ReachesTo r old new file end = file_size r new file ≡ max (file_size r old file) end
