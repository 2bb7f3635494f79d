-- Properties of the two files of every disk in memory.
use Rattle.std.specs.Prelude.{ℕ, zero, suc, ◌≤◌, length}
use Rattle.std.proofs.Common.{arith}
use Rattle.mkv_io.specs.declared.outside.TheConstants.{LONGEST_FILE}
use Rattle.mkv_disk.specs.Image.{DiskFile, IsImage}
use Rattle.mkv_disk.specs.Pair.{Pair}
use Rattle.mkv_memory.specs.SeenDisk.{size_in}

-- The content of the file `f` as read and its content at the last sync are possible after a crash. Neither is longer than the limit. It is true of
-- both files of every disk in memory. Used by `short`.
pub record IsSound (f : DiskFile) : Type 0 where
  pub reads : IsImage f f.reads
  pub synced : IsImage f f.synced
  pub short : length f.reads ≤ LONGEST_FILE
  pub short_synced : length f.synced ≤ LONGEST_FILE

-- No file is too long.
pub short-of_sound : (p : Pair) (n : ℕ) → IsSound p.media → IsSound p.sidecar → size_in p n ≤ LONGEST_FILE
short-of_sound p zero media sidecar = media.short
short-of_sound p (suc zero) media sidecar = sidecar.short
short-of_sound p (suc (suc n)) media sidecar = omega arith
