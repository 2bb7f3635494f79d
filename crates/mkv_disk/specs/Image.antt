-- The state of one file on a disk: the content that reads return, and the contents that a crash may leave.
use Rattle.std.specs.Prelude.{◌≡◌, ◌⊎◌, ℕ, ◌+◌, ◌<◌, ◌≤◌, max, min, List, [], ◌∷◌, length, take, slice_index}
use Rattle.mkv_io.specs.Contents.{overwritten}

-- the offsets in a file from `from` on and below `to`, which were written since the last good sync. A `DiskFile` has them.
pub record Range : Type 0 where
  pub from : ℕ
  pub to : ℕ

-- The offset `k` is in one of the ranges of the list, the written ones of a file. `IsImage` allows any byte there.
abbrev pub InRanges : List Range → ℕ → Type 0
InRanges [] k = ⊥
InRanges (r ∷ rs) k = ((r.from ≤ k) × (k < r.to)) ⊎ InRanges rs k

-- A file on a disk: the content that reads return, and the content at the last good sync. The other fields are about the time since that sync: the
-- least and the greatest length in bytes, and the ranges that were written. A `Pair` has two.
pub record DiskFile : Type 0 where
  pub reads : List ℕ
  pub synced : List ℕ
  pub least : ℕ
  pub greatest : ℕ
  pub written : List Range

-- The content `c` is one that a crash may leave of the file `f`. Its length is between the least and the greatest since the last good sync. Its bytes
-- are as at that sync below the least length, except in the written ranges; any others are arbitrary. `IsPairImage` requires it of both files.
pub record IsImage (f : DiskFile) (c : List ℕ) : Type 0 where
  pub no_shorter : f.least ≤ length c
  pub no_longer : length c ≤ f.greatest
  pub elsewhere : (k : ℕ) → k < f.least → (InRanges f.written k → ⊥) → slice_index c k ≡ slice_index f.synced k

-- a file with the content `bytes` without pending writes: a crash leaves what reads return. A file is so after a sync.
abbrev pub clean : List ℕ → DiskFile
clean bytes = record { reads = bytes; synced = bytes; least = length bytes; greatest = length bytes; written = [] }

-- ---- the effects of the calls on a file

-- the file `f` after `bytes` were written from the offset `at` on, over its bytes and past its end. The contract of `Disk::write_at` promises it.
abbrev pub written_at : ℕ → List ℕ → DiskFile → DiskFile
written_at at bytes f = record {
  reads = overwritten f.reads at bytes;
  synced = f.synced;
  least = f.least;
  greatest = max f.greatest (at + length bytes);
  written = record { from = at; to = at + length bytes } ∷ f.written;
}

-- the file `f` after it was truncated to `len` bytes. The contract of `Disk::cut` promises it.
abbrev pub cut_to : ℕ → DiskFile → DiskFile
cut_to len f = record {
  reads = take len f.reads;
  synced = f.synced;
  least = min f.least len;
  greatest = f.greatest;
  written = f.written;
}

-- the file `f` after a sync: a crash leaves what reads return. The contract of `Disk::sync` promises it.
abbrev pub all_synced : DiskFile → DiskFile
all_synced f = clean f.reads
