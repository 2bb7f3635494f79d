-- A file that is replayed from the log, and the file on the disk.
use Rattle.std.specs.Prelude.{◌≡◌, ℕ, ◌&&◌, nat_le, nat_lt, Bool, List}
use Rattle.std.specs.List.{list_any}
use Rattle.mkv_disk.specs.Image.{DiskFile}
use Rattle.mkv_memory.specs.Changes.{Change, changed_by}
use Rattle.mkv_memory.specs.Images.{is_written}
use Rattle.mkv_memory.specs.declared.pending.Pending.{Pending}
use Rattle.mkv_memory.specs.declared.pending.Span.{Span}

-- The byte at the offset `k` is in one of the ranges `spans` of a file, the ones written since its last sync. `Shows` uses it.
abbrev pub is_noted : List Span → ℕ → Bool
is_noted spans k = list_any (λ (s : Span). nat_le s.from k && nat_lt k s.to) spans

-- The file `p` that was replayed from the log is the file `f` on the disk. `p` doesn't note the greatest length since the last sync, and no choice of
-- a crash depends on it. The contracts of `Pending` use it.
pub record Shows (p : Pending) (f : DiskFile) : Type 0 where
  pub reads : p.reads.items ≡ f.reads
  pub synced : p.synced.items ≡ f.synced
  pub least : p.least ≡ f.least
  pub written : (k : ℕ) → is_noted p.written.items k ≡ is_written f.written k

-- The change `change` was made to the replayed file `old`, and the result is `new`. The contract of `Pending::make` has it.
abbrev pub IsChanged : Pending → Pending → Change → Type 0
IsChanged old new change = (f : DiskFile) → Shows old f → Shows new (changed_by change f)
