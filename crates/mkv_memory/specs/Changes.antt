-- Changes of the two files of a disk in sequence.
use Rattle.std.specs.Prelude.{◌≡◌, ◌≤◌, ℕ, ◌+◌, List, [], ◌∷◌, ◌++◌, length, take}
use Rattle.std.proofs.Common.{arith, subst, sym}
use Rattle.std.proofs.lemmas.List.{take_all}
use Rattle.mkv_io.specs.Contents.{overwritten}
use Rattle.mkv_io.specs.declared.outside.TheConstants.{LONGEST_FILE}
use Rattle.mkv_disk.specs.Image.{DiskFile, all_synced, cut_to, written_at}
use Rattle.mkv_disk.specs.Pair.{Pair, IsPairImage, both, file_of, on}

-- A change of a file of a disk: bytes are written from an offset onwards, it is truncated to a length, or it is synced.
pub data Change : Type 0 where
  written : ℕ → List ℕ → Change
  cut : ℕ → Change
  synced : Change

-- the file `f` of a disk after the given change. `step` uses it.
abbrev pub changed_by : Change → DiskFile → DiskFile
changed_by (written at bytes) f = written_at at bytes f
changed_by (cut len) f = cut_to len f
changed_by synced f = all_synced f

-- the content `reads` of a file, as reads return it, after the given change. The contract of `apply` has it.
abbrev pub reads_by : Change → List ℕ → List ℕ
reads_by (written at bytes) reads = overwritten reads at bytes
reads_by (cut len) reads = take len reads
reads_by synced reads = reads

-- the number of bytes that the given change writes, as its room in the log. `octets_in` uses it.
abbrev pub octets_of : Change → ℕ
octets_of (written at bytes) = length bytes
octets_of (cut len) = 0
octets_of synced = 0

-- The given change begins within the content `reads` of the file. `MemDisk::make` requires it.
abbrev pub BeginsWithin : Change → List ℕ → Type 0
BeginsWithin (written at bytes) reads = at ≤ length reads
BeginsWithin (cut len) reads = len ≤ length reads
BeginsWithin synced reads = Unit {0}

-- The given change begins within the content `reads` of the file, and leaves the file no longer than the limit. It is so for each change that is
-- made.
abbrev pub CanChange : Change → List ℕ → Type 0
CanChange (written at bytes) reads = (at ≤ length reads) × (at + length bytes ≤ LONGEST_FILE)
CanChange (cut len) reads = len ≤ length reads
CanChange synced reads = Unit {0}

-- a change of one of the two files of a disk, and the number of this file: 0 the edited file, 1 its journal. A history has a list of them. Used by
-- `step`, `replay` and others.
pub record Made : Type 0 where
  pub file : ℕ
  pub change : Change

-- the two files `p` of a disk after the change `m` of one of them. `replay` uses it.
abbrev pub step : Made → Pair → Pair
step m p = on m.file (changed_by m.change) p

-- the two files `p` of a disk after the given changes, in order. The state of a disk is found by it. Used by `pair_of`, `LeftSince` and others.
abbrev pub replay : List Made → Pair → Pair
replay [] p = p
replay (m ∷ ms) p = replay ms (step m p)

-- Each of the given changes of the two files `p` can be made after the earlier ones. It is so for the history of a disk. Used by `replayed` and
-- `IsLogOf`.
abbrev pub CanReplay : List Made → Pair → Type 0
CanReplay [] p = Unit {0}
CanReplay (m ∷ ms) p = CanChange m.change (file_of m.file p).reads × CanReplay ms (step m p)

-- the number of bytes that the given changes write, as their room in the log. `has_room` uses it.
abbrev pub octets_in : List Made → ℕ
octets_in [] = 0
octets_in (m ∷ ms) = octets_of m.change + octets_in ms

-- the history of a disk: the contents of the two files at first, without pending writes, and the changes since. `Logged` has one.
pub record History : Type 0 where
  pub media : List ℕ
  pub sidecar : List ℕ
  pub made : List Made

-- the two files of the history `h` at first, before any change. `pair_of` uses it.
abbrev pub first_pair : History → Pair
first_pair h = both h.media h.sidecar

-- the two files after all changes of the history `h`, with the contents that a crash may leave. `pair_in` uses it.
abbrev pub pair_of : History → Pair
pair_of h = replay h.made (first_pair h)

-- the history `h` with one more change, `change`, of the file with the number `file`, 0 or 1. `and_then` uses it.
abbrev pub with_change : History → ℕ → Change → History
with_change h file change = record h { made = h.made ++ record { file = file; change = change } ∷ [] }

-- A crash might have left the contents `m` and `s` of the two files. It may have happened after the first `t` changes of the history `h`, or after
-- more of them. Contracts about crashes of the disk use it. Used by `left` and `now`.
abbrev pub LeftSince : History → ℕ → List ℕ → List ℕ → Type 0
LeftSince h t m s = (k : ℕ) × (t ≤ k) × (k ≤ length h.made) × IsPairImage (replay (take k h.made) (first_pair h)) m s

-- ---- direct consequences

-- The contents that a crash may leave now are among the ones that it might have left since any earlier moment.
pub left-now : (h : History) (t : ℕ) (m s : List ℕ) → t ≤ length h.made → IsPairImage (pair_of h) m s → LeftSince h t m s
left-now h t m s le image =
    let all : take (length h.made) h.made ≡ h.made = take_all (length h.made) h.made (omega arith) in
    (length h.made, le, omega arith, subst (λ (ms : List Made). IsPairImage (replay ms (first_pair h)) m s) (sym all) image)

-- The contents that a crash might have left since now are the ones that it may leave now.
pub now-left : (h : History) (m s : List ℕ) → LeftSince h (length h.made) m s → IsPairImage (pair_of h) m s
now-left h m s left =
    let all : take left.0 h.made ≡ h.made = take_all left.0 h.made left.1 in
    subst (λ (ms : List Made). IsPairImage (replay ms (first_pair h)) m s) all left.3
