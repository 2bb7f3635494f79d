-- The state of a file after writes in sequence that aren't synced yet.
use Rattle.std.specs.Prelude.{◌≡◌, ◌⊎◌, ℕ, ◌+◌, ◌<◌, ◌≤◌, max, List, length, take}
use Rattle.mkv_io.specs.Contents.{overwritten}
use Rattle.mkv_disk.specs.Image.{InRanges, clean}
use Rattle.mkv_disk.specs.Pair.{Pair}
use Rattle.sidecar_edit.specs.Writes.{Write, WritesOctet, applied, extent}

-- The file and journal `old` became `new`: `bytes` were written to the file from the offset `at` on, in any pieces. It reads as after one write, and
-- a crash leaves no more than after one write. Copies of `recover` are so.
pub record IsWritten (at : ℕ) (bytes : List ℕ) (old new : Pair) : Type 0 where
  pub sidecar : new.sidecar ≡ old.sidecar
  pub reads : new.media.reads ≡ overwritten old.media.reads at bytes
  pub synced : new.media.synced ≡ old.media.synced
  pub least : new.media.least ≡ old.media.least
  pub greatest : new.media.greatest ≤ max old.media.greatest (at + length bytes)
  pub within : (k : ℕ) → InRanges new.media.written k → ((at ≤ k) × (k < at + length bytes)) ⊎ InRanges old.media.written k

-- In the file and journal `p`, the first `i` of the writes `ws` to the file `file` are made, in any pieces, and none is synced. The journal has the
-- content `beside`. An edit or a recovery is so before it syncs.
pub record IsPartly (ws : List Write) (i : ℕ) (file beside : List ℕ) (p : Pair) : Type 0 where
  pub sidecar : p.sidecar ≡ clean beside
  pub reads : p.media.reads ≡ applied file (take i ws)
  pub synced : p.media.synced ≡ file
  pub least : p.media.least ≡ length file
  pub greatest : p.media.greatest ≤ extent (length file) (take i ws)
  pub within : (k : ℕ) → InRanges p.media.written k → WritesOctet (take i ws) k
