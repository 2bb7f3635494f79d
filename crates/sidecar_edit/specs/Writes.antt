-- Writes to a file, and the contents that a crash may leave of them.
use Rattle.std.specs.Prelude.{◌≡◌, ◌⊎◌, ℕ, ◌+◌, ◌<◌, ◌≤◌, max, List, [], ◌∷◌, length, slice_index}
use Rattle.mkv_io.specs.Contents.{overwritten}

-- A write of an edit to a file: bytes, and the offset of the first of them. It goes over the file's bytes and past its end. Used by `cut_up`,
-- `writes_in` and others.
pub record Write : Type 0 where
  pub at : ℕ
  pub bytes : List ℕ

-- the offset in the file after the last byte of the write `w` of an edit. Used by `extent`, `Fits` and others.
abbrev pub end_of : Write → ℕ
end_of w = w.at + length w.bytes

-- the content `file` after the writes of an edit in the list, in order: the edited file. Used by `write_media`, `commit` and others.
abbrev pub applied : List ℕ → List Write → List ℕ
applied file [] = file
applied file (w ∷ ws) = applied (overwritten file w.at w.bytes) ws

-- the length of a file of `n` bytes after the writes of an edit in the list. Used by `IsPartly`, `Torn` and others.
abbrev pub extent : ℕ → List Write → ℕ
extent n [] = n
extent n (w ∷ ws) = extent (max n (end_of w)) ws

-- No write of an edit in the list begins after the end of a file of `n` bytes and the earlier writes, so that none leaves a gap. Used by
-- `write_media` and `redo_writes`.
abbrev pub Fits : ℕ → List Write → Type 0
Fits n [] = Unit {0}
Fits n (w ∷ ws) = (w.at ≤ n) × Fits (max n (end_of w)) ws

-- One of the writes of an edit in the list changes the byte at the offset `k` of the file. Used by `IsPartly` and `Torn`.
abbrev pub WritesOctet : List Write → ℕ → Type 0
WritesOctet [] k = ⊥
WritesOctet (w ∷ ws) k = ((w.at ≤ k) × (k < end_of w)) ⊎ WritesOctet ws k

-- The content `torn` is what a crash may leave of the file `file` while the writes `ws` are made. Any part of them is made, so their ranges may have
-- any bytes; all other bytes are unchanged. Used by the contracts of `write_media` and `redo_writes`.
pub record Torn (ws : List Write) (file torn : List ℕ) : Type 0 where
  pub no_shorter : length file ≤ length torn
  pub no_longer : length torn ≤ extent (length file) ws
  pub elsewhere : (k : ℕ) → k < length file → (WritesOctet ws k → ⊥) → slice_index torn k ≡ slice_index file k
