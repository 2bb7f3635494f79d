-- Bytes of the journal that `recover` copies to the file.
use Rattle.std.specs.Prelude.{ℕ}
use Rattle.mkv_io.specs.Contents.{octets_from}
use Rattle.mkv_disk.specs.Image.{written_at}
use Rattle.mkv_disk.specs.Pair.{Pair, on}
use Rattle.sidecar_edit.specs.declared.place.Place.{Place}
use Rattle.sidecar_edit.specs.Partly.{IsWritten}

-- the file and journal `p` after `n` bytes of the journal, from the offset `from` on, were written over the file at the offset `at`; `recover` copies
-- so
abbrev pub with_copy : Pair → ℕ → ℕ → ℕ → Pair
with_copy p from at n = on 0 (written_at at (octets_from p.sidecar.reads from n)) p

-- The file and journal `old` became `new`; the contract of `copy`. The bytes of the journal from the offset `from` on were written to the place
-- `place` of the file, in any pieces.
abbrev pub IsCopied : ℕ → Place → Pair → Pair → Type 0
IsCopied from place old new = IsWritten place.at (octets_from old.sidecar.reads from place.len) old new
