-- Counts of the bytes that are read through a window and past it.
use Rattle.std.specs.Prelude.{ℕ, ◌+◌, Result, Ok, Err}
use Rattle.mkv_io.specs.declared.outside.FileId.{FileId}
use Rattle.mkv_io.specs.Sources.{file_size}
use Rattle.mkv_io.specs.declared.reads.Reads.{Ghosts}
use Rattle.elements.specs.Window.{ReadAhead, HasNotPassed, MovesTo, Spends}

-- A window on the file `file` that hadn't passed the offset `at` has moved to the offset `to` of the result: `old` became `new`. From the state
-- `before` to `now` of the files, at most the bytes of that move were read, and `besides` more. `g` gives the proof's view of the files. It is a
-- contract of `ebml_header`.
abbrev pub GoesBesides : {S T E : Type 0} → Ghosts S → FileId → ℕ → ℕ → (T → ℕ) → ReadAhead → ReadAhead → S → S → Result T E → Type 0
GoesBesides g file besides at to old new before now (Ok x) =
    HasNotPassed old at (file_size g before file) → MovesTo (file_size g before file) (to x) old new (g.octets_read before + besides) (g.octets_read now)
GoesBesides g file besides at to old new before now (Err _) =
    HasNotPassed old at (file_size g before file) → Spends (file_size g before file) old (g.octets_read before + besides) (g.octets_read now)
