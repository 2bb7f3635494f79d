-- A file that is edited in place and its journal, as far as the code knows them: names and lengths.
use Rattle.std.specs.Prelude.{List, ℕ, ◌≤◌, zero, suc, Bool, true, false, Option, Some, None}
use Rattle.std.proofs.Common.{arith}
use Rattle.mkv_io.specs.LiveFiles.{LiveFiles}
use Rattle.mkv_host.specs.declared.pair.OpenPair.{OpenPair}
use Rattle.mkv_io.specs.declared.outside.TheConstants.{LONGEST_FILE}

-- The file with the number `n` is open: the edited file has the number 0, its journal 1. `pair` is None if no file is edited. Contracts of the calls
-- on the pair use it. Used by `file_of`, `resize` and others.
abbrev pub is_live : Option OpenPair → ℕ → Bool
is_live None n = false
is_live (Some pair) zero = true
is_live (Some pair) (suc zero) = true
is_live (Some pair) (suc (suc n)) = false

-- the length in bytes of the file with the number `n`: 0 for the edited file, 1 for its journal; 0 bytes if it isn't open. `live_in` uses it.
abbrev pub size_in : Option OpenPair → ℕ → ℕ
size_in None n = 0
size_in (Some pair) zero = pair.media.size
size_in (Some pair) (suc zero) = pair.sidecar.size
size_in (Some pair) (suc (suc n)) = 0

-- the edited file and its journal in `pair` with their lengths, if they are open, as contracts see them; their contents aren't visible to the proof
abbrev pub live_in : Option OpenPair → LiveFiles
live_in pair = record { live = is_live pair; size = size_in pair; content = λ _. None }

-- the name of the edited file that is open with its journal, if one is. Contracts of the calls on the pair use it. Used by `resize`.
abbrev pub name_in : Option OpenPair → Option (List ℕ)
name_in None = None
name_in (Some pair) = Some pair.media.name

-- ---- simple facts

-- No open file is too long.
pub short-of_size : (pair : Option OpenPair) (n : ℕ) → size_in pair n ≤ LONGEST_FILE
short-of_size None n = omega arith
short-of_size (Some pair) zero = pair.media.short
short-of_size (Some pair) (suc zero) = pair.sidecar.short
short-of_size (Some pair) (suc (suc n)) = omega arith
