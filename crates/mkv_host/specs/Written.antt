-- Bytes that are written over a part of a file, or after its end.
use Rattle.std.specs.Prelude.{◌≡◌, ◌≤◌, ℕ, List, length, Option, Some}
use Rattle.mkv_io.specs.Contents.{overwritten}

-- If the content `was` reaches to the offset `at`, then `now` is known: it is `was`, overwritten by `octets` from there on. Used by the contract of
-- `write_from`.
abbrev pub IsOverwritten : List ℕ → ℕ → List ℕ → Option (List ℕ) → Type 0
IsOverwritten was at octets now = at ≤ length was → now ≡ Some (overwritten was at octets)
