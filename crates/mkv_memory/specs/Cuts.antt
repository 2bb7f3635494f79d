-- A text that is divided into lines.
use Rattle.std.specs.Prelude.{◌≡◌, ℕ, ◌+◌, ◌-◌, ◌<◌, ◌≤◌, List, [], ◌∷◌, length, get_or}
use Rattle.std.specs.List.{slice_range}
use Rattle.std.specs.Str.{IsCharBoundary}

-- the lines of `text` from the offset `start` up to each of the given offsets, in bytes. `lines_between` uses it.
abbrev pub lines_from : List ℕ → ℕ → List ℕ → List (List ℕ)
lines_from text start [] = []
lines_from text start (end ∷ ends) = slice_range text start end ∷ lines_from text end ends

-- the lines of `text` between the given offsets, in bytes. A report in memory has its lines so. Used by `seen`.
abbrev pub lines_between : List ℕ → List ℕ → List (List ℕ)
lines_between text [] = []
lines_between text (start ∷ ends) = lines_from text start ends

-- Each of the offsets `cuts`, in bytes, is a boundary between characters of `text`. It is true of every report in memory.
abbrev pub AreBoundaries : List ℕ → List ℕ → Type 0
AreBoundaries text cuts = (k : ℕ) → k < length cuts → IsCharBoundary text (get_or cuts k 0)

-- Each of the offsets `cuts`, in bytes, is at most the next one. It is true of every report in memory.
abbrev pub AreOrdered : List ℕ → Type 0
AreOrdered cuts = (k : ℕ) → k + 1 < length cuts → get_or cuts k 0 ≤ get_or cuts (k + 1) 0

-- The last of the offsets `cuts`, which isn't empty, is `end`. It is true of every report in memory, for the length of its text in bytes.
abbrev pub EndAt : List ℕ → ℕ → Type 0
EndAt cuts end = (0 < length cuts) × (get_or cuts (length cuts - 1) 0 ≡ end)
