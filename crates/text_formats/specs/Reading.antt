-- Properties that hold while the code reads a SubRip file line by line. The head of an entry is its number line and its time line.
use Rattle.std.specs.Prelude.{◌≡◌, ◌<◌, ◌≤◌, ⊤, All, ℕ, zero, suc, ◌+◌, List, [], ◌∷◌, length, Option, Some, None, Result, Ok, Err}
use Rattle.std.specs.Str.Lines.{lines}
use Rattle.mkv_io.specs.Characters.{LINE_FEED}
use Rattle.text_formats.specs.declared.reading.Head.{Head}
use Rattle.mkv_io.specs.declared.entry.Entry.{Entry}
use Rattle.text_formats.specs.declared.end.TextEnd.{TextEnd}
use Rattle.text_formats.specs.Ends.{Blames}
use Rattle.text_formats.specs.Times.{latest}
use Rattle.text_formats.specs.Srt.{head, before_head, entry, entries}
use Rattle.text_formats.specs.Walk.{Second, Behind, bad_from}
use Rattle.text_formats.specs.declared.times.Times.{Times}

-- the entries of a SubRip file from a head that was read on, if there is one, and of the lines after it. `GoesOn` uses it.
abbrev pub entries_at : Option Head → List Entry
entries_at None = []
entries_at (Some h) = entry h.times (before_head (lines h.rest.now)) ∷ entries (lines h.rest.now)

-- the number, from 1, of the first bad line after a head that was read, if there is a head and such a line. `GoesOn` uses it.
abbrev pub bad_at : Option Head → Option ℕ
bad_at None = None
bad_at (Some h) = bad_from Behind (h.number + 1) (lines h.rest.now)

-- The lines `ls` have exactly the entries from the head `h` on. The first bad line of `ls` has the number `bad`, if there is one, and is the first
-- after `h`. Used by the contracts of `skip_front` and `read_text`.
abbrev pub GoesOn : Option ℕ → List (List ℕ) → Option Head → Type 0
GoesOn bad ls h = (entries ls ≡ entries_at h) × (bad ≡ bad_at h)

-- The head was read from the bytes `from`, which `before` lines precede. The bytes after the head are fewer, and its times are in order and below
-- `latest`. Used by the contracts of `read_head`, `skip_front` and `read_text`.
abbrev pub IsWithin : ℕ → List ℕ → Option Head → Type 0
IsWithin before from None = ⊤
IsWithin before from (Some h) =
    (h.number + length h.rest.now ≤ before + length from) × (length h.rest.now < length from) × (h.times.start ≤ h.times.end) × (h.times.end < latest)

-- a bound on the lines after a head: the number of bytes after it and 1, or 0 without a head. It shows that the reading of a SubRip file ends.
abbrev pub left : Option Head → ℕ
left None = 0
left (Some h) = 1 + length h.rest.now

-- The entry `e` ends within 10,000 hours, and its text has at most `most` bytes. `AreWithin` uses it.
abbrev pub IsEntryWithin : ℕ → Entry → Type 0
IsEntryWithin most e = (e.start + e.duration < latest) × (length e.text ≤ most)

-- The list `es` has at most `most` entries, each with at most `most` bytes of text. Used by the contract of `read_srt`, and where a merge takes its
-- entries.
abbrev pub AreWithin : ℕ → List Entry → Type 0
AreWithin most es = (length es ≤ most) × All (IsEntryWithin most) es

-- `n` line feeds. The contract of `add_line` uses them.
abbrev pub breaks : ℕ → List ℕ
breaks zero = []
breaks (suc n) = LINE_FEED ∷ breaks n

-- The result has the head that the line `l` with the number `n`, from 1, begins, if it begins one; the lines `ls` follow. An error names the head's
-- second line as the first bad one. Used by the contract of `read_head`.
abbrev pub HeadRead : List ℕ → List (List ℕ) → ℕ → Result (Option Head) TextEnd → Type 0
HeadRead l ls n (Ok None) = head (l ∷ ls) ≡ None
HeadRead l ls n (Ok (Some h)) =
    (head (l ∷ ls) ≡ Some h.times) × (entries (l ∷ ls) ≡ entries_at (Some h)) × (bad_from (Second h.times) (n + 1) ls ≡ bad_at (Some h))
HeadRead l ls n (Err e) = (t : Times) × (head (l ∷ ls) ≡ Some t) × Blames e (bad_from (Second t) (n + 1) ls)
