-- SubRip entries that are written and read back.
use Rattle.std.specs.Prelude.{◌≡◌, ◌<◌, ◌≤◌, ⊤, ℕ, ◌+◌, ◌-◌, ◌%◌, ◌^◌, ◌==◌, pos, Bool, true, false, All, List, [], ◌∷◌, ◌++◌, length, slice_index, Ok}
use Rattle.std.specs.List.{slice_split}
use Rattle.std.specs.Str.{is_utf8}
use Rattle.mkv_io.specs.declared.entry.Entry.{Entry}
use Rattle.text_formats.specs.Times.{latest}
use Rattle.text_formats.specs.Srt.{has_arrow, srt}
use Rattle.text_formats.specs.Writing.{put_srt}
use Rattle.record_laws.specs.Plain.{ends_with_return}

-- the SubRip entries as `extract` writes them, numbered from `k`. The law `entries_are_read_back` reads them.
abbrev pub put_entries : ℕ → List Entry → List ℕ
put_entries k [] = []
put_entries k (e ∷ es) = put_srt k (pos e.start) e.duration e.text ++ put_entries (k + 1) es

-- the lines of the text of a SubRip entry, separated by LF. Each must be plain in `IsPlainEntry`.
abbrev pub lines_in : List ℕ → List (List ℕ)
lines_in text = slice_split (λ b. b == 10) text

-- The last byte of the text of a SubRip entry is LF. A reader would take it as the end of the entry. Used by `IsPlainEntry`.
abbrev pub ends_with_break : List ℕ → Bool
ends_with_break text = slice_index text (length text - 1) == 10

-- The line of a SubRip entry can be read back: it is UTF-8, without `-->`, and without CR at its end. `IsPlainEntry` requires it of each.
pub record IsPlainLine (line : List ℕ) : Type 0 where
  pub utf8 : is_utf8 line ≡ true
  pub no_arrow : has_arrow line ≡ false
  pub no_return : ends_with_return line ≡ false

-- The SubRip entry `e` can be read back. Start and duration are whole milliseconds, in nanoseconds, and it ends within 10,000 hours. Each line of its
-- text is plain, and its text doesn't end with LF. It is the condition of the law `entries_are_read_back`.
pub record IsPlainEntry (e : Entry) : Type 0 where
  pub start : e.start % 1000000 ≡ 0
  pub duration : e.duration % 1000000 ≡ 0
  pub early : e.start + e.duration < latest
  pub lines : All IsPlainLine (lines_in e.text)
  pub no_break : ends_with_break e.text ≡ false

-- Each SubRip entry starts at the start of the previous one or later. A reader sorts entries, so they are read back only in this order. Used by
-- `EntriesAreReadBack`.
abbrev pub Ascend : List Entry → Type 0
Ascend [] = ⊤
Ascend (e ∷ []) = ⊤
Ascend (e ∷ f ∷ es) = (e.start ≤ f.start) × Ascend (f ∷ es)

-- Fewer than 10^9 plain SubRip entries that are written in the order of their starts, with numbers from 1, are read back. It is the law
-- `entries_are_read_back`.
abbrev pub EntriesAreReadBack : Type 0
EntriesAreReadBack = (es : List Entry) → All IsPlainEntry es → Ascend es → length es < 10 ^ 9 → srt (put_entries 1 es) ≡ Ok es
