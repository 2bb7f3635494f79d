-- Small SubRip files that are read, computed: a wrong definition doesn't check.
use Rattle.std.proofs.Common.{◌≡◌, ℕ, List, [], ◌∷◌, ◌++◌, codes, Ok, Err, refl}
use Rattle.std.specs.Str.{is_utf8, chars}
use lib.Utf8.{encode}
use Rattle.mkv_io.specs.declared.entry.Entry.{Entry}
use Rattle.mkv_io.specs.Octets.{cut}
use Rattle.text_formats.specs.Fields.{digits, minutes_or_seconds}
use Rattle.text_formats.specs.Times.{seconds, clock, times, is_number}
use Rattle.text_formats.specs.Srt.{head, before_head, trimmed, entries, has_arrow, first_bad, srt}

-- lines, each ended by LF
abbrev pub text : List (List ℕ) → List ℕ
text [] = []
text (l ∷ ls) = l ++ 10 ∷ text ls

-- an entry: its start, its duration and its text
abbrev entry : ℕ → ℕ → List ℕ → Entry
entry from lasting words = record { start = from; duration = lasting; text = words }

-- an entry of two lines, from 1 second to 2.5 seconds
abbrev pub example_text : List ℕ
example_text = text (codes "1" ∷ codes "00:00:01,000 --> 00:00:02,500" ∷ codes "Hi" ∷ codes "you" ∷ [] ∷ [])

abbrev hi_read : Entry
hi_read = entry 1000000000 1500000000 (codes "Hi" ++ 10 ∷ codes "you")

-- an entry from 0.5 seconds to 1.5 seconds
abbrev early : List ℕ
early = text (codes "7 " ∷ codes "00:00:00.500 --> 00:00:01.500 X1:40" ∷ codes "a" ∷ [] ∷ codes "b" ∷ [])

abbrev early_read : Entry
early_read = entry 500000000 1000000000 (codes "a" ++ 10 ∷ 10 ∷ codes "b")

-- an entry from 1 second to 1 second, with a UTF-8 mark first, CRLF after lines, and nothing after the last one
abbrev marked : List ℕ
marked =
    (239 ∷ 187 ∷ 191 ∷ []) ++
    codes "1" ++ (13 ∷ 10 ∷ []) ++
    codes "00:00:01,000 --> 00:00:01,000" ++ (13 ∷ 10 ∷ []) ++
    codes "a"

-- an entry of a millisecond whose text is a number
abbrev numbered : List ℕ
numbered = text (codes "1" ∷ codes "00:00:00,000 --> 00:00:00,001" ∷ codes "2" ∷ [])

-- an entry at the latest time with four digits of hours, without a text
abbrev latest_of_all : List ℕ
latest_of_all = text (codes "1" ∷ codes "9999:59:59,999 --> 9999:59:59,999" ∷ [])

pub record AreEntries : Type 0 where
  -- The lines of a text have LF between them; empty ones at its end are removed.
  pub one : srt example_text ≡ Ok (hi_read ∷ [])
  -- Inner empty lines stay. A point may replace a comma, a space may follow the number, and words may follow the times.
  pub between : srt early ≡ Ok (early_read ∷ [])
  -- Entries are in the order of their starts, with any numbers.
  pub sorted : srt (example_text ++ early) ≡ Ok (early_read ∷ hi_read ∷ [])
  -- The mark at the start is ignored, CRLF ends a line, and the last line needs no end. An entry may end at its start.
  pub with_mark : srt marked ≡ Ok (entry 1000000000 0 (codes "a") ∷ [])
  -- A number line without a time line after it is text.
  pub number : srt numbered ≡ Ok (entry 0 1000000 (codes "2") ∷ [])
  -- Hours may have four digits, and a text may be missing.
  pub latest : srt latest_of_all ≡ Ok (entry 35999999999000000 0 [] ∷ [])

pub entries_read : AreEntries
unfolding srt head before_head trimmed entries has_arrow first_bad seconds clock times is_number cut digits minutes_or_seconds is_utf8 chars encode
entries_read = record { one = refl; between = refl; sorted = refl; with_mark = refl; number = refl; latest = refl }

pub record AreBadLines : Type 0 where
  -- A line comes before the first number line.
  pub front : srt (text (codes "x" ∷ [])) ≡ Err 1
  -- The first number line has no time line after it.
  pub no_times : srt (text (codes "1" ∷ codes "a" ∷ [])) ≡ Err 1
  -- An entry ends before it starts.
  pub backward : srt (text (codes "1" ∷ codes "00:00:02,000 --> 00:00:01,999" ∷ [])) ≡ Err 2
  -- A text has an arrow.
  pub arrow : srt (example_text ++ text (codes "a-->b" ∷ [])) ≡ Err 6
  -- Minutes must be below 60, so the line isn't a time line.
  pub minutes : srt (example_text ++ text (codes "2" ∷ codes "00:60:00,000 --> 01:00:00,000" ∷ [])) ≡ Err 7
  -- A line isn't UTF-8; it comes before one with an arrow, and is reported.
  pub not_utf8 : srt (example_text ++ text ((0xFF ∷ []) ∷ codes "-->" ∷ [])) ≡ Err 6

pub bad_lines : AreBadLines
unfolding srt head before_head trimmed entries has_arrow first_bad seconds clock times is_number cut digits minutes_or_seconds is_utf8 chars encode
bad_lines = record { front = refl; no_times = refl; backward = refl; arrow = refl; minutes = refl; not_utf8 = refl }
