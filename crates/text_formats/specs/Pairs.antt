-- OGM simple chapters, in this project's grammar: a line with a chapter's time and a line with its name, for each chapter.
use Rattle.std.specs.Prelude.{ℕ, ◌+◌, ◌*◌, ◌==◌, not, if◌then◌else◌, List, [], ◌∷◌, ◌++◌, length, codes, Option, Some, None, ok_or, Result, Ok}
use Rattle.std.specs.List.{filter}
use Rattle.std.specs.Str.{is_utf8}
use Rattle.mkv_io.specs.Characters.{COLON, EQUALS, POINT}
use Rattle.text_formats.specs.Lines.{Line, all_lines, lines_of, numbered}
use Rattle.mkv_io.specs.Optional.{◌>>=◌}
use Rattle.mkv_io.specs.Octets.{cut}
use Rattle.text_formats.specs.Fields.{behind, digits, minutes_or_seconds}
use Rattle.text_formats.specs.declared.chapter_reading.Chapter.{Chapter}
use Rattle.mkv_io.specs.Results.{and_then}

-- the time `word`, `HH:MM:SS.mmm`, in nanoseconds, or None. `first_line` uses it.
unfoldable pub time_of : List ℕ → Option ℕ
time_of word = do
  h ← cut COLON word
  m ← cut COLON h.1
  s ← cut POINT m.1
  hours ← digits 2 2 h.0
  minutes ← minutes_or_seconds m.0
  seconds ← minutes_or_seconds s.0
  thousandths ← digits 3 3 s.1
  Some (((hours * 60 + minutes) * 60000 + (seconds * 1000 + thousandths)) * 1000000)

-- The first line of a chapter: the digits of its number, and its time in nanoseconds. `first_line` gives it.
pub record Timed : Type 0 where
  pub number : List ℕ
  pub start : ℕ

-- the first line `line` of a chapter, `CHAPTERnn=` and a time, where nn are two to four digits, or None. `chapter_of` uses it.
unfoldable pub first_line : List ℕ → Option Timed
first_line line = do
  rest ← behind (codes "CHAPTER") line
  p ← cut EQUALS rest
  n ← digits 2 4 p.0
  t ← time_of p.1
  Some (record { number = p.0; start = t })

-- the name in the second line `line` of a chapter, `CHAPTERnnNAME=` and the name, if `number` has the digits nn and the name is UTF-8; otherwise
-- None. `chapter_of` uses it.
unfoldable pub second_line : List ℕ → List ℕ → Option (List ℕ)
second_line number line = do
  rest ← behind (codes "CHAPTER") line
  rest ← behind number rest
  name ← behind (codes "NAME=") rest
  if is_utf8 name then Some name else None

-- the chapter that starts at `start` nanoseconds and has the name `name`. `chapter_of` uses it.
abbrev pub chapter : ℕ → List ℕ → Chapter
chapter start name = record { start = start; name = name }

-- ---- the lines of a file

-- the lines of `ls` that aren't empty, with their numbers, from 1. `with_end` uses it.
abbrev pub filled : List (List ℕ) → List Line
filled ls = filter (λ (l : Line). not (length l.words == 0)) (all_lines ls)

-- the lines of `ls` that aren't empty, and an empty line after the last, which reports a name that is missing. `simple` uses it.
abbrev pub with_end : List (List ℕ) → List Line
with_end ls = filled ls ++ numbered (length ls + 1) [] ∷ []

-- the items of a list in pairs; a last one without a partner is left out. `simple` uses it for the lines of chapters.
abbrev pub two_by_two : {X : Type 0} → List X → List (X × X)
two_by_two [] = []
two_by_two (x ∷ []) = []
two_by_two (x ∷ y ∷ xs) = (x, y) ∷ two_by_two xs

-- ---- chapters

-- the chapter of the lines `a` and `b`, or the number, from 1, of the first of the two that is bad. `chapters_of` uses it.
abbrev pub chapter_of : Line → Line → Result Chapter ℕ
chapter_of a b =
    and_then (ok_or (first_line a.words) a.number) (λ first.
    and_then (ok_or (second_line first.number b.words) b.number) (λ name. Ok (chapter first.start name)))

-- the chapters of all pairs of lines, or the number, from 1, of the first bad line. `simple` uses it.
abbrev pub chapters_of : List (Line × Line) → Result (List Chapter) ℕ
chapters_of [] = Ok []
chapters_of (p ∷ ps) = and_then (chapter_of p.0 p.1) (λ c. and_then (chapters_of ps) (λ cs. Ok (c ∷ cs)))

-- The chapters of a file with the content `content`, two lines that aren't empty for each, or the number of its first bad line, from 1. The contract
-- of `read_pairs` has it.
unfoldable pub simple : List ℕ → Result (List Chapter) ℕ
simple content = chapters_of (two_by_two (with_end (lines_of content)))
