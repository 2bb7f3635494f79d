-- The two lines that begin an entry of SubRip, in this project's grammar: its number and its times.
use Rattle.std.specs.Prelude.{ℕ, ◌+◌, ◌*◌, Bool, ◌&&◌, ◌||◌, ◌==◌, nat_le, if◌then◌else◌, List, length, take, drop, slice_index, codes, Option, Some, None}
use Rattle.std.specs.List.{list_all, prefix_len}
use Rattle.std.specs.Char.{is_ascii_digit}
use Rattle.mkv_io.specs.Characters.{COLON, COMMA, POINT, SPACE, TAB}
use Rattle.mkv_io.specs.Optional.{◌>>=◌}
use Rattle.mkv_io.specs.Octets.{cut}
use Rattle.text_formats.specs.Fields.{behind, digits, minutes_or_seconds}
use Rattle.text_formats.specs.declared.times.Times.{Times}

-- the seconds `SS,mmm` or `SS.mmm` at the start of `word`, in milliseconds, or None. `clock` uses it.
unfoldable pub seconds : List ℕ → Option ℕ
seconds word = do
  s ← minutes_or_seconds (take 2 word)
  m ← digits 3 3 (take 3 (drop 3 word))
  if slice_index word 2 == COMMA || slice_index word 2 == POINT then Some (s * 1000 + m) else None

-- the time at the start of `word`, in nanoseconds, and the bytes after it, or None; hours have two to four digits. `times` uses it.
unfoldable pub clock : List ℕ → Option (ℕ × List ℕ)
clock word = do
  h ← cut COLON word
  m ← cut COLON h.1
  hours ← digits 2 4 h.0
  minutes ← minutes_or_seconds m.0
  rest ← seconds m.1
  Some (((hours * 60 + minutes) * 60000 + rest) * 1000000, drop 6 m.1)

-- The rest `word` of a line after its end time is empty or begins with a space. `times` uses it.
abbrev pub is_tail : List ℕ → Bool
is_tail word = length word == 0 || slice_index word 0 == SPACE

-- the times from `start` to `end`, in nanoseconds. `times` uses it.
abbrev pub span : ℕ → ℕ → Times
span start end = record { start = start; end = end }

-- the times of the time line `line`, in nanoseconds: two times with ` --> ` between them, and anything after a space; otherwise None. `head` uses it.
unfoldable pub times : List ℕ → Option Times
times line = do
  start ← clock line
  rest ← behind (codes " --> ") start.1
  end ← clock rest
  if is_tail end.1 then Some (span start.0 end.0) else None

-- The byte `b` is a space or a tab. `is_number` uses it.
abbrev pub is_blank : ℕ → Bool
is_blank b = b == SPACE || b == TAB

-- The line `line` is a number line: 1 to 9 digits, followed by spaces and tabs. `head` uses it.
unfoldable pub is_number : List ℕ → Bool
is_number line =
    let n = prefix_len is_ascii_digit line in
    nat_le 1 n && nat_le n 9 && list_all is_blank (drop n line)

-- 10,000 hours in nanoseconds: each time with at most four digits of hours is below. The entries of a SubRip file are checked against it. Used by
-- `clock`, `times_of` and others.
abbrev pub latest : ℕ
latest = 36000000000000000
