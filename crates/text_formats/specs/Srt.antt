-- SubRip, in this project's grammar. The head of an entry is its number line and its time line.
use Rattle.std.specs.Prelude.{ℕ, zero, suc, ◌+◌, ◌-◌, Bool, false, not, ◌&&◌, ◌||◌, ◌==◌, nat_lt, if◌then◌else◌, List, [], ◌∷◌, length, take, drop, slice_index_or, codes, Option, Some, None, option_map, Result, Ok, Err}
use Rattle.std.specs.Option.{is_none, is_some, option_map_or}
use Rattle.std.specs.List.{find, join_with_byte, range_with_len}
use Rattle.std.specs.Str.{bytes_eq, is_utf8}
use Rattle.mkv_io.specs.Characters.{LINE_FEED}
use Rattle.text_formats.specs.declared.times.Times.{Times}
use Rattle.mkv_io.specs.declared.entry.Entry.{Entry}
use Rattle.text_formats.specs.Lines.{lines_of}
use Rattle.text_formats.specs.Times.{times, is_number}
use Rattle.mkv_io.specs.Sorted.{sorted_by}

-- the times of the head that begins the list of lines, if it begins with one: a number line followed by a time line; otherwise None. The entries and
-- bad lines of a SubRip file depend on it. Used by `HeadRead`, `before_head` and others.
unfoldable pub head : List (List ℕ) → Option Times
head [] = None
head (n ∷ []) = None
head (n ∷ t ∷ ls) = if is_number n then times t else None

-- the lines of the list up to the next head or the end: the text of an entry. `entries` uses it.
unfoldable pub before_head : List (List ℕ) → List (List ℕ)
before_head [] = []
before_head (l ∷ ls) = if is_some (head (l ∷ ls)) then [] else l ∷ before_head ls

-- the line before the others; an empty line isn't added as the last. `trimmed` uses it.
abbrev pub onto_lines : List ℕ → List (List ℕ) → List (List ℕ)
onto_lines [] [] = []
onto_lines (b ∷ bs) [] = (b ∷ bs) ∷ []
onto_lines l (m ∷ ms) = l ∷ m ∷ ms

-- the lines of the list without the empty ones at the end. `text_of` uses them.
unfoldable pub trimmed : List (List ℕ) → List (List ℕ)
trimmed [] = []
trimmed (l ∷ ls) = onto_lines l (trimmed ls)

-- the text of an entry of SubRip with the lines `ls`: without empty lines at the end, and with LF between the lines. `entry` uses it.
abbrev pub text_of : List (List ℕ) → List ℕ
text_of ls = join_with_byte LINE_FEED (trimmed ls)

-- the entry of SubRip with the times `t`, in nanoseconds, and the text lines `ls`. `onto_entries` uses it.
abbrev pub entry : Times → List (List ℕ) → Entry
entry t ls = record { start = t.start; duration = t.end - t.start; text = text_of ls }

-- the entries `es`, after an entry with the times that are given, if any; `ls` are the text lines of that entry. `entries` uses it.
abbrev pub onto_entries : Option Times → List (List ℕ) → List Entry → List Entry
onto_entries None ls es = es
onto_entries (Some t) ls es = entry t ls ∷ es

-- the entries of SubRip in the list of lines, one for each head, in file order. `srt` uses them.
unfoldable pub entries : List (List ℕ) → List Entry
entries [] = []
entries (l ∷ ls) = onto_entries (head (l ∷ ls)) (before_head (drop 1 ls)) (entries ls)

-- The line contains `-->`, the arrow between two times. A line of text may not have it. Used by `has_stray_arrow`, `is_misplaced` and others.
unfoldable pub has_arrow : List ℕ → Bool
has_arrow [] = false
has_arrow (b ∷ bs) = bytes_eq (take 3 (b ∷ bs)) (codes "-->") || has_arrow bs

-- ---- bad lines

-- the line of `ls` with the index `k`, from 0. The checks of bad lines use it. Used by `is_stray`, `has_stray_arrow` and others.
abbrev pub line_at : List (List ℕ) → ℕ → List ℕ
line_at ls k = slice_index_or ls k []

-- the times of the head in `ls` whose second line has the index `k`, from 0, or None if it is none. The checks of bad lines use it. Used by
-- `is_backward` and `has_stray_arrow`.
abbrev pub times_at : List (List ℕ) → ℕ → Option Times
times_at ls zero = None
times_at ls (suc k) = head (drop k ls)

-- The line of `ls` with the index `k`, from 0, isn't empty and is before the first head; without a head, each line is. `is_bad` uses it.
abbrev pub is_stray : List (List ℕ) → ℕ → Bool
is_stray ls k = nat_lt k (length (before_head ls)) && not (length (line_at ls k) == 0)

-- The line of `ls` with the index `k`, from 0, is the second line of a head whose end is before its start. `is_bad` uses it.
abbrev pub is_backward : List (List ℕ) → ℕ → Bool
is_backward ls k = option_map_or (λ (t : Times). nat_lt t.end t.start) (times_at ls k) false

-- The line of `ls` with the index `k`, from 0, has `-->` and isn't the second line of a head. `is_bad` uses it.
abbrev pub has_stray_arrow : List (List ℕ) → ℕ → Bool
has_stray_arrow ls k = is_none (times_at ls k) && has_arrow (line_at ls k)

-- The line of `ls` with the index `k`, from 0, is bad: it isn't UTF-8 or isn't allowed at its place. `first_bad` uses it.
abbrev pub is_bad : List (List ℕ) → ℕ → Bool
is_bad ls k = not (is_utf8 (line_at ls k)) || is_stray ls k || is_backward ls k || has_stray_arrow ls k

-- the number, from 1, of the first bad line of a SubRip file with the lines `ls`, if there is one. `srt` uses it.
unfoldable pub first_bad : List (List ℕ) → Option ℕ
first_bad ls = option_map (λ k. k + 1) (find (is_bad ls) (range_with_len 0 (length ls)))

-- ---- the order of entries

-- the entries `es` sorted by start; entries with the same start keep their order. `srt` uses it.
abbrev pub by_start : List Entry → List Entry
by_start es = sorted_by (λ (e : Entry). e.start) es

-- the entries `es`, or the number, from 1, of the first bad line if there is one. `srt` uses it.
abbrev pub unless_bad : Option ℕ → List Entry → Result (List Entry) ℕ
unless_bad None es = Ok es
unless_bad (Some n) es = Err n

-- the entries of a SubRip file with the content `content`, sorted by start, or the number of its first bad line, from 1. The contract of `read_srt`
-- has it.
unfoldable pub srt : List ℕ → Result (List Entry) ℕ
srt content = unless_bad (first_bad (lines_of content)) (by_start (entries (lines_of content)))
