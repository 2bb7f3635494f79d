-- Chapters that are written and read back.
use Rattle.std.specs.Prelude.{◌≡◌, ◌<◌, ℕ, ◌+◌, ◌%◌, true, All, List, [], ◌∷◌, ◌++◌, length, Ok}
use Rattle.std.specs.Str.{is_utf8}
use Rattle.text_formats.specs.declared.chapter_reading.Chapter.{Chapter}
use Rattle.text_formats.specs.Pairs.{simple}
use Rattle.text_formats.specs.ChapterWriting.{put_pair}
use Rattle.record_laws.specs.Plain.{IsLine}

-- the simple chapters as `extract` writes them, numbered from `k`. The law `chapters_are_read_back` reads them.
abbrev pub put_pairs : ℕ → List Chapter → List ℕ
put_pairs k [] = []
put_pairs k (c ∷ cs) = put_pair k c.start c.name ++ put_pairs (k + 1) cs

-- The simple chapter `c` can be read back: it starts at a whole millisecond, within 100 hours, and its name is a text of one line. It is the
-- condition of the law `chapters_are_read_back`.
pub record IsPlain (c : Chapter) : Type 0 where
  pub whole : c.start % 1000000 ≡ 0
  pub early : c.start < 360000000000000
  pub utf8 : is_utf8 c.name ≡ true
  pub line : IsLine c.name

-- Fewer than 10,000 plain simple chapters that are written with numbers from 1 are read back. It is the law `chapters_are_read_back`.
abbrev pub ChaptersAreReadBack : Type 0
ChaptersAreReadBack = (cs : List Chapter) → All IsPlain cs → length cs < 10000 → simple (put_pairs 1 cs) ≡ Ok cs
