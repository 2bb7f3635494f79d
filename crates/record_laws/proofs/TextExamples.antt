-- SubRip entries and simple chapters that are written, computed: a wrong definition doesn't check.
use Rattle.std.proofs.Common.{◌≡◌, ℕ, List, [], ◌∷◌, ◌++◌, codes, refl, pos, negsuc}
use Rattle.std.specs.Fmt.{digits}
use Rattle.text_formats.specs.Pieces.{stamp}
use Rattle.text_formats.specs.Writing.{put_srt}
use Rattle.text_formats.specs.ChapterWriting.{put_pair}
use Rattle.record_laws.proofs.SubRipExamples.{text, example_text}
use Rattle.record_laws.proofs.SimpleChapterExamples.{intro}

-- an entry of a number line and a time line
abbrev bare : List ℕ → List ℕ → List ℕ
bare number times = text (number ∷ times ∷ [] ∷ [] ∷ [])

abbrev twelfth : List ℕ
twelfth = text (codes "CHAPTER12=01:02:03.004" ∷ codes "CHAPTER12NAME=a" ∷ [])

abbrev hundredth : List ℕ
hundredth = text (codes "CHAPTER100=100:00:00.000" ∷ codes "CHAPTER100NAME=" ∷ [])

pub record AreEntries : Type 0 where
  -- An entry has a number, the times, the text, and an empty line.
  pub one : put_srt 1 (pos 1000000000) 1500000000 (codes "Hi" ++ 10 ∷ codes "you") ≡ example_text
  -- Milliseconds of the start and of the end are rounded down.
  pub rounded : put_srt 12 (pos 1999999) 2000000 [] ≡ bare (codes "12") (codes "00:00:00,001 --> 00:00:00,003")
  -- A time before 0 is written as 0; here the start is a second before it.
  pub negative : put_srt 1 (negsuc 999999999) 1500000000 [] ≡ bare (codes "1") (codes "00:00:00,000 --> 00:00:00,500")
  -- Hours have at least two digits, and more if they need them.
  pub hours : put_srt 1 (pos 359999999000000) 1000000 [] ≡ bare (codes "1") (codes "99:59:59,999 --> 100:00:00,000")

pub entries : AreEntries
unfolding put_srt stamp digits
entries = record { one = refl; rounded = refl; negative = refl; hours = refl }

pub record AreChapters : Type 0 where
  -- A chapter has a line with the time, and one with the name.
  pub one : put_pair 1 0 (codes "Intro") ≡ intro
  -- Milliseconds are rounded down.
  pub rounded : put_pair 12 3723004999999 (codes "a") ≡ twelfth
  -- Numbers and hours have at least two digits, and more if they need them.
  pub hundred : put_pair 100 360000000000000 [] ≡ hundredth

pub chapters : AreChapters
unfolding put_pair stamp digits
chapters = record { one = refl; rounded = refl; hundred = refl }
