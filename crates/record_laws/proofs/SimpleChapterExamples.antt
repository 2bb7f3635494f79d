-- Small files of simple chapters that are read, computed: a wrong definition doesn't check.
use Rattle.std.proofs.Common.{◌≡◌, ℕ, List, [], ◌∷◌, ◌++◌, codes, Ok, Err, refl}
use Rattle.std.specs.Str.{is_utf8, chars}
use lib.Utf8.{encode}
use Rattle.text_formats.specs.declared.chapter_reading.Chapter.{Chapter}
use Rattle.mkv_io.specs.Octets.{cut}
use Rattle.text_formats.specs.Fields.{digits, minutes_or_seconds}
use Rattle.text_formats.specs.Pairs.{time_of, first_line, second_line, simple}
use Rattle.record_laws.proofs.SubRipExamples.{text}

-- a chapter: its start and its name
abbrev chapter : ℕ → List ℕ → Chapter
chapter from words = record { start = from; name = words }

abbrev pub intro : List ℕ
intro = text (codes "CHAPTER01=00:00:00.000" ∷ codes "CHAPTER01NAME=Intro" ∷ [])

-- one with four digits and an empty name, and empty lines before and inside
abbrev sparse : List ℕ
sparse = text ([] ∷ codes "CHAPTER0002=01:02:03.004" ∷ [] ∷ codes "CHAPTER0002NAME=" ∷ [])

-- a first line, and a second one with this text after `CHAPTER`
abbrev behind_first : List ℕ → List ℕ
behind_first words = text (codes "CHAPTER01=00:00:00.000" ∷ (codes "CHAPTER" ++ words) ∷ [])

pub record AreChapters : Type 0 where
  -- Without lines there are no chapters.
  pub nothing : simple [] ≡ Ok []
  pub one : simple intro ≡ Ok (chapter 0 (codes "Intro") ∷ [])
  -- Empty lines are ignored.
  pub two : simple (intro ++ sparse) ≡ Ok (chapter 0 (codes "Intro") ∷ chapter 3723004000000 [] ∷ [])
  -- A first line must have a time.
  pub no_time : simple (codes "CHAPTER01=x") ≡ Err 1
  -- Minutes are below 60.
  pub minutes : simple (text (codes "CHAPTER01=00:60:00.000" ∷ codes "CHAPTER01NAME=a" ∷ [])) ≡ Err 1
  -- A number has at least two digits, and at most four.
  pub one_digit : simple (text (codes "CHAPTER1=00:00:00.000" ∷ codes "CHAPTER1NAME=a" ∷ [])) ≡ Err 1
  pub five_digits : simple (text (codes "CHAPTER00001=00:00:00.000" ∷ codes "CHAPTER00001NAME=a" ∷ [])) ≡ Err 1
  -- It is the same in both lines, digit for digit.
  pub other_number : simple (behind_first (codes "001NAME=a")) ≡ Err 2
  -- A name is UTF-8.
  pub not_utf8 : simple (behind_first (codes "01NAME=" ++ 0xFF ∷ [])) ≡ Err 2
  -- A missing second line is reported after the last line, with empty lines counted.
  pub missing : simple (intro ++ text (codes "CHAPTER02=00:00:01.000" ∷ [] ∷ [])) ≡ Err 5

pub chapters : AreChapters
unfolding simple first_line second_line time_of cut digits minutes_or_seconds is_utf8 chars encode
chapters = assumption refl
