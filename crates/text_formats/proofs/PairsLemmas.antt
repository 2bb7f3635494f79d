-- Pairs read one line at a time.
use Rattle.std.proofs.Common.{◌≡◌, ◌==◌, ℕ, ◌+◌, ◌<◌, false, not, List, [], ◌∷◌, ◌++◌, length, map, filter, Option, Some, None, Result, Ok, Err, refl, sym, arith, append_assoc}
use Rattle.std.proofs.lemmas.Bool.Decides.{nat_tests}
use Rattle.std.specs.List.{enumerate_from}
use Rattle.text_formats.specs.declared.end.TextEnd.{TextEnd}
use Rattle.text_formats.specs.declared.end.TextEnd.TheVariants as text_end
use Rattle.text_formats.specs.Ends.{Reads}
use Rattle.text_formats.specs.declared.chapter_reading.Chapter.{Chapter}
use Rattle.text_formats.specs.Lines.{lines_of, Line, numbered}
use Rattle.text_formats.specs.Pairs.{Timed, two_by_two, chapter, chapters_of, simple, first_line, second_line}
use Rattle.mkv_io.specs.Results.{and_then}
use Rattle.text_formats.specs.Turn.{in_front_of, pairs, onto_chapters, after_first, after_second}

pub pairs_empty : (l : List ℕ) (ls : List (List ℕ)) (n : ℕ) (due : Option Timed) → length l ≡ 0 → pairs (l ∷ ls) n due ≡ pairs ls (n + 1) due
unfolding pairs
pairs_empty [] ls n due empty = refl
pairs_empty (b ∷ bs) ls n due empty = absurd (omega arith)

-- ---- a line that isn't empty
first_is : (l : List ℕ) (ls : List (List ℕ)) (n : ℕ) → 0 < length l → pairs (l ∷ ls) n None ≡ after_first n (first_line l) (λ due. pairs ls (n + 1) due)
unfolding pairs
first_is [] ls n some = absurd (omega arith)
first_is (b ∷ bs) ls n some = refl

second_is : (l : List ℕ) (ls : List (List ℕ)) (n : ℕ) (due : Timed) → 0 < length l
    → pairs (l ∷ ls) n (Some due) ≡ after_second n due.start (second_line due.number l) (pairs ls (n + 1) None)
unfolding pairs
second_is [] ls n due some = absurd (omega arith)
second_is (b ∷ bs) ls n due some = refl

pub first_good : (l : List ℕ) (ls : List (List ℕ)) (n : ℕ) (due : Timed) → 0 < length l → first_line l ≡ Some due → pairs (l ∷ ls) n None ≡ pairs ls (n + 1) (Some due)
first_good l ls n due some is = let e = first_is l ls n some in rw is at e

pub first_bad : (l : List ℕ) (ls : List (List ℕ)) (n : ℕ) → 0 < length l → first_line l ≡ None → pairs (l ∷ ls) n None ≡ Err n
first_bad l ls n some is = let e = first_is l ls n some in rw is at e

pub second_bad : (l : List ℕ) (ls : List (List ℕ)) (n : ℕ) (due : Timed) → 0 < length l → second_line due.number l ≡ None → pairs (l ∷ ls) n (Some due) ≡ Err n
second_bad l ls n due some is = let e = second_is l ls n due some in rw is at e

pub second_good : (l : List ℕ) (ls : List (List ℕ)) (n : ℕ) (due : Timed) (name : List ℕ) → 0 < length l → second_line due.number l ≡ Some name
    → pairs (l ∷ ls) n (Some due) ≡ onto_chapters (chapter due.start name) (pairs ls (n + 1) None)
second_good l ls n due name some is = let e = second_is l ls n due some in rw is at e

-- A chapter put before the rest is a chapter appended to those that were read.
pub in_front_of_more : (xs : List Chapter) (c : Chapter) (rest : Result (List Chapter) ℕ) → in_front_of xs (onto_chapters c rest) ≡ in_front_of (xs ++ c ∷ []) rest
in_front_of_more xs c (Ok ys) = let e = append_assoc xs (c ∷ []) ys in cc
in_front_of_more xs c (Err n) = refl

pub second_joined : (xs : List Chapter) (l : List ℕ) (ls : List (List ℕ)) (n : ℕ) (due : Timed) (name : List ℕ) → 0 < length l → second_line due.number l ≡ Some name
    → in_front_of xs (pairs (l ∷ ls) n (Some due)) ≡ in_front_of (xs ++ chapter due.start name ∷ []) (pairs ls (n + 1) None)
second_joined xs l ls n due name some is =
    rw (second_good l ls n due name some is) (in_front_of_more xs (chapter due.start name) (pairs ls (n + 1) None))

pub in_front_of_none : (rest : Result (List Chapter) ℕ) → in_front_of [] rest ≡ rest
in_front_of_none (Ok ys) = refl
in_front_of_none (Err n) = refl

pub pairs_end : (n : ℕ) → pairs [] n None ≡ Ok []
unfolding pairs
pairs_end n = refl

pub pairs_missing : (n : ℕ) (due : Timed) → pairs [] n (Some due) ≡ Err n
unfolding pairs
pairs_missing n due = refl

in_front_of_bad : (xs : List Chapter) (rest whole : Result (List Chapter) ℕ) (n : ℕ) → in_front_of xs rest ≡ whole → rest ≡ Err n → whole ≡ Err n
in_front_of_bad xs rest whole n is bad = let e = rw bad at is in sym e

-- A line that is bad after the chapters that were read is bad in the file.
pub bad_whole : (end : TextEnd) (xs : List Chapter) (rest whole : Result (List Chapter) ℕ) → in_front_of xs rest ≡ whole
    → Reads {A = List Chapter} (Err end) rest → Reads {A = List Chapter} (Err end) whole
bad_whole (text_end.Bad n) xs rest whole is bad = in_front_of_bad xs rest whole n is bad
bad_whole text_end.Memory xs rest whole is bad = tt

-- ---- two by two

-- the lines that aren't empty, numbered from `n`, and the line `end`, which comes last
abbrev filled_from : ℕ → List (List ℕ) → List Line
filled_from n ls = filter (λ (l : Line). not (length l.words == 0)) (map (λ (p : ℕ × List ℕ). numbered p.0 p.1) (enumerate_from n ls))

abbrev lines_to : ℕ → ℕ → List (List ℕ) → List Line
lines_to end n ls = filled_from n ls ++ numbered end [] ∷ []

first_wrong : (a : Line) (xs : List Line) (e : Line) → first_line a.words ≡ None → chapters_of (two_by_two (a ∷ (xs ++ e ∷ []))) ≡ Err a.number
first_wrong a [] e none = rw none refl
first_wrong a (x ∷ xs) e none = rw none refl

onto_is : (c : Chapter) (rest : Result (List Chapter) ℕ) → onto_chapters c rest ≡ and_then rest (λ cs. Ok (c ∷ cs))
onto_is c (Ok cs) = refl
onto_is c (Err n) = refl

-- Reading `ls` line by line gives the chapters of its pairs, both at a first line and when a second line is due.
abbrev Walks : ℕ → ℕ → List (List ℕ) → Type 0
Walks end n ls =
    (pairs ls n None ≡ chapters_of (two_by_two (lines_to end n ls)))
    × ((a : Line) (t : Timed) → first_line a.words ≡ Some t → pairs ls n (Some t) ≡ chapters_of (two_by_two (a ∷ lines_to end n ls)))

missing : (n end : ℕ) (a : Line) (t : Timed) → first_line a.words ≡ Some t → n ≡ end → Err n ≡ chapters_of ((a, numbered end []) ∷ [])
unfolding second_line
missing n end a t first same = rw (first, same) refl

-- a line that isn't empty
module _ (end n b : ℕ) (bs : List ℕ) (ls : List (List ℕ)) (more : Walks end (n + 1) ls) where
  abbrev words : List ℕ
  words = b ∷ bs

  begins : (o : Option Timed) → first_line words ≡ o
      → after_first n o (λ due. pairs ls (n + 1) due) ≡ chapters_of (two_by_two (numbered n words ∷ lines_to end (n + 1) ls))
  begins None is = sym (first_wrong (numbered n words) (filled_from (n + 1) ls) (numbered end []) is)
  begins (Some t) is = more.1 (numbered n words) t is

  ends : (a : Line) (t : Timed) → first_line a.words ≡ Some t → (o : Option (List ℕ)) → second_line t.number words ≡ o
      → after_second n t.start o (pairs ls (n + 1) None) ≡ chapters_of (two_by_two (a ∷ numbered n words ∷ lines_to end (n + 1) ls))
  ends a t first None is = rw (first, is) refl
  ends a t first (Some name) is = rw (more.0, first, is) (onto_is (chapter t.start name) (chapters_of (two_by_two (lines_to end (n + 1) ls))))

  walks_line : Walks end n (words ∷ ls)
  unfolding pairs
  walks_line =
      let some : (length words == 0) ≡ false = grind (arith, nat_tests) in
      rw some (begins (first_line words) refl, λ a t first. ends a t first (second_line t.number words) refl)

walks : (end n : ℕ) (ls : List (List ℕ)) → n + length ls ≡ end → Walks end n ls
unfolding pairs
walks end n [] last = (refl, λ a t first. missing n end a t first (omega arith))
walks end n ([] ∷ ls) last = walks end (n + 1) ls (omega arith)
walks end n ((b ∷ bs) ∷ ls) last = walks_line end n b bs ls (walks end (n + 1) ls (omega arith))

-- The reading line by line finds the chapters of a file, or its first bad line.
pub simple_is : (content : List ℕ) → simple content ≡ pairs (lines_of content) 1 None
unfolding simple
simple_is content = sym (walks (length (lines_of content) + 1) 1 (lines_of content) (omega arith)).0
