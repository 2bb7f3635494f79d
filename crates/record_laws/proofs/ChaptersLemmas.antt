-- Chapters that are written are read back.
use Rattle.std.proofs.Common.{◌≡◌, ℕ, ◌+◌, ◌*◌, ◌/◌, ◌%◌, ◌<◌, ◌≤◌, true, false, List, [], ◌∷◌, ◌++◌, length, Some, None, Ok, refl, sym, ◌∙◌, ap, arith, append_assoc, codes, lt-ltb}
use Rattle.std.specs.Str.{is_utf8}
use Rattle.std.specs.Str.Lines.{lines}
use Rattle.std.proofs.lemmas.List.Elements.{recursion_from_All}
use Rattle.std.specs.List.{AllByRecursion}
use Rattle.text_formats.specs.Pieces.{two_digits, three_digits, two_or_more, stamp}
use Rattle.text_formats.specs.declared.chapter_reading.Chapter.{Chapter}
use Rattle.text_formats.specs.Lines.{lines_of}
use Rattle.text_formats.specs.Pairs.{first_line, second_line, time_of}
use Rattle.text_formats.specs.Turn.{pairs}
use Rattle.text_formats.specs.ChapterWriting.{put_pair}
use Rattle.text_formats.proofs.PairsLemmas.{first_good, second_good, pairs_end, simple_is}
use Rattle.mkv_io.specs.Octets.{lacks}
use Rattle.record_laws.specs.Plain.{ends_with_return, IsLine}
use Rattle.record_laws.specs.SimpleChapters.{put_pairs, IsPlain, ChaptersAreReadBack}
use Rattle.mkv_io.proofs.OctetsLemmas.{digits_lack, cut_behind, lacks_both}
use Rattle.record_laws.proofs.DigitsLemmas.{two_all, padded_all, digits_two, digits_three, sixtieth_two, digits_padded}
use Rattle.record_laws.proofs.LineLemmas.{ends_both, line_first, behind_front, parts_of, stamp_lacks, stamp_ends}

-- A time of less than 100 hours is read back.
time_written : (ms : ℕ) → ms < 360000000 → time_of (stamp 46 ms) ≡ Some (ms * 1000000)
unfolding time_of stamp
time_written ms early =
    let h = ms / 3600000 in let m = ms / 60000 % 60 in let s = ms / 1000 % 60 in let t = ms % 1000 in
    let parts = parts_of ms in
    let few : h < 100 = omega arith in
    let last : List ℕ = two_digits s ++ (46 ∷ three_digits t) in
    let middle : List ℕ = two_digits m ++ (58 ∷ last) in
    let a = cut_behind 58 (two_digits h) middle (digits_lack 58 (two_digits h) refl (two_all h)) in
    let b = cut_behind 58 (two_digits m) last (digits_lack 58 (two_digits m) refl (two_all m)) in
    let c = cut_behind 46 (two_digits s) (three_digits t) (digits_lack 46 (two_digits s) refl (two_all s)) in
    let d = digits_two 2 2 h (omega arith) (omega arith) few in
    let e = sixtieth_two m parts.minutes in
    let f = sixtieth_two s parts.seconds in
    let g = digits_three t parts.thousandths in
    rw (lt-ltb h 100 few) (rw a (rw b (rw c (rw d (rw e (rw f (rw g (ap (λ n. Some (n * 1000000)) parts.whole))))))))

-- ---- the two lines of a chapter
abbrev time_line : ℕ → ℕ → List ℕ
time_line k ms = codes "CHAPTER" ++ (two_or_more k ++ (61 ∷ stamp 46 ms))

abbrev name_line : ℕ → List ℕ → List ℕ
name_line k name = codes "CHAPTER" ++ (two_or_more k ++ (codes "NAME=" ++ name))

time_read : (k ms : ℕ) → k < 10000 → ms < 360000000 → first_line (time_line k ms) ≡ Some (record { number = two_or_more k; start = ms * 1000000 })
unfolding first_line
time_read k ms few early =
    let b = cut_behind 61 (two_or_more k) (stamp 46 ms) (digits_lack 61 (two_or_more k) refl (padded_all k (omega arith))) in
    rw b (rw (digits_padded k few) (rw (time_written ms early) refl))

name_read : (k : ℕ) (name : List ℕ) → is_utf8 name ≡ true → second_line (two_or_more k) (name_line k name) ≡ Some name
unfolding second_line
name_read k name utf8 =
    let b = behind_front (two_or_more k) (codes "NAME=" ++ name) in
    rw b (rw utf8 refl)

number_lacks : (k : ℕ) → k < 10000 → lacks 10 (two_or_more k) ≡ true
number_lacks k few = digits_lack 10 (two_or_more k) refl (padded_all k (omega arith))

time_is_line : (k ms : ℕ) → k < 10000 → ms < 360000000 → IsLine (time_line k ms)
time_is_line k ms few early =
    let rest : lacks 10 (61 ∷ stamp 46 ms) ≡ true = stamp_lacks 10 46 ms refl refl refl (omega arith) in
    let front : List ℕ = codes "CHAPTER" ++ (two_or_more k ++ (61 ∷ [])) in
    let joined : front ++ stamp 46 ms ≡ time_line k ms = ap (λ w. codes "CHAPTER" ++ w) (append_assoc (two_or_more k) (61 ∷ []) (stamp 46 ms)) in
    record {
      no_break = lacks_both 10 (codes "CHAPTER") (two_or_more k ++ (61 ∷ stamp 46 ms)) refl (lacks_both 10 (two_or_more k) (61 ∷ stamp 46 ms) (number_lacks k few) rest);
      no_return = ap ends_with_return (sym joined) ∙ stamp_ends front 46 ms;
    }

name_ends : (front name : List ℕ) → ends_with_return name ≡ false → ends_with_return (front ++ (codes "NAME=" ++ name)) ≡ false
name_ends front [] none = ends_both front 78 (codes "AME=")
name_ends front (b ∷ bs) none =
    ends_both front 78 (codes "AME=" ++ (b ∷ bs)) ∙ (ends_both (codes "NAME=") b bs ∙ none)

name_is_line : (k : ℕ) (name : List ℕ) → k < 10000 → IsLine name → IsLine (name_line k name)
name_is_line k name few line =
    let rest = lacks_both 10 (codes "NAME=") name refl line.no_break in
    let front : List ℕ = codes "CHAPTER" ++ two_or_more k in
    record {
      no_break = lacks_both 10 (codes "CHAPTER") (two_or_more k ++ (codes "NAME=" ++ name)) refl (lacks_both 10 (two_or_more k) (codes "NAME=" ++ name) (number_lacks k few) rest);
      no_return = name_ends front name line.no_return;
    }

-- A written chapter is two lines.
pair_lines : (k start : ℕ) (name rest : List ℕ) → k < 10000 → start / 1000000 < 360000000 → IsLine name →
    lines (put_pair k start name ++ rest) ≡ time_line k (start / 1000000) ∷ name_line k name ∷ lines rest
unfolding put_pair
pair_lines k start name rest few early line =
    let ms = start / 1000000 in
    let second = line_first (name_line k name) rest (name_is_line k name few line) in
    let first = line_first (time_line k ms) (name_line k name ++ (10 ∷ rest)) (time_is_line k ms few early) in
    let joined : put_pair k start name ++ rest ≡ time_line k ms ++ (10 ∷ (name_line k name ++ (10 ∷ rest))) = simp append_assoc in
    ap lines joined ∙ (first ∙ ap (λ ls. time_line k ms ∷ ls) second)

-- ---- all chapters
read_back : (cs : List Chapter) (k n : ℕ) → AllByRecursion IsPlain cs → k + length cs ≤ 10000 → pairs (lines (put_pairs k cs)) n None ≡ Ok cs
read_back [] k n plain few = pairs_end n
read_back (c ∷ cs) k n plain few =
    let p = plain.0 in
    let ms = c.start / 1000000 in
    let whole = p.whole in let early = p.early in
    let start : ms * 1000000 ≡ c.start = omega arith in
    let soon : ms < 360000000 = omega arith in
    let number : k < 10000 = omega arith in
    let two = pair_lines k c.start c.name (put_pairs (k + 1) cs) number soon p.line in
    let due = time_read k ms number soon in
    let first = first_good (time_line k ms) (name_line k c.name ∷ lines (put_pairs (k + 1) cs)) n (record { number = two_or_more k; start = ms * 1000000 }) (omega arith) due in
    let second = second_good (name_line k c.name) (lines (put_pairs (k + 1) cs)) (n + 1) (record { number = two_or_more k; start = ms * 1000000 }) c.name (omega arith) (name_read k c.name p.utf8) in
    let rest = read_back cs (k + 1) (n + 1 + 1) plain.1 (omega arith) in
    rw two (first ∙ (second ∙ rw (rest, start) refl))

marked : (cs : List Chapter) → lines_of (put_pairs 1 cs) ≡ lines (put_pairs 1 cs)
unfolding put_pair
marked [] = refl
marked (c ∷ cs) = refl

pub chapters_read_back : ChaptersAreReadBack
chapters_read_back cs plain few =
    simple_is (put_pairs 1 cs) ∙ ap (λ ls. pairs ls 1 None) (marked cs) ∙ read_back cs 1 1 (recursion_from_All IsPlain cs plain) (omega arith)
