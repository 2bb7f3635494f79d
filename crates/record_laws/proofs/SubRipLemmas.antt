-- SubRip entries that are written are read back.
use Rattle.std.proofs.Common.{◌≡◌, ℕ, zero, suc, ◌+◌, ◌-◌, ◌*◌, ◌/◌, ◌%◌, ◌^◌, ◌<◌, ◌≤◌, pos, true, false, List, [], ◌∷◌, ◌++◌, length, Some, None, Ok, refl, sym, ◌∙◌, ap, arith, lit<, append_assoc, inl, inr, codes, le-ltb}
use Rattle.std.proofs.lemmas.Grind.{common_steps}
use Rattle.std.proofs.lemmas.Bool.Decides.{nat_tests}
use Rattle.std.proofs.lemmas.Fmt.{decimal_is_IsNumeral, decimal_digit, length-decimal-le}
use Rattle.std.proofs.lemmas.Str.{IsUtf8-from_ascii, is_utf8-from_IsUtf8}
use Rattle.std.specs.List.{list_all, AllByRecursion}
use Rattle.std.specs.Char.{is_ascii_digit}
use Rattle.std.specs.Str.{is_utf8, IsAscii}
use Rattle.std.specs.Str.Lines.{lines}
use Rattle.std.specs.Fmt.{decimal}
use Rattle.std.proofs.lemmas.Bool.{and_parts, cases_Bool}
use Rattle.std.proofs.lemmas.List.Elements.{recursion_from_All}
use Rattle.mkv_io.specs.declared.entry.Entry.{Entry}
use Rattle.text_formats.specs.Lines.{lines_of}
use Rattle.text_formats.specs.Pieces.{two_digits, three_digits, two_or_more, stamp}
use Rattle.text_formats.specs.Times.{is_number, times, span}
use Rattle.text_formats.specs.Srt.{has_arrow, head, before_head, entries, text_of, first_bad, by_start, srt}
use Rattle.mkv_io.specs.Sorted.{insert_by}
use Rattle.text_formats.specs.Walk.{Place, Front, Behind, bad_from, is_bad_at}
use Rattle.text_formats.proofs.WalkLemmas.{bad_is}
use Rattle.text_formats.specs.Writing.{put_srt}
use Rattle.text_formats.proofs.SrtLemmas.{head_is, head_other, entries_other, entries_head, entries_end, bad_other, bad_head, bad_end, second_good, before_other, before_at, before_end}
use Rattle.record_laws.specs.Plain.{ends_with_return, IsLine}
use Rattle.record_laws.specs.SubRip.{put_entries, lines_in, IsPlainLine, IsPlainEntry, Ascend, EntriesAreReadBack}
use Rattle.mkv_io.proofs.OctetsLemmas.{digit_is_not, digits_lack, decimal_all, lacks_both}
use Rattle.record_laws.proofs.DigitsLemmas.{two_all, three_all, padded_all}
use Rattle.record_laws.proofs.LineLemmas.{ends_more, line_first, stamp_lacks, stamp_ends}
use Rattle.record_laws.proofs.PartsLemmas.{lines_lack, text_back, text_lines, LacksBreak}
use Rattle.record_laws.proofs.ArrowLemmas.{arrow_none, lacks_arrow, no_times, times_written, number_line}

-- ---- ASCII
abbrev Low : List ℕ → Type 0
Low w = AllByRecursion (λ b. b < 128) w

low_both : (a b : List ℕ) → Low a → Low b → Low (a ++ b)
low_both [] b p q = q
low_both (x ∷ xs) b p q = (p.0, low_both xs b p.1 q)

digit_low : (b : ℕ) → is_ascii_digit b ≡ true → b < 128
digit_low b is = grind (arith, nat_tests, common_steps)

digits_low : (ds : List ℕ) → list_all is_ascii_digit ds ≡ true → Low ds
digits_low [] all = tt
digits_low (b ∷ bs) all = let both = and_parts (is_ascii_digit b) (list_all is_ascii_digit bs) all in (digit_low b both.0, digits_low bs both.1)

low_ascii : (w : List ℕ) → Low w → IsAscii w
low_ascii [] low i = lit< tt
low_ascii (b ∷ bs) low zero = low.0
low_ascii (b ∷ bs) low (suc i) = low_ascii bs low.1 i

low_utf8 : (w : List ℕ) → Low w → is_utf8 w ≡ true
low_utf8 w low = is_utf8-from_IsUtf8 w (IsUtf8-from_ascii w (low_ascii w low))

stamp_low : (ms : ℕ) → ms < 2 ^ 64 → Low (stamp 44 ms)
unfolding stamp
stamp_low ms small =
    let h = two_or_more (ms / 3600000) in let m = two_digits (ms / 60000 % 60) in let s = two_digits (ms / 1000 % 60) in let t = three_digits (ms % 1000) in
    let seconds : List ℕ = s ++ (44 ∷ t) in
    let minutes : List ℕ = m ++ (58 ∷ seconds) in
    let a = low_both s (44 ∷ t) (digits_low s (two_all (ms / 1000 % 60))) (lit< tt, digits_low t (three_all (ms % 1000))) in
    let b = low_both m (58 ∷ seconds) (digits_low m (two_all (ms / 60000 % 60))) (lit< tt, a) in
    low_both h (58 ∷ minutes) (digits_low h (padded_all (ms / 3600000) (omega arith))) (lit< tt, b)

-- ---- number line
digits_end : (ds : List ℕ) → list_all is_ascii_digit ds ≡ true → ends_with_return ds ≡ false
digits_end [] all = refl
digits_end (b ∷ []) all = digit_is_not 13 b refl (and_parts (is_ascii_digit b) true all).0
digits_end (b ∷ c ∷ cs) all = ends_more b c cs ∙ digits_end (c ∷ cs) (and_parts (is_ascii_digit b) (list_all is_ascii_digit (c ∷ cs)) all).1

number_is_line : (k : ℕ) → k < 2 ^ 64 → IsLine (decimal k)
number_is_line k small = let all = decimal_all k small in record { no_break = digits_lack 10 (decimal k) refl all; no_return = digits_end (decimal k) all }

number_is_number : (k : ℕ) → k < 10 ^ 9 → is_number (decimal k) ≡ true
number_is_number k few =
    let small : k < 2 ^ 64 = omega arith in
    let one : 0 < 9 = omega arith in
    number_line (decimal k) (decimal_all k small) (decimal_is_IsNumeral k small).0.0 (length-decimal-le 9 k one few small)

-- ---- time line
abbrev time_line : ℕ → ℕ → List ℕ
time_line a b = stamp 44 a ++ (codes " --> " ++ stamp 44 b)

time_is_line : (a b : ℕ) → a < 2 ^ 64 → b < 2 ^ 64 → IsLine (time_line a b)
time_is_line a b early late =
    let back = lacks_both 10 (codes " --> ") (stamp 44 b) refl (stamp_lacks 10 44 b refl refl refl late) in
    let joined = append_assoc (stamp 44 a) (codes " --> ") (stamp 44 b) in
    record {
      no_break = lacks_both 10 (stamp 44 a) (codes " --> " ++ stamp 44 b) (stamp_lacks 10 44 a refl refl refl early) back;
      no_return = ap ends_with_return (sym joined) ∙ stamp_ends (stamp 44 a ++ codes " --> ") 44 b;
    }

time_utf8 : (a b : ℕ) → a < 2 ^ 64 → b < 2 ^ 64 → is_utf8 (time_line a b) ≡ true
time_utf8 a b early late =
    low_utf8 (time_line a b) (low_both (stamp 44 a) (codes " --> " ++ stamp 44 b) (stamp_low a early)
    (low_both (codes " --> ") (stamp 44 b) (lit< tt, (lit< tt, (lit< tt, (lit< tt, (lit< tt, tt))))) (stamp_low b late)))

-- ---- lines of a text
are_lines : (ls : List (List ℕ)) → AllByRecursion LacksBreak ls → AllByRecursion IsPlainLine ls → AllByRecursion IsLine ls
are_lines [] lack plain = tt
are_lines (l ∷ ls) lack plain = (record { no_break = lack.0; no_return = plain.0.no_return }, are_lines ls lack.1 plain.1)

no_head : (l t : List ℕ) (ls : List (List ℕ)) → times t ≡ None → head (l ∷ t ∷ ls) ≡ None
no_head l t ls none = elim (cases_Bool (is_number l)) [ inl is ↦ head_is l t ls is ∙ none | inr is ↦ head_other l (t ∷ ls) is ]

empty_number : is_number [] ≡ false
unfolding is_number
empty_number = refl

line_no_head : (l : List ℕ) (ls more : List (List ℕ)) → AllByRecursion IsPlainLine ls → head (l ∷ (ls ++ ([] ∷ more))) ≡ None
line_no_head l [] more plain = no_head l [] more (no_times [] arrow_none)
line_no_head l (m ∷ ms) more plain = no_head l m (ms ++ ([] ∷ more)) (no_times m plain.0.no_arrow)

walk_entries : (ls more : List (List ℕ)) → AllByRecursion IsPlainLine ls → entries (ls ++ ([] ∷ more)) ≡ entries more
walk_entries [] more plain = entries_other [] more (head_other [] more empty_number)
walk_entries (l ∷ ls) more plain = entries_other l (ls ++ ([] ∷ more)) (line_no_head l ls more plain.1) ∙ walk_entries ls more plain.1

walk_before : (ls more : List (List ℕ)) → AllByRecursion IsPlainLine ls → before_head more ≡ [] → before_head (ls ++ ([] ∷ more)) ≡ ls ++ ([] ∷ [])
walk_before [] more plain begins = before_other [] more (head_other [] more empty_number) ∙ ap (λ ls. [] ∷ ls) begins
walk_before (l ∷ ls) more plain begins = before_other l (ls ++ ([] ∷ more)) (line_no_head l ls more plain.1) ∙ ap (λ ms. l ∷ ms) (walk_before ls more plain.1 begins)

good_line : (l : List ℕ) → is_utf8 l ≡ true → has_arrow l ≡ false → is_bad_at Behind false l ≡ false
good_line l utf8 none = rw (utf8, none) refl

walk_bad : (ls more : List (List ℕ)) (n : ℕ) → AllByRecursion IsPlainLine ls → ((m : ℕ) → bad_from Behind m more ≡ None) → bad_from Behind n (ls ++ ([] ∷ more)) ≡ None
walk_bad [] more n plain good = bad_other Behind n [] more (head_other [] more empty_number) (good_line [] (low_utf8 [] tt) arrow_none) ∙ good (n + 1)
walk_bad (l ∷ ls) more n plain good =
    bad_other Behind n l (ls ++ ([] ∷ more)) (line_no_head l ls more plain.1) (good_line l plain.0.utf8 plain.0.no_arrow) ∙ walk_bad ls more (n + 1) plain.1 good

-- ---- one entry
module _ (k : ℕ) (e : Entry) (few : k < 10 ^ 9) (plain : IsPlainEntry e) where
  abbrev a : ℕ
  a = e.start / 1000000

  abbrev b : ℕ
  b = (e.start + e.duration) / 1000000

  early : a < 36000000000
  early = let h = plain.early in omega arith

  late : b < 36000000000
  late = let h = plain.early in omega arith

  start_back : a * 1000000 ≡ e.start
  start_back = let h = plain.start in omega arith

  end_back : b * 1000000 ≡ e.start + e.duration
  end_back = let g = plain.start in let h = plain.duration in omega arith

  duration_back : b * 1000000 - a * 1000000 ≡ e.duration
  duration_back = let s = start_back in let t = end_back in omega arith

  plains : AllByRecursion IsPlainLine (lines_in e.text)
  plains = recursion_from_All IsPlainLine (lines_in e.text) plain.lines

  entry_lines : (rest : List ℕ) → lines (put_srt k (pos e.start) e.duration e.text ++ rest) ≡ decimal k ∷ time_line a b ∷ (lines_in e.text ++ ([] ∷ lines rest))
  unfolding put_srt
  entry_lines rest =
      let small : k < 2 ^ 64 = omega arith in
      let soon : a < 2 ^ 64 = (let h = early in omega arith) in
      let then : b < 2 ^ 64 = (let h = late in omega arith) in
      let text = text_lines e.text rest (are_lines (lines_in e.text) (lines_lack e.text) plains) in
      let second = line_first (time_line a b) (e.text ++ (10 ∷ 10 ∷ rest)) (time_is_line a b soon then) in
      let first = line_first (decimal k) (time_line a b ++ (10 ∷ (e.text ++ (10 ∷ 10 ∷ rest)))) (number_is_line k small) in
      let joined : put_srt k (pos e.start) e.duration e.text ++ rest ≡ decimal k ++ (10 ∷ (time_line a b ++ (10 ∷ (e.text ++ (10 ∷ 10 ∷ rest))))) = simp append_assoc in
      ap lines joined ∙ (first ∙ ap (λ ls. decimal k ∷ ls) (second ∙ ap (λ ls. time_line a b ∷ ls) text))

  shown_times : times (time_line a b) ≡ Some (span (a * 1000000) (b * 1000000))
  shown_times = times_written a b early late

  entry_head : (ls : List (List ℕ)) → head (decimal k ∷ time_line a b ∷ ls) ≡ Some (span (a * 1000000) (b * 1000000))
  entry_head ls = head_is (decimal k) (time_line a b) ls (number_is_number k few) ∙ shown_times

  same_entry : (text : List ℕ) → text ≡ e.text → record { start = a * 1000000; duration = b * 1000000 - a * 1000000; text = text } ≡ e
  same_entry text is = rw (is, duration_back, start_back) refl

  entry_read : (more : List (List ℕ)) → before_head more ≡ [] → entries (decimal k ∷ time_line a b ∷ (lines_in e.text ++ ([] ∷ more))) ≡ e ∷ entries more
  entry_read more begins =
      let ls : List (List ℕ) = lines_in e.text ++ ([] ∷ more) in
      let found = entries_head (decimal k) (time_line a b) ls (span (a * 1000000) (b * 1000000)) (number_is_number k few) shown_times in
      let before = walk_before (lines_in e.text) more plains begins in
      let text : text_of (before_head ls) ≡ e.text = ap text_of before ∙ text_back e.text plain.no_break in
      let same = same_entry (text_of (before_head ls)) text in
      let rest = walk_entries (lines_in e.text) more plains in
      found ∙ (ap (λ (f : Entry). f ∷ entries ls) same ∙ ap (λ es. e ∷ es) rest)

  number_good : (is_bad_at Front true (decimal k) ≡ false) × (is_bad_at Behind true (decimal k) ≡ false)
  number_good =
      let small : k < 2 ^ 64 = omega arith in
      let all = decimal_all k small in
      let utf8 = low_utf8 (decimal k) (digits_low (decimal k) all) in
      let none = lacks_arrow (decimal k) (digits_lack 45 (decimal k) refl all) in
      (rw (utf8, none) refl, rw (utf8, none) refl)

  entry_good : (p : Place) (n : ℕ) (more : List (List ℕ)) → is_bad_at p true (decimal k) ≡ false → ((m : ℕ) → bad_from Behind m more ≡ None)
      → bad_from p n (decimal k ∷ time_line a b ∷ (lines_in e.text ++ ([] ∷ more))) ≡ None
  entry_good p n more good rest =
      let ls : List (List ℕ) = lines_in e.text ++ ([] ∷ more) in
      let soon : a < 2 ^ 64 = (let h = early in omega arith) in
      let then : b < 2 ^ 64 = (let h = late in omega arith) in
      let right : a * 1000000 ≤ b * 1000000 = (let s = start_back in let t = end_back in omega arith) in
      bad_head p n (decimal k) (time_line a b ∷ ls) (span (a * 1000000) (b * 1000000)) (entry_head ls) good
      ∙ (second_good (n + 1) (time_line a b) ls (span (a * 1000000) (b * 1000000)) shown_times (time_utf8 a b soon then) right ∙ walk_bad (lines_in e.text) more (n + 1 + 1) plains rest)

-- ---- all entries
begins : (es : List Entry) (k : ℕ) → AllByRecursion IsPlainEntry es → k + length es ≤ 10 ^ 9 → before_head (lines (put_entries k es)) ≡ []
begins [] k plain few = before_end
begins (e ∷ es) k plain few =
    let small : k < 10 ^ 9 = omega arith in
    let ls = lines_in e.text ++ ([] ∷ lines (put_entries (k + 1) es)) in
    rw (entry_lines k e small plain.0 (put_entries (k + 1) es)) (before_at (decimal k) (time_line (a k e small plain.0) (b k e small plain.0) ∷ ls) (span (a k e small plain.0 * 1000000) (b k e small plain.0 * 1000000)) (entry_head k e small plain.0 ls))

entries_back : (es : List Entry) (k : ℕ) → AllByRecursion IsPlainEntry es → k + length es ≤ 10 ^ 9 → entries (lines (put_entries k es)) ≡ es
entries_back [] k plain few = entries_end
entries_back (e ∷ es) k plain few =
    let small : k < 10 ^ 9 = omega arith in
    let more = lines (put_entries (k + 1) es) in
    rw (entry_lines k e small plain.0 (put_entries (k + 1) es))
    (entry_read k e small plain.0 more (begins es (k + 1) plain.1 (omega arith)) ∙ ap (λ fs. e ∷ fs) (entries_back es (k + 1) plain.1 (omega arith)))

none_bad : (es : List Entry) (k n : ℕ) → AllByRecursion IsPlainEntry es → k + length es ≤ 10 ^ 9 → bad_from Behind n (lines (put_entries k es)) ≡ None
none_bad [] k n plain few = bad_end Behind n
none_bad (e ∷ es) k n plain few =
    let small : k < 10 ^ 9 = omega arith in
    rw (entry_lines k e small plain.0 (put_entries (k + 1) es))
    (entry_good k e small plain.0 Behind n (lines (put_entries (k + 1) es)) (number_good k e small plain.0).1 (λ m. none_bad es (k + 1) m plain.1 (omega arith)))

front_good : (es : List Entry) (k : ℕ) → AllByRecursion IsPlainEntry es → k + length es ≤ 10 ^ 9 → bad_from Front 1 (lines (put_entries k es)) ≡ None
front_good [] k plain few = bad_end Front 1
front_good (e ∷ es) k plain few =
    let small : k < 10 ^ 9 = omega arith in
    rw (entry_lines k e small plain.0 (put_entries (k + 1) es))
    (entry_good k e small plain.0 Front 1 (lines (put_entries (k + 1) es)) (number_good k e small plain.0).0 (λ m. none_bad es (k + 1) m plain.1 (omega arith)))

-- ---- a list in order is sorted
sorted_back : (es : List Entry) → Ascend es → by_start es ≡ es
sorted_back [] asc = refl
sorted_back (e ∷ []) asc = refl
sorted_back (e ∷ f ∷ es) asc = ap (insert_by (λ (g : Entry). g.start) e) (sorted_back (f ∷ es) asc.1) ∙ rw (le-ltb f.start e.start asc.0) refl

marked : (es : List Entry) → lines_of (put_entries 1 es) ≡ lines (put_entries 1 es)
unfolding put_srt
marked [] = refl
marked (e ∷ es) = rw (decimal_digit 1 (lit< tt)) refl

pub entries_read_back : EntriesAreReadBack
unfolding srt
entries_read_back es plain asc few =
    let each = recursion_from_All IsPlainEntry es plain in
    let most : 1 + length es ≤ 10 ^ 9 = omega arith in
    let good : first_bad (lines (put_entries 1 es)) ≡ None = bad_is (lines (put_entries 1 es)) ∙ front_good es 1 each most in
    let back = entries_back es 1 each most in
    rw (marked es, good, back) (ap Ok (sorted_back es asc))
