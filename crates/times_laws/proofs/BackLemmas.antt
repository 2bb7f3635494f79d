-- Timestamp files that are written are read back.
use Rattle.std.proofs.Common.{◌≡◌, ℕ, suc, ◌+◌, ◌^◌, ◌<◌, ℤ, nat_abs, Bool, true, false, not, ◌&&◌, List, [], ◌∷◌, ◌++◌, length, map, Ok, refl, ◌∙◌, ap, arith, append_assoc, All}
use Rattle.std.proofs.lemmas.Bool.Decides.{nat_tests}
use Rattle.std.specs.Prelude.{◌==◌, codes, slice_index, flat_map}
use Rattle.std.specs.Str.Lines.{lines}
use Rattle.text_formats.specs.Lines.{lines_of}
use Rattle.mkv_io.specs.Octets.{lacks}
use Rattle.record_laws.specs.Plain.{ends_with_return, IsLine}
use Rattle.record_laws.proofs.LineLemmas.{ends_more, line_first}
use Rattle.ext_times.specs.Counted.{is_passed, counted}
use Rattle.ext_times.specs.Listing.{Each, times, each_listed, listing}
use Rattle.ext_times.proofs.CountedLemmas.{counted_here, counted_end}
use Rattle.ext_times.proofs.ListingLemmas.{times_good, times_end, listing_each}
use Rattle.extractors.specs.Times.{time_line}
use Rattle.times_laws.specs.Laws.{put_times, TimesAreReadBack}
use Rattle.times_laws.proofs.WordsLemmas.{words, time_written, words_lack, words_some, words_first}

-- ---- lines
no_return : (w : List ℕ) → lacks 13 w ≡ true → ends_with_return w ≡ false
no_return [] none = refl
no_return (x ∷ []) none = split (x == 13) refl none
  where
    split : (c : Bool) → (x == 13) ≡ c → (not c && true) ≡ true → ends_with_return (x ∷ []) ≡ false
    split true is none = absurd (cc)
    split false is none = is
no_return (x ∷ y ∷ ys) none = ends_more x y ys ∙ no_return (y ∷ ys) (behind (x == 13) none)
  where
    behind : (c : Bool) → (not c && lacks 13 (y ∷ ys)) ≡ true → lacks 13 (y ∷ ys) ≡ true
    behind true none = absurd (cc)
    behind false none = none

words_line : (t : ℤ) → nat_abs t < 2 ^ 57 → IsLine (words t)
words_line t small = record {
  no_break = words_lack 10 t refl refl refl small;
  no_return = no_return (words t) (words_lack 13 t refl refl refl small);
}

abbrev pub AreSmall : List ℤ → Type 0
AreSmall [] = Unit {0}
AreSmall (t ∷ ts) = (nat_abs t < 2 ^ 57) × AreSmall ts

all_small : (ts : List ℤ) → All (λ t. nat_abs t < 2 ^ 57) ts → AreSmall ts
all_small [] all = tt
all_small (t ∷ ts) all = (all 0 t (omega arith), all_small ts (λ k d less. all (suc k) d (omega arith)))

lines_written : (ts : List ℤ) → AreSmall ts → lines (flat_map time_line ts) ≡ map words ts
lines_written [] are = refl
lines_written (t ∷ ts) are =
    let rest = flat_map time_line ts in
    let joined : time_line t ++ rest ≡ words t ++ (10 ∷ rest) = simp append_assoc in
    ap lines joined ∙ (line_first (words t) rest (words_line t are.0) ∙ ap (λ ls. words t ∷ ls) (lines_written ts are.1))

-- ---- timestamps
counts : (w : List ℕ) → 0 < length w → (slice_index w 0 == 35) ≡ false → is_passed w ≡ false
counts w some other =
    let filled : (length w == 0) ≡ false = grind (arith, nat_tests) in
    rw (filled, other) refl

times_written : (n : ℕ) (ts : List ℤ) → AreSmall ts → times (counted n (map words ts)) ≡ Ok ts
times_written n [] are = rw (counted_end n) times_end
times_written n (t ∷ ts) are =
    let here = counted_here n (words t) (map words ts) (counts (words t) (words_some t are.0) (words_first t are.0)) in
    let rest = times_written (n + 1) ts are.1 in
    let good = times_good (record { number = n; words = words t }) (counted (n + 1) (map words ts)) t (time_written t are.0) in
    rw here (good ∙ rw rest refl)

abbrev head : List ℕ
head = codes "# timestamp format v2"

pub small_read_back : (ts : List ℤ) → AreSmall ts → listing (put_times ts) ≡ Ok (Each ts)
small_read_back ts are =
    let body = flat_map time_line ts in
    let first : lines (head ++ (10 ∷ body)) ≡ head ∷ lines body = line_first head body (record { no_break = refl; no_return = refl }) in
    let whole : lines_of (put_times ts) ≡ head ∷ map words ts = first ∙ ap (λ ls. head ∷ ls) (lines_written ts are) in
    listing_each (put_times ts) head (map words ts) whole refl refl ∙ ap each_listed (times_written 2 ts are)

pub times_read_back : TimesAreReadBack
times_read_back ts all = small_read_back ts (all_small ts all)
