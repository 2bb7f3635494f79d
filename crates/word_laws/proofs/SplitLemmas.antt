-- Splits and identifiers of outputs are read back.
use Rattle.std.proofs.Common.{◌∙◌, sym, ap, zero, suc, Bool, nat_lt, [], ◌∷◌, ◌++◌, ◌-◌, ◌*◌, ◌/◌, ◌%◌, min, ◌||◌, if◌then◌else◌, ◌≡◌, ◌≤◌, ◌<◌, ◌^◌, ℕ, true, false, List, length, map, codes, Some, refl, ap, arith, All, slice_index, ◌==◌, le-leb}
use Rattle.std.proofs.lemmas.List.Elements.{All-weaker}
use Rattle.std.proofs.lemmas.Bool.{and_parts, and_right}
use Rattle.std.proofs.lemmas.Bool.Decides.{nat_tests}
use Rattle.std.proofs.lemmas.Fmt.{decimal_nonempty, length-decimal-le}
use Rattle.std.specs.Str.{bytes_eq}
use Rattle.std.specs.Fmt.{decimal}
use Rattle.requests.specs.declared.split.SpanWords.{SpanWords}
use Rattle.requests.specs.declared.split.SplitWords.{SplitWords}
use Rattle.requests.specs.declared.split.SplitWords.TheVariants as split_by
use Rattle.word_values.specs.declared.values.Value.TheVariants.{Split, Uuids, Order}
use Rattle.word_values.specs.declared.values.ValueForm.TheVariants as form
use Rattle.word_values.specs.Numbers.{ends, time, size, amount, uuid}
use Rattle.requests.specs.Decimal.{whole}
use Rattle.word_values.specs.Lists.{times, span, spans, duration, chapters, split_of, split, uuids, place, pairs_differ, order}
use Rattle.word_values.specs.Values.{value_of}
use Rattle.requests.specs.Sound.{IsSoundSplit, IsSpan, AreUuids}
use Rattle.mkv_io.specs.Octets.{lacks}
use Rattle.word_laws.specs.Values.{is_in, size_word, with_commas, HasFewDigits, numbers_word, last_digits, time_word, span_word, split_word, place_word}
use Rattle.word_laws.specs.SpellableMerge.{is_size, AreIds, IsSplit}
use Rattle.mkv_io.proofs.OctetsLemmas.{decimal_all, decimal_lacks, cut_behind, lacks_both}
use Rattle.word_laws.proofs.NumberLemmas.{whole_read, short_fits, number_read}
use Rattle.word_laws.proofs.SimpleLemmas.{other_word}
use Rattle.word_laws.proofs.ValueLemmas.{last_is, ends_is, front_is, digits_end, list_read, numbers_read, numbers_first}
use Rattle.word_laws.proofs.TimeLemmas.{time_read, time_lacks, span_is_read, span_lacks, uuid_read, uuid_lacks}

duration_read : (by : ℕ) → 1 ≤ by → by < 2 ^ 63 → split (split_word (split_by.Duration by)) ≡ Some (split_by.Duration by)
unfolding split split_of duration
duration_read by some small = rw (cut_behind 58 (codes "duration") (time_word by) refl) (rw (time_read by small) (rw (le-leb 1 by some) refl))

times_read : (at : List ℕ) → IsSoundSplit (split_by.Times at) → 0 < length at → split (split_word (split_by.Times at)) ≡ Some (split_by.Times at)
unfolding split split_of times
times_read at sound some =
    let each = list_read time time_word at some (All-weaker (λ t. t < 2 ^ 63) (λ t. lacks 44 (time_word t) ≡ true) (λ t h. time_lacks 44 t h refl refl refl) at sound.below)
    (All-weaker (λ t. t < 2 ^ 63) (λ t. time (time_word t) ≡ Some t) (λ t h. time_read t h) at sound.below) in
    rw (cut_behind 58 (codes "timestamps") (with_commas (map time_word at)) refl) (rw each (rw sound.ascend refl))

spans_read : (list : List SpanWords) → IsSoundSplit (split_by.Parts list) → 0 < length list → split (split_word (split_by.Parts list)) ≡ Some (split_by.Parts list)
unfolding split split_of spans
spans_read list sound some =
    let each = list_read span span_word list some (All-weaker IsSpan (λ s. lacks 44 (span_word s) ≡ true) (λ s h. span_lacks s h) list sound.each)
    (All-weaker IsSpan (λ s. span (span_word s) ≡ Some s) (λ s h. span_is_read s h) list sound.each) in
    rw (cut_behind 58 (codes "parts") (with_commas (map span_word list)) refl) (rw each (rw sound.follow refl))

no_all : (ns : List ℕ) → AreIds ns → bytes_eq (numbers_word ns) (codes "all") ≡ false
no_all ns are = other_word (numbers_word ns) (codes "all") (λ same.
    let first = numbers_first 97 ns refl are.some are.short in
    let all : (slice_index (numbers_word ns) 0 == 97) ≡ true = ap (λ w. slice_index w 0 == 97) same in
    cc)

chapters_read : (ns : List ℕ) → AreIds ns → split (split_word (split_by.Chapters ns)) ≡ Some (split_by.Chapters ns)
unfolding split split_of chapters
chapters_read ns are = rw (cut_behind 58 (codes "chapters") (numbers_word ns) refl) (rw (no_all ns are) (rw (numbers_read ns are.some are.short) refl))

all_read : split (split_word split_by.AllChapters) ≡ Some split_by.AllChapters
unfolding split split_of chapters
all_read = rw (cut_behind 58 (codes "chapters") (codes "all") refl) refl

-- ---- a number of bytes
amount_read : (n : ℕ) → 1 ≤ n → n < 10 ^ 12 → amount (decimal n) ≡ Some n
unfolding amount
amount_read n some small =
    let fits : n < 2 ^ 64 = omega arith in
    rw (le-leb (length (decimal n)) 12 (length-decimal-le 12 n (omega arith) small fits), whole_read n fits, le-leb 1 n some) refl

ends_other : (w : List ℕ) (o p : ℕ) → (o == p) ≡ false → ends (w ++ o ∷ []) p ≡ false
ends_other w o p other = rw (last_is w o) (and_right (nat_lt 0 (length (w ++ o ∷ []))) _ other)

-- `limit` is given in the unit `unit`.
pub record IsIn (unit limit : ℕ) : Type 0 where
  some : 1 ≤ limit / unit
  few : limit / unit < 10 ^ 12
  same : min (limit / unit * unit) (2 ^ 64 - 1) ≡ limit

in_unit : (unit limit : ℕ) → 1 ≤ limit → limit ≤ 2 ^ 64 - 1 → limit / unit * unit ≡ limit → limit / unit < 10 ^ 12 → IsIn unit limit
in_unit unit limit some most whole few = record { some = positive (limit / unit) refl; few = few; same = omega arith }
  where
    positive : (k : ℕ) → limit / unit ≡ k → 1 ≤ limit / unit
    positive zero is = let none : limit / unit * unit ≡ 0 = rw is (omega arith) in absurd (omega arith)
    positive (suc k) is = omega arith

kibi_read : (limit : ℕ) → IsIn 1024 limit → size (decimal (limit / 1024) ++ codes "k") ≡ Some limit
unfolding size
kibi_read limit is =
    let n = decimal (limit / 1024) in
    rw (ends_is n 107, front_is n 107) (rw (amount_read (limit / 1024) is.some is.few) (rw is.same refl))

mebi_read : (limit : ℕ) → IsIn 1048576 limit → size (decimal (limit / 1048576) ++ codes "m") ≡ Some limit
unfolding size
mebi_read limit is =
    let n = decimal (limit / 1048576) in
    rw (ends_other n 109 107 refl) (rw (ends_is n 109, front_is n 109) (rw (amount_read (limit / 1048576) is.some is.few) (rw is.same refl)))

gibi_read : (limit : ℕ) → IsIn 1073741824 limit → size (decimal (limit / 1073741824) ++ codes "g") ≡ Some limit
unfolding size
gibi_read limit is =
    let n = decimal (limit / 1073741824) in
    rw (ends_other n 103 107 refl) (rw (ends_other n 103 109 refl) (rw (ends_is n 103, front_is n 103) (rw (amount_read (limit / 1073741824) is.some is.few) (rw is.same refl))))

octets_read : (limit : ℕ) → 1 ≤ limit → limit < 10 ^ 12 → size (decimal limit) ≡ Some limit
unfolding size
octets_read limit some small =
    let fits : limit < 2 ^ 64 = omega arith in
    let filled = decimal_nonempty limit fits in
    let all = decimal_all limit fits in
    rw (digits_end 107 (decimal limit) refl filled all) (rw (digits_end 109 (decimal limit) refl filled all) (rw (digits_end 103 (decimal limit) refl filled all) (amount_read limit some small)))

most_read : size (codes "17179869184g") ≡ Some (2 ^ 64 - 1)
unfolding size amount whole
most_read = refl

whole_in : (unit limit : ℕ) → is_in unit limit ≡ true → (limit % unit ≡ 0) × (limit / unit < 10 ^ 12)
whole_in unit limit is = let both = and_parts (limit % unit == 0) (nat_lt (limit / unit) (10 ^ 12)) is in let one = both.0 in let two = both.1 in (grind (arith, nat_tests), grind (arith, nat_tests))

octets_of_read : (limit : ℕ) → 1 ≤ limit → limit ≤ 2 ^ 64 - 1 → is_size limit ≡ true → size (size_word limit) ≡ Some limit
octets_of_read limit some most is = split (nat_lt limit (10 ^ 12)) (is_in 1024 limit) (is_in 1048576 limit) (is_in 1073741824 limit) refl refl refl refl is
  where
    split : (a b c d : Bool) → nat_lt limit (10 ^ 12) ≡ a → is_in 1024 limit ≡ b → is_in 1048576 limit ≡ c → is_in 1073741824 limit ≡ d → (a || (b || (c || (d || limit == 2 ^ 64 - 1)))) ≡ true
        → size (if a then decimal limit else if b then decimal (limit / 1024) ++ codes "k" else if c then decimal (limit / 1048576) ++ codes "m" else if d then decimal (limit / 1073741824) ++ codes "g" else codes "17179869184g") ≡ Some limit
    split true b c d one k m g is = octets_read limit some (grind (arith, nat_tests))
    split false true c d one k m g is = let w = whole_in 1024 limit k in kibi_read limit (in_unit 1024 limit some most (let z = w.0 in omega arith) w.1)
    split false false true d one k m g is = let w = whole_in 1048576 limit m in mebi_read limit (in_unit 1048576 limit some most (let z = w.0 in omega arith) w.1)
    split false false false true one k m g is = let w = whole_in 1073741824 limit g in gibi_read limit (in_unit 1073741824 limit some most (let z = w.0 in omega arith) w.1)
    split false false false false one k m g is = let e : limit ≡ 2 ^ 64 - 1 = grind (arith, nat_tests) in most_read ∙ ap Some (sym e)

size_read : (limit : ℕ) → 1 ≤ limit → limit ≤ 2 ^ 64 - 1 → is_size limit ≡ true → split (split_word (split_by.Size limit)) ≡ Some (split_by.Size limit)
unfolding split split_of
size_read limit some most is = rw (cut_behind 58 (codes "size") (size_word limit) refl) (rw (octets_of_read limit some most is) refl)

split_read : (s : SplitWords) → IsSoundSplit s → IsSplit s → split (split_word s) ≡ Some s
split_read (split_by.Duration by) sound is = let least = sound.least in let most = sound.most in duration_read by least (omega arith)
split_read (split_by.Times at) sound is = times_read at sound is
split_read (split_by.Parts list) sound is = spans_read list sound is
split_read split_by.AllChapters sound is = all_read
split_read (split_by.Chapters ns) sound is = chapters_read ns is
split_read (split_by.Size limit) sound is = size_read limit sound.least sound.most is

pub split_value_read : (s : SplitWords) → IsSoundSplit s → IsSplit s → value_of form.Split (split_word s) ≡ Some (Split s)
unfolding value_of
split_value_read s sound is = rw (split_read s sound is) refl

pub uuids_read : (us : List ℕ) → 0 < length us → AreUuids us → All (λ u. u < 2 ^ 128) us → value_of form.Uuids (with_commas (map (last_digits 16 32) us)) ≡ Some (Uuids us)
unfolding value_of uuids
uuids_read us some sound small =
    let each = list_read uuid (last_digits 16 32) us some (All-weaker (λ u. u < 2 ^ 128) (λ u. lacks 44 (last_digits 16 32 u) ≡ true) (λ u h. uuid_lacks u) us small)
    (All-weaker (λ u. u < 2 ^ 128) (λ u. uuid (last_digits 16 32 u) ≡ Some u) (λ u h. uuid_read u h) us small) in
    rw each (rw (le-leb (length us) 1024 sound.few) (rw sound.differ refl))

-- ---- an order of tracks
-- The numbers of the track have at most 18 digits.
abbrev IsShort : ℕ × ℕ → Type 0
IsShort track = HasFewDigits track.0 × HasFewDigits track.1

place_read : (track : ℕ × ℕ) → IsShort track → place (place_word track) ≡ Some track
unfolding place
place_read (file, id) short =
    rw (cut_behind 58 (decimal file) (decimal id) (decimal_lacks 58 file refl (short_fits file short.0))) (rw (number_read file short.0) (rw (number_read id short.1) refl))

place_lacks : (track : ℕ × ℕ) → IsShort track → lacks 44 (place_word track) ≡ true
place_lacks (file, id) short =
    lacks_both 44 (decimal file) (codes ":" ++ decimal id) (decimal_lacks 44 file refl (short_fits file short.0)) (decimal_lacks 44 id refl (short_fits id short.1))

pub order_read : (ps : List (ℕ × ℕ)) → 0 < length ps → pairs_differ ps ≡ true → All IsShort ps → value_of form.Order (with_commas (map place_word ps)) ≡ Some (Order ps)
unfolding value_of order
order_read ps some differ short =
    let each = list_read place place_word ps some (All-weaker IsShort (λ p. lacks 44 (place_word p) ≡ true) place_lacks ps short)
    (All-weaker IsShort (λ p. place (place_word p) ≡ Some p) place_read ps short) in
    rw each (rw differ refl)
