-- Laws on records that are written: they are read as the same records.
use Rattle.std.proofs.Common.{◌≡◌, ◌⊎◌, inl, inr, ℕ, zero, suc, ◌+◌, ◌-◌, ◌<◌, ◌≤◌, ◌^◌, max, true, ◌&&◌, ◌==◌, List, [], ◌∷◌, ◌++◌, length, take, drop, get_or, refl, sym, ◌∙◌, ap, subst, arith, length-append, replicate, Option, None, Some, nat_lt, nat_le}
use Rattle.std.proofs.lemmas.List.{take_at, take_all, drop_all, drop_at, length-replicate}
use Rattle.std.proofs.lemmas.Bool.{le-leb, le-ltb, lt-leb, eq-eqb, and_from, or_from, or_right, cond-true, cond-false, cases_lt}
use Rattle.byteorder.specs.Endian.{big_bytes}
use Rattle.byteorder.specs.Numbers.{big_number-reads_back}
use Rattle.mkv_io.specs.Contents.{octets_from}
use Rattle.sidecar_edit.specs.declared.place.Place.{Place}
use Rattle.sidecar_edit.specs.declared.place.TheConstants.{HEAD, HEAD_1, KEPT, MAX_OCTETS, OPEN}
use Rattle.sidecar_edit.specs.declared.held.Gate.TheVariants.{Live}
use Rattle.sidecar_edit.specs.Fields.{Head, AreInOrder, IsSound, head_octets, head_of, last_end, magic, number_at, total_in, new_len_in, version_in, count_in, places_in, used_in, old_len_in, first_in, no_place, slot, sum_of, cut_up, writes_in, zeros}
use Rattle.sidecar_edit.specs.Gate.{Rule, first_breach, are_zeros, gate_of, is_count, is_new_len, is_padded, is_quiet, is_total, is_version, old_len_of, place_rules, rules_of, state, unless_broken}

-- the place number `k`, or zero
abbrev pub nth : List Place → ℕ → Place
nth ps k = get_or ps k no_place

-- ---- bounds

last_end_grows : (old from : ℕ) (ps : List Place) → AreInOrder old from ps → from ≤ last_end from ps
last_end_grows old from [] order = omega arith
last_end_grows old from (p ∷ ps) order = let more = last_end_grows old (p.at + p.len) ps order.3 in let low = order.1 in omega arith

-- Places in order end at most at the end of the file plus all their bytes.
pub last_end_most : (old from : ℕ) (ps : List Place) → AreInOrder old from ps → last_end from ps ≤ max old from + sum_of ps
last_end_most old from [] order = omega arith
last_end_most old from (p ∷ ps) order =
    let more : last_end (p.at + p.len) ps ≤ max old (p.at + p.len) + sum_of ps = last_end_most old (p.at + p.len) ps order.3 in
    let at : p.at ≤ max old from = order.2 in
    omega arith

at_most : (old from : ℕ) (ps : List Place) (k : ℕ) → AreInOrder old from ps → (nth ps k).at ≤ last_end from ps
at_most old from [] zero order = omega arith
at_most old from [] (suc k) order = omega arith
at_most old from (p ∷ ps) zero order = let more = last_end_grows old (p.at + p.len) ps order.3 in omega arith
at_most old from (p ∷ ps) (suc k) order = at_most old (p.at + p.len) ps k order.3

len_most : (ps : List Place) (k : ℕ) → (nth ps k).len ≤ sum_of ps
len_most [] zero = omega arith
len_most [] (suc k) = omega arith
len_most (p ∷ ps) zero = omega arith
len_most (p ∷ ps) (suc k) = let more = len_most ps k in omega arith

-- Each number of a valid record fits eight bytes.
pub record AreShort (h : Head) : Type 0 where
  pub total : HEAD + sum_of h.places < 256 ^ 8
  pub new_len : h.new_len < 256 ^ 8
  pub old_len : h.old_len < 256 ^ 8
  pub at : (k : ℕ) → (nth h.places k).at < 256 ^ 8
  pub len : (k : ℕ) → (nth h.places k).len < 256 ^ 8

pub short-of_sound : (h : Head) → IsSound h → AreShort h
short-of_sound h sound =
    let end = last_end_most h.old_len 0 h.places sound.order in
    let small = sound.small in let short = sound.short in let new = sound.new_len in
    record {
      total = omega arith;
      new_len = omega arith;
      old_len = omega arith;
      at = λ k. let at = at_most h.old_len 0 h.places k sound.order in omega arith;
      len = λ k. let len = len_most h.places k in omega arith;
    }

-- ---- the fields

-- the bytes of a record, with `rest` after the length before the edit
abbrev pub fixed : ℕ → Head → List ℕ → List ℕ
fixed gate h rest =
    let ps = h.places in
    gate ∷ magic ++ (big_bytes 8 (HEAD + sum_of ps) ++ (big_bytes 8 h.new_len
    ++ (2 ∷ length ps ∷ 0 ∷ 0 ∷ 0 ∷ 0 ∷ 0 ∷ 0 ∷ (slot ps 0 ++ (slot ps 1 ++ (slot ps 2 ++ (slot ps 3
    ++ (slot ps 4 ++ (slot ps 5 ++ (slot ps 6 ++ (slot ps 7
    ++ (big_bytes 8 h.old_len ++ rest))))))))))))

-- eight places, with zeros after the given ones
abbrev eight : List Place → List Place
eight ps = nth ps 0 ∷ nth ps 1 ∷ nth ps 2 ∷ nth ps 3 ∷ nth ps 4 ∷ nth ps 5 ∷ nth ps 6 ∷ nth ps 7 ∷ []

module _ (gate : ℕ) (h : Head) (rest : List ℕ) (short : AreShort h) where
  abbrev pub s : List ℕ
  s = fixed gate h rest

  read-total : total_in s ≡ HEAD + sum_of h.places
  unfolding number_at
  read-total = big_number-reads_back 8 (HEAD + sum_of h.places) (drop 16 s) short.total

  pub read-new_len : new_len_in s ≡ h.new_len
  unfolding number_at
  read-new_len = big_number-reads_back 8 h.new_len (drop 24 s) short.new_len

  pub read-old_len : old_len_in s ≡ h.old_len
  unfolding number_at
  read-old_len = big_number-reads_back 8 h.old_len rest short.old_len

  read-places : places_in s ≡ eight h.places
  unfolding number_at
  read-places =
      let at0 : number_at s 32 ≡ (nth h.places 0).at = big_number-reads_back 8 (nth h.places 0).at (drop 40 s) (short.at 0) in
      let len0 : number_at s 40 ≡ (nth h.places 0).len = big_number-reads_back 8 (nth h.places 0).len (drop 48 s) (short.len 0) in
      let at1 : number_at s 48 ≡ (nth h.places 1).at = big_number-reads_back 8 (nth h.places 1).at (drop 56 s) (short.at 1) in
      let len1 : number_at s 56 ≡ (nth h.places 1).len = big_number-reads_back 8 (nth h.places 1).len (drop 64 s) (short.len 1) in
      let at2 : number_at s 64 ≡ (nth h.places 2).at = big_number-reads_back 8 (nth h.places 2).at (drop 72 s) (short.at 2) in
      let len2 : number_at s 72 ≡ (nth h.places 2).len = big_number-reads_back 8 (nth h.places 2).len (drop 80 s) (short.len 2) in
      let at3 : number_at s 80 ≡ (nth h.places 3).at = big_number-reads_back 8 (nth h.places 3).at (drop 88 s) (short.at 3) in
      let len3 : number_at s 88 ≡ (nth h.places 3).len = big_number-reads_back 8 (nth h.places 3).len (drop 96 s) (short.len 3) in
      let at4 : number_at s 96 ≡ (nth h.places 4).at = big_number-reads_back 8 (nth h.places 4).at (drop 104 s) (short.at 4) in
      let len4 : number_at s 104 ≡ (nth h.places 4).len = big_number-reads_back 8 (nth h.places 4).len (drop 112 s) (short.len 4) in
      let at5 : number_at s 112 ≡ (nth h.places 5).at = big_number-reads_back 8 (nth h.places 5).at (drop 120 s) (short.at 5) in
      let len5 : number_at s 120 ≡ (nth h.places 5).len = big_number-reads_back 8 (nth h.places 5).len (drop 128 s) (short.len 5) in
      let at6 : number_at s 128 ≡ (nth h.places 6).at = big_number-reads_back 8 (nth h.places 6).at (drop 136 s) (short.at 6) in
      let len6 : number_at s 136 ≡ (nth h.places 6).len = big_number-reads_back 8 (nth h.places 6).len (drop 144 s) (short.len 6) in
      let at7 : number_at s 144 ≡ (nth h.places 7).at = big_number-reads_back 8 (nth h.places 7).at (drop 152 s) (short.at 7) in
      let len7 : number_at s 152 ≡ (nth h.places 7).len = big_number-reads_back 8 (nth h.places 7).len (drop 160 s) (short.len 7) in
      λ i. record { at = at0 i; len = len0 i } ∷ record { at = at1 i; len = len1 i } ∷ record { at = at2 i; len = len2 i } ∷ record { at = at3 i; len = len3 i }
      ∷ record { at = at4 i; len = len4 i } ∷ record { at = at5 i; len = len5 i } ∷ record { at = at6 i; len = len6 i } ∷ record { at = at7 i; len = len7 i } ∷ []

-- Eight places are the given ones, then zeros.
eight-is : (ps : List Place) → length ps ≤ 8 → eight ps ≡ ps ++ replicate (8 - length ps) no_place
eight-is [] few = refl
eight-is (a ∷ []) few = refl
eight-is (a ∷ b ∷ []) few = refl
eight-is (a ∷ b ∷ c ∷ []) few = refl
eight-is (a ∷ b ∷ c ∷ d ∷ []) few = refl
eight-is (a ∷ b ∷ c ∷ d ∷ e ∷ []) few = refl
eight-is (a ∷ b ∷ c ∷ d ∷ e ∷ f ∷ []) few = refl
eight-is (a ∷ b ∷ c ∷ d ∷ e ∷ f ∷ g ∷ []) few = refl
eight-is (a ∷ b ∷ c ∷ d ∷ e ∷ f ∷ g ∷ k ∷ []) few = refl
eight-is (a ∷ b ∷ c ∷ d ∷ e ∷ f ∷ g ∷ k ∷ l ∷ ps) few = absurd (omega arith)

-- ---- rules that are kept

-- The rules are kept.
abbrev pub AreKept : List Rule → Type 0
AreKept [] = Unit {0}
AreKept (r ∷ rs) = (r.kept ≡ true) × AreKept rs

pub no_breach : (rs : List Rule) → AreKept rs → first_breach rs ≡ None
no_breach [] kept = refl
no_breach (r ∷ rs) kept = cond-true r.kept (first_breach rs) (Some r.octet) kept.0 ∙ no_breach rs kept.1

kept-append : (rs qs : List Rule) → AreKept rs → AreKept qs → AreKept (rs ++ qs)
kept-append [] qs kept more = more
kept-append (r ∷ rs) qs kept more = (kept.0, kept-append rs qs kept.1 more)

kept-none : (old : Option ℕ) (octet from n : ℕ) → AreKept (place_rules old octet 0 from (replicate n no_place))
kept-none old octet from zero = tt
kept-none old octet from (suc n) = (refl, kept-none old (octet + 16) from n)

kept-places : (old octet from n : ℕ) (ps : List Place) → AreInOrder old from ps → AreKept (place_rules (Some old) octet (length ps) from (ps ++ replicate n no_place))
kept-places old octet from n [] order = kept-none (Some old) octet from n
kept-places old octet from n (p ∷ ps) order = (
  and_from (nat_le 1 p.len && nat_le from p.at) (nat_le p.at (max old from)) (and_from (nat_le 1 p.len) (nat_le from p.at) (le-leb 1 p.len order.0) (le-leb from p.at order.1)) (le-leb p.at (max old from) order.2),
  kept-places old (octet + 16) (p.at + p.len) n ps order.3,
)

length-zeros : (n : ℕ) → length (zeros n) ≡ n
length-zeros n = length-replicate n 0

are_zeros-replicate : (n : ℕ) → are_zeros (zeros n) ≡ true
are_zeros-replicate zero = refl
are_zeros-replicate (suc n) = are_zeros-replicate n

-- ---- a written record is pending, and has the writes that were written

-- the kept bytes of a file, then zeros
abbrev pub padded : Head → List ℕ
padded h = h.first ++ zeros (KEPT - length h.first)

pub length-padded : (h : Head) → IsSound h → length (padded h) ≡ KEPT
length-padded h sound =
    let first = sound.first in
    let a = length-append h.first (zeros (KEPT - length h.first)) in
    let b : length (zeros (KEPT - length h.first)) ≡ KEPT - length h.first = length-zeros (KEPT - length h.first) in
    omega arith

zeros-padded : (h : Head) (old : ℕ) → IsSound h → old ≡ h.old_len → are_zeros (drop old (padded h)) ≡ true
zeros-padded h old sound same = by_length (cases_lt h.old_len KEPT)
  where
    by_length : (h.old_len < KEPT) ⊎ (KEPT ≤ h.old_len) → are_zeros (drop old (padded h)) ≡ true
    by_length (inl below) =
        let first = sound.first in
        let at : drop old (padded h) ≡ zeros (KEPT - length h.first) = drop_at h.first (zeros (KEPT - length h.first)) old (omega arith) in
        ap are_zeros at ∙ are_zeros-replicate (KEPT - length h.first)
    by_length (inr above) =
        let size = length-padded h sound in
        ap are_zeros (drop_all old (padded h) (omega arith))

module _ (h : Head) (sound : IsSound h) where
  abbrev pub f : List ℕ
  f = fixed OPEN h (padded h)

  read_used : used_in f ≡ h.places
  read_used =
      let short = short-of_sound h sound in
      ap (λ ps. take (length h.places) ps) (read-places OPEN h (padded h) short ∙ eight-is h.places sound.few)
      ∙ take_at h.places (replicate (8 - length h.places) no_place) (length h.places) refl

  length-f : length f ≡ HEAD
  length-f = let size = length-padded h sound in omega arith

  read-old : old_len_of f ≡ Some h.old_len
  read-old =
      let size = length-f in
      cond-true (nat_le 168 (length f)) (Some (old_len_in f)) None (le-leb 168 (length f) (omega arith))
      ∙ ap (λ n. Some n) (read-old_len OPEN h (padded h) (short-of_sound h sound))

  kept-total : is_total f ≡ true
  kept-total =
      let sum : sum_of (used_in f) ≡ sum_of h.places = ap sum_of read_used in
      let total = read-total OPEN h (padded h) (short-of_sound h sound) in
      let small = sound.small in
      and_from (nat_le (sum_of (used_in f)) MAX_OCTETS) (total_in f == HEAD + sum_of (used_in f)) (le-leb (sum_of (used_in f)) MAX_OCTETS (omega arith)) (eq-eqb (total_in f) (HEAD + sum_of (used_in f)) (omega arith))

  kept-new_len : is_new_len (version_in f) (old_len_of f) (new_len_in f) (last_end 0 (used_in f)) ≡ true
  kept-new_len =
      ap (λ (old : Option ℕ). is_new_len 2 old (new_len_in f) (last_end 0 (used_in f))) read-old
      ∙ ap (λ n. n == max h.old_len (last_end 0 (used_in f))) (read-new_len OPEN h (padded h) (short-of_sound h sound))
      ∙ ap (λ ps. h.new_len == max h.old_len (last_end 0 ps)) read_used
      ∙ eq-eqb h.new_len (max h.old_len (last_end 0 h.places)) sound.new_len

  kept-slots : AreKept (place_rules (old_len_of f) 32 (count_in f) 0 (places_in f))
  kept-slots =
      subst (λ (old : Option ℕ). AreKept (place_rules old 32 (count_in f) 0 (places_in f))) (sym read-old)
      (subst (λ ps. AreKept (place_rules (Some h.old_len) 32 (length h.places) 0 ps)) (sym (read-places OPEN h (padded h) (short-of_sound h sound) ∙ eight-is h.places sound.few))
      (kept-places h.old_len 32 0 (8 - length h.places) h.places sound.order))

  kept-padded : is_padded f ≡ true
  kept-padded =
      let size = length-padded h sound in
      let first : first_in f ≡ padded h = take_all KEPT (padded h) (omega arith) in
      or_right _ (are_zeros (drop (old_len_in f) (first_in f)))
      (ap (λ octets. are_zeros (drop (old_len_in f) octets)) first ∙ zeros-padded h (old_len_in f) sound (read-old_len OPEN h (padded h) (short-of_sound h sound)))

  unbroken : 1 ≤ length h.places → first_breach (rules_of f) ≡ None
  unbroken some =
      let few = sound.few in
      let right : (is_version (version_in f) && is_count (count_in f)) ≡ true = and_from (nat_le 1 (length h.places)) (nat_le (length h.places) 8) (le-leb 1 (length h.places) some) (le-leb (length h.places) 8 (omega arith)) in
      ap first_breach (cond-true (is_version (version_in f) && is_count (count_in f)) _ _ right)
      ∙ no_breach
      (record { octet = 8; kept = is_total f }
      ∷ record { octet = 16; kept = is_new_len (version_in f) (old_len_of f) (new_len_in f) (last_end 0 (used_in f)) }
      ∷ record { octet = 26; kept = are_zeros (octets_from f 26 6) }
      ∷ (place_rules (old_len_of f) 32 (count_in f) 0 (places_in f) ++ record { octet = 168; kept = is_padded f } ∷ []))
      (kept-total, (kept-new_len, (refl, kept-append (place_rules (old_len_of f) 32 (count_in f) 0 (places_in f)) (record { octet = 168; kept = is_padded f } ∷ []) kept-slots (kept-padded, tt))))

-- ---- the whole record

module _ (h : Head) (payload : List ℕ) (sound : IsSound h) where
  abbrev pub whole : List ℕ
  whole = OPEN ∷ head_octets h ++ payload

  pub head-is : head_of whole ≡ fixed OPEN h (padded h)
  head-is =
      let size = length-padded h sound in
      ap (λ rest. fixed OPEN h rest) (take_at (padded h) payload KEPT size)

  -- Its writes are the writes that were written.
  pub writes-written : writes_in whole ≡ cut_up h.places payload
  writes-written =
      let size = length-padded h sound in
      let used : used_in (head_of whole) ≡ h.places = ap used_in head-is ∙ read_used h sound in
      let rest : drop HEAD whole ≡ payload = drop_at (padded h) payload KEPT size in
      ap (λ ps. cut_up ps (drop HEAD whole)) used ∙ ap (λ bytes. cut_up h.places bytes) rest

  -- It is pending, if it has all bytes of its writes.
  pub live-written : 1 ≤ length h.places → length payload ≡ sum_of h.places → state whole ≡ Live
  live-written some full =
      let size = length-padded h sound in
      let all : length whole ≡ HEAD + length payload = let more = length-append (padded h) payload in omega arith in
      let total = read-total OPEN h (padded h) (short-of_sound h sound) in
      ap (λ head. gate_of head (length whole)) head-is
      ∙ cond-false (is_quiet (f h sound) (length whole)) _ _ (or_from (nat_le (length whole) 1) _ (lt-leb (length whole) 1 (omega arith)) refl)
      ∙ cond-false (nat_lt (length whole) HEAD_1) _ _ (le-ltb (length whole) HEAD_1 (omega arith))
      ∙ ap (λ breach. unless_broken breach (total_in (f h sound)) (length whole)) (unbroken h sound some)
      ∙ cond-false (nat_lt (length whole) (total_in (f h sound))) _ _ (le-ltb (length whole) (total_in (f h sound)) (omega arith))
