-- The laws of the numbers of EBML.
use Rattle.std.proofs.Common.{◌≡◌, ℕ, zero, suc, ◌+◌, ◌-◌, ◌*◌, ◌/◌, ◌%◌, ◌^◌, ◌<◌, ◌≤◌, Bool, true, false, cond, nat_lt, nat_le, ◌==◌, ◌&&◌, ◌||◌, List, [], ◌∷◌, ◌++◌, length, take, append-nil, ℤ, pos, negsuc, ◌-ℤ◌, Result, Ok, Err, IfOk, ◌⊎◌, inl, inr, refl, sym, ap, ◌∙◌, subst, arith}
use Rattle.std.proofs.Math.Nat.{pow-suc, mul-le-mul_right, mod-eq_of_lt, mod-eq-sub-mod, mod-lt, div-one}
use Rattle.std.proofs.Math.Pow.{pow_mono, pow-add}
use Rattle.std.proofs.lemmas.Nat.{pow_pos, shr_high, le-div, div_below}
use Rattle.std.proofs.lemmas.Int.{ints}
use Rattle.std.proofs.lemmas.List.{take-take, length-take, length-append}
use Rattle.std.proofs.lemmas.Bool.{cases_lt, cases_eq, eq-eqb, ne_eqb, leb-true, le-leb, ltb-true, cond-true, cond-false, lt-ltb, le-ltb}
use Rattle.std.proofs.lemmas.Bool.Decides.{nat_tests}
use Rattle.std.specs.Int.{byte_at}
use Rattle.std.specs.Int.Count.{leading_of_zero}
use Rattle.byteorder.specs.Endian.{big_from, big_number, big_bytes, twos_complement}
use Rattle.byteorder.specs.Numbers.{big_from-lt, big_from-take, big_from-append, big_number-reads_back, length-bytes_high_first}
use Rattle.ebml_numbers.specs.declared.number.IdRead.{IdRead}
use Rattle.ebml_numbers.specs.declared.number.Size.{Size}
use Rattle.ebml_numbers.specs.declared.number.Size.TheVariants.{Known, Unknown}
use Rattle.ebml_numbers.specs.declared.number.SizeRead.{SizeRead}
use Rattle.ebml_numbers.specs.declared.number.NumFault.{NumFault}
use Rattle.ebml_numbers.specs.declared.number.NumFault.TheVariants.{More, Bad}
use Rattle.ebml_numbers.specs.Number.{width, marker, vint_data, all_ones, id_fits, is_id_data, id_of_width, id_at, is_id_of_width, is_id, size_of_data, size_at, StartsWithZero, AreOctets, announced, IsCut, IsSettled, IsIdWithin, IsSizeWithin, IsKnownBelow, size_octets, id_octets, uint_of, uint_width, uint_octets, int_of, magnitude, int_fits, int_width, int_octets, int_octets_in}
use Rattle.ebml_numbers.proofs.WidthLemmas.{pow256, width-le, width-pos, width-wide, width-marker, width-of, least_width-is, uint_width-IsLeast, int_width-IsLeast}

-- ---- bytes as a number

-- The number of `n + k` bytes is the number of the first `n` bytes, shifted by `k` bytes, plus the number of the next `k`.
big_from-add : (i n k : ℕ) (o : List ℕ) → big_from i (n + k) o ≡ big_from i n o * 256 ^ k + big_from (i + n) k o
big_from-add i zero k o = let e : 0 + k ≡ k = omega arith in let f : i + 0 ≡ i = omega arith in rw (e, f) (omega arith)
big_from-add i (suc n) k o =
    let e : suc n + k ≡ suc (n + k) = omega arith in
    let f : i + suc n ≡ suc i + n = omega arith in
    rw (e, f, big_from-add (suc i) n k o, pow-add 256 n k) (omega arith)

-- So a right shift by `k` bytes gives the number of the first `n` bytes.
pub big_number-shift : (n k : ℕ) (o : List ℕ) → AreOctets o → big_number n o ≡ big_number (n + k) o / 2 ^ (8 * k)
big_number-shift n k o octets =
    let rest : big_from (0 + n) k o < 2 ^ (8 * k) = rw (← pow256 k) (big_from-lt (0 + n) k o octets) in
    rw (big_from-add 0 n k o, pow256 k) (sym (shr_high (big_number n o) (8 * k) (big_from (0 + n) k o) rest))

-- The number of the first `w` of eight bytes is a right shift of all eight.
pub big_number_of_word : (w : ℕ) (o : List ℕ) → AreOctets o → w ≤ 8 → big_number w o ≡ big_number 8 o / 2 ^ (64 - 8 * w)
big_number_of_word w o octets most =
    let whole : w + (8 - w) ≡ 8 = omega arith in
    let rest : 8 * (8 - w) ≡ 64 - 8 * w = omega arith in
    let shifted = big_number-shift w (8 - w) o octets in
    rw (whole, rest) at shifted

-- ---- marker and data

-- A first byte whose marker means `k + 1` bytes is followed by `k` bytes of data.
vint-bounds_at : (k first : ℕ) (rest : List ℕ) → AreOctets (first ∷ rest) → k < 8 → 2 ^ (7 - k) ≤ first → first < 2 ^ (8 - k) → (marker (suc k) ≤ big_number (suc k) (first ∷ rest)) × (big_number (suc k) (first ∷ rest) < 2 * marker (suc k))
vint-bounds_at k first rest octets few reaches below =
    let tail = big_from-lt 1 k (first ∷ rest) octets in
    let unit = pow256 k in
    let low : 2 ^ (7 - k) * 2 ^ (8 * k) ≡ marker (suc k) = sym (pow-add 2 (7 - k) (8 * k)) ∙ ap (λ (x : ℕ). 2 ^ x) (omega arith) in
    let high : 2 ^ (8 - k) * 2 ^ (8 * k) ≡ 2 ^ suc (7 * suc k) = sym (pow-add 2 (8 - k) (8 * k)) ∙ ap (λ (x : ℕ). 2 ^ x) (omega arith) in
    let twice = pow-suc 2 (7 * suc k) in
    let from : 2 ^ (7 - k) * 2 ^ (8 * k) ≤ first * 2 ^ (8 * k) = mul-le-mul_right (2 ^ (8 * k)) reaches in
    let to : (first + 1) * 2 ^ (8 * k) ≤ 2 ^ (8 - k) * 2 ^ (8 * k) = mul-le-mul_right (2 ^ (8 * k)) (omega arith) in
    (rw unit (omega arith), rw unit (omega arith))

-- A number with the width that its first byte gives is at least its marker, and less than twice the marker.
pub vint-bounds : (first : ℕ) (rest : List ℕ) → AreOctets (first ∷ rest) → 0 < first → (marker (width first) ≤ big_number (width first) (first ∷ rest)) × (big_number (width first) (first ∷ rest) < 2 * marker (width first))
vint-bounds first rest octets some =
    let stands = width-marker first some (octets 0) in
    let most = width-le 0 first (omega arith) (omega arith) in
    let w : suc (width first - 1) ≡ width first = omega (arith, width-pos first) in
    let low : 8 - width first ≡ 7 - (width first - 1) = omega arith in
    let high : 9 - width first ≡ 8 - (width first - 1) = omega (arith, width-pos first) in
    let bounds = vint-bounds_at (width first - 1) first rest octets (omega arith) (rw low at stands.0) (rw high at stands.1) in
    let P : ℕ → Type 0 = λ k. (marker k ≤ big_number k (first ∷ rest)) × (big_number k (first ∷ rest) < 2 * marker k) in
    subst P w bounds

-- So its data are the number minus its marker.
pub vint_data-is : (first : ℕ) (rest : List ℕ) → AreOctets (first ∷ rest) → 0 < first → vint_data (width first) (first ∷ rest) ≡ big_number (width first) (first ∷ rest) - marker (width first)
vint_data-is first rest octets some =
    let bounds = vint-bounds first rest octets some in
    mod-eq-sub-mod bounds.0 ∙ mod-eq_of_lt (omega (arith, bounds.0, bounds.1))

-- ---- results of a reader, by cases

pub id_at-bad : (first : ℕ) (rest : List ℕ) → first < 16 → id_at (first ∷ rest) ≡ Err Bad
unfolding id_at
id_at-bad first rest low = cond-true (nat_lt first 16) _ _ (lt-ltb _ _ low)

pub id_at-cut : (first : ℕ) (rest : List ℕ) → 16 ≤ first → length (first ∷ rest) < width first → id_at (first ∷ rest) ≡ Err (More (width first))
unfolding id_at
id_at-cut first rest high short =
    cond-false (nat_lt first 16) _ _ (le-ltb _ _ high) ∙ cond-true (nat_lt (length (first ∷ rest)) (width first)) _ _ (lt-ltb _ _ short)

pub id_at-whole : (first : ℕ) (rest : List ℕ) → 16 ≤ first → width first ≤ length (first ∷ rest) → id_at (first ∷ rest) ≡ id_of_width (width first) (first ∷ rest)
unfolding id_at
id_at-whole first rest high whole =
    cond-false (nat_lt first 16) _ _ (le-ltb _ _ high) ∙ cond-false (nat_lt (length (first ∷ rest)) (width first)) _ _ (le-ltb _ _ whole)

pos-eqb : (n : ℕ) → 0 < n → (n == 0) ≡ false
pos-eqb n some = grind (arith, nat_tests)

pub size_at-bad : (rest : List ℕ) → size_at (0 ∷ rest) ≡ Err Bad
unfolding size_at
size_at-bad rest = refl

pub size_at-cut : (first : ℕ) (rest : List ℕ) → 0 < first → length (first ∷ rest) < width first → size_at (first ∷ rest) ≡ Err (More (width first))
unfolding size_at
size_at-cut first rest some short =
    cond-false (first == 0) _ _ (pos-eqb first some) ∙ cond-true (nat_lt (length (first ∷ rest)) (width first)) _ _ (lt-ltb _ _ short)

-- the size in the first `w` bytes
abbrev pub size_of_width : ℕ → List ℕ → SizeRead
size_of_width w octets = record { size = size_of_data w (vint_data w octets); len = w }

pub size_at-whole : (first : ℕ) (rest : List ℕ) → 0 < first → width first ≤ length (first ∷ rest) → size_at (first ∷ rest) ≡ Ok (size_of_width (width first) (first ∷ rest))
unfolding size_at
size_at-whole first rest some whole =
    cond-false (first == 0) _ _ (pos-eqb first some) ∙ cond-false (nat_lt (length (first ∷ rest)) (width first)) _ _ (le-ltb _ _ whole)

-- ---- four bytes settle an ID, and eight bytes a size

pub id_at-take : (n : ℕ) (o : List ℕ) → 4 ≤ n → id_at (take n o) ≡ id_at o
id_at-take zero o four = absurd (omega arith)
id_at-take (suc n) [] four = refl
id_at-take (suc n) (first ∷ rest) four =
    elim (cases_lt first 16) [
      | inl low ↦ id_at-bad first (take n rest) low ∙ sym (id_at-bad first rest low)
      | inr high ↦ (
          let short : width first ≤ 4 = (let w = width-le 4 first (omega arith) high in omega arith) in
          let len = length-take (suc n) (first ∷ rest) in
          let number = big_from-take 0 (width first) (suc n) (first ∷ rest) (omega arith) in
          elim (cases_lt (length (first ∷ rest)) (width first)) [
            | inl cut ↦ id_at-cut first (take n rest) high (omega arith) ∙ sym (id_at-cut first rest high cut)
            | inr whole ↦ id_at-whole first (take n rest) high (omega arith) ∙ rw number refl ∙ sym (id_at-whole first rest high whole)
          ])
    ]

pub size_at-take : (n : ℕ) (o : List ℕ) → 8 ≤ n → size_at (take n o) ≡ size_at o
size_at-take zero o eight = absurd (omega arith)
size_at-take (suc n) [] eight = refl
size_at-take (suc n) (zero ∷ rest) eight = size_at-bad (take n rest) ∙ sym (size_at-bad rest)
size_at-take (suc n) (suc first ∷ rest) eight =
    let short = width-le 0 (suc first) (omega arith) (omega arith) in
    let len = length-take (suc n) (suc first ∷ rest) in
    let number = big_from-take 0 (width (suc first)) (suc n) (suc first ∷ rest) (omega arith) in
    elim (cases_lt (length (suc first ∷ rest)) (width (suc first))) [
      | inl cut ↦ size_at-cut (suc first) (take n rest) (omega arith) (omega arith) ∙ sym (size_at-cut (suc first) rest (omega arith) cut)
      | inr whole ↦ size_at-whole (suc first) (take n rest) (omega arith) (omega arith) ∙ rw number refl ∙ sym (size_at-whole (suc first) rest (omega arith) whole)
    ]

-- ---- properties of a result

-- A reader of an ID whose bytes are all here asks for no more.
id_of_width-more : (w n : ℕ) (o : List ℕ) → id_of_width w o ≡ Err (More n) → ⊥
id_of_width-more w n o is = go (is_id_data w (vint_data w o)) _ is
  where
    go : (b : Bool) (read : IdRead) → cond b (Ok read) (Err Bad) ≡ Err (More n) → ⊥
    go true read e = cc
    go false read e = cc

-- A reader asks for more bytes if and only if the number is cut.
pub id_at-more : (n : ℕ) (o : List ℕ) → id_at o ≡ Err (More n) → IsCut 4 n o
unfolding id_at
id_at-more n [] is = let one : 1 ≡ n = cc in record { announced = one; short = omega arith; allowed = omega arith }
id_at-more n (first ∷ rest) is =
    elim (cases_lt first 16) [
      | inl low ↦ (let bad = id_at-bad first rest low in absurd (cc))
      | inr high ↦ elim (cases_lt (length (first ∷ rest)) (width first)) [
        | inl cut ↦ (
            let more = id_at-cut first rest high cut in
            let same : width first ≡ n = cc in
            let few = width-le 4 first (omega arith) high in
            record { announced = same; short = omega arith; allowed = omega arith })
        | inr whole ↦ absurd (id_of_width-more (width first) n (first ∷ rest) (sym (id_at-whole first rest high whole) ∙ is))
      ]
    ]

pub id_at-is_cut : (n : ℕ) (o : List ℕ) → IsCut 4 n o → id_at o ≡ Err (More n)
unfolding id_at
id_at-is_cut n [] cut = ap (λ (x : ℕ). Err (More x)) cut.announced
id_at-is_cut n (first ∷ rest) cut =
    let same = cut.announced in
    let high : 16 ≤ first = elim (cases_lt first 16) [ inl low ↦ (let wide = width-wide first low in absurd (omega arith)) | inr high ↦ high ] in
    id_at-cut first rest high (omega arith) ∙ ap (λ (x : ℕ). Err (More x)) same

pub size_at-more : (n : ℕ) (o : List ℕ) → size_at o ≡ Err (More n) → IsCut 8 n o
unfolding size_at
size_at-more n [] is = let one : 1 ≡ n = cc in record { announced = one; short = omega arith; allowed = omega arith }
size_at-more n (first ∷ rest) is =
    elim (cases_lt 0 first) [
      | inl some ↦ elim (cases_lt (length (first ∷ rest)) (width first)) [
        | inl cut ↦ (
            let more = size_at-cut first rest some cut in
            let same : width first ≡ n = cc in
            let few = width-le 0 first (omega arith) some in
            record { announced = same; short = omega arith; allowed = omega arith })
        | inr whole ↦ (let found = size_at-whole first rest some whole in absurd (cc))
      ]
      | inr none ↦ (
          let zero_first : first ≡ 0 = omega arith in
          let bad : size_at (first ∷ rest) ≡ Err Bad = rw zero_first (size_at-bad rest) in
          absurd (cc))
    ]

pub size_at-is_cut : (n : ℕ) (o : List ℕ) → IsCut 8 n o → size_at o ≡ Err (More n)
unfolding size_at
size_at-is_cut n [] cut = ap (λ (x : ℕ). Err (More x)) cut.announced
size_at-is_cut n (first ∷ rest) cut =
    let same = cut.announced in
    let some : 0 < first = elim (cases_lt 0 first) [
      | inl some ↦ some
      | inr none ↦ (
          let zero_first : first ≡ 0 = omega arith in
          let nine : width first ≡ 9 = rw (zero_first, leading_of_zero 8) refl in
          absurd (omega arith))
    ] in
    size_at-cut first rest some (omega arith) ∙ ap (λ (x : ℕ). Err (More x)) same

-- A size is `Bad` if and only if its first byte is zero.
pub size_at-zero : (o : List ℕ) → size_at o ≡ Err Bad → StartsWithZero o
unfolding size_at
size_at-zero [] is = absurd (cc)
size_at-zero (first ∷ rest) is =
    elim (cases_lt 0 first) [
      | inl some ↦ elim (cases_lt (length (first ∷ rest)) (width first)) [
        | inl cut ↦ (let more = size_at-cut first rest some cut in absurd (cc))
        | inr whole ↦ (let found = size_at-whole first rest some whole in absurd (cc))
      ]
      | inr none ↦ (omega arith, omega arith)
    ]

pub size_at-is_zero : (o : List ℕ) → StartsWithZero o → size_at o ≡ Err Bad
size_at-is_zero [] zero_first = absurd (omega arith)
size_at-is_zero (first ∷ rest) zero_first = let same : first ≡ 0 = zero_first.1 in rw same (size_at-bad rest)

-- ---- parts of a number that was read

-- An ID that was read has at most 4 bytes, all of them here. It is the number in the bytes that its first byte announces.
pub record ReadsId (o : List ℕ) (r : IdRead) : Type 0 where
  pub announced : announced o ≡ r.len
  pub few : r.len ≤ 4
  pub inside : r.len ≤ length o
  pub number : big_number r.len o ≡ r.id
  pub least : is_id_data r.len (vint_data r.len o) ≡ true

id_of_width-ok : (w : ℕ) (o : List ℕ) (r : IdRead) → id_of_width w o ≡ Ok r → (w ≡ r.len) × (big_number w o ≡ r.id) × (is_id_data w (vint_data w o) ≡ true)
id_of_width-ok w o r is = go (is_id_data w (vint_data w o)) refl is
  where
    go : (b : Bool) → is_id_data w (vint_data w o) ≡ b → cond b (Ok (record { id = big_number w o; len = w })) (Err Bad) ≡ Ok r → (w ≡ r.len) × (big_number w o ≡ r.id) × (is_id_data w (vint_data w o) ≡ true)
    go true least e = let same : record { id = big_number w o; len = w } ≡ r = cc in (ap (λ (x : IdRead). x.len) same, ap (λ (x : IdRead). x.id) same, least)
    go false least e = absurd (cc)

pub id_at-reads : (o : List ℕ) (r : IdRead) → id_at o ≡ Ok r → ReadsId o r
unfolding id_at
id_at-reads [] r is = absurd (cc)
id_at-reads (first ∷ rest) r is =
    elim (cases_lt first 16) [
      | inl low ↦ (let bad = id_at-bad first rest low in absurd (cc))
      | inr high ↦ elim (cases_lt (length (first ∷ rest)) (width first)) [
        | inl cut ↦ (let more = id_at-cut first rest high cut in absurd (cc))
        | inr whole ↦ (
            let found = id_of_width-ok (width first) (first ∷ rest) r (sym (id_at-whole first rest high whole) ∙ is) in
            let few = width-le 4 first (omega arith) high in
            record {
              announced = found.0;
              few = omega (arith, found.0);
              inside = omega (arith, found.0);
              number = rw (← found.0) found.1;
              least = rw (← found.0) found.2;
            })
      ]
    ]

pub id_at-read : (o : List ℕ) (r : IdRead) → ReadsId o r → id_at o ≡ Ok r
id_at-read [] r reads = let one = reads.announced in let none = reads.inside in absurd (omega arith)
id_at-read (first ∷ rest) r reads =
    let w : width first ≡ r.len = reads.announced in
    let high : 16 ≤ first = elim (cases_lt first 16) [ inl low ↦ (let wide = width-wide first low in absurd (omega (arith, reads.few))) | inr high ↦ high ] in
    id_at-whole first rest high (omega (arith, reads.inside))
    ∙ rw w (cond-true (is_id_data r.len (vint_data r.len (first ∷ rest))) _ _ reads.least ∙ ap (λ (x : ℕ). Ok (record { id = x; len = r.len })) reads.number)

-- A size that was read has at most 8 bytes, all of them here.
pub record ReadsSize (o : List ℕ) (r : SizeRead) : Type 0 where
  pub announced : announced o ≡ r.len
  pub few : r.len ≤ 8
  pub inside : r.len ≤ length o
  pub size : size_of_data r.len (vint_data r.len o) ≡ r.size

pub size_at-reads : (o : List ℕ) (r : SizeRead) → size_at o ≡ Ok r → ReadsSize o r
unfolding size_at
size_at-reads [] r is = absurd (cc)
size_at-reads (first ∷ rest) r is =
    elim (cases_lt 0 first) [
      | inl some ↦ elim (cases_lt (length (first ∷ rest)) (width first)) [
        | inl cut ↦ (let more = size_at-cut first rest some cut in absurd (cc))
        | inr whole ↦ (
            let found = size_at-whole first rest some whole in
            let same : size_of_width (width first) (first ∷ rest) ≡ r = cc in
            let w : width first ≡ r.len = ap (λ (x : SizeRead). x.len) same in
            let few = width-le 0 first (omega arith) some in
            record {
              announced = w;
              few = omega arith;
              inside = omega arith;
              size = rw (← w) (ap (λ (x : SizeRead). x.size) same);
            })
      ]
      | inr none ↦ (
          let zero_first : first ≡ 0 = omega arith in
          let bad : size_at (first ∷ rest) ≡ Err Bad = rw zero_first (size_at-bad rest) in
          absurd (cc))
    ]

pub size_at-read : (o : List ℕ) (r : SizeRead) → ReadsSize o r → size_at o ≡ Ok r
size_at-read [] r reads = let one = reads.announced in let none = reads.inside in absurd (omega arith)
size_at-read (first ∷ rest) r reads =
    let w : width first ≡ r.len = reads.announced in
    let some : 0 < first = elim (cases_lt 0 first) [
      | inl some ↦ some
      | inr none ↦ (
          let zero_first : first ≡ 0 = omega arith in
          let nine : width first ≡ 9 = rw (zero_first, leading_of_zero 8) refl in
          absurd (omega (arith, reads.few)))
    ] in
    size_at-whole first rest some (omega (arith, reads.inside)) ∙ rw w (ap (λ (x : Size). Ok (record { size = x; len = r.len })) reads.size)

-- ---- a number depends only on its own bytes

-- Lists of bytes with the same first `n` bytes announce the same width.
announced-front : (n : ℕ) (o p : List ℕ) → 1 ≤ n → n ≤ length o → take n p ≡ take n o → announced p ≡ announced o
announced-front zero o p some inside same = absurd (omega arith)
announced-front (suc n) [] p some inside same = absurd (omega arith)
announced-front (suc n) (x ∷ xs) [] some inside same = absurd (cc)
announced-front (suc n) (x ∷ xs) (y ∷ ys) some inside same = let first : y ≡ x = cc in ap width first

-- A number has at least one byte.
pub announced-pos : (o : List ℕ) → 1 ≤ announced o
announced-pos [] = omega arith
announced-pos (first ∷ rest) = width-pos first

length-front : (n : ℕ) (o p : List ℕ) → n ≤ length o → take n p ≡ take n o → n ≤ length p
length-front n o p inside same = let here = length-take n p in let there = length-take n o in let e = ap length same in omega arith

big_number-front : (n : ℕ) (o p : List ℕ) → take n p ≡ take n o → big_number n p ≡ big_number n o
big_number-front n o p same = sym (big_from-take 0 n n p (omega arith)) ∙ ap (big_number n) same ∙ big_from-take 0 n n o (omega arith)

pub id_at-front : (o p : List ℕ) (r : IdRead) → id_at o ≡ Ok r → take r.len p ≡ take r.len o → id_at p ≡ Ok r
id_at-front o p r is same =
    let reads = id_at-reads o r is in
    let some : 1 ≤ r.len = rw (← reads.announced) (announced-pos o) in
    let number = big_number-front r.len o p same in
    id_at-read p r (record {
      announced = announced-front r.len o p some reads.inside same ∙ reads.announced;
      few = reads.few;
      inside = length-front r.len o p reads.inside same;
      number = number ∙ reads.number;
      least = rw number reads.least;
    })

pub size_at-front : (o p : List ℕ) (r : SizeRead) → size_at o ≡ Ok r → take r.len p ≡ take r.len o → size_at p ≡ Ok r
size_at-front o p r is same =
    let reads = size_at-reads o r is in
    let some : 1 ≤ r.len = rw (← reads.announced) (announced-pos o) in
    let number = big_number-front r.len o p same in
    size_at-read p r (record {
      announced = announced-front r.len o p some reads.inside same ∙ reads.announced;
      few = reads.few;
      inside = length-front r.len o p reads.inside same;
      size = rw number reads.size;
    })

pub size_at-alone : (o : List ℕ) (r : SizeRead) → size_at o ≡ Ok r → size_at (take r.len o) ≡ Ok r
size_at-alone o r is = size_at-front o (take r.len o) r is (take-take r.len r.len o (omega arith))

-- Further bytes change neither an ID nor `Bad`.
pub id_at-append : (o rest : List ℕ) → IsSettled (id_at o) → id_at (o ++ rest) ≡ id_at o
unfolding id_at
id_at-append [] rest settled = absurd settled
id_at-append (first ∷ tail) rest settled =
    elim (cases_lt first 16) [
      | inl low ↦ id_at-bad first (tail ++ rest) low ∙ sym (id_at-bad first tail low)
      | inr high ↦ elim (cases_lt (length (first ∷ tail)) (width first)) [
        | inl cut ↦ (let P : Result IdRead NumFault → Type 0 = IsSettled in absurd (subst P (id_at-cut first tail high cut) settled))
        | inr whole ↦ (
            let longer = length-append (first ∷ tail) rest in
            let number = big_from-append (width first) (first ∷ tail) rest whole in
            id_at-whole first (tail ++ rest) high (omega arith) ∙ rw number refl ∙ sym (id_at-whole first tail high whole))
      ]
    ]

pub size_at-append : (o rest : List ℕ) → IsSettled (size_at o) → size_at (o ++ rest) ≡ size_at o
unfolding size_at
size_at-append [] rest settled = absurd settled
size_at-append (zero ∷ tail) rest settled = size_at-bad (tail ++ rest) ∙ sym (size_at-bad tail)
size_at-append (suc first ∷ tail) rest settled =
    elim (cases_lt (length (suc first ∷ tail)) (width (suc first))) [
      | inl cut ↦ (let P : Result SizeRead NumFault → Type 0 = IsSettled in absurd (subst P (size_at-cut (suc first) tail (omega arith) cut) settled))
      | inr whole ↦ (
          let longer = length-append (suc first ∷ tail) rest in
          let number = big_from-append (width (suc first)) (suc first ∷ tail) rest whole in
          size_at-whole (suc first) (tail ++ rest) (omega arith) (omega arith) ∙ rw number refl ∙ sym (size_at-whole (suc first) tail (omega arith) whole))
    ]

-- ---- bounds of numbers that are read

both_true : (a b : Bool) → (a && b) ≡ true → (a ≡ true) × (b ≡ true)
both_true true b h = (refl, h)
both_true false b h = absurd (cc)

one_true : (a b : Bool) → (a || b) ≡ true → (a ≡ true) ⊎ (b ≡ true)
one_true true b h = inl refl
one_true false b h = inr h

-- A valid ID has a width of 1 to 4 bytes.
pub is_id-width : (n : ℕ) → is_id n ≡ true → (w : ℕ) × (1 ≤ w) × (w ≤ 4) × (is_id_of_width w n ≡ true)
unfolding is_id
is_id-width n valid =
    elim (one_true ((is_id_of_width 1 n || is_id_of_width 2 n) || is_id_of_width 3 n) (is_id_of_width 4 n) valid) [
      | inr four ↦ (4, omega arith, omega arith, four)
      | inl fewer ↦ elim (one_true (is_id_of_width 1 n || is_id_of_width 2 n) (is_id_of_width 3 n) fewer) [
        | inr three ↦ (3, omega arith, omega arith, three)
        | inl less ↦ elim (one_true (is_id_of_width 1 n) (is_id_of_width 2 n) less) [
          | inr two ↦ (2, omega arith, omega arith, two)
          | inl one ↦ (1, omega arith, omega arith, one)
        ]
      ]
    ]

or-first : (a b : Bool) → a ≡ true → (a || b) ≡ true
or-first a b h = rw h refl

or-second : (a b : Bool) → b ≡ true → (a || b) ≡ true
or-second true b h = refl
or-second false b h = h

pub is_id-of_width : (w n : ℕ) → 1 ≤ w → w ≤ 4 → is_id_of_width w n ≡ true → is_id n ≡ true
unfolding is_id
is_id-of_width w n some most valid =
    let P : ℕ → Type 0 = λ k. is_id_of_width k n ≡ true in
    let a = is_id_of_width 1 n in
    let b = is_id_of_width 2 n in
    let c = is_id_of_width 3 n in
    let d = is_id_of_width 4 n in
    elim (cases_lt w 2) [
      | inl one ↦ (let e : w ≡ 1 = omega arith in or-first ((a || b) || c) d (or-first (a || b) c (or-first a b (subst P e valid))))
      | inr more ↦ elim (cases_lt w 3) [
        | inl two ↦ (let e : w ≡ 2 = omega arith in or-first ((a || b) || c) d (or-first (a || b) c (or-second a b (subst P e valid))))
        | inr most_of ↦ elim (cases_lt w 4) [
          | inl three ↦ (let e : w ≡ 3 = omega arith in or-first ((a || b) || c) d (or-second (a || b) c (subst P e valid)))
          | inr four ↦ (let e : w ≡ 4 = omega arith in or-second ((a || b) || c) d (subst P e valid))
        ]
      ]
    ]

-- A valid ID of `w` bytes is the marker plus data that fit `w` bytes, and no fewer.
pub record IsIdNumber (w n : ℕ) : Type 0 where
  pub reaches : marker w ≤ n
  pub below : n < 2 * marker w
  pub least : is_id_data w (n - marker w) ≡ true

pub IsIdNumber-from : (w n : ℕ) → is_id_of_width w n ≡ true → IsIdNumber w n
IsIdNumber-from w n valid =
    let parts = both_true (nat_le (marker w) n) (is_id_data w (n - marker w)) valid in
    let reaches = leb-true _ _ parts.0 in
    let fits = both_true (id_fits w (n - marker w)) _ parts.1 in
    let below = ltb-true _ _ (both_true (nat_le 1 (n - marker w)) _ fits.0).1 in
    record { reaches = reaches; below = omega arith; least = parts.1 }

-- An ID that was read is valid.
pub id_at-within : (o : List ℕ) (r : IdRead) → AreOctets o → id_at o ≡ Ok r → IsIdWithin (length o) r
id_at-within [] r octets is = (let reads = id_at-reads [] r is in let one = reads.announced in let none = reads.inside in absurd (omega arith))
id_at-within (first ∷ rest) r octets is =
    let reads = id_at-reads (first ∷ rest) r is in
    let w : width first ≡ r.len = reads.announced in
    let some : 0 < first = elim (cases_lt 0 first) [
      | inl some ↦ some
      | inr none ↦ (let wide = width-wide first (omega arith) in absurd (omega (arith, reads.few)))
    ] in
    let bounds = vint-bounds first rest octets some in
    let value = vint_data-is first rest octets some in
    let P : ℕ → Type 0 = λ k. (marker k ≤ big_number k (first ∷ rest)) × (vint_data k (first ∷ rest) ≡ big_number k (first ∷ rest) - marker k) in
    let there = rw reads.number at (subst P w (bounds.0, value)) in
    let reaches : marker r.len ≤ r.id = there.0 in
    let least : is_id_data r.len (r.id - marker r.len) ≡ true = rw (← there.1) (rw reads.number at reads.least) in
    let valid : is_id_of_width r.len r.id ≡ true = rw (le-leb _ _ reaches) least in
    record {
      valid = is_id-of_width r.len r.id (omega (arith, width-pos first)) reads.few valid;
      some = omega (arith, width-pos first);
      most = reads.few;
      inside = reads.inside;
    }

-- A known size of at most 8 bytes is less than 2^56 - 1.
size_of_data-below : (w v : ℕ) → w ≤ 8 → v < marker w → IsKnownBelow (2 ^ 56 - 1) (size_of_data w v)
size_of_data-below w v most below =
    let P : Size → Type 0 = λ size. IsKnownBelow (2 ^ 56 - 1) size in
    let marked : marker w ≤ 2 ^ 56 = pow_mono {j = 56} (omega arith) in
    elim (cases_eq v (all_ones w)) [
      | inl same ↦ subst P (sym (cond-true (v == all_ones w) Unknown (Known v) (eq-eqb v (all_ones w) same))) tt
      | inr other ↦ subst P (sym (cond-false (v == all_ones w) Unknown (Known v) (ne_eqb v (all_ones w) other))) (omega arith)
    ]

pub size_at-within : (o : List ℕ) (r : SizeRead) → size_at o ≡ Ok r → IsSizeWithin (length o) r
size_at-within o r is =
    let reads = size_at-reads o r is in
    let some : 1 ≤ r.len = rw (← reads.announced) (announced-pos o) in
    record {
      known = rw (← reads.size) (size_of_data-below r.len (vint_data r.len o) reads.few (mod-lt _ (pow_pos (7 * r.len))));
      some = some;
      most = reads.few;
      inside = reads.inside;
    }

-- A property of each possible value of a result holds if the result is a value.
pub IfOk-each : {T E : Type 0} (P : T → Type 0) (r : Result T E) → ((x : T) → r ≡ Ok x → P x) → IfOk r P
IfOk-each P (Ok x) each = each x refl
IfOk-each P (Err e) each = tt

pub id_at-found : (o : List ℕ) → AreOctets o → IfOk (id_at o) (IsIdWithin (length o))
id_at-found o octets = IfOk-each (IsIdWithin (length o)) (id_at o) (λ read is. id_at-within o read octets is)

pub size_at-found : (o : List ℕ) → IfOk (size_at o) (IsSizeWithin (length o))
size_at-found o = IfOk-each (IsSizeWithin (length o)) (size_at o) (λ read is. size_at-within o read is)

-- ---- written numbers are read back

byte_at-div : (k x : ℕ) → byte_at k x ≡ x / 256 ^ k % 256
byte_at-div zero x = ap (λ (y : ℕ). y % 256) (sym (div-one x))
byte_at-div (suc k) x = refl

-- The first byte of a number of `k + 1` bytes, marker and data, announces this width.
vint-first : (k n : ℕ) → k < 8 → marker (suc k) ≤ n → n < 2 * marker (suc k) → width (byte_at k n) ≡ suc k
vint-first k n few reaches below =
    let unit = pow256 k in
    let positive = pow_pos (8 * k) in
    let low : 2 ^ (7 - k) * 2 ^ (8 * k) ≡ marker (suc k) = sym (pow-add 2 (7 - k) (8 * k)) ∙ ap (λ (x : ℕ). 2 ^ x) (omega arith) in
    let high : 2 ^ (8 - k) * 2 ^ (8 * k) ≡ 2 ^ suc (7 * suc k) = sym (pow-add 2 (8 - k) (8 * k)) ∙ ap (λ (x : ℕ). 2 ^ x) (omega arith) in
    let twice = pow-suc 2 (7 * suc k) in
    let from : 2 ^ (7 - k) ≤ n / 2 ^ (8 * k) = le-div _ _ _ positive (omega arith) in
    let to : n / 2 ^ (8 * k) < 2 ^ (8 - k) = div_below _ _ _ positive (omega arith) in
    let octet : 2 ^ (8 - k) ≤ 2 ^ 8 = pow_mono {j = 8} (omega arith) in
    let is : byte_at k n ≡ n / 2 ^ (8 * k) = byte_at-div k n ∙ rw unit (mod-eq_of_lt (omega arith)) in
    let least : 8 - suc k ≡ 7 - k = omega arith in
    let next : 9 - suc k ≡ 8 - k = omega arith in
    rw is (width-of (suc k) (n / 2 ^ (8 * k)) (omega arith) (omega arith) (rw least from) (rw next to))

-- The list `o` begins with the number `n` of `w` bytes, marker and data.
record IsSpelled (w n : ℕ) (o : List ℕ) : Type 0 where
  announced : announced o ≡ w
  inside : w ≤ length o
  number : big_number w o ≡ n
  value : vint_data w o ≡ n - marker w

IsSpelled-big_bytes : (w n : ℕ) (rest : List ℕ) → 1 ≤ w → w ≤ 8 → marker w ≤ n → n < 2 * marker w → IsSpelled w n (big_bytes w n ++ rest)
IsSpelled-big_bytes zero n rest some most reaches below = absurd (omega arith)
IsSpelled-big_bytes (suc k) n rest some most reaches below =
    let twice = pow-suc 2 (7 * suc k) in
    let room : 2 ^ suc (7 * suc k) ≤ 2 ^ (8 * suc k) = pow_mono (omega arith) in
    let unit = pow256 (suc k) in
    let number = big_number-reads_back (suc k) n rest (omega arith) in
    let len = length-append (big_bytes (suc k) n) rest in
    let own = length-bytes_high_first (suc k) n in
    record {
      announced = vint-first k n (omega arith) reaches below;
      inside = omega arith;
      number = number;
      value = ap (λ (x : ℕ). x % marker (suc k)) number ∙ mod-eq-sub-mod reaches ∙ mod-eq_of_lt (omega arith);
    }

-- A valid ID of `w` bytes is written in `w` bytes.
pub uint_width-is_id : (w n : ℕ) → 1 ≤ w → w ≤ 8 → marker w ≤ n → n < 2 * marker w → uint_width n ≡ w
unfolding uint_width
uint_width-is_id w n some most reaches below =
    let twice = pow-suc 2 (7 * w) in
    let room : 2 ^ suc (7 * w) ≤ 2 ^ (8 * w) = pow_mono (omega arith) in
    least_width-is (λ k. nat_lt n (256 ^ k)) w some most (lt-ltb _ _ (rw (pow256 w) (omega arith)))
    (λ k one less. let short : 2 ^ (8 * k) ≤ 2 ^ (7 * w) = pow_mono (omega arith) in le-ltb _ _ (rw (pow256 k) (omega arith)))

-- An ID that is written is read back, whatever follows it.
pub id_at-octets : (n : ℕ) (rest : List ℕ) → is_id n ≡ true → id_at (id_octets n ++ rest) ≡ Ok (record { id = n; len = uint_width n })
id_at-octets n rest valid =
    let at = is_id-width n valid in
    let is = IsIdNumber-from at.0 n at.3 in
    let width_is : uint_width n ≡ at.0 = uint_width-is_id at.0 n at.1 (omega (arith, at.2)) is.reaches is.below in
    let spelled = IsSpelled-big_bytes at.0 n rest at.1 (omega (arith, at.2)) is.reaches is.below in
    rw width_is (id_at-read (big_bytes at.0 n ++ rest) (record { id = n; len = at.0 }) (record {
      announced = spelled.announced;
      few = at.2;
      inside = spelled.inside;
      number = spelled.number;
      least = rw spelled.value is.least;
    }))

-- A valid ID takes 1 to 4 bytes, and is less than 2^32.
pub is_id-bounds : (n : ℕ) → is_id n ≡ true → (1 ≤ uint_width n) × (uint_width n ≤ 4) × (n < 2 ^ 32)
is_id-bounds n valid =
    let at = is_id-width n valid in
    let is = IsIdNumber-from at.0 n at.3 in
    let width_is : uint_width n ≡ at.0 = uint_width-is_id at.0 n at.1 (omega (arith, at.2)) is.reaches is.below in
    let twice = pow-suc 2 (7 * at.0) in
    let room : 2 ^ suc (7 * at.0) ≤ 2 ^ 32 = pow_mono {j = 32} (omega (arith, at.2)) in
    (omega (arith, at.1), omega (arith, at.2), omega (arith, is.below))

-- A size that is written is read back, whatever follows it.
pub size_at-octets : (v w : ℕ) (rest : List ℕ) → 1 ≤ w → w ≤ 8 → v < all_ones w → size_at (size_octets v w ++ rest) ≡ Ok (record { size = Known v; len = w })
size_at-octets v w rest some most fits =
    let spelled = IsSpelled-big_bytes w (marker w + v) rest some most (omega arith) (omega arith) in
    let value : vint_data w (size_octets v w ++ rest) ≡ v = spelled.value ∙ omega arith in
    let other : v ≡ all_ones w → ⊥ = λ same. absurd (omega arith) in
    size_at-read (size_octets v w ++ rest) (record { size = Known v; len = w }) (record {
      announced = spelled.announced;
      few = most;
      inside = spelled.inside;
      size = rw value (cond-false (v == all_ones w) Unknown (Known v) (ne_eqb v (all_ones w) other));
    })

pub length-size_octets : (v w : ℕ) → length (size_octets v w) ≡ w
length-size_octets v w = length-bytes_high_first w (marker w + v)

pub length-uint_octets : (v : ℕ) → length (uint_octets v) ≡ uint_width v
length-uint_octets v = length-bytes_high_first (uint_width v) v

-- An unsigned number that is written is read from exactly its bytes.
pub uint_of-octets : (v : ℕ) → v < 2 ^ 64 → uint_of (uint_octets v) ≡ v
uint_of-octets v small =
    let fits = (uint_width-IsLeast v small).fits in
    rw (length-uint_octets v) (ap (big_number (uint_width v)) (sym (append-nil (uint_octets v))) ∙ big_number-reads_back (uint_width v) v [] fits)

-- ---- signed integers

pub length-int_octets : (z : ℤ) → length (int_octets z) ≡ int_width z
length-int_octets (pos n) = length-bytes_high_first (int_width (pos n)) n
length-int_octets (negsuc n) = length-bytes_high_first (int_width (negsuc n)) (256 ^ int_width (negsuc n) - suc n)

-- The bytes of a number are read as this number.
big_number-octets : (w x : ℕ) → x < 256 ^ w → big_number w (big_bytes w x) ≡ x
big_number-octets w x fits = ap (big_number w) (sym (append-nil (big_bytes w x))) ∙ big_number-reads_back w x [] fits

-- Here `m` is 256^w: the two's complement of `-n-1` is read back.
below_whole : (m n : ℕ) → suc n ≤ m → pos (m - suc n) -ℤ pos m ≡ negsuc n
below_whole m n inside = omega (arith, ints)

-- The two's complement of a number in a width that it fits is read as this number.
pub twos_complement-octets : (w : ℕ) (z : ℤ) → 1 ≤ w → int_fits z w ≡ true → twos_complement w (big_number w (int_octets_in w z)) ≡ z
twos_complement-octets w (pos n) some fits =
    let small = ltb-true n (2 ^ (8 * w - 1)) fits in
    let whole : 2 ^ (8 * w - 1) ≤ 2 ^ (8 * w) = pow_mono (omega arith) in
    rw (big_number-octets w n (rw (pow256 w) (omega arith))) (cond-true (nat_lt n (2 ^ (8 * w - 1))) _ _ fits)
twos_complement-octets w (negsuc n) some fits =
    let small = ltb-true n (2 ^ (8 * w - 1)) fits in
    let digits : 8 * w ≡ suc (8 * w - 1) = omega arith in
    let whole : 2 ^ (8 * w) ≡ 2 ^ (8 * w - 1) * 2 = ap (λ (x : ℕ). 2 ^ x) digits ∙ pow-suc 2 (8 * w - 1) in
    let unit = pow256 w in
    rw (big_number-octets w (256 ^ w - suc n) (omega arith), unit)
    (cond-false (nat_lt (2 ^ (8 * w) - suc n) (2 ^ (8 * w - 1))) _ _ (le-ltb _ _ (omega arith)) ∙ below_whole (2 ^ (8 * w)) n (omega arith))

-- A signed number that is written is read from exactly its bytes.
pub int_of-octets : (z : ℤ) → magnitude z < 2 ^ 63 → int_of (int_octets z) ≡ z
int_of-octets z small =
    let least = int_width-IsLeast z small in
    rw (length-int_octets z) (twos_complement-octets (int_width z) z least.some (lt-ltb _ _ least.fits))

-- ---- written bytes

-- The elements of `big_bytes` are bytes.
pub big_bytes-AreOctets : (n x : ℕ) → AreOctets (big_bytes n x)
big_bytes-AreOctets zero x zero = omega arith
big_bytes-AreOctets zero x (suc i) = omega arith
big_bytes-AreOctets (suc n) x zero = rw (byte_at-div n x) (mod-lt (x / 256 ^ n) (omega arith))
big_bytes-AreOctets (suc n) x (suc i) = big_bytes-AreOctets n x i

-- ---- enough bytes

settled_unless_cut : {T : Type 0} (r : Result T NumFault) → ((n : ℕ) → r ≡ Err (More n) → ⊥) → IsSettled r
settled_unless_cut (Ok read) uncut = tt
settled_unless_cut (Err Bad) uncut = tt
settled_unless_cut (Err (More n)) uncut = uncut n refl

-- Four bytes settle an ID, since no ID asks for more.
pub id_at-four : (o : List ℕ) → 4 ≤ length o → IsSettled (id_at o)
id_at-four o four = settled_unless_cut (id_at o) (λ n more. let cut = id_at-more n o more in omega (arith, cut.short, cut.allowed))

-- Eight bytes settle a size.
pub size_at-eight : (o : List ℕ) → 8 ≤ length o → IsSettled (size_at o)
size_at-eight o eight = settled_unless_cut (size_at o) (λ n more. let cut = size_at-more n o more in omega (arith, cut.short, cut.allowed))
