-- Numbers that were read are written as the same bytes.
use Rattle.std.proofs.Common.{◌≡◌, inl, inr, ℕ, zero, suc, ◌+◌, ◌-◌, ◌*◌, ◌/◌, ◌^◌, ◌<◌, ◌≤◌, ◌==◌, Bool, true, false, if◌then◌else◌, List, [], ◌∷◌, slice_index, append-nil, length, take, drop, ℤ, pos, negsuc, Ok, refl, sym, ◌∙◌, ap, ap₂, subst, arith}
use Rattle.std.proofs.lemmas.Bool.{cases_lt}
use Rattle.std.proofs.lemmas.Bool.Decides.{nat_tests}
use Rattle.std.proofs.lemmas.List.{length-take}
use Rattle.std.proofs.lemmas.Nat.{div-mul-add}
use Rattle.byteorder.specs.Endian.{big_from, big_number, big_bytes}
use Rattle.byteorder.specs.Numbers.{big_from-cons, big_from-take, big_from-lt, big_number-reads_back, length-bytes_high_first}
use Rattle.ebml_numbers.specs.declared.number.IdRead.{IdRead}
use Rattle.ebml_numbers.specs.declared.number.Size.TheVariants.{Known, Unknown}
use Rattle.ebml_numbers.specs.declared.number.SizeRead.{SizeRead}
use Rattle.ebml_numbers.specs.Laws.{SpellsSize}
use Rattle.ebml_numbers.specs.Number.{AreOctets, width, marker, all_ones, vint_data, size_of_data, id_at, id_octets, uint_width, size_at, int_of, int_fits, int_octets_in}
use Rattle.ebml_numbers.proofs.NumberLemmas.{big_bytes-AreOctets, vint-bounds, vint_data-is, id_at-bad, id_at-reads, size_at-reads, size_at-within, size_at-is_zero, uint_width-is_id, twos_complement-octets}
use Rattle.ebml_numbers.proofs.WidthLemmas.{width-pos}

-- ---- signed numbers in a given width

pub length-int_octets_in : (w : ℕ) (z : ℤ) → length (int_octets_in w z) ≡ w
length-int_octets_in w (pos n) = length-bytes_high_first w n
length-int_octets_in w (negsuc n) = length-bytes_high_first w (256 ^ w - suc n)

-- A signed number is read from its two's complement in a width that it fits.
pub int_of-octets_in : (w : ℕ) (z : ℤ) → 1 ≤ w → int_fits z w ≡ true → int_of (int_octets_in w z) ≡ z
int_of-octets_in w z some fits =
    rw (length-int_octets_in w z) (twos_complement-octets w z some fits)

-- ---- bytes of a number

octets-tail : (x : ℕ) (l : List ℕ) → AreOctets (x ∷ l) → AreOctets l
octets-tail x l octets = λ i. octets (suc i)

none-octets : (i : ℕ) → slice_index [] i < 256
none-octets zero = omega arith
none-octets (suc i) = omega arith

front-octets : (x : ℕ) (l : List ℕ) → x < 256 → AreOctets l → (i : ℕ) → slice_index (x ∷ l) i < 256
front-octets x l first octets zero = first
front-octets x l first octets (suc i) = octets i

pub AreOctets-take : (k : ℕ) (l : List ℕ) → AreOctets l → AreOctets (take k l)
AreOctets-take zero l octets = none-octets
AreOctets-take (suc k) [] octets = octets
AreOctets-take (suc k) (x ∷ l) octets = front-octets x (take k l) (octets 0) (AreOctets-take k l (octets-tail x l octets))

pub AreOctets-drop : (k : ℕ) (l : List ℕ) → AreOctets l → AreOctets (drop k l)
AreOctets-drop zero l octets = octets
AreOctets-drop (suc k) [] octets = octets
AreOctets-drop (suc k) (x ∷ l) octets = AreOctets-drop k l (octets-tail x l octets)

-- Lists of bytes with the same length and the same number are equal.
same-octets : (n : ℕ) (a b : List ℕ) → AreOctets a → AreOctets b → length a ≡ n → length b ≡ n → big_from 0 n a ≡ big_from 0 n b → a ≡ b
same-octets zero [] [] oa ob la lb same = refl
same-octets zero [] (y ∷ b) oa ob la lb same = absurd (omega arith)
same-octets zero (x ∷ a) b oa ob la lb same = absurd (omega arith)
same-octets (suc n) [] b oa ob la lb same = absurd (omega arith)
same-octets (suc n) (x ∷ a) [] oa ob la lb same = absurd (omega arith)
same-octets (suc n) (x ∷ a) (y ∷ b) oa ob la lb same =
    let w : ℕ = 256 ^ n in
    let ra : ℕ = big_from 0 n a in
    let rb : ℕ = big_from 0 n b in
    let ta = octets-tail x a oa in
    let tb = octets-tail y b ob in
    let whole : x * w + ra ≡ y * w + rb =
    ap (λ (k : ℕ). x * w + k) (sym (big_from-cons 0 n x a)) ∙ same ∙ ap (λ (k : ℕ). y * w + k) (big_from-cons 0 n y b) in
    let first : x ≡ y = sym (div-mul-add x w ra (big_from-lt 0 n a ta)) ∙ ap (λ (k : ℕ). k / w) whole ∙ div-mul-add y w rb (big_from-lt 0 n b tb) in
    let again : x * w + ra ≡ x * w + rb = whole ∙ ap (λ (k : ℕ). k * w + rb) (sym first) in
    ap₂ (λ k l. k ∷ l) first (same-octets n a b ta tb (omega arith) (omega arith) (omega arith))

-- A number that was read from `n` bytes is written as the same bytes.
pub big_bytes-again : (n : ℕ) (o : List ℕ) → AreOctets o → n ≤ length o → big_bytes n (big_number n o) ≡ take n o
big_bytes-again n o octets inside =
    let x : ℕ = big_number n o in
    let back : big_from 0 n (big_bytes n x) ≡ x = ap (big_from 0 n) (sym (append-nil (big_bytes n x))) ∙ big_number-reads_back n x [] (big_from-lt 0 n o octets) in
    let front : big_from 0 n (take n o) ≡ x = big_from-take 0 n n o (omega arith) in
    same-octets n (big_bytes n x) (take n o) (big_bytes-AreOctets n x) (AreOctets-take n o octets) (length-bytes_high_first n x) (omega (arith, length-take n o)) (back ∙ sym front)

-- ---- an ID

pub id-spelled : (o : List ℕ) (r : IdRead) → AreOctets o → id_at o ≡ Ok r → id_octets r.id ≡ take r.len o
id-spelled [] r octets is = let reads = id_at-reads [] r is in let one = reads.announced in let none = reads.inside in absurd (omega arith)
id-spelled (first ∷ rest) r octets is =
    let o : List ℕ = first ∷ rest in
    let reads = id_at-reads o r is in
    let w : width first ≡ r.len = reads.announced in
    let high : 16 ≤ first = elim (cases_lt first 16) [ inl low ↦ (let bad = id_at-bad first rest low in absurd (cc)) | inr high ↦ high ] in
    let bounds = vint-bounds first rest octets (omega arith) in
    let P : ℕ → Type 0 = λ k. (marker k ≤ big_number k o) × (big_number k o < 2 * marker k) in
    let here = subst P w bounds in
    let Q : ℕ → Type 0 = λ n. (marker r.len ≤ n) × (n < 2 * marker r.len) in
    let of_id = subst Q reads.number here in
    let few = reads.few in
    let len : uint_width r.id ≡ r.len = uint_width-is_id r.len r.id (omega (arith, width-pos first)) (omega arith) of_id.0 of_id.1 in
    ap (λ (k : ℕ). big_bytes k r.id) len ∙ ap (big_bytes r.len) (sym reads.number) ∙ big_bytes-again r.len o octets reads.inside

-- ---- a size

-- The data of a known size are the size, and their bits aren't all 1.
known-data : (w d v : ℕ) → size_of_data w d ≡ Known v → (d ≡ v) × ((d ≡ all_ones w) → ⊥)
known-data w d v is = split (d == all_ones w) refl is
  where
    split : (t : Bool) → (d == all_ones w) ≡ t → (if t then Unknown else Known d) ≡ Known v → (d ≡ v) × ((d ≡ all_ones w) → ⊥)
    split true test found = absurd (cc)
    split false test found = (cc, grind (arith, nat_tests))

pub size-spelled : (o : List ℕ) (r : SizeRead) (v : ℕ) → AreOctets o → size_at o ≡ Ok r → r.size ≡ Known v → SpellsSize o v r.len
size-spelled [] r v octets is known = let reads = size_at-reads [] r is in let one = reads.announced in let none = reads.inside in absurd (omega arith)
size-spelled (first ∷ rest) r v octets is known =
    let o : List ℕ = first ∷ rest in
    let reads = size_at-reads o r is in
    let within = size_at-within o r is in
    let w : width first ≡ r.len = reads.announced in
    let some : 0 < first = elim (cases_lt 0 first) [
      | inl some ↦ some
      | inr none ↦ (let zero_first : first ≡ 0 = omega arith in let bad = size_at-is_zero o (omega arith, zero_first) in absurd (cc))
    ] in
    let bounds = vint-bounds first rest octets some in
    let is_data = vint_data-is first rest octets some in
    let P : ℕ → Type 0 = λ k. (marker k ≤ big_number k o) × (big_number k o < 2 * marker k) × (vint_data k o ≡ big_number k o - marker k) in
    let here = subst P w (bounds.0, bounds.1, is_data) in
    let found = known-data r.len (vint_data r.len o) v (reads.size ∙ known) in
    let value : marker r.len + v ≡ big_number r.len o = omega (arith, here.0, here.2, found.0) in
    record {
      some = within.some;
      most = within.most;
      fits = omega (arith, here.0, here.1, here.2, found.0, found.1);
      inside = reads.inside;
      front = ap (big_bytes r.len) value ∙ big_bytes-again r.len o octets reads.inside;
    }
