-- The register after bytes, by shifts: a byte goes into the register at once, and eight shifts follow.
use Rattle.std.proofs.Common.{◌≡◌, ℕ, zero, suc, ◌+◌, ◌-◌, ◌*◌, ◌/◌, ◌%◌, ◌^◌, ◌<◌, List, [], ◌∷◌, ◌++◌, take, drop, bit_xor, inl, inr, lit<, refl, sym, ap, ap₂, ◌∙◌, arith}
use Rattle.std.proofs.lemmas.List.Sums.{fold-append}
use Rattle.std.proofs.lemmas.List.Concat.{flat_map-append}
use Rattle.std.specs.List.{fold, flat_map}
use Rattle.std.specs.Int.{w32, w64, to_le_bytes}
use Rattle.std.proofs.lemmas.Nat.{xor_of_32}
use Rattle.std.proofs.lemmas.List.{take-append-drop}
use lib.Bits.{xor_assoc, xor_comm, xor_zero_r, xor_shifted}
use Rattle.crc32.specs.Checksum.{generator, shifted, after_bit, bits_of, after_bytes, crc32}
use Rattle.crc32.specs.Tables.{shifts}
use Rattle.crc32.proofs.ShiftLemmas.{even_or_odd, shifted_even, shifted_odd, shifted-xor, shifted_double, shifts-xor, shifts-shifts, shifts_first, shifts_whole}

-- Bytes in parts: the register after `front` goes on with `rest`.
pub after_bytes-append : (register : ℕ) (front rest : List ℕ) → after_bytes register (front ++ rest) ≡ after_bytes (after_bytes register front) rest
unfolding after_bytes
after_bytes-append register front rest =
    ap (fold after_bit register) (flat_map-append bits_of front rest)
    ∙ fold-append after_bit register (flat_map bits_of front) (flat_map bits_of rest)

-- One bit of the operand `b` goes in, and a shift of the rest halves it.
one_bit : (register b : ℕ) → shifted (bit_xor register b) ≡ bit_xor (after_bit register (b % 2)) (b / 2)
one_bit register b =
    let parts : bit_xor (b % 2) (b / 2 * 2 ^ 1) ≡ b =
    xor_comm (b % 2) (b / 2 * 2 ^ 1) ∙ xor_shifted (b / 2) 1 (b % 2) (omega arith) ∙ omega arith in
    ap (λ (x : ℕ). shifted (bit_xor register x)) (sym parts) ∙ ap shifted (sym (xor_assoc register (b % 2) (b / 2 * 2 ^ 1)))
    ∙ shifted-xor (bit_xor register (b % 2)) (b / 2 * 2 ^ 1) ∙ ap (bit_xor (after_bit register (b % 2))) (shifted_double (b / 2))

-- the lowest `n` bits of `b`, the lowest first
low_bits : ℕ → ℕ → List ℕ
low_bits zero b = []
low_bits (suc n) b = b % 2 ∷ low_bits n (b / 2)

-- the number `b` without its lowest `n` bits
rest_of : ℕ → ℕ → ℕ
rest_of zero b = b
rest_of (suc n) b = rest_of n (b / 2)

-- The lowest `n` bits of `b` go in with the first `n` shifts, and what is left of `b` stays.
bits_in : (n register b : ℕ) → shifts n (bit_xor register b) ≡ bit_xor (fold after_bit register (low_bits n b)) (rest_of n b)
unfolding shifts low_bits rest_of
bits_in zero register b = refl
bits_in (suc n) register b =
    shifts_first n (bit_xor register b) ∙ ap (shifts n) (one_bit register b) ∙ bits_in n (after_bit register (b % 2)) (b / 2)

-- The bits of a byte are its lowest eight, and leave nothing.
bits_are : (b : ℕ) → low_bits 8 b ≡ bits_of b
unfolding low_bits
bits_are b =
    let e2 : b / 2 / 2 ≡ b / 4 = omega arith in
    let e3 : b / 4 / 2 ≡ b / 8 = omega arith in
    let e4 : b / 8 / 2 ≡ b / 16 = omega arith in
    let e5 : b / 16 / 2 ≡ b / 32 = omega arith in
    let e6 : b / 32 / 2 ≡ b / 64 = omega arith in
    let e7 : b / 64 / 2 ≡ b / 128 = omega arith in
    let e0 : b / 1 ≡ b = omega arith in
    rw (e2, e3, e4, e5, e6, e7, e0) refl

none_left : (b : ℕ) → b < 256 → rest_of 8 b ≡ 0
unfolding rest_of
none_left b byte = omega arith

-- A byte goes into the register at once, and eight shifts follow.
pub after_one : (register b : ℕ) → b < 256 → after_bytes register (b ∷ []) ≡ shifts 8 (bit_xor register b)
unfolding after_bytes
after_one register b byte =
    sym (bits_in 8 register b ∙ ap (λ (x : ℕ). bit_xor (fold after_bit register (low_bits 8 b)) x) (none_left b byte)
    ∙ xor_zero_r (fold after_bit register (low_bits 8 b)) ∙ ap (fold after_bit register) (bits_are b))

-- The lowest byte of the operand `n` goes in, and eight shifts of the rest remove it.
one_byte : (register n : ℕ) → shifts 8 (bit_xor register n) ≡ bit_xor (after_bytes register (n % 256 ∷ [])) (n / 256)
one_byte register n =
    let parts : bit_xor (n % 256) (n / 256 * 2 ^ 8) ≡ n =
    xor_comm (n % 256) (n / 256 * 2 ^ 8) ∙ xor_shifted (n / 256) 8 (n % 256) (omega arith) ∙ omega arith in
    ap (λ (x : ℕ). shifts 8 (bit_xor register x)) (sym parts) ∙ ap (shifts 8) (sym (xor_assoc register (n % 256) (n / 256 * 2 ^ 8)))
    ∙ shifts-xor 8 (bit_xor register (n % 256)) (n / 256 * 2 ^ 8)
    ∙ ap₂ bit_xor (sym (after_one register (n % 256) (omega arith))) (shifts_whole 8 (n / 256))

-- the lowest `k` bytes of `n`, the lowest first
low_bytes : ℕ → ℕ → List ℕ
low_bytes zero n = []
low_bytes (suc k) n = n % 256 ∷ low_bytes k (n / 256)

-- the shifts of `k` bytes
byte_shifts : ℕ → ℕ
byte_shifts zero = 0
byte_shifts (suc k) = byte_shifts k + 8

-- Numbers below it have `k` bytes.
byte_limit : ℕ → ℕ
byte_limit zero = 1
byte_limit (suc k) = 256 * byte_limit k

-- A number of `k` bytes goes into the register at once, and the shifts of `k` bytes follow.
bytes_in : (k register n : ℕ) → n < byte_limit k → shifts (byte_shifts k) (bit_xor register n) ≡ after_bytes register (low_bytes k n)
unfolding shifts low_bytes byte_shifts byte_limit after_bytes
bytes_in zero register n fits = let none : n ≡ 0 = omega arith in rw none (xor_zero_r register)
bytes_in (suc k) register n fits =
    sym (shifts-shifts (byte_shifts k) 8 (bit_xor register n)) ∙ ap (shifts (byte_shifts k)) (one_byte register n)
    ∙ bytes_in k (after_bytes register (n % 256 ∷ [])) (n / 256) (omega arith)
    ∙ sym (after_bytes-append register (n % 256 ∷ []) (low_bytes k (n / 256)))

eight_are : (n : ℕ) → low_bytes 8 n ≡ to_le_bytes w64 n
unfolding low_bytes
eight_are n =
    let e2 : n / 256 / 256 ≡ n / 65536 = omega arith in
    let e3 : n / 65536 / 256 ≡ n / 16777216 = omega arith in
    let e4 : n / 16777216 / 256 ≡ n / 4294967296 = omega arith in
    let e5 : n / 4294967296 / 256 ≡ n / 1099511627776 = omega arith in
    let e6 : n / 1099511627776 / 256 ≡ n / 281474976710656 = omega arith in
    let e7 : n / 281474976710656 / 256 ≡ n / 72057594037927936 = omega arith in
    rw (e2, e3, e4, e5, e6, e7) refl

-- Eight bytes go into the register at once, as a little-endian number, and 64 shifts follow.
pub after_eight : (register n : ℕ) (bytes : List ℕ) → n < 2 ^ 64 → to_le_bytes w64 n ≡ bytes
    → after_bytes register bytes ≡ shifts 64 (bit_xor register n)
unfolding byte_shifts byte_limit
after_eight register n bytes fits number = ap (after_bytes register) (sym number ∙ sym (eight_are n)) ∙ sym (bytes_in 8 register n fits)

four_are : (n : ℕ) → low_bytes 4 n ≡ to_le_bytes w32 n
unfolding low_bytes
four_are n =
    let e2 : n / 256 / 256 ≡ n / 65536 = omega arith in
    let e3 : n / 65536 / 256 ≡ n / 16777216 = omega arith in
    rw (e2, e3) refl

-- Four bytes go into the register at once, as a little-endian number, and 32 shifts follow.
pub after_four : (register n : ℕ) → n < 2 ^ 32 → after_bytes register (to_le_bytes w32 n) ≡ shifts 32 (bit_xor register n)
unfolding byte_shifts byte_limit
after_four register n fits = ap (after_bytes register) (sym (four_are n)) ∙ sym (bytes_in 4 register n fits)

-- Sixteen bytes: the first eight have 64 more shifts.
pub after_sixteen : (register first second : ℕ) (bytes : List ℕ)
    → after_bytes register (take 8 bytes) ≡ shifts 64 (bit_xor register first)
    → ((before : ℕ) → after_bytes before (drop 8 bytes) ≡ shifts 64 (bit_xor before second))
    → after_bytes register bytes ≡ bit_xor (shifts 128 (bit_xor register first)) (shifts 64 second)
after_sixteen register first second bytes front back =
    ap (after_bytes register) (sym (take-append-drop 8 bytes)) ∙ after_bytes-append register (take 8 bytes) (drop 8 bytes)
    ∙ back (after_bytes register (take 8 bytes)) ∙ shifts-xor 64 (after_bytes register (take 8 bytes)) second
    ∙ ap (λ (x : ℕ). bit_xor x (shifts 64 second)) (ap (shifts 64) front ∙ shifts-shifts 64 64 (bit_xor register first))

-- One bit leaves a register of 32 bits.
one_below : (register bit : ℕ) → register < 2 ^ 32 → bit < 2 → after_bit register bit < 2 ^ 32
one_below register bit fits is_bit =
    let mixed : bit_xor register bit < 2 ^ 32 = xor_of_32 register bit fits (omega arith) in
    elim (even_or_odd (bit_xor register bit)) [
      | inl even ↦ rw (shifted_even (bit_xor register bit) even) (omega arith)
      | inr odd ↦ rw (shifted_odd (bit_xor register bit) odd) (xor_of_32 (bit_xor register bit / 2) generator (omega arith) (lit< tt))
    ]

bits_below : (n register b : ℕ) → register < 2 ^ 32 → fold after_bit register (low_bits n b) < 2 ^ 32
unfolding low_bits
bits_below zero register b fits = fits
bits_below (suc n) register b fits = bits_below n (after_bit register (b % 2)) (b / 2) (one_below register (b % 2) fits (omega arith))

-- Bytes leave a register of 32 bits.
pub after_bytes_below : (register : ℕ) (bytes : List ℕ) → register < 2 ^ 32 → after_bytes register bytes < 2 ^ 32
unfolding after_bytes
after_bytes_below register [] fits = fits
after_bytes_below register (b ∷ bytes) fits =
    let one : fold after_bit register (bits_of b) < 2 ^ 32 = rw (bits_are b) at (bits_below 8 register b fits) in
    rw (fold-append after_bit register (bits_of b) (flat_map bits_of bytes)) (after_bytes_below (fold after_bit register (bits_of b)) bytes one)

-- The complement of a register of 32 bits has it as its complement.
pub complement_twice : (register : ℕ) (before bytes : List ℕ) → register ≡ crc32 before
    → 4294967295 - after_bytes (4294967295 - register) bytes ≡ crc32 (before ++ bytes)
unfolding crc32
complement_twice register before bytes value =
    let fits : after_bytes 4294967295 before < 2 ^ 32 = after_bytes_below 4294967295 before (lit< tt) in
    let back : 4294967295 - register ≡ after_bytes 4294967295 before = omega arith in
    rw (back, ← after_bytes-append) refl
