-- Shifts of a register are linear: they go through an exclusive or. So a number is shifted by shifting each of its bytes.
use Rattle.std.proofs.Common.{◌≡◌, ℕ, zero, suc, ◌+◌, ◌*◌, ◌/◌, ◌%◌, ◌^◌, ◌⊎◌, inl, inr, bit_xor, refl, sym, ap, ◌∙◌, arith}
use Rattle.std.proofs.lemmas.Nat.{xor_shr, xor_mod}
use native.Mathlib.Nat.{pow-suc, mul_comm, mul_assoc}
use lib.Bits.{xor_assoc, xor_comm, xor_self, xor_zero_r, xor_shifted}
use Rattle.crc32.specs.Checksum.{generator, shifted}
use Rattle.crc32.specs.Tables.{shifts}

-- A number is even or odd.
pub even_or_odd : (n : ℕ) → (n % 2 ≡ 0) ⊎ (n % 2 ≡ 1)
even_or_odd n = grind arith

-- A shift of an even register halves it.
pub shifted_even : (n : ℕ) → n % 2 ≡ 0 → shifted n ≡ n / 2
shifted_even n even = rw even refl

-- A shift of an odd register halves it, and subtracts the generator.
pub shifted_odd : (n : ℕ) → n % 2 ≡ 1 → shifted n ≡ bit_xor (n / 2) generator
shifted_odd n odd = rw odd refl

-- the parity of an exclusive or
xor_parity : (a b : ℕ) → bit_xor a b % 2 ≡ bit_xor (a % 2) (b % 2)
xor_parity a b = xor_mod a b 1

-- the half of an exclusive or
xor_half : (a b : ℕ) → bit_xor a b / 2 ≡ bit_xor (a / 2) (b / 2)
xor_half a b = xor_shr a b 1

-- The last two of three operands change places.
xor_swap : (a b c : ℕ) → bit_xor (bit_xor a b) c ≡ bit_xor (bit_xor a c) b
xor_swap a b c = xor_assoc a b c ∙ ap (bit_xor a) (xor_comm b c) ∙ sym (xor_assoc a c b)

-- Two equal operands cancel each other.
xor_twice : (a b c : ℕ) → bit_xor (bit_xor a c) (bit_xor b c) ≡ bit_xor a b
xor_twice a b c =
    sym (xor_assoc (bit_xor a c) b c) ∙ ap (λ (x : ℕ). bit_xor x c) (xor_swap a c b)
    ∙ xor_assoc (bit_xor a b) c c ∙ ap (bit_xor (bit_xor a b)) (xor_self c) ∙ xor_zero_r (bit_xor a b)

-- One shift goes through an exclusive or.
pub shifted-xor : (a b : ℕ) → shifted (bit_xor a b) ≡ bit_xor (shifted a) (shifted b)
shifted-xor a b =
    elim (even_or_odd a) [
      | inl p ↦ elim (even_or_odd b) [
        | inl q ↦
            let even : bit_xor a b % 2 ≡ 0 = rw (xor_parity a b, p, q) refl in
            rw (shifted_even (bit_xor a b) even, shifted_even a p, shifted_even b q) (xor_half a b)
        | inr q ↦
            let odd : bit_xor a b % 2 ≡ 1 = rw (xor_parity a b, p, q) refl in
            rw (shifted_odd (bit_xor a b) odd, shifted_even a p, shifted_odd b q, xor_half a b) (xor_assoc (a / 2) (b / 2) generator)
      ]
      | inr p ↦ elim (even_or_odd b) [
        | inl q ↦
            let odd : bit_xor a b % 2 ≡ 1 = rw (xor_parity a b, p, q) refl in
            rw (shifted_odd (bit_xor a b) odd, shifted_odd a p, shifted_even b q, xor_half a b) (xor_swap (a / 2) (b / 2) generator)
        | inr q ↦
            let even : bit_xor a b % 2 ≡ 0 = rw (xor_parity a b, p, q) refl in
            rw (shifted_even (bit_xor a b) even, shifted_odd a p, shifted_odd b q, xor_half a b) (sym (xor_twice (a / 2) (b / 2) generator))
      ]
    ]

-- Shifts go through an exclusive or.
pub shifts-xor : (n a b : ℕ) → shifts n (bit_xor a b) ≡ bit_xor (shifts n a) (shifts n b)
unfolding shifts
shifts-xor zero a b = refl
shifts-xor (suc n) a b = ap shifted (shifts-xor n a b) ∙ shifted-xor (shifts n a) (shifts n b)

-- `n` shifts and then `m` shifts are `m + n` shifts.
pub shifts-shifts : (m n a : ℕ) → shifts m (shifts n a) ≡ shifts (m + n) a
unfolding shifts
shifts-shifts zero n a = let e : n ≡ 0 + n = omega arith in rw (← e) refl
shifts-shifts (suc m) n a = let e : suc m + n ≡ suc (m + n) = omega arith in rw e (ap shifted (shifts-shifts m n a))

-- The first of `n + 1` shifts comes before the others.
pub shifts_first : (n a : ℕ) → shifts (suc n) a ≡ shifts n (shifted a)
unfolding shifts
shifts_first n a = let e : suc n ≡ n + 1 = omega arith in ap (λ (k : ℕ). shifts k a) e ∙ sym (shifts-shifts n 1 a)

-- Zero stays zero.
pub shifts-zero : (n : ℕ) → shifts n 0 ≡ 0
unfolding shifts
shifts-zero zero = refl
shifts-zero (suc n) = ap shifted (shifts-zero n)

-- One shift of a number whose lowest bit is zero halves it.
pub shifted_double : (a : ℕ) → shifted (a * 2) ≡ a
shifted_double a = let half : a * 2 / 2 ≡ a = omega arith in shifted_even (a * 2) (omega arith) ∙ half

-- `n` shifts of a number whose lowest `n` bits are zeros remove them.
pub shifts_whole : (n a : ℕ) → shifts n (a * 2 ^ n) ≡ a
unfolding shifts
shifts_whole zero a = omega arith
shifts_whole (suc n) a =
    let e : a * 2 ^ suc n ≡ a * 2 * 2 ^ n = ap (λ (x : ℕ). a * x) (pow-suc 2 n ∙ mul_comm (2 ^ n) 2) ∙ sym (mul_assoc a 2 (2 ^ n)) in
    rw (e, shifts_whole n (a * 2)) (shifted_double a)

-- A number is shifted by shifting its lowest byte and, eight times less, its other bytes.
pub shifts_bytes : (n a : ℕ) → shifts (n + 8) a ≡ bit_xor (shifts (n + 8) (a % 256)) (shifts n (a / 256))
shifts_bytes n a =
    let parts : bit_xor (a / 256 * 2 ^ 8) (a % 256) ≡ a = xor_shifted (a / 256) 8 (a % 256) (omega arith) ∙ omega arith in
    let high : shifts (n + 8) (a / 256 * 2 ^ 8) ≡ shifts n (a / 256) =
    sym (shifts-shifts n 8 (a / 256 * 2 ^ 8)) ∙ ap (shifts n) (shifts_whole 8 (a / 256)) in
    ap (shifts (n + 8)) (sym parts) ∙ shifts-xor (n + 8) (a / 256 * 2 ^ 8) (a % 256)
    ∙ xor_comm (shifts (n + 8) (a / 256 * 2 ^ 8)) (shifts (n + 8) (a % 256)) ∙ ap (bit_xor (shifts (n + 8) (a % 256))) high

-- A table's word for the lowest byte of `left` joins the result, and the other bytes are left.
pub one_more_byte : (after word left n : ℕ) → word ≡ shifts (n + 8) (left % 256) →
    bit_xor (bit_xor after word) (shifts n (left / 256)) ≡ bit_xor after (shifts (n + 8) left)
one_more_byte after word left n looked =
    xor_assoc after word (shifts n (left / 256))
    ∙ ap (bit_xor after) (ap (λ (x : ℕ). bit_xor x (shifts n (left / 256))) looked ∙ sym (shifts_bytes n left))
