-- The last bytes of a signed number are its two's complement.
use Rattle.std.proofs.Common.{◌≡◌, ℕ, zero, bit_and, suc, ◌+◌, ◌-◌, ◌*◌, ◌/◌, ◌%◌, ◌^◌, ◌<◌, ◌≤◌, ℤ, pos, negsuc, sym, ap, ◌∙◌, w64, SFits, arith}
use Rattle.std.proofs.Math.Nat.{suc-mul, mod-eq_of_lt}
use Rattle.std.proofs.Math.Pow.{pow_mono, pow-add}
use Rattle.std.proofs.lemmas.Nat.{pow_pos, and_mask, shr_high, mod_low}
use Rattle.std.proofs.lemmas.Int.{ints}
use Rattle.byteorder.specs.Endian.{big_bytes, low_bytes}
use Rattle.ebml_numbers.specs.Number.{magnitude, int_octets_in}
use Rattle.ebml_numbers.proofs.WidthLemmas.{pow256}

-- A product less `s`, with its last summand split off.
product_less : (a b s : ℕ) → 1 ≤ a → s ≤ b → (a - 1) * b + (b - s) ≡ a * b - s
product_less zero b s one inside = absurd (omega arith)
product_less (suc a) b s one inside = let less : suc a - 1 ≡ a = omega arith in let more = suc-mul a b in rw less (omega arith)

-- A right shift of 64 ones leaves the remaining ones.
pub ones_shr : (j k : ℕ) → j + k ≡ 64 → (2 ^ 64 - 1) / 2 ^ k ≡ 2 ^ j - 1
ones_shr j k whole =
    let split : 2 ^ j * 2 ^ k ≡ 2 ^ 64 = sym (pow-add 2 j k) ∙ ap (λ (x : ℕ). 2 ^ x) whole in
    let ones : (2 ^ j - 1) * 2 ^ k + (2 ^ k - 1) ≡ 2 ^ 64 - 1 = product_less (2 ^ j) (2 ^ k) 1 (pow_pos j) (pow_pos k) ∙ ap (λ (x : ℕ). x - 1) split in
    ap (λ (x : ℕ). x / 2 ^ k) (sym ones) ∙ shr_high (2 ^ j - 1) k (2 ^ k - 1) (let some = pow_pos k in omega arith)

-- The last `w` bytes of a number that fits them are its two's complement.
pub low_bytes-octets : (w : ℕ) (z : ℤ) → 1 ≤ w → w ≤ 8 → magnitude z < 2 ^ (8 * w - 1) → big_bytes w (low_bytes w64 w z) ≡ int_octets_in w z
low_bytes-octets w (pos n) some most fits =
    let more : 2 ^ (8 * w - 1) ≤ 2 ^ (8 * w) = pow_mono (omega arith) in
    ap (big_bytes w) (mod-eq_of_lt (omega arith))
low_bytes-octets w (negsuc n) some most fits =
    let more : 2 ^ (8 * w - 1) ≤ 2 ^ (8 * w) = pow_mono (omega arith) in
    let digits : 64 - 8 * w + 8 * w ≡ 64 = omega arith in
    let whole : 2 ^ (64 - 8 * w) * 2 ^ (8 * w) ≡ 2 ^ 64 = sym (pow-add 2 (64 - 8 * w) (8 * w)) ∙ ap (λ (x : ℕ). 2 ^ x) digits in
    let split = product_less (2 ^ (64 - 8 * w)) (2 ^ (8 * w)) (suc n) (pow_pos (64 - 8 * w)) (omega arith) in
    let low : (2 ^ 64 - suc n) % 2 ^ (8 * w) ≡ 2 ^ (8 * w) - suc n =
    ap (λ (x : ℕ). x % 2 ^ (8 * w)) (ap (λ (x : ℕ). x - suc n) (sym whole) ∙ sym split)
    ∙ mod_low (2 ^ (64 - 8 * w) - 1) (8 * w) (2 ^ (8 * w) - suc n) (let some_power = pow_pos (8 * w) in omega arith) in
    ap (big_bytes w) (low ∙ ap (λ (x : ℕ). x - suc n) (sym (pow256 w)))

-- A mask of the last `w` bytes is a remainder.
pub mask-low_bytes : (w : ℕ) (x : ℕ) → 1 ≤ w → w ≤ 8 → bit_and x ((2 ^ 64 - 1) / 2 ^ (64 - 8 * w)) ≡ x % 2 ^ (8 * w)
mask-low_bytes w x some most = rw (ones_shr (8 * w) (64 - 8 * w) (omega arith)) (and_mask x (8 * w))

-- A signed number of 64 bits is less than 2^63 without its sign.
pub magnitude-lt : (z : ℤ) → SFits w64 z → magnitude z < 2 ^ 63
magnitude-lt (pos n) fits = omega (arith, ints)
magnitude-lt (negsuc n) fits = omega (arith, ints)
