-- Widths: leading zero bits, powers, and the least width that holds a number.
use Rattle.std.proofs.Common.{◌≡◌, ℕ, zero, suc, ◌+◌, ◌-◌, ◌*◌, ◌/◌, ◌^◌, ◌<◌, ◌≤◌, Bool, true, false, find, Option, Some, unwrap_or, max, ℤ, nat_lt, ◌⊎◌, inl, inr, refl, sym, ap, ◌∙◌, arith}
use Rattle.std.proofs.Math.Nat.{pow-suc, eq-or-lt_of_le}
use Rattle.std.proofs.Math.Pow.{pow_mono, pow-add}
use Rattle.std.proofs.lemmas.Nat.{leading_le, leading_top, leading_length, pow_pos}
use Rattle.std.proofs.lemmas.Bool.{cases_lt, cases_Bool, ltb-true, lt-ltb, le-ltb, cond-true, cond-false}
use Rattle.std.specs.Int.{div_ceil}
use Rattle.std.specs.Int.Count.{count_leading_zeros, leading_unique}
use Rattle.std.specs.List.{range_with_len}
use Rattle.ebml_numbers.specs.Number.{width, least_width, all_ones, least_size_width, uint_width, magnitude, int_fits, int_width, IsLeastWidth}

-- ---- powers

-- `n` bytes hold `8 n` bits.
pub pow256 : (n : ℕ) → 256 ^ n ≡ 2 ^ (8 * n)
pow256 zero = refl
pow256 (suc n) =
    let bits : 8 * suc n ≡ 8 * n + 8 = omega arith in
    pow-suc 256 n ∙ ap (λ (x : ℕ). x * 256) (pow256 n) ∙ sym (pow-add 2 (8 * n) 8) ∙ ap (λ (x : ℕ). 2 ^ x) (sym bits)

-- ---- leading zeros

-- A number of `k` bits that reaches 2^j has at most `k - j - 1` leading zeros.
pub leading_zeros-lt : (k j a : ℕ) → j < k → 2 ^ j ≤ a → count_leading_zeros k a + j < k
unfolding count_leading_zeros
leading_zeros-lt zero j a inside reaches = absurd (omega arith)
leading_zeros-lt (suc k) j zero inside reaches = let some = pow_pos j in absurd (omega arith)
leading_zeros-lt (suc k) zero (suc n) inside reaches = let most = leading_le k (suc n / 2) in omega arith
leading_zeros-lt (suc k) (suc j) (suc n) inside reaches =
    let half : 2 ^ j ≤ suc n / 2 = (let twice : 2 ^ suc j ≡ 2 ^ j * 2 = pow-suc 2 j in omega arith) in
    let rest = leading_zeros-lt k j (suc n / 2) (omega arith) half in
    omega arith

-- ---- the width that a first byte gives

-- A width is at least 1.
pub width-pos : (first : ℕ) → 1 ≤ width first
width-pos first = omega arith

-- A first byte that reaches 2^j gives a width of at most `8 - j` bytes.
pub width-le : (j first : ℕ) → j < 8 → 2 ^ j ≤ first → width first + j ≤ 8
width-le j first inside reaches = let zeros = leading_zeros-lt 8 j first inside reaches in omega arith

-- A first byte below 16 gives a width of more than 4 bytes.
pub width-wide : (first : ℕ) → first < 16 → 4 < width first
width-wide first low =
    let top = leading_length 8 first (omega arith) in
    let short : top.0 < 5 = go top.0 top.2 top.3 in
    omega (arith, top.1)
  where
    go : (m : ℕ) → first < 2 ^ m → 2 ^ m ≤ 2 * first + 1 → m < 5
    go m over under = elim (cases_lt m 5) [ inl h ↦ h | inr h ↦ (let long : 2 ^ 5 ≤ 2 ^ m = pow_mono h in absurd (omega arith)) ]

-- The highest bit of a nonzero first byte is at the place that its width gives.
pub width-marker : (first : ℕ) → 0 < first → first < 256 → (2 ^ (8 - width first) ≤ first) × (first < 2 ^ (9 - width first))
width-marker first some octet =
    let top = leading_top 8 first some octet in
    let place : 8 - width first ≡ top.0 = omega (arith, top.1) in
    let above : 9 - width first ≡ suc top.0 = omega (arith, top.1) in
    (rw place top.2, rw above top.3)

-- A first byte with its highest bit at the place for the width `w` gives this width.
pub width-of : (w first : ℕ) → 1 ≤ w → w ≤ 8 → 2 ^ (8 - w) ≤ first → first < 2 ^ (9 - w) → width first ≡ w
width-of w first some most reaches below =
    let above : 9 - w ≡ suc (8 - w) = omega arith in
    let twice : 2 ^ (9 - w) ≡ 2 ^ (8 - w) * 2 = ap (λ (x : ℕ). 2 ^ x) above ∙ pow-suc 2 (8 - w) in
    let zeros : w - 1 ≡ count_leading_zeros 8 first = leading_unique 8 first (w - 1) (9 - w) (omega arith) below (omega arith) in
    omega arith

-- ---- the least width

-- `find` returns the first of `n` numbers from `a` on that passes the test.
find_first : (p : ℕ → Bool) (n a w : ℕ) → a ≤ w → w < a + n → p w ≡ true → ((k : ℕ) → a ≤ k → k < w → p k ≡ false) → find p (range_with_len a n) ≡ Some w
find_first p zero a w from to passes before = absurd (omega arith)
find_first p (suc n) a w from to passes before =
    elim (eq-or-lt_of_le from) [
      | inl same ↦ cond-true (p a) _ _ (ap p same ∙ passes) ∙ ap Some same
      | inr less ↦ cond-false (p a) _ _ (before a (omega arith) less)
          ∙ find_first p n (a + 1) w (omega arith) (omega arith) passes (λ k more. before k (omega arith))
    ]

-- The least width is the width that passes the test if no smaller one does.
pub least_width-is : (p : ℕ → Bool) (w : ℕ) → 1 ≤ w → w ≤ 8 → p w ≡ true → ((k : ℕ) → 1 ≤ k → k < w → p k ≡ false) → least_width p ≡ w
least_width-is p w some most passes before = ap (λ (o : Option ℕ). unwrap_or o 8) (find_first p 8 1 w some (omega arith) passes before)

-- Of `n` numbers from `a` on, either none passes the test, or there is a first that does.
first_of_range : (p : ℕ → Bool) (n a : ℕ) → ((k : ℕ) → a ≤ k → k < a + n → p k ≡ false) ⊎ ((w : ℕ) × (a ≤ w) × (w < a + n) × (p w ≡ true) × ((k : ℕ) → a ≤ k → k < w → p k ≡ false))
first_of_range p zero a = inl (λ k from to. absurd (omega arith))
first_of_range p (suc n) a =
    elim (cases_Bool (p a)) [
      | inl passes ↦ inr (a, omega arith, omega arith, passes, λ k from less. absurd (omega arith))
      | inr fails ↦ elim (first_of_range p n (a + 1)) [
        | inl none ↦ inl (λ k from to. elim (eq-or-lt_of_le from) [ inl same ↦ ap p (sym same) ∙ fails | inr more ↦ none k (omega arith) (omega arith) ])
        | inr found ↦ inr (found.0, omega (arith, found.1), omega (arith, found.2), found.3, λ k from less. elim (eq-or-lt_of_le from) [ inl same ↦ ap p (sym same) ∙ fails | inr more ↦ found.4 k (omega arith) less ])
      ]
    ]

-- If 8 fits, `least_width` is the least width that fits.
pub least_width-IsLeast : (p : ℕ → Bool) (Fits : ℕ → Type 0) → ((k : ℕ) → p k ≡ true → Fits k) → ((k : ℕ) → Fits k → p k ≡ true) → Fits 8 → IsLeastWidth Fits (least_width p)
least_width-IsLeast p Fits sound complete eight =
    elim (first_of_range p 8 1) [
      | inl none ↦ (let fails = none 8 (omega arith) (omega arith) in let passes = complete 8 eight in absurd (cc))
      | inr found ↦ (
          let is = least_width-is p found.0 found.1 (omega (arith, found.2)) found.3 found.4 in
          let least : IsLeastWidth Fits found.0 = record {
            some = found.1;
            most = omega (arith, found.2);
            fits = sound found.0 found.3;
            least = λ k one fits. elim (cases_lt k found.0) [ inl less ↦ (let fails = found.4 k one less in let passes = complete k fits in absurd (cc)) | inr more ↦ more ];
          } in
          rw is least)
    ]

-- ---- the least widths of numbers

pub least_size_width-IsLeast : (v : ℕ) → v < all_ones 8 → IsLeastWidth (λ w. v < all_ones w) (least_size_width v)
unfolding least_size_width
least_size_width-IsLeast v small =
    least_width-IsLeast (λ w. nat_lt v (all_ones w)) (λ w. v < all_ones w) (λ k. ltb-true v (all_ones k)) (λ k. lt-ltb v (all_ones k)) small

pub uint_width-IsLeast : (v : ℕ) → v < 2 ^ 64 → IsLeastWidth (λ w. v < 256 ^ w) (uint_width v)
unfolding uint_width
uint_width-IsLeast v small =
    least_width-IsLeast (λ w. nat_lt v (256 ^ w)) (λ w. v < 256 ^ w) (λ k. ltb-true v (256 ^ k)) (λ k. lt-ltb v (256 ^ k)) small

pub int_width-IsLeast : (z : ℤ) → magnitude z < 2 ^ 63 → IsLeastWidth (λ w. magnitude z < 2 ^ (8 * w - 1)) (int_width z)
unfolding int_width
int_width-IsLeast z small =
    least_width-IsLeast (int_fits z) (λ w. magnitude z < 2 ^ (8 * w - 1)) (λ k. ltb-true (magnitude z) (2 ^ (8 * k - 1))) (λ k. lt-ltb (magnitude z) (2 ^ (8 * k - 1))) small

-- ---- the digits of a number

-- A number of `b` binary digits reaches each smaller power of 2.
pow_reached : (i b n : ℕ) → i < b → 2 ^ b ≤ 2 * n + 1 → 2 ^ i ≤ n
pow_reached i b n less digits =
    let twice : 2 ^ suc i ≡ 2 ^ i * 2 = pow-suc 2 i in
    let under : 2 ^ suc i ≤ 2 ^ b = pow_mono (omega arith) in
    omega arith

-- A number of 64 bits has 64 minus its leading zeros as digits.
pub leading_zeros-digits : (n : ℕ) → n < 2 ^ 64 → (n < 2 ^ (64 - count_leading_zeros 64 n)) × (2 ^ (64 - count_leading_zeros 64 n) ≤ 2 * n + 1)
leading_zeros-digits n small =
    let top = leading_length 64 n small in
    let digits : 64 - count_leading_zeros 64 n ≡ top.0 = omega (arith, top.1) in
    (rw digits top.2, rw digits top.3)

-- A number below 2^k has at most `k` digits.
digits_most : (k b n : ℕ) → n < 2 ^ k → 2 ^ b ≤ 2 * n + 1 → b ≤ k
digits_most k b n small digits =
    elim (cases_lt k b) [
      | inl more ↦ (let over : 2 ^ suc k ≤ 2 ^ b = pow_mono (omega arith) in let twice = pow-suc 2 k in absurd (omega arith))
      | inr fewer ↦ fewer
    ]

-- A number above 0 has at least one digit.
digits_some : (b n : ℕ) → 1 ≤ n → n < 2 ^ b → 1 ≤ b
digits_some zero n some below = absurd (omega arith)
digits_some (suc b) n some below = omega arith

-- A size takes a byte for each seven digits of the next number.
pub least_size_width-digits : (v b : ℕ) → v < all_ones 8 → v + 1 < 2 ^ b → 2 ^ b ≤ 2 * (v + 1) + 1 → least_size_width v ≡ div_ceil b 7
unfolding least_size_width
least_size_width-digits v b small below digits =
    let some = digits_some b (v + 1) (omega arith) below in
    let most = digits_most 56 b (v + 1) (omega arith) digits in
    let enough : 2 ^ b ≤ 2 ^ (7 * div_ceil b 7) = pow_mono (omega arith) in
    least_width-is (λ w. nat_lt v (all_ones w)) (div_ceil b 7) (omega arith) (omega arith) (lt-ltb _ _ (omega arith))
    (λ k one less. let reached = pow_reached (7 * k) b (v + 1) (omega arith) digits in le-ltb _ _ (omega arith))

-- An unsigned number takes a byte for each eight digits, and zero takes one.
pub uint_width-digits : (v b : ℕ) → v < 2 ^ 64 → max v 1 < 2 ^ b → 2 ^ b ≤ 2 * max v 1 + 1 → uint_width v ≡ div_ceil b 8
unfolding uint_width
uint_width-digits v b small below digits =
    let some = digits_some b (max v 1) (omega arith) below in
    let most = digits_most 64 b (max v 1) (omega arith) digits in
    let enough : 2 ^ b ≤ 2 ^ (8 * div_ceil b 8) = pow_mono (omega arith) in
    let octets = pow256 (div_ceil b 8) in
    least_width-is (λ w. nat_lt v (256 ^ w)) (div_ceil b 8) (omega arith) (omega arith) (lt-ltb _ _ (omega arith))
    (λ k one less.
    let reached = pow_reached (8 * k) b (max v 1) (omega arith) digits in
    let two : 2 ^ 1 ≤ 2 ^ (8 * k) = pow_mono {i = 1} (omega arith) in
    le-ltb _ _ (omega (arith, pow256 k)))

-- A signed number takes a byte for each eight digits, including the sign.
pub int_width-digits : (z : ℤ) (b : ℕ) → magnitude z < 2 ^ 63 → magnitude z < 2 ^ b → 2 ^ b ≤ 2 * magnitude z + 1 → int_width z ≡ b / 8 + 1
unfolding int_width
int_width-digits z b small below digits =
    let most = digits_most 63 b (magnitude z) small digits in
    let enough : 2 ^ b ≤ 2 ^ (8 * (b / 8 + 1) - 1) = pow_mono (omega arith) in
    least_width-is (int_fits z) (b / 8 + 1) (omega arith) (omega arith) (lt-ltb _ _ (omega arith))
    (λ k one less. let reached = pow_reached (8 * k - 1) b (magnitude z) (omega arith) digits in le-ltb _ _ (omega arith))
