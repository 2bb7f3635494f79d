-- Digits read one by one.
use Rattle.std.proofs.Common.{ℕ, ◌+◌, ◌*◌, ◌^◌, ◌<◌, ◌≤◌, cond, List, Option, Some, None, arith}
use Rattle.std.proofs.Math.Nat.{pow-le-pow_right}
use Rattle.std.proofs.lemmas.Str.{IsUtf8-from_is_utf8, is_utf8-from_IsUtf8}
use Rattle.std.specs.List.{list_all}
use Rattle.std.specs.Char.{is_ascii_digit}
use Rattle.std.specs.Str.Parse.{digits_value_after}

pub ruleset texts = (IsUtf8-from_is_utf8, is_utf8-from_IsUtf8)

-- the value of the digits `ds` after digits with value `n`
abbrev pub read_on : ℕ → List ℕ → Option ℕ
read_on n ds = cond (list_all is_ascii_digit ds) (Some (digits_value_after 10 n ds)) None

-- A number of at most eighteen digits is below 10 ^ 18.
pub eighteen_digits : (v i : ℕ) → v < 10 ^ i → i ≤ 18 → v < 10 ^ 18
eighteen_digits v i small short =
    let positive : 0 < 10 = omega arith in
    let most : 10 ^ i ≤ 10 ^ 18 = pow-le-pow_right positive {i = i} {j = 18} short in
    omega (arith, most)

-- A number of at most `most` digits is below 10 ^ `most`.
pub most_digits : (v i most : ℕ) → v < 10 ^ i → i ≤ most → v < 10 ^ most
most_digits v i most small short =
    let positive : 0 < 10 = omega arith in
    let more : 10 ^ i ≤ 10 ^ most = pow-le-pow_right positive {i = i} {j = most} short in
    omega (arith, more)
