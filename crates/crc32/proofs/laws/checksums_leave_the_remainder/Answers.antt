use Rattle.std.proofs.Common.{◌≡◌, ℕ, ◌-◌, ◌^◌, ◌<◌, bit_and, bit_xor, lit<, refl, ap, ◌∙◌, arith}
use Rattle.std.proofs.lemmas.Nat.{and-not, xor_comm}
use Rattle.std.specs.Int.{w32, to_le_bytes}
use lib.Bits.{and_self, xor_disjoint}
use Rattle.crc32.specs.Checksum.{after_bytes, crc32}
use Rattle.crc32.specs.Tables.{shifts}
use Rattle.crc32.specs.Laws.{remainder}
use Rattle.crc32.proofs.RegisterLemmas.{after_bytes-append, after_bytes_below, after_four}
use Rattle.crc32.proofs.laws.checksums_leave_the_remainder.Goals as goal

-- The exclusive or of a word and its complement is all ones.
xor-complement : (n : ℕ) → n < 2 ^ 32 → bit_xor n (4294967295 - n) ≡ 4294967295
xor-complement n fits =
    let apart : bit_and (2 ^ 32 - 1 - n) n ≡ 0 = omega (arith, and-not 32 n n fits fits, and_self n) in
    xor_comm n (4294967295 - n) ∙ xor_disjoint (4294967295 - n) n apart ∙ omega arith

-- 32 shifts of all ones.
ones_shifted : shifts 32 4294967295 ≡ remainder
unfolding shifts
ones_shifted = refl

-- The checksum's bytes make the register all ones, and 32 shifts follow.
pub returns : goal.returns
unfolding crc32
returns c = λ bytes.
    let register : ℕ = after_bytes 4294967295 bytes in
    let fits : register < 2 ^ 32 = after_bytes_below 4294967295 bytes (lit< tt) in
    after_bytes-append 4294967295 bytes (to_le_bytes w32 (crc32 bytes)) ∙ after_four register (4294967295 - register) (omega arith)
    ∙ ap (shifts 32) (xor-complement register fits) ∙ ones_shifted
