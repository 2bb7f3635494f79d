use Rattle.std.proofs.Common.{◌≡◌, ℕ, ◌+◌, ◌-◌, ◌*◌, ◌/◌, ◌%◌, ◌^◌, ◌<◌, bit_xor, ap, sym, ◌∙◌, subst, arith}
use Rattle.std.proofs.lemmas.Nat.{shr_below}
use lib.Bits.{xor_zero_r}
use Rattle.crc32.specs.Tables.{shifts}
use Rattle.crc32.proofs.ShiftLemmas.{one_more_byte, shifts-zero}
use Rattle.crc32.proofs.checksum.after_word.Goals as goal

pub bytes-preserved : goal.bytes-preserved
bytes-preserved c =
    let left = c.bytes.left in
    let n : ℕ = 8 * (c.args.later + 7 - c.bytes.place) in
    let next : 8 * (c.args.later + 8 - (c.bytes.place + 1)) ≡ n = omega arith in
    let here : 8 * (c.args.later + 8 - 1 - c.bytes.place + 1) ≡ n + 8 = omega arith in
    let last : 8 * (c.args.later + 8 - c.bytes.place) ≡ n + 8 = omega arith in
    let looked : c.word-after.result ≡ shifts (n + 8) (left % 256) = c.word-after.ensures ∙ ap (λ (k : ℕ). shifts k (left % 256)) here in
    let j : ℕ = 64 - 8 * (c.bytes.place + 1) in
    let width : 64 - 8 * c.bytes.place ≡ j + 8 = omega arith in
    let below : left < 2 ^ (j + 8) = subst (λ (k : ℕ). left < 2 ^ k) width c.bytes.invariant.1 in (
      ap (λ (k : ℕ). bit_xor (bit_xor c.bytes.after c.word-after.result) (shifts k (left / 256))) next
          ∙ one_more_byte c.bytes.after c.word-after.result left n looked
          ∙ sym (ap (λ (k : ℕ). bit_xor c.bytes.after (shifts k left)) last) ∙ c.bytes.invariant.0,
      shr_below left j 8 below,
    )

-- No byte is left after the last.
pub returns : goal.returns
returns c =
    let end : c.bytes.place ≡ 8 = omega arith in
    let width : 64 - 8 * c.bytes.place ≡ 0 = omega arith in
    let below : c.bytes.left < 1 = subst (λ (k : ℕ). c.bytes.left < 2 ^ k) width c.bytes.invariant.1 in
    let none : c.bytes.left ≡ 0 = omega arith in
    let zeros : shifts (8 * (c.args.later + 8 - c.bytes.place)) c.bytes.left ≡ 0 = rw none (shifts-zero (8 * (c.args.later + 8 - c.bytes.place))) in
    sym (xor_zero_r c.bytes.after) ∙ ap (bit_xor c.bytes.after) (sym zeros) ∙ c.bytes.invariant.0
