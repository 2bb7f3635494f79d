use Rattle.std.proofs.Common.{arith, ◌≡◌, ◌^◌, ◌+◌, ◌*◌, ◌≤◌, true, get_or}
use Rattle.std.proofs.lemmas.Grind.{common_steps}
use Rattle.std.proofs.lemmas.Bool.Decides.{nat_tests}
use Rattle.std.specs.Char.{digit_value, is_ascii_digit}
use Rattle.requests.proofs.DecimalLemmas.{read_too_large, read_end}
use Rattle.requests.proofs.decimal.whole.Goals as goal

-- A number that is too large for its type stays too large, whatever digits follow.
pub returns-in_err-checked_mul : goal.returns-in_err-checked_mul
returns-in_err-checked_mul c =
    let n = c.loop-octet.value in let i = c.loop-octet.octet-index in let w = c.args.word.now in
    let digit : is_ascii_digit (get_or w i 0) ≡ true = grind (arith, common_steps) in
    let large : 2 ^ 64 ≤ n * 10 + digit_value (get_or w i 0) = omega (arith, c.in_err-checked_mul.ensures) in
    cc (read_too_large n i w c.loop-octet-test.true digit large)

pub returns-in_err-value : goal.returns-in_err-value
returns-in_err-value c =
    let n = c.loop-octet.value in let i = c.loop-octet.octet-index in let w = c.args.word.now in
    let digit : is_ascii_digit (get_or w i 0) ≡ true = grind (arith, common_steps) in
    let large : 2 ^ 64 ≤ n * 10 + digit_value (get_or w i 0) = grind (arith, common_steps, nat_tests) in
    cc (read_too_large n i w c.loop-octet-test.true digit large)

pub returns : goal.returns
returns c = cc (read_end c.loop-octet.value c.loop-octet.octet-index c.args.word.now c.loop-octet-test.false c.loop-octet.invariant.small)
