-- 32 hexadecimal digits fit.
use Rattle.std.proofs.Common.{arith, ◌<◌}
use Rattle.std.proofs.lemmas.Grind.{common_steps}
use Rattle.word_values.proofs.NumbersLemmas.{hex_fits}
use Rattle.word_values.proofs.numbers.uuid.Goals as goal

pub overflow_mul-value : goal.overflow_mul-value
overflow_mul-value c =
    omega (arith, hex_fits c.loop-octet.value c.loop-octet.octet-index 0 c.loop-octet.invariant.small (omega arith) (omega arith))

pub overflow_add-value : goal.overflow_add-value
overflow_add-value c =
    let digit : c.from-in-loop-octet.result < 16 = grind (arith, common_steps) in
    omega (arith, hex_fits c.loop-octet.value c.loop-octet.octet-index c.from-in-loop-octet.result c.loop-octet.invariant.small (omega arith) digit)
