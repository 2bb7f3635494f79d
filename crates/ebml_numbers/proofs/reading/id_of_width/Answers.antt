-- Four bytes are 32 bits.
use Rattle.std.proofs.Common.{◌^◌, ◌≤◌, arith}
use Rattle.std.proofs.Math.Nat.{pow-le-pow_right}
use Rattle.ebml_numbers.proofs.reading.id_of_width.Goals as goal

pub overflow_cast-result : goal.overflow_cast-result
overflow_cast-result c =
    let most : 256 ^ c.args.width ≤ 256 ^ 4 = pow-le-pow_right {n = 256} (omega arith) {j = 4} (omega arith) in
    omega (arith, c.number-id.ensures.fits)
