-- The width follows from the digits of the number without its sign.
use Rattle.std.proofs.Common.{◌≡◌, ◌+◌, ◌/◌, sym, to_z, of_z, w64}
use Rattle.std.proofs.lemmas.Int.{to_z-of_z}
use Rattle.ebml_numbers.specs.Number.{magnitude, int_width}
use Rattle.ebml_numbers.proofs.WidthLemmas.{int_width-digits, int_width-IsLeast}
use Rattle.ebml_numbers.proofs.writing.int_width.Goals as goal

pub returns-clause-exact : goal.returns-clause-exact
returns-clause-exact c =
    let passed : to_z w64 (of_z w64 c.args.value) ≡ c.args.value = to_z-of_z _ _ c.ranges.value in
    let is : c.magnitude.result ≡ magnitude c.args.value = rw passed at c.magnitude.ensures.value in
    sym (int_width-digits c.args.value c.digits.result (rw (← is) c.magnitude.ensures.fits) (rw (← is) c.digits.ensures.below) (rw (← is) c.digits.ensures.reaches))

pub returns-clause-least : goal.returns-clause-least
returns-clause-least c =
    let passed : to_z w64 (of_z w64 c.args.value) ≡ c.args.value = to_z-of_z _ _ c.ranges.value in
    let is : c.magnitude.result ≡ magnitude c.args.value = rw passed at c.magnitude.ensures.value in
    let exact : c.digits.result / 8 + 1 ≡ int_width c.args.value = returns-clause-exact c in
    rw exact (int_width-IsLeast c.args.value (rw (← is) c.magnitude.ensures.fits))
