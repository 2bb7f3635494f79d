-- The width follows from the digits of the number, or of 1.
use Rattle.std.proofs.Common.{◌≡◌, ◌∙◌, sym, arith}
use Rattle.ebml_numbers.specs.Number.{uint_width}
use Rattle.ebml_numbers.proofs.WidthLemmas.{uint_width-digits, uint_width-IsLeast}
use Rattle.ebml_numbers.proofs.writing.uint_width.Goals as goal

pub returns-clause-exact : goal.returns-clause-exact
returns-clause-exact c =
    let below = rw c.max.ensures at c.digits.ensures.below in
    let reaches = rw c.max.ensures at c.digits.ensures.reaches in
    c.div_ceil.ensures ∙ sym (uint_width-digits c.args.value c.digits.result (omega arith) below reaches)

pub returns-clause-least : goal.returns-clause-least
returns-clause-least c =
    let exact : c.div_ceil.result ≡ uint_width c.args.value = returns-clause-exact c in
    rw exact (uint_width-IsLeast c.args.value (omega arith))
