-- The width follows from the digits of the next number.
use Rattle.std.proofs.Common.{◌≡◌, ◌∙◌, sym}
use Rattle.ebml_numbers.specs.Number.{least_size_width}
use Rattle.ebml_numbers.proofs.WidthLemmas.{least_size_width-digits, least_size_width-IsLeast}
use Rattle.ebml_numbers.proofs.writing.size_width.Goals as goal

pub returns-clause-exact : goal.returns-clause-exact
returns-clause-exact c =
    c.div_ceil.ensures ∙ sym (least_size_width-digits c.args.value c.digits.result c.requires c.digits.ensures.below c.digits.ensures.reaches)

pub returns-clause-least : goal.returns-clause-least
returns-clause-least c =
    let exact : c.div_ceil.result ≡ least_size_width c.args.value = returns-clause-exact c in
    rw exact (least_size_width-IsLeast c.args.value c.requires)
