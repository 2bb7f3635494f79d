-- A difference and its bias are 0 or more, and not all 1.
use Rattle.std.proofs.Common.{arith}
use Rattle.lacing.proofs.WritingLemmas.{difference-lt}
use Rattle.lacing.proofs.writing.difference_octets.Goals as goal

pub overflow_sub-value : goal.overflow_sub-value
overflow_sub-value c =
    let width = c.difference_width-width.ensures in
    let fits = difference-lt c.args.before c.args.size c.difference_width-width.result width.some width.fits in
    omega (arith, fits.0, c.bias.ensures.value)

pub put_size-requires-clause-fits : goal.put_size-requires-clause-fits
put_size-requires-clause-fits c =
    let width = c.difference_width-width.ensures in
    let fits = difference-lt c.args.before c.args.size c.difference_width-width.result width.some width.fits in
    omega (arith, fits.1, c.bias.ensures.value)
