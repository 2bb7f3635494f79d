-- The digits of a number follow the leading zeros of its 64 bits.
use Rattle.std.proofs.Common.{arith}
use Rattle.ebml_numbers.proofs.WidthLemmas.{leading_zeros-digits}
use Rattle.ebml_numbers.proofs.writing.digits.Goals as goal

pub returns-clause-below : goal.returns-clause-below
returns-clause-below c = (leading_zeros-digits c.args.value (omega arith)).0

pub returns-clause-reaches : goal.returns-clause-reaches
returns-clause-reaches c = (leading_zeros-digits c.args.value (omega arith)).1
