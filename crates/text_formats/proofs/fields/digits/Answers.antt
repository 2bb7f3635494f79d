use Rattle.std.proofs.Common.{◌<◌, ◌^◌, arith}
use Rattle.text_formats.proofs.FieldsLemmas.{eighteen_digits, most_digits}
use Rattle.text_formats.proofs.fields.digits.Goals as goal

pub overflow_mul-value : goal.overflow_mul-value
overflow_mul-value c =
    let v = c.loop-octet.value in
    let small : v < 10 ^ 18 = eighteen_digits v c.loop-octet.octet-index c.loop-octet.invariant.small (omega arith) in
    omega arith

pub overflow_add-value : goal.overflow_add-value
overflow_add-value c =
    let v = c.loop-octet.value in
    let small : v < 10 ^ 18 = eighteen_digits v c.loop-octet.octet-index c.loop-octet.invariant.small (omega arith) in
    omega arith

pub returns-clause-small : goal.returns-clause-small
returns-clause-small c =
    most_digits c.loop-octet.value c.loop-octet.octet-index c.args.most c.loop-octet.invariant.small (omega arith)
