use Rattle.std.proofs.Common.{◌≡◌, slice_index, ap, arith}
use Rattle.block_reader.proofs.front.laced_count.Goals as goal

-- The count begins the bytes.
pub overflow_add-count : goal.overflow_add-count
overflow_add-count c =
    let first : slice_index c.args.front.now 0 ≡ c.in_ok-less_one.field-0-0.now = ap (λ o. slice_index o 0) c.in_ok-less_one.ensures.cases.0 in
    omega (arith, c.type_inv.front 0, c.from-count.ensures)

pub returns-then-is_settled-clause-few : goal.returns-then-is_settled-clause-few
returns-then-is_settled-clause-few c =
    let first : slice_index c.args.front.now 0 ≡ c.in_ok-less_one.field-0-0.now = ap (λ o. slice_index o 0) c.in_ok-less_one.ensures.cases.0 in
    omega (arith, c.type_inv.front 0, c.from-count.ensures)
