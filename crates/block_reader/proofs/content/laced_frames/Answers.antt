use Rattle.std.proofs.Common.{◌≡◌, slice_index, ap, arith}
use Rattle.block_reader.proofs.content.laced_frames.Goals as goal

-- The count begins the bytes.
pub overflow_add-from : goal.overflow_add-from
overflow_add-from c =
    let first : slice_index c.args.octets.now 0 ≡ c.in-Some.field-0-0.now = ap (λ o. slice_index o 0) c.in-Some.ensures.cases.0 in
    omega (arith, c.type_inv.octets 0, c.from.ensures)
