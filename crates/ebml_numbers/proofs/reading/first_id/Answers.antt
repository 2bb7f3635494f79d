-- A first byte of at least `10` announces at most four bytes.
use Rattle.std.proofs.Common.{arith}
use Rattle.ebml_numbers.proofs.WidthLemmas.{width-le}
use Rattle.ebml_numbers.proofs.reading.first_id.Goals as goal

pub id_of_width-requires-clause-most : goal.id_of_width-requires-clause-most
id_of_width-requires-clause-most c =
    let few = width-le 4 c.in-Some.field-0.now (omega arith) c.if-first-lt16.false in
    omega (arith, c.width_of-width.ensures)
