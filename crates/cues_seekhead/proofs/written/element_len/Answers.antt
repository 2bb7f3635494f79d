use Rattle.std.proofs.Common.{arith}
use Rattle.ebml_numbers.proofs.NumberLemmas.{is_id-bounds}
use Rattle.tree_format.proofs.WrittenLemmas.{length-header_octets}
use Rattle.cues_seekhead.proofs.written.element_len.Goals as goal

pub returns-clause-exact : goal.returns-clause-exact
returns-clause-exact c = omega (arith, length-header_octets c.args.id c.args.len)

pub returns-clause-most : goal.returns-clause-most
returns-clause-most c = omega (arith, (is_id-bounds c.args.id c.requires.id).1)

pub returns-clause-short : goal.returns-clause-short
returns-clause-short c = λ short.
    let one = c.size_width.ensures.least.least 1 (omega arith) (omega arith) in
    omega (arith, one, (is_id-bounds c.args.id c.requires.id).1)
