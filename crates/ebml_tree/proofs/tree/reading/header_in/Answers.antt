-- The header that was read is the definition's, so it is at the place of the definition.
use Rattle.std.proofs.Common.{sym, arith}
use Rattle.ebml_numbers.specs.Number.{AreOctets}
use Rattle.tree_format.proofs.ReadingLemmas.{header_at-fits, header_at-id, header_at-known}
use Rattle.ebml_tree.proofs.tree.reading.header_in.Goals as goal

pub unreachable-requires : goal.unreachable-requires
unreachable-requires c = header_at-known c.args.parent c.args.at c.args.rest.now c.in_ok-header.header (sym c.in_ok-header.ensures) c.in-Unknown.is

pub returns-clause-fits : goal.returns-clause-fits
returns-clause-fits c = header_at-fits c.args.parent c.args.at c.args.rest.now c.in_ok-header.header (sym c.in_ok-header.ensures)

pub returns-clause-id : goal.returns-clause-id
returns-clause-id c =
    let octets : AreOctets c.args.rest.now = λ i. omega (arith, c.type_inv.rest i) in
    header_at-id c.args.parent c.args.at c.args.rest.now c.in_ok-header.header octets (sym c.in_ok-header.ensures)
