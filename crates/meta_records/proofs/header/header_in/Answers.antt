-- The header is valid at this offset.
use Rattle.std.proofs.Common.{sym, arith}
use Rattle.ebml_numbers.specs.Number.{AreOctets}
use Rattle.meta_records.proofs.HeaderLemmas.{IsChild-found}
use Rattle.meta_records.proofs.header.header_in.Goals as goal

pub returns-clause-child : goal.returns-clause-child
returns-clause-child c =
    let octets : AreOctets c.args.octets.now = λ i. omega (arith, c.type_inv.octets i) in
    IsChild-found c.args.octets.now c.args.total c.args.at c.args.end c.in_ok-header.header octets c.requires.inside (sym c.in_ok-header.ensures.exact)
