-- The result is the definition's, and each clause is a law on it.
use Rattle.std.proofs.Common.{◌∙◌, sym, arith}
use Rattle.ebml_numbers.specs.Number.{AreOctets}
use Rattle.ebml_numbers.proofs.NumberLemmas.{id_at-found, id_at-more, id_at-is_cut, id_at-four, id_at-append}
use Rattle.ebml_numbers.proofs.reading.read_id.Goals as goal

pub returns-clause-found : goal.returns-clause-found
returns-clause-found c =
    let octets : AreOctets c.args.bytes.now = λ i. omega (arith, c.type_inv.bytes i) in
    rw c.first_id.ensures (id_at-found c.args.bytes.now octets)

pub returns-clause-more : goal.returns-clause-more
returns-clause-more c = λ n.
    (λ more. id_at-more n c.args.bytes.now (sym c.first_id.ensures ∙ more), λ cut. c.first_id.ensures ∙ id_at-is_cut n c.args.bytes.now cut)

pub returns-clause-four : goal.returns-clause-four
returns-clause-four c = λ four. rw c.first_id.ensures (id_at-four c.args.bytes.now four)

pub returns-clause-settled : goal.returns-clause-settled
returns-clause-settled c = λ rest settled.
    id_at-append c.args.bytes.now rest (rw (← c.first_id.ensures) settled) ∙ sym c.first_id.ensures
