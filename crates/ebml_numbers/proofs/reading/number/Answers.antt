-- The bytes are below 256, and a right shift of a word gives its first bytes.
use Rattle.std.proofs.Common.{sym, arith}
use Rattle.byteorder.specs.Numbers.{big_from-lt}
use Rattle.ebml_numbers.specs.Number.{AreOctets}
use Rattle.ebml_numbers.proofs.NumberLemmas.{big_number_of_word}
use Rattle.ebml_numbers.proofs.reading.number.Goals as goal

pub returns-then-bytes-lt8-clause-fits : goal.returns-then-bytes-lt8-clause-fits
returns-then-bytes-lt8-clause-fits c =
    let octets : AreOctets c.args.bytes.now = λ i. omega (arith, c.type_inv.bytes i) in
    let width = c.from.ensures in
    rw (c.read_uint.ensures, c.from.ensures) (big_from-lt 0 c.args.width c.args.bytes.now octets)

pub returns-else-bytes-lt8-clause-value : goal.returns-else-bytes-lt8-clause-value
returns-else-bytes-lt8-clause-value c =
    let octets : AreOctets c.args.bytes.now = λ i. omega (arith, c.type_inv.bytes i) in
    rw c.read_u64.ensures (sym (big_number_of_word c.args.width c.args.bytes.now octets c.requires.most))

pub returns-else-bytes-lt8-clause-fits : goal.returns-else-bytes-lt8-clause-fits
returns-else-bytes-lt8-clause-fits c =
    let octets : AreOctets c.args.bytes.now = λ i. omega (arith, c.type_inv.bytes i) in
    rw (c.read_u64.ensures) (rw (← big_number_of_word c.args.width c.args.bytes.now octets c.requires.most) (big_from-lt 0 c.args.width c.args.bytes.now octets))
