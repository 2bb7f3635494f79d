-- The last bytes of the number, in a width that it fits, are its two's complement.
use Rattle.std.proofs.Common.{◌≡◌, ◌∙◌, ap, to_z, of_z, w64}
use Rattle.std.proofs.lemmas.Int.{to_z-of_z}
use Rattle.byteorder.specs.Endian.{big_bytes}
use Rattle.ebml_numbers.specs.Number.{int_octets_in}
use Rattle.ebml_numbers.proofs.NumberLemmas.{int_of-octets}
use Rattle.ebml_numbers.proofs.SignLemmas.{low_bytes-octets, magnitude-lt}
use Rattle.ebml_numbers.proofs.writing.put_int.Goals as goal

pub returns-clause-exact : goal.returns-clause-exact
returns-clause-exact c =
    let passed : to_z w64 (of_z w64 c.args.value) ≡ c.args.value = to_z-of_z _ _ c.ranges.value in
    let width = rw passed at c.int_width-width.ensures in
    let low = rw passed at c.low_octets.ensures.value in
    let octets = low_bytes-octets c.int_width-width.result c.args.value width.least.some width.least.most width.least.fits in
    c.big_endian.ensures.octets ∙ ap (big_bytes c.int_width-width.result) low ∙ octets ∙ ap (λ w. int_octets_in w c.args.value) width.exact

pub returns-clause-read : goal.returns-clause-read
returns-clause-read c = rw (returns-clause-exact c) (int_of-octets c.args.value (magnitude-lt c.args.value c.ranges.value))
