-- A written number is read back.
use Rattle.std.proofs.Common.{◌∙◌, ap, arith}
use Rattle.byteorder.specs.Endian.{big_bytes}
use Rattle.ebml_numbers.specs.Number.{uint_of}
use Rattle.ebml_numbers.proofs.NumberLemmas.{uint_of-octets}
use Rattle.ebml_numbers.proofs.writing.put_uint.Goals as goal

pub returns-clause-read : goal.returns-clause-read
returns-clause-read c =
    ap uint_of (c.big_endian.ensures.octets ∙ ap (λ w. big_bytes w c.args.value) c.uint_width.ensures.exact) ∙ uint_of-octets c.args.value (omega arith)
