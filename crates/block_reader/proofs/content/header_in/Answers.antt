use Rattle.std.proofs.Common.{◌+◌, ℤ, Some, SFits, w64, slice_index, sym, ◌∙◌, ap, arith, rules}
use Rattle.std.proofs.lemmas.Int.{to_z-of_z}
use Rattle.block_reader.proofs.ContentLemmas.{header_in-cut, header_in-short, header_in-found}
use Rattle.block_reader.proofs.content.header_in.Goals as goal

pub returns-in_default : goal.returns-in_default
returns-in_default c = sym (header_in-cut c.args.octets.now c.in_default.field-0 (sym c.read_size.ensures.exact ∙ c.in_default.is))

pub returns-then-octets-width : goal.returns-then-octets-width
returns-then-octets-width c =
    let len = c.from-width.ensures in
    let short = c.if-octets-width.true in
    sym (header_in-short c.args.octets.now c.in-Ok.number (sym c.in-Ok.ensures.exact) (omega arith))

-- The time is the number that was read.
pub returns : goal.returns
returns c =
    let o = c.args.octets.now in
    let w = c.from-width.result in
    let fits : SFits w64 c.read_int.result = search rules in
    ap (λ (z : ℤ). Some (record { track = c.data_of.result; relative = z; flags = slice_index o (w + 2); len = w + 3 })) (to_z-of_z w64 c.read_int.result fits)
    ∙ sym (header_in-found o c.in-Ok.number w c.data_of.result c.read_int.result (sym c.in-Ok.ensures.exact) c.from-width.ensures c.if-octets-width.false c.data_of.ensures c.read_int.ensures.exact)
