-- A turn counts the bytes of one size.
use Rattle.std.proofs.Common.{◌≡◌, ◌+◌, length, drop, slice_index, None, Some, ap, refl, arith}
use Rattle.std.proofs.lemmas.List.{length-append}
use Rattle.lacing.specs.Writing.{octets_of_size, octets_of_sizes}
use Rattle.lacing.proofs.WritingLemmas.{octets_of_sizes-more, octets_of_sizes-end}
use Rattle.lacing.proofs.writing.spelled_len.Goals as goal

turn : (c : goal.After-size_len-len) → c.loop-size.len + c.size_len-len.result + length (octets_of_sizes c.args.kind (Some (slice_index c.args.sizes.now c.loop-size.size-index)) (drop (c.loop-size.size-index + 1) c.args.sizes.now)) ≡ length (octets_of_sizes c.args.kind None c.args.sizes.now)
turn c =
    let size = slice_index c.args.sizes.now c.loop-size.size-index in
    let more = octets_of_sizes-more c.args.kind c.loop-size.before c.args.sizes.now c.loop-size.size-index size c.loop-size-test.true refl in
    let len = length-append (octets_of_size c.args.kind c.loop-size.before size) (octets_of_sizes c.args.kind (Some size) (drop (c.loop-size.size-index + 1) c.args.sizes.now)) in
    omega (arith, c.loop-size.invariant, ap length more, c.size_len-len.ensures)

pub overflow_add-len : goal.overflow_add-len
overflow_add-len c = omega (arith, turn c, c.requires)

pub loop-size-preserved : goal.loop-size-preserved
loop-size-preserved c = turn c

pub returns : goal.returns
returns c =
    let end = octets_of_sizes-end c.args.kind c.loop-size.before c.args.sizes.now c.loop-size.size-index c.loop-size-test.false in
    omega (arith, c.loop-size.invariant, ap length end)
