use Rattle.std.proofs.Common.{arith, refl, slice_index}
use Rattle.cluster_writer.proofs.FramesLemmas.{Goes-room}
use Rattle.cluster_writer.proofs.lace.add_each.Goals as goal

pub add-requires : goal.add-requires
add-requires c =
    let room = Goes-room c.args.prefix.now c.args.body.now c.args.sizes.now c.loop-size.rest.now c.loop-size.out.items c.args.out.now.items c.loop-size.size-index (slice_index c.args.sizes.now c.loop-size.size-index) c.loop-size.invariant.goes c.loop-size-test.true refl in
    omega (arith, c.requires.room, room)

pub add-requires-in-loop-size : goal.add-requires-in-loop-size
add-requires-in-loop-size c =
    let room = Goes-room c.args.prefix.now c.args.body.now c.args.sizes.now c.loop-size.rest.now c.loop-size.out.items c.args.out.now.items c.loop-size.size-index (slice_index c.args.sizes.now c.loop-size.size-index) c.loop-size.invariant.goes c.loop-size-test.true refl in
    omega (arith, c.requires.room, room, c.split_at.ensures.front_len, c.add.ensures.len)
