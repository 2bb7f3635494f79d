use Rattle.std.proofs.Common.{pos, get_or, SFits, to_z, of_z, w64, arith, rules}
use Rattle.std.proofs.lemmas.Int.{to_z-of_z}
use Rattle.cluster_writer.proofs.BlockLemmas.{references-next, references-room}
use Rattle.cluster_writer.proofs.group.add_references.Goals as goal

pub add_reference-requires : goal.add_reference-requires
add_reference-requires c =
    let rs = c.args.references.now in
    let i = c.loop-ticks.ticks-index in
    let z = get_or rs i (pos 0) in
    let fits : SFits w64 z = search rules in
    let room = references-room rs i (to_z w64 (of_z w64 z)) c.loop-ticks.out.items c.args.out.now.items c.loop-ticks-test.true (to_z-of_z w64 z fits) c.loop-ticks.invariant.same in
    omega (arith, room, c.requires)

pub loop-ticks-preserved : goal.loop-ticks-preserved
loop-ticks-preserved c =
    let rs = c.args.references.now in
    let i = c.loop-ticks.ticks-index in
    let z = get_or rs i (pos 0) in
    let fits : SFits w64 z = search rules in
    record {
      same = references-next rs i (to_z w64 (of_z w64 z)) c.loop-ticks.out.items _ _ c.loop-ticks-test.true (to_z-of_z w64 z fits) c.loop-ticks.invariant.same c.add_reference.ensures.items;
      capacity = omega (arith, c.add_reference.ensures.capacity, c.loop-ticks.invariant.capacity);
    }
