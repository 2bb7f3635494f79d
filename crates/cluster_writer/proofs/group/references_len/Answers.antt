use Rattle.std.proofs.Common.{pos, get_or, SFits, to_z, of_z, w64, arith, rules}
use Rattle.std.proofs.lemmas.Int.{to_z-of_z}
use Rattle.cluster_writer.proofs.BlockLemmas.{references_len-more}
use Rattle.cluster_writer.proofs.group.references_len.Goals as goal

pub loop-ticks-preserved : goal.loop-ticks-preserved
loop-ticks-preserved c =
    let rs = c.args.references.now in
    let i = c.loop-ticks.ticks-index in
    let z = get_or rs i (pos 0) in
    let fits : SFits w64 z = search rules in
    let read = to_z-of_z w64 z fits in
    let more = references_len-more rs i (to_z w64 (of_z w64 z)) c.loop-ticks-test.true read in
    record { same = omega (arith, more); few = omega arith }
