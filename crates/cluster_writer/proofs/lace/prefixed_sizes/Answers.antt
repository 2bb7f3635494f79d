use Rattle.std.proofs.Common.{slice_index, refl, arith}
use Rattle.cluster_writer.proofs.FramesLemmas.{prefixed-within}
use Rattle.cluster_writer.proofs.lace.prefixed_sizes.Goals as goal

pub overflow_add-prefix : goal.overflow_add-prefix
overflow_add-prefix c =
    let sizes = c.args.sizes.now in
    let i = c.loop-size.size-index in
    omega (arith, c.requires.total, prefixed-within c.args.prefix sizes i (slice_index sizes i) c.loop-size-test.true refl)
