use Rattle.std.proofs.Common.{length, ap, ◌*◌, arith}
use Rattle.cluster_writer.proofs.FramesLemmas.{sum-prefixed}
use Rattle.cluster_writer.proofs.block.prefixed_total.Goals as goal

pub overflow_mul-result : goal.overflow_mul-result
overflow_mul-result c =
    let same = ap (λ n. n * length c.args.sizes.now) c.from.ensures in
    omega (arith, c.requires, same, sum-prefixed c.args.prefix c.args.sizes.now)

pub total-requires : goal.total-requires
total-requires c = omega (arith, c.requires, sum-prefixed c.args.prefix c.args.sizes.now)

pub overflow_add-result : goal.overflow_add-result
overflow_add-result c =
    let same = ap (λ n. n * length c.args.sizes.now) c.from.ensures in
    omega (arith, c.requires, same, c.total.ensures, sum-prefixed c.args.prefix c.args.sizes.now)

pub returns : goal.returns
returns c =
    let same = ap (λ n. n * length c.args.sizes.now) c.from.ensures in
    omega (arith, same, c.total.ensures, sum-prefixed c.args.prefix c.args.sizes.now)
