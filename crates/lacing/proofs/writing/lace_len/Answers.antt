use Rattle.std.proofs.Common.{arith}
use Rattle.lacing.proofs.WritingLemmas.{length-lace_head}
use Rattle.lacing.proofs.writing.lace_len.Goals as goal

pub spelled_len-requires : goal.spelled_len-requires
spelled_len-requires c =
    let most = length-lace_head c.args.kind c.args.sizes.now c.requires in
    rw c.explicit_sizes.ensures (omega arith)

pub returns-clause-most : goal.returns-clause-most
returns-clause-most c =
    let most = length-lace_head c.args.kind c.args.sizes.now c.requires in
    rw (c.spelled_len.ensures, c.explicit_sizes.ensures) most
