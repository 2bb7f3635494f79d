-- The bias of eight bytes is the greatest.
use Rattle.std.proofs.Common.{◌-◌, ◌*◌, ◌^◌, ◌≤◌, arith}
use Rattle.std.proofs.Math.Pow.{pow_mono}
use Rattle.std.proofs.lemmas.Nat.{shl_whole}
use Rattle.lacing.proofs.difference.bias.Goals as goal

pub returns-clause-small : goal.returns-clause-small
returns-clause-small c =
    let most : 2 ^ (7 * c.args.len - 1) ≤ 2 ^ 55 = pow_mono {j = 55} (omega arith) in
    rw (shl_whole 1 1 (7 * c.args.len - 1) 64 (omega arith) (omega arith)) (omega arith)
