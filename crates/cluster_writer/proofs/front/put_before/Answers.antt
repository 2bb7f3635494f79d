use Rattle.std.proofs.Common.{◌≡◌, ◌-◌, length, ap, arith}
use Rattle.std.proofs.lemmas.Slice.{drop-put_mid}
use Rattle.cluster_writer.proofs.front.put_before.Goals as goal

pub returns-clause-same : goal.returns-clause-same
returns-clause-same c = λ k past.
    let written : length c.copy_from_slice.new.self ≡ c.args.at - (c.args.at - length c.args.part.now) = omega (arith, ap length c.copy_from_slice.ensures.after) in
    drop-put_mid (c.args.at - length c.args.part.now) (c.args.at - (c.args.at - length c.args.part.now)) c.args.octets.now c.copy_from_slice.new.self k (omega arith) (omega arith) written
