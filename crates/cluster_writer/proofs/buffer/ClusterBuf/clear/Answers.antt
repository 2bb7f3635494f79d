use Rattle.std.proofs.Common.{refl, arith}
use Rattle.cluster_writer.proofs.BufferLemmas.{cleared-length, cleared-drop, empty-is}
use Rattle.cluster_writer.proofs.buffer.ClusterBuf.clear.Goals as goal

pub invariant_of-self : goal.invariant_of-self
invariant_of-self c =
    let octets = c.self.inside.octets.items in
    let len = cleared-length octets c.truncate.new.self.items c.self.invariant.front c.truncate.ensures.items in
    let none = cleared-drop octets c.truncate.new.self.items c.self.invariant.front c.truncate.ensures.items in
    record { front = omega (arith, len); timestamp = tt; empty = (refl, none); small = tt; most = omega (arith, len) }

pub returns-clause-empty : goal.returns-clause-empty
returns-clause-empty c =
    empty-is c.self.inside.limits _ _ (cleared-drop c.self.inside.octets.items c.truncate.new.self.items c.self.invariant.front c.truncate.ensures.items)
