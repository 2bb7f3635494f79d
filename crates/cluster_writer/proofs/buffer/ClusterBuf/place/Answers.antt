use Rattle.std.proofs.Common.{length, ap, arith}
use Rattle.std.proofs.lemmas.List.{length-drop}
use Rattle.cluster_writer.specs.declared.front.TheConstants.{FRONT}
use Rattle.cluster_writer.specs.Gathered.{Gathered}
use Rattle.cluster_writer.proofs.buffer.ClusterBuf.place.Goals as goal

pub returns-clause-exact : goal.returns-clause-exact
returns-clause-exact c =
    let elements = ap length (ap (λ (g : Gathered). g.elements) c.self.view_is) in
    omega (arith, c.timestamp_len_at.ensures.exact, elements, length-drop FRONT c.self.inside.octets.items)
