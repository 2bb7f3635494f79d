use Rattle.std.proofs.Common.{◌≡◌, ◌∙◌, rules}
use Rattle.cluster_writer.specs.Gathered.{has_place}
use Rattle.cluster_writer.proofs.BufferLemmas.{joins-held}
use Rattle.cluster_writer.proofs.buffer.ClusterBuf.fits.Goals as goal

pub returns-in-Some-clause-joins : goal.returns-in-Some-clause-joins
returns-in-Some-clause-joins c =
    let exact : c.may_have.result ≡ has_place c.args.self.now c.args.tick c.args.len = search rules in
    λ k b holds tick len. exact ∙ joins-held c.args.self.now k b c.args.tick c.args.len holds tick len
