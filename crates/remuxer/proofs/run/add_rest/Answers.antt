use Rattle.std.proofs.Common.{sym, subst, ◌∙◌}
use Rattle.std.proofs.lemmas.Result.{err_from_is_err_and}
use Rattle.cues_seekhead.specs.OpenOutput.{OpenOutput, IsOpen}
use Rattle.remuxer.specs.Stands.{HasAll}
use Rattle.remuxer.proofs.StandsLemmas.{all-stand, all-written, empty-octets, rest-drafted}
use Rattle.remuxer.proofs.run.add_rest.Goals as goal

-- A prefix of the Cluster was written.
pub returns-in_err-cluster-clause-ends : goal.returns-in_err-cluster-clause-ends
returns-in_err-cluster-clause-ends g c =
    let p = err_from_is_err_and c.from_residual.result c.from_residual.ensures.1 in
    rw p.1 (λ before name rules d n stands.
    rest-drafted g.F.Reads g.F.Files before name rules d c.args.files.now c.args.out.now c.args.buffer.now c.octets-octets.result.now n stands c.octets-octets.ensures.exact c.cluster.new.files c.in_err-cluster.ensures.appended)

-- The Cluster was written.
pub returns-in_ok-cluster-clause-ends : goal.returns-in_ok-cluster-clause-ends
returns-in_ok-cluster-clause-ends g c = λ before name rules d n stands points.
    let is = c.in_ok-cluster.ensures.ok in
    let P : OpenOutput → Type 0 = λ o. HasAll g.F.Reads g.F.Files before name d c.cluster.new.files o n in
    let Q : OpenOutput → Type 0 = λ o. IsOpen g.F.Reads c.cluster.new.files o in
    subst P (sym is)
    (all-written g.F.Reads g.F.Files before name rules d c.args.files.now c.args.out.now c.args.buffer.now c.octets-octets.result.now n stands c.octets-octets.ensures.exact c.cluster.new.files points
    c.in_ok-cluster.ensures.appended (c.cluster.ensures.only.kept.holders c.args.out.now.file.n c.requires.live) (subst Q is c.in_ok-cluster.ensures.open))

-- There is no Cluster.
pub returns-else-not-is_empty-clause-ends : goal.returns-else-not-is_empty-clause-ends
returns-else-not-is_empty-clause-ends g c = λ before name rules d n stands points.
    all-stand g.F.Reads g.F.Files before name rules d c.args.files.now c.args.out.now c.args.buffer.now c.octets-octets.result.now n stands c.octets-octets.ensures.exact points
    (empty-octets c.octets-octets.result.now (sym c.is_empty.ensures ∙ c.if-not-is_empty.false))
