use Rattle.std.proofs.Common.{◌∷◌, refl, sym, ap, subst, ◌∙◌}
use Rattle.std.proofs.lemmas.Result.{err_from_is_err_and}
use Rattle.cues_seekhead.specs.OpenOutput.{OpenOutput, IsOpen}
use Rattle.cluster_writer.specs.Gathered.{Gathered}
use Rattle.cluster_writer.specs.Lent.{block_of}
use Rattle.remuxer.specs.Stands.{Stands}
use Rattle.remuxer.proofs.StandsLemmas.{broken-drafted, stands-broken}
use Rattle.remuxer.proofs.run.make_room.Goals as goal

-- A prefix of the Cluster was written.
pub returns-in_err-cluster-clause-makes : goal.returns-in_err-cluster-clause-makes
returns-in_err-cluster-clause-makes g c =
    let p = err_from_is_err_and c.from_residual.result c.from_residual.ensures.1 in
    let b = block_of c.args.block.now in
    rw p.1 (λ before name rules d n left stands.
    broken-drafted g.F.Reads g.F.Files before name rules d c.args.files.now c.cluster.new.files c.args.out.now c.args.buffer.now c.args.buffer.now c.octets.result.now b n left stands
    (λ cl holds. sym (c.fits.ensures.joins cl b holds refl (sym c.requires.len)) ∙ c.if-not-fits.true) c.octets.ensures.cluster c.in_err-cluster.ensures.appended)

-- The Cluster was written.
pub returns-in_ok-cluster-clause-makes : goal.returns-in_ok-cluster-clause-makes
returns-in_ok-cluster-clause-makes g c = λ before name rules d n left stands.
    let b = block_of c.args.block.now in
    let bytes = c.octets.result.now in
    let is = c.in_ok-cluster.ensures.ok in
    let P : OpenOutput → Type 0 = λ o. Stands g.F.Reads g.F.Files before name rules d c.cluster.new.files o c.clear.new.self n (b ∷ left) in
    let Q : OpenOutput → Type 0 = λ o. IsOpen g.F.Reads c.cluster.new.files o in
    subst P (sym is)
    (stands-broken g.F.Reads g.F.Files before name rules d c.args.files.now c.cluster.new.files c.args.out.now c.args.buffer.now c.clear.new.self bytes b n left stands
    (λ cl holds. sym (c.fits.ensures.joins cl b holds refl (sym c.requires.len)) ∙ c.if-not-fits.true) c.octets.ensures.cluster c.in_ok-cluster.ensures.appended
    (c.cluster.ensures.only.kept.holders c.args.out.now.file.n c.requires.open.live) (subst Q is c.in_ok-cluster.ensures.open) c.clear.ensures.empty
    (c.clear.ensures.limits ∙ ap (λ (g : Gathered). g.limits) c.octets.follows.holds-at-none))
