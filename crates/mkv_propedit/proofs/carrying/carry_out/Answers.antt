use Rattle.std.proofs.Common.{◌≡◌, ◌∙◌, [], ◌∷◌, ap, sym, subst}
use Rattle.std.specs.Prelude.{OnOk}
use Rattle.mkv_disk.specs.Moments.{LeavesOnly}
use Rattle.mkv_disk.specs.Pair.{Pair, both}
use Rattle.mkv_disk.proofs.MomentsLemmas.{joined, weaker}
use Rattle.sidecar_edit.specs.Fields.{IsMadeFor, writes_of}
use Rattle.sidecar_edit.specs.Writes.{applied}
use Rattle.sidecar_edit.specs.Leaves.{IsEditing}
use Rattle.sidecar_edit.proofs.EditLemmas.{editing-before}
use Rattle.mkv_propedit.proofs.carrying.carry_out.Goals as goal

-- ---- while the gate of the journal is closed

pub returns-in_err-settle-clause-any_moment : goal.returns-in_err-settle-clause-any_moment
returns-in_err-settle-clause-any_moment g c = λ told.
    let d = g.D.Disk in let a = c.args.disk.now in let plan = c.args.plan.now in let planned = c.requires.planned told in let M = (d.pair a).media.reads in
    weaker d.moment d.left_since a c.settle.new.disk _ (IsEditing plan M) (λ m s has. editing-before plan M planned.sound c.requires.some planned.made m s has) (c.settle.ensures.any_moment told)

-- ---- after that

pub commit-requires-clause-settled : goal.commit-requires-clause-settled
commit-requires-clause-settled g c = λ told.
    let is = c.in_ok-settle.ensures.ok told in
    is ∙ ap (λ (p : Pair). both p.media.reads (0 ∷ [])) (sym is)

pub commit-requires-clause-made : goal.commit-requires-clause-made
commit-requires-clause-made g c = λ told.
    subst (λ (p : Pair). IsMadeFor c.args.plan.now.head p.media.reads) (sym (c.in_ok-settle.ensures.ok told)) (c.requires.planned told).made

pub returns-clause-ok : goal.returns-clause-ok
returns-clause-ok g c = λ told.
    subst (λ (p : Pair). OnOk c.commit.result (g.D.Disk.pair c.commit.new.disk ≡ both (applied p.media.reads (writes_of c.args.plan.now)) (0 ∷ []))) (c.in_ok-settle.ensures.ok told) (c.commit.ensures.ok told)

pub returns-clause-any_moment : goal.returns-clause-any_moment
returns-clause-any_moment g c = λ told.
    let d = g.D.Disk in let a = c.args.disk.now in let b = c.settle.new.disk in let plan = c.args.plan.now in let planned = c.requires.planned told in let M = (d.pair a).media.reads in
    joined d.moment d.left_since a b c.commit.new.disk (IsEditing plan M)
    (weaker d.moment d.left_since a b _ (IsEditing plan M) (λ m s has. editing-before plan M planned.sound c.requires.some planned.made m s has) (c.settle.ensures.any_moment told))
    (subst (λ (p : Pair). LeavesOnly d.moment d.left_since b c.commit.new.disk (IsEditing plan p.media.reads)) (c.in_ok-settle.ensures.ok told) (c.commit.ensures.any_moment told))
