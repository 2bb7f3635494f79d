use Rattle.sidecar_edit.proofs.EditLemmas.{fits-of_live, rewritten, shut}
use Rattle.sidecar_edit.proofs.recovery.redo.Goals as goal

pub redo_writes-requires-clause-fits : goal.redo_writes-requires-clause-fits
redo_writes-requires-clause-fits g c = λ told. fits-of_live (g.D.Disk.pair c.args.disk.now).media.reads (g.D.Disk.pair c.args.disk.now).sidecar.reads (c.requires.own told)

pub returns-in_err-redo_writes-clause-any_moment : goal.returns-in_err-redo_writes-clause-any_moment
returns-in_err-redo_writes-clause-any_moment g c = λ told.
    rewritten _ _ g.D.Disk.pair _ (c.requires.own told) _ (c.redo_writes.ensures.any_moment told)

pub returns-clause-any_moment : goal.returns-clause-any_moment
returns-clause-any_moment g c = λ told.
    shut _ _ g.D.Disk.pair _ (c.requires.own told) _ _ (c.in_ok-redo_writes.ensures.ok told)
    (rewritten _ _ g.D.Disk.pair _ (c.requires.own told) _ (c.redo_writes.ensures.any_moment told)) (c.close.ensures.any_moment told)
