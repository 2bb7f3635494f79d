use Rattle.mkv_disk.proofs.MomentsLemmas.{weaker, written_then}
use Rattle.sidecar_edit.proofs.GateLemmas.{cut_write_image}
use Rattle.sidecar_edit.proofs.gate.cut_down.Goals as goal

pub returns-in_err-cut-clause-any_moment : goal.returns-in_err-cut-clause-any_moment
returns-in_err-cut-clause-any_moment g c = λ told.
    weaker _ _ _ _ _ _ (λ m s image. cut_write_image (g.D.Disk.pair c.args.disk.now) m s (c.requires.at_rest told) (c.requires.closed told).0 (c.requires.closed told).1 image) (c.cut.ensures.any_moment told)

-- Until the sync, the truncation may be done or not.
pub returns-clause-any_moment : goal.returns-clause-any_moment
returns-clause-any_moment g c = λ told.
    written_then _ _ g.D.Disk.pair _ _ _ _ _ (λ m s image. cut_write_image (g.D.Disk.pair c.args.disk.now) m s (c.requires.at_rest told) (c.requires.closed told).0 (c.requires.closed told).1 image)
    (c.cut.ensures.any_moment told) (c.in_ok-cut.ensures.ok told) (c.sync.ensures.any_moment told)
