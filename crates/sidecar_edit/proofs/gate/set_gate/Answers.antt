use Rattle.mkv_disk.proofs.MomentsLemmas.{weaker, written_then}
use Rattle.sidecar_edit.proofs.GateLemmas.{gate_write_image}
use Rattle.sidecar_edit.proofs.gate.set_gate.Goals as goal

pub returns-in_err-write_at-clause-any_moment : goal.returns-in_err-write_at-clause-any_moment
returns-in_err-write_at-clause-any_moment g c = λ told.
    weaker _ _ _ _ _ _ (λ m s image. gate_write_image (g.D.Disk.pair c.args.disk.now) c.args.gate m s (c.requires.at_rest told) image) (c.write_at.ensures.any_moment told)

-- Until the sync, the gate may be written or not.
pub returns-clause-any_moment : goal.returns-clause-any_moment
returns-clause-any_moment g c = λ told.
    written_then _ _ g.D.Disk.pair _ _ _ _ _ (λ m s image. gate_write_image (g.D.Disk.pair c.args.disk.now) c.args.gate m s (c.requires.at_rest told) image)
    (c.write_at.ensures.any_moment told) (c.in_ok-write_at.ensures.ok told) (c.sync.ensures.any_moment told)
