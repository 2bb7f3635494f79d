use Rattle.std.proofs.Common.{◌∙◌}
use Rattle.mkv_disk.specs.Pair.{both}
use Rattle.mkv_disk.proofs.MomentsLemmas.{weaker}
use Rattle.mkv_lines.specs.Code.{status_of}
use Rattle.mkv_lines.specs.declared.status.Status.TheVariants as status
use Rattle.sidecar_edit.specs.Recovering.{IsRecovering}
use Rattle.mkv_propedit.specs.Recovery.{LeftByRecovery}
use Rattle.mkv_propedit.proofs.RecoverLemmas.{keeps-pair, left-recovered, recovered-image, recovery-still, told-recovered, told-stop}
use Rattle.mkv_propedit.proofs.recovering.recover_open.Goals as goal

-- ---- out of memory, nothing is done

pub returns-in_default-clause-recovery : goal.returns-in_default-clause-recovery
returns-in_default-clause-recovery g c = recovery-still g.D.Disk c.args.disk.now status.NoMemory c.requires.at_rest (λ M S p same. same) (g.met.D.Disk.only_now c.args.disk.now)

-- ---- the message of the outcome

pub returns-clause-verdict : goal.returns-clause-verdict
returns-clause-verdict g c = λ told.
    let p = g.D.Disk.pair c.args.disk.now in
    told-recovered p.media.reads p.sidecar.reads c.args.name.now (g.D.Disk.pair c.recover-outcome.new.disk) c.recover-outcome.result c.tell.result
    (g.R.Report.faults c.args.report.now) (g.R.Report.faults c.tell.new.report) (g.R.Report.lines c.args.report.now) (g.R.Report.lines c.tell.new.report)
    (c.recover-outcome.ensures.ok told) c.tell.ensures.cause c.tell.ensures.verdict

pub returns-clause-recovery : goal.returns-clause-recovery
returns-clause-recovery g c =
    let a = c.args.disk.now in let b = c.recover-outcome.new.disk in let p = g.D.Disk.pair a in let q = g.D.Disk.pair b in
    record {
      pair = λ told.
          left-recovered p.media.reads p.sidecar.reads c.args.name.now q
          (g.R.Report.faults c.args.report.now) (g.R.Report.faults c.tell.new.report) (g.R.Report.lines c.args.report.now) (g.R.Report.lines c.tell.new.report)
          c.recover-outcome.result c.tell.result (c.recover-outcome.ensures.ok told)
          (keeps-pair (g.D.Reads.standing a) (g.D.Reads.standing b) (both p.media.reads p.sidecar.reads) q c.recover-outcome.result (λ same. g.met.D.Disk.pair_stands b a same ∙ c.requires.at_rest told) c.recover-outcome.ensures.same)
          c.tell.ensures.cause c.tell.ensures.verdict;
      any_moment = λ told.
          let d = g.D.Disk in let M = p.media.reads in let S = p.sidecar.reads in
          weaker d.moment d.left_since a b (IsRecovering M S) (LeftByRecovery (status_of c.tell.result) M S)
          (λ m t image. recovered-image M S m t c.args.name.now q (g.R.Report.faults c.args.report.now) (g.R.Report.faults c.tell.new.report) (g.R.Report.lines c.args.report.now) (g.R.Report.lines c.tell.new.report)
          c.recover-outcome.result c.tell.result (c.recover-outcome.ensures.ok told) c.tell.ensures.cause c.tell.ensures.verdict image)
          (c.recover-outcome.ensures.any_moment told);
    }

pub returns-clause-cause : goal.returns-clause-cause
returns-clause-cause g c =
    told-stop g.D.Reads g.D.Disk c.args.disk.now c.recover-outcome.new.disk (g.R.Report.faults c.args.report.now) (g.R.Report.faults c.tell.new.report) c.recover-outcome.result c.tell.result c.recover-outcome.ensures.cause c.tell.ensures.cause
