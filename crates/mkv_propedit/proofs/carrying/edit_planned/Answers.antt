use Rattle.std.proofs.Common.{◌∙◌, ℕ, List, [], ◌∷◌, subst}
use Rattle.mkv_disk.proofs.MomentsLemmas.{stays, weaker}
use Rattle.mkv_lines.specs.Code.{status_of}
use Rattle.mkv_lines.specs.Line.{text_of}
use Rattle.mkv_lines.specs.Verdict.{SaysVerdict, done}
use Rattle.mkv_lines.specs.declared.status.Status.TheVariants as status
use Rattle.sidecar_edit.specs.Leaves.{IsEditing}
use Rattle.sidecar_edit.proofs.GateLemmas.{both_image}
use Rattle.mkv_propedit.specs.Left.{LeftByPlan}
use Rattle.mkv_propedit.proofs.PropeditLemmas.{made-image, made-left, made-stop}
use Rattle.mkv_propedit.proofs.carrying.edit_planned.Goals as goal

-- ---- out of memory, nothing is done

pub returns-in_default-clause-any_moment : goal.returns-in_default-clause-any_moment
returns-in_default-clause-any_moment g c = λ told.
    let d = g.D.Disk in let a = c.args.disk.now in
    stays d.moment d.left_since a (LeftByPlan status.NoMemory c.args.plan.now (d.pair a).media.reads (d.pair a).sidecar.reads)
    (λ m s left. both_image (d.pair a) m s (c.requires.ready.at_rest told) (g.met.D.Disk.only_now a m s told left))

-- ---- the message of the execution

pub returns-clause-pair : goal.returns-clause-pair
returns-clause-pair g c = λ told.
    let d = g.D.Disk in let a = c.args.disk.now in
    made-left (g.R.Report.faults c.args.report.now) (g.R.Report.faults c.tell.new.report) c.args.plan.now (d.pair a).media.reads (d.pair a).sidecar.reads (d.pair c.carry_out-made.new.disk) (text_of c.args.line.now)
    (g.R.Report.lines c.args.report.now) (g.R.Report.lines c.tell.new.report) c.carry_out-made.result c.tell.result (c.carry_out-made.ensures.ok told) c.tell.ensures.cause
    (subst (λ (line : List ℕ). SaysVerdict (g.R.Report.lines c.args.report.now) (g.R.Report.lines c.tell.new.report) c.tell.result (done (line ∷ []))) (c.deref.ensures ∙ c.in-Ok.ensures) c.tell.ensures.verdict)

pub returns-clause-cause : goal.returns-clause-cause
returns-clause-cause g c =
    made-stop (g.R.Report.faults c.args.report.now) (g.R.Report.faults c.tell.new.report) g.D.Reads g.D.Disk c.args.disk.now c.carry_out-made.new.disk c.carry_out-made.result c.tell.result
    c.carry_out-made.ensures.only.reading c.carry_out-made.ensures.cause c.tell.ensures.cause

pub returns-clause-any_moment : goal.returns-clause-any_moment
returns-clause-any_moment g c = λ told.
    let d = g.D.Disk in let a = c.args.disk.now in let plan = c.args.plan.now in let M = (d.pair a).media.reads in let S = (d.pair a).sidecar.reads in
    let says = subst (λ (line : List ℕ). SaysVerdict (g.R.Report.lines c.args.report.now) (g.R.Report.lines c.tell.new.report) c.tell.result (done (line ∷ []))) (c.deref.ensures ∙ c.in-Ok.ensures) c.tell.ensures.verdict in
    weaker d.moment d.left_since a c.carry_out-made.new.disk (IsEditing plan M) (LeftByPlan (status_of c.tell.result) plan M S)
    (λ m t image. made-image (g.R.Report.faults c.args.report.now) (g.R.Report.faults c.tell.new.report) plan M S m t (text_of c.args.line.now) (g.R.Report.lines c.args.report.now) (g.R.Report.lines c.tell.new.report)
    c.carry_out-made.result c.tell.result c.tell.ensures.cause says image)
    (c.carry_out-made.ensures.any_moment told)
