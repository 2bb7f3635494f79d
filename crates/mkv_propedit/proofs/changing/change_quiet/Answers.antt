use Rattle.std.proofs.Common.{◌≡◌, ◌∙◌, IsTrue, Ok, List, ℕ, sym, subst, arith}
use Rattle.mkv_disk.specs.Moments.{LeavesOnly}
use Rattle.mkv_disk.specs.Pair.{IsPairImage, Pair}
use Rattle.mkv_disk.proofs.MomentsLemmas.{weaker}
use Rattle.mkv_disk.proofs.WritingLemmas.{IsLeft, left-ready}
use Rattle.mkv_lines.specs.Code.{status_of}
use Rattle.mkv_lines.specs.Verdict.{SaysVerdict, Verdict, refused}
use Rattle.mkv_lines.specs.declared.status.Status.TheVariants as status
use Rattle.mkv_propedit.proofs.RecoverLemmas.{said-stop, stop-then}
use Rattle.sidecar_edit.specs.declared.held.Gate.TheVariants.{Quiet}
use Rattle.sidecar_edit.specs.Gate.{state}
use Rattle.mkv_propedit.specs.Change.{record_of_change, writes_of_change}
use Rattle.mkv_propedit.specs.Left.{IsPlannedFor, LeftByEdit, LeftByPlan}
use Rattle.mkv_propedit.proofs.PropeditLemmas.{edit-none, edit-then, leaves-planned, quiet-state, reads-moment, record-made, planned-image, refused-left}
use Rattle.mkv_propedit.proofs.changing.change_quiet.Given.{Over}
use Rattle.mkv_propedit.proofs.changing.change_quiet.Goals as goal

-- The effect of reading.
stands : (g : Over) (old new : g.row.D.Denot) → g.D.Reads.standing new ≡ g.D.Reads.standing old → IsLeft g.D.Reads g.D.Disk old new
stands g old new same = record {
  standing = same;
  pair = g.met.D.Disk.pair_stands new old same;
  moment = g.met.D.Disk.moment_stands new old same;
  back = λ t m s. g.met.D.Disk.left_stands new old t m s same;
  forth = λ t m s. g.met.D.Disk.left_stands old new t m s (sym same);
  opened = g.met.D.Disk.opened_stands new old same;
  writing = g.met.D.Disk.writing_stands new old same;
}

-- A crash after reading leaves the content that was read.
reads : (g : Over) (old new : g.row.D.Denot) → g.D.Reads.standing new ≡ g.D.Reads.standing old → IsTrue g.D.Disk.told → LeavesOnly g.D.Disk.moment g.D.Disk.left_since old new (IsPairImage (g.D.Disk.pair old))
reads g old new same told = reads-moment g.D.Reads g.D.Disk old new (stands g old new same) (λ m s left. g.met.D.Disk.only_now old m s told left)

-- ---- the edits are planned

pub edit_planned-requires-clause-ready : goal.edit_planned-requires-clause-ready
edit_planned-requires-clause-ready g c =
    let a = c.args.disk.now in let b = c.plan_change.new.disk in
    left-ready g.D.Reads g.D.Disk a b (stands g a b c.plan_change.ensures.standing) c.requires.ready

pub edit_planned-requires-clause-planned : goal.edit_planned-requires-clause-planned
edit_planned-requires-clause-planned g c = λ tells.
    let a = c.args.disk.now in let b = c.plan_change.new.disk in let left = stands g a b c.plan_change.ensures.standing in
    let M = (g.D.Disk.pair a).media.reads in let S = (g.D.Disk.pair a).sidecar.reads in let plan = c.in-Ok.made.plan in
    subst (λ (p : Pair). IsPlannedFor plan p.media.reads p.sidecar.reads) (sym left.pair) (record {
      sound = c.in-Ok.ensures.sound;
      made = record-made M (writes_of_change c.args.change.now) plan (c.in-Ok.ensures.exact tells).0;
      quiet = quiet-state S (c.requires.quiet tells);
    })

pub returns-in-Ok-clause-verdict : goal.returns-in-Ok-clause-verdict
returns-in-Ok-clause-verdict g c = λ tells.
    let was = g.R.Report.lines c.args.report.now in let now = g.R.Report.lines c.edit_planned.new.report in
    subst (λ (v : Verdict). SaysVerdict was now c.edit_planned.result v) (sym (c.in-Ok.ensures.exact tells).1) c.edit_planned.ensures.verdict

pub returns-in-Ok-clause-edit : goal.returns-in-Ok-clause-edit
returns-in-Ok-clause-edit g c =
    let d = g.D.Disk in let a = c.args.disk.now in let b = c.plan_change.new.disk in let new = c.edit_planned.new.disk in
    let change = c.args.change.now in let plan = c.in-Ok.made.plan in let same = c.plan_change.ensures.standing in let left = stands g a b same in
    let M = (d.pair b).media.reads in let S = (d.pair b).sidecar.reads in
    let quiet = λ (tells : IsTrue d.told). subst (λ (p : Pair). state p.sidecar.reads ≡ Quiet) (sym left.pair) (c.requires.quiet tells) in
    let is = λ (tells : IsTrue d.told). subst (λ (p : Pair). record_of_change change p.media.reads ≡ Ok plan) (sym left.pair) (c.in-Ok.ensures.exact tells).0 in
    let found = writes_of_change change in
    edit-then d found a b new (status_of c.edit_planned.result) c.requires.ready.at_rest (λ tells. left.pair) (reads g a b same) (record {
      pair = λ tells. leaves-planned M found S plan (status_of c.edit_planned.result) (d.pair new) (quiet tells) (is tells) (c.edit_planned.ensures.pair tells);
      any_moment = λ tells.
          let e = status_of c.edit_planned.result in
          weaker d.moment d.left_since b new (LeftByPlan e plan M S) (LeftByEdit e found M S) (λ m t image. planned-image M found S m t plan e (quiet tells) (is tells) image) (c.edit_planned.ensures.any_moment tells);
    })

pub returns-in-Ok-clause-stays : goal.returns-in-Ok-clause-stays
returns-in-Ok-clause-stays g c =
    let only = c.edit_planned.ensures.only in
    record { opened = only.opened ∙ (stands g c.args.disk.now c.plan_change.new.disk c.plan_change.ensures.standing).opened; octets = omega arith }

pub returns-in-Ok-clause-cause : goal.returns-in-Ok-clause-cause
returns-in-Ok-clause-cause g c =
    let a = c.args.disk.now in let b = c.plan_change.new.disk in
    stop-then g.D.Reads g.D.Disk a b c.edit_planned.new.disk (g.R.Report.faults c.args.report.now) (g.R.Report.faults c.edit_planned.new.report) c.edit_planned.result
    (record { reading = c.in-Ok.ensures.cause; writing = (stands g a b c.plan_change.ensures.standing).writing }) c.edit_planned.ensures.cause

-- ---- the edits are refused

pub returns-in-Err-Refused-clause-verdict : goal.returns-in-Err-Refused-clause-verdict
returns-in-Err-Refused-clause-verdict g c = λ tells.
    let was = g.R.Report.lines c.args.report.now in let now = g.R.Report.lines c.refuse.new.report in
    let is = rw c.in-Err-Refused.field-0-is at (c.in-Err-Refused.ensures.exact tells) in
    let says = subst (λ (line : List ℕ). SaysVerdict was now c.refuse.result (refused line)) c.refusal_line.ensures c.refuse.ensures.verdict in
    subst (λ (v : Verdict). SaysVerdict was now c.refuse.result v) (sym is) says

pub returns-in-Err-Refused-clause-edit : goal.returns-in-Err-Refused-clause-edit
returns-in-Err-Refused-clause-edit g c =
    let a = c.args.disk.now in let b = c.plan_change.new.disk in let same = c.plan_change.ensures.standing in
    let found = writes_of_change c.args.change.now in
    edit-none g.D.Disk found a b (status_of c.refuse.result) c.requires.ready.at_rest (refused-left g.D.Disk found _ (g.R.Report.lines c.args.report.now) (g.R.Report.lines c.refuse.new.report) c.refuse.result c.refuse.ensures.verdict) (λ tells. (stands g a b same).pair) (reads g a b same)

pub returns-in-Err-Refused-clause-cause : goal.returns-in-Err-Refused-clause-cause
returns-in-Err-Refused-clause-cause g c =
    let a = c.args.disk.now in let b = c.plan_change.new.disk in
    said-stop g.D.Reads g.D.Disk a b (g.R.Report.faults c.args.report.now) (g.R.Report.faults c.refuse.new.report) c.refuse.result
    (record { reading = rw c.in-Err-Refused.field-0-is at c.in-Err-Refused.ensures.cause; writing = (stands g a b c.plan_change.ensures.standing).writing }) c.refuse.ensures.cause

-- ---- there is no plan

pub returns-in-Err-ReadFault-clause-edit : goal.returns-in-Err-ReadFault-clause-edit
returns-in-Err-ReadFault-clause-edit g c =
    let a = c.args.disk.now in let b = c.plan_change.new.disk in let same = c.plan_change.ensures.standing in
    edit-none g.D.Disk (writes_of_change c.args.change.now) a b status.Outside c.requires.ready.at_rest (λ M S p is. tt) (λ tells. (stands g a b same).pair) (reads g a b same)

pub returns-in-Err-Memory-clause-edit : goal.returns-in-Err-Memory-clause-edit
returns-in-Err-Memory-clause-edit g c =
    let a = c.args.disk.now in let b = c.plan_change.new.disk in let same = c.plan_change.ensures.standing in
    edit-none g.D.Disk (writes_of_change c.args.change.now) a b status.NoMemory c.requires.ready.at_rest (λ M S p is. is) (λ tells. (stands g a b same).pair) (reads g a b same)

pub returns-in-Err-ReadFault-clause-stays : goal.returns-in-Err-ReadFault-clause-stays
returns-in-Err-ReadFault-clause-stays g c = record { opened = (stands g c.args.disk.now c.plan_change.new.disk c.plan_change.ensures.standing).opened; octets = c.plan_change.ensures.octets }

pub returns-in-Err-Memory-clause-stays : goal.returns-in-Err-Memory-clause-stays
returns-in-Err-Memory-clause-stays g c = record { opened = (stands g c.args.disk.now c.plan_change.new.disk c.plan_change.ensures.standing).opened; octets = c.plan_change.ensures.octets }

pub returns-in-Err-Refused-clause-stays : goal.returns-in-Err-Refused-clause-stays
returns-in-Err-Refused-clause-stays g c = record { opened = (stands g c.args.disk.now c.plan_change.new.disk c.plan_change.ensures.standing).opened; octets = c.plan_change.ensures.octets }
