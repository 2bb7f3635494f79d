use Rattle.std.proofs.Common.{◌≡◌, ◌∙◌, ◌+◌, ◌≤◌, IsTrue, refl, inl, sym, subst, arith}
use Rattle.mkv_io.specs.Sources.{file_size}
use Rattle.mkv_disk.specs.declared.disk.TheConstants.{MEDIA}
use Rattle.mkv_disk.specs.Moments.{LeavesOnly}
use Rattle.mkv_disk.specs.Pair.{IsPairImage, Pair}
use Rattle.mkv_disk.proofs.WritingLemmas.{IsLeft, left-ready}
use Rattle.mkv_lines.specs.Code.{status_of}
use Rattle.mkv_lines.specs.Line.{bad_sidecar_line, pending_edit_line}
use Rattle.mkv_lines.specs.Verdict.{SaysVerdict}
use Rattle.mkv_lines.specs.declared.status.Status.TheVariants as status
use Rattle.mkv_propedit.proofs.RecoverLemmas.{said-stop, stop-then}
use Rattle.sidecar_edit.specs.declared.held.Gate.{Gate}
use Rattle.sidecar_edit.specs.declared.held.Gate.TheVariants.{Quiet}
use Rattle.sidecar_edit.specs.declared.place.TheConstants.{HEAD}
use Rattle.sidecar_edit.specs.Gate.{state}
use Rattle.mkv_propedit.specs.Change.{change_told, most_to_change, most_to_plan_change, writes_of_change}
use Rattle.mkv_propedit.specs.Left.{StaysOpen}
use Rattle.mkv_propedit.specs.Propedit.{unless_begun}
use Rattle.mkv_propedit.specs.declared.change.FileChange.{FileChange}
use Rattle.mkv_propedit.proofs.PropeditLemmas.{edit-none, edit-then, reads-moment, refused-left, stays-then}
use Rattle.mkv_propedit.proofs.changing.change_open.Given.{Over}
use Rattle.mkv_propedit.proofs.changing.change_open.Goals as goal

-- The effect of reading.
stands : (g : Over) (old new : g.row.D.Denot) → g.D.Reads.standing new ≡ g.D.Reads.standing old → IsLeft g.D.Reads g.D.Disk old new
stands g old new same = record {
  standing = same;
  pair = g.met.D.Disk.pair_stands new old same;
  moment = g.met.D.Disk.moment_stands new old same;
  back = λ t m s. g.met.D.Disk.left_stands new old t m s same;
  forth = λ t m s. g.met.D.Disk.left_stands old new t m s (sym same);
  opened = g.met.D.Disk.opened_stands new old same;
  writing = g.met.D.Disk.writing_stands new old same;
}

-- A crash after reading leaves the content that was read.
reads : (g : Over) (old new : g.row.D.Denot) → g.D.Reads.standing new ≡ g.D.Reads.standing old → IsTrue g.D.Disk.told → LeavesOnly g.D.Disk.moment g.D.Disk.left_since old new (IsPairImage (g.D.Disk.pair old))
reads g old new same told = reads-moment g.D.Reads g.D.Disk old new (stands g old new same) (λ m s left. g.met.D.Disk.only_now old m s told left)

-- Only the head of the journal was read.
looked : (g : Over) (change : FileChange) (old new : g.row.D.Denot) → g.D.Reads.standing new ≡ g.D.Reads.standing old → g.D.Reads.octets_read new ≤ g.D.Reads.octets_read old + HEAD → StaysOpen g.D.Reads g.D.Disk old new (most_to_change change (file_size g.D.Reads old MEDIA))
looked g change old new same read = record { opened = (stands g old new same).opened; octets = omega arith }

-- ---- no edit is pending

pub change_quiet-requires-clause-ready : goal.change_quiet-requires-clause-ready
change_quiet-requires-clause-ready g c =
    let a = c.args.disk.now in let b = c.state.new.src in
    left-ready g.D.Reads g.D.Disk a b (stands g a b c.state.ensures.only.standing) c.requires

pub change_quiet-requires-clause-quiet : goal.change_quiet-requires-clause-quiet
change_quiet-requires-clause-quiet g c = λ tells.
    let a = c.args.disk.now in let b = c.state.new.src in let left = stands g a b c.state.ensures.only.standing in
    let is = c.in-Ok-Quiet.ensures.ok (g.D.Disk.pair a).sidecar.reads (g.met.D.Disk.contents a tells).1 in
    subst (λ (p : Pair). state p.sidecar.reads ≡ Quiet) (sym left.pair) (sym is ∙ c.in-Ok-Quiet.field-0-is)

pub returns-in-Ok-Quiet-clause-verdict : goal.returns-in-Ok-Quiet-clause-verdict
returns-in-Ok-Quiet-clause-verdict g c = λ tells.
    let a = c.args.disk.now in let b = c.state.new.src in let left = stands g a b c.state.ensures.only.standing in
    let name = c.args.name.now in let change = c.args.change.now in
    let was = g.R.Report.lines c.args.report.now in let now = g.R.Report.lines c.change_quiet.new.report in
    let is = c.in-Ok-Quiet.ensures.ok (g.D.Disk.pair a).sidecar.reads (g.met.D.Disk.contents a tells).1 in
    let says = subst (λ (p : Pair). SaysVerdict was now c.change_quiet.result (change_told name change p.media.reads)) left.pair (c.change_quiet.ensures.verdict tells) in
    subst (λ (gate : Gate). SaysVerdict was now c.change_quiet.result (unless_begun name gate (change_told name change (g.D.Disk.pair a).media.reads))) (sym c.in-Ok-Quiet.field-0-is ∙ is) says

pub returns-in-Ok-Quiet-clause-edit : goal.returns-in-Ok-Quiet-clause-edit
returns-in-Ok-Quiet-clause-edit g c =
    let a = c.args.disk.now in let b = c.state.new.src in let same = c.state.ensures.only.standing in
    edit-then g.D.Disk (writes_of_change c.args.change.now) a b c.change_quiet.new.disk (status_of c.change_quiet.result) c.requires.at_rest (λ tells. (stands g a b same).pair) (reads g a b same) c.change_quiet.ensures.edit

pub returns-in-Ok-Quiet-clause-stays : goal.returns-in-Ok-Quiet-clause-stays
returns-in-Ok-Quiet-clause-stays g c =
    let a = c.args.disk.now in let b = c.state.new.src in let new = c.change_quiet.new.disk in let same = c.state.ensures.only.standing in
    let later = subst (λ s. StaysOpen g.D.Reads g.D.Disk b new (most_to_plan_change c.args.change.now ((g.D.Reads.files s).size 0))) same c.change_quiet.ensures.stays in
    stays-then g.D.Reads g.D.Disk a b new HEAD _ (stands g a b same) c.state.ensures.octets later

pub returns-in-Ok-Quiet-clause-cause : goal.returns-in-Ok-Quiet-clause-cause
returns-in-Ok-Quiet-clause-cause g c =
    let a = c.args.disk.now in let b = c.state.new.src in
    stop-then g.D.Reads g.D.Disk a b c.change_quiet.new.disk (g.R.Report.faults c.args.report.now) (g.R.Report.faults c.change_quiet.new.report) c.change_quiet.result
    (record { reading = c.in-Ok-Quiet.ensures.cause; writing = (stands g a b c.state.ensures.only.standing).writing }) c.change_quiet.ensures.cause

-- ---- an edit is pending, or the journal is invalid

pub returns-in-Ok-Live-clause-verdict : goal.returns-in-Ok-Live-clause-verdict
returns-in-Ok-Live-clause-verdict g c = λ tells.
    let a = c.args.disk.now in let name = c.args.name.now in
    let was = g.R.Report.lines c.args.report.now in let now = g.R.Report.lines c.refuse.new.report in
    let is = c.in-Ok-Live.ensures.ok (g.D.Disk.pair a).sidecar.reads (g.met.D.Disk.contents a tells).1 in
    subst (λ (gate : Gate). SaysVerdict was now c.refuse.result (unless_begun name gate (change_told name c.args.change.now (g.D.Disk.pair a).media.reads))) (sym c.in-Ok-Live.field-0-is ∙ is)
    c.refuse.ensures.verdict

pub returns-in-Ok-Live-clause-edit : goal.returns-in-Ok-Live-clause-edit
returns-in-Ok-Live-clause-edit g c =
    let a = c.args.disk.now in let b = c.state.new.src in let same = c.state.ensures.only.standing in let found = writes_of_change c.args.change.now in
    edit-none g.D.Disk found a b (status_of c.refuse.result) c.requires.at_rest (refused-left g.D.Disk found (pending_edit_line c.args.name.now) (g.R.Report.lines c.args.report.now) (g.R.Report.lines c.refuse.new.report) c.refuse.result c.refuse.ensures.verdict)
    (λ tells. (stands g a b same).pair) (reads g a b same)

pub returns-in-Ok-Live-clause-stays : goal.returns-in-Ok-Live-clause-stays
returns-in-Ok-Live-clause-stays g c = looked g c.args.change.now c.args.disk.now c.state.new.src c.state.ensures.only.standing c.state.ensures.octets

pub returns-in-Ok-Live-clause-cause : goal.returns-in-Ok-Live-clause-cause
returns-in-Ok-Live-clause-cause g c =
    let a = c.args.disk.now in let b = c.state.new.src in
    said-stop g.D.Reads g.D.Disk a b (g.R.Report.faults c.args.report.now) (g.R.Report.faults c.refuse.new.report) c.refuse.result
    (record { reading = c.in-Ok-Live.ensures.cause; writing = (stands g a b c.state.ensures.only.standing).writing }) c.refuse.ensures.cause

pub returns-in-Ok-Bad-clause-verdict : goal.returns-in-Ok-Bad-clause-verdict
returns-in-Ok-Bad-clause-verdict g c = λ tells.
    let a = c.args.disk.now in let name = c.args.name.now in
    let was = g.R.Report.lines c.args.report.now in let now = g.R.Report.lines c.refuse-in-Ok-Bad.new.report in
    let is = c.in-Ok-Bad.ensures.ok (g.D.Disk.pair a).sidecar.reads (g.met.D.Disk.contents a tells).1 in
    subst (λ (gate : Gate). SaysVerdict was now c.refuse-in-Ok-Bad.result (unless_begun name gate (change_told name c.args.change.now (g.D.Disk.pair a).media.reads))) (sym c.in-Ok-Bad.field-0-is ∙ is)
    c.refuse-in-Ok-Bad.ensures.verdict

pub returns-in-Ok-Bad-clause-edit : goal.returns-in-Ok-Bad-clause-edit
returns-in-Ok-Bad-clause-edit g c =
    let a = c.args.disk.now in let b = c.state.new.src in let same = c.state.ensures.only.standing in let found = writes_of_change c.args.change.now in
    edit-none g.D.Disk found a b (status_of c.refuse-in-Ok-Bad.result) c.requires.at_rest (refused-left g.D.Disk found (bad_sidecar_line c.args.name.now c.in-Ok-Bad.offset) (g.R.Report.lines c.args.report.now) (g.R.Report.lines c.refuse-in-Ok-Bad.new.report) c.refuse-in-Ok-Bad.result c.refuse-in-Ok-Bad.ensures.verdict)
    (λ tells. (stands g a b same).pair) (reads g a b same)

pub returns-in-Ok-Bad-clause-stays : goal.returns-in-Ok-Bad-clause-stays
returns-in-Ok-Bad-clause-stays g c = looked g c.args.change.now c.args.disk.now c.state.new.src c.state.ensures.only.standing c.state.ensures.octets

pub returns-in-Ok-Bad-clause-cause : goal.returns-in-Ok-Bad-clause-cause
returns-in-Ok-Bad-clause-cause g c =
    let a = c.args.disk.now in let b = c.state.new.src in
    said-stop g.D.Reads g.D.Disk a b (g.R.Report.faults c.args.report.now) (g.R.Report.faults c.refuse-in-Ok-Bad.new.report) c.refuse-in-Ok-Bad.result
    (record { reading = c.in-Ok-Bad.ensures.cause; writing = (stands g a b c.state.ensures.only.standing).writing }) c.refuse-in-Ok-Bad.ensures.cause

-- ---- the disk failed

pub returns-in-Err-clause-edit : goal.returns-in-Err-clause-edit
returns-in-Err-clause-edit g c =
    let a = c.args.disk.now in let b = c.state.new.src in let same = c.state.ensures.only.standing in
    edit-none g.D.Disk (writes_of_change c.args.change.now) a b status.Outside c.requires.at_rest (λ M S p is. tt) (λ tells. (stands g a b same).pair) (reads g a b same)

pub returns-in-Err-clause-stays : goal.returns-in-Err-clause-stays
returns-in-Err-clause-stays g c = looked g c.args.change.now c.args.disk.now c.state.new.src c.state.ensures.only.standing c.state.ensures.octets

pub returns-in-Err-clause-cause : goal.returns-in-Err-clause-cause
returns-in-Err-clause-cause g c = (inl (c.in-Err.ensures.cause, (stands g c.args.disk.now c.state.new.src c.state.ensures.only.standing).writing), refl)
