use Rattle.std.proofs.Common.{inl, inr, ap, subst}
use Rattle.mkv_io.specs.Faults.{HasIncreased}
use Rattle.mkv_lines.specs.declared.status.Status.TheVariants.{NoMemory, Outside}
use Rattle.mkv_lines.specs.Faults.{Counts}
use Rattle.mkv_lines.specs.Line.{disk_fault_line, files_fault_line}
use Rattle.mkv_lines.specs.Said.{SaysPart}
use Rattle.word_values.specs.Place.{texts}
use Rattle.mkv_run.specs.ByWords.{reach_for}
use Rattle.mkv_run.specs.Ends.{EndsOutside}
use Rattle.mkv_run.specs.RunSeen.{run_seen}
use Rattle.mkv_run.proofs.RunLemmas.{fault-alone, fault-told, leaves-readable, stops-saying, touches-moment}
use Rattle.mkv_run.proofs.running.run_command_line.Goals as goal

-- ---- lines and outputs

-- The files failed, and the line of the failure follows.
pub returns-in-Err-Files-clause-verdict : goal.returns-in-Err-Files-clause-verdict
returns-in-Err-Files-clause-verdict g c = λ verdict told.
    let faults = g.R.Report.faults in let lines = g.R.Report.lines in let names = g.F.Files.names in
    let was = run_seen g.F.Reads g.F.Files g.D.Reads g.D.Disk g.R.Report c.args.files.now c.args.disk.now c.args.report.now in
    let now = run_seen g.F.Reads g.F.Files g.D.Reads g.D.Disk g.R.Report c.carry_out.new.files c.carry_out.new.disk c.say_files_fault.new.report in
    let cause = rw c.in-Err-Files.field-0-is at c.in-Err-Files.ensures.ended.cause in
    let stopped = c.in-Err-Files.ensures.verdict verdict told in
    stops-saying (SaysPart (lines c.args.report.now) (lines c.carry_out.new.report)) (EndsOutside was now) (names c.args.files.now) (names c.carry_out.new.files) verdict
    (λ all part.
    let ends = fault-told files_fault_line (faults c.carry_out.new.report) (faults c.say_files_fault.new.report) (lines c.args.report.now) (lines c.carry_out.new.report) (lines c.say_files_fault.new.report) all c.say_files_fault.result
    part c.say_files_fault.ensures.said c.say_files_fault.ensures.cause c.say_files_fault.ensures.memory in
    elim ends [
      | inl says ↦ inl (cause.0, says)
      | inr report ↦ inr (inr (subst (λ n. HasIncreased n (faults c.say_files_fault.new.report)) cause.1 report.0, report.1))
    ])
    stopped

-- The disk failed, and the line of the failure is the only one.
pub returns-in-Err-Disk-clause-verdict : goal.returns-in-Err-Disk-clause-verdict
returns-in-Err-Disk-clause-verdict g c = λ verdict told.
    let faults = g.R.Report.faults in let lines = g.R.Report.lines in let names = g.F.Files.names in
    let was = run_seen g.F.Reads g.F.Files g.D.Reads g.D.Disk g.R.Report c.args.files.now c.args.disk.now c.args.report.now in
    let now = run_seen g.F.Reads g.F.Files g.D.Reads g.D.Disk g.R.Report c.carry_out.new.files c.carry_out.new.disk c.say_disk_fault.new.report in
    let cause = rw c.in-Err-Disk.field-0-is at c.in-Err-Disk.ensures.ended.cause in
    let stopped = c.in-Err-Disk.ensures.verdict verdict told in
    stops-saying (SaysPart (lines c.args.report.now) (lines c.carry_out.new.report)) (EndsOutside was now) (names c.args.files.now) (names c.carry_out.new.files) verdict
    (λ all part.
    let ends = fault-alone disk_fault_line (faults c.carry_out.new.report) (faults c.say_disk_fault.new.report) (lines c.args.report.now) (lines c.carry_out.new.report) (lines c.say_disk_fault.new.report) all c.say_disk_fault.result
    cause.2 c.say_disk_fault.ensures.said c.say_disk_fault.ensures.cause c.say_disk_fault.ensures.memory in
    elim ends [
      | inl says ↦ inr (inl (cause.0, says))
      | inr report ↦ inr (inr (subst (λ n. HasIncreased n (faults c.say_disk_fault.new.report)) (ap (λ (counts : Counts). counts.report) cause.1) report.0, report.1))
    ])
    stopped

-- The report failed.
pub returns-in-Err-Report-clause-verdict : goal.returns-in-Err-Report-clause-verdict
returns-in-Err-Report-clause-verdict g c = λ verdict told.
    let lines = g.R.Report.lines in let names = g.F.Files.names in
    let was = run_seen g.F.Reads g.F.Files g.D.Reads g.D.Disk g.R.Report c.args.files.now c.args.disk.now c.args.report.now in
    let now = run_seen g.F.Reads g.F.Files g.D.Reads g.D.Disk g.R.Report c.carry_out.new.files c.carry_out.new.disk c.carry_out.new.report in
    let cause = rw c.in-Err-Report.field-0-is at c.in-Err-Report.ensures.ended.cause in
    let stopped = c.in-Err-Report.ensures.verdict verdict told in
    stops-saying (SaysPart (lines c.args.report.now) (lines c.carry_out.new.report)) (EndsOutside was now) (names c.args.files.now) (names c.carry_out.new.files) verdict
    (λ all part. inr (inr (cause.0, part)))
    stopped

-- A command that ended by itself leaves outputs that can be read again.
pub returns-in-Ok-clause-readable : goal.returns-in-Ok-clause-readable
returns-in-Ok-clause-readable g c = leaves-readable (g.F.Files.names c.args.files.now) (texts c.args.words.now.items) c.in-Ok.status c.in-Ok.ensures.readable

-- ---- crashes

pub returns-in-Ok-clause-any_moment : goal.returns-in-Ok-clause-any_moment
returns-in-Ok-clause-any_moment g c = λ rest.
    touches-moment g.D.Reads g.D.Disk (reach_for c.args.words.now.items) c.args.files.now c.carry_out.new.files c.args.disk.now c.carry_out.new.disk c.in-Ok.status
    rest (g.met.D.Disk.only_now c.args.disk.now) c.in-Ok.ensures.touches

pub returns-in-Err-Memory-clause-any_moment : goal.returns-in-Err-Memory-clause-any_moment
returns-in-Err-Memory-clause-any_moment g c = λ rest.
    touches-moment g.D.Reads g.D.Disk (reach_for c.args.words.now.items) c.args.files.now c.carry_out.new.files c.args.disk.now c.carry_out.new.disk NoMemory
    rest (g.met.D.Disk.only_now c.args.disk.now) (rw c.in-Err-Memory.field-0-is at c.in-Err-Memory.ensures.touches)

pub returns-in-Err-Report-clause-any_moment : goal.returns-in-Err-Report-clause-any_moment
returns-in-Err-Report-clause-any_moment g c = λ rest.
    touches-moment g.D.Reads g.D.Disk (reach_for c.args.words.now.items) c.args.files.now c.carry_out.new.files c.args.disk.now c.carry_out.new.disk Outside
    rest (g.met.D.Disk.only_now c.args.disk.now) (rw c.in-Err-Report.field-0-is at c.in-Err-Report.ensures.touches)

pub returns-in-Err-Files-clause-any_moment : goal.returns-in-Err-Files-clause-any_moment
returns-in-Err-Files-clause-any_moment g c = λ rest.
    touches-moment g.D.Reads g.D.Disk (reach_for c.args.words.now.items) c.args.files.now c.carry_out.new.files c.args.disk.now c.carry_out.new.disk Outside
    rest (g.met.D.Disk.only_now c.args.disk.now) (rw c.in-Err-Files.field-0-is at c.in-Err-Files.ensures.touches)

pub returns-in-Err-Disk-clause-any_moment : goal.returns-in-Err-Disk-clause-any_moment
returns-in-Err-Disk-clause-any_moment g c = λ rest.
    touches-moment g.D.Reads g.D.Disk (reach_for c.args.words.now.items) c.args.files.now c.carry_out.new.files c.args.disk.now c.carry_out.new.disk Outside
    rest (g.met.D.Disk.only_now c.args.disk.now) (rw c.in-Err-Disk.field-0-is at c.in-Err-Disk.ensures.touches)
