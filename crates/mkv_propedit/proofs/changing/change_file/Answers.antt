use Rattle.std.proofs.Common.{◌≡◌, ◌∙◌, false, length, inl, inr, ap, sym, subst, arith}
use Rattle.mkv_disk.specs.Pair.{IsSynced, Pair}
use Rattle.mkv_lines.specs.Code.{status_of}
use Rattle.mkv_lines.specs.Line.{missing_line}
use Rattle.mkv_lines.specs.declared.status.Status.TheVariants as status
use Rattle.mkv_lines.specs.Verdict.{SaysVerdict}
use Rattle.mkv_propedit.proofs.RecoverLemmas.{refused-status, stop-then, there}
use Rattle.sidecar_edit.specs.Gate.{state}
use Rattle.mkv_propedit.specs.Change.{change_told, change_verdict, most_to_plan_change, writes_of_change}
use Rattle.mkv_propedit.specs.Propedit.{unless_begun}
use Rattle.mkv_propedit.proofs.PropeditLemmas.{edit-none, edit-then, refused-left}
use Rattle.mkv_propedit.proofs.changing.change_file.Goals as goal

-- ---- the pair is open

pub change_open-requires : goal.change_open-requires
change_open-requires g c = record {
  media = c.in-Ok.ensures.opened.media;
  sidecar = c.in-Ok.ensures.opened.sidecar;
  at_rest = λ tells. subst IsSynced (sym (c.open_pair.ensures.pair tells)) (c.requires tells);
}

pub returns-in-Ok-clause-verdict : goal.returns-in-Ok-clause-verdict
returns-in-Ok-clause-verdict g c = λ tells.
    let a = c.args.disk.now in let name = c.args.name.now in let change = c.args.change.now in
    let was = g.R.Report.lines c.args.report.now in let now = g.R.Report.lines c.change_open.new.report in
    let is_there = there (g.D.Disk.is_there a name) (λ none. let refused = (c.open_pair.ensures.missing tells).1 none in absurd (cc)) in
    let says = subst (λ (p : Pair). SaysVerdict was now c.change_open.result (unless_begun name (state p.sidecar.reads) (change_told name change p.media.reads))) (c.open_pair.ensures.pair tells) (c.change_open.ensures.verdict tells) in
    subst (λ there. SaysVerdict was now c.change_open.result (change_verdict there name change (g.D.Disk.pair a).media.reads (g.D.Disk.pair a).sidecar.reads)) (sym is_there) says

pub returns-in-Ok-clause-edit : goal.returns-in-Ok-clause-edit
returns-in-Ok-clause-edit g c = record {
  leaves = edit-then g.D.Disk (writes_of_change c.args.change.now) c.args.disk.now c.open_pair.new.self c.change_open.new.disk (status_of c.change_open.result) c.requires c.open_pair.ensures.pair c.open_pair.ensures.any_moment c.change_open.ensures.edit;
  opened = inl (c.change_open.ensures.stays.opened ∙ c.in-Ok.ensures.opened.named);
}

pub returns-in-Ok-clause-octets : goal.returns-in-Ok-clause-octets
returns-in-Ok-clause-octets g c = λ tells.
    let b = c.open_pair.new.self in
    let size = g.met.D.Reads.told_size (g.D.Reads.standing b) 0 (g.D.Disk.pair b).media.reads (g.met.D.Disk.contents b tells).0 in
    let same = ap (λ (p : Pair). length p.media.reads) (c.open_pair.ensures.pair tells) in
    let most = ap (most_to_plan_change c.args.change.now) (sym size ∙ same) in
    omega (arith, most, c.change_open.ensures.stays.octets, c.open_pair.ensures.counts.octets)

pub returns-in-Ok-clause-cause : goal.returns-in-Ok-clause-cause
returns-in-Ok-clause-cause g c =
    stop-then g.D.Reads g.D.Disk c.args.disk.now c.open_pair.new.self c.change_open.new.disk (g.R.Report.faults c.args.report.now) (g.R.Report.faults c.change_open.new.report) c.change_open.result
    (record { reading = c.in-Ok.ensures.cause; writing = c.open_pair.ensures.counts.writing }) c.change_open.ensures.cause

-- ---- it couldn't be opened

pub returns-in-Err-Missing-clause-verdict : goal.returns-in-Err-Missing-clause-verdict
returns-in-Err-Missing-clause-verdict g c = λ tells.
    let a = c.args.disk.now in let name = c.args.name.now in let change = c.args.change.now in
    let was = g.R.Report.lines c.args.report.now in let now = g.R.Report.lines c.refuse.new.report in
    let isnt : g.D.Disk.is_there a name ≡ false = (c.open_pair.ensures.missing tells).0 (cc) in
    subst (λ there. SaysVerdict was now c.refuse.result (change_verdict there name change (g.D.Disk.pair a).media.reads (g.D.Disk.pair a).sidecar.reads)) (sym isnt)
    c.refuse.ensures.verdict

pub returns-in-Err-Missing-clause-edit : goal.returns-in-Err-Missing-clause-edit
returns-in-Err-Missing-clause-edit g c =
    let a = c.args.disk.now in let b = c.open_pair.new.self in let found = writes_of_change c.args.change.now in
    let line = missing_line c.args.name.now in
    let was = g.R.Report.lines c.args.report.now in let now = g.R.Report.lines c.refuse.new.report in
    record {
      leaves = edit-none g.D.Disk found a b (status_of c.refuse.result) c.requires (refused-left g.D.Disk found line was now c.refuse.result c.refuse.ensures.verdict) c.open_pair.ensures.pair c.open_pair.ensures.any_moment;
      opened = inr record {
        standing = c.in-Err-Missing.ensures.err;
        not_done = refused-status line was now c.refuse.result c.refuse.ensures.verdict;
        missing = λ is tells. (c.open_pair.ensures.missing tells).0 (cc);
      };
    }

pub returns-in-Err-Failed-clause-edit : goal.returns-in-Err-Failed-clause-edit
returns-in-Err-Failed-clause-edit g c = record {
  leaves = edit-none g.D.Disk (writes_of_change c.args.change.now) c.args.disk.now c.open_pair.new.self status.Outside c.requires (λ M S p same. tt) c.open_pair.ensures.pair c.open_pair.ensures.any_moment;
  opened = inr record { standing = c.in-Err-Failed.ensures.err; not_done = λ is. absurd (cc); missing = λ is tells. absurd (cc) };
}

pub returns-in-Err-Memory-clause-edit : goal.returns-in-Err-Memory-clause-edit
returns-in-Err-Memory-clause-edit g c = record {
  leaves = edit-none g.D.Disk (writes_of_change c.args.change.now) c.args.disk.now c.open_pair.new.self status.NoMemory c.requires (λ M S p same. same) c.open_pair.ensures.pair c.open_pair.ensures.any_moment;
  opened = inr record { standing = c.in-Err-Memory.ensures.err; not_done = λ is. absurd (cc); missing = λ is tells. absurd (cc) };
}
