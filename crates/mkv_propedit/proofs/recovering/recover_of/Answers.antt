use Rattle.std.proofs.Common.{◌∙◌, inl, inr, sym, subst}
use Rattle.mkv_disk.specs.Pair.{IsSynced, Pair}
use Rattle.mkv_lines.specs.Code.{status_of}
use Rattle.mkv_lines.specs.Line.{missing_line}
use Rattle.mkv_lines.specs.declared.status.Status.TheVariants as status
use Rattle.mkv_lines.specs.Verdict.{SaysVerdict}
use Rattle.sidecar_edit.specs.Recovery.{recovery}
use Rattle.mkv_propedit.specs.Recover.{recover_verdict, told}
use Rattle.mkv_propedit.proofs.RecoverLemmas.{recovery-none, recovery-then, refused-left, refused-status, stop-then, there}
use Rattle.mkv_propedit.proofs.recovering.recover_of.Goals as goal

-- ---- the pair is open

pub recover_open-requires : goal.recover_open-requires
recover_open-requires g c = record {
  media = c.in-Ok.ensures.opened.media;
  sidecar = c.in-Ok.ensures.opened.sidecar;
  at_rest = λ tells. subst IsSynced (sym (c.open_pair.ensures.pair tells)) (c.requires tells);
}

pub returns-in-Ok-clause-verdict : goal.returns-in-Ok-clause-verdict
returns-in-Ok-clause-verdict g c = λ tells.
    let a = c.args.disk.now in let b = c.open_pair.new.self in
    let is_there = there (g.D.Disk.is_there a c.args.name.now) (λ none. let refused = (c.open_pair.ensures.missing tells).1 none in absurd (cc)) in
    let says = subst (λ (p : Pair). SaysVerdict (g.R.Report.lines c.args.report.now) (g.R.Report.lines c.recover_open.new.report) c.recover_open.result (told c.args.name.now (recovery p.media.reads p.sidecar.reads))) (c.open_pair.ensures.pair tells) (c.recover_open.ensures.verdict tells) in
    subst (λ there. SaysVerdict (g.R.Report.lines c.args.report.now) (g.R.Report.lines c.recover_open.new.report) c.recover_open.result (recover_verdict there c.args.name.now (g.D.Disk.pair a).media.reads (g.D.Disk.pair a).sidecar.reads)) (sym is_there) says

pub returns-in-Ok-clause-recovery : goal.returns-in-Ok-clause-recovery
returns-in-Ok-clause-recovery g c =
    let a = c.args.disk.now in let b = c.open_pair.new.self in
    record {
      leaves = recovery-then g.D.Disk a b c.recover_open.new.disk (status_of c.recover_open.result) c.requires c.open_pair.ensures.pair c.open_pair.ensures.any_moment c.recover_open.ensures.recovery;
      opened = inl (c.recover_open.ensures.stays.opened ∙ c.in-Ok.ensures.opened.named);
    }

pub returns-in-Ok-clause-cause : goal.returns-in-Ok-clause-cause
returns-in-Ok-clause-cause g c =
    stop-then g.D.Reads g.D.Disk c.args.disk.now c.open_pair.new.self c.recover_open.new.disk (g.R.Report.faults c.args.report.now) (g.R.Report.faults c.recover_open.new.report) c.recover_open.result
    (record { reading = c.in-Ok.ensures.cause; writing = c.open_pair.ensures.counts.writing }) c.recover_open.ensures.cause

-- ---- it couldn't be opened

pub returns-in-Err-Missing-clause-recovery : goal.returns-in-Err-Missing-clause-recovery
returns-in-Err-Missing-clause-recovery g c =
    let a = c.args.disk.now in let b = c.open_pair.new.self in
    let line = missing_line c.args.name.now in
    let was = g.R.Report.lines c.args.report.now in let now = g.R.Report.lines c.refuse.new.report in
    record {
      leaves = recovery-none g.D.Disk a b (status_of c.refuse.result) c.requires (refused-left line was now c.refuse.result c.refuse.ensures.verdict) c.open_pair.ensures.pair c.open_pair.ensures.any_moment;
      opened = inr record {
        standing = c.in-Err-Missing.ensures.err;
        not_done = refused-status line was now c.refuse.result c.refuse.ensures.verdict;
        missing = λ is tells. (c.open_pair.ensures.missing tells).0 (cc);
      };
    }

pub returns-in-Err-Failed-clause-recovery : goal.returns-in-Err-Failed-clause-recovery
returns-in-Err-Failed-clause-recovery g c = record {
  leaves = recovery-none g.D.Disk c.args.disk.now c.open_pair.new.self status.Outside c.requires (λ M S p same. tt) c.open_pair.ensures.pair c.open_pair.ensures.any_moment;
  opened = inr record { standing = c.in-Err-Failed.ensures.err; not_done = λ is. absurd (cc); missing = λ is tells. absurd (cc) };
}

pub returns-in-Err-Memory-clause-recovery : goal.returns-in-Err-Memory-clause-recovery
returns-in-Err-Memory-clause-recovery g c = record {
  leaves = recovery-none g.D.Disk c.args.disk.now c.open_pair.new.self status.NoMemory c.requires (λ M S p same. same) c.open_pair.ensures.pair c.open_pair.ensures.any_moment;
  opened = inr record { standing = c.in-Err-Memory.ensures.err; not_done = λ is. absurd (cc); missing = λ is tells. absurd (cc) };
}
