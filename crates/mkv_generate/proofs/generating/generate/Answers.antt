use Rattle.std.proofs.Common.{refl}
use Rattle.mkv_lines.specs.Command.{seen_in}
use Rattle.mkv_lines.specs.declared.status.Status.{Status}
use Rattle.mkv_generate.proofs.TellingLemmas.{make-stopped, make-told, stopped-cause, told-cause}
use Rattle.mkv_generate.proofs.generating.generate.Goals as goal

-- The files are complete, and the lines are printed.
pub returns-in-Ok-clause-verdict : goal.returns-in-Ok-clause-verdict
returns-in-Ok-clause-verdict g c = λ world told.
    make-told (seen_in g.F.Reads g.F.Files g.P.Report c.args.files.now c.args.report.now)
    (seen_in g.F.Reads g.F.Files g.P.Report c.make.new.files c.tell.new.report)
    c.args.n c.args.names.now c.in-Ok.outcome c.tell.result (c.in-Ok.ensures.makes world told) c.tell.ensures.said c.tell.ensures.status

pub returns-in-Ok-clause-ended : goal.returns-in-Ok-clause-ended
returns-in-Ok-clause-ended g c = record {
  ordinary = c.tell.ensures.ordinary;
  live = c.in-Ok.ensures.live;
  cause = told-cause g.F.Reads g.F.Files g.P.Report c.args.files.now c.make.new.files c.args.report.now c.tell.new.report c.in-Ok.outcome c.tell.result c.in-Ok.ensures.cause c.tell.ensures.cause;
}

-- The files couldn't all be made.
pub returns-in-Err-clause-verdict : goal.returns-in-Err-clause-verdict
returns-in-Err-clause-verdict g c = λ world told.
    make-stopped (seen_in g.F.Reads g.F.Files g.P.Report c.args.files.now c.args.report.now)
    (seen_in g.F.Reads g.F.Files g.P.Report c.make.new.files c.args.report.now)
    c.args.n c.args.names.now c.in-Err.why refl (c.in-Err.ensures.makes world told)

pub returns-in-Err-clause-ended : goal.returns-in-Err-clause-ended
returns-in-Err-clause-ended g c = record {
  ordinary = tt;
  live = c.in-Err.ensures.live;
  cause = stopped-cause g.F.Reads g.F.Files g.P.Report c.args.files.now c.make.new.files c.args.report.now c.args.report.now Status c.in-Err.why c.in-Err.ensures.cause;
}
