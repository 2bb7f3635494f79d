use Rattle.std.proofs.Common.{◌∙◌}
use Rattle.std.proofs.lemmas.Result.{err_from_is_err_and}
use Rattle.mkv_info.specs.Read.{read_in}
use Rattle.mkv_info.proofs.IdentifiedLemmas.{says-all, says-part}
use Rattle.mkv_info.proofs.identified.tell.Goals as goal

-- The line couldn't be printed.
pub returns-in_err-say_text-clause-verdict : goal.returns-in_err-say_text-clause-verdict
returns-in_err-say_text-clause-verdict g c =
    let p = err_from_is_err_and c.from_residual.result c.from_residual.ensures.1 in
    rw p.1
    (says-part (g.P.Report.lines c.args.report.now) (g.P.Report.lines c.say_text.new.report) c.args.name.now c.as_str.result.now (read_in c.args.read.now) p.0
    (c.as_str.ensures.same ∙ c.in-Ok.ensures) c.in_err-say_text.ensures.said)

-- The line was printed, and then the warning.
pub returns-clause-verdict : goal.returns-clause-verdict
returns-clause-verdict g c =
    says-all (g.P.Report.lines c.args.report.now) (g.P.Report.lines c.say_text.new.report) (g.P.Report.lines c.warn.new.report) c.args.name.now c.as_str.result.now (read_in c.args.read.now) c.warn.result
    (c.as_str.ensures.same ∙ c.in-Ok.ensures) c.in_ok-say_text.ensures.said c.warn.ensures.said c.warn.ensures.status
