use Rattle.std.proofs.Common.{map}
use Rattle.std.proofs.lemmas.Result.{err_from_is_err_and}
use Rattle.mkv_lines.specs.Line.{wrote_line}
use Rattle.mkv_lines.proofs.SaidLemmas.{SaysPart-before, SaysPart-behind}
use Rattle.mkv_extract.specs.Told.{outline_lines, written}
use Rattle.mkv_extract.proofs.telling.tell_held.Goals as goal

-- The line of an output couldn't be printed.
pub returns-in_err-say_wrote-clause-said : goal.returns-in_err-say_wrote-clause-said
returns-in_err-say_wrote-clause-said g c =
    let p = err_from_is_err_and c.from_residual.result c.from_residual.ensures.1 in
    rw p.1
    (SaysPart-before (g.P.Report.lines c.args.report.now) (g.P.Report.lines c.say_wrote.new.report) (map wrote_line (written c.args.count c.args.targets.now)) (outline_lines c.args.name.now c.args.damage) c.in_err-say_wrote.ensures.said)

-- A warning couldn't be printed.
pub returns-in_err-status-clause-said : goal.returns-in_err-status-clause-said
returns-in_err-status-clause-said g c =
    let p = err_from_is_err_and c.from_residual-in_err-status.result c.from_residual-in_err-status.ensures.1 in
    rw p.1
    (SaysPart-behind (g.P.Report.lines c.args.report.now) (g.P.Report.lines c.say_wrote.new.report) (g.P.Report.lines c.warn_outline.new.report) (map wrote_line (written c.args.count c.args.targets.now)) (outline_lines c.args.name.now c.args.damage)
    c.in_ok-say_wrote.ensures.said c.in_err-status.ensures.said)
