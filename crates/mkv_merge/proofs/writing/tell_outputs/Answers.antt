use Rattle.std.proofs.Common.{List, map, ◌∙◌, ap, subst}
use Rattle.std.proofs.lemmas.Result.{err_from_is_err_and}
use Rattle.mkv_io.specs.Lines.{with_lines}
use Rattle.mkv_lines.specs.Line.{wrote_blocks_line}
use Rattle.mkv_lines.specs.Said.{SaysPart}
use Rattle.mkv_lines.proofs.SaidLemmas.{SaysPart-before, SaysPart-behind}
use Rattle.remux_plan.specs.declared.summary.Written.{Written}
use Rattle.mkv_merge.specs.Told.{warnings_from}
use Rattle.mkv_merge.proofs.writing.tell_outputs.Goals as goal

-- The line of an output couldn't be printed.
pub returns-in_err-say_wrote-clause-said : goal.returns-in_err-say_wrote-clause-said
returns-in_err-say_wrote-clause-said g c =
    let p = err_from_is_err_and c.from_residual.result c.from_residual.ensures.1 in
    rw p.1
    (SaysPart-before (g.P.Report.lines c.args.report.now) (g.P.Report.lines c.say_wrote.new.report) (map (λ (w : Written). wrote_blocks_line w.name w.blocks) c.args.summary.now.outputs) (warnings_from c.args.summary.now 0 c.args.words.now.files)
    (subst (λ (ws : List Written). SaysPart (g.P.Report.lines c.args.report.now) (g.P.Report.lines c.say_wrote.new.report) (map (λ (w : Written). wrote_blocks_line w.name w.blocks) ws)) c.as_slice.ensures c.in_err-say_wrote.ensures.said))

-- A warning couldn't be printed.
pub returns-in_err-warn-clause-said : goal.returns-in_err-warn-clause-said
returns-in_err-warn-clause-said g c =
    let p = err_from_is_err_and c.from_residual-in_err-warn.result c.from_residual-in_err-warn.ensures.1 in
    rw p.1
    (SaysPart-behind (g.P.Report.lines c.args.report.now) (g.P.Report.lines c.say_wrote.new.report) (g.P.Report.lines c.warn.new.report) (map (λ (w : Written). wrote_blocks_line w.name w.blocks) c.args.summary.now.outputs) (warnings_from c.args.summary.now 0 c.args.words.now.files)
    (c.in_ok-say_wrote.ensures.said ∙ ap (λ (ws : List Written). with_lines (g.P.Report.lines c.args.report.now) (map (λ (w : Written). wrote_blocks_line w.name w.blocks) ws)) c.as_slice.ensures)
    c.in_err-warn.ensures.said)
