use Rattle.std.proofs.Common.{[], ◌∷◌}
use Rattle.std.proofs.lemmas.Result.{err_from_is_err_and}
use Rattle.mkv_lines.specs.Line.{wrote_line}
use Rattle.mkv_lines.proofs.SaidLemmas.{SaysPart-before, Says-then}
use Rattle.mkv_extract.specs.Told.{outline_lines}
use Rattle.mkv_extract.proofs.chapters.tell_output.Goals as goal

-- The line of the output couldn't be printed.
pub returns-in_err-say-clause-said : goal.returns-in_err-say-clause-said
returns-in_err-say-clause-said g c =
    let p = err_from_is_err_and c.from_residual.result c.from_residual.ensures.1 in
    rw p.1
    (SaysPart-before (g.P.Report.lines c.args.report.now) (g.P.Report.lines c.say.new.report) (wrote_line c.args.out.now ∷ []) (outline_lines c.args.name.now c.args.damage) c.in_err-say.ensures.said)

-- The warning follows it.
pub returns-clause-said : goal.returns-clause-said
returns-clause-said g c =
    Says-then (g.P.Report.lines c.args.report.now) (g.P.Report.lines c.say.new.report) (g.P.Report.lines c.warn_outline.new.report) (wrote_line c.args.out.now ∷ []) (outline_lines c.args.name.now c.args.damage) c.warn_outline.result
    c.in_ok-say.ensures.said c.warn_outline.ensures.said
