use Rattle.std.proofs.lemmas.Result.{err_from_is_err_and}
use Rattle.mkv_lines.proofs.SaidLemmas.{SaysPart-before, Says-then}
use Rattle.mkv_extract.specs.Extract.{told_bad, told_lines}
use Rattle.mkv_extract.proofs.telling.warn_all.Goals as goal

-- A warning of the file couldn't be printed.
pub returns-in_err-warn-clause-said : goal.returns-in_err-warn-clause-said
returns-in_err-warn-clause-said g c =
    let p = err_from_is_err_and c.from_residual.result c.from_residual.ensures.1 in
    rw p.1
    (SaysPart-before (g.P.Report.lines c.args.report.now) (g.P.Report.lines c.warn.new.report) (told_lines c.args.name.now c.args.extracted.now.damages) (told_bad c.args.name.now c.args.extracted.now.bad_frames)
    c.in_err-warn.ensures.said)

-- The warnings of the frames follow.
pub returns-clause-said : goal.returns-clause-said
returns-clause-said g c =
    Says-then (g.P.Report.lines c.args.report.now) (g.P.Report.lines c.warn.new.report) (g.P.Report.lines c.warn-2.new.report) (told_lines c.args.name.now c.args.extracted.now.damages) (told_bad c.args.name.now c.args.extracted.now.bad_frames) c.warn-2.result
    c.in_ok-warn.ensures.said c.warn-2.ensures.said
