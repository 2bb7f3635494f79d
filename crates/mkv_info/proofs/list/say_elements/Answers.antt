use Rattle.std.proofs.Common.{refl}
use Rattle.std.proofs.lemmas.Result.{err_from_is_err_and}
use Rattle.mkv_schema.specs.Outline.{segment_run}
use Rattle.mkv_info.proofs.ListedLemmas.{elements-first, elements-second, elements-all}
use Rattle.mkv_info.proofs.list.say_elements.Goals as goal

-- The first line couldn't be printed.
pub returns-in_err-say-clause-said : goal.returns-in_err-say-clause-said
returns-in_err-say-clause-said g c = λ bytes told.
    let p = err_from_is_err_and c.from_residual.result c.from_residual.ensures.1 in
    rw p.1 (elements-first (g.P.Report.lines c.args.report.now) (g.P.Report.lines c.say.new.report) bytes c.args.outline.now c.ebml.result c.ebml.ensures c.in_err-say.ensures.said)

-- The second line couldn't be printed.
pub returns-in_err-say-2-clause-said : goal.returns-in_err-say-2-clause-said
returns-in_err-say-2-clause-said g c = λ bytes told.
    let p = err_from_is_err_and c.from_residual-in_err-say-2.result c.from_residual-in_err-say-2.ensures.1 in
    rw p.1
    (elements-second (g.P.Report.lines c.args.report.now) (g.P.Report.lines c.say.new.report) (g.P.Report.lines c.say-2.new.report) bytes c.args.outline.now c.ebml.result c.segment.result
    c.ebml.ensures c.segment.ensures.exact c.in_ok-say.ensures.said c.in_err-say-2.ensures.said)

-- Both lines were printed, and then the lines of level 1.
pub returns-clause-said : goal.returns-clause-said
returns-clause-said g c = λ bytes told.
    elements-all (g.P.Report.lines c.args.report.now) (g.P.Report.lines c.say.new.report) (g.P.Report.lines c.say-2.new.report) (g.P.Report.lines c.say_level_1.new.report) bytes c.args.outline.now c.ebml.result c.segment.result (segment_run bytes c.args.outline.now.segment).list c.say_level_1.result
    c.ebml.ensures c.segment.ensures.exact refl c.in_ok-say.ensures.said c.in_ok-say-2.ensures.said (c.say_level_1.ensures.said bytes told)
