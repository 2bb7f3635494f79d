use Rattle.std.proofs.Common.{ℕ, ◌++◌, length, map, subst}
use Rattle.std.proofs.lemmas.Result.{err_from_is_err_and}
use Rattle.mkv_lines.specs.Line.{wrote_blocks_line}
use Rattle.mkv_lines.specs.Said.{SaysPart}
use Rattle.mkv_lines.proofs.SaidLemmas.{SaysPart-before, SaysPart-behind}
use Rattle.remux_plan.specs.declared.summary.Written.{Written}
use Rattle.mkv_merge.specs.Merge.{uuid_lines}
use Rattle.mkv_merge.specs.Told.{warnings_from}
use Rattle.mkv_merge.proofs.writing.tell.Goals as goal

-- The line of an output, or a warning of an input, couldn't be printed.
pub returns-in_err-tell_outputs-clause-said : goal.returns-in_err-tell_outputs-clause-said
returns-in_err-tell_outputs-clause-said g c =
    let p = err_from_is_err_and c.from_residual.result c.from_residual.ensures.1 in
    rw p.1
    (SaysPart-before (g.P.Report.lines c.args.report.now) (g.P.Report.lines c.tell_outputs.new.report)
    (map (λ (w : Written). wrote_blocks_line w.name w.blocks) c.args.summary.now.outputs ++ warnings_from c.args.summary.now 0 c.args.words.now.files)
    (uuid_lines c.args.words.now (length c.args.summary.now.outputs)) c.in_err-tell_outputs.ensures.said)

-- The warning of the number of identifiers couldn't be printed.
pub returns-in_err-say_uuids-clause-said : goal.returns-in_err-say_uuids-clause-said
returns-in_err-say_uuids-clause-said g c =
    let p = err_from_is_err_and c.from_residual-in_err-say_uuids.result c.from_residual-in_err-say_uuids.ensures.1 in
    rw p.1
    (SaysPart-behind (g.P.Report.lines c.args.report.now) (g.P.Report.lines c.tell_outputs.new.report) (g.P.Report.lines c.say_uuids.new.report)
    (map (λ (w : Written). wrote_blocks_line w.name w.blocks) c.args.summary.now.outputs ++ warnings_from c.args.summary.now 0 c.args.words.now.files)
    (uuid_lines c.args.words.now (length c.args.summary.now.outputs)) c.in_ok-tell_outputs.ensures.said
    (subst (λ (n : ℕ). SaysPart (g.P.Report.lines c.tell_outputs.new.report) (g.P.Report.lines c.say_uuids.new.report) (uuid_lines c.args.words.now n)) c.len-outputs.ensures c.in_err-say_uuids.ensures.said))
