use Rattle.std.proofs.Common.{ℕ, List, [], ◌∷◌, ◌++◌, length, ◌∙◌, ap, ap₂, subst}
use Rattle.std.proofs.lemmas.Result.{err_from_is_err_and}
use Rattle.mkv_io.specs.Lines.{with_lines}
use Rattle.remux_plan.specs.declared.summary.Written.{Written}
use Rattle.mkv_lines.specs.Said.{ReportLines, SaysPart}
use Rattle.mkv_lines.proofs.SaidLemmas.{SaysPart-before, SaysPart-behind, Says-then, with_lines-both}
use Rattle.mkv_generate.specs.Generate.{first_written, line_for}
use Rattle.mkv_generate.specs.Outcome.{warned_of}
use Rattle.mkv_generate.proofs.generating.say_all.Goals as goal

-- The line couldn't be printed.
pub returns-in_err-say-clause-said : goal.returns-in_err-say-clause-said
returns-in_err-say-clause-said g c =
    let p = err_from_is_err_and c.from_residual.result c.from_residual.ensures.1 in
    let both = c.args.both.now in
    let parts = c.args.parts.now in
    let line = c.line_of-line.ensures ∙ ap₂ (λ (ws : List Written) (k : ℕ). line_for c.args.n (first_written ws) k) c.as_slice.ensures c.len.ensures in
    rw p.1
    (SaysPart-before (g.P.Report.lines c.args.report.now) (g.P.Report.lines c.say.new.report) (line_for c.args.n (first_written both.summary.outputs) (length parts.summary.outputs) ∷ []) (warned_of both ++ warned_of parts)
    (subst (λ (text : List ℕ). SaysPart (g.P.Report.lines c.args.report.now) (g.P.Report.lines c.say.new.report) (text ∷ [])) line c.in_err-say.ensures.said))

-- A warning of the first merge couldn't be printed.
pub returns-in_err-warn-clause-said : goal.returns-in_err-warn-clause-said
returns-in_err-warn-clause-said g c =
    let p = err_from_is_err_and c.from_residual-in_err-warn.result c.from_residual-in_err-warn.ensures.1 in
    let both = c.args.both.now in
    let parts = c.args.parts.now in
    let line = c.line_of-line.ensures ∙ ap₂ (λ (ws : List Written) (k : ℕ). line_for c.args.n (first_written ws) k) c.as_slice.ensures c.len.ensures in
    let text = line_for c.args.n (first_written both.summary.outputs) (length parts.summary.outputs) in
    let said = c.in_ok-say.ensures.said ∙ ap (λ (t : List ℕ). with_lines (g.P.Report.lines c.args.report.now) (t ∷ [])) line in
    rw p.1
    (SaysPart-before (g.P.Report.lines c.args.report.now) (g.P.Report.lines c.warn.new.report) (text ∷ warned_of both) (warned_of parts)
    (SaysPart-behind (g.P.Report.lines c.args.report.now) (g.P.Report.lines c.say.new.report) (g.P.Report.lines c.warn.new.report) (text ∷ []) (warned_of both) said c.in_err-warn.ensures.said))

-- The warnings of the second merge follow.
pub returns-clause-said : goal.returns-clause-said
returns-clause-said g c =
    let both = c.args.both.now in
    let parts = c.args.parts.now in
    let line = c.line_of-line.ensures ∙ ap₂ (λ (ws : List Written) (k : ℕ). line_for c.args.n (first_written ws) k) c.as_slice.ensures c.len.ensures in
    let text = line_for c.args.n (first_written both.summary.outputs) (length parts.summary.outputs) in
    let said = c.in_ok-say.ensures.said ∙ ap (λ (t : List ℕ). with_lines (g.P.Report.lines c.args.report.now) (t ∷ [])) line in
    let first = c.in_ok-warn.ensures.said ∙ ap (λ (lines : ReportLines). with_lines lines (warned_of both)) said ∙ with_lines-both (g.P.Report.lines c.args.report.now) (text ∷ []) (warned_of both) in
    Says-then (g.P.Report.lines c.args.report.now) (g.P.Report.lines c.warn.new.report) (g.P.Report.lines c.warn-2.new.report) (text ∷ warned_of both) (warned_of parts) c.warn-2.result first c.warn-2.ensures.said
