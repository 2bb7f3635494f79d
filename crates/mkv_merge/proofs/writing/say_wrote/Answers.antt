use Rattle.std.proofs.Common.{◌≡◌, ℕ, ◌+◌, ◌<◌, List, ◌∷◌, [], length, drop, get_or, map, ◌∙◌, ap, subst, rules}
use Rattle.std.proofs.lemmas.Result.{err_from_is_err_and}
use Rattle.mkv_io.specs.Lines.{with_lines}
use Rattle.mkv_lines.specs.Line.{wrote_blocks_line}
use Rattle.mkv_lines.specs.Said.{ReportLines, SaysPart, SaysUpTo}
use Rattle.mkv_lines.proofs.SaidLemmas.{SaysUpTo-more, SaysUpTo-stops}
use Rattle.remux_plan.specs.declared.summary.Written.{Written}
use Rattle.mkv_merge.proofs.TellingLemmas.{drop-at}
use Rattle.mkv_merge.proofs.writing.say_wrote.Goals as goal

-- The next line is the first of the remaining lines.
next-said : (old now : ReportLines) (all : List (List ℕ)) (ws : List Written) (k : ℕ) (w : Written) → k < length ws → w ≡ get_or ws k w → SaysUpTo old now all (map (λ (w : Written). wrote_blocks_line w.name w.blocks) (drop k ws)) → SaysUpTo old now all (wrote_blocks_line w.name w.blocks ∷ map (λ (w : Written). wrote_blocks_line w.name w.blocks) (drop (k + 1) ws))
next-said old now all ws k w below is way = subst (SaysUpTo old now all) (ap (map (λ (w : Written). wrote_blocks_line w.name w.blocks)) (drop-at ws k w below is)) way

-- A line couldn't be printed.
pub returns-in_err-say-clause-said : goal.returns-in_err-say-clause-said
returns-in_err-say-clause-said g c =
    let w = c.output-item.result in
    let k = c.loop-output.output-index in
    let p = err_from_is_err_and c.from_residual.result c.from_residual.ensures.1 in
    rw p.1
    (SaysUpTo-stops (g.P.Report.lines c.args.report.now) (g.P.Report.lines c.loop-output.report) (g.P.Report.lines c.say.new.report) (map (λ (w : Written). wrote_blocks_line w.name w.blocks) c.args.outputs.now) (wrote_blocks_line w.name w.blocks ∷ []) (map (λ (w : Written). wrote_blocks_line w.name w.blocks) (drop (k + 1) c.args.outputs.now))
    (next-said (g.P.Report.lines c.args.report.now) (g.P.Report.lines c.loop-output.report) (map (λ (w : Written). wrote_blocks_line w.name w.blocks) c.args.outputs.now) c.args.outputs.now k w c.loop-output-test.true c.output-item.is c.loop-output.invariant.way)
    (subst (λ (name : List ℕ). SaysPart (g.P.Report.lines c.loop-output.report) (g.P.Report.lines c.say.new.report) (wrote_blocks_line name w.blocks ∷ [])) c.as_str-name.ensures.same c.in_err-say.ensures.said))

-- One more line was printed.
pub loop-output-preserved : goal.loop-output-preserved
loop-output-preserved g c = record {
  report = search rules;
  way =
      let w = c.output-item.result in
      let k = c.loop-output.output-index in
      SaysUpTo-more (g.P.Report.lines c.args.report.now) (g.P.Report.lines c.loop-output.report) (g.P.Report.lines c.say.new.report) (map (λ (w : Written). wrote_blocks_line w.name w.blocks) c.args.outputs.now) (wrote_blocks_line w.name w.blocks ∷ []) (map (λ (w : Written). wrote_blocks_line w.name w.blocks) (drop (k + 1) c.args.outputs.now))
      (next-said (g.P.Report.lines c.args.report.now) (g.P.Report.lines c.loop-output.report) (map (λ (w : Written). wrote_blocks_line w.name w.blocks) c.args.outputs.now) c.args.outputs.now k w c.loop-output-test.true c.output-item.is c.loop-output.invariant.way)
      (c.in_ok-say.ensures.said ∙ ap (λ (name : List ℕ). with_lines (g.P.Report.lines c.loop-output.report) (wrote_blocks_line name w.blocks ∷ [])) c.as_str-name.ensures.same);
}
