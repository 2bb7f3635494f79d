use Rattle.std.proofs.Common.{ℕ, ◌+◌, ◌<◌, List, ◌∷◌, [], drop, map, ◌∙◌, ap, subst, rules, arith}
use Rattle.std.proofs.lemmas.Result.{err_from_is_err_and}
use Rattle.mkv_io.specs.Lines.{with_lines}
use Rattle.mkv_lines.specs.Line.{wrote_line}
use Rattle.mkv_lines.specs.Said.{SaysPart}
use Rattle.mkv_lines.proofs.SaidLemmas.{SaysUpTo-more, SaysUpTo-stops}
use Rattle.mkv_extract.specs.Told.{written}
use Rattle.mkv_extract.proofs.ToldLemmas.{written-said}
use Rattle.mkv_extract.proofs.telling.say_wrote.Goals as goal

-- A line couldn't be printed.
pub returns-in_err-say-clause-said : goal.returns-in_err-say-clause-said
returns-in_err-say-clause-said g c =
    let t = c.target-item.result in
    let k = c.loop-target.target-index in
    let there : t.id < c.args.count = omega (arith, c.if-target-count.false) in
    let p = err_from_is_err_and c.from_residual.result c.from_residual.ensures.1 in
    rw p.1
    (SaysUpTo-stops (g.P.Report.lines c.args.report.now) (g.P.Report.lines c.loop-target.report) (g.P.Report.lines c.say.new.report) (map wrote_line (written c.args.count c.args.targets.now)) (wrote_line t.name ∷ []) (map wrote_line (written c.args.count (drop (k + 1) c.args.targets.now)))
    (written-said (g.P.Report.lines c.args.report.now) (g.P.Report.lines c.loop-target.report) (map wrote_line (written c.args.count c.args.targets.now)) c.args.count c.args.targets.now k t c.loop-target-test.true c.target-item.is there c.loop-target.invariant.way)
    (subst (λ (name : List ℕ). SaysPart (g.P.Report.lines c.loop-target.report) (g.P.Report.lines c.say.new.report) (wrote_line name ∷ [])) c.as_str-name.ensures.same c.in_err-say.ensures.said))

-- Another line was printed.
pub loop-target-preserved : goal.loop-target-preserved
loop-target-preserved g c = record {
  report = search rules;
  way =
      let t = c.target-item.result in
      let k = c.loop-target.target-index in
      let there : t.id < c.args.count = omega (arith, c.if-target-count.false) in
      SaysUpTo-more (g.P.Report.lines c.args.report.now) (g.P.Report.lines c.loop-target.report) (g.P.Report.lines c.say.new.report) (map wrote_line (written c.args.count c.args.targets.now)) (wrote_line t.name ∷ []) (map wrote_line (written c.args.count (drop (k + 1) c.args.targets.now)))
      (written-said (g.P.Report.lines c.args.report.now) (g.P.Report.lines c.loop-target.report) (map wrote_line (written c.args.count c.args.targets.now)) c.args.count c.args.targets.now k t c.loop-target-test.true c.target-item.is there c.loop-target.invariant.way)
      (c.in_ok-say.ensures.said ∙ ap (λ (name : List ℕ). with_lines (g.P.Report.lines c.loop-target.report) (wrote_line name ∷ [])) c.as_str-name.ensures.same);
}
