use Rattle.std.proofs.Common.{◌≡◌, ℕ, ◌<◌, true, List, [], ◌∷◌, length, get_or, sym, ◌∙◌, ap, subst, rules}
use Rattle.std.proofs.lemmas.List.{get_or_default}
use Rattle.std.proofs.lemmas.Result.{err_from_is_err_and}
use Rattle.mkv_io.specs.Lines.{with_lines}
use Rattle.mkv_lines.specs.Line.{no_track_line}
use Rattle.mkv_lines.specs.Said.{SaysPart}
use Rattle.mkv_merge.specs.Merge.{is_absent_in, lines_absent_in}
use Rattle.mkv_merge.proofs.TellingLemmas.{kept-said, kept-stops}
use Rattle.mkv_merge.proofs.telling.say_absent_in.Goals as goal

-- A line couldn't be printed.
pub returns-in_err-say-clause-said : goal.returns-in_err-say-clause-said
returns-in_err-say-clause-said g c =
    let xs = c.args.order.now in
    let k = c.loop-pair.pair-index in
    let file = c.args.file.now in
    let pair : ℕ × ℕ = get_or xs k (0, 0) in
    let below : k < length xs = c.loop-pair-test.true in
    let is : pair ≡ get_or xs k pair = get_or_default xs k (0, 0) pair below in
    let keeps : is_absent_in c.args.input file c.args.count pair ≡ true = sym c.is_absent_in.ensures ∙ c.if-not-is_absent_in.false in
    let p = err_from_is_err_and c.from_residual.result c.from_residual.ensures.1 in
    rw p.1
    (kept-stops (λ (each : ℕ × ℕ). no_track_line file.name each.1) (is_absent_in c.args.input file c.args.count) (g.P.Report.lines c.args.report.now) (g.P.Report.lines c.loop-pair.report) (g.P.Report.lines c.say.new.report) (lines_absent_in xs c.args.input file c.args.count) xs k pair below is keeps c.loop-pair.invariant.way
    (subst (λ (name : List ℕ). SaysPart (g.P.Report.lines c.loop-pair.report) (g.P.Report.lines c.say.new.report) (no_track_line name pair.1 ∷ [])) c.as_str-name.ensures.same c.in_err-say.ensures.said))

-- One more line was printed.
pub loop-pair-preserved : goal.loop-pair-preserved
loop-pair-preserved g c = record {
  report = search rules;
  way =
      let xs = c.args.order.now in
      let k = c.loop-pair.pair-index in
      let file = c.args.file.now in
      let pair : ℕ × ℕ = get_or xs k (0, 0) in
      let below : k < length xs = c.loop-pair-test.true in
      let is : pair ≡ get_or xs k pair = get_or_default xs k (0, 0) pair below in
      let keeps : is_absent_in c.args.input file c.args.count pair ≡ true = sym c.is_absent_in.ensures ∙ c.if-not-is_absent_in.false in
      kept-said (λ (each : ℕ × ℕ). no_track_line file.name each.1) (is_absent_in c.args.input file c.args.count) (g.P.Report.lines c.args.report.now) (g.P.Report.lines c.loop-pair.report) (g.P.Report.lines c.say.new.report) (lines_absent_in xs c.args.input file c.args.count) xs k pair below is keeps c.loop-pair.invariant.way
      (c.in_ok-say.ensures.said ∙ ap (λ (name : List ℕ). with_lines (g.P.Report.lines c.loop-pair.report) (no_track_line name pair.1 ∷ [])) c.as_str-name.ensures.same);
}
