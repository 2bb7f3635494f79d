use Rattle.std.proofs.Common.{◌≡◌, ◌==◌, true, get_or, map, rules, arith}
use Rattle.std.proofs.lemmas.Bool.Decides.{nat_tests}
use Rattle.std.proofs.lemmas.List.{get_or_default}
use Rattle.std.proofs.lemmas.Result.{err_from_is_err_and}
use Rattle.mkv_io.specs.declared.damage.Kind.TheVariants.{NotEbml}
use Rattle.mkv_lines.specs.Line.{warning_line}
use Rattle.remux_plan.specs.declared.summary.InputDamage.{InputDamage}
use Rattle.mkv_merge.specs.Told.{damages_at}
use Rattle.mkv_merge.proofs.TellingLemmas.{kept-said, kept-stops}
use Rattle.mkv_merge.proofs.telling.warn_of.Goals as goal

-- A line couldn't be printed.
pub returns-in_err-say-clause-said : goal.returns-in_err-say-clause-said
returns-in_err-say-clause-said g c =
    let xs = c.args.damages.now in
    let k = c.loop-each.each-index in
    let x : InputDamage = get_or xs k (record { input = 0; damage = record { kind = NotEbml; id = 0; offset = 0 } }) in
    let same : (x.input == c.args.input) ≡ true = grind (arith, nat_tests, c.if-each-input.false) in
    let p = err_from_is_err_and c.from_residual.result c.from_residual.ensures.1 in
    rw p.1
    (kept-stops (λ (d : InputDamage). warning_line c.args.name.now d.damage) (λ (d : InputDamage). d.input == c.args.input) (g.P.Report.lines c.args.report.now) (g.P.Report.lines c.loop-each.report) (g.P.Report.lines c.say.new.report) (map (λ (d : InputDamage). warning_line c.args.name.now d.damage) (damages_at c.args.input xs)) xs k x c.loop-each-test.true (get_or_default xs k _ _ c.loop-each-test.true) same c.loop-each.invariant.way c.in_err-say.ensures.said)

-- One more line was printed.
pub loop-each-preserved : goal.loop-each-preserved
loop-each-preserved g c = record {
  report = search rules;
  way =
      let xs = c.args.damages.now in
      let k = c.loop-each.each-index in
      let x : InputDamage = get_or xs k (record { input = 0; damage = record { kind = NotEbml; id = 0; offset = 0 } }) in
      let same : (x.input == c.args.input) ≡ true = grind (arith, nat_tests, c.if-each-input.false) in
      kept-said (λ (d : InputDamage). warning_line c.args.name.now d.damage) (λ (d : InputDamage). d.input == c.args.input) (g.P.Report.lines c.args.report.now) (g.P.Report.lines c.loop-each.report) (g.P.Report.lines c.say.new.report) (map (λ (d : InputDamage). warning_line c.args.name.now d.damage) (damages_at c.args.input xs)) xs k x c.loop-each-test.true (get_or_default xs k _ _ c.loop-each-test.true) same c.loop-each.invariant.way c.in_ok-say.ensures.said;
}
