use Rattle.std.proofs.Common.{◌+◌, ◌≤◌, ◌∷◌, [], false, length, take, drop, map, true, refl, sym, ◌∙◌, ap, subst, rules, arith}
use Rattle.std.proofs.lemmas.Result.{err_from_is_err_and}
use Rattle.mkv_lines.specs.Said.{SaysUpTo}
use Rattle.mkv_lines.proofs.SaidLemmas.{SaysUpTo-begins, SaysUpTo-ends, SaysUpTo-more, SaysUpTo-stops}
use Rattle.mkv_extract.specs.Extract.{absent}
use Rattle.mkv_extract.specs.Told.{line_of}
use Rattle.mkv_extract.proofs.ToldLemmas.{absent-ends, absent-next, absent_left, absent_left-all, numbers-more, numbers-none, numbers-told}
use Rattle.mkv_extract.proofs.telling.say_absent.Goals as goal

-- No line is printed yet.
pub loop-target-init : goal.loop-target-init
loop-target-init g c = record {
  report = refl;
  numbers = search (rules, numbers-none);
  way = subst (SaysUpTo (g.P.Report.lines c.args.report.now) (g.P.Report.lines c.args.report.now) (map (line_of c.args.missing c.args.name.now) (absent c.args.count c.args.targets.now))) (ap (map (line_of c.args.missing c.args.name.now)) (sym (absent_left-all c.args.count c.args.targets.now))) (SaysUpTo-begins (g.P.Report.lines c.args.report.now) (map (line_of c.args.missing c.args.name.now) (absent c.args.count c.args.targets.now)));
}

-- A number that isn't reported is passed.
pub loop-target-preserved-then-not-branch : goal.loop-target-preserved-then-not-branch
loop-target-preserved-then-not-branch g c = record {
  report = search rules;
  numbers = numbers-more c.args.count c.args.targets.now c.loop-target.target-index c.target-item.result c.loop-target.told.keys c.is_told.new.told.keys c.loop-target-test.true c.target-item.is c.loop-target.invariant.numbers c.in_ok-is_told.ensures.numbers;
  way =
      absent-next (g.P.Report.lines c.args.report.now) (g.P.Report.lines c.loop-target.report) (map (line_of c.args.missing c.args.name.now) (absent c.args.count c.args.targets.now)) (line_of c.args.missing c.args.name.now) c.args.count c.args.targets.now c.loop-target.target-index c.target-item.result false c.loop-target-test.true c.target-item.is
      (sym (c.in_ok-is_told.ensures.told ∙ numbers-told c.args.count (take c.loop-target.target-index c.args.targets.now) c.loop-target.told.keys c.target-item.result.id c.loop-target.invariant.numbers) ∙ c.if-not-branch.true)
      c.loop-target.invariant.way;
}

-- A line couldn't be printed.
pub returns-in_err-say_missing-clause-said : goal.returns-in_err-say_missing-clause-said
returns-in_err-say_missing-clause-said g c =
    let p = err_from_is_err_and c.from_residual-in_err-say_missing.result c.from_residual-in_err-say_missing.ensures.1 in
    rw p.1
    (SaysUpTo-stops (g.P.Report.lines c.args.report.now) (g.P.Report.lines c.loop-target.report) (g.P.Report.lines c.say_missing.new.report) (map (line_of c.args.missing c.args.name.now) (absent c.args.count c.args.targets.now)) (line_of c.args.missing c.args.name.now c.target-item.result.id ∷ []) (map (line_of c.args.missing c.args.name.now) (absent_left c.args.count (take (c.loop-target.target-index + 1) c.args.targets.now) (drop (c.loop-target.target-index + 1) c.args.targets.now)))
    (absent-next (g.P.Report.lines c.args.report.now) (g.P.Report.lines c.loop-target.report) (map (line_of c.args.missing c.args.name.now) (absent c.args.count c.args.targets.now)) (line_of c.args.missing c.args.name.now) c.args.count c.args.targets.now c.loop-target.target-index c.target-item.result true c.loop-target-test.true c.target-item.is
    (sym (c.in_ok-is_told.ensures.told ∙ numbers-told c.args.count (take c.loop-target.target-index c.args.targets.now) c.loop-target.told.keys c.target-item.result.id c.loop-target.invariant.numbers) ∙ c.if-not-branch.false)
    c.loop-target.invariant.way)
    c.in_err-say_missing.ensures.said)

-- Another line was printed.
pub loop-target-preserved : goal.loop-target-preserved
loop-target-preserved g c = record {
  report = search rules;
  numbers = numbers-more c.args.count c.args.targets.now c.loop-target.target-index c.target-item.result c.loop-target.told.keys c.is_told.new.told.keys c.loop-target-test.true c.target-item.is c.loop-target.invariant.numbers c.in_ok-is_told.ensures.numbers;
  way =
      SaysUpTo-more (g.P.Report.lines c.args.report.now) (g.P.Report.lines c.loop-target.report) (g.P.Report.lines c.say_missing.new.report) (map (line_of c.args.missing c.args.name.now) (absent c.args.count c.args.targets.now)) (line_of c.args.missing c.args.name.now c.target-item.result.id ∷ []) (map (line_of c.args.missing c.args.name.now) (absent_left c.args.count (take (c.loop-target.target-index + 1) c.args.targets.now) (drop (c.loop-target.target-index + 1) c.args.targets.now)))
      (absent-next (g.P.Report.lines c.args.report.now) (g.P.Report.lines c.loop-target.report) (map (line_of c.args.missing c.args.name.now) (absent c.args.count c.args.targets.now)) (line_of c.args.missing c.args.name.now) c.args.count c.args.targets.now c.loop-target.target-index c.target-item.result true c.loop-target-test.true c.target-item.is
      (sym (c.in_ok-is_told.ensures.told ∙ numbers-told c.args.count (take c.loop-target.target-index c.args.targets.now) c.loop-target.told.keys c.target-item.result.id c.loop-target.invariant.numbers) ∙ c.if-not-branch.false)
      c.loop-target.invariant.way)
      c.in_ok-say_missing.ensures.said;
}

-- All lines were printed.
pub returns-clause-said : goal.returns-clause-said
returns-clause-said g c =
    let all : length c.args.targets.now ≤ c.loop-target.target-index = omega (arith, c.loop-target-test.false) in
    SaysUpTo-ends (g.P.Report.lines c.args.report.now) (g.P.Report.lines c.loop-target.report) (map (line_of c.args.missing c.args.name.now) (absent c.args.count c.args.targets.now))
    (subst (SaysUpTo (g.P.Report.lines c.args.report.now) (g.P.Report.lines c.loop-target.report) (map (line_of c.args.missing c.args.name.now) (absent c.args.count c.args.targets.now))) (absent-ends c.args.count c.args.targets.now c.loop-target.target-index (line_of c.args.missing c.args.name.now) all) c.loop-target.invariant.way)
