use Rattle.std.proofs.Common.{◌≡◌, ℕ, ◌+◌, ◌<◌, ◌≤◌, ◌==◌, Bool, false, if◌then◌else◌, List, ◌∷◌, [], ◌++◌, length, drop, map, sym, ap, subst, rules, arith}
use Rattle.std.proofs.lemmas.Bool.Decides.{nat_tests}
use Rattle.std.proofs.lemmas.List.{drop_all, get_or_default}
use Rattle.std.proofs.lemmas.Result.{err_from_is_err_and}
use Rattle.mkv_io.specs.Lines.{with_lines}
use Rattle.mkv_io.specs.declared.damage.Damage.{Damage}
use Rattle.cluster_reader.specs.ToldDamages.{ToldDamages}
use Rattle.mkv_lines.specs.Line.{warning_line}
use Rattle.mkv_lines.specs.Said.{ReportLines, SaysPart, SaysUpTo}
use Rattle.mkv_lines.proofs.SaidLemmas.{SaysPart-before, SaysPart-behind, SaysUpTo-ends, SaysUpTo-more, SaysUpTo-stops}
use Rattle.mkv_extract.specs.Told.{more_line, others, warnings}
use Rattle.mkv_extract.specs.declared.telling.WarningKind.{WarningKind}
use Rattle.mkv_extract.proofs.ToldLemmas.{warnings-next}
use Rattle.mkv_extract.proofs.telling.warn.Goals as goal

-- A warning couldn't be printed.
pub returns-in_err-warn_of-clause-said : goal.returns-in_err-warn_of-clause-said
returns-in_err-warn_of-clause-said g c =
    let first = c.first-first.result.now in
    let k = c.loop-damage.damage-index in
    let p = err_from_is_err_and c.from_residual.result c.from_residual.ensures.1 in
    rw p.1
    (subst (λ (list : List Damage). SaysPart (g.P.Report.lines c.args.report.now) (g.P.Report.lines c.warn_of.new.report) (map (warning_line c.args.name.now) list ++ others c.args.what c.args.name.now c.args.damages.now.more)) c.first-first.ensures
    (SaysPart-before (g.P.Report.lines c.args.report.now) (g.P.Report.lines c.warn_of.new.report) (map (warning_line c.args.name.now) first) (others c.args.what c.args.name.now c.args.damages.now.more)
    (SaysUpTo-stops (g.P.Report.lines c.args.report.now) (g.P.Report.lines c.loop-damage.report) (g.P.Report.lines c.warn_of.new.report) (map (warning_line c.args.name.now) first) (warning_line c.args.name.now _ ∷ []) (map (warning_line c.args.name.now) (drop (k + 1) first))
    (warnings-next (g.P.Report.lines c.args.report.now) (g.P.Report.lines c.loop-damage.report) (map (warning_line c.args.name.now) first) c.args.name.now first k _ c.loop-damage-test.true (get_or_default first k _ _ c.loop-damage-test.true) c.loop-damage.invariant.way)
    c.in_err-warn_of.ensures.said)))

-- Another warning was printed.
pub loop-damage-preserved : goal.loop-damage-preserved
loop-damage-preserved g c = record {
  report = search rules;
  way =
      let first = c.first-first.result.now in
      let k = c.loop-damage.damage-index in
      SaysUpTo-more (g.P.Report.lines c.args.report.now) (g.P.Report.lines c.loop-damage.report) (g.P.Report.lines c.warn_of.new.report) (map (warning_line c.args.name.now) first) (warning_line c.args.name.now _ ∷ []) (map (warning_line c.args.name.now) (drop (k + 1) first))
      (warnings-next (g.P.Report.lines c.args.report.now) (g.P.Report.lines c.loop-damage.report) (map (warning_line c.args.name.now) first) c.args.name.now first k _ c.loop-damage-test.true (get_or_default first k _ _ c.loop-damage-test.true) c.loop-damage.invariant.way)
      c.in_ok-warn_of.ensures.said;
}

-- The warnings of all the first damaged places were printed.
all-warned : (old now : ReportLines) (name : List ℕ) (first : List Damage) (k : ℕ) → length first ≤ k → SaysUpTo old now (map (warning_line name) first) (map (warning_line name) (drop k first)) → now ≡ with_lines old (map (warning_line name) first)
all-warned old now name first k all way =
    SaysUpTo-ends old now (map (warning_line name) first) (subst (SaysUpTo old now (map (warning_line name) first)) (ap (map (warning_line name)) (drop_all k first all)) way)

-- If there are others, their number is printed.
others-some : (what : WarningKind) (name : List ℕ) (more : ℕ) → 0 < more → others what name more ≡ more_line what name more ∷ []
others-some what name more some = let test : (more == 0) ≡ false = grind (arith, nat_tests, some) in ap (λ (a : Bool). if a then [] else more_line what name more ∷ []) test

-- The number of the others couldn't be printed.
returns-others : (old mid new : ReportLines) (what : WarningKind) (name : List ℕ) (d : ToldDamages) (first : List Damage) (more : ℕ) → first ≡ d.first → more ≡ d.more → mid ≡ with_lines old (map (warning_line name) first) → 0 < more → SaysPart mid new (more_line what name more ∷ []) → SaysPart old new (warnings what name d)
returns-others old mid new what name d first more is number said some part =
    subst (λ (list : List Damage). SaysPart old new (map (warning_line name) list ++ others what name d.more)) is
    (subst (λ (n : ℕ). SaysPart old new (map (warning_line name) first ++ others what name n)) number
    (SaysPart-behind old mid new (map (warning_line name) first) (others what name more) said
    (subst (SaysPart mid new) (sym (others-some what name more some)) part)))

pub returns-in_err-say_more-clause-said : goal.returns-in_err-say_more-clause-said
returns-in_err-say_more-clause-said g c =
    let first = c.first-first.result.now in
    let all : length first ≤ c.loop-damage.damage-index = omega (arith, c.loop-damage-test.false) in
    let p = err_from_is_err_and c.from_residual-in_err-say_more.result c.from_residual-in_err-say_more.ensures.1 in
    rw p.1
    (returns-others (g.P.Report.lines c.args.report.now) (g.P.Report.lines c.loop-damage.report) (g.P.Report.lines c.say_more.new.report) c.args.what c.args.name.now c.args.damages.now first c.more-more.result c.first-first.ensures c.more-more.ensures
    (all-warned (g.P.Report.lines c.args.report.now) (g.P.Report.lines c.loop-damage.report) c.args.name.now first c.loop-damage.damage-index all c.loop-damage.invariant.way)
    c.if-more-gt0.true
    c.in_err-say_more.ensures.said)
