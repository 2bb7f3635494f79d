use Rattle.std.proofs.Common.{◌≡◌, ◌++◌, All, List, [], map, sym, ◌∙◌, ap, subst, arith}
use Rattle.std.specs.List.{AllZip}
use Rattle.std.proofs.lemmas.List.{nil_from_length}
use Rattle.std.proofs.lemmas.List.Elements.{All-tail}
use Rattle.lanes.specs.Lane.{LaneSeen}
use Rattle.output_model.specs.declared.rule.CueRule.{CueRule}
use Rattle.remux_plan.specs.declared.plan.PlannedLane.{PlannedLane}
use Rattle.remuxer.specs.Started.{CanStart, IsStarted}
use Rattle.remuxer.proofs.StartedLemmas.{listed-all, listed-next, started-all, started-next}
use Rattle.remuxer.proofs.planned.StartedLanes.start.Goals as goal

pub loop-lane-preserved : goal.loop-lane-preserved
loop-lane-preserved c =
    let lane = c.in-Some.lane in
    let rest = c.next.new.self.rest.items in
    let all = c.into_iter-lane-iterator.result.rest.items in
    let old = c.loop-lane.started in
    let new = c.add.new.self in
    let is = c.in-Some.ensures.steps.0 in
    let inv = c.loop-lane.invariant in
    let adds = c.in_ok-add.ensures in
    let rule : PlannedLane → CueRule = λ p. p.cues in
    record {
      can = All-tail CanStart lane rest (subst (All CanStart) is inv.can);
      lanes = started-next c.args.scale lane rest all old new adds (subst (λ (ps : List PlannedLane). (ls : List LaneSeen) → AllZip (IsStarted c.args.scale) ps ls → AllZip (IsStarted c.args.scale) all (old.lanes ++ ls)) is inv.lanes);
      rules = listed-next rule lane rest old.rules new.rules (map rule all) adds.rules (ap (λ ps. old.rules ++ map rule ps) (sym is) ∙ inv.rules);
      drives = listed-next (λ (p : PlannedLane). p.drives) lane rest old.drives new.drives (map (λ (p : PlannedLane). p.drives) all) adds.drives (ap (λ ps. old.drives ++ map (λ (p : PlannedLane). p.drives) ps) (sym is) ∙ inv.drives);
      inputs = listed-next (λ (p : PlannedLane). p.inputs) lane rest old.inputs new.inputs (map (λ (p : PlannedLane). p.inputs) all) adds.inputs (ap (λ ps. old.inputs ++ map (λ (p : PlannedLane). p.inputs) ps) (sym is) ∙ inv.inputs);
    }

pub returns : goal.returns
returns c =
    let rest = c.loop-lane.lane-iterator.rest in
    let all = c.into_iter-lane-iterator.result.rest.items in
    let started = c.loop-lane.started in
    let inv = c.loop-lane.invariant in
    let none : rest.items ≡ [] = nil_from_length rest.items (omega (arith, rest.ok, c.in-None.ensures.steps.0)) in
    let whole : all ≡ c.args.planned = c.into_iter-lane-iterator.ensures.into_iter_gives.0 ∙ c.into_vec-lane-items.ensures in
    record {
      lanes = subst (λ (ps : List PlannedLane). AllZip (IsStarted c.args.scale) ps started.lanes) whole (started-all c.args.scale rest.items all started.lanes none inv.lanes);
      rules = listed-all (λ (p : PlannedLane). p.cues) rest.items started.rules (map (λ (p : PlannedLane). p.cues) all) none inv.rules ∙ ap (map (λ (p : PlannedLane). p.cues)) whole;
      drives = listed-all (λ (p : PlannedLane). p.drives) rest.items started.drives (map (λ (p : PlannedLane). p.drives) all) none inv.drives ∙ ap (map (λ (p : PlannedLane). p.drives)) whole;
      inputs = listed-all (λ (p : PlannedLane). p.inputs) rest.items started.inputs (map (λ (p : PlannedLane). p.inputs) all) none inv.inputs ∙ ap (map (λ (p : PlannedLane). p.inputs)) whole;
    }
