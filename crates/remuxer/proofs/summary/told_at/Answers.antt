use Rattle.std.proofs.Common.{ℕ, eqb, sym, ◌∙◌, ap, rules, tests}
use Rattle.std.specs.List.{slice_get}
use Rattle.std.specs.Option.{option_and_then}
use Rattle.std.proofs.lemmas.Iterator.{YieldsList-from_slice}
use Rattle.std.proofs.lemmas.Iterator.Search.{position_from_yields_List}
use Rattle.remuxer.proofs.summary.told_at.Goals as goal

pub returns-in_err-link : goal.returns-in_err-link
returns-in_err-link c =
    let here = position_from_yields_List (λ (n : ℕ). eqb n c.args.input) _ _ c.position.result c.position.ensures.ran (YieldsList-from_slice c.args.inputs.now cc) (λ x b q k. search (rules, tests)) in
    rw c.from_residual.ensures (ap (option_and_then (slice_get c.args.lane.now.walk.told.items)) (sym c.in_err-link.was ∙ here))

pub returns : goal.returns
returns c =
    let here = position_from_yields_List (λ (n : ℕ). eqb n c.args.input) _ _ c.position.result c.position.ensures.ran (YieldsList-from_slice c.args.inputs.now cc) (λ x b q k. search (rules, tests)) in
    c.damages.ensures ∙ ap (option_and_then (slice_get c.args.lane.now.walk.told.items)) (sym c.in_ok-link.was ∙ here)
