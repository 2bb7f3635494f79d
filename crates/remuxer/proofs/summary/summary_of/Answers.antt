use Rattle.std.proofs.Common.{◌≡◌, ℕ, ◌+◌, option_copied, sym, ◌∙◌, ap, subst, arith}
use Rattle.std.specs.List.{range_with_len}
use Rattle.remux_plan.specs.declared.TheConstants.{MAX_INPUTS}
use Rattle.remux_plan.specs.declared.summary.Summary.{Summary}
use Rattle.remuxer.specs.Taking.{told_by}
use Rattle.remuxer.specs.Told.{HasDamages}
use Rattle.remuxer.proofs.ToldLemmas.{damages-next, damages-none}
use Rattle.remuxer.proofs.summary.summary_of.Goals as goal
use Rattle.remuxer.proofs.summary.summary_of.Goals.{in-Some+in_ok-add_damages, in_default}

pub loop-input-preserved : goal.loop-input-preserved
loop-input-preserved c =
    let lanes = c.args.inputs.now in
    let tolds = told_by c.args.merge.now in
    let input = c.loop-input.input in
    let old = c.loop-input.summary in
    let inv = c.loop-input.invariant in
    elim c.match-told_of.branch [
      | in-Some+in_ok-add_damages w ↦ record {
        outputs = ap (λ (s : Summary). s.outputs) w.summary-is ∙ w.in_ok-add_damages.ensures.outputs ∙ inv.outputs;
        damages = subst (HasDamages lanes tolds (range_with_len 0 (input + 1))) (sym w.summary-is)
            (damages-next lanes tolds input old w.add_damages.new.summary inv.damages w.in-Some.told.now (sym c.told_of.ensures ∙ ap option_copied w.in-Some.is) w.in_ok-add_damages.ensures);
      }
      | in_default w ↦ record {
        outputs = ap (λ (s : Summary). s.outputs) w.summary-is ∙ inv.outputs;
        damages = damages-none lanes tolds input old c.match-told_of.summary inv.damages (sym c.told_of.ensures ∙ ap option_copied w.in_default.is) w.summary-is;
      }
    ]

pub returns-clause-damages : goal.returns-clause-damages
returns-clause-damages c =
    let end : c.loop-input.input ≡ MAX_INPUTS = omega (arith, c.loop-input-test.false, c.loop-input.auto.input-end) in
    subst (λ (n : ℕ). HasDamages c.args.inputs.now (told_by c.args.merge.now) (range_with_len 0 n) c.loop-input.summary) end c.loop-input.invariant.damages
