-- The first input that differs is found.
use Rattle.std.proofs.Common.{◌+◌, drop, map, sym, ap, ◌∙◌}
use Rattle.merge_inputs.specs.Input.{read_in}
use Rattle.merge_plan.specs.Appending.{differs_from}
use Rattle.merge_plan.proofs.AppendLemmas.{input-differs, input-none}
use Rattle.merge_plan.proofs.appending.append_refusal.Goals as goal

pub returns-in-Some : goal.returns-in-Some
returns-in-Some c =
    sym (input-differs c.loop-k.before.now c.args.inputs.now c.loop-k.k _ c.loop-k-test.true c.index-inputs-k.is _ (sym c.difference_at.ensures ∙ c.in-Some.is)) ∙ c.loop-k.invariant

pub loop-k-preserved : goal.loop-k-preserved
loop-k-preserved c =
    ap (λ before. differs_from before (c.loop-k.k + 1) (map read_in (drop (c.loop-k.k + 1) c.args.inputs.now))) c.lane_tracks-before.ensures
    ∙ sym (input-differs c.loop-k.before.now c.args.inputs.now c.loop-k.k _ c.loop-k-test.true c.index-inputs-k.is _ (sym c.difference_at.ensures ∙ c.in_default.is)) ∙ c.loop-k.invariant

pub returns : goal.returns
returns c = sym (input-none c.loop-k.before.now c.args.inputs.now c.loop-k.k c.loop-k-test.false) ∙ c.loop-k.invariant
