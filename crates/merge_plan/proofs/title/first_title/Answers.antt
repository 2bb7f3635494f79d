-- A title that isn't empty is the first one if the previous titles are empty.
use Rattle.std.proofs.Common.{sym, ◌∙◌}
use Rattle.merge_plan.proofs.RecordLemmas.{title-found, title-empty, title-none}
use Rattle.merge_plan.proofs.title.first_title.Goals as goal

pub returns-then-not-is_empty : goal.returns-then-not-is_empty
returns-then-not-is_empty c =
    let is = c.is_empty.ensures in
    c.as_str.ensures.same ∙ sym (title-found _ _ _ c.loop-input-test.true c.input-item.is (λ none. (let full = c.if-not-is_empty.true in let never = is.1 none in absurd (cc)))) ∙ c.loop-input.invariant

pub loop-input-preserved : goal.loop-input-preserved
loop-input-preserved c = sym (title-empty _ _ _ c.loop-input-test.true c.input-item.is (c.is_empty.ensures.0 c.if-not-is_empty.false)) ∙ c.loop-input.invariant

pub returns : goal.returns
returns c = sym (title-none _ _ c.loop-input-test.false) ∙ c.loop-input.invariant
