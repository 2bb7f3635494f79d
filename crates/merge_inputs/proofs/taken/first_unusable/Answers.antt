use Rattle.std.proofs.Common.{sym, ◌∙◌}
use Rattle.merge_inputs.proofs.TakenLemmas.{unusable-here, usable-some}
use Rattle.merge_inputs.proofs.taken.first_unusable.Goals as goal

-- A track can't be used.
pub returns-in-Err : goal.returns-in-Err
returns-in-Err c =
    sym (c.loop-each.invariant
    ∙ unusable-here c.args.taken.now c.loop-each.each-index c.each-item.result c.in-Err.damage c.loop-each-test.true c.each-item.is
    (usable-some c.each-item.result.track c.in-Err.damage (sym c.in-Err.ensures.exact)))
