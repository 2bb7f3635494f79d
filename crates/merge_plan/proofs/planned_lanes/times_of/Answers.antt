use Rattle.std.proofs.Common.{◌∙◌}
use Rattle.merge_plan.proofs.TimesLemmas.{times-passed}
use Rattle.merge_plan.proofs.planned_lanes.times_of.Goals as goal

-- The timestamps are another track's.
pub loop-each-preserved : goal.loop-each-preserved
loop-each-preserved c =
    times-passed c.args.taken.now.id c.as_slice-each-items.result.now c.loop-each.each-index c.each-item.result c.loop-each-test.true c.each-item.is c.if-each-taken.false
    ∙ c.loop-each.invariant
