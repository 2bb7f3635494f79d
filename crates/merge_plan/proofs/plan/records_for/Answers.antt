-- The tracks that were put in order are the inputs' tracks.
use Rattle.std.proofs.Common.{ap, ◌∙◌}
use Rattle.merge_plan.specs.Lent.{lent}
use Rattle.merge_plan.proofs.plan.records_for.Goals as goal

pub output_of-requires-clause-taken : goal.output_of-requires-clause-taken
output_of-requires-clause-taken c = ap lent c.as_slice-3.ensures.value ∙ c.in_ok-sorted.ensures
