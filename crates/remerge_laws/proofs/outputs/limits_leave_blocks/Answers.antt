use Rattle.remerge_laws.proofs.BlockLemmas.{limits-leave}
use Rattle.remerge_laws.proofs.outputs.limits_leave_blocks.Goals as goal

pub returns : goal.returns
returns c = limits-leave
