use Rattle.lacing.proofs.LaceLemmas.{IsLace-unique}
use Rattle.lacing.proofs.laws.head_settles_sizes.Goals as goal

pub returns : goal.returns
returns c = IsLace-unique
