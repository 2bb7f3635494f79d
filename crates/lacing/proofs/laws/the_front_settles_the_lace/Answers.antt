use Rattle.lacing.proofs.SettledLemmas.{HasLace-settled}
use Rattle.lacing.proofs.laws.the_front_settles_the_lace.Goals as goal

pub returns : goal.returns
returns c = HasLace-settled
