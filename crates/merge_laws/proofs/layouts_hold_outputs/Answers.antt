use Rattle.merge_laws.proofs.MergeLemmas.{layouts-hold}
use Rattle.merge_laws.proofs.layouts_hold_outputs.Goals as goal

pub returns : goal.returns
returns c = layouts-hold
