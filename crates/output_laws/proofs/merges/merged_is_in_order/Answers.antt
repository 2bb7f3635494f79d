use Rattle.output_laws.proofs.RisingLemmas.{merged-rises}
use Rattle.output_laws.proofs.merges.merged_is_in_order.Goals as goal

pub returns : goal.returns
returns c = merged-rises
