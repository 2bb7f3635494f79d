use Rattle.output_laws.proofs.OrderLemmas.{order-again}
use Rattle.output_laws.proofs.merges.blocks_are_read_in_order.Goals as goal

pub returns : goal.returns
returns c = order-again
