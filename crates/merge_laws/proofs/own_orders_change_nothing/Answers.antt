use Rattle.merge_laws.proofs.OrderVerdictLemmas.{own-orders}
use Rattle.merge_laws.proofs.own_orders_change_nothing.Goals as goal

pub returns : goal.returns
returns c = own-orders
