use Rattle.merge_laws.proofs.OrderLemmas.{orders-keep}
use Rattle.merge_laws.proofs.orders_keep_tracks.Goals as goal

pub returns : goal.returns
returns c = orders-keep
