use Rattle.std.proofs.Common.{arith, rules}
use Rattle.std.proofs.lemmas.Int.{ints}
use Rattle.lanes.proofs.TickLemmas.{forward, backward}
use Rattle.lanes.proofs.tick.ticks_to.Goals as goal

pub returns-then-away-ge0-clause-exact : goal.returns-then-away-ge0-clause-exact
returns-then-away-ge0-clause-exact c = forward c.args.scale c.args.t c.args.away c.ticks_for.result (omega arith) (omega (arith, ints)) (omega arith) (search rules)

pub returns-else-away-ge0-clause-exact : goal.returns-else-away-ge0-clause-exact
returns-else-away-ge0-clause-exact c = backward c.args.scale c.args.t c.args.away c.ticks_back.result (omega arith) (omega (arith, ints)) (omega arith) (search rules)
