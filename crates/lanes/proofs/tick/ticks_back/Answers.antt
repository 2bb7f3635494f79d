use Rattle.std.proofs.Common.{◌≡◌, ◌≤◌, ◌+◌, ◌/◌, arith, rules}
use Rattle.std.proofs.lemmas.Grind.{common_steps}
use Rattle.lanes.specs.Times.{ticks_back}
use Rattle.lanes.proofs.TickLemmas.{ticks_before-small}
use Rattle.lanes.proofs.tick.ticks_back.Goals as goal

pub returns-clause-small : goal.returns-clause-small
returns-clause-small c =
    let e : c.if-size-from.back ≡ ticks_back c.args.scale c.args.t c.args.size = first_of (search rules, grind (arith, common_steps)) in
    let small : ticks_back c.args.scale c.args.t c.args.size ≤ c.args.size = ticks_before-small c.args.scale (c.args.t + c.args.scale / 2) c.args.size (omega arith) in
    omega arith
