use Rattle.std.proofs.Common.{◌<◌, Bool, List, length, refl, ap, subst, arith}
use Rattle.std.proofs.lemmas.Option.{slice_get_within}
use Rattle.time_merge.specs.Merge.{StepsTo}
use Rattle.time_merge.proofs.QueueLemmas.{count-kept}
use Rattle.remuxer.specs.declared.placed.Ahead.{Ahead}
use Rattle.remuxer.proofs.NextLemmas.{advances-ended, advances-next, goes-ended, goes-next}
use Rattle.remuxer.proofs.PlacedLemmas.{PlacesOne, places-one}
use Rattle.remuxer.proofs.placed.PlacedBlocks.advance.Given.{Over}
use Rattle.remuxer.proofs.placed.PlacedBlocks.advance.Goals as goal
use Rattle.remuxer.proofs.placed.PlacedBlocks.advance.Goals.{After-assign-place}

-- The merge has no more blocks.
pub returns-in_default-clause-advances : goal.returns-in_default-clause-advances
returns-in_default-clause-advances g c =
    let says = c.in_ok-lane.ensures in
    advances-ended g.R.Reads c.args.src.now c.step.new.src c.args.self.now c.step.new.self c.args.self.now.cuts says.standing c.requires says.ready (rw c.in_default.is at says.moves) (rw c.in_default.is at says.gives) refl

pub returns-in_default-clause-goes : goal.returns-in_default-clause-goes
returns-in_default-clause-goes g c =
    let says = c.in_ok-lane.ensures in
    goes-ended g.R.Reads c.args.src.now c.step.new.src c.args.self.now c.step.new.self c.args.self.now.cuts says.standing c.requires says.ready (rw c.in_default.is at says.moves) (rw c.in_default.is at says.gives) refl says.pays

-- The merge has a next block.
pub lane-given-requires : goal.lane-given-requires
lane-given-requires g c = let moves = rw c.in-Some.is at c.in_ok-lane.ensures.moves in slice_get_within c.step.new.self.queues c.in-Some.lane moves.steps.queue moves.steps.here

pub bounds-as_slice-lane : goal.bounds-as_slice-lane
bounds-as_slice-lane g c =
    let moves = rw c.in-Some.is at c.in_ok-lane.ensures.moves in
    let inside : c.in-Some.lane < length c.step.new.self.queues = slice_get_within c.step.new.self.queues c.in-Some.lane moves.steps.queue moves.steps.here in
    omega (arith, inside, count-kept c.args.self.now.merge.queues c.step.new.self.queues moves.keeps, c.requires.drives, ap (λ (ds : List Bool). length ds) c.as_slice.ensures)

-- the next block at its place
abbrev next : (g : Over) (c : After-assign-place g) → Ahead
next g c = record { lane = c.in-Some.lane; place = c.assign-place.result }

places : (g : Over) (c : After-assign-place g) (steps : StepsTo c.args.self.now.merge c.step.new.self c.in-Some.lane) → PlacesOne c.args.self.now.drives steps.queue.lane c.args.self.now.cuts c.assign-place.new.self (next g c)
places g c steps =
    subst (λ (ds : List Bool). PlacesOne ds steps.queue.lane c.args.self.now.cuts c.assign-place.new.self (next g c)) c.as_slice.ensures
    (places-one c.as_slice.result.now c.args.self.now.merge c.step.new.self c.in-Some.lane c.lane-given.result.now c.head.result.now c.load_of-load.result c.assign-place.result c.args.self.now.cuts c.assign-place.new.self steps
    c.lane-given.ensures c.head.ensures c.load_of-load.ensures c.assign-place.ensures.place c.assign-place.ensures.steps)

pub returns-clause-advances : goal.returns-clause-advances
returns-clause-advances g c =
    let after = (goal.at.returns-clause-advances g c).After-assign-place in
    let says = c.in_ok-lane.ensures in
    let moves = rw c.in-Some.is at says.moves in
    advances-next g.R.Reads c.args.src.now c.step.new.src c.args.self.now c.step.new.self c.assign-place.new.self says.standing c.requires says.ready (next g after) moves (rw c.in-Some.is at says.gives) (places g after moves.steps)

pub returns-clause-goes : goal.returns-clause-goes
returns-clause-goes g c =
    let after = (goal.at.returns-clause-goes g c).After-assign-place in
    let says = c.in_ok-lane.ensures in
    let moves = rw c.in-Some.is at says.moves in
    goes-next g.R.Reads c.args.src.now c.step.new.src c.args.self.now c.step.new.self c.assign-place.new.self says.standing c.requires says.ready (next g after) moves (rw c.in-Some.is at says.gives) (places g after moves.steps) says.pays
