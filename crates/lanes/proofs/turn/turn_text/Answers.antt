use Rattle.std.proofs.Common.{◌≡◌, length, ◌<◌, ◌≤◌, ◌+◌, ◌^◌, refl, sym, arith}
use Rattle.std.proofs.lemmas.Option.{slice_get_within}
use Rattle.merge_model.specs.FileLinks.{IsSmallEntry, IsSmallLink}
use Rattle.lanes.specs.Placed.{text_lent}
use Rattle.merge_model.specs.declared.link.Link.TheVariants.{Entries}
use Rattle.lanes.specs.declared.walk.Walk.{Walk}
use Rattle.lanes.proofs.TrackLemmas as turns
use Rattle.lanes.proofs.WalkLemmas.{has-left}
use Rattle.lanes.proofs.turn.turn_text.Goals as goal
use Rattle.lanes.proofs.turn.turn_text.Goals.{After-place_entry}

-- ---- after the last entry

pub leave-requires : goal.leave-requires
leave-requires c = slice_get_within c.args.links.now c.args.walk.now.at (Entries c.args.text.now) c.requires.here

pub returns-in_default-clause-gives : goal.returns-in_default-clause-gives
returns-in_default-clause-gives c = λ f ready.
    let w = c.args.walk.now in
    let has = has-left (length c.args.links.now) w c.leave.new.self c.leave.ensures in
    let before : w.at < length c.args.links.now = slice_get_within c.args.links.now w.at (Entries c.args.text.now) c.requires.here in
    let inside : w.at < length w.told.items = omega (arith, ready.told) in
    let r = turns.element-at w.told.items w.at inside in
    turns.turns-text_ends f c.args.scale c.args.links.now c.args.text.now w c.leave.new.self c.requires.here (sym c.in_default.ensures) has r.0 (ready.stopped c.requires.cursor) r.1 ready.told

pub returns-in_default-clause-moves : goal.returns-in_default-clause-moves
returns-in_default-clause-moves c =
    let has = has-left (length c.args.links.now) c.args.walk.now c.leave.new.self c.leave.ensures in
    record { on = turns.text_ends-on c.args.links.now c.args.text.now c.args.walk.now c.leave.new.self c.requires.here has; lends = tt }

pub returns-in_default-clause-pays : goal.returns-in_default-clause-pays
returns-in_default-clause-pays c = λ f.
    let has = has-left (length c.args.links.now) c.args.walk.now c.leave.new.self c.leave.ensures in
    turns.text_ends-pays f c.args.links.now c.args.text.now c.args.walk.now c.leave.new.self c.requires.here has

-- ---- an entry

pub place_entry-requires-clause-moves : goal.place_entry-requires-clause-moves
place_entry-requires-clause-moves c = (turns.all-at IsSmallLink c.args.links.now c.args.walk.now.at (Entries c.args.text.now) c.requires.small c.requires.here).moves

pub place_entry-requires-clause-small : goal.place_entry-requires-clause-small
place_entry-requires-clause-small c =
    turns.all-at IsSmallEntry c.args.text.now.entries c.args.walk.now.next c.in-Some.entry.now
    (turns.all-at IsSmallLink c.args.links.now c.args.walk.now.at (Entries c.args.text.now) c.requires.small c.requires.here).entries
    (sym c.in-Some.ensures)

reads : (c : After-place_entry) (new : Walk) → new.at ≡ c.args.walk.now.at → new.next ≡ c.args.walk.now.next + 1 → new.told ≡ c.args.walk.now.told → turns.ReadsText c.args.links.now c.args.text.now c.args.walk.now new c.in-Some.entry.now
reads c new same next told = record { at = c.requires.here; same = same; here = sym c.in-Some.ensures; next = next; told = told }

-- the walk after a dropped entry
abbrev behind : After-place_entry → Walk
behind c = record c.args.walk.now { next = c.args.walk.now.next + 1; placed = c.place_entry.new.placed }

pub returns-else-place_entry-clause-gives : goal.returns-else-place_entry-clause-gives
returns-else-place_entry-clause-gives c = λ f ready.
    let after = (goal.at.returns-else-place_entry-clause-gives c).After-place_entry in
    turns.text-other f c.args.scale (reads after (behind after) refl refl refl) refl (rw c.if-place_entry.false at c.place_entry.ensures.becomes)

pub returns-else-place_entry-clause-moves : goal.returns-else-place_entry-clause-moves
returns-else-place_entry-clause-moves c =
    let after = (goal.at.returns-else-place_entry-clause-moves c).After-place_entry in
    record { on = turns.text-on (reads after (behind after) refl refl refl); lends = tt }

pub returns-else-place_entry-clause-pays : goal.returns-else-place_entry-clause-pays
returns-else-place_entry-clause-pays c =
    let after = (goal.at.returns-else-place_entry-clause-pays c).After-place_entry in
    turns.text-pays (reads after (behind after) refl refl refl)

-- the walk after a placed entry
abbrev given : After-place_entry → Walk
given c = record c.args.walk.now { next = c.args.walk.now.next + 1; placed = c.place_entry.new.placed; greatest = c.place_entry.new.placed.head.order }

pub returns-then-place_entry-clause-gives : goal.returns-then-place_entry-clause-gives
returns-then-place_entry-clause-gives c = λ f ready.
    let after = (goal.at.returns-then-place_entry-clause-gives c).After-place_entry in
    turns.text-gives f c.args.scale (reads after (given after) refl refl refl) (rw c.if-place_entry.true at c.place_entry.ensures.becomes) refl

pub returns-then-place_entry-clause-moves : goal.returns-then-place_entry-clause-moves
returns-then-place_entry-clause-moves c =
    let after = (goal.at.returns-then-place_entry-clause-moves c).After-place_entry in
    let it = reads after (given after) refl refl refl in
    record {
      on = turns.text-on it;
      lends = turns.lends-here c.args.scale c.args.links.now (given after) (text_lent c.in-Some.entry.now.text c.place_entry.new.placed) (turns.text-here it) (rw c.if-place_entry.true at c.place_entry.ensures.lent) (rw c.if-place_entry.true at c.place_entry.ensures.ticks) refl;
    }

pub returns-then-place_entry-clause-pays : goal.returns-then-place_entry-clause-pays
returns-then-place_entry-clause-pays c =
    let after = (goal.at.returns-then-place_entry-clause-pays c).After-place_entry in
    turns.text-pays (reads after (given after) refl refl refl)

pub overflow_add-walk : goal.overflow_add-walk
overflow_add-walk c =
    let small = turns.all-at IsSmallLink c.args.links.now c.args.walk.now.at (Entries c.args.text.now) c.requires.small c.requires.here in
    let few : length c.args.text.now.entries ≤ 2 ^ 24 = small.few in
    let inside : c.args.walk.now.next < length c.args.text.now.entries = slice_get_within c.args.text.now.entries c.args.walk.now.next c.in-Some.entry.now (sym c.in-Some.ensures) in
    omega arith
