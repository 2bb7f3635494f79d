use Rattle.std.proofs.Common.{◌≡◌, ℕ, ◌+◌, ◌*◌, ◌≤◌, List, length, Some, None, Result, Ok, Err, Bool, ◌<◌, refl, sym, ◌∙◌, ap, subst, arith}
use Rattle.std.specs.Prelude.{◌||◌, ◌&&◌, not}
use Rattle.std.proofs.Math.ListN.{length-set}
use Rattle.std.proofs.lemmas.Option.{slice_get_within, slice_get_read}
use Rattle.mkv_io.specs.declared.outside.FileId.{FileId}
use Rattle.mkv_io.specs.Sources.{live_files}
use Rattle.block_reader.specs.Buffered.{block_of}
use Rattle.cluster_reader.specs.Reading.{CanRead, GivesWanted, left_of}
use Rattle.cluster_reader.specs.declared.step.Step.{Step}
use Rattle.cluster_reader.specs.declared.filter.BlockFilter.TheVariants as takes
use Rattle.mkv_io.specs.Told.{IfVisible}
use Rattle.mkv_io.specs.declared.outside.ReadEnd.{ReadEnd}
use Rattle.std.specs.List.{All}
use Rattle.output_model.specs.OutputBlock.{OutputBlock}
use Rattle.merge_model.specs.FileLinks.{IsOpenLink, IsSmallLink, IsToldLink, octets_in, track_events}
use Rattle.mkv_io.specs.declared.outside.TheConstants.{LONGEST_FILE}
use Rattle.lanes.specs.Lent.{IsPlaced}
use Rattle.lanes.specs.Placed.{track_lent, track_placed}
use Rattle.merge_model.specs.declared.link.Link.TheVariants.{Track}
use Rattle.lanes.specs.declared.walk.Walk.{Walk}
use Rattle.std.specs.Vec.{with_item}
use Rattle.lanes.proofs.TrackLemmas as turns
use Rattle.lanes.proofs.WalkLemmas.{has-left}
use Rattle.lanes.proofs.turn.turn_track.Given.{Over}
use Rattle.lanes.proofs.turn.turn_track.Goals as goal
use Rattle.lanes.proofs.turn.turn_track.Goals.{After-add, After-advance_for, After-place_block, then-stopped, else-stopped}

-- ---- the cursor is opened

pub returns-in_default-clause-gives : goal.returns-in_default-clause-gives
returns-in_default-clause-gives g c = λ told.
    let f = live_files g.R.Reads c.args.src.now in
    let w = c.args.walk.now in
    let t = c.args.track.now in
    let d = c.in_ok-cursor.cursor in
    let none : w.cursor ≡ None = sym c.in_default.ensures.value in
    let opened = turns.all-at (IsOpenLink f) c.args.links.now w.at (Track t) c.requires.ready.files c.requires.here in
    let content = turns.content-at f c.args.links.now w.at t told c.requires.here in
    let total : f.size t.file.n ≡ c.deref.result.now.total = opened.size ∙ ap (λ o. o.total) (sym c.deref.ensures) in
    let whole : c.deref.result.now.total ≡ length (octets_in f t.file.n) = sym total ∙ sym (g.met.R.Reads.told_size (g.R.Reads.standing c.args.src.now) t.file.n (octets_in f t.file.n) content) in
    let begins : left_of (octets_in f t.file.n) d ≡ track_events f t = c.in_ok-cursor.ensures.left (octets_in f t.file.n) whole ∙ ap (λ o. turns.events_with f t o.segment) c.deref.ensures in
    turns.turns-opened f c.args.scale c.args.links.now t w (record w { cursor = Some d }) d c.requires.here none refl (turns.none-counted f c.args.links.now w c.requires.ready none) (c.requires.ready.stopped none) begins

pub returns-in_default-clause-moves : goal.returns-in_default-clause-moves
returns-in_default-clause-moves g c =
    let f = live_files g.R.Reads c.args.src.now in
    let w = c.args.walk.now in
    let t = c.args.track.now in
    let d = c.in_ok-cursor.cursor in
    let none : w.cursor ≡ None = sym c.in_default.ensures.value in
    let opened = turns.all-at (IsOpenLink f) c.args.links.now w.at (Track t) c.requires.ready.files c.requires.here in
    let total : f.size t.file.n ≡ c.deref.result.now.total = opened.size ∙ ap (λ o. o.total) (sym c.deref.ensures) in
    let can = c.in_ok-cursor.ensures.stands f opened.live total in
    let size : f.size d.file.n ≡ t.outline.value.total = ap (λ (each : FileId). f.size each.n) c.in_ok-cursor.ensures.begins.file ∙ opened.size in
    record {
      on = turns.opened-on f c.args.scale c.args.links.now t w (record w { cursor = Some d }) d c.requires.here none refl (omega (arith, can.inside, size));
      lends = tt;
    }

pub returns-in_default-clause-ready : goal.returns-in_default-clause-ready
returns-in_default-clause-ready g c =
    let f = live_files g.R.Reads c.args.src.now in
    let w = c.args.walk.now in
    let t = c.args.track.now in
    let d = c.in_ok-cursor.cursor in
    let opened = turns.all-at (IsOpenLink f) c.args.links.now w.at (Track t) c.requires.ready.files c.requires.here in
    let total : f.size t.file.n ≡ c.deref.result.now.total = opened.size ∙ ap (λ o. o.total) (sym c.deref.ensures) in
    let can = c.in_ok-cursor.ensures.stands f opened.live total in
    turns.ready-opened f c.args.scale c.args.links.now t w (record w { cursor = Some d }) d c.requires.here (sym c.in_default.ensures.value) refl c.requires.ready can c.in_ok-cursor.ensures.begins.file

pub returns-in_default-clause-pays : goal.returns-in_default-clause-pays
returns-in_default-clause-pays g c =
    let f = live_files g.R.Reads c.args.src.now in
    let w = c.args.walk.now in
    let d = c.in_ok-cursor.cursor in
    turns.opened-pays f c.args.scale c.args.links.now c.args.track.now w (record w { cursor = Some d }) d c.requires.here (sym c.in_default.ensures.value) refl (g.R.Reads.octets_read c.args.src.now)

-- ---- call of the cursor

-- The cursor reads the track's file.
at : (g : Over) (c : After-advance_for g) → CanRead (live_files g.R.Reads c.args.src.now) c.in-Some.cursor.now × (c.in-Some.cursor.now.file ≡ c.args.track.now.file)
at g c = turns.at-track (live_files g.R.Reads c.args.src.now) c.args.links.now c.args.walk.now c.args.track.now c.in-Some.cursor.now c.requires.ready c.requires.here (sym c.in-Some.ensures.value)

reads : (g : Over) (c : After-advance_for g) (new : Walk) → new.at ≡ c.args.walk.now.at → new.cursor ≡ Some c.advance_for.new.self → turns.Reads c.args.links.now c.args.track.now c.args.walk.now new c.in-Some.cursor.now c.advance_for.new.self
reads g c new same now = record { at = c.requires.here; same = same; before = sym c.in-Some.ensures.value; now = now }

given_by : (g : Over) (c : After-advance_for g) (result : Result Step ReadEnd) → All (IsToldLink (live_files g.R.Reads c.args.src.now)) c.args.links.now
    → IfVisible ((live_files g.R.Reads c.args.src.now).content c.in-Some.cursor.now.file.n) (λ bytes. GivesWanted (takes.Track c.args.track.now.number) bytes c.in-Some.cursor.now c.advance_for.new.self result)
    → GivesWanted (takes.Track c.args.track.now.number) (octets_in (live_files g.R.Reads c.args.src.now) c.args.track.now.file.n) c.in-Some.cursor.now c.advance_for.new.self result
given_by g c result told gives = turns.cursor-gives (live_files g.R.Reads c.args.src.now) c.args.links.now c.args.walk.now.at c.args.track.now c.in-Some.cursor.now c.advance_for.new.self result told c.requires.here (at g c).1 gives

few : (g : Over) (c : After-advance_for g) → c.args.walk.now.frames ≤ 256 * c.in-Some.cursor.now.place.at
few g c = turns.few-counted (live_files g.R.Reads c.args.src.now) c.args.links.now c.args.walk.now c.in-Some.cursor.now c.requires.ready (sym c.in-Some.ensures.value)

-- ---- the call fails

pub returns-in_err-advance_for-clause-gives : goal.returns-in_err-advance_for-clause-gives
returns-in_err-advance_for-clause-gives g c = λ told.
    let after = (goal.at.returns-in_err-advance_for-clause-gives g c).After-advance_for in
    let new : Walk = record c.args.walk.now { cursor = Some c.advance_for.new.self } in
    let gives = given_by g after (Err c.in_err-advance_for.field-0.0) told c.in_err-advance_for.ensures.gives in
    turns.turns-same (live_files g.R.Reads c.args.src.now) c.args.scale (reads g after new refl refl) refl refl refl refl gives c.from_residual-in_err-advance_for.result c.from_residual-in_err-advance_for.ensures.0

pub returns-in_err-advance_for-clause-ready : goal.returns-in_err-advance_for-clause-ready
returns-in_err-advance_for-clause-ready g c =
    let after = (goal.at.returns-in_err-advance_for-clause-ready g c).After-advance_for in
    let new : Walk = record c.args.walk.now { cursor = Some c.advance_for.new.self } in
    let says = c.in_err-advance_for.ensures in
    turns.ready-reads (reads g after new refl refl) (live_files g.R.Reads c.args.src.now) (live_files g.R.Reads c.advance_for.new.src) (ap g.R.Reads.files says.standing) c.requires.ready says.stands (says.moves.same.file ∙ (at g after).1) refl (omega (arith, few g after, says.moves.same.forwards))

pub returns-in_err-advance_for-clause-pays : goal.returns-in_err-advance_for-clause-pays
returns-in_err-advance_for-clause-pays g c =
    let after = (goal.at.returns-in_err-advance_for-clause-pays g c).After-advance_for in
    let new : Walk = record c.args.walk.now { cursor = Some c.advance_for.new.self } in
    let spends = c.in_err-advance_for.ensures.spends in
    turns.refused-pays (live_files g.R.Reads c.args.src.now) c.args.scale (reads g after new refl refl) (at g after).1 (g.R.Reads.octets_read c.args.src.now) (g.R.Reads.octets_read c.advance_for.new.src) c.from_residual-in_err-advance_for.result c.from_residual-in_err-advance_for.ensures.0 spends.pays spends.most

-- ---- a block

pub place_block-requires-clause-small : goal.place_block-requires-clause-small
place_block-requires-clause-small g c = turns.all-at IsSmallLink c.args.links.now c.args.walk.now.at (Track c.args.track.now) c.requires.small c.requires.here

-- the walk after a dropped block
abbrev behind : (g : Over) (c : After-place_block g) → Walk
behind g c = record c.args.walk.now { cursor = Some c.advance_for.new.self; frames = c.args.walk.now.frames + c.frames_of.result; placed = c.place_block.new.placed }

pub returns-else-place_block-clause-gives : goal.returns-else-place_block-clause-gives
returns-else-place_block-clause-gives g c = λ told.
    let after = (goal.at.returns-else-place_block-clause-gives g c).After-advance_for in
    let new = behind g (goal.at.returns-else-place_block-clause-gives g c).After-place_block in
    let w = c.args.walk.now in
    let given = rw c.in-Block.is at (given_by g after (Ok c.in_ok-advance_for.field-0) told c.in_ok-advance_for.ensures.gives) in
    let same = turns.known-same c.args.track.now given.given c.advance_for.new.self.block given.known (rw c.in-Block.is at c.in_ok-advance_for.ensures.moves.lends) in
    turns.turns-other (live_files g.R.Reads c.args.src.now) c.args.scale (reads g after new refl refl) given.given (ap (λ (n : ℕ). w.frames + n) (c.frames_of.ensures.exact ∙ sym same.frames)) refl refl given.left refl
    (same.placed c.args.scale w.frames ∙ (rw c.if-place_block.false at c.place_block.ensures.becomes))

pub returns-else-place_block-clause-moves : goal.returns-else-place_block-clause-moves
returns-else-place_block-clause-moves g c =
    let after = (goal.at.returns-else-place_block-clause-moves g c).After-advance_for in
    let new = behind g (goal.at.returns-else-place_block-clause-moves g c).After-place_block in
    let moves = c.in_ok-advance_for.ensures.moves in
    record { on = turns.reads-on (reads g after new refl refl) (rw c.in-Block.is at moves.on) moves.inside moves.same.end; lends = tt }

pub returns-else-place_block-clause-ready : goal.returns-else-place_block-clause-ready
returns-else-place_block-clause-ready g c =
    let after = (goal.at.returns-else-place_block-clause-ready g c).After-advance_for in
    let new = behind g (goal.at.returns-else-place_block-clause-ready g c).After-place_block in
    let says = c.in_ok-advance_for.ensures in
    let on : c.in-Some.cursor.now.place.at < c.advance_for.new.self.place.at = rw c.in-Block.is at says.moves.on in
    turns.ready-reads (reads g after new refl refl) (live_files g.R.Reads c.args.src.now) (live_files g.R.Reads c.advance_for.new.src) (ap g.R.Reads.files says.standing) c.requires.ready says.stands (says.moves.same.file ∙ (at g after).1) refl (omega (arith, few g after, on, c.frames_of.ensures.few))

pub returns-else-place_block-clause-pays : goal.returns-else-place_block-clause-pays
returns-else-place_block-clause-pays g c =
    let after = (goal.at.returns-else-place_block-clause-pays g c).After-advance_for in
    let new = behind g (goal.at.returns-else-place_block-clause-pays g c).After-place_block in
    let spends = c.in_ok-advance_for.ensures.spends in
    turns.reads-pays (live_files g.R.Reads c.args.src.now) c.args.scale (reads g after new refl refl) (at g after).1 (g.R.Reads.octets_read c.args.src.now) (g.R.Reads.octets_read c.advance_for.new.src) spends.pays spends.most

-- the walk after a placed block
abbrev given : (g : Over) (c : After-place_block g) → Walk
given g c = record c.args.walk.now { cursor = Some c.advance_for.new.self; frames = c.args.walk.now.frames + c.frames_of.result; placed = c.place_block.new.placed; greatest = c.place_block.new.placed.head.order }

pub returns-then-place_block-clause-gives : goal.returns-then-place_block-clause-gives
returns-then-place_block-clause-gives g c = λ told.
    let after = (goal.at.returns-then-place_block-clause-gives g c).After-advance_for in
    let new = given g (goal.at.returns-then-place_block-clause-gives g c).After-place_block in
    let w = c.args.walk.now in
    let t = c.args.track.now in
    let d = c.advance_for.new.self in
    let gives = rw c.in-Block.is at (given_by g after (Ok c.in_ok-advance_for.field-0) told c.in_ok-advance_for.ensures.gives) in
    let same = turns.known-same t gives.given d.block gives.known (rw c.in-Block.is at c.in_ok-advance_for.ensures.moves.lends) in
    let lent = track_lent t d.block c.place_block.new.placed in
    let becomes : IsPlaced (track_placed c.args.scale t w.frames (block_of d.block)) w.greatest lent = rw c.if-place_block.true at c.place_block.ensures.becomes in
    turns.turns-gives (live_files g.R.Reads c.args.src.now) c.args.scale (reads g after new refl refl) gives.given (ap (λ (n : ℕ). w.frames + n) (c.frames_of.ensures.exact ∙ sym same.frames)) refl refl gives.left
    (subst (λ (bs : List OutputBlock). IsPlaced bs w.greatest lent) (sym (same.placed c.args.scale w.frames)) becomes) refl

pub returns-then-place_block-clause-moves : goal.returns-then-place_block-clause-moves
returns-then-place_block-clause-moves g c =
    let after = (goal.at.returns-then-place_block-clause-moves g c).After-advance_for in
    let new = given g (goal.at.returns-then-place_block-clause-moves g c).After-place_block in
    let moves = c.in_ok-advance_for.ensures.moves in
    let its = c.place_block.ensures in
    record {
      on = turns.reads-on (reads g after new refl refl) (rw c.in-Block.is at moves.on) moves.inside moves.same.end;
      lends = turns.lends-here c.args.scale c.args.links.now new (track_lent c.args.track.now c.advance_for.new.self.block c.place_block.new.placed) (turns.lent-here (reads g after new refl refl))
          ((rw c.if-place_block.true at its.lent) ((rw c.in-Block.is at moves.lends) (rw c.if-place_block.true at its.own))) (rw c.if-place_block.true at its.ticks) refl;
    }

pub returns-then-place_block-clause-ready : goal.returns-then-place_block-clause-ready
returns-then-place_block-clause-ready g c =
    let after = (goal.at.returns-then-place_block-clause-ready g c).After-advance_for in
    let new = given g (goal.at.returns-then-place_block-clause-ready g c).After-place_block in
    let says = c.in_ok-advance_for.ensures in
    let on : c.in-Some.cursor.now.place.at < c.advance_for.new.self.place.at = rw c.in-Block.is at says.moves.on in
    turns.ready-reads (reads g after new refl refl) (live_files g.R.Reads c.args.src.now) (live_files g.R.Reads c.advance_for.new.src) (ap g.R.Reads.files says.standing) c.requires.ready says.stands (says.moves.same.file ∙ (at g after).1) refl (omega (arith, few g after, on, c.frames_of.ensures.few))

pub returns-then-place_block-clause-pays : goal.returns-then-place_block-clause-pays
returns-then-place_block-clause-pays g c =
    let after = (goal.at.returns-then-place_block-clause-pays g c).After-advance_for in
    let new = given g (goal.at.returns-then-place_block-clause-pays g c).After-place_block in
    let spends = c.in_ok-advance_for.ensures.spends in
    turns.reads-pays (live_files g.R.Reads c.args.src.now) c.args.scale (reads g after new refl refl) (at g after).1 (g.R.Reads.octets_read c.args.src.now) (g.R.Reads.octets_read c.advance_for.new.src) spends.pays spends.most

-- ---- a damaged place

inside : (g : Over) (c : After-advance_for g) → c.args.walk.now.at < length c.args.walk.now.told.items
inside g c =
    let before : c.args.walk.now.at < length c.args.links.now = slice_get_within c.args.links.now c.args.walk.now.at (Track c.args.track.now) c.requires.here in
    omega (arith, c.requires.ready.told)

pub index_mut-requires : goal.index_mut-requires
index_mut-requires g c = omega (arith, inside g (goal.at.index_mut-requires g c).After-advance_for)

abbrev damaged : (g : Over) (c : After-add g) → Walk
damaged g c = record c.args.walk.now { cursor = Some c.advance_for.new.self; stopped = c.if-stopped.walk; told = with_item c.args.walk.now.told c.args.walk.now.at c.add.new.self }

pub returns-after-stopped-clause-gives : goal.returns-after-stopped-clause-gives
returns-after-stopped-clause-gives g c = λ told.
    let after = (goal.at.returns-after-stopped-clause-gives g c).After-advance_for in
    let w = c.args.walk.now in
    let d = c.advance_for.new.self in
    let r = c.index_mut.result.now in
    let new = damaged g (goal.at.returns-after-stopped-clause-gives g c).After-add in
    let gives = given_by g after (Ok c.in_ok-advance_for.field-0) told c.in_ok-advance_for.ensures.gives in
    let stopped : c.if-stopped.walk ≡ ((not c.args.track.now.goes_on && d.stopped) || w.stopped) = elim c.if-stopped.branch [
      | then-stopped v ↦ v.walk-is ∙ v.if-stopped.true ∙ ap (λ (b : Bool). b || w.stopped) (sym v.if-stopped.true ∙ c.stopped.ensures)
      | else-stopped v ↦ v.walk-is ∙ ap (λ (b : Bool). b || w.stopped) (sym v.if-stopped.false ∙ c.stopped.ensures)
    ] in
    let here = slice_get_read w.told.items (length w.told.items) w.at r refl (inside g after) c.index_mut.ensures.value in
    turns.turns-damage (live_files g.R.Reads c.args.src.now) c.args.scale (reads g after new refl refl) d.stopped c.in-Damaged.damage r refl stopped refl (rw c.in-Damaged.is at gives) here (inside g after) (ap (λ x. (with_item w.told w.at x).items) c.add.ensures)

pub returns-after-stopped-clause-moves : goal.returns-after-stopped-clause-moves
returns-after-stopped-clause-moves g c =
    let after = (goal.at.returns-after-stopped-clause-moves g c).After-advance_for in
    let new = damaged g (goal.at.returns-after-stopped-clause-moves g c).After-add in
    let moves = c.in_ok-advance_for.ensures.moves in
    record { on = turns.reads-on (reads g after new refl refl) (rw c.in-Damaged.is at moves.on) moves.inside moves.same.end; lends = tt }

pub returns-after-stopped-clause-ready : goal.returns-after-stopped-clause-ready
returns-after-stopped-clause-ready g c =
    let after = (goal.at.returns-after-stopped-clause-ready g c).After-advance_for in
    let new = damaged g (goal.at.returns-after-stopped-clause-ready g c).After-add in
    let says = c.in_ok-advance_for.ensures in
    turns.ready-reads (reads g after new refl refl) (live_files g.R.Reads c.args.src.now) (live_files g.R.Reads c.advance_for.new.src) (ap g.R.Reads.files says.standing) c.requires.ready says.stands (says.moves.same.file ∙ (at g after).1)
    (length-set c.args.walk.now.told.items c.args.walk.now.at c.add.new.self) (omega (arith, few g after, says.moves.same.forwards))

pub returns-after-stopped-clause-pays : goal.returns-after-stopped-clause-pays
returns-after-stopped-clause-pays g c =
    let after = (goal.at.returns-after-stopped-clause-pays g c).After-advance_for in
    let new = damaged g (goal.at.returns-after-stopped-clause-pays g c).After-add in
    let spends = c.in_ok-advance_for.ensures.spends in
    turns.reads-pays (live_files g.R.Reads c.args.src.now) c.args.scale (reads g after new refl refl) (at g after).1 (g.R.Reads.octets_read c.args.src.now) (g.R.Reads.octets_read c.advance_for.new.src) spends.pays spends.most

-- ---- the end

pub leave-requires : goal.leave-requires
leave-requires g c = slice_get_within c.args.links.now c.args.walk.now.at (Track c.args.track.now) c.requires.here

pub returns-in-End-clause-gives : goal.returns-in-End-clause-gives
returns-in-End-clause-gives g c = λ told.
    let after = (goal.at.returns-in-End-clause-gives g c).After-advance_for in
    let w = c.args.walk.now in
    let has = has-left (length c.args.links.now) w c.leave.new.self c.leave.ensures in
    let gives = given_by g after (Ok c.in_ok-advance_for.field-0) told c.in_ok-advance_for.ensures.gives in
    let r = turns.element-at w.told.items w.at (inside g after) in
    turns.turns-ends (live_files g.R.Reads c.args.src.now) c.args.scale c.args.links.now c.args.track.now w c.leave.new.self c.in-Some.cursor.now c.requires.here (sym c.in-Some.ensures.value) has r.0 (rw c.in-End.is at gives).0 r.1 c.requires.ready.told

pub returns-in-End-clause-moves : goal.returns-in-End-clause-moves
returns-in-End-clause-moves g c =
    let f = live_files g.R.Reads c.args.src.now in
    let w = c.args.walk.now in
    let has = has-left (length c.args.links.now) w c.leave.new.self c.leave.ensures in
    record { on = turns.ends-on f c.args.scale c.args.links.now c.args.track.now w c.leave.new.self c.in-Some.cursor.now c.requires.here (sym c.in-Some.ensures.value) has; lends = tt }

pub returns-in-End-clause-pays : goal.returns-in-End-clause-pays
returns-in-End-clause-pays g c =
    let w = c.args.walk.now in
    let has = has-left (length c.args.links.now) w c.leave.new.self c.leave.ensures in
    let spends = c.in_ok-advance_for.ensures.spends in
    turns.ends-pays (live_files g.R.Reads c.args.src.now) c.args.scale c.args.links.now c.args.track.now w c.leave.new.self c.in-Some.cursor.now c.requires.here (sym c.in-Some.ensures.value) has c.advance_for.new.self (at g (goal.at.returns-in-End-clause-pays g c).After-advance_for).1
    (g.R.Reads.octets_read c.args.src.now) (g.R.Reads.octets_read c.advance_for.new.src) spends.pays spends.most

-- The sum fits: a file has at most 2^48 bytes, and a block has at most 256 frames and at least one byte.
pub overflow_add-walk : goal.overflow_add-walk
overflow_add-walk g c =
    let after = (goal.at.overflow_add-walk g c).After-advance_for in
    let old = c.in-Some.cursor.now in
    let can = (at g after).0 in
    let forwards : old.place.at ≤ c.advance_for.new.self.place.at = c.in_ok-advance_for.ensures.moves.same.forwards in
    let short : (live_files g.R.Reads c.args.src.now).size old.file.n ≤ LONGEST_FILE = g.met.R.Reads.short c.args.src.now old.file.n can.live in
    omega (arith, few g after, forwards, short, can.inside, c.in_ok-advance_for.ensures.moves.inside, c.in_ok-advance_for.ensures.moves.same.end, c.frames_of.ensures.few)
