use Rattle.std.proofs.Common.{◌≡◌, ◌≤◌, min, length, take, sym, ◌∙◌, ap, arith}
use Rattle.mkv_schema.specs.Element.{known}
use Rattle.elements.specs.Window.{front_from}
use Rattle.cluster_reader.specs.Takes.{held_front, settled_by}
use Rattle.cluster_reader.specs.declared.child.TheConstants.{MAX_PREVIEW_LEN}
use Rattle.cluster_reader.proofs.PassedLemmas.{settled-held, settled_by-cut, settled_by-other, settled_by-wanted}
use Rattle.cluster_reader.proofs.child.settled.Goals as goal
use Rattle.cluster_reader.proofs.child.settled.Goals.{After-front_at-front}

-- The held bytes are the first bytes of the body.
pub returns-else-wants-clause-found : goal.returns-else-wants-clause-found
returns-else-wants-clause-found c =
    let front = c.front_at-front.result.now in
    let few : length front ≤ known c.args.header.now.size = omega (arith, c.front_at-front.ensures.few, c.min-most.ensures, c.known.ensures) in
    settled-held c.front_head.result c.args.scale c.args.ticks front c.args.header.now c.args.window.now few c.front_at-front.ensures.held c.front_head.ensures.settles

-- The held bytes are the ones that are checked.
front-is : (c : After-front_at-front) → c.front_at-front.result.now ≡ held_front c.args.window.now c.args.header.now
front-is c =
    c.front_at-front.ensures.exact
    ∙ ap (λ n. take n (front_from c.args.window.now c.args.header.now.body)) (c.min-most.ensures ∙ ap (λ n. min n MAX_PREVIEW_LEN) c.known.ensures)

-- Held bytes without a track settle no track.
pub returns-in_err-track-clause-exact : goal.returns-in_err-track-clause-exact
returns-in_err-track-clause-exact c =
    let h = c.args.header.now in
    let front = c.front_at-front.result.now in
    c.from_residual.ensures
    ∙ sym (settled_by-cut c.args.takes c.args.scale c.args.ticks h front (sym c.front_track.ensures ∙ c.in_err-track.was))
    ∙ ap (settled_by c.args.takes c.args.scale c.args.ticks h) (front-is (goal.at.returns-in_err-track-clause-exact c).After-front_at-front)

-- The block is wanted.
pub returns-then-wants-clause-exact : goal.returns-then-wants-clause-exact
returns-then-wants-clause-exact c =
    let h = c.args.header.now in
    let front = c.front_at-front.result.now in
    sym (settled_by-wanted c.args.takes c.args.scale c.args.ticks c.in_ok-track.track h front (sym c.front_track.ensures ∙ c.in_ok-track.was) (sym c.wants.ensures ∙ c.if-wants.true))
    ∙ ap (settled_by c.args.takes c.args.scale c.args.ticks h) (front-is (goal.at.returns-then-wants-clause-exact c).After-front_at-front)

-- The block isn't wanted.
pub returns-else-wants-clause-exact : goal.returns-else-wants-clause-exact
returns-else-wants-clause-exact c =
    let h = c.args.header.now in
    let front = c.front_at-front.result.now in
    c.front_head.ensures.exact
    ∙ sym (settled_by-other c.args.takes c.args.scale c.args.ticks c.in_ok-track.track h front (sym c.front_track.ensures ∙ c.in_ok-track.was) (sym c.wants.ensures ∙ c.if-wants.false))
    ∙ ap (settled_by c.args.takes c.args.scale c.args.ticks h) (front-is (goal.at.returns-else-wants-clause-exact c).After-front_at-front)
