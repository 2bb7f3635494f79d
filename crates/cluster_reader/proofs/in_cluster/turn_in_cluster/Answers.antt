use Rattle.std.proofs.Common.{◌≡◌, true, false, not, ◌∷◌, None, Err, sym, ◌∙◌, ap, arith}
use Rattle.mkv_schema.specs.Elements.{id_of}
use Rattle.block_format.specs.Elements.{with_limits}
use Rattle.cluster_reader.specs.Left.{left, ends_children}
use Rattle.cluster_reader.specs.Places.{IsInCluster, behind_damage}
use Rattle.cluster_reader.specs.Reading.{damage_event, left_of}
use Rattle.cluster_reader.specs.Walks.{shown}
use Rattle.cluster_reader.specs.declared.place.Place.{Place}
use Rattle.cluster_reader.specs.declared.walk.Walk.{Walk}
use Rattle.cluster_reader.proofs.LeftLemmas.{left-leaves}
use Rattle.cluster_reader.proofs.TurnLemmas.{left-child_ends, left-child_damaged}
use Rattle.cluster_reader.proofs.in_cluster.turn_in_cluster.Goals as goal

-- The Cluster's end is reached.
pub returns-then-at-cluster-clause-gives : goal.returns-then-at-cluster-clause-gives
returns-then-at-cluster-clause-gives g c = λ bytes content.
    let p = c.args.walk.now.place in
    let place : IsInCluster p.at p.end c.args.cluster = rw c.requires.inside at c.requires.ready.place.cluster in
    let here : p.at ≡ c.args.cluster.end = omega (arith, place.here, c.if-at-cluster.true) in
    sym (left-leaves (with_limits c.args.walk.now.scale) bytes p c.outside-walk.result c.args.cluster c.requires.inside here c.outside-walk.ensures)

-- An ID of level 1 or 0 ends the children.
pub returns-then-ends_children-clause-gives : goal.returns-then-ends_children-clause-gives
returns-then-ends_children-clause-gives g c = λ bytes content.
    let p = c.args.walk.now.place in
    let kept = ap (λ (w : Walk). w.place) c.element.ensures.only in
    let ends : ends_children c.args.cluster.unknown (id_of c.in_ok-found.found) ≡ true = cc (c.ends_children.ensures, c.id_of.ensures, c.if-ends_children.true) in
    let moved = c.outside-walk-then-ends_children.ensures ∙ ap (λ (q : Place). record q { at = p.at; cluster = None }) kept in
    ap (λ (w : Walk). left (with_limits w.scale) bytes c.outside-walk-then-ends_children.result) c.element.ensures.only
    ∙ sym (left-child_ends (with_limits c.args.walk.now.scale) bytes p c.outside-walk-then-ends_children.result c.args.cluster c.in_ok-found.found c.requires.inside c.if-at-cluster.false (c.in_ok-found.ensures.ok bytes content) ends moved)

-- There is damage between the children.
pub returns-in-Err-clause-gives : goal.returns-in-Err-clause-gives
returns-in-Err-clause-gives g c = λ bytes content.
    let p = c.args.walk.now.place in
    let d = c.in-Err.damage in
    let cluster = c.args.cluster in
    let place : IsInCluster p.at p.end cluster = rw c.requires.inside at c.requires.ready.place.cluster in
    let found = sym c.in-Err.is ∙ c.in_ok-found.ensures.ok bytes content in
    let goes : ends_children cluster.unknown (id_of (Err d)) ≡ false = cc (c.ends_children.ensures, c.id_of.ensures, c.if-ends_children.false, c.in-Err.is) in
    left-child_damaged (with_limits c.args.walk.now.scale) bytes p cluster d c.requires.inside place c.if-at-cluster.false found goes
    ∙ sym (ap (λ (w : Walk). damage_event w.stopped d ∷ left_of bytes (shown w)) c.break_off.ensures
    ∙ ap (λ (w : Walk). damage_event (not cluster.closed) d ∷ left (with_limits w.scale) bytes (behind_damage w.place cluster)) c.element.ensures.only)
