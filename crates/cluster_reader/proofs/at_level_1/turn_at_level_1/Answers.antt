use Rattle.std.proofs.Common.{◌≡◌, ◌≤◌, true, false, Some, Ok, Err, sym, ◌∙◌, ap, arith}
use Rattle.std.proofs.lemmas.Bool.Decides.{nat_tests}
use Rattle.mkv_schema.specs.declared.ids.TheConstants.{CLUSTER}
use Rattle.mkv_schema.specs.Element.{in_segment, end_in}
use Rattle.elements.specs.Looks.{IsFound}
use Rattle.mkv_schema.specs.Elements.{id_of, ends_segment}
use Rattle.block_format.specs.Elements.{with_limits}
use Rattle.cluster_reader.specs.Left.{left}
use Rattle.cluster_reader.specs.Places.{cluster_in}
use Rattle.cluster_reader.specs.declared.place.Place.{Place}
use Rattle.cluster_reader.specs.declared.walk.Walk.{Walk}
use Rattle.cluster_reader.proofs.LeftLemmas.{left-end, left-stops, left-breaks, left-skips, left-enters}
use Rattle.cluster_reader.proofs.at_level_1.turn_at_level_1.Goals as goal

-- The Segment's end is reached.
pub returns-then-walk-clause-gives : goal.returns-then-walk-clause-gives
returns-then-walk-clause-gives g c = λ bytes told takes.
    let none = left-end (with_limits c.args.walk.now.scale) bytes c.args.walk.now.place c.requires.outside c.if-walk.true in
    (none, none)

-- An ID of level 0 ends the Segment.
pub returns-then-ends_segment-clause-gives : goal.returns-then-ends_segment-clause-gives
returns-then-ends_segment-clause-gives g c = λ bytes told takes.
    let p = c.args.walk.now.place in
    let kept = ap (λ (w : Walk). w.place) c.element.ensures.only in
    let stops : ends_segment p.size (id_of c.in_ok-found.found) ≡ true = cc (c.ends_segment.ensures, c.id_of.ensures, c.if-ends_segment.true, kept) in
    let moved = c.outside-walk.ensures in
    let past : c.outside-walk.result.end ≤ c.outside-walk.result.at = omega (arith, ap (λ (q : Place). q.end) moved, ap (λ (q : Place). q.at) moved, ap (λ (q : Place). q.end) kept) in (
      left-stops (with_limits c.args.walk.now.scale) bytes p c.in_ok-found.found c.requires.outside c.if-walk.false (c.in_ok-found.ensures.ok bytes told) stops,
      left-end (with_limits c.element.new.self.scale) bytes c.outside-walk.result (ap (λ (q : Place). q.cluster) moved) past,
    )

-- A Cluster is entered.
pub returns-then-header-eq-CLUSTER-clause-gives : goal.returns-then-header-eq-CLUSTER-clause-gives
returns-then-header-eq-CLUSTER-clause-gives g c = λ bytes told takes.
    let p = c.args.walk.now.place in
    let h = c.in-Ok.header in
    let kept = ap (λ (w : Walk). w.place) c.element.ensures.only in
    let found = sym c.in-Ok.is ∙ c.in_ok-found.ensures.ok bytes told in
    let goes : ends_segment p.size (id_of (Ok h)) ≡ false = cc (c.ends_segment.ensures, c.id_of.ensures, c.if-ends_segment.false, c.in-Ok.is, kept) in
    let total = c.size-total.ensures.exact
    ∙ ap (λ (w : Walk). (g.R.Reads.files (g.R.Reads.standing c.element.new.src)).size w.file.n) c.element.ensures.only
    ∙ ap (λ s. (g.R.Reads.files s).size c.args.walk.now.file.n) c.element.ensures.standing
    ∙ sym (g.met.R.Reads.told_size (g.R.Reads.standing c.args.src.now) c.args.walk.now.file.n bytes told) in
    let moved = c.entered-walk.ensures ∙ ap (λ (q : Place). record q { at = h.body; cluster = Some (cluster_in c.size-total.result q.end h) }) kept in
    ap (λ (w : Walk). left (with_limits w.scale) bytes c.entered-walk.result) c.element.ensures.only
    ∙ sym (left-enters (with_limits c.args.walk.now.scale) bytes p c.entered-walk.result h c.size-total.result total c.requires.outside c.if-walk.false found goes c.if-header-eq-CLUSTER.true moved)

-- Another element is skipped.
pub returns-else-header-eq-CLUSTER-clause-gives : goal.returns-else-header-eq-CLUSTER-clause-gives
returns-else-header-eq-CLUSTER-clause-gives g c = λ bytes told takes.
    let p = c.args.walk.now.place in
    let h = c.in-Ok.header in
    let kept = ap (λ (w : Walk). w.place) c.element.ensures.only in
    let found = sym c.in-Ok.is ∙ c.in_ok-found.ensures.ok bytes told in
    let goes : ends_segment p.size (id_of (Ok h)) ≡ false = cc (c.ends_segment.ensures, c.id_of.ensures, c.if-ends_segment.false, c.in-Ok.is, kept) in
    let other : h.id ≡ CLUSTER → ⊥ = c.if-header-eq-CLUSTER.false in
    let there : IsFound in_segment p.at p.end h = rw c.in-Ok.is at c.in_ok-found.ensures.found in
    let moved = c.behind-walk.ensures ∙ ap (λ (q : Place). record q { at = end_in q.end h }) kept in
    ap (λ (w : Walk). left (with_limits w.scale) bytes c.behind-walk.result) c.element.ensures.only
    ∙ sym (left-skips (with_limits c.args.walk.now.scale) bytes p c.behind-walk.result h c.requires.outside c.if-walk.false found goes other (there.whole.known (grind (arith, nat_tests, other))) moved)

-- Damage ends the reading.
pub returns-in-Err-clause-gives : goal.returns-in-Err-clause-gives
returns-in-Err-clause-gives g c = λ bytes told takes.
    let p = c.args.walk.now.place in
    let d = c.in-Err.damage in
    let kept = ap (λ (w : Walk). w.place) c.element.ensures.only in
    let found = sym c.in-Err.is ∙ c.in_ok-found.ensures.ok bytes told in
    let goes : ends_segment p.size (id_of (Err d)) ≡ false = cc (c.ends_segment.ensures, c.id_of.ensures, c.if-ends_segment.false, c.in-Err.is, kept) in
    let stops = ap (λ (w : Walk). w.stopped) c.stop.ensures in
    let past : c.stop.new.self.place.end ≤ c.stop.new.self.place.at = omega (arith, ap (λ (w : Walk). w.place.end) c.stop.ensures, ap (λ (w : Walk). w.place.at) c.stop.ensures) in
    let none = left-end (with_limits c.stop.new.self.scale) bytes c.stop.new.self.place (ap (λ (w : Walk). w.place.cluster) c.stop.ensures) past in
    rw (none, stops) (left-breaks (with_limits c.args.walk.now.scale) bytes p d c.requires.outside c.if-walk.false found goes)
