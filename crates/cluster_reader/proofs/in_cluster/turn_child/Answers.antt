use Rattle.std.proofs.Common.{◌<◌, not, ◌∷◌, Some, sym, ◌∙◌, ap, arith}
use Rattle.mkv_schema.specs.Element.{end_in}
use Rattle.block_format.specs.Elements.{with_limits}
use Rattle.block_format.specs.Events.{block}
use Rattle.cluster_reader.specs.Left.{left}
use Rattle.cluster_reader.specs.Places.{IsInCluster, behind_damage}
use Rattle.cluster_reader.specs.Reading.{damage_event, left_of}
use Rattle.cluster_reader.specs.Walks.{shown}
use Rattle.cluster_reader.specs.declared.walk.Walk.{Walk}
use Rattle.cluster_reader.proofs.ChildLemmas.{block-no_timestamp}
use Rattle.cluster_reader.proofs.LeftLemmas.{left-passes, left-block}
use Rattle.cluster_reader.proofs.TurnLemmas.{left-bad_child}
use Rattle.cluster_reader.proofs.in_cluster.turn_child.Goals as goal

-- The child has no event.
pub returns-in-Passed-clause-gives : goal.returns-in-Passed-clause-gives
returns-in-Passed-clause-gives g c = λ bytes content.
    let r = with_limits c.args.walk.now.scale in
    let p = c.args.walk.now.place in
    let cluster = c.args.cluster in
    let h = c.args.header.now in
    let before : p.at < cluster.end = omega (arith, c.requires.later, c.requires.within) in
    let finds = rw c.in-Passed.is at (c.in-Ok.ensures.ok bytes content) in
    let moved = c.passed-walk.ensures
    ∙ ap (λ (w : Walk). record w.place { at = end_in cluster.end h; cluster = Some (record cluster { timestamp = c.in-Passed.timestamp }) }) c.read_child.ensures.only.only
    ∙ ap (λ t. record p { at = end_in cluster.end h; cluster = Some (record cluster { timestamp = t }) }) finds.1 in
    ap (λ (w : Walk). left (with_limits w.scale) bytes c.passed-walk.result) c.read_child.ensures.only.only
    ∙ sym (left-passes r bytes p c.passed-walk.result cluster h c.requires.inside before (c.requires.found bytes content) c.requires.goes finds.0 moved)

-- A block is taken.
pub returns-in-Block-clause-gives : goal.returns-in-Block-clause-gives
returns-in-Block-clause-gives g c = λ bytes content.
    let r = with_limits c.args.walk.now.scale in
    let p = c.args.walk.now.place in
    let cluster = c.args.cluster in
    let h = c.args.header.now in
    let before : p.at < cluster.end = omega (arith, c.requires.later, c.requires.within) in
    let finds = rw c.in-Block.is at (c.in-Ok.ensures.ok bytes content) in
    let b = finds.given in
    let other = block-no_timestamp r bytes cluster.timestamp h b finds.is in
    let moved = c.passed-walk-in-Block.ensures
    ∙ ap (λ (w : Walk). record w.place { at = end_in cluster.end h; cluster = Some cluster }) c.read_child.ensures.only.only
    ∙ ap (λ o. record p { at = end_in cluster.end h; cluster = o }) (sym c.requires.inside) in
    record {
      given = b;
      left =
          left-block r bytes p c.passed-walk-in-Block.result cluster h b c.requires.inside before (c.requires.found bytes content) c.requires.goes other finds.is moved
          ∙ sym (ap (λ (w : Walk). block b ∷ left (with_limits w.scale) bytes c.passed-walk-in-Block.result) c.read_child.ensures.only.only);
      known = finds.known;
    }

-- The child is damaged.
pub returns-in-Damaged-clause-gives : goal.returns-in-Damaged-clause-gives
returns-in-Damaged-clause-gives g c = λ bytes content.
    let r = with_limits c.args.walk.now.scale in
    let p = c.args.walk.now.place in
    let cluster = c.args.cluster in
    let h = c.args.header.now in
    let d = c.in-Damaged.damage in
    let place : IsInCluster p.at p.end cluster = rw c.requires.inside at c.requires.ready.place.cluster in
    let before : p.at < cluster.end = omega (arith, c.requires.later, c.requires.within) in
    let gives = rw c.in-Damaged.is at (c.in-Ok.ensures.ok bytes content) in
    left-bad_child r bytes p cluster h d c.requires.inside place before (c.requires.found bytes content) c.requires.goes gives
    ∙ sym (ap (λ (w : Walk). damage_event w.stopped d ∷ left_of bytes (shown w)) c.break_off.ensures
    ∙ ap (λ (w : Walk). damage_event (not cluster.closed) d ∷ left (with_limits w.scale) bytes (behind_damage w.place cluster)) c.read_child.ensures.only.only)
