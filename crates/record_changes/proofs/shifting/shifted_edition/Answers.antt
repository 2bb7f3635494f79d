-- An edition has later atoms, and another child is unchanged.
use Rattle.std.proofs.Common.{◌≡◌, ◌==◌, Bool, true, false, if◌then◌else◌, map, sym, ap, ◌∙◌}
use Rattle.mkv_schema.specs.declared.ids.TheConstants.{EDITION_ENTRY}
use Rattle.tree_format.specs.Node.{Node, id_of, children, with_children}
use Rattle.ebml_tree.proofs.BuildLemmas.{put-is, built-none, built-master, map-one, child-of, room-of}
use Rattle.record_changes.specs.Shift.{shifted_in_edition, shifted_edition}
use Rattle.record_changes.proofs.ChapterFacts.{edition-master, atom-in_edition}
use Rattle.record_changes.proofs.StandLemmas.{read-if, other-id, built-all, built-whole, may-built, may-copy, ok-is}
use Rattle.record_changes.proofs.shifting.shifted_edition.Goals as goal

pub returns-then-id-ne-EDITION_ENTRY : goal.returns-then-id-ne-EDITION_ENTRY
returns-then-id-ne-EDITION_ENTRY c =
    let child : Node = c.args.child.now in
    let other : (id_of child == EDITION_ENTRY) ≡ false = other-id (id_of child) EDITION_ENTRY (λ own. c.if-id-ne-EDITION_ENTRY.true (c.id.ensures ∙ own)) in
    record {
      exact = ok-is c.copy.result child (shifted_edition c.args.by child) (sym (ap (λ (b : Bool). if b then with_children child (map (shifted_in_edition c.args.by) (children child)) else child) other)) c.copy.ensures;
      place = may-copy c.copy.result child c.copy.ensures;
    }

pub empty-requires : goal.empty-requires
empty-requires c = edition-master

pub loop-inner-init : goal.loop-inner-init
loop-inner-init c = built-none _ _ _ _ _ c.offset.ensures c.in_ok-shifted.ensures

pub shifted_in_edition-requires : goal.shifted_in_edition-requires
shifted_in_edition-requires c =
    let read = c.requires (sym c.id.ensures ∙ c.if-id-ne-EDITION_ENTRY.false) in
    read-if _ _ _ _ _ _ atom-in_edition read c.children-inner-items.ensures.exact c.loop-inner-test.true c.inner-item.is

pub push-requires-clause-master : goal.push-requires-clause-master
push-requires-clause-master c = built-master _ _ _ _ _ c.loop-inner.invariant

pub push-requires-clause-room : goal.push-requires-clause-room
push-requires-clause-room c =
    let read = c.requires (sym c.id.ensures ∙ c.if-id-ne-EDITION_ENTRY.false) in
    let inside = c.loop-inner-test.true in
    let item = c.inner-item.is in
    room-of _ _ _ _ _ c.children-inner-items.ensures.room inside item (c.in_ok-shifted_in_edition.ensures.place EDITION_ENTRY (child-of _ _ _ _ _ read c.children-inner-items.ensures.exact inside item))

pub loop-inner-preserved : goal.loop-inner-preserved
loop-inner-preserved c =
    let read = c.requires (sym c.id.ensures ∙ c.if-id-ne-EDITION_ENTRY.false) in
    let inside = c.loop-inner-test.true in
    let item = c.inner-item.is in
    let place = c.in_ok-shifted_in_edition.ensures.place EDITION_ENTRY (child-of _ _ _ _ _ read c.children-inner-items.ensures.exact inside item) in
    map-one _ _ _ _ _ _ inside item _ _ _ c.loop-inner.invariant c.in_ok-shifted_in_edition.ensures.exact place (put-is _ _ _ _ c.in_ok-push.ensures.ok c.in_ok-push.ensures.full)

pub returns : goal.returns
returns c =
    let child : Node = c.args.child.now in
    let later : Node → Node = shifted_in_edition c.args.by in
    let is = sym c.id.ensures ∙ c.if-id-ne-EDITION_ENTRY.false in
    let own : (id_of child == EDITION_ENTRY) ≡ true = ap (λ i. i == EDITION_ENTRY) is in
    let read = c.requires is in
    let are = c.children-inner-items.ensures.exact in
    let built = built-all _ _ _ _ (map later) _ _ c.loop-inner-test.false c.loop-inner.invariant in
    record {
      exact = built-whole _ _ child _ _ read built ∙ ap (λ l. with_children child (map later l)) are ∙ sym (ap (λ (b : Bool). if b then with_children child (map later (children child)) else child) own);
      place = may-built _ child _ _ _ read are built;
    }
