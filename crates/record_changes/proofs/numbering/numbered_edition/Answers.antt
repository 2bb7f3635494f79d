-- The atoms of an edition get their identifiers in sequence, and it gets its own.
use Rattle.std.proofs.Common.{ℕ, List, length, ap, ◌∙◌, arith}
use Rattle.mkv_schema.specs.declared.ids.TheConstants.{EDITION_ENTRY, EDITION_UID}
use Rattle.tree_format.specs.Node.{Node, nodes_of, with_children}
use Rattle.tree_format.specs.Children.{uint_leaf, set_in}
use Rattle.ebml_tree.proofs.BuildLemmas.{put-is, built-none, built-master, child-of, room-of}
use Rattle.record_changes.specs.Atoms.{atoms_among}
use Rattle.record_changes.specs.ChapterIdentifiers.{numbered_among}
use Rattle.record_changes.proofs.ChapterFacts.{edition-master, atom-in_edition, edition_uid}
use Rattle.record_changes.proofs.StandLemmas.{read-if, built-all, may-set, set-whole}
use Rattle.record_changes.proofs.AtomLemmas.{atoms-few, atoms-counted, atoms-all}
use Rattle.record_changes.proofs.NumberLemmas.{numbered-step}
use Rattle.record_changes.proofs.numbering.numbered_edition.Goals as goal

pub empty-requires : goal.empty-requires
empty-requires c = edition-master

pub loop-child-init : goal.loop-child-init
loop-child-init c = record { built = built-none _ _ _ _ _ c.offset.ensures c.in_ok-written.ensures; next = omega arith }

pub numbered-requires-clause-atom : goal.numbered-requires-clause-atom
numbered-requires-clause-atom c = read-if _ _ _ _ _ _ atom-in_edition c.requires.read c.children-child-items.ensures.exact c.loop-child-test.true c.child-item.is

pub numbered-requires-clause-enough : goal.numbered-requires-clause-enough
numbered-requires-clause-enough c =
    let few = atoms-few _ _ _ c.loop-child-test.true c.child-item.is in
    let same = ap (λ l. length (atoms_among (nodes_of l))) c.children-child-items.ensures.exact in
    let next = c.loop-child.invariant.next in
    let enough = c.requires.enough in
    omega arith

pub push-requires-clause-master : goal.push-requires-clause-master
push-requires-clause-master c = built-master _ _ _ _ _ c.loop-child.invariant.built

pub push-requires-clause-room : goal.push-requires-clause-room
push-requires-clause-room c =
    let inside = c.loop-child-test.true in
    let item = c.child-item.is in
    room-of _ _ _ _ _ c.children-child-items.ensures.room inside item (c.in_ok-numbered.ensures.place EDITION_ENTRY (child-of _ _ _ _ _ c.requires.read c.children-child-items.ensures.exact inside item))

pub loop-child-preserved : goal.loop-child-preserved
loop-child-preserved c =
    let inside = c.loop-child-test.true in
    let item = c.child-item.is in
    let place = c.in_ok-numbered.ensures.place EDITION_ENTRY (child-of _ _ _ _ _ c.requires.read c.children-child-items.ensures.exact inside item) in
    let next = c.loop-child.invariant.next in
    let more = c.in_ok-numbered.ensures.next in
    let counted = atoms-counted _ _ _ inside item in
    record {
      built = numbered-step _ _ _ _ _ _ _ _ inside item place (put-is _ _ _ _ c.in_ok-push.ensures.ok c.in_ok-push.ensures.full) _ _ _ c.loop-child.invariant.built next c.in_ok-numbered.ensures.exact;
      next = omega arith;
    }

pub uint_leaf-requires : goal.uint_leaf-requires
uint_leaf-requires c = edition_uid.valid

pub set-requires-clause-master : goal.set-requires-clause-master
set-requires-clause-master c = built-master _ _ _ _ _ c.loop-child.invariant.built

pub returns-clause-exact : goal.returns-clause-exact
returns-clause-exact c =
    let edition : Node = c.args.edition.now in
    let uids : List ℕ = c.args.uids.now in
    let k : ℕ = c.args.next.now in
    let are = c.children-child-items.ensures.exact in
    let built = built-all _ _ _ _ (λ l. numbered_among uids k (nodes_of l)) _ _ c.loop-child-test.false c.loop-child.invariant.built in
    set-whole _ edition _ _ _ _ _ c.requires.read are built c.in_ok-set.ensures.ok _ c.in_ok-uint_leaf.ensures.exact
    ∙ ap (λ l. set_in (uint_leaf EDITION_UID c.args.uid) (with_children edition (numbered_among uids k (nodes_of l)))) are

pub returns-clause-next : goal.returns-clause-next
returns-clause-next c =
    let all = atoms-all c.args.edition.now _ _ c.children-child-items.ensures.exact c.loop-child-test.false in
    let next = c.loop-child.invariant.next in
    omega arith

pub returns-clause-place : goal.returns-clause-place
returns-clause-place c =
    may-set _ c.args.edition.now _ _ _ _ _ c.requires.read c.children-child-items.ensures.exact c.loop-child.invariant.built c.in_ok-set.ensures.ok EDITION_UID _ c.in_ok-uint_leaf.ensures.exact c.in_ok-set.ensures.sound (c.in_ok-uint_leaf.ensures.stands EDITION_ENTRY edition_uid)
