-- An atom gets the next identifier, and the atoms inside it get the following ones.
use Rattle.std.proofs.Common.{◌≡◌, ℕ, ◌+◌, List, length, sym, ap, ◌∙◌, arith}
use Rattle.std.specs.Prelude.{slice_index}
use Rattle.mkv_schema.specs.declared.ids.TheConstants.{CHAPTER_ATOM, CHAPTER_UID}
use Rattle.tree_format.specs.Node.{Node, nodes_of, id_of, with_children}
use Rattle.tree_format.specs.Children.{uint_leaf, set_in}
use Rattle.ebml_tree.proofs.BuildLemmas.{put-is, built-none, built-master, child-of, room-of}
use Rattle.record_changes.specs.Atoms.{atoms_at, atoms_among}
use Rattle.record_changes.specs.ChapterIdentifiers.{numbered, numbered_among}
use Rattle.record_changes.proofs.ChapterFacts.{atom-master, atom-in_atom, chapter_uid}
use Rattle.record_changes.proofs.StandLemmas.{read-if, child-smaller, built-all, may-set, set-whole, on-ok, ok-is, may-copy}
use Rattle.record_changes.proofs.AtomLemmas.{atoms-own, atoms-other, atoms-few, atoms-counted, atoms-all}
use Rattle.record_changes.proofs.NumberLemmas.{numbered-other, numbered-own, numbered-step}
use Rattle.record_changes.proofs.numbering.+numbered.Goals as goal

-- ---- another child

pub returns-then-id-ne-CHAPTER_ATOM : goal.returns-then-id-ne-CHAPTER_ATOM
returns-then-id-ne-CHAPTER_ATOM t c =
    let child : Node = c.args.child.now in
    let k : ℕ = c.args.next.now in
    let other : id_of child ≡ CHAPTER_ATOM → ⊥ = λ own. c.if-id-ne-CHAPTER_ATOM.true (c.id.ensures ∙ own) in
    let none = ap length (atoms-other child other) in
    record {
      exact = ok-is c.copy.result child (numbered c.args.uids.now k child) (sym (numbered-other c.args.uids.now k child other)) c.copy.ensures;
      next = on-ok c.copy.result (k ≡ k + length (atoms_at child)) (omega arith);
      place = may-copy c.copy.result child c.copy.ensures;
    }

-- ---- an atom

pub bounds-uids-next : goal.bounds-uids-next
bounds-uids-next t c =
    let read = c.requires.atom (sym c.id.ensures ∙ c.if-id-ne-CHAPTER_ATOM.false) in
    let some = ap length (atoms-own c.args.child.now read) in
    let enough = c.requires.enough in
    omega arith

pub overflow_add-next : goal.overflow_add-next
overflow_add-next t c =
    let read = c.requires.atom (sym c.id.ensures ∙ c.if-id-ne-CHAPTER_ATOM.false) in
    let some = ap length (atoms-own c.args.child.now read) in
    let enough = c.requires.enough in
    omega arith

pub empty-requires : goal.empty-requires
empty-requires t c = atom-master

pub loop-inner-init : goal.loop-inner-init
loop-inner-init t c = record { built = built-none _ _ _ _ _ c.offset.ensures c.in_ok-atom.ensures; next = omega arith }

pub numbered-requires : goal.numbered-requires
numbered-requires t c =
    let read = c.requires.atom (sym c.id.ensures ∙ c.if-id-ne-CHAPTER_ATOM.false) in
    let are = c.children-inner-items.ensures.exact in
    let inside = c.loop-inner-test.true in
    let item = c.inner-item.is in
    let some = ap length (atoms-own c.args.child.now read) in
    let few = atoms-few _ _ _ inside item in
    let same = ap (λ l. length (atoms_among (nodes_of l))) are in
    let next = c.loop-inner.invariant.next in
    let enough = c.requires.enough in
    let less = child-smaller _ _ _ _ are inside item in
    (omega arith, (read-if _ _ _ _ _ _ atom-in_atom read are inside item, omega arith))

pub push-requires-clause-master : goal.push-requires-clause-master
push-requires-clause-master t c = built-master _ _ _ _ _ c.loop-inner.invariant.built

pub push-requires-clause-room : goal.push-requires-clause-room
push-requires-clause-room t c =
    let read = c.requires.atom (sym c.id.ensures ∙ c.if-id-ne-CHAPTER_ATOM.false) in
    let inside = c.loop-inner-test.true in
    let item = c.inner-item.is in
    room-of _ _ _ _ _ c.children-inner-items.ensures.room inside item (c.in_ok-numbered.ensures.place CHAPTER_ATOM (child-of _ _ _ _ _ read c.children-inner-items.ensures.exact inside item))

pub loop-inner-preserved : goal.loop-inner-preserved
loop-inner-preserved t c =
    let read = c.requires.atom (sym c.id.ensures ∙ c.if-id-ne-CHAPTER_ATOM.false) in
    let inside = c.loop-inner-test.true in
    let item = c.inner-item.is in
    let place = c.in_ok-numbered.ensures.place CHAPTER_ATOM (child-of _ _ _ _ _ read c.children-inner-items.ensures.exact inside item) in
    let next = c.loop-inner.invariant.next in
    let more = c.in_ok-numbered.ensures.next in
    let counted = atoms-counted _ _ _ inside item in
    record {
      built = numbered-step _ _ _ _ _ _ _ _ inside item place (put-is _ _ _ _ c.in_ok-push.ensures.ok c.in_ok-push.ensures.full) _ _ _ c.loop-inner.invariant.built next c.in_ok-numbered.ensures.exact;
      next = omega arith;
    }

pub uint_leaf-requires : goal.uint_leaf-requires
uint_leaf-requires t c = chapter_uid.valid

pub set-requires-clause-master : goal.set-requires-clause-master
set-requires-clause-master t c = built-master _ _ _ _ _ c.loop-inner.invariant.built

pub returns-clause-exact : goal.returns-clause-exact
returns-clause-exact t c =
    let child : Node = c.args.child.now in
    let uids : List ℕ = c.args.uids.now in
    let k : ℕ = c.args.next.now in
    let read = c.requires.atom (sym c.id.ensures ∙ c.if-id-ne-CHAPTER_ATOM.false) in
    let are = c.children-inner-items.ensures.exact in
    let built = built-all _ _ _ _ (λ l. numbered_among uids (k + 1) (nodes_of l)) _ _ c.loop-inner-test.false c.loop-inner.invariant.built in
    set-whole _ child _ _ _ _ _ read are built c.in_ok-set.ensures.ok _ c.in_ok-uint_leaf.ensures.exact
    ∙ ap (λ l. set_in (uint_leaf CHAPTER_UID (slice_index uids k)) (with_children child (numbered_among uids (k + 1) (nodes_of l)))) are ∙ sym (numbered-own uids k child read)

pub returns-clause-next : goal.returns-clause-next
returns-clause-next t c =
    let child : Node = c.args.child.now in
    let read = c.requires.atom (sym c.id.ensures ∙ c.if-id-ne-CHAPTER_ATOM.false) in
    let some = ap length (atoms-own child read) in
    let all = atoms-all child _ _ c.children-inner-items.ensures.exact c.loop-inner-test.false in
    let next = c.loop-inner.invariant.next in
    omega arith

pub returns-clause-place : goal.returns-clause-place
returns-clause-place t c =
    let child : Node = c.args.child.now in
    let read = c.requires.atom (sym c.id.ensures ∙ c.if-id-ne-CHAPTER_ATOM.false) in
    may-set _ child _ _ _ _ _ read c.children-inner-items.ensures.exact c.loop-inner.invariant.built c.in_ok-set.ensures.ok CHAPTER_UID _ c.in_ok-uint_leaf.ensures.exact c.in_ok-set.ensures.sound (c.in_ok-uint_leaf.ensures.stands CHAPTER_ATOM chapter_uid)
