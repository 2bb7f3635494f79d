-- Each edition gets the next identifier, and its atoms get the next ones.
use Rattle.std.proofs.Common.{◌∷◌, [], List, length, flat_map, take, sym, ap, subst, ◌∙◌, arith, length-append}
use Rattle.std.proofs.lemmas.List.{length-map}
use Rattle.mkv_schema.specs.declared.ids.TheConstants.{CHAPTERS, EDITION_ENTRY, EDITION_UID, CHAPTER_UID}
use Rattle.tree_format.specs.Node.{Node, nodes_of, offset_of, children, with_children, depth_all}
use Rattle.tree_format.specs.Changes.{part}
use Rattle.ebml_tree.specs.Building.{IsBuilt}
use Rattle.ebml_tree.proofs.BuildLemmas.{put-is, built-none, built-master, built-limits, child-of, room-of}
use Rattle.record_changes.specs.Atoms.{atoms_inside, value_in}
use Rattle.record_changes.specs.ChapterIdentifiers.{numbered_editions}
use Rattle.record_changes.proofs.ChapterFacts.{chapters-master, edition-in}
use Rattle.record_changes.proofs.StandLemmas.{read-if, built-all, built-whole, built-read}
use Rattle.record_changes.proofs.AtomLemmas.{part-passed, part-grown, atoms-grown, editions-few, inside-few}
use Rattle.record_changes.proofs.NumberLemmas.{editions-step}
use Rattle.record_changes.proofs.numbering.with_identifiers.Goals as goal

pub empty-requires : goal.empty-requires
empty-requires c = chapters-master

pub loop-child-init : goal.loop-child-init
loop-child-init c = record { built = built-none _ _ _ _ _ c.offset.ensures c.in_ok-written.ensures; edition = omega arith; next = omega arith }

-- A child that isn't an edition is skipped.
pub loop-child-preserved-then-id-ne-EDITION_ENTRY : goal.loop-child-preserved-then-id-ne-EDITION_ENTRY
loop-child-preserved-then-id-ne-EDITION_ENTRY c =
    let passed = part-passed _ _ _ c.loop-child-test.true c.child-item.is (λ own. c.if-id-ne-EDITION_ENTRY.true (c.id.ensures ∙ own)) in
    let P : List Node → Type 0 = λ l. IsBuilt CHAPTERS (offset_of c.args.tree.now) (depth_all (nodes_of c.children-child-items.result.now)) (numbered_editions c.args.editions.now c.args.chapters.now 0 0 l) c.loop-child.written in
    record {
      built = subst P (sym passed) c.loop-child.invariant.built;
      edition = c.loop-child.invariant.edition ∙ ap length (sym passed);
      next = c.loop-child.invariant.next ∙ ap (λ l. length (flat_map atoms_inside l)) (sym passed);
    }

pub bounds-editions-edition : goal.bounds-editions-edition
bounds-editions-edition c =
    let own = sym c.id.ensures ∙ c.if-id-ne-EDITION_ENTRY.false in
    let few = editions-few _ _ _ c.loop-child-test.true c.child-item.is own in
    let same = ap (λ l. length (part EDITION_ENTRY l)) c.children-child-items.ensures.exact in
    let here = c.loop-child.invariant.edition in
    let all = length-map (part EDITION_ENTRY (children c.args.tree.now)) (value_in EDITION_UID) in
    let enough = c.requires.editions in
    omega arith

pub offset_bounds-editions-edition : goal.offset_bounds-editions-edition
offset_bounds-editions-edition c =
    let own = sym c.id.ensures ∙ c.if-id-ne-EDITION_ENTRY.false in
    let few = editions-few _ _ _ c.loop-child-test.true c.child-item.is own in
    let same = ap (λ l. length (part EDITION_ENTRY l)) c.children-child-items.ensures.exact in
    let here = c.loop-child.invariant.edition in
    let all = length-map (part EDITION_ENTRY (children c.args.tree.now)) (value_in EDITION_UID) in
    let enough = c.requires.editions in
    omega arith

pub overflow_add-edition : goal.overflow_add-edition
overflow_add-edition c =
    let own = sym c.id.ensures ∙ c.if-id-ne-EDITION_ENTRY.false in
    let few = editions-few _ _ _ c.loop-child-test.true c.child-item.is own in
    let same = ap (λ l. length (part EDITION_ENTRY l)) c.children-child-items.ensures.exact in
    let here = c.loop-child.invariant.edition in
    let all = length-map (part EDITION_ENTRY (children c.args.tree.now)) (value_in EDITION_UID) in
    let enough = c.requires.editions in
    omega arith

pub numbered_edition-requires-clause-read : goal.numbered_edition-requires-clause-read
numbered_edition-requires-clause-read c =
    let own = sym c.id.ensures ∙ c.if-id-ne-EDITION_ENTRY.false in
    read-if _ _ _ _ _ _ edition-in c.requires.read c.children-child-items.ensures.exact c.loop-child-test.true c.child-item.is own

pub numbered_edition-requires-clause-enough : goal.numbered_edition-requires-clause-enough
numbered_edition-requires-clause-enough c =
    let own = sym c.id.ensures ∙ c.if-id-ne-EDITION_ENTRY.false in
    let few = inside-few _ _ _ c.loop-child-test.true c.child-item.is own in
    let same = ap (λ l. length (flat_map atoms_inside (part EDITION_ENTRY l))) c.children-child-items.ensures.exact in
    let here = c.loop-child.invariant.next in
    let all = length-map (flat_map atoms_inside (part EDITION_ENTRY (children c.args.tree.now))) (value_in CHAPTER_UID) in
    let enough = c.requires.chapters in
    omega arith

pub push-requires-clause-master : goal.push-requires-clause-master
push-requires-clause-master c = built-master _ _ _ _ _ c.loop-child.invariant.built

pub push-requires-clause-room : goal.push-requires-clause-room
push-requires-clause-room c =
    let inside = c.loop-child-test.true in
    let item = c.child-item.is in
    room-of _ _ _ _ _ c.children-child-items.ensures.room inside item (c.in_ok-numbered_edition.ensures.place CHAPTERS (child-of _ _ _ _ _ c.requires.read c.children-child-items.ensures.exact inside item))

pub loop-child-preserved : goal.loop-child-preserved
loop-child-preserved c =
    let inside = c.loop-child-test.true in
    let item = c.child-item.is in
    let own = sym c.id.ensures ∙ c.if-id-ne-EDITION_ENTRY.false in
    let place = c.in_ok-numbered_edition.ensures.place CHAPTERS (child-of _ _ _ _ _ c.requires.read c.children-child-items.ensures.exact inside item) in
    let grown = ap length (part-grown _ _ _ inside item own) in
    let one = length-append (part EDITION_ENTRY (take c.loop-child.child-index c.children-child-items.result.now)) (c.child-item.result ∷ []) in
    let atoms = atoms-grown _ _ _ inside item own in
    let edition = c.loop-child.invariant.edition in
    let next = c.loop-child.invariant.next in
    let more = c.in_ok-numbered_edition.ensures.next in
    record {
      built = editions-step _ _ _ _ _ _ inside item _ _ c.loop-child.invariant.built _ _ _ _ own edition next c.in_ok-numbered_edition.ensures.exact place (put-is _ _ _ _ c.in_ok-push.ensures.ok c.in_ok-push.ensures.full);
      edition = omega arith;
      next = omega arith;
    }

pub returns-clause-exact : goal.returns-clause-exact
returns-clause-exact c =
    let tree : Node = c.args.tree.now in
    let written = λ (l : List Node). numbered_editions c.args.editions.now c.args.chapters.now 0 0 (part EDITION_ENTRY l) in
    built-whole _ _ tree _ _ c.requires.read (built-all _ _ _ _ written _ _ c.loop-child-test.false c.loop-child.invariant.built) ∙ ap (λ l. with_children tree (written l)) c.children-child-items.ensures.exact

pub returns-clause-read : goal.returns-clause-read
returns-clause-read c = built-read _ _ _ _ _ c.loop-child.invariant.built

pub returns-clause-limits : goal.returns-clause-limits
returns-clause-limits c = built-limits _ _ _ _ _ c.loop-child.invariant.built c.children-child-items.ensures.room
