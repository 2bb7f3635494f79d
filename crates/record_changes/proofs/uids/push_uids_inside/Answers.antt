-- An edition has the identifiers of its atoms, and another child has none.
use Rattle.std.proofs.Common.{◌++◌, map, flat_map, sym, ap, ◌∙◌, append-nil}
use Rattle.std.proofs.lemmas.List.{take_all}
use Rattle.mkv_schema.specs.declared.ids.TheConstants.{CHAPTER_UID}
use Rattle.tree_format.specs.Node.{nodes_of}
use Rattle.record_changes.specs.Atoms.{value_in, atoms_among, atoms_inside}
use Rattle.record_changes.proofs.ChapterFacts.{atom-in_edition}
use Rattle.record_changes.proofs.StandLemmas.{read-if}
use Rattle.record_changes.proofs.AtomLemmas.{atoms-step, uids-grown, edition-own, edition-other}
use Rattle.record_changes.proofs.uids.push_uids_inside.Goals as goal

pub returns-then-id-ne-EDITION_ENTRY : goal.returns-then-id-ne-EDITION_ENTRY
returns-then-id-ne-EDITION_ENTRY c =
    let none = edition-other c.args.child.now (λ own. c.if-id-ne-EDITION_ENTRY.true (c.id.ensures ∙ own)) in
    sym (ap (λ l. c.args.uids.now ++ map (value_in CHAPTER_UID) (flat_map atoms_inside l)) none ∙ append-nil c.args.uids.now)

pub push_atom_uids-requires : goal.push_atom_uids-requires
push_atom_uids-requires c =
    read-if _ _ _ _ _ _ atom-in_edition (c.requires (sym c.id.ensures ∙ c.if-id-ne-EDITION_ENTRY.false)) c.children-inner-items.ensures.exact c.loop-inner-test.true c.inner-item.is

pub loop-inner-preserved : goal.loop-inner-preserved
loop-inner-preserved c =
    uids-grown (value_in CHAPTER_UID) _ _ _ _ _ _ (atoms-step _ _ _ c.loop-inner-test.true c.inner-item.is) c.loop-inner.invariant c.in_ok-push_atom_uids.ensures

pub returns : goal.returns
returns c =
    let child = c.args.child.now in
    let own = edition-own child (sym c.id.ensures ∙ c.if-id-ne-EDITION_ENTRY.false) in
    c.loop-inner.invariant
    ∙ ap (λ l. c.args.uids.now ++ map (value_in CHAPTER_UID) (atoms_among (nodes_of l))) (take_all _ _ c.loop-inner-test.false ∙ c.children-inner-items.ensures.exact)
    ∙ ap (λ l. c.args.uids.now ++ map (value_in CHAPTER_UID) l) (sym (ap (flat_map atoms_inside) own ∙ append-nil (atoms_inside child)))
