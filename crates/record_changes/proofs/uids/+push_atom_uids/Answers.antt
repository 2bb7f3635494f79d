-- An atom has its own identifier, then the ones of the atoms inside it.
use Rattle.std.proofs.Common.{◌∷◌, [], ℕ, ◌++◌, map, sym, ap, ◌∙◌, append-nil, subst, arith}
use Rattle.mkv_schema.specs.declared.ids.TheConstants.{CHAPTER_UID}
use Rattle.tree_format.specs.Values.{HasUint}
use Rattle.record_changes.specs.Atoms.{value_in}
use Rattle.record_changes.proofs.ChapterFacts.{chapter_uid, atom-in_atom}
use Rattle.record_changes.proofs.StandLemmas.{read-if, child-smaller}
use Rattle.record_changes.proofs.AtomLemmas.{atoms-other, atoms-step, uids-grown, uids-own}
use Rattle.record_changes.proofs.uids.+push_atom_uids.Goals as goal

pub returns-then-id-ne-CHAPTER_ATOM : goal.returns-then-id-ne-CHAPTER_ATOM
returns-then-id-ne-CHAPTER_ATOM t c =
    let none = atoms-other c.args.child.now (λ own. c.if-id-ne-CHAPTER_ATOM.true (c.id.ensures ∙ own)) in
    sym (ap (λ l. c.args.uids.now ++ map (value_in CHAPTER_UID) l) none ∙ append-nil c.args.uids.now)

pub value_in-requires-clause-sound : goal.value_in-requires-clause-sound
value_in-requires-clause-sound t c = (c.requires (sym c.id.ensures ∙ c.if-id-ne-CHAPTER_ATOM.false)).sound

pub value_in-requires-clause-uint : goal.value_in-requires-clause-uint
value_in-requires-clause-uint t c =
    let P : ℕ → Type 0 = λ p. HasUint p CHAPTER_UID in
    subst P (sym (sym c.id.ensures ∙ c.if-id-ne-CHAPTER_ATOM.false)) chapter_uid.known

pub loop-inner-init : goal.loop-inner-init
loop-inner-init t c = c.in_ok-push.ensures.ok ∙ ap (λ u. c.args.uids.now ++ u ∷ []) c.value_in.ensures ∙ sym (append-nil (c.args.uids.now ++ value_in CHAPTER_UID c.args.child.now ∷ []))

pub push_atom_uids-requires : goal.push_atom_uids-requires
push_atom_uids-requires t c =
    let read = c.requires (sym c.id.ensures ∙ c.if-id-ne-CHAPTER_ATOM.false) in
    let less = child-smaller _ _ _ _ c.children-inner-items.ensures.exact c.loop-inner-test.true c.inner-item.is in (
      omega arith,
      read-if _ _ _ _ _ _ atom-in_atom read c.children-inner-items.ensures.exact c.loop-inner-test.true c.inner-item.is,
    )

pub loop-inner-preserved : goal.loop-inner-preserved
loop-inner-preserved t c =
    uids-grown (value_in CHAPTER_UID) _ _ _ _ _ _ (atoms-step _ _ _ c.loop-inner-test.true c.inner-item.is) c.loop-inner.invariant c.in_ok-push_atom_uids.ensures

pub returns : goal.returns
returns t c =
    let read = c.requires (sym c.id.ensures ∙ c.if-id-ne-CHAPTER_ATOM.false) in
    uids-own _ _ _ _ _ read c.children-inner-items.ensures.exact c.loop-inner-test.false c.loop-inner.invariant
