-- An edition has one identifier, and another child has none.
use Rattle.std.proofs.Common.{◌≡◌, ◌∷◌, [], ℕ, ◌++◌, List, map, Result, Ok, Err, OnOk, sym, ap, ◌∙◌, append-nil, subst}
use Rattle.std.specs.declared.alloc.AllocError.{AllocError}
use Rattle.mkv_schema.specs.declared.ids.TheConstants.{EDITION_UID}
use Rattle.tree_format.specs.Values.{HasUint}
use Rattle.record_changes.specs.Atoms.{value_in, own_uids}
use Rattle.record_changes.proofs.ChapterFacts.{edition_uid}
use Rattle.record_changes.proofs.AtomLemmas.{edition-own, edition-other}
use Rattle.record_changes.proofs.uids.push_edition_uid.Goals as goal

pub returns-then-id-ne-EDITION_ENTRY : goal.returns-then-id-ne-EDITION_ENTRY
returns-then-id-ne-EDITION_ENTRY c =
    let none = edition-other c.args.child.now (λ own. c.if-id-ne-EDITION_ENTRY.true (c.id.ensures ∙ own)) in
    sym (ap (λ l. c.args.uids.now ++ map (value_in EDITION_UID) l) none ∙ append-nil c.args.uids.now)

pub value_in-requires-clause-sound : goal.value_in-requires-clause-sound
value_in-requires-clause-sound c = (c.requires (sym c.id.ensures ∙ c.if-id-ne-EDITION_ENTRY.false)).sound

pub value_in-requires-clause-uint : goal.value_in-requires-clause-uint
value_in-requires-clause-uint c =
    let P : ℕ → Type 0 = λ p. HasUint p EDITION_UID in
    subst P (sym (sym c.id.ensures ∙ c.if-id-ne-EDITION_ENTRY.false)) edition_uid.known

-- Equal lists may be exchanged.
same-list : (r : Result (Unit {0}) AllocError) (new a b : List ℕ) → a ≡ b → OnOk r (new ≡ a) → OnOk r (new ≡ b)
same-list (Ok u) new a b same is = is ∙ same
same-list (Err e) new a b same is = tt

pub returns : goal.returns
returns c =
    let child = c.args.child.now in
    let uids : List ℕ = c.args.uids.now in
    let own = edition-own child (sym c.id.ensures ∙ c.if-id-ne-EDITION_ENTRY.false) in
    same-list c.push.result _ (uids ++ c.value_in.result ∷ []) (uids ++ own_uids child)
    (ap (λ u. uids ++ u ∷ []) c.value_in.ensures ∙ ap (λ l. uids ++ map (value_in EDITION_UID) l) (sym own)) c.push.ensures.ok
