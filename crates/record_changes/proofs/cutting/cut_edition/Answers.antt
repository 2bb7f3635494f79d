-- An edition with an atom is kept.
use Rattle.std.proofs.Common.{◌≡◌, ◌==◌, ◌&&◌, ◌∷◌, [], Bool, true, false, if◌then◌else◌, sym, ap, ap₂, ◌∙◌}
use Rattle.mkv_schema.specs.declared.ids.TheConstants.{EDITION_ENTRY}
use Rattle.tree_format.specs.Node.{Node, id_of}
use Rattle.record_changes.specs.Cut.{cut_inside, has_atom}
use Rattle.record_changes.proofs.StandLemmas.{other-id}
use Rattle.record_changes.proofs.CutLemmas.{edition-holds}
use Rattle.record_changes.proofs.cutting.cut_edition.Goals as goal

pub returns-then-id-ne-EDITION_ENTRY : goal.returns-then-id-ne-EDITION_ENTRY
returns-then-id-ne-EDITION_ENTRY c =
    let child : Node = c.args.child.now in
    let whole : Node = cut_inside c.args.stretch child in
    let other = other-id (id_of child) EDITION_ENTRY (λ own. c.if-id-ne-EDITION_ENTRY.true (c.id.ensures ∙ own)) in
    record { exact = sym (ap (λ (b : Bool). if b && has_atom whole then whole ∷ [] else []) other); place = tt }

pub cut_inside-requires-clause-holds : goal.cut_inside-requires-clause-holds
cut_inside-requires-clause-holds c = edition-holds c.args.child.now (c.requires.edition (sym c.id.ensures ∙ c.if-id-ne-EDITION_ENTRY.false))

pub returns-then-not-has_atom : goal.returns-then-not-has_atom
returns-then-not-has_atom c =
    let child : Node = c.args.child.now in
    let whole : Node = cut_inside c.args.stretch child in
    let own : (id_of child == EDITION_ENTRY) ≡ true = ap (λ i. i == EDITION_ENTRY) (sym c.id.ensures ∙ c.if-id-ne-EDITION_ENTRY.false) in
    let none : has_atom whole ≡ false = ap has_atom (sym c.in_ok-edition.ensures.exact) ∙ sym c.has_atom.ensures ∙ c.if-not-has_atom.true in
    record { exact = sym (ap₂ (λ (a b : Bool). if a && b then whole ∷ [] else []) own none); place = tt }

pub returns : goal.returns
returns c =
    let child : Node = c.args.child.now in
    let whole : Node = cut_inside c.args.stretch child in
    let own : (id_of child == EDITION_ENTRY) ≡ true = ap (λ i. i == EDITION_ENTRY) (sym c.id.ensures ∙ c.if-id-ne-EDITION_ENTRY.false) in
    let some : has_atom whole ≡ true = ap has_atom (sym c.in_ok-edition.ensures.exact) ∙ sym c.has_atom.ensures ∙ c.if-not-has_atom.false in
    record { exact = ap (λ n. n ∷ []) c.in_ok-edition.ensures.exact ∙ sym (ap₂ (λ (a b : Bool). if a && b then whole ∷ [] else []) own some); place = c.in_ok-edition.ensures.place }
