-- An atom is later, and another child is unchanged.
use Rattle.std.proofs.Common.{◌≡◌, ◌==◌, Bool, true, false, if◌then◌else◌, sym, ap, ◌∙◌}
use Rattle.mkv_schema.specs.declared.ids.TheConstants.{CHAPTER_ATOM}
use Rattle.tree_format.specs.Node.{Node, id_of}
use Rattle.record_changes.specs.Shift.{shifted_part, shifted_in_edition}
use Rattle.record_changes.proofs.StandLemmas.{other-id, may-copy, ok-is}
use Rattle.record_changes.proofs.shifting.shifted_in_edition.Goals as goal

pub shifted_atom-requires : goal.shifted_atom-requires
shifted_atom-requires c = c.requires (sym c.id.ensures ∙ c.if-id-eq-CHAPTER_ATOM.true)

pub returns-then-id-eq-CHAPTER_ATOM : goal.returns-then-id-eq-CHAPTER_ATOM
returns-then-id-eq-CHAPTER_ATOM c =
    let child : Node = c.args.child.now in
    let own : (id_of child == CHAPTER_ATOM) ≡ true = ap (λ i. i == CHAPTER_ATOM) (sym c.id.ensures ∙ c.if-id-eq-CHAPTER_ATOM.true) in
    record { exact = ok-is c.shifted_atom.result (shifted_part c.args.by child) (shifted_in_edition c.args.by child) (sym (ap (λ (b : Bool). if b then shifted_part c.args.by child else child) own)) c.shifted_atom.ensures.exact; place = c.shifted_atom.ensures.place }

pub returns-else-id-eq-CHAPTER_ATOM : goal.returns-else-id-eq-CHAPTER_ATOM
returns-else-id-eq-CHAPTER_ATOM c =
    let child : Node = c.args.child.now in
    let other : (id_of child == CHAPTER_ATOM) ≡ false = other-id (id_of child) CHAPTER_ATOM (λ own. c.if-id-eq-CHAPTER_ATOM.false (c.id.ensures ∙ own)) in
    record { exact = ok-is c.copy.result child (shifted_in_edition c.args.by child) (sym (ap (λ (b : Bool). if b then shifted_part c.args.by child else child) other)) c.copy.ensures; place = may-copy c.copy.result child c.copy.ensures }
