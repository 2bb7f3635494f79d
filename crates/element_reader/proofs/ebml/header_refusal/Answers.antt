use Rattle.std.proofs.Common.{◌+◌, length, sym, ◌∙◌, ap}
use Rattle.mkv_schema.specs.declared.limits.TheConstants.{MAX_HEADER_LEN}
use Rattle.mkv_schema.specs.Outline.{over, bad_value, first_damage, header_causes}
use Rattle.mkv_schema.specs.declared.ids.TheConstants.{EBML}
use Rattle.element_reader.specs.EbmlChildren.{children, value_causes}
use Rattle.element_reader.proofs.FieldLemmas.{over-none, refused-by_child, refused-by_value}
use Rattle.element_reader.proofs.LevelLemmas.{none_where}
use Rattle.element_reader.proofs.ebml.header_refusal.Goals as goal

-- The children refuse it.
pub returns-in-Some : goal.returns-in-Some
returns-in-Some c = λ bytes is.
    let h = c.args.header.now in
    let run = children bytes h.body (h.body + length c.args.body.now) in
    sym (ap (λ n. first_damage (header_causes bytes h (children bytes h.body (h.body + n)))) (sym c.requires.whole)
    ∙ refused-by_child (over MAX_HEADER_LEN h) (bad_value bytes EBML run.list) run.damage (value_causes bytes run.list) c.in-Some.damage (over-none h c.requires.most) (sym (c.in-Some.ensures bytes is)))

-- Otherwise their values decide.
pub returns : goal.returns
returns c = λ bytes is.
    let h = c.args.header.now in
    let run = children bytes h.body (h.body + length c.args.body.now) in
    let none = sym (c.child_refusal.ensures bytes is) ∙ none_where c.child_refusal.result c.in_default.not-Some in
    c.value_refusal.ensures bytes is none
    ∙ sym (ap (λ n. first_damage (header_causes bytes h (children bytes h.body (h.body + n)))) (sym c.requires.whole)
    ∙ refused-by_value (over MAX_HEADER_LEN h) (bad_value bytes EBML run.list) run.damage (value_causes bytes run.list) (over-none h c.requires.most) none)
