use Rattle.std.proofs.Common.{Some, ◌+◌, ◌≤◌, length, sym, ◌∙◌, ap, arith}
use Rattle.mkv_schema.specs.declared.ids.TheConstants.{EBML}
use Rattle.mkv_schema.specs.Value.{is_known_value}
use Rattle.element_reader.specs.EbmlChildren.{children, child_refusal}
use Rattle.element_reader.proofs.ChildrenLemmas.{child_refusal-end, child_refusal-breaks, child_refusal-bad, child_refusal-goes_on}
use Rattle.element_reader.proofs.ebml_children.child_refusal.Goals as goal

-- A child isn't a value of its kind.
pub returns-then-not-is_known_value : goal.returns-then-not-is_known_value
returns-then-not-is_known_value c = λ bytes is.
    let e = c.args.base + length c.args.body.now in
    let h = c.in-Ok.child in
    let bad = sym (c.is_known_value.ensures ∙ ap (is_known_value EBML h.id) (c.body_in.ensures bytes c.args.total is)) ∙ c.if-not-is_known_value.true in
    ap Some c.damage_at.ensures ∙ sym (c.loop-at.invariant.rest bytes is ∙ child_refusal-bad bytes c.loop-at.at e h c.loop-at-test.true (c.in-Ok.ensures.exact bytes is) bad)

-- There is a damage among them.
pub returns-in-Err : goal.returns-in-Err
returns-in-Err c = λ bytes is.
    sym (c.loop-at.invariant.rest bytes is ∙ child_refusal-breaks bytes c.loop-at.at (c.args.base + length c.args.body.now) c.in-Err.damage c.loop-at-test.true (c.in-Err.ensures.exact bytes is))

-- Nothing refuses them.
pub returns : goal.returns
returns c = λ bytes is.
    sym (c.loop-at.invariant.rest bytes is ∙ child_refusal-end bytes c.loop-at.at (c.args.base + length c.args.body.now) c.loop-at-test.false)

-- Another child is passed.
pub loop-at-preserved : goal.loop-at-preserved
loop-at-preserved c =
    let e = c.args.base + length c.args.body.now in
    let h = c.in-Ok.child in
    let later = c.in-Ok.ensures.placed.later in
    let within = c.in-Ok.ensures.placed.within in
    let on : c.loop-at.at ≤ c.end_in-at.result = omega (arith, later, within, c.end_in-at.ensures) in
    record {
      begin = omega (arith, on, c.loop-at.invariant.begin);
      place = omega (arith, c.end_in-at.ensures);
      rest = λ bytes is.
          let good = sym (c.is_known_value.ensures ∙ ap (is_known_value EBML h.id) (c.body_in.ensures bytes c.args.total is)) ∙ c.if-not-is_known_value.false in
          c.loop-at.invariant.rest bytes is
          ∙ child_refusal-goes_on bytes c.loop-at.at e h c.loop-at-test.true (c.in-Ok.ensures.exact bytes is) good
          ∙ ap (λ p. child_refusal bytes (children bytes p e)) (sym c.end_in-at.ensures);
    }
