use Rattle.std.proofs.Common.{◌+◌, ◌≤◌, length, sym, ◌∙◌, ap, arith}
use Rattle.mkv_schema.specs.Value.{first_of}
use Rattle.element_reader.specs.EbmlChildren.{children}
use Rattle.element_reader.proofs.ChildrenLemmas.{first_child-end, first_child-breaks, first_child-found, first_child-goes_on}
use Rattle.element_reader.proofs.ebml_children.first_child.Goals as goal

-- The first child is found.
pub returns-then-child-id-clause-exact : goal.returns-then-child-id-clause-exact
returns-then-child-id-clause-exact c = λ bytes is.
    sym (c.loop-at.invariant.rest bytes is ∙ first_child-found bytes c.args.id c.loop-at.at (c.args.base + length c.args.body.now) c.in-Ok.child c.loop-at-test.true (c.in-Ok.ensures.exact bytes is) c.if-child-id.true)

-- There is a damage before it.
pub returns-in-Err-clause-exact : goal.returns-in-Err-clause-exact
returns-in-Err-clause-exact c = λ bytes is.
    sym (c.loop-at.invariant.rest bytes is ∙ first_child-breaks bytes c.args.id c.loop-at.at (c.args.base + length c.args.body.now) _ c.loop-at-test.true (c.in-Err.ensures.exact bytes is))

-- There is none.
pub returns-clause-exact : goal.returns-clause-exact
returns-clause-exact c = λ bytes is.
    sym (c.loop-at.invariant.rest bytes is ∙ first_child-end bytes c.args.id c.loop-at.at (c.args.base + length c.args.body.now) c.loop-at-test.false)

-- Another child is passed.
pub loop-at-preserved : goal.loop-at-preserved
loop-at-preserved c =
    let e = c.args.base + length c.args.body.now in
    let later = c.in-Ok.ensures.placed.later in
    let within = c.in-Ok.ensures.placed.within in
    let on : c.loop-at.at ≤ c.end_in-at.result = omega (arith, later, within, c.end_in-at.ensures) in
    record {
      begin = omega (arith, on, c.loop-at.invariant.begin);
      place = omega (arith, c.end_in-at.ensures);
      rest = λ bytes is.
          c.loop-at.invariant.rest bytes is
          ∙ first_child-goes_on bytes c.args.id c.loop-at.at e c.in-Ok.child c.loop-at-test.true (c.in-Ok.ensures.exact bytes is) c.if-child-id.false
          ∙ ap (λ p. first_of c.args.id (children bytes p e).list) (sym c.end_in-at.ensures);
    }
