use Rattle.std.proofs.Common.{◌+◌, ◌≤◌, length, refl, sym, ◌∙◌, ap, subst, Some, arith, Option}
use Rattle.std.specs.Option.{IfSome}
use Rattle.mkv_schema.specs.declared.ids.TheConstants.{BLOCK_GROUP}
use Rattle.mkv_schema.specs.declared.element.Header.{Header}
use Rattle.mkv_schema.specs.Element.{in_master, stated_end}
use Rattle.mkv_schema.specs.Elements.{children_in}
use Rattle.mkv_schema.specs.Value.{is_known_value}
use Rattle.block_reader.specs.Group.{IsInside}
use Rattle.block_reader.proofs.RunLemmas.{IsOnWay-begins, IsOnWay-bad, IsOnWay-breaks, IsOnWay-ends, IsOnWay-more, block-inside}
use Rattle.block_reader.proofs.gathered.Gathered.gather.Goals as goal

-- Nothing is gathered at first.
pub loop-at-init : goal.loop-at-init
loop-at-init c = record {
  begin = omega arith;
  place = omega arith;
  block = subst (λ (o : Option Header). IfSome o (IsInside c.args.base (c.args.base + length c.args.body.now))) (sym c.clear.ensures.block) tt;
  kept = omega (arith, ap length c.clear.ensures.kept);
  way = λ bytes is. IsOnWay-begins bytes (children_in in_master bytes c.args.base (c.args.base + length c.args.body.now)) c.clear.new.self (c.clear.ensures.exact bytes);
}

-- A damaged place is among the children.
pub returns-in-Err-clause-exact : goal.returns-in-Err-clause-exact
returns-in-Err-clause-exact c = λ bytes is.
    let e = c.args.base + length c.args.body.now in
    IsOnWay-breaks bytes (children_in in_master bytes c.args.base e) c.loop-at.self c.loop-at.at e c.in-Err.damage (c.loop-at.invariant.way bytes is) c.loop-at-test.true (c.in-Err.ensures.exact bytes is)

-- A child is invalid.
pub returns-then-not-is_child_value-clause-exact :
    goal.returns-then-not-is_child_value-clause-exact
returns-then-not-is_child_value-clause-exact c = λ bytes is.
    let e = c.args.base + length c.args.body.now in
    let h = c.in-Ok.child in
    let bad = sym (c.is_child_value.ensures ∙ ap (is_known_value BLOCK_GROUP h.id) (c.body_in-value.ensures bytes c.args.total is)) ∙ c.if-not-is_child_value.true in
    IsOnWay-bad bytes (children_in in_master bytes c.args.base e) c.loop-at.self c.loop-at.at e h (c.loop-at.invariant.way bytes is) c.loop-at-test.true (c.in-Ok.ensures.exact bytes is) bad ∙ ap Some (sym c.damage.ensures)

-- Another child is added.
pub loop-at-preserved : goal.loop-at-preserved
loop-at-preserved c =
    let e = c.args.base + length c.args.body.now in
    let h = c.in-Ok.child in
    let begin = c.loop-at.invariant.begin in
    let kept = c.loop-at.invariant.kept in
    let offset = c.in-Ok.ensures.placed.offset in
    let later = c.in-Ok.ensures.placed.later in
    let within : stated_end h ≤ e = c.in-Ok.ensures.whole.inside refl in
    let size = c.known.ensures in
    record {
      begin = omega arith;
      place = omega arith;
      block = block-inside c.args.base e c.loop-at.self.block c.add.new.self.block h c.in_ok-add.ensures.block c.loop-at.invariant.block (omega arith) within;
      kept = omega (arith, c.in_ok-add.ensures.kept, c.element_of.ensures.length);
      way = λ bytes is.
          let good = sym (c.is_child_value.ensures ∙ ap (is_known_value BLOCK_GROUP h.id) (c.body_in-value.ensures bytes c.args.total is)) ∙ c.if-not-is_child_value.false in
          IsOnWay-more bytes (children_in in_master bytes c.args.base e) c.loop-at.self c.add.new.self c.loop-at.at (h.body + c.known.result) e h (c.loop-at.invariant.way bytes is) c.loop-at-test.true (c.in-Ok.ensures.exact bytes is) good (omega arith)
          (λ given gathers. c.in_ok-add.ensures.exact bytes given (c.body_in-value.ensures bytes c.args.total is) (c.element_of.ensures.exact bytes c.args.total is) gathers);
    }

-- All children are gathered.
pub returns-clause-exact : goal.returns-clause-exact
returns-clause-exact c = λ bytes is.
    let e = c.args.base + length c.args.body.now in
    IsOnWay-ends bytes (children_in in_master bytes c.args.base e) c.loop-at.self c.loop-at.at e (c.loop-at.invariant.way bytes is) c.loop-at-test.false
