-- A written target is an integer with its ID.
use Rattle.std.proofs.Common.{◌≡◌, true, sym, ap, ◌∙◌}
use Rattle.record_changes.specs.Tags.{is_target_id, is_target}
use Rattle.record_changes.proofs.TargetLemmas.{target-id, target-is, in-place}
use Rattle.record_changes.proofs.target.written_target.Goals as goal

pub uint_leaf-requires : goal.uint_leaf-requires
uint_leaf-requires c =
    let target : is_target c.args.child.now ≡ true = sym c.is_target.ensures ∙ c.if-not-is_target.false in
    (target-id _ (ap is_target_id c.id.ensures ∙ target-is c.args.child.now target)).valid

pub returns-in_ok-uint_leaf-in-Some-clause-place : goal.returns-in_ok-uint_leaf-in-Some-clause-place
returns-in_ok-uint_leaf-in-Some-clause-place c =
    let target : is_target c.args.child.now ≡ true = sym c.is_target.ensures ∙ c.if-not-is_target.false in
    in-place c.args.child.now _ c.id.result c.in-Some.number c.in_ok-uint_leaf-in-Some.ensures.exact
    (c.in_ok-uint_leaf-in-Some.ensures.stands _ (target-id _ (ap is_target_id c.id.ensures ∙ target-is c.args.child.now target)))
