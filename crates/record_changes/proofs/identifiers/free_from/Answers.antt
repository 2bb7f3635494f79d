-- A taken number is bounded by the size of the sets.
use Rattle.std.proofs.Common.{sym, ◌∙◌, arith}
use Rattle.record_changes.proofs.TakenLemmas.{next-taken, taken-few}
use Rattle.record_changes.proofs.identifiers.free_from.Goals as goal

pub overflow_add-number : goal.overflow_add-number
overflow_add-number c =
    let few = taken-few c.args.source.now c.args.given.now _ c.loop-number.invariant (sym c.is_taken.ensures ∙ c.loop-number-test.true) in
    omega arith

pub loop-number-preserved : goal.loop-number-preserved
loop-number-preserved c = next-taken c.args.source.now c.args.given.now _ c.loop-number.invariant (sym c.is_taken.ensures ∙ c.loop-number-test.true)

pub loop-number-smaller : goal.loop-number-smaller
loop-number-smaller c =
    let few = taken-few c.args.source.now c.args.given.now _ c.loop-number.invariant (sym c.is_taken.ensures ∙ c.loop-number-test.true) in
    omega arith
