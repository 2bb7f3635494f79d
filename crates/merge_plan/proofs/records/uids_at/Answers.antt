-- An output track of another input is passed over.
use Rattle.std.proofs.Common.{◌≡◌, ◌==◌, false, ◌++◌, get_or, ap, ◌∙◌, arith}
use Rattle.std.proofs.lemmas.Bool.Decides.{nat_tests}
use Rattle.merge_plan.specs.Records.{is_begun_by}
use Rattle.merge_plan.proofs.OrderLemmas.{picked_next}
use Rattle.merge_plan.proofs.records.uids_at.Goals as goal

pub loop-k-preserved-then-key-owner : goal.loop-k-preserved-then-key-owner
loop-k-preserved-then-key-owner c =
    let keys = c.args.keys.now in
    let numbers = c.args.numbers.now in
    let k = c.loop-k.k in
    let other : ((get_or keys k (0, 0)).0 == c.args.owner) ≡ false = grind (arith, nat_tests, c.if-key-owner.true) in
    c.loop-k.invariant ∙ ap (λ l. c.loop-k.own ++ l) (picked_next (is_begun_by c.args.owner) keys numbers k (0, 0) 0 c.loop-k-test.true (omega (arith, c.requires, c.loop-k-test.true)) false other)
