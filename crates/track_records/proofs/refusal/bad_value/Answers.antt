-- A child is valid in the entry, and is new or came before.
use Rattle.std.proofs.Common.{◌≡◌, false, subst, ℕ}
use Rattle.tree_format.specs.Standing.{StandsIn}
use Rattle.tree_format.proofs.ChildLemmas.{child-stands}
use Rattle.track_records.proofs.RefusalLemmas.{is_new_bad, bad-next, met-old, good-old}
use Rattle.track_records.proofs.refusal.bad_value.Goals as goal
use Rattle.track_records.proofs.refusal.bad_value.Goals.{else-not-is_met-via-then-not-is_met+else-is_bad, else-not-is_met-via-else-not-is_met}

pub is_bad-requires : goal.is_bad-requires
is_bad-requires c =
    let P : ℕ → Type 0 = λ id. StandsIn id c.child-item.result in
    subst P c.requires.id (child-stands _ _ _ _ c.requires.sound c.children-child-items.ensures.exact c.loop-child-test.true c.child-item.is)

pub loop-child-preserved : goal.loop-child-preserved
loop-child-preserved c =
    let old : is_new_bad c.loop-child.numbered c.loop-child.timed c.child-item.result ≡ false = elim c.else-not-is_met.branch [
      | else-not-is_met-via-then-not-is_met+else-is_bad w ↦ good-old c.loop-child.numbered c.loop-child.timed c.child-item.result _ w.is_bad.ensures w.if-is_bad.false
      | else-not-is_met-via-else-not-is_met w ↦ met-old _ _ c.child-item.result _ _ c.id-id.ensures c.is_met.ensures w.if-not-is_met.false
    ] in
    bad-next _ _ _ _ _ _ _ c.loop-child-test.true c.child-item.is c.id-id.ensures old c.loop-child.invariant
