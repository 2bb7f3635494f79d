-- Each part that moves is checked.
use Rattle.std.proofs.Common.{◌∙◌, sym}
use Rattle.edit_plan.proofs.TwinLemmas.{twin-found, twin-passed, twin-stays}
use Rattle.edit_plan.proofs.appended.duplicates.Goals as goal
use Rattle.edit_plan.proofs.appended.duplicates.Goals.{then-moves+in_default, else-moves}

pub returns-in-Some : goal.returns-in-Some
returns-in-Some c =
    twin-found c.args.outline.now.others c.loop-part.part-index c.args.parts.now c.part-item.result c.in-Some.refusal c.loop-part-test.true c.part-item.is
    (sym c.moves.ensures ∙ c.if-moves.true) c.in-Some.ensures
    ∙ sym c.loop-part.invariant

pub loop-part-preserved : goal.loop-part-preserved
loop-part-preserved c =
    c.loop-part.invariant ∙ elim c.if-moves.branch [
      | then-moves+in_default w ↦ twin-passed c.args.outline.now.others c.loop-part.part-index c.args.parts.now c.part-item.result c.loop-part-test.true c.part-item.is
          (sym c.moves.ensures ∙ w.if-moves.true) (sym w.in_default.is ∙ w.twin_refusal.ensures)
      | else-moves w ↦ twin-stays c.args.outline.now.others c.loop-part.part-index c.args.parts.now c.part-item.result c.loop-part-test.true c.part-item.is
          (sym c.moves.ensures ∙ w.if-moves.false)
    ]
