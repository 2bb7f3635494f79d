-- Each tree that is written counts.
use Rattle.std.proofs.Common.{arith}
use Rattle.output_records.proofs.KeptLemmas.{next-written, next-unwritten}
use Rattle.edit_plan.proofs.counting.kept_all.Goals as goal
use Rattle.edit_plan.proofs.counting.kept_all.Goals.{then-written_len-gt0+in_ok-kept+in_ok-count, else-written_len-gt0}

pub loop-tree-preserved : goal.loop-tree-preserved
loop-tree-preserved c =
    elim c.if-written_len-gt0.branch [
      | then-written_len-gt0+in_ok-kept+in_ok-count w ↦
          let next = next-written _ _ _ c.loop-tree-test.true c.tree-item.is (omega (arith, c.written_len.ensures.exact, w.if-written_len-gt0.true)) in
          let one = w.in_ok-kept.ensures in
          let more = w.in_ok-count.ensures in
          omega (arith, c.loop-tree.invariant, w.count-is)
      | else-written_len-gt0 w ↦
          let next = next-unwritten _ _ _ c.loop-tree-test.true c.tree-item.is c.written_len.ensures.behind (omega (arith, c.written_len.ensures.exact, w.if-written_len-gt0.false)) in
          omega (arith, c.loop-tree.invariant, w.count-is)
    ]
