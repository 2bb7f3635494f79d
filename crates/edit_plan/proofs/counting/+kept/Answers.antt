-- Each child that is written counts, with its children.
use Rattle.std.proofs.Common.{ap, arith}
use Rattle.tree_format.specs.Node.{nodes_of}
use Rattle.tree_format.specs.Standing.{kept_all}
use Rattle.output_records.proofs.KeptLemmas.{kept-children, next-written, next-unwritten, none-left, child-smaller}
use Rattle.edit_plan.proofs.counting.+kept.Goals as goal
use Rattle.edit_plan.proofs.counting.+kept.Goals.{then-written_len-gt0+in_ok-kept+in_ok-count, else-written_len-gt0}

pub loop-child-init : goal.loop-child-init
loop-child-init t c =
    let all = kept-children c.args.tree.now in
    let same = ap (λ l. kept_all (nodes_of l)) c.children-child-items.ensures.exact in
    omega arith

pub kept-requires : goal.kept-requires
kept-requires t c =
    let less = child-smaller _ _ _ _ c.children-child-items.ensures.exact c.loop-child-test.true c.child-item.is in
    (omega arith, tt)

pub loop-child-preserved : goal.loop-child-preserved
loop-child-preserved t c =
    elim c.if-written_len-gt0.branch [
      | then-written_len-gt0+in_ok-kept+in_ok-count w ↦
          let next = next-written _ _ _ c.loop-child-test.true c.child-item.is (omega (arith, c.written_len.ensures.exact, w.if-written_len-gt0.true)) in
          let one = w.in_ok-kept.ensures {u = tt} in
          let more = w.in_ok-count.ensures in
          omega (arith, c.loop-child.invariant, w.count-is)
      | else-written_len-gt0 w ↦
          let next = next-unwritten _ _ _ c.loop-child-test.true c.child-item.is c.written_len.ensures.behind (omega (arith, c.written_len.ensures.exact, w.if-written_len-gt0.false)) in
          omega (arith, c.loop-child.invariant, w.count-is)
    ]

pub returns : goal.returns
returns t c =
    let none = none-left _ _ c.loop-child-test.false in
    let all = c.loop-child.invariant in
    omega arith
