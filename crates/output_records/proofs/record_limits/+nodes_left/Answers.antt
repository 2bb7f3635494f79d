-- Each written child counts, with the elements inside it.
use Rattle.std.proofs.Common.{ap, arith}
use Rattle.tree_format.specs.Node.{nodes_of}
use Rattle.tree_format.specs.Standing.{kept_all}
use Rattle.output_records.proofs.KeptLemmas.{kept-children, next-written, next-unwritten, none-left, child-smaller}
use Rattle.output_records.proofs.record_limits.+nodes_left.Goals as goal
use Rattle.output_records.proofs.record_limits.+nodes_left.Goals.{then-written_len-gt0+in_ok-left-2, else-written_len-gt0}

pub returns-in_err-left : goal.returns-in_err-left
returns-in_err-left t c =
    let all = kept-children c.args.tree.now in
    rw c.from_residual.ensures (λ few. c.in_err-left.ensures {u = tt} (omega arith))

pub loop-child-init : goal.loop-child-init
loop-child-init t c =
    let all = kept-children c.args.tree.now in
    let same = ap (λ l. kept_all (nodes_of l)) c.children-child-items.ensures.exact in
    let first = c.in_ok-left.ensures {u = tt} in
    omega arith

pub returns-in_err-left-2 : goal.returns-in_err-left-2
returns-in_err-left-2 t c =
    let next = next-written _ _ _ c.loop-child-test.true c.child-item.is (omega (arith, c.written_len.ensures.exact)) in
    rw c.from_residual-in_err-left-2.ensures (λ few. c.in_err-left-2.ensures {u = tt} (omega (arith, c.loop-child.invariant)))

pub loop-child-preserved : goal.loop-child-preserved
loop-child-preserved t c =
    elim c.if-written_len-gt0.branch [
      | then-written_len-gt0+in_ok-left-2 w ↦
          let next = next-written _ _ _ c.loop-child-test.true c.child-item.is (omega (arith, c.written_len.ensures.exact, w.if-written_len-gt0.true)) in
          let rest = w.in_ok-left-2.ensures {u = tt} in
          omega (arith, c.loop-child.invariant, w.left-is)
      | else-written_len-gt0 w ↦
          let next = next-unwritten _ _ _ c.loop-child-test.true c.child-item.is c.written_len.ensures.behind (omega (arith, c.written_len.ensures.exact, w.if-written_len-gt0.false)) in
          omega (arith, c.loop-child.invariant, w.left-is)
    ]

pub returns : goal.returns
returns t c =
    let none = none-left _ _ c.loop-child-test.false in
    let all = c.loop-child.invariant in
    (omega arith, omega arith)

pub nodes_left-requires : goal.nodes_left-requires
nodes_left-requires t c =
    let less = child-smaller _ _ _ _ c.children-child-items.ensures.exact c.loop-child-test.true c.child-item.is in
    (omega arith, tt)
