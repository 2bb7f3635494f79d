-- A body is read one Element at a time, and the first damage is the damage of the whole.
use Rattle.std.proofs.Common.{◌≡◌, ◌<◌, length, arith}
use Rattle.std.proofs.lemmas.Result.{err_from_is_err_and}
use Rattle.std.proofs.lemmas.Bool.Decides.{nat_tests}
use Rattle.tree_format.proofs.ReadingLemmas.{read-all, read-damaged, read-damaged_inside, read-more}
use Rattle.ebml_tree.proofs.EndLemmas.{refuses-pass, none-from_length}
use Rattle.ebml_tree.proofs.tree.reading.+reading.Goals as goal

pub trees_in-returns-in_err-header-clause-err : goal.trees_in-returns-in_err-header-clause-err
trees_in-returns-in_err-header-clause-err t c =
    let p = err_from_is_err_and c.from_residual.result c.from_residual.ensures.1 in
    let some : 0 < length c.loop-rest.rest.now = grind (arith, nat_tests) in
    rw (p.1, p.2) (read-damaged _ _ _ _ _ _ _ _ _ c.loop-rest.invariant c.in_err-header.field-0.0 some c.in_err-header.ensures.err)

pub trees_in-returns-in_err-tree-clause-err : goal.trees_in-returns-in_err-tree-clause-err
trees_in-returns-in_err-tree-clause-err t c =
    let p = err_from_is_err_and c.from_residual-in_err-tree.result c.from_residual-in_err-tree.ensures.1 in
    let some : 0 < length c.loop-rest.rest.now = grind (arith, nat_tests) in
    let refuses = rw c.cut.ensures.inside at c.in_err-tree.ensures.err in
    rw (p.1, p.2) (refuses-pass c.in_err-tree.field-0.0 _ _
    (λ d inner. read-damaged_inside _ _ _ _ _ _ _ _ _ c.loop-rest.invariant d c.in_ok-header.header some c.in_ok-header.ensures.ok inner)
    refuses)

pub trees_in-loop-rest-preserved : goal.trees_in-loop-rest-preserved
trees_in-loop-rest-preserved t c =
    let some : 0 < length c.loop-rest.rest.now = grind (arith, nat_tests) in
    let inner = rw c.cut.ensures.inside at c.in_ok-tree.ensures.ok in
    rw (c.in_ok-header.ensures.size, c.cut.ensures.behind, c.in_ok-push.ensures.items)
    (read-more _ _ _ _ _ _ _ _ _ c.loop-rest.invariant c.in_ok-tree.tree c.tree_in.new.left c.in_ok-header.header some c.in_ok-tree.ensures.shallow c.in_ok-header.ensures.ok inner)

pub trees_in-returns-clause-ok : goal.trees_in-returns-clause-ok
trees_in-returns-clause-ok t c =
    let none : length c.loop-rest.rest.now ≡ 0 = grind (arith, nat_tests) in
    read-all _ _ _ _ _ _ _ _ _ c.loop-rest.invariant (none-from_length c.loop-rest.rest.now none)
