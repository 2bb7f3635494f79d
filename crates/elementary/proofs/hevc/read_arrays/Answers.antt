-- Each turn passes an array; without a first array, fewer than `count` arrays are present.
use Rattle.std.proofs.Common.{◌+◌, ◌-◌, sym, ◌∙◌, arith}
use Rattle.std.proofs.lemmas.Result.{err_from_is_err_and}
use Rattle.elementary.proofs.HevcLemmas.{arrays-step, arrays-end, no_array}
use Rattle.elementary.proofs.hevc.read_arrays.Goals as goal

pub returns-in_err-rest : goal.returns-in_err-rest
returns-in_err-rest c =
    let n = c.args.count - c.loop.counter in
    let p = err_from_is_err_and c.from_residual.result c.from_residual.ensures.1 in
    rw (p.1, p.2) (no_array n (n - 1) c.args.count c.args.sets.now c.loop.sets c.read_array.new.sets c.args.octets.now c.loop.rest.now c.in_err-rest.field-0.0 (omega arith) c.loop.invariant c.in_err-rest.ensures)

pub loop-preserved : goal.loop-preserved
loop-preserved c =
    let n = c.args.count - c.loop.counter in
    let step = arrays-step n (c.args.count - (c.loop.counter + 1)) c.loop.sets c.read_array.new.sets c.loop.rest.now c.in_ok-rest.rest.now (omega arith) c.in_ok-rest.ensures in
    sym step ∙ c.loop.invariant

pub returns : goal.returns
returns c = sym c.loop.invariant ∙ arrays-end (c.args.count - c.loop.counter) c.loop.sets c.loop.rest.now (omega arith)
