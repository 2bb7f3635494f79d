use Rattle.std.proofs.Common.{◌<◌, ◌+◌, List, ℕ, length, drop, sym, ◌∙◌, ap, arith}
use Rattle.remuxer.specs.Taking.{told_by}
use Rattle.remuxer.specs.Told.{told_at, told_of}
use Rattle.remuxer.proofs.ToldLemmas.{first-found, none-found, told-step}
use Rattle.remuxer.proofs.summary.told_of.Goals as goal

pub returns-then-is_some : goal.returns-then-is_some
returns-then-is_some c =
    let inputs = c.args.inputs.now in
    let told = told_by c.args.merge.now in
    let items = c.lane.result.now.walk.told.items in
    let inside : c.loop-k.k < length inputs = omega (arith, c.loop-k-test.true) in
    let step = told-step inputs c.args.merge.now c.loop-k.k c.args.input c.index-inputs-k.result c.lane.result.now inside c.index-inputs-k.is c.lane.ensures in
    first-found c.told_at-told.result (told_at c.index-inputs-k.result items c.args.input) (told_of (drop (c.loop-k.k + 1) inputs) (drop (c.loop-k.k + 1) told) c.args.input) (sym c.if-is_some.ensures)
    (c.told_at-told.ensures ∙ ap (λ (numbers : List ℕ). told_at numbers items c.args.input) c.as_slice.ensures)
    ∙ sym step ∙ c.loop-k.invariant

pub loop-k-preserved : goal.loop-k-preserved
loop-k-preserved c =
    let inputs = c.args.inputs.now in
    let told = told_by c.args.merge.now in
    let items = c.lane.result.now.walk.told.items in
    let inside : c.loop-k.k < length inputs = omega (arith, c.loop-k-test.true) in
    let step = told-step inputs c.args.merge.now c.loop-k.k c.args.input c.index-inputs-k.result c.lane.result.now inside c.index-inputs-k.is c.lane.ensures in
    sym (none-found c.told_at-told.result (told_at c.index-inputs-k.result items c.args.input) (told_of (drop (c.loop-k.k + 1) inputs) (drop (c.loop-k.k + 1) told) c.args.input) (sym c.if-is_some.ensures)
    (c.told_at-told.ensures ∙ ap (λ (numbers : List ℕ). told_at numbers items c.args.input) c.as_slice.ensures))
    ∙ sym step ∙ c.loop-k.invariant
