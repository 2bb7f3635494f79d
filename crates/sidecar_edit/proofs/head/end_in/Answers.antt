use Rattle.std.proofs.Common.{◌<◌, ◌∙◌, ap, arith, take}
use Rattle.sidecar_edit.specs.declared.place.Place.{Place}
use Rattle.sidecar_edit.specs.Fields.{last_end, places_in}
use Rattle.sidecar_edit.proofs.ReadingLemmas.{end_next}
use Rattle.sidecar_edit.proofs.head.end_in.Goals as goal

pub loop-k-preserved : goal.loop-k-preserved
loop-k-preserved c =
    let few = c.requires.few in let count = c.from-k-end.ensures in let inside = c.loop-k-test.true in
    let below : c.loop-k.k < 8 = omega (arith, few, count, inside) in
    let next = end_next c.args.head.now c.loop-k.k below in
    let at = ap (λ (p : Place). p.at) c.place_in-place.ensures in let len = ap (λ (p : Place). p.len) c.place_in-place.ensures in
    let low = c.from.ensures in let more = c.from-in-loop-k.ensures in
    omega (arith, next, at, len, low, more)

pub returns : goal.returns
returns c =
    let count = c.from-k-end.ensures in let past = c.loop-k-test.false in let end = c.loop-k.auto.k-end in
    c.loop-k.invariant ∙ ap (λ n. last_end 0 (take n (places_in c.args.head.now))) (omega (arith, count, past, end))
