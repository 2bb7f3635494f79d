use Rattle.std.proofs.Common.{◌<◌, ◌∙◌, ap, arith, take}
use Rattle.sidecar_edit.specs.declared.place.Place.{Place}
use Rattle.sidecar_edit.specs.Fields.{places_in, sum_of}
use Rattle.sidecar_edit.proofs.ReadingLemmas.{sum_next}
use Rattle.sidecar_edit.proofs.head.sum_in.Goals as goal

pub loop-k-preserved : goal.loop-k-preserved
loop-k-preserved c =
    let few = c.requires.few in let count = c.from-k-end.ensures in let inside = c.loop-k-test.true in
    let below : c.loop-k.k < 8 = omega (arith, few, count, inside) in
    let next = sum_next c.args.head.now c.loop-k.k below in
    let len = ap (λ (p : Place). p.len) c.place_in.ensures in
    let here = c.from-sum.ensures in let was = c.loop-k.invariant.is in let most = c.loop-k.invariant.most in
    record { is = omega (arith, next, len, here, was); most = omega (arith, most, here) }

pub returns : goal.returns
returns c =
    let count = c.from-k-end.ensures in let past = c.loop-k-test.false in let end = c.loop-k.auto.k-end in
    c.loop-k.invariant.is ∙ ap (λ n. sum_of (take n (places_in c.args.head.now))) (omega (arith, count, past, end))
