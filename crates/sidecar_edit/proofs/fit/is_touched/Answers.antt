use Rattle.std.proofs.Common.{◌≡◌, ◌+◌, ◌&&◌, ◌||◌, ◌∙◌, nat_le, nat_lt, true, false, ap, sym, arith, rules, drop}
use Rattle.std.proofs.lemmas.Bool.{or_left}
use Rattle.sidecar_edit.specs.declared.place.Place.{Place}
use Rattle.sidecar_edit.specs.Fields.{place_in, used_in}
use Rattle.sidecar_edit.specs.Recovery.{is_touched}
use Rattle.sidecar_edit.proofs.ReadingLemmas.{used_end, used_next}
use Rattle.sidecar_edit.proofs.fit.is_touched.Goals as goal

pub returns-then-touches : goal.returns-then-touches
returns-then-touches c =
    let s = c.args.head.now in let k = c.args.k in let i = c.loop-i.i in
    let count = c.from-i-end.ensures in let inside = c.loop-i-test.true in
    let hit : c.touches.result ≡ true = search rules in
    let test : (nat_le (place_in s i).at k && nat_lt k ((place_in s i).at + (place_in s i).len)) ≡ true
    = sym (ap (λ (p : Place). nat_le p.at k && nat_lt k (p.at + p.len)) c.place_in-place.ensures) ∙ sym c.touches.ensures ∙ hit in
    sym (c.loop-i.invariant ∙ ap (λ ps. is_touched ps k) (used_next s i c.requires.few (omega (arith, count, inside))) ∙ or_left _ (is_touched (drop (i + 1) (used_in s)) k) test)

pub loop-i-preserved : goal.loop-i-preserved
loop-i-preserved c =
    let s = c.args.head.now in let k = c.args.k in let i = c.loop-i.i in
    let count = c.from-i-end.ensures in let inside = c.loop-i-test.true in
    let hit : c.touches.result ≡ false = search rules in
    let test : (nat_le (place_in s i).at k && nat_lt k ((place_in s i).at + (place_in s i).len)) ≡ false
    = sym (ap (λ (p : Place). nat_le p.at k && nat_lt k (p.at + p.len)) c.place_in-place.ensures) ∙ sym c.touches.ensures ∙ hit in
    c.loop-i.invariant ∙ ap (λ ps. is_touched ps k) (used_next s i c.requires.few (omega (arith, count, inside))) ∙ ap (λ b. b || is_touched (drop (i + 1) (used_in s)) k) test

pub returns : goal.returns
returns c =
    let s = c.args.head.now in let count = c.from-i-end.ensures in let past = c.loop-i-test.false in
    sym (c.loop-i.invariant ∙ ap (λ ps. is_touched ps c.args.k) (used_end s c.loop-i.i c.requires.few (omega (arith, count, past))))
