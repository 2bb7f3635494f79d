use Rattle.std.proofs.Common.{◌≡◌, ◌+◌, ◌*◌, ◌∙◌, max, true, false, ap, sym, arith, rules, drop, nat_le}
use Rattle.std.proofs.lemmas.Bool.{cond-false, cond-true}
use Rattle.sidecar_edit.specs.declared.place.Place.{Place}
use Rattle.sidecar_edit.specs.Fields.{place_in, used_in}
use Rattle.sidecar_edit.specs.Recovery.{gap_of}
use Rattle.sidecar_edit.proofs.ReadingLemmas.{used_next}
use Rattle.sidecar_edit.proofs.fit.gap_of.Goals as goal

pub returns-then-not-begins_within : goal.returns-then-not-begins_within
returns-then-not-begins_within c =
    let s = c.args.head.now in let k = c.loop-k.k in let end = c.loop-k.end in
    let count = c.from-k-end.ensures in let inside = c.loop-k-test.true in
    let past : c.begins_within.result ≡ false = search rules in
    let test : nat_le (place_in s k).at end ≡ false = sym (ap (λ (p : Place). nat_le p.at end) c.place_in-place.ensures) ∙ sym c.begins_within.ensures ∙ past in
    sym (c.loop-k.invariant ∙ ap (λ ps. gap_of (32 + 16 * k) end ps) (used_next s k c.requires.few (omega (arith, count, inside))) ∙ cond-false (nat_le (place_in s k).at end) _ _ test)

pub loop-k-preserved : goal.loop-k-preserved
loop-k-preserved c =
    let s = c.args.head.now in let k = c.loop-k.k in let end = c.loop-k.end in
    let count = c.from-k-end.ensures in let inside = c.loop-k-test.true in
    let within : c.begins_within.result ≡ true = search rules in
    let test : nat_le (place_in s k).at end ≡ true = sym (ap (λ (p : Place). nat_le p.at end) c.place_in-place.ensures) ∙ sym c.begins_within.ensures ∙ within in
    let at = ap (λ (p : Place). p.at) c.place_in-place.ensures in let len = ap (λ (p : Place). p.len) c.place_in-place.ensures in
    let low = c.from.ensures in let more = c.from-in-loop-k.ensures in let greatest = c.max-end.ensures in
    let next : max end ((place_in s k).at + (place_in s k).len) ≡ c.max-end.result = omega (arith, at, len, low, more, greatest) in
    c.loop-k.invariant ∙ ap (λ ps. gap_of (32 + 16 * k) end ps) (used_next s k c.requires.few (omega (arith, count, inside))) ∙ cond-true (nat_le (place_in s k).at end) _ _ test
    ∙ ap (λ octet. gap_of octet (max end ((place_in s k).at + (place_in s k).len)) (drop (k + 1) (used_in s))) (omega arith)
    ∙ ap (λ n. gap_of (32 + 16 * (k + 1)) n (drop (k + 1) (used_in s))) next
