use Rattle.std.proofs.Common.{◌≡◌, ◌+◌, ◌-◌, ◌*◌, ◌<◌, ◌&&◌, ◌∙◌, nat_le, true, false, ap, sym, arith, rules, drop}
use Rattle.sidecar_edit.specs.declared.place.Place.{Place}
use Rattle.sidecar_edit.specs.Fields.{count_in, place_in, places_in}
use Rattle.sidecar_edit.specs.Gate.{first_breach, is_joined, place_rules}
use Rattle.sidecar_edit.proofs.ReadingLemmas.{if_broken, if_kept, used_step}
use Rattle.sidecar_edit.proofs.head.place_breach.Goals as goal

pub loop-k-init : goal.loop-k-init
loop-k-init c = ap (λ n. first_breach (place_rules c.args.old_len 32 n 0 (places_in c.args.head.now))) (omega arith)

pub returns-then-not-is_used : goal.returns-then-not-is_used
returns-then-not-is_used c =
    let s = c.args.head.now in let k = c.loop-k.k in let old = c.args.old_len in let from = c.loop-k.from in
    let few = c.requires.few in let count = c.from-k-end.ensures in let inside = c.loop-k-test.true in
    let below : k < 8 = omega (arith, few, count, inside) in
    let some : 0 < count_in s - k = omega (arith, count, inside) in
    let broken : c.is_used.result ≡ false = search rules in
    let test : (nat_le 1 (place_in s k).len && nat_le from (place_in s k).at && is_joined old from (place_in s k)) ≡ false
    = sym (ap (λ (p : Place). nat_le 1 p.len && nat_le from p.at && is_joined old from p) c.place_in-place.ensures) ∙ sym c.is_used.ensures ∙ broken in
    sym (c.loop-k.invariant ∙ if_broken _ _ _ _ (used_step s old k (count_in s - k) from (32 + 16 * k) below some) test)

pub loop-k-preserved : goal.loop-k-preserved
loop-k-preserved c =
    let s = c.args.head.now in let k = c.loop-k.k in let old = c.args.old_len in let from = c.loop-k.from in
    let few = c.requires.few in let count = c.from-k-end.ensures in let inside = c.loop-k-test.true in
    let below : k < 8 = omega (arith, few, count, inside) in
    let some : 0 < count_in s - k = omega (arith, count, inside) in
    let kept : c.is_used.result ≡ true = search rules in
    let test : (nat_le 1 (place_in s k).len && nat_le from (place_in s k).at && is_joined old from (place_in s k)) ≡ true
    = sym (ap (λ (p : Place). nat_le 1 p.len && nat_le from p.at && is_joined old from p) c.place_in-place.ensures) ∙ sym c.is_used.ensures ∙ kept in
    let at = ap (λ (p : Place). p.at) c.place_in-place.ensures in let len = ap (λ (p : Place). p.len) c.place_in-place.ensures in
    let low = c.from.ensures in let more = c.from-in-loop-k.ensures in
    let end : (place_in s k).at + (place_in s k).len ≡ c.from.result + c.from-in-loop-k.result = omega (arith, at, len, low, more) in
    c.loop-k.invariant ∙ if_kept _ _ _ _ (used_step s old k (count_in s - k) from (32 + 16 * k) below some) test
    ∙ ap (λ octet. first_breach (place_rules old octet (count_in s - k - 1) ((place_in s k).at + (place_in s k).len) (drop (k + 1) (places_in s)))) (omega arith)
    ∙ ap (λ n. first_breach (place_rules old (32 + 16 * (k + 1)) n ((place_in s k).at + (place_in s k).len) (drop (k + 1) (places_in s)))) (omega arith)
    ∙ ap (λ next. first_breach (place_rules old (32 + 16 * (k + 1)) (count_in s - (k + 1)) next (drop (k + 1) (places_in s)))) end

pub returns : goal.returns
returns c =
    let s = c.args.head.now in let old = c.args.old_len in let from = c.loop-k.from in
    let count = c.from-k-end.ensures in let past = c.loop-k-test.false in let end = c.loop-k.auto.k-end in
    let all : c.loop-k.k ≡ count_in s = omega (arith, count, past, end) in
    let none : count_in s - count_in s ≡ 0 = omega arith in
    c.unused_breach.ensures old from
    ∙ sym (c.loop-k.invariant ∙ ap (λ j. first_breach (place_rules old (32 + 16 * j) (count_in s - j) from (drop j (places_in s)))) all
    ∙ ap (λ n. first_breach (place_rules old (32 + 16 * count_in s) n from (drop (count_in s) (places_in s)))) none)
