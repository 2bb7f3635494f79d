use Rattle.std.proofs.Common.{◌≡◌, ◌+◌, ◌*◌, ◌<◌, ◌==◌, ◌&&◌, ◌∙◌, true, false, ap, sym, arith, rules, drop}
use Rattle.sidecar_edit.specs.declared.place.Place.{Place}
use Rattle.sidecar_edit.specs.Fields.{place_in, places_in}
use Rattle.sidecar_edit.specs.Gate.{first_breach, place_rules}
use Rattle.sidecar_edit.proofs.ReadingLemmas.{if_broken, if_kept, unused_step}
use Rattle.sidecar_edit.proofs.head.unused_breach.Goals as goal

pub returns-then-not-is_zero : goal.returns-then-not-is_zero
returns-then-not-is_zero c = λ old from.
    let s = c.args.head.now in let k = c.loop-k.k in
    let below : k < 8 = c.loop-k-test.true in
    let broken : c.is_zero.result ≡ false = search rules in
    let test : (((place_in s k).at == 0) && ((place_in s k).len == 0)) ≡ false = sym (ap (λ (p : Place). (p.at == 0) && (p.len == 0)) c.place_in-place.ensures) ∙ sym c.is_zero.ensures ∙ broken in
    sym (c.loop-k.invariant old from ∙ if_broken _ _ _ _ (unused_step s old k from (32 + 16 * k) below) test)

pub loop-k-preserved : goal.loop-k-preserved
loop-k-preserved c = λ old from.
    let s = c.args.head.now in let k = c.loop-k.k in
    let below : k < 8 = c.loop-k-test.true in
    let kept : c.is_zero.result ≡ true = search rules in
    let test : (((place_in s k).at == 0) && ((place_in s k).len == 0)) ≡ true = sym (ap (λ (p : Place). (p.at == 0) && (p.len == 0)) c.place_in-place.ensures) ∙ sym c.is_zero.ensures ∙ kept in
    c.loop-k.invariant old from ∙ if_kept _ _ _ _ (unused_step s old k from (32 + 16 * k) below) test
    ∙ ap (λ octet. first_breach (place_rules old octet 0 from (drop (k + 1) (places_in s)))) (omega arith)
