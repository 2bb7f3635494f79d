use Rattle.std.proofs.Common.{◌≡◌, ◌≤◌, ◌<◌, ◌+◌, ◌-◌, ◌∙◌, true, false, ap, sym, arith, rules, Some}
use Rattle.std.proofs.lemmas.Bool.{cond-false, cond-true}
use Rattle.sidecar_edit.specs.declared.place.TheConstants.{KEPT}
use Rattle.sidecar_edit.specs.declared.outcome.Mark.TheVariants.{Octet}
use Rattle.sidecar_edit.specs.declared.outcome.RecoverEnd.TheVariants.{Foreign}
use Rattle.sidecar_edit.specs.Recovery.{differs, first_place, octet_mark}
use Rattle.sidecar_edit.proofs.ReadingLemmas.{first_step}
use Rattle.sidecar_edit.proofs.fit.octet_mark.Goals as goal

pub returns-then-differs : goal.returns-then-differs
returns-then-differs c =
    let s = c.args.head.now in let m = c.args.media.now in let k = c.loop-k.k in
    let inside : k < KEPT = c.loop-k-test.true in
    let hit : c.differs.result ≡ true = c.if-differs.true in
    let kept = c.from.ensures in let found = c.from-then-differs.ensures ∙ c.octet_at.ensures in
    sym (ap (octet_mark s m) (c.loop-k.invariant ∙ first_step (differs s m) k (KEPT - k) (omega arith) ∙ cond-true (differs s m k) _ _ (sym c.differs.ensures ∙ hit))
    ∙ sym (λ i. Some (Foreign (Octet k) (kept i) (found i))))

pub loop-k-preserved : goal.loop-k-preserved
loop-k-preserved c =
    let s = c.args.head.now in let m = c.args.media.now in let k = c.loop-k.k in
    let inside : k < KEPT = c.loop-k-test.true in
    let same : c.differs.result ≡ false = search rules in
    c.loop-k.invariant ∙ first_step (differs s m) k (KEPT - k) (omega arith) ∙ cond-false (differs s m k) _ _ (sym c.differs.ensures ∙ same)
    ∙ ap (λ n. first_place (differs s m) (k + 1) n) (omega arith)

pub returns : goal.returns
returns c =
    let s = c.args.head.now in let m = c.args.media.now in let k = c.loop-k.k in
    let past : KEPT ≤ k = c.loop-k-test.false in
    let none : KEPT - k ≡ 0 = omega arith in
    sym (ap (octet_mark s m) (c.loop-k.invariant ∙ ap (λ n. first_place (differs s m) k n) none))
