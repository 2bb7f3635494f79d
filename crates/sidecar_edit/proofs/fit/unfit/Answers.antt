use Rattle.std.proofs.Common.{◌≡◌, ◌∙◌, ◌==◌, Option, IfSome, false, eq-eqb, subst, sym}
use Rattle.std.proofs.lemmas.Bool.{cond-false, cond-true, ne_eqb}
use Rattle.sidecar_edit.specs.declared.outcome.RecoverEnd.{RecoverEnd}
use Rattle.sidecar_edit.specs.Fields.{used_in, version_in}
use Rattle.sidecar_edit.specs.Recovery.{foreign_of, gap_of, is_disk_fault, unfit}
use Rattle.sidecar_edit.proofs.FitLemmas.{unfit-refused}
use Rattle.sidecar_edit.proofs.fit.unfit.Goals as goal

-- A result by the definition isn't a failure of the disk.
refused : (h m : _) (n : _) (o : Option RecoverEnd) → o ≡ unfit h n m → IfSome o (λ end. is_disk_fault end ≡ false)
refused h m n o is = subst (λ (u : Option RecoverEnd). IfSome u (λ end. is_disk_fault end ≡ false)) (sym is) (unfit-refused h n m)

pub returns-then-head-eq1-clause-refused : goal.returns-then-head-eq1-clause-refused
returns-then-head-eq1-clause-refused c =
    let s = c.args.head.now in
    refused s c.args.media.now c.args.size _ (c.gap_of.ensures ∙ sym (cond-true (version_in s == 1) (gap_of 32 c.args.size (used_in s)) (foreign_of s c.args.size c.args.media.now) (eq-eqb (version_in s) 1 c.if-head-eq1.true)))

pub returns-else-head-eq1-clause-exact : goal.returns-else-head-eq1-clause-exact
returns-else-head-eq1-clause-exact c =
    let s = c.args.head.now in
    c.foreign_of.ensures ∙ sym (cond-false (version_in s == 1) (gap_of 32 c.args.size (used_in s)) (foreign_of s c.args.size c.args.media.now) (ne_eqb (version_in s) 1 c.if-head-eq1.false))

pub returns-else-head-eq1-clause-refused : goal.returns-else-head-eq1-clause-refused
returns-else-head-eq1-clause-refused c =
    let s = c.args.head.now in
    refused s c.args.media.now c.args.size _ (c.foreign_of.ensures ∙ sym (cond-false (version_in s == 1) (gap_of 32 c.args.size (used_in s)) (foreign_of s c.args.size c.args.media.now) (ne_eqb (version_in s) 1 c.if-head-eq1.false)))
