-- A child is scanned, and an AttachedFile is read.
use Rattle.std.proofs.Common.{ℕ, Err, refl, sym, subst, arith}
use Rattle.std.proofs.lemmas.Result.{err_from_is_err_and}
use Rattle.std.proofs.lemmas.List.Elements.{All-push}
use Rattle.std.specs.Prelude.{All}
use Rattle.output_model.specs.declared.attachment.Attachment.{Attachment}
use Rattle.meta_records.specs.Walk.{IsAttachedIn}
use Rattle.meta_records.specs.Attachments.{at_child}
use Rattle.meta_records.specs.declared.end.MetaEnd.TheVariants.{Refused}
use Rattle.meta_records.proofs.MetLemmas.{Meets-at, Meets-damage, child-over}
use Rattle.meta_records.proofs.PaidLemmas.{IsSpent-header}
use Rattle.meta_records.proofs.attachments.read_child.Goals as goal

pub returns-in_err-child-clause-meets : goal.returns-in_err-child-clause-meets
returns-in_err-child-clause-meets g c = λ bytes told.
    let p = err_from_is_err_and c.from_residual.result c.from_residual.ensures.1 in
    rw (p.1, p.2) (Meets-damage ℕ (at_child bytes) _ c.args.counts.now c.args.counts.now c.in_err-child.field-0.0 (c.in_err-child.ensures.exact bytes told))

pub returns-in_err-child-clause-pays : goal.returns-in_err-child-clause-pays
returns-in_err-child-clause-pays g c =
    let p = err_from_is_err_and c.from_residual.result c.from_residual.ensures.1 in
    rw p.1 (IsSpent-header _ _ _ _ _ refl c.in_err-child.ensures.octets)

-- The child passes a limit.

pub returns-in_err-add-clause-meets : goal.returns-in_err-add-clause-meets
returns-in_err-add-clause-meets g c = λ bytes told.
    let h = c.in_ok-child.child in
    let p = err_from_is_err_and c.from_residual-in_err-add.result c.from_residual-in_err-add.ensures.1 in
    let over = rw c.counted_of.ensures at c.in_err-add.ensures.err in
    rw (p.1, p.2) (Meets-at {T = ℕ} (at_child bytes) _ h c.args.counts.now c.add.new.self (Err (Refused c.in_err-add.field-0.0)) (c.in_ok-child.ensures.exact bytes told)
    (child-over ℕ bytes h c.args.counts.now c.add.new.self c.in_err-add.field-0.0 over))

pub returns-in_err-add-clause-pays : goal.returns-in_err-add-clause-pays
returns-in_err-add-clause-pays g c =
    let p = err_from_is_err_and c.from_residual-in_err-add.result c.from_residual-in_err-add.ensures.1 in
    rw p.1 (IsSpent-header _ _ _ _ _ c.in_err-add.ensures.refused c.in_ok-child.ensures.octets)

-- The attached files are in the file.
pub returns-clause-sound : goal.returns-clause-sound
returns-clause-sound g c = λ all.
    let P : Attachment → Type 0 = IsAttachedIn c.args.file c.args.end in
    let one = c.in_ok-attachment.ensures.sound in
    let ends = c.in_ok-child.ensures.child.inside in
    let longer : P c.in_ok-attachment.field-0.attachment = record { entry = one.entry; same = one.same; inside = omega (arith, one.inside, ends) } in
    subst (All P) (sym c.in_ok-push.ensures.ok) (All-push P c.args.found.now.attachments c.in_ok-attachment.field-0.attachment all longer)
