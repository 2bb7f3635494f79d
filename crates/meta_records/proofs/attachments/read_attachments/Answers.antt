-- The result is the definition's.
use Rattle.std.proofs.Common.{List, sym, subst, ◌∙◌}
use Rattle.std.specs.Prelude.{All}
use Rattle.std.proofs.lemmas.Result.{err_from_is_err_and}
use Rattle.mkv_schema.specs.Element.{stated_end}
use Rattle.output_model.specs.declared.attachment.Attachment.{Attachment}
use Rattle.meta_records.specs.Walk.{IsAttachedIn}
use Rattle.meta_records.proofs.FilesLemmas.{good_files-is, refused-is}
use Rattle.meta_records.proofs.attachments.read_attachments.Goals as goal

pub returns-clause-exact : goal.returns-clause-exact
returns-clause-exact g c = λ bytes told.
    good_files-is bytes c.args.file c.args.header.now c.in_ok-found.found (c.in_ok-found.ensures.exact bytes told) ∙ sym c.in_ok-attachments.ensures.exact

pub returns-in_err-found-clause-exact : goal.returns-in_err-found-clause-exact
returns-in_err-found-clause-exact g c = λ bytes told.
    let p = err_from_is_err_and c.from_residual.result c.from_residual.ensures.1 in
    rw (p.1, p.2) (refused-is bytes c.args.file c.args.header.now c.in_err-found.field-0.0 (c.in_err-found.ensures.exact bytes told))

pub returns-in_err-attachments-clause-exact : goal.returns-in_err-attachments-clause-exact
returns-in_err-attachments-clause-exact g c = λ bytes told.
    let p = err_from_is_err_and c.from_residual-in_err-attachments.result c.from_residual-in_err-attachments.ensures.1 in
    rw (p.1, p.2) (good_files-is bytes c.args.file c.args.header.now c.in_ok-found.found (c.in_ok-found.ensures.exact bytes told) ∙ sym c.in_err-attachments.ensures.exact)

pub returns-clause-sound : goal.returns-clause-sound
returns-clause-sound g c =
    let P : List Attachment → Type 0 = All (IsAttachedIn c.args.file (stated_end c.args.header.now)) in
    subst P (sym c.in_ok-attachments.ensures.same) c.in_ok-found.ensures.sound
