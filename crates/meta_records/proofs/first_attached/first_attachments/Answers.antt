use Rattle.std.proofs.Common.{List, map, Ok, sym, ◌∙◌, ap}
use Rattle.output_model.specs.declared.attachment.Attachment.{Attachment}
use Rattle.meta_records.specs.Attached.{in_file}
use Rattle.meta_records.proofs.AttachedLemmas.{attached-read, attached-refused, first_attached-of}
use Rattle.meta_records.proofs.first_attached.first_attachments.Goals as goal

-- There are no attached files.
pub returns-in_default-clause-exact : goal.returns-in_default-clause-exact
returns-in_default-clause-exact g c = λ bytes told before outline.
    first_attached-of before bytes c.args.outline.now _ outline (sym c.first.ensures.kept ∙ c.in_default.is)
    ∙ ap (λ (list : List Attachment). Ok (map in_file list)) (sym c.new.ensures)

-- The attached files are read.
pub returns-in-Ok-clause-exact : goal.returns-in-Ok-clause-exact
returns-in-Ok-clause-exact g c = λ bytes told before outline.
    first_attached-of before bytes c.args.outline.now _ outline (sym c.first.ensures.kept ∙ c.in-Some.is)
    ∙ attached-read bytes c.args.file c.in-Some.header c.in-Ok.attachments (c.in-Ok.ensures.exact bytes told)

-- The attached files are refused.
pub returns-in-Err-Refused-clause-exact : goal.returns-in-Err-Refused-clause-exact
returns-in-Err-Refused-clause-exact g c = λ bytes told before outline.
    first_attached-of before bytes c.args.outline.now _ outline (sym c.first.ensures.kept ∙ c.in-Some.is)
    ∙ attached-refused bytes c.args.file c.in-Some.header c.in-Err-Refused.damage (rw c.in-Err-Refused.field-0-is at c.in-Err-Refused.ensures.exact bytes told)
