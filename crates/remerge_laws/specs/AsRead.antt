-- An output with a Duration, as a reader finds it: RFC 9559, section 5.1.2 (Info Element). This is this project's promise.
use Rattle.std.specs.Prelude.{◌≡◌, ◌≤◌, None, IfSome}
use Rattle.output_model.specs.Document.{Document, info_told, layout}
use Rattle.output_model.specs.Sound.{IsSoundDocument}

-- the document `d` as a reader of its output finds it: the Duration, if there is one above 0, is a child of the Info like the others. Used by the
-- laws on an output that is merged by itself.
abbrev pub as_read : Document → Document
as_read d = record d { front = record d.front { lasting = None; info = info_told d.front.info d.front.lasting } }

-- The output with the document `d` has no Duration, or ends after tick 0. At tick 0 a Void is in the place of the Duration. Used by
-- `DocumentsAreWrittenAsRead`.
abbrev pub EndsAfterStart : Document → Type 0
EndsAfterStart d = IfSome d.front.lasting (λ end. 1 ≤ end)

-- The document `d` has the same bytes as `as_read d`, which is valid. Used by `DocumentsAreWrittenAsRead`.
pub record IsWrittenAsRead (d : Document) : Type 0 where
  pub sound : IsSoundDocument (as_read d)
  pub same : layout (as_read d) ≡ layout d

-- Each valid document that ends after tick 0, or has no Duration, has the same bytes as the document that a reader finds. The law
-- `documents_are_written_as_read` has it.
abbrev pub DocumentsAreWrittenAsRead : Type 0
DocumentsAreWrittenAsRead = (d : Document) → IsSoundDocument d → EndsAfterStart d → IsWrittenAsRead d
