-- The attached files that a reader with limits finds in an output: RFC 9559, section 5.1.6 (Attachments Element). The limits are this project's.
use Rattle.std.specs.Prelude.{◌≡◌, ℕ, ◌+◌, List, [], ◌∷◌, Option, None, IfSome, Result, Ok, Err}
use Rattle.std.specs.List.{AllZip}
use Rattle.mkv_schema.specs.declared.ids.TheConstants.{ATTACHED_FILE, ATTACHMENTS, FILE_UID}
use Rattle.mkv_io.specs.Contents.{octets_from}
use Rattle.mkv_io.specs.declared.damage.Damage.{Damage}
use Rattle.mkv_schema.specs.declared.element.Header.{Header}
use Rattle.mkv_schema.specs.Outline.{first_refusal}
use Rattle.mkv_schema.specs.Value.{first_of}
use Rattle.tree_format.specs.Node.{Node, id_of}
use Rattle.tree_format.specs.NormalForm.{octets}
use Rattle.tree_format.specs.Children.{set_in, uint_leaf}
use Rattle.tree_format.specs.Values.{uint_in}
use Rattle.output_model.specs.Attached.{with_data}
use Rattle.output_model.specs.Document.{Document, layout}
use Rattle.output_model.specs.Sound.{IsSoundDocument}
use Rattle.output_laws.specs.Reading.{header_of_segment, level_1_of}
use Rattle.meta_records.specs.Attached.{AttachedFile, first_attached}
use Rattle.meta_records.specs.Attachments.{ScannedElement, at_child, attached_in, children_of, limit_passed, met_in, too_many_files}

-- the first limit that the Elements of an Attachments pass, after `octets` bytes and `nodes` Elements were counted, or None; damaged ones are left
-- out. The third argument is the list of Elements, each scanned or damaged. A condition on Attachments uses it.
abbrev pub passed_from : ℕ → ℕ → List (Result ScannedElement Damage) → Option Damage
passed_from octets nodes [] = None
passed_from octets nodes (Err d ∷ rest) = passed_from octets nodes rest
passed_from octets nodes (Ok m ∷ rest) =
    first_refusal (limit_passed (octets + m.counted) nodes m.header) (passed_from (octets + m.counted) (nodes + 1) rest)

-- The Attachments Element with the header `h` in the content `bytes` keeps a reader's limits on its length, its number of Elements and its number of
-- files. A condition of the laws on an output that a reader with limits reads.
pub record AttachmentsKeepLimits (bytes : List ℕ) (h : Header) : Type 0 where
  pub counted : passed_from 0 1 (met_in (at_child bytes) (children_of bytes h)) ≡ None
  pub files : too_many_files (attached_in bytes h) ≡ None

-- The attached file `a`, read from the content `bytes`, is the AttachedFile `n` that was written. It has its ID and its FileUID. With its data and
-- any FileUID, it is written as `n` with that FileUID. Used for the attached files that a merge reads from an output.
pub record IsFileOf (bytes : List ℕ) (n : Node) (a : AttachedFile) : Type 0 where
  pub id : id_of a.entry ≡ ATTACHED_FILE
  pub uid : a.uid ≡ uint_in FILE_UID n
  pub same : (uid : ℕ)
      → octets (with_data (octets_from bytes a.at a.len) (set_in (uint_leaf FILE_UID uid) a.entry)) ≡ octets (set_in (uint_leaf FILE_UID uid) n)

-- A reader with limits finds the attached files of an output with the document `d` whose Attachments keeps the limits: each of them, in order. The
-- law `files_are_read` states it.
abbrev pub FilesAreRead : Type 0
FilesAreRead =
    (d : Document) → IsSoundDocument d → IfSome (first_of ATTACHMENTS (level_1_of d)) (AttachmentsKeepLimits (layout d))
    → (files : List AttachedFile) × (first_attached (layout d) (header_of_segment d) ≡ Ok files) × AllZip (IsFileOf (layout d)) d.front.attachments files
