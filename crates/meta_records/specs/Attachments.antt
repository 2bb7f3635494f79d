-- The attached files of a file: RFC 9559, section 5.1.6 (Attachments). The refusals, their order and the limits are this project's.
use Rattle.std.specs.Prelude.{ℕ, ◌+◌, ◌-◌, ◌==◌, nat_lt, nat_le, Bool, true, not, if◌then◌else◌, List, [], ◌∷◌, ◌++◌, map, filter, flat_map, slice_get, Option, Some, None, is_none, Result, Ok, Err}
use Rattle.std.specs.Option.{option_map, option_map_or}
use Rattle.mkv_schema.specs.declared.ids.TheConstants.{ATTACHED_FILE, FILE_DATA, FILE_UID}
use Rattle.mkv_io.specs.declared.damage.Damage.{Damage}
use Rattle.mkv_io.specs.declared.damage.Kind.{Kind}
use Rattle.mkv_io.specs.declared.damage.Kind.TheVariants.{BadValue, HeaderTooLarge, MissingChild, TooMany}
use Rattle.mkv_io.specs.declared.outside.FileId.{FileId}
use Rattle.mkv_schema.specs.declared.element.Header.{Header}
use Rattle.mkv_schema.specs.Element.{in_master, damage, known, stated_end}
use Rattle.mkv_schema.specs.Elements.{Run, children_in}
use Rattle.mkv_schema.specs.Outline.{first_damage, first_refusal, where_it}
use Rattle.mkv_io.specs.Results.{unless}
use Rattle.mkv_schema.specs.Value.{body_of, first_of, is_known_value}
use Rattle.tree_format.specs.declared.limits.TheConstants.{MAX_NODES}
use Rattle.tree_format.specs.Node.{Node, leaf, master, nodes_of}
use Rattle.tree_format.specs.Changes.{with_child}
use Rattle.tree_format.specs.Values.{uint_in}
use Rattle.output_model.specs.declared.attachment.Attachment.{Attachment}
use Rattle.meta_records.specs.declared.limits.TheConstants.{MAX_ATTACHMENTS_LEN, MAX_ATTACHMENTS}

-- ---- Elements of an Attachments

-- the children of the master with the header `h` in the content `bytes`, up to damage if there is any. Used for an Attachments and for an
-- AttachedFile.
abbrev pub children_of : List ℕ → Header → Run
children_of bytes h = children_in in_master bytes h.body (stated_end h)

-- an Element of an Attachments as it is checked. It has the header, the number of bytes that count towards the limit, and whether the content is a
-- valid value. The limits of an Attachments are checked on a list of them. Used by `part_of`, `child_of` and others.
pub record ScannedElement : Type 0 where
  pub header : Header
  pub counted : ℕ
  pub fits : Bool

-- the length in bytes of the header of the Element `h`, for the limit on the size of an Attachments. Used by `refused_in`.
abbrev pub header_len : Header → ℕ
header_len h = h.body - h.offset

-- the number of bytes of the child `h` of an AttachedFile that count towards the limit: all, or only the header of FileData. For `part_of`, when the
-- attached files of a file are read.
abbrev pub counted_of : Header → ℕ
counted_of h = if h.id == FILE_DATA then header_len h else header_len h + known h.size

-- the child `h` of an AttachedFile in the content `bytes`, as it is checked. For `at_part`, when the attached files of a file are read.
abbrev pub part_of : List ℕ → Header → ScannedElement
part_of bytes h = record { header = h; counted = counted_of h; fits = is_known_value ATTACHED_FILE h.id (body_of bytes h) }

-- The child `h` of an Attachments is an AttachedFile. Used by `child_of`, `at_child` and `attached_in`, for the choice of the children that are read.
abbrev pub is_attached : Header → Bool
is_attached h = h.id == ATTACHED_FILE

-- the child `h` of an Attachments, as it is checked: only the header of an AttachedFile counts towards the limit. For `at_child`, when the attached
-- files of a file are read.
abbrev pub child_of : Header → ScannedElement
child_of h = record { header = h; counted = if is_attached h then header_len h else 0; fits = true }

-- the damage after a run of Elements, if any, as a list. For `met_in`, when the attached files of a file are read.
abbrev pub ended : Option Damage → List (Result ScannedElement Damage)
ended None = []
ended (Some d) = Err d ∷ []

-- the Elements of the siblings `run` as they are checked, in order, and then the damage after them; `at` gives the ones for each sibling. For
-- `parts_in` and `refused_in`, when the attached files of a file are read.
abbrev pub met_in : (Header → List (Result ScannedElement Damage)) → Run → List (Result ScannedElement Damage)
met_in at run = flat_map at run.list ++ ended run.damage

-- the child `h` of an AttachedFile in the content `bytes`, as it is checked, as a list. For `parts_in`, when the attached files of a file are read.
abbrev pub at_part : List ℕ → Header → List (Result ScannedElement Damage)
at_part bytes h = Ok (part_of bytes h) ∷ []

-- the children of the AttachedFile `h` in the content `bytes`, as they are checked, and the damage after them. For `at_child`, when the attached
-- files of a file are read.
abbrev pub parts_in : List ℕ → Header → List (Result ScannedElement Damage)
parts_in bytes h = met_in (at_part bytes) (children_of bytes h)

-- the child `h` of an Attachments in the content `bytes` as it is checked, and after it its children, if it is an AttachedFile. For `refused_in`,
-- when the attached files of a file are read.
abbrev pub at_child : List ℕ → Header → List (Result ScannedElement Damage)
at_child bytes h = Ok (child_of h) ∷ (if is_attached h then parts_in bytes h else [])

-- ---- refusals

-- the damage of the kind `kind` at the Element `h`. Used by `too_large`, `one_too_many` and `no_value`.
abbrev pub told_at : Kind → Header → Damage
told_at kind h = damage kind h.id h.offset

-- the damage at the Element `h` if `octets`, the bytes counted up to it, are more than 1 MiB. For `limits_passed`, when the attached files of a file
-- are read.
abbrev pub too_large : ℕ → Header → Option Damage
too_large octets h = where_it (nat_lt MAX_ATTACHMENTS_LEN octets) (told_at HeaderTooLarge h)

-- the damage at the Element `h` if the number `nodes` of Elements before it is already the maximum. For `limits_passed`, when the attached files of a
-- file are read.
abbrev pub one_too_many : ℕ → Header → Option Damage
one_too_many nodes h = where_it (nat_le MAX_NODES nodes) (told_at TooMany h)

-- the damage at the Element `h` for each limit that it exceeds, with `octets` counted bytes, its own included, and `nodes` Elements before it. For
-- `causes`, when the attached files of a file are read.
abbrev pub limits_passed : ℕ → ℕ → Header → List (Option Damage)
limits_passed octets nodes h = too_large octets h ∷ one_too_many nodes h ∷ []

-- the damage at the Element `h` for the first limit that it exceeds, with `octets` counted bytes, its own included, and `nodes` Elements before it.
-- The contract of `Counts::add` states it.
abbrev pub limit_passed : ℕ → ℕ → Header → Option Damage
limit_passed octets nodes h = first_damage (limits_passed octets nodes h)

-- the damage at the Element `m` if its content isn't a valid value. For `causes`, when the attached files of a file are read.
abbrev pub no_value : ScannedElement → Option Damage
no_value m = where_it (not m.fits) (told_at BadValue m.header)

-- the possible damage at the Element `m` after `octets` counted bytes and `nodes` Elements, in the order of the checks. For `refused_from`, when the
-- attached files of a file are read.
abbrev pub causes : ℕ → ℕ → ScannedElement → List (Option Damage)
causes octets nodes m = limits_passed (octets + m.counted) nodes m.header ++ no_value m ∷ []

-- the first damage in the list of Elements as they are checked, after `octets` counted bytes and `nodes` Elements. For `refused_in`, when the
-- attached files of a file are read.
abbrev pub refused_from : ℕ → ℕ → List (Result ScannedElement Damage) → Option Damage
refused_from octets nodes [] = None
refused_from octets nodes (Err d ∷ rest) = Some d
refused_from octets nodes (Ok m ∷ rest) =
    first_refusal (first_damage (causes octets nodes m)) (refused_from (octets + m.counted) (nodes + 1) rest)

-- the first damage at an Element of the Attachments `h` in the content `bytes`; `h` counts as an Element itself. For `attachments_causes`, when the
-- attached files of a file are read.
abbrev pub refused_in : List ℕ → Header → Option Damage
refused_in bytes h = refused_from 0 1 (met_in (at_child bytes) (children_of bytes h))

-- the first FileData of the AttachedFile `h` in the content `bytes`. For the place and length of the data.
abbrev pub data_in : List ℕ → Header → Option Header
data_in bytes h = first_of FILE_DATA (children_of bytes h).list

-- the damage of the AttachedFile `h` in the content `bytes` if it has no FileData, at its own offset. For `attachments_causes`, when the attached
-- files of a file are read.
abbrev pub missing_data : List ℕ → Header → Option Damage
missing_data bytes h = where_it (is_none (data_in bytes h)) (damage MissingChild FILE_DATA h.offset)

-- the AttachedFiles in the Attachments `h` of the content `bytes`. For `attachments_in`, when the attached files of a file are read.
abbrev pub attached_in : List ℕ → Header → List Header
attached_in bytes h = filter is_attached (children_of bytes h).list

-- the damage at the first AttachedFile after 1,024 of them. For `attachments_causes`; `files` are the AttachedFiles.
abbrev pub too_many_files : List Header → Option Damage
too_many_files files = option_map (λ (h : Header). damage TooMany ATTACHED_FILE h.offset) (slice_get files MAX_ATTACHMENTS)

-- the possible damage of the Attachments `h` in the content `bytes`, in the order of the checks. For `attachments_in`, when the attached files of a
-- file are read.
abbrev pub attachments_causes : List ℕ → Header → List (Option Damage)
attachments_causes bytes h =
    refused_in bytes h ∷
    first_damage (map (missing_data bytes) (attached_in bytes h)) ∷
    too_many_files (attached_in bytes h) ∷
    []

-- ---- values

-- the child `h` of an AttachedFile in the content `bytes` as a tree, with its content, or with no content for FileData. For `entry_of`, when the
-- attached files of a file are read.
abbrev pub leaf_of : List ℕ → Header → Node
leaf_of bytes h = leaf h.id 0 (if h.id == FILE_DATA then [] else body_of bytes h)

-- the AttachedFile `h` in the content `bytes` as a tree, with one empty FileData in the place of its first. A part of an attached file that was read.
-- Used by `file_at`, `attachment_of` and others.
abbrev pub entry_of : List ℕ → Header → Node
entry_of bytes h = master ATTACHED_FILE h.offset (nodes_of (with_child (leaf FILE_DATA 0 []) (map (leaf_of bytes) (children_of bytes h).list)))

-- the attached file with the header `h` in the live file `file`; without a FileData its data have the offset and length 0. For `attachments_in`;
-- `bytes` is the file's content.
abbrev pub attachment_of : List ℕ → FileId → Header → Attachment
attachment_of bytes file h = record {
  uid = uint_in FILE_UID (entry_of bytes h);
  file = file;
  at = option_map_or (λ (d : Header). d.body) (data_in bytes h) 0;
  len = option_map_or (λ (d : Header). known d.size) (data_in bytes h) 0;
  entry = entry_of bytes h;
}

-- the attached files of the Attachments `h` in the live file `file`, or its first damage. The contract of `read_attachments` states it; `bytes` is
-- the file's content.
abbrev pub attachments_in : List ℕ → FileId → Header → Result (List Attachment) Damage
attachments_in bytes file h =
    unless (first_damage (attachments_causes bytes h)) (map (attachment_of bytes file) (attached_in bytes h))
