-- Results of the calls that read attached files, and the number of bytes that they read.
use Rattle.std.specs.Prelude.{◌≡◌, ◌≤◌, ⊤, ℕ, ◌+◌, ◌-◌, ◌*◌, ◌==◌, Bool, true, false, if◌then◌else◌, List, [], ◌∷◌, ◌++◌, All, map, filter, slice_get, Option, Some, None, IfSome, Result, Ok, Err}
use Rattle.std.specs.Option.{option_map, option_or}
use Rattle.ebml_numbers.specs.Number.{is_id}
use Rattle.mkv_schema.specs.declared.ids.TheConstants.{ATTACHED_FILE, FILE_DATA}
use Rattle.mkv_io.specs.declared.damage.Damage.{Damage}
use Rattle.mkv_io.specs.declared.damage.Kind.TheVariants.{TooMany}
use Rattle.mkv_io.specs.declared.outside.FileId.{FileId}
use Rattle.mkv_schema.specs.declared.element.Header.{Header}
use Rattle.mkv_schema.specs.declared.limits.TheConstants.{MAX_ELEMENT_HEADER_LEN}
use Rattle.mkv_schema.specs.Element.{in_master, element_at, damage, is_unknown, known, stated_end}
use Rattle.mkv_schema.specs.Outline.{first_damage, first_refusal}
use Rattle.mkv_io.specs.Results.{unless}
use Rattle.mkv_schema.specs.Placed.{StandsAt}
use Rattle.tree_format.specs.Node.{Node, depth, offset_of}
use Rattle.tree_format.specs.Standing.{StandsIn}
use Rattle.output_model.specs.Sound.{IsAttachment}
use Rattle.output_model.specs.declared.attachment.Attachment.{Attachment}
use Rattle.meta_records.specs.Attachments.{ScannedElement, at_child, at_part, attached_in, attachment_of, data_in, entry_of, is_attached, leaf_of, missing_data, no_value, part_of, refused_from, refused_in}
use Rattle.meta_records.specs.declared.attached.Parts.{Parts}
use Rattle.meta_records.specs.declared.attachments.AttachmentScan.{AttachmentScan}
use Rattle.meta_records.specs.declared.counts.Counts.{Counts}
use Rattle.meta_records.specs.declared.end.MetaEnd.{MetaEnd}
use Rattle.meta_records.specs.declared.end.MetaEnd.TheVariants.{Refused, ReadFault, Memory}
use Rattle.meta_records.specs.declared.limits.TheConstants.{MAX_ATTACHMENTS}
use Rattle.meta_records.specs.declared.part.Part.{Part}

-- ---- results

-- The result of reading attached files is the expected one, `found`: a value or damage. A read may fail, and memory may run out. The contracts of the
-- readers of attached files state it.
abbrev pub ReadsAs : {A : Type 0} → Result A Damage → Result A MetaEnd → Type 0
ReadsAs found (Ok x) = found ≡ Ok x
ReadsAs found (Err (Refused d)) = found ≡ Err d
ReadsAs found (Err ReadFault) = ⊤
ReadsAs found (Err Memory) = ⊤

-- The end of reading attached files is a failed read, and so a failure that is counted. The count of failed reads rises exactly then: for the
-- contracts of the readers. Used by `read_parts`, `read_attached` and others.
abbrev pub is_attachments_fault : MetaEnd → Bool
is_attachments_fault (Refused d) = false
is_attachments_fault ReadFault = true
is_attachments_fault Memory = false

-- `h` is the header of an Element at the offset `at` of a file, with a valid ID. The Element ends at the offset `end` or before. The contract of
-- `child_header` states it, and readers of children require it.
pub record IsChild (at end : ℕ) (h : Header) : Type 0 where
  pub placed : StandsAt at end h
  pub sized : is_unknown h.size ≡ false
  pub inside : stated_end h ≤ end
  pub valid : is_id h.id ≡ true

-- ---- counts

-- The Elements in `list` were checked from the counts `old`. None is damaged and the counts are `new` then, or the result is the first damage.
-- Promises nothing if a read failed or memory ran out. Used by the contracts of `read_part`, `read_child` and `read_attached`.
abbrev pub Meets : {T : Type 0} → List (Result ScannedElement Damage) → Counts → Counts → Result T MetaEnd → Type 0
Meets list old new (Ok x) = (more : List (Result ScannedElement Damage)) → refused_from old.octets old.nodes (list ++ more) ≡ refused_from new.octets new.nodes more
Meets list old new (Err (Refused d)) = (more : List (Result ScannedElement Damage)) → refused_from old.octets old.nodes (list ++ more) ≡ Some d
Meets list old new (Err ReadFault) = ⊤
Meets list old new (Err Memory) = ⊤

-- the Elements as they are checked at a place, or the damage there; `at` gives the ones for a header. For `part_met` and `child_met`, when the
-- attached files of a file are read.
abbrev pub met_at : (Header → List (Result ScannedElement Damage)) → Result Header Damage → List (Result ScannedElement Damage)
met_at at (Ok h) = at h
met_at at (Err d) = Err d ∷ []

-- the child at the offset `at` of an AttachedFile that ends at `end`, as it is checked, or the damage there. The contract of `read_part` states it,
-- in the content `bytes`.
abbrev pub part_met : List ℕ → ℕ → ℕ → List (Result ScannedElement Damage)
part_met bytes at end = met_at (at_part bytes) (element_at in_master bytes at end)

-- the child at the offset `at` of an Attachments that ends at `end`, as it is checked, or the damage there. The children of an AttachedFile are
-- included. The contract of `read_child` states it, in the content `bytes`.
abbrev pub child_met : List ℕ → ℕ → ℕ → List (Result ScannedElement Damage)
child_met bytes at end = met_at (at_child bytes) (element_at in_master bytes at end)

-- the child `h` of an AttachedFile in the content `bytes` as a tree, or damage if its content isn't a valid value. The contract of `leaf_of` states
-- it.
abbrev pub leaf_in : List ℕ → Header → Result Node Damage
leaf_in bytes h = unless (no_value (part_of bytes h)) (leaf_of bytes h)

-- the number of bytes that are read of the content of the child `h` of an AttachedFile: all, or none of FileData. The contract of `leaf_of` states
-- it.
abbrev pub octets_of : Header → ℕ
octets_of h = if h.id == FILE_DATA then 0 else known h.size

-- the header `h`, if it is of a FileData. The contract of `first_data` states it.
abbrev pub data_at : Header → Option Header
data_at h = if h.id == FILE_DATA then Some h else None

-- `part` is the child at the offset `at` of an AttachedFile that ends at `end`, in the content `bytes`. The contract of `read_part` states it.
pub record IsPart (bytes : List ℕ) (at end : ℕ) (part : Part) : Type 0 where
  pub found : element_at in_master bytes at end ≡ Ok part.header
  pub leaf : part.leaf ≡ leaf_of bytes part.header

-- The tree `n` is a valid child of an AttachedFile. The contracts of `leaf_of` and `read_part` state it.
pub record IsPartLeaf (n : Node) : Type 0 where
  pub stands : StandsIn ATTACHED_FILE n
  pub flat : depth n ≡ 0

-- ---- attached files found

-- The scan `new` is the scan `old` with the AttachedFiles added that are among `children`, children of Attachments in the content `bytes` of `file`.
-- Used by `ReadsChild`, when the attached files of a file are read.
pub record Adds (bytes : List ℕ) (file : FileId) (children : List Header) (old new : AttachmentScan) : Type 0 where
  pub attachments : new.attachments ≡ old.attachments ++ map (attachment_of bytes file) (filter is_attached children)
  pub missing : new.missing ≡ option_or old.missing (first_damage (map (missing_data bytes) (filter is_attached children)))

-- The child at the offset `at` of an Attachments that ends at `end` was added to the scan `old`, with the result `new`. The next child is at the
-- offset `next`. Offsets are those in the content `bytes` of `file`. The contract of `read_child` states it.
pub record ReadsChild (bytes : List ℕ) (file : FileId) (at end next : ℕ) (old new : AttachmentScan) : Type 0 where
  pub child : Header
  pub found : element_at in_master bytes at end ≡ Ok child
  pub behind : next ≡ stated_end child
  pub adds : Adds bytes file (child ∷ []) old new

-- `a` is an attached file whose entry can be written and read again. Its data are in the live file `file` before the offset `end`. The contracts of
-- the readers of attached files state it.
pub record IsAttachedIn (file : FileId) (end : ℕ) (a : Attachment) : Type 0 where
  pub entry : IsAttachment a.entry
  pub same : a.file ≡ file
  pub inside : a.at + a.len ≤ end

-- All attached files in the scan `found` are valid, and their data are in the live file `file` before the offset `end`. The contracts of `read_child`
-- and `read_children` state it.
abbrev pub AreAttachedIn : FileId → ℕ → AttachmentScan → Type 0
AreAttachedIn file end found = All (IsAttachedIn file end) found.attachments

-- `a` is the attached file with the header `h` in the live file `file`, which has the content `bytes`. The contract of `read_attached` states it.
abbrev pub IsAttachedOf : FileId → Header → Attachment → List ℕ → Type 0
IsAttachedOf file h a bytes = a ≡ attachment_of bytes file h

-- `missing` is the damage of the AttachedFile `h` in the content `bytes` that has no data, or None if it has data. The contract of `read_attached`
-- states it.
abbrev pub IsMissingOf : Header → Option Damage → List ℕ → Type 0
IsMissingOf h missing bytes = missing ≡ missing_data bytes h

-- `parts` are the tree of the AttachedFile `attached` in the content `bytes`, and the header of its first FileData. The contract of `read_parts`
-- states it.
pub record ArePartsOf (bytes : List ℕ) (attached : Header) (parts : Parts) : Type 0 where
  pub entry : parts.entry ≡ entry_of bytes attached
  pub first : parts.first ≡ data_in bytes attached

-- `P` holds for each content where `parts` are the parts of the AttachedFile `h`. Used by the contract of `attached_of`.
abbrev pub IfPartsOf : Header → Parts → (List ℕ → Type 0) → Type 0
IfPartsOf h parts P = (bytes : List ℕ) → ArePartsOf bytes h parts → P bytes

-- The tree in `parts` can be written and read again, and the data of the attached file end at the offset `end` or before. The condition of
-- `attached_of`.
pub record AreSoundParts (end : ℕ) (parts : Parts) : Type 0 where
  pub entry : IsAttachment parts.entry
  pub inside : IfSome parts.first (λ (d : Header). stated_end d ≤ end)

-- The scan `found` of the live file `file` has all attached files of the Attachments `h` in the content `bytes`, whose Elements have no damage. It
-- has the damage of the first one without data. Used by `WalksAll`, when the attached files of a file are read.
pub record HasAll (bytes : List ℕ) (file : FileId) (h : Header) (found : AttachmentScan) : Type 0 where
  pub good : refused_in bytes h ≡ None
  pub attachments : found.attachments ≡ map (attachment_of bytes file) (attached_in bytes h)
  pub missing : found.missing ≡ first_damage (map (missing_data bytes) (attached_in bytes h))

-- The result of scanning the Attachments `h` in the content `bytes`: all its attached files, or its first damage. A read may fail, and memory may run
-- out. The contract of `read_children` states it.
abbrev pub WalksAll : List ℕ → FileId → Header → Result AttachmentScan MetaEnd → Type 0
WalksAll bytes file h (Ok found) = HasAll bytes file h found
WalksAll bytes file h (Err (Refused d)) = refused_in bytes h ≡ Some d
WalksAll bytes file h (Err ReadFault) = ⊤
WalksAll bytes file h (Err Memory) = ⊤

-- the damage at the first of the attached files `attachments` after 1,024. For `good_files`, when the attached files of a file are read.
abbrev pub one_over : List Attachment → Option Damage
one_over attachments = option_map (λ (a : Attachment). damage TooMany ATTACHED_FILE (offset_of a.entry)) (slice_get attachments MAX_ATTACHMENTS)

-- the attached files in the scan `found`, or damage. The first one without data is damage, and so are more than 1,024. The contract of the function
-- of the same name states it.
abbrev pub good_files : AttachmentScan → Result (List Attachment) Damage
good_files found = unless (first_refusal found.missing (one_over found.attachments)) found.attachments

-- ---- bytes that are read

-- an upper bound on the bytes that were read for the counts `c`: a header for each Element, and the counted bytes. For the bounds on the bytes that
-- an Attachments is read with.
abbrev pub cost : Counts → ℕ
cost c = MAX_ELEMENT_HEADER_LEN * c.nodes + c.octets

-- The number of bytes read rose from `before` to `now`, by at most the cost of the counts added from `old` to `new`. That is at most 16 times the
-- distance `far`. The case of success in `Pays`.
pub record IsPaid (far : ℕ) (old new : Counts) (before now : ℕ) : Type 0 where
  pub reads : now + cost old ≤ before + cost new
  pub way : cost new ≤ cost old + 16 * far

-- The number of bytes read rose from `before` to `now`. It rose by at most 16 times the distance `far`, and by the cost of the counts added from
-- `old` to `new` and one more header. The case of an error in `Pays`.
pub record IsSpent (far : ℕ) (old new : Counts) (before now : ℕ) : Type 0 where
  pub reads : now + cost old ≤ before + cost new + MAX_ELEMENT_HEADER_LEN
  pub way : now ≤ before + 16 * far

-- The number of bytes read rose from `before` to `now`. The rise is bounded by the distance from `from` to the offset in the result, given by `to`.
-- After an error it is bounded by the distance to `end`. The counts grew from `old` to `new`. Used by the contracts of the readers of children.
abbrev pub Pays : {T : Type 0} → ℕ → (T → ℕ) → ℕ → Counts → Counts → ℕ → ℕ → Result T MetaEnd → Type 0
Pays from to end old new before now (Ok x) = IsPaid (to x - from) old new before now
Pays from to end old new before now (Err e) = IsSpent (end - from) old new before now

-- The bytes read are bounded by the distance from `from` to the offset in the result, or after an error by the distance to `end`. The contract of
-- `read_child` states it.
abbrev pub PaysUpTo : ℕ → ℕ → Counts → Counts → ℕ → ℕ → Result ℕ MetaEnd → Type 0
PaysUpTo from end = Pays from (λ next. next) end

-- The bytes read for the Element `h` are bounded by the length of its content, also after an error. The contracts of `read_parts` and `read_attached`
-- state it.
abbrev pub PaysInside : {T : Type 0} → Header → Counts → Counts → ℕ → ℕ → Result T MetaEnd → Type 0
PaysInside h = Pays h.body (λ _. stated_end h) (stated_end h)

-- the offset in the file after the child `part` of an AttachedFile. The contract of `read_part` uses it for its bound.
abbrev pub behind_part : Part → ℕ
behind_part part = stated_end part.header
