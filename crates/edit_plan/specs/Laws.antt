-- Laws that hold for the plan of every edit.
use Rattle.std.specs.Prelude.{◌≡◌, ◌≤◌, ℕ, ◌==◌, Bool, true, false, List, length, Some, Ok, IfSome}
use Rattle.std.specs.List.{All, AllPairs}
use Rattle.ebml_numbers.specs.Number.{is_id}
use Rattle.mkv_schema.specs.declared.ids.TheConstants.{SEEK_HEAD, VOID}
use Rattle.mkv_io.specs.declared.outside.TheConstants.{LONGEST_FILE}
use Rattle.mkv_schema.specs.declared.element.Header.{Header}
use Rattle.mkv_schema.specs.Value.{first_of}
use Rattle.element_reader.specs.Outline.{outline_in, FileOutline}
use Rattle.requests.specs.declared.edit.Edit.{Edit}
use Rattle.sidecar_edit.specs.Fields.{IsPlan}
use Rattle.sidecar_edit.specs.Writes.{Write}
use Rattle.edit_changes.specs.Span.{span_of}
use Rattle.edit_changes.specs.Plan.{Part, plan_of, recorded, stands, writes_of_parts}

-- The writes `ws` of `edits` to a file with the content `bytes` are sorted and don't overlap, and a journal can have them. There are at most eight
-- writes, of at most 16 MiB together. Each has bytes, and none begins past the file's end. The file has at most 2^48 bytes. It is the law
-- `plans_are_in_order`.
abbrev pub PlansAreInOrder : Type 0
PlansAreInOrder =
    (bytes : List ℕ) (edits : List Edit) (ws : List Write) → length bytes ≤ LONGEST_FILE → plan_of bytes edits ≡ Ok ws → IsPlan (recorded bytes ws)

-- The old Element of part `p` is the first with its ID in `list`, the headers at level 1. The part has its offset and room in bytes. `IsPartOf`
-- requires it of a part that replaces an Element.
pub record IsFirst (list : List Header) (p : Part) : Type 0 where
  pub header : Header
  pub first : first_of p.id list ≡ Some header
  pub place : p.place ≡ header.offset
  pub room : p.room ≡ span_of header list

-- Part `p` rewrites an Element of `list`, the headers at level 1. It is neither a Void nor a SeekHead. The new Element has its ID, and the old one is
-- the first with this ID. `ArePartsOf` requires it of each part.
pub record IsPartOf (list : List Header) (p : Part) : Type 0 where
  pub valid : is_id p.id ≡ true
  pub void : (p.id == VOID) ≡ false
  pub seek_head : (SEEK_HEAD == p.id) ≡ false
  pub new : IfSome p.element (λ e. e.id ≡ p.id)
  pub old : stands p ≡ true → IsFirst list p

-- The list `ps` has at most five parts, with different IDs, of the file whose headers at level 1 are `list`. It is the condition of the law
-- `parts_are_in_order`.
pub record ArePartsOf (list : List Header) (ps : List Part) : Type 0 where
  pub few : length ps ≤ 5
  pub parts : All (IsPartOf list) ps
  pub distinct : AllPairs (λ p q. (p.id == q.id) ≡ false) ps

-- The writes `ws` of any parts `ps` are sorted, and a journal can have them. The file has the content `bytes` and the outline `o`. The SeekHead may
-- get any Seeks of `ids`, and is written always if `always` is true, and otherwise only if a part moves. It is the law `parts_are_in_order`.
abbrev pub PartsAreInOrder : Type 0
PartsAreInOrder =
    (bytes : List ℕ) (held : ℕ) (o : FileOutline) (ids : List ℕ) (always : Bool) (ps : List Part) (ws : List Write)
    → length bytes ≤ LONGEST_FILE → outline_in held bytes ≡ Ok o → ArePartsOf o.others ps → writes_of_parts ids always bytes o ps ≡ Ok ws → IsPlan (recorded bytes ws)
