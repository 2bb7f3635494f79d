-- Results of the steps that make the writes of an edit, in the terms of the definitions of edits.
use Rattle.std.specs.Prelude.{◌≡◌, ◌≤◌, ℕ, ◌+◌, if◌then◌else◌, List, ◌++◌, map, Option, None, unwrap_or, option_map, Result, IfOk, true, Some}
use Rattle.std.specs.List.{insert as inserted_at, list_any}
use Rattle.std.specs.declared.alloc.Global.{Global}
use Rattle.std.specs.declared.vec.Vec.{Vec}
use Rattle.mkv_schema.specs.declared.element.Header.{Header}
use Rattle.mkv_schema.specs.declared.ids.TheConstants.{SEEK_HEAD}
use Rattle.element_reader.specs.Outline.{FileOutline}
use Rattle.output_model.specs.Element.{Element, element, octets_of}
use Rattle.sidecar_edit.specs.Writes as disk
use Rattle.edit_changes.specs.Plan as spec
use Rattle.edit_changes.specs.Span.{fitted}
use Rattle.edit_changes.specs.declared.refusal.Refusal.{Refusal}
use Rattle.edit_plan.specs.declared.found.SeekHead.{SeekHead}
use Rattle.edit_plan.specs.declared.part.Part.{Part}
use Rattle.edit_plan.specs.declared.write.Write.{Write}
use Rattle.edit_plan.specs.Found.{found}
use Rattle.edit_plan.specs.Shown.{shown, written}

-- The list `new` of parts is `old` with the parts `more` appended, as the definitions have them. The contract of `add_part` promises it.
abbrev pub AddsParts : List spec.Part → List Part → List Part → Type 0
AddsParts more old new = map shown new ≡ map shown old ++ more

-- the bytes that fill `room` bytes with the Element `e`, or its shortest bytes if it is longer. The contract of `fitted_or_whole` promises it for the
-- new SeekHead.
abbrev pub in_room : Element → ℕ → List ℕ
in_room e room = unwrap_or (fitted e room) (octets_of e)

-- The bytes `body` are the body of the new SeekHead, with Seeks for `ids` after the parts `ps` are rewritten. `head` is the old SeekHead, and `o` the
-- outline of the file. The contract of `new_seek_head` promises it.
abbrev pub IsSeekHead : List ℕ → FileOutline → List Part → Option SeekHead → List ℕ → Type 0
IsSeekHead ids o ps head body = element SEEK_HEAD body ≡ spec.seek_head ids o (map shown ps) (option_map found head)

-- `result` has the write of the size field for the Segment `segment`, which ends at the offset `end`. It is promised if the field has at most eight
-- bytes. The contract of `size_write` promises it.
abbrev pub WritesSize : {E : Type 0} → Header → ℕ → Result (Vec Write Global) E → Type 0
WritesSize segment end result = spec.size_width segment ≤ 8 → IfOk result (λ writes. map written writes.items ≡ spec.size_writes segment end)

-- `result` has the write of the size field for the Segment `segment`, which ends at the offset `end`, and then the writes `behind`. It is promised if
-- the field has at most eight bytes. The contract of `assembled` promises it.
abbrev pub BeginsWithSize : {E : Type 0} → Header → ℕ → List disk.Write → Result (Vec Write Global) E → Type 0
BeginsWithSize segment end behind result = spec.size_width segment ≤ 8 → IfOk result (λ all. map written all.items ≡ spec.size_writes segment end ++ behind)

-- the writes of the parts `ps` together with the SeekHead, which gets new Seeks for `ids`, or the first refusal. `head` is the old SeekHead, and `o`
-- the outline of the file. The contract of `moving_writes` promises it.
abbrev pub writes_moving : List ℕ → FileOutline → List Part → Option SeekHead → Result (List disk.Write) Refusal
writes_moving ids o ps head = spec.writes_moving ids o (map shown ps) (option_map found head)

-- the refusal to append to a file with the outline `o`, if one of the parts `ps` moves there, or None. The contract of `end_refusal` promises it.
abbrev pub tail_refused : FileOutline → List spec.Part → Option Refusal
tail_refused o ps = if list_any spec.moves ps then spec.tail_refusal o else None

-- the refusal of the Segment's size field in the outline `o` that is too short for `added` bytes more. There is none unless one of the parts `ps` is
-- appended to the file. The contract of `growth_refusal` promises it.
abbrev pub size_refused : FileOutline → List spec.Part → ℕ → Option Refusal
size_refused o ps added = if list_any spec.moves ps then spec.size_refusal o.segment (o.total + added) else None

-- If one of the parts `ps` is appended to the file, the Segment's size field has enough bytes for `added` bytes more. `o` is the outline of the file.
-- The contract of `moving_refusal` promises it if nothing is refused.
abbrev pub SizeFits : FileOutline → List spec.Part → ℕ → Type 0
SizeFits o ps added = list_any spec.moves ps ≡ true → spec.size_refusal o.segment (o.total + added) ≡ None

-- The new Element of the part `part` is appended to the file, and `octets` is its body. The contract of `moving_body` promises it.
abbrev pub MovesWith : Part → List ℕ → Type 0
MovesWith part octets = (spec.moves (shown part) ≡ true) × (part.body ≡ Some octets)

-- A write at the offset `at`, whatever its bytes are, is inserted into `writes`, sorted by offset, at the index `k`, from 0. The contract of
-- `place_among` promises it.
abbrev pub IsPlaceAmong : List Write → ℕ → ℕ → Type 0
IsPlaceAmong writes at k = (octets : List ℕ)
    → spec.inserted (spec.write at octets) (map written writes) ≡ inserted_at (map written writes) k (spec.write at octets)
