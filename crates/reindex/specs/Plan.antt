-- The writes of a new index: RFC 9559, sections 5.1.1 (SeekHead Element) and 5.1.5 (Cues Element). Its place, and the reasons to refuse it, are
-- this project's.
use Rattle.std.specs.Prelude.{ℕ, true, List, [], ◌∷◌, length, slice_get, Option, Some, None, Result, Ok}
use Rattle.mkv_schema.specs.declared.ids.TheConstants.{ATTACHMENTS, CHAPTERS, CUES, INFO, TAGS, TRACKS}
use Rattle.mkv_schema.specs.declared.element.Header.{Header}
use Rattle.mkv_schema.specs.Value.{first_of}
use Rattle.element_reader.specs.Outline.{FileOutline}
use Rattle.output_model.specs.Cues.{cues_elements}
use Rattle.output_model.specs.Element.{Element}
use Rattle.output_model.specs.declared.places.CuePoint.{CuePoint}
use Rattle.sidecar_edit.specs.Writes.{Write}
use Rattle.edit_changes.specs.declared.refusal.Refusal.{Refusal}
use Rattle.mkv_io.specs.Results.{and_then, unless}
use Rattle.edit_changes.specs.Plan.{Part, if_editable, recorded, twin_of, writes_of_parts}
use Rattle.edit_changes.specs.Records.{EditableFile}
use Rattle.edit_changes.specs.Span.{span_of}
use Rattle.reindex.specs.declared.indexed.Indexed.{Indexed}
use Rattle.reindex.specs.Index.{indexable}
use Rattle.reindex.specs.Points.{index_points}

-- ---- the Cues

-- the new Cues of `reindex` with a CuePoint for each of `points`, or None without points
abbrev pub new_cues : List CuePoint → Option Element
new_cues points = slice_get (cues_elements points) 0

-- the part of the edit of `reindex` that writes the Cues `new`, or removes the old one if it is None. The old Cues is at the offset `place` in the
-- file, and has `room` bytes with the Voids after it; without one both are 0. No limit counts its Elements, so `nodes` is 0. The contract of
-- `cues_part` states it.
abbrev pub cues_part : ℕ → ℕ → Option Element → Part
cues_part place room new = record { id = CUES; place = place; room = room; nodes = 0; element = new }

-- The part of the edit of `reindex` for the Cues, given the old one and the new one, if they exist; `list` has all headers at level 1. A new Cues
-- takes the place of the old one. It moves to the end of the file if there is no old one, or its room is too small. Without a new Cues the old one is
-- removed.
abbrev pub cues_parts : List Header → Option Header → Option Element → List Part
cues_parts list None None = []
cues_parts list None (Some e) = cues_part 0 0 (Some e) ∷ []
cues_parts list (Some old) new = cues_part old.offset (span_of old list) new ∷ []

-- the part of the edit of `reindex` that writes a Cues with `points`, or removes the old one, in a file with the outline `o`; none if there is
-- neither
abbrev pub index_parts : FileOutline → List CuePoint → List Part
index_parts o points = cues_parts o.others (first_of CUES o.others) (new_cues points)

-- ---- the writes

-- the IDs of the Elements that get new Seeks in the SeekHead of a file after `reindex`
abbrev pub index_ids : List ℕ
index_ids = INFO ∷ TRACKS ∷ ATTACHMENTS ∷ CUES ∷ CHAPTERS ∷ TAGS ∷ []

-- The writes of `reindex`, a Cues with `points` and the SeekHead, sorted by offset, to a file with the content `bytes` and the outline `o`. They are
-- refused for a second Cues or missing room.
abbrev pub index_writes : List ℕ → FileOutline → List CuePoint → Result (List Write) Refusal
index_writes bytes o points =
    and_then (unless (twin_of o.others CUES) (index_parts o points))
    (writes_of_parts index_ids true bytes o)

-- A new index that `reindex` plans: its writes over the file, and the cue points that the file then has.
pub record Index : Type 0 where
  pub writes : List Write
  pub points : List CuePoint

-- the new index of `reindex` with `points` of a file with the content `bytes` and the outline `o`, or the refusal of its writes
abbrev pub index_with : List ℕ → FileOutline → List CuePoint → Result Index Refusal
index_with bytes o points = and_then (index_writes bytes o points) (λ ws. Ok (record { writes = ws; points = points }))

-- The new index that `reindex` gives a file with the content `bytes`, or its first refusal.
abbrev pub index_of : List ℕ → Result Index Refusal
index_of bytes =
    and_then (if_editable (indexable bytes)) (λ (f : EditableFile).
    index_with bytes f.outline (index_points bytes f.outline.segment f.trees.tracks))

-- ---- its record

-- the journal's record of the writes of `x`, an index that `reindex` gives a file with the content `bytes`, and the number of its cue points
abbrev pub indexed : List ℕ → Index → Indexed
indexed bytes x = record { plan = recorded bytes x.writes; cues = length x.points }

-- the journal's record of the writes by which `reindex` gives a file with the content `bytes` a new index, and the number of its cue points. The
-- error is the refusal. It is the contract of `plan_index`.
abbrev pub indexed_of : List ℕ → Result Indexed Refusal
indexed_of bytes = and_then (index_of bytes) (λ x. Ok (indexed bytes x))
