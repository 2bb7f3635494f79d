-- The refusals of writes that move Elements, and the writes before they are checked.
use Rattle.std.specs.Prelude.{◌≡◌, ◌≤◌, ℕ, ◌+◌, if◌then◌else◌, List, [], ◌∷◌, length, map, Option, None, unwrap_or}
use Rattle.std.specs.List.{list_any}
use Rattle.element_reader.specs.Outline.{FileOutline}
use Rattle.output_model.specs.Element.{octets_of}
use Rattle.edit_changes.specs.declared.refusal.Refusal.{Refusal}
use Rattle.edit_changes.specs.declared.refusal.Room.TheVariants.{SeekHead}
use Rattle.edit_changes.specs.Ends.{EndsFit}
use Rattle.edit_changes.specs.SeekHead.{SeekHeadAt}
use Rattle.edit_changes.specs.Span.{fitted}
use Rattle.edit_changes.specs.Plan.{Part, appended, first_refusal, lacks, length_moving, moves, moving, part_writes, room_of, seek_head, size_refusal, size_width, tail_refusal, too_large, twin_refusal}
use Rattle.edit_plan.specs.declared.prepared.Prepared.{Prepared}
use Rattle.edit_plan.specs.Shown.{written}
use Rattle.edit_plan.specs.Made.{in_room, size_refused, tail_refused}

-- the first refusal of the parts `ps` in a file with the outline `o`, in the order of the checks, or None. `length` bytes are written in all, and
-- `added` of them appended. The SeekHead needs `need` bytes and has `room`. The contract of `moving_refusal` promises it.
abbrev pub refused : FileOutline → List Part → ℕ → ℕ → ℕ → ℕ → Option Refusal
refused o ps length added need room =
    first_refusal (too_large length ps
    ∷ tail_refused o ps
    ∷ twin_refusal o.others (moving ps)
    ∷ lacks SeekHead need room
    ∷ size_refused o ps added ∷ [])

-- In the outline `o`, the ends that headers state have 64 bits, and the Segment's size field has at most eight bytes. Contracts promise the writes of
-- a move only then. Used by `moving_writes` and `parts_writes`.
pub record CanMove (o : FileOutline) : Type 0 where
  pub ends : EndsFit o
  pub size : size_width o.segment ≤ 8

-- The writes `p` are made of the parts `ps` and the SeekHead with new Seeks for `ids`, before any check. `old` is the old SeekHead, and `o` the
-- outline of the file. The contract of `prepared` promises it.
pub record IsPrepared (ids : List ℕ) (o : FileOutline) (ps : List Part) (old : Option SeekHeadAt) (p : Prepared) : Type 0 where
  pub head : p.head.items ≡ in_room (seek_head ids o ps old) (room_of old o.others)
  pub need : p.need ≡ length (octets_of (seek_head ids o ps old))
  pub room : p.room ≡ room_of old o.others
  pub places : map written p.places.items ≡ part_writes ps
  pub moved : p.moved.items ≡ appended ps
  pub all : p.length ≡ length_moving o ps (seek_head ids o ps old) (room_of old o.others)
