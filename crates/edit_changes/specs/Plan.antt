-- The writes that replace Elements of level 1, for edits of Info and Tracks: their places, and the room that may be missing. RFC 9559, sections
-- 5.1 (Segment Element) and 16 (Segment Position). The choice between staying and moving is this project's.
use Rattle.std.specs.Prelude.{ℕ, ◌+◌, ◌-◌, ◌==◌, nat_lt, nat_le, max, Bool, false, not, ◌&&◌, ◌||◌, if◌then◌else◌, List, [], ◌∷◌, ◌++◌, length, take, map, filter, filter_map, find, flat_map, sum_by, count_by, Option, Some, None, unwrap_or, Result, Ok, Err}
use Rattle.std.specs.List.{list_any}
use Rattle.std.specs.Option.{is_some, option_and_then, option_map, option_map_or, option_or}
use Rattle.ebml_numbers.specs.Number.{id_octets, size_octets, least_size_width}
use Rattle.mkv_schema.specs.declared.ids.TheConstants.{INFO, TRACKS, CLUSTER, SEGMENT}
use Rattle.mkv_io.specs.declared.damage.Damage.{Damage}
use Rattle.requests.specs.declared.edit.Edit.{Edit}
use Rattle.mkv_schema.specs.declared.element.Header.{Header}
use Rattle.mkv_schema.specs.Element.{is_unknown, stated_end}
use Rattle.element_reader.specs.Outline.{FileOutline}
use Rattle.mkv_schema.specs.Value.{first_of}
use Rattle.tree_format.specs.declared.limits.TheConstants.{MAX_NODES}
use Rattle.tree_format.specs.Node.{Node, nodes_of, children}
use Rattle.tree_format.specs.NormalForm.{octets}
use Rattle.tree_format.specs.Standing.{kept_all}
use Rattle.output_model.specs.Element.{Element, element, octets_of}
use Rattle.output_model.specs.declared.places.Seek.{Seek}
use Rattle.output_model.specs.SeekHead.{seeks_from}
use Rattle.sidecar_edit.specs.declared.place.Place.{Place}
use Rattle.sidecar_edit.specs.declared.place.TheConstants.{KEPT}
use Rattle.sidecar_edit.specs.Fields.{Planned}
use Rattle.sidecar_edit.specs.Writes.{Write, applied, extent}
use Rattle.edit_changes.specs.declared.refusal.Refusal.{Refusal}
use Rattle.edit_changes.specs.declared.refusal.Refusal.TheVariants.{Damaged, EditTooLarge, NoRoom}
use Rattle.edit_changes.specs.declared.refusal.Room.{Room}
use Rattle.edit_changes.specs.declared.refusal.Room.TheVariants.{Tail, Twin, SeekHead, SegmentSize}
use Rattle.edit_changes.specs.declared.refusal.TheConstants.{MAX_WRITTEN}
use Rattle.edit_changes.specs.declared.trees.Trees.{Trees}
use Rattle.edit_changes.specs.Change.{edited_trees, are_of_info, are_of_tracks}
use Rattle.mkv_io.specs.Results.{unless, and_then}
use Rattle.edit_changes.specs.Records.{editable}
use Rattle.edit_changes.specs.Span.{span_of, void_header, fitted}
use Rattle.edit_changes.specs.SeekHead.{SeekHeadAt, seek_head_of, seek_head_with}

-- ---- the Elements of level 1 that are rewritten

-- An Element at level 1 that is rewritten or removed, in a plan of `propedit` or `reindex`. `place` is the offset of the old one in the file. `room`
-- is its length and the Voids directly after it, in bytes, 0 if there is no old one. `nodes` counts the Elements that are written, itself included.
-- `element` is the new one in its normal form, or None if it is removed.
pub record Part : Type 0 where
  pub id : ℕ
  pub place : ℕ
  pub room : ℕ
  pub nodes : ℕ
  pub element : Option Element

-- the Element at level 1 with header `h`, rewritten with the children `nodes`, as a part of a plan; `list` has all headers at level 1. Used by
-- `part_of`.
abbrev pub part : List Header → List Node → Header → Part
part list nodes h = record {
  id = h.id;
  place = h.offset;
  room = span_of h list;
  nodes = kept_all (nodes_of nodes) + 1;
  element = Some (element h.id (flat_map octets nodes));
}

-- the first Element with the ID `id` at level 1, rewritten with the children `nodes`, as a list of one part. It is empty unless `written` is true and
-- the file has one. `list` has all headers at level 1. `parts` uses it for Info and Tracks.
abbrev pub part_of : Bool → ℕ → List Header → List Node → List Part
part_of written id list nodes = if written then option_map_or (λ h. part list nodes h ∷ []) (first_of id list) [] else []

-- the children of the Info `info`, or none if there is no Info; `parts` writes them again
abbrev pub info_nodes : Option Node → List Node
info_nodes info = option_map_or children info []

-- the parts of a plan of `propedit`: Info and Tracks, in this order, each if one of `edits` is about it. Their children are in the edited trees `t`,
-- and `list` has all headers at level 1.
abbrev pub parts : List Header → List Edit → Trees → List Part
parts list edits t =
    part_of (are_of_info edits) INFO list (info_nodes t.info) ++ part_of (are_of_tracks edits) TRACKS list t.tracks

-- The new Element of part `p` is longer than its room, so it is appended to the file, and the SeekHead must change. Used by `moving`, `length_moving`
-- and others.
abbrev pub moves : Part → Bool
moves p = option_map_or (λ e. nat_lt p.room (length (octets_of e))) p.element false

-- The part `p` replaces an Element that exists in the file, and so has a write over it. Used by `property_of`, `text_where` and others.
abbrev pub stands : Part → Bool
stands p = nat_lt 0 p.room

-- the parts of `ps` whose new Element is appended to the file. Appended bytes, new Seeks and checks for twins come from them. Used by
-- `elements_moving`, `moving_refusals` and others.
abbrev pub moving : List Part → List Part
moving ps = filter moves ps

-- the bytes that are written over the old Element of part `p`. They are the new Element, or the header of a Void if it is appended to the file
-- instead, or removed. `part_writes` uses it.
abbrev pub overwrite_or_void : Part → List ℕ
overwrite_or_void p = unwrap_or (option_and_then (λ e. fitted e p.room) p.element) (void_header p.room)

-- the new Elements of the parts `ps` that are appended to the file, in their order. Their Seeks count from the end of the old file. `appended` and
-- `seeks` use them.
abbrev pub elements_moving : List Part → List Element
elements_moving ps = filter_map (λ p. p.element) (moving ps)

-- the bytes that are appended to the file for the parts `ps`: the Elements that move, in sequence. `moving_writes` writes them last.
abbrev pub appended : List Part → List ℕ
appended ps = flat_map octets_of (elements_moving ps)

-- ---- the new SeekHead, and the Segment's size

-- One of the parts `ps` removes the Element with the ID `id`, which then has no Seek in the new SeekHead. Used by `standing_seek` and others.
abbrev pub goes : List Part → ℕ → Bool
goes ps id = list_any (λ (p : Part). p.id == id && not (is_some p.element)) ps

-- the Seek of the Element with header `h`; its position in bytes counts from `base`, the offset of the Segment's data. Used for Elements that stay.
-- Used by `standing_seek`.
abbrev pub seek_to : ℕ → Header → Seek
seek_to base h = record { id = h.id; position = h.offset - base }

-- the Seek of the first existing Element with the ID `id`; None if there is none, or if one of the parts `ps` removes it. `o` is the outline of the
-- file. `seek_for` uses it for an ID that isn't moved.
abbrev pub standing_seek : FileOutline → List Part → ℕ → Option Seek
standing_seek o ps id = if goes ps id then None else option_map (seek_to o.segment.body) (first_of id o.others)

-- the Seek for the ID `id` in the new SeekHead, in a file with the outline `o`. It is in `moved`, the Seeks of the appended Elements, or else points
-- to the first existing Element. An Element that one of the parts `ps` removes has none. `seeks_beside` uses it.
abbrev pub seek_for : List Seek → FileOutline → List Part → ℕ → Option Seek
seek_for moved o ps id = option_or (find (λ s. s.id == id) moved) (standing_seek o ps id)

-- the Seeks of `ids` in their order for a file with the outline `o`, after the parts `ps` are written. An Element that doesn't exist has none.
-- `moved` has the Seeks of the appended Elements. `seeks` gives it them.
abbrev pub seeks_beside : List Seek → FileOutline → List Part → List ℕ → List Seek
seeks_beside moved o ps ids = filter_map (seek_for moved o ps) ids

-- the new Seeks of `ids` in the new SeekHead, after the parts `ps` are written to a file with the outline `o`. IDs that have no Element are left out.
-- `seek_head` uses them.
abbrev pub seeks : List ℕ → FileOutline → List Part → List Seek
seeks ids o ps = seeks_beside (seeks_from (o.total - o.segment.body) (elements_moving ps)) o ps ids

-- the room in bytes of the SeekHead `head`: its length and the Voids directly after it. It is 0 without a SeekHead. `list` has all headers at level
-- 1. The new SeekHead must fit in it.
abbrev pub room_of : Option SeekHeadAt → List Header → ℕ
room_of head list = option_map_or (λ s. span_of s.header list) head 0

-- the offset of the SeekHead `head` in the file, where the new one is written, or 0 if there is none. `writes_moving` uses it.
abbrev pub place_of : Option SeekHeadAt → ℕ
place_of head = option_map_or (λ s. s.header.offset) head 0

-- the new SeekHead, as an Element, after the parts `ps` are written to a file with the outline `o`. It has the new Seeks of `ids`, and keeps the
-- other children of the old SeekHead `head`. `writes_moving` writes it.
abbrev pub seek_head : List ℕ → FileOutline → List Part → Option SeekHeadAt → Element
seek_head ids o ps head = seek_head_with ids (seeks ids o ps) (option_map_or (λ s. s.seeks) head [])

-- the number of bytes of the size field in the Segment's header `segment`, in which the new size is written. Used by `size_refusal`, `size_writes`
-- and others.
abbrev pub size_width : Header → ℕ
size_width segment = segment.body - segment.offset - length (id_octets SEGMENT)

-- the least number of bytes of a size field for the Segment `segment` if it ends at the offset `end`. `size_refusal` compares it with the field.
abbrev pub size_need : Header → ℕ → ℕ
size_need segment end = least_size_width (end - segment.body)

-- ---- missing room

-- the end offset that header `h`, the Segment's or the last Cluster's, states, unless it is `total`, the length of the file. A header of unknown size
-- states none. `wrong_end` uses it.
abbrev pub other_end : ℕ → Header → Option ℕ
other_end total h = if is_unknown h.size || stated_end h == total then None else Some (stated_end h)

-- the end offset that the last Element at level 1 states, if it is a Cluster, or else None. It is None too if the end is `total`, the length of the
-- file. `wrong_end` uses it.
abbrev pub cluster_end : ℕ → Option Header → Option ℕ
cluster_end total None = None
cluster_end total (Some h) = if h.id == CLUSTER then other_end total h else None

-- The end offset that prevents appending to the file with the outline `o`, or None. It is the Segment's stated end, unless that is the file's end. If
-- not, it is the stated end of the last Element at level 1, if that is a Cluster that doesn't end with the file. If not, it is the end of a Segment
-- of unknown size that doesn't end with the file. `tail_refusal` reports it.
abbrev pub wrong_end : FileOutline → Option ℕ
wrong_end o =
    option_or (other_end o.total o.segment)
    (option_or (cluster_end o.total o.last)
    (if o.end == o.total then None else Some o.end))

-- the number of Elements with the ID `id` in `list`, the headers at level 1. If it is more than one, none of them may move. Used by `fits` and
-- `twin_of`.
abbrev pub number_of : ℕ → List Header → ℕ
number_of id list = count_by (λ h. h.id == id) list

-- the refusal of the kind `why`, if `need` is more than `have`, both in bytes. Used for the SeekHead and the Segment's size field. Used by
-- `size_refusal` and `moving_refusals`.
abbrev pub lacks : Room → ℕ → ℕ → Option Refusal
lacks why need have = if nat_lt have need then Some (NoRoom why need have) else None

-- the refusal to append to a file with the outline `o`, whose Segment or last Cluster states another end than the file's; None if it may grow. Used
-- by `moving_refusals`.
abbrev pub tail_refusal : FileOutline → Option Refusal
tail_refusal o = option_map (λ end. NoRoom Tail end o.total) (wrong_end o)

-- the refusal to move the Element with the ID `id`, if `list`, the headers at level 1, has more than one with it; None otherwise. `reindex` checks
-- Cues so.
abbrev pub twin_of : List Header → ℕ → Option Refusal
twin_of list id = if nat_lt 1 (number_of id list) then Some (NoRoom Twin 1 (number_of id list)) else None

-- the refusal of the first part in this list whose Element isn't the only one with its ID; None if there is no such part. `list` has all headers at
-- level 1. The parts that move must pass. Used by `moving_refusals` and others.
abbrev pub twin_refusal : List Header → List Part → Option Refusal
twin_refusal list [] = None
twin_refusal list (p ∷ ps) = option_or (twin_of list p.id) (twin_refusal list ps)

-- the refusal of the Segment `segment`, which ends at the offset `end` after the edit, if its size field has too few bytes for it. A Segment of
-- unknown size isn't refused. It is checked if something is appended. Used by `moving_refusals` and others.
abbrev pub size_refusal : Header → ℕ → Option Refusal
size_refusal segment end =
    if is_unknown segment.size then None else lacks SegmentSize (size_need segment end) (size_width segment)

-- ---- the writes

-- the write of the bytes `octets` over the file, starting at the offset `place`. A plan is a list of writes. Used by `part_writes`, `size_writes` and
-- others.
abbrev pub write : ℕ → List ℕ → Write
write place octets = record { at = place; bytes = octets }

-- the list with the write `w` inserted, if the list is sorted by offset. `ascending` sorts with it.
abbrev pub inserted : Write → List Write → List Write
inserted w [] = w ∷ []
inserted w (v ∷ vs) = if nat_le w.at v.at then w ∷ v ∷ vs else v ∷ inserted w vs

-- the list of writes of a plan, sorted by offset in the file. Used by `writes_in_place`, `moving_writes` and others.
abbrev pub ascending : List Write → List Write
ascending [] = []
ascending (w ∷ ws) = inserted w (ascending ws)

-- the writes over the old Elements of the parts `ps` that exist in the file, in the order of the parts. Both kinds of plan have them. Used by
-- `writes_in_place`, `moving_writes` and others.
abbrev pub part_writes : List Part → List Write
part_writes ps = map (λ p. write p.place (overwrite_or_void p)) (filter stands ps)

-- the write of the size field of the Segment `segment`, which ends at the offset `end` after the edit. There is none if its size is unknown.
-- `moving_writes` begins with it.
abbrev pub size_writes : Header → ℕ → List Write
size_writes segment end =
    if is_unknown segment.size then []
    else write (segment.offset + length (id_octets SEGMENT)) (size_octets (end - segment.body) (size_width segment)) ∷ []

-- the number of bytes that a write of the size of `segment` takes; 0 if its size is unknown. `length_moving` adds it.
abbrev pub size_length : Header → ℕ
size_length segment = if is_unknown segment.size then 0 else size_width segment

-- the greatest number of Elements in a single part of `ps`, 0 if there is none. `too_large` limits it.
abbrev pub most_nodes : List Part → ℕ
most_nodes [] = 0
most_nodes (p ∷ ps) = max p.nodes (most_nodes ps)

-- the number of bytes that the parts `ps` write over their old Elements, without what is appended. `too_large` limits it.
abbrev pub length_in_place : List Part → ℕ
length_in_place ps = sum_by (λ p. length (overwrite_or_void p)) (filter stands ps)

-- the refusal, if `length` bytes of writes in all are more than 16 MiB, or a part of `ps` has too many Elements; None otherwise. Both kinds of plan
-- check it. Used by `writes_in_place` and `moving_refusals`.
abbrev pub too_large : ℕ → List Part → Option Refusal
too_large length ps =
    if nat_lt MAX_NODES (most_nodes ps) || nat_lt MAX_WRITTEN length then Some (EditTooLarge length (most_nodes ps)) else None

-- the writes of the parts `ps`, if none moves and the SeekHead isn't written, or the refusal of too large an edit. Used by `writes_of_parts`.
abbrev pub writes_in_place : List Part → Result (List Write) Refusal
writes_in_place ps = unless (too_large (length_in_place ps) ps) (ascending (part_writes ps))

-- the first refusal in the list of checks, in their order, or None if all pass. `writes_moving` takes it.
abbrev pub first_refusal : List (Option Refusal) → Option Refusal
first_refusal [] = None
first_refusal (None ∷ rs) = first_refusal rs
first_refusal (Some r ∷ rs) = Some r

-- the number of bytes of all writes of the parts `ps` with the new SeekHead `seeks` in `room` bytes. `o` is the outline of the file. A SeekHead that
-- doesn't fit counts in its shortest form. `moving_refusals` limits it to 16 MiB.
abbrev pub length_moving : FileOutline → List Part → Element → ℕ → ℕ
length_moving o ps seeks room =
    length_in_place ps + length (appended ps) + length (unwrap_or (fitted seeks room) (octets_of seeks))
    + (if list_any moves ps then size_length o.segment else 0)

-- the length in bytes of the file with the outline `o` after the Elements of the parts `ps` that move are appended. The Segment's new size ends
-- there. `moving_writes` uses it.
abbrev pub new_end : FileOutline → List Part → ℕ
new_end o ps = o.total + length (appended ps)

-- The reasons to refuse writes of the parts `ps` with a SeekHead, in the order of the checks, None for one that passes. `o` is the outline of the
-- file. Too much is written (EditTooLarge). An Element states another end than the file's (Tail). An Element that moves isn't the only one with its
-- ID (Twin). The SeekHead `seeks` is longer than its `room` in bytes (SeekHead). The Segment's size field is too short for the new end (SegmentSize).
-- If nothing is appended, the ends aren't checked. `writes_moving` takes the first.
abbrev pub moving_refusals : FileOutline → List Part → Element → ℕ → List (Option Refusal)
moving_refusals o ps seeks room =
    too_large (length_moving o ps seeks room) ps
    ∷ (if list_any moves ps then tail_refusal o else None)
    ∷ twin_refusal o.others (moving ps)
    ∷ lacks SeekHead (length (octets_of seeks)) room
    ∷ (if list_any moves ps then size_refusal o.segment (new_end o ps) else None) ∷ []

-- The writes of the parts `ps` with the SeekHead `seeks` to a file with the outline `o`, sorted by offset. `place` and `room` are the offset and room
-- in bytes of the old SeekHead. If something is appended, the Segment's size comes first and the appended Elements come last. `writes_moving` returns
-- them if nothing is refused.
abbrev pub moving_writes : FileOutline → List Part → Element → ℕ → ℕ → List Write
moving_writes o ps seeks place room =
    let middle = ascending (write place (unwrap_or (fitted seeks room) []) ∷ part_writes ps) in
    if list_any moves ps then size_writes o.segment (new_end o ps) ++ middle ++ write o.total (appended ps) ∷ [] else middle

-- the writes of the parts `ps` and of the SeekHead with the Seeks of `ids`, or the first refusal. `head` is the old SeekHead, or None, and `o` the
-- outline of the file. `writes_of_parts` uses it.
abbrev pub writes_moving : List ℕ → FileOutline → List Part → Option SeekHeadAt → Result (List Write) Refusal
writes_moving ids o ps head =
    let seeks = seek_head ids o ps head in
    let room = room_of head o.others in
    unless (first_refusal (moving_refusals o ps seeks room)) (moving_writes o ps seeks (place_of head) room)

-- The writes of the parts `ps` of a file with the content `bytes` and the outline `o`, or the first refusal. If a part moves or `always` is true, the
-- SeekHead is rewritten too, with new Seeks of `ids`. Plans of `propedit` and `reindex` end with it.
abbrev pub writes_of_parts : List ℕ → Bool → List ℕ → FileOutline → List Part → Result (List Write) Refusal
writes_of_parts ids always bytes o ps =
    if always || list_any moves ps then writes_moving ids o ps (seek_head_of bytes o) else writes_in_place ps

-- ---- the writes of edits

-- the IDs of Info and Tracks, for plans of `propedit`; when one of them moves, the SeekHead gets new Seeks of both
abbrev pub edit_ids : List ℕ
edit_ids = INFO ∷ TRACKS ∷ []

-- the value that was read, or the refusal of the edits because of damage in the file. Plans of `propedit` and `reindex` begin with it.
abbrev pub if_editable : {A : Type 0} → Result A Damage → Result A Refusal
if_editable (Ok x) = Ok x
if_editable (Err d) = Err (Damaged d)

-- The writes of `edits` to a file with the content `bytes`, sorted by offset, or the first refusal. The contract of the planning of `propedit`
-- promises it.
unfoldable pub plan_of : List ℕ → List Edit → Result (List Write) Refusal
plan_of bytes edits =
    and_then (if_editable (editable bytes)) (λ f.
    and_then (edited_trees edits f.trees) (λ t.
    writes_of_parts edit_ids false bytes f.outline (parts f.outline.others edits t)))

-- ---- the edited file, and the record of the edit

-- The content of a file after `edits`, if it had `bytes` before, or the refusal of the edits. It is what `propedit` leaves on disk.
abbrev pub edited : List ℕ → List Edit → Result (List ℕ) Refusal
edited bytes edits = and_then (plan_of bytes edits) (λ ws. Ok (applied bytes ws))

-- the offset and the length in bytes of the write `w`, as a journal has them before its new bytes. Used by `is_info`, `apply` and others.
abbrev pub place : Write → Place
place w = record { at = w.at; len = length w.bytes }

-- The journal's record of the writes `ws` to a file with the content `bytes`. It has the old and new length, the first bytes of the file, and the
-- places and new bytes. `propedit` and `reindex` write it before they change the file.
abbrev pub recorded : List ℕ → List Write → Planned
recorded bytes ws = record {
  head = record { old_len = length bytes; new_len = extent (length bytes) ws; first = take KEPT bytes; places = map place ws };
  payload = flat_map (λ (w : Write). w.bytes) ws;
}
