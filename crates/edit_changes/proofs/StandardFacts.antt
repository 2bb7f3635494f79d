-- Computed plans of small files, so that a wrong definition fails the check; the writes were worked out by hand or by another program.
use Rattle.std.proofs.Common.{◌≡◌, ℕ, ◌+◌, ◌-◌, [], ◌∷◌, ◌++◌, List, length, replicate, codes, Ok, Err, refl}
use Rattle.std.specs.Int.Count.{count_leading_zeros}
use Rattle.std.specs.Str.{is_utf8, chars}
use lib.Utf8.{encode}
use Rattle.ebml_numbers.specs.Number.{id_at, size_at, is_id, least_size_width, uint_width}
use Rattle.mkv_schema.specs.Table.{table}
use Rattle.mkv_schema.specs.Schema.{entry_of}
use Rattle.mkv_io.specs.declared.damage.Kind.TheVariants as kind
use Rattle.requests.specs.declared.edit.Edit.{Edit}
use Rattle.requests.specs.declared.edit.Selector.TheVariants.{Info, Nth, Typed, Uid, Number}
use Rattle.requests.specs.declared.edit.Change.TheVariants.{Set, Add, Delete}
use Rattle.requests.specs.Decimal.{number, whole}
use Rattle.mkv_schema.specs.Element.{element_in}
use Rattle.mkv_schema.specs.Elements.{elements, elements_within}
use Rattle.mkv_schema.specs.Outline.{outline_of, ebml_header, segment_of}
use Rattle.tree_format.specs.Reading.{grove, grove_within}
use Rattle.sidecar_edit.specs.Writes.{Write, extent}
use Rattle.edit_changes.specs.declared.refusal.Refusal.TheVariants as refusal
use Rattle.edit_changes.specs.declared.refusal.Room.TheVariants as room
use Rattle.edit_changes.specs.declared.refusal.EditRefusal.TheVariants as why
use Rattle.edit_changes.specs.Property.{property_of}
use Rattle.edit_changes.specs.Plan.{write, plan_of}

-- ---- files

-- an EBML header of 16 bytes
abbrev header : List ℕ
header =
    0x1A ∷ 0x45 ∷ 0xDF ∷ 0xA3 ∷ 0x8B ∷ 0x42 ∷ 0x82 ∷ 0x88 ∷ 0x6D ∷ 0x61 ∷ 0x74 ∷ 0x72 ∷ 0x6F ∷ 0x73 ∷ 0x6B ∷ 0x61 ∷ []

-- a Tracks of 25 bytes: an audio track of CodecID A_OPUS, TrackNumber 1 and TrackUID 5
abbrev tracks : List ℕ
tracks =
    0x16 ∷ 0x54 ∷ 0xAE ∷ 0x6B ∷ 0x94 ∷ 0xAE ∷ 0x92 ∷ 0xD7 ∷ 0x81 ∷ 0x01 ∷ 0x73 ∷ 0xC5 ∷ 0x81 ∷ 0x05 ∷ 0x83 ∷ 0x81 ∷ 0x02 ∷ 0x86 ∷ 0x86 ∷ 0x41 ∷ 0x5F ∷ 0x4F ∷ 0x50 ∷ 0x55 ∷ 0x53 ∷ []

-- a Cluster of 22 bytes
abbrev cluster : List ℕ
cluster =
    0x1F ∷ 0x43 ∷ 0xB6 ∷ 0x75 ∷ 0x91 ∷ 0xE7 ∷ 0x81 ∷ 0x00 ∷ 0xA3 ∷ 0x85 ∷ 0x81 ∷ 0x00 ∷ 0x00 ∷ 0x80 ∷ 0xAA ∷ 0xA3 ∷ 0x85 ∷ 0x81 ∷ 0x00 ∷ 0x14 ∷ 0x80 ∷ 0xBB ∷ []

-- a Segment with a size of one byte after the EBML header
abbrev segment : ℕ → List ℕ → List ℕ
segment size body = header ++ 0x18 ∷ 0x53 ∷ 0x80 ∷ 0x67 ∷ size ∷ body

-- a Void of `n` bytes in all
abbrev void : ℕ → List ℕ
void n = 0xEC ∷ (0x80 + (n - 2)) ∷ replicate (n - 2) 0

-- a SeekHead of 26 bytes with the Seek of Tracks, at 26 bytes inside the Segment
abbrev seek_head : List ℕ
seek_head =
    0x11 ∷ 0x4D ∷ 0x9B ∷ 0x74 ∷ 0x95 ∷ 0x4D ∷ 0xBB ∷ 0x92 ∷ 0x53 ∷ 0xAB ∷ 0x84 ∷ 0x16 ∷ 0x54 ∷ 0xAE ∷ 0x6B ∷ 0x53 ∷ 0xAC ∷ 0x88 ∷ 0x00 ∷ 0x00 ∷ 0x00 ∷ 0x00 ∷ 0x00 ∷ 0x00 ∷ 0x00 ∷ 0x1A ∷ []

-- an Info of 13 bytes, with its MuxingApp and WritingApp
abbrev info : List ℕ
info =
    0x15 ∷ 0x49 ∷ 0xA9 ∷ 0x66 ∷ 0x88 ∷ 0x4D ∷ 0x80 ∷ 0x81 ∷ 0x78 ∷ 0x57 ∷ 0x41 ∷ 0x81 ∷ 0x79 ∷ []

-- ---- edits

abbrev name_hi : Edit
name_hi = record { place = Nth 1; change = Set; name = codes "name"; value = codes "Hi" }

-- the Tracks with that name, of 30 bytes
abbrev tracks_hi : List ℕ
tracks_hi =
    0x16 ∷ 0x54 ∷ 0xAE ∷ 0x6B ∷ 0x99 ∷ 0xAE ∷ 0x97 ∷ 0xD7 ∷ 0x81 ∷ 0x01 ∷ 0x73 ∷ 0xC5 ∷ 0x81 ∷ 0x05 ∷ 0x83 ∷ 0x81 ∷ 0x02 ∷ 0x86 ∷ 0x86 ∷ 0x41 ∷ 0x5F ∷ 0x4F ∷ 0x50 ∷ 0x55 ∷ 0x53 ∷ 0x53 ∷ 0x6E ∷ 0x82 ∷ 0x48 ∷ 0x69 ∷ []

-- ---- Elements that stay at their places

-- The Voids after it have room: the header of a shorter Void follows.
pub void-follows : plan_of (segment 0xB9 (tracks ++ void 10 ++ cluster)) (name_hi ∷ []) ≡ Ok (write 21 (tracks_hi ++ 0xEC ∷ 0x83 ∷ []) ∷ [])
unfolding plan_of outline_of ebml_header segment_of elements elements_within element_in id_at size_at grove grove_within table entry_of is_utf8 chars encode least_size_width count_leading_zeros property_of number whole is_id uint_width
void-follows = refl

-- Two Voids are used; two bytes of the second are left.
pub voids-join : plan_of (segment 0xB6 (tracks ++ void 4 ++ void 3 ++ cluster)) (name_hi ∷ []) ≡ Ok (write 21 (tracks_hi ++ 0xEC ∷ 0x80 ∷ []) ∷ [])
unfolding plan_of outline_of ebml_header segment_of elements elements_within element_in id_at size_at grove grove_within table entry_of is_utf8 chars encode least_size_width count_leading_zeros property_of number whole is_id uint_width
voids-join = refl

-- One byte is left, which the size takes.
pub wider-size : plan_of (segment 0xB5 (tracks ++ void 6 ++ cluster)) (name_hi ∷ []) ≡ Ok (write 21 (0x16 ∷ 0x54 ∷ 0xAE ∷ 0x6B ∷ 0x40 ∷ 0x19 ∷ 0xAE ∷ 0x97 ∷ 0xD7 ∷ 0x81 ∷ 0x01 ∷ 0x73 ∷ 0xC5 ∷ 0x81 ∷ 0x05 ∷ 0x83 ∷ 0x81 ∷ 0x02 ∷ 0x86 ∷ 0x86 ∷ 0x41 ∷ 0x5F ∷ 0x4F ∷ 0x50 ∷ 0x55 ∷ 0x53 ∷ 0x53 ∷ 0x6E ∷ 0x82 ∷ 0x48 ∷ 0x69 ∷ []) ∷ [])
unfolding plan_of outline_of ebml_header segment_of elements elements_within element_in id_at size_at grove grove_within table entry_of is_utf8 chars encode least_size_width count_leading_zeros property_of number whole is_id uint_width
wider-size = refl

-- No byte is left.
pub no-room-left : plan_of (segment 0xB4 (tracks ++ void 5 ++ cluster)) (name_hi ∷ []) ≡ Ok (write 21 tracks_hi ∷ [])
unfolding plan_of outline_of ebml_header segment_of elements elements_within element_in id_at size_at grove grove_within table entry_of is_utf8 chars encode least_size_width count_leading_zeros property_of number whole is_id uint_width
no-room-left = refl

-- There are two edits of Info; one deletes a property that doesn't exist.
pub info-stays : plan_of (segment 0xC5 (info ++ void 9 ++ tracks ++ cluster)) (record { place = Info; change = Set; name = codes "title"; value = codes "T" } ∷ record { place = Info; change = Delete; name = codes "segment-filename"; value = [] } ∷ []) ≡ Ok (write 21 (0x15 ∷ 0x49 ∷ 0xA9 ∷ 0x66 ∷ 0x8C ∷ 0x4D ∷ 0x80 ∷ 0x81 ∷ 0x78 ∷ 0x57 ∷ 0x41 ∷ 0x81 ∷ 0x79 ∷ 0x7B ∷ 0xA9 ∷ 0x81 ∷ 0x54 ∷ [] ++ 0xEC ∷ 0x83 ∷ []) ∷ [])
unfolding plan_of outline_of ebml_header segment_of elements elements_within element_in id_at size_at grove grove_within table entry_of is_utf8 chars encode least_size_width count_leading_zeros property_of number whole is_id uint_width
info-stays = refl

-- A value that exists already is written again.
pub same-again : plan_of (segment 0xAF (tracks ++ cluster)) (record { place = Nth 1; change = Set; name = codes "codec-id"; value = codes "A_OPUS" } ∷ []) ≡ Ok (write 21 tracks ∷ [])
unfolding plan_of outline_of ebml_header segment_of elements elements_within element_in id_at size_at grove grove_within table entry_of is_utf8 chars encode least_size_width count_leading_zeros property_of number whole is_id uint_width
same-again = refl

-- Each edit is checked on the result of the previous ones.
pub each-of-the-others : plan_of (segment 0xB9 (tracks ++ void 10 ++ cluster)) (name_hi ∷ record { place = Typed 2 1; change = Delete; name = codes "name"; value = [] } ∷ record { place = Uid 5; change = Add; name = codes "name"; value = codes "Hi" } ∷ []) ≡ Ok (write 21 (tracks_hi ++ 0xEC ∷ 0x83 ∷ []) ∷ [])
unfolding plan_of outline_of ebml_header segment_of elements elements_within element_in id_at size_at grove grove_within table entry_of is_utf8 chars encode least_size_width count_leading_zeros property_of number whole is_id uint_width
each-of-the-others = refl

-- ---- Elements that move

-- Tracks moves: the writes are the Segment's size, the SeekHead, a Void in its place, and itself at the end.
pub tracks-moves : plan_of (segment 0xC9 (seek_head ++ tracks ++ cluster)) (name_hi ∷ []) ≡ Ok (write 20 (0xE7 ∷ []) ∷ write 21 (0x11 ∷ 0x4D ∷ 0x9B ∷ 0x74 ∷ 0x95 ∷ 0x4D ∷ 0xBB ∷ 0x92 ∷ 0x53 ∷ 0xAB ∷ 0x84 ∷ 0x16 ∷ 0x54 ∷ 0xAE ∷ 0x6B ∷ 0x53 ∷ 0xAC ∷ 0x88 ∷ 0x00 ∷ 0x00 ∷ 0x00 ∷ 0x00 ∷ 0x00 ∷ 0x00 ∷ 0x00 ∷ 0x49 ∷ []) ∷ write 47 (0xEC ∷ 0x97 ∷ []) ∷ write 94 tracks_hi ∷ [])
unfolding plan_of outline_of ebml_header segment_of elements elements_within element_in id_at size_at grove grove_within table entry_of is_utf8 chars encode least_size_width count_leading_zeros property_of number whole is_id uint_width
tracks-moves = refl

-- the same in a Segment of unknown size
pub open-segment : plan_of (segment 0xFF (seek_head ++ tracks ++ cluster)) (name_hi ∷ []) ≡ Ok (write 21 (0x11 ∷ 0x4D ∷ 0x9B ∷ 0x74 ∷ 0x95 ∷ 0x4D ∷ 0xBB ∷ 0x92 ∷ 0x53 ∷ 0xAB ∷ 0x84 ∷ 0x16 ∷ 0x54 ∷ 0xAE ∷ 0x6B ∷ 0x53 ∷ 0xAC ∷ 0x88 ∷ 0x00 ∷ 0x00 ∷ 0x00 ∷ 0x00 ∷ 0x00 ∷ 0x00 ∷ 0x00 ∷ 0x49 ∷ []) ∷ write 47 (0xEC ∷ 0x97 ∷ []) ∷ write 94 tracks_hi ∷ [])
unfolding plan_of outline_of ebml_header segment_of elements elements_within element_in id_at size_at grove grove_within table entry_of is_utf8 chars encode least_size_width count_leading_zeros property_of number whole is_id uint_width
open-segment = refl

-- Info and Tracks move, Info first, in a Segment of unknown size.
pub both-move : plan_of (segment 0xFF (seek_head ++ void 21 ++ tracks ++ info ++ cluster)) (name_hi ∷ record { place = Info; change = Add; name = codes "title"; value = codes "T" } ∷ []) ≡ Ok (write 21 (0x11 ∷ 0x4D ∷ 0x9B ∷ 0x74 ∷ 0xAA ∷ 0x4D ∷ 0xBB ∷ 0x92 ∷ 0x53 ∷ 0xAB ∷ 0x84 ∷ 0x15 ∷ 0x49 ∷ 0xA9 ∷ 0x66 ∷ 0x53 ∷ 0xAC ∷ 0x88 ∷ 0x00 ∷ 0x00 ∷ 0x00 ∷ 0x00 ∷ 0x00 ∷ 0x00 ∷ 0x00 ∷ 0x6B ∷ 0x4D ∷ 0xBB ∷ 0x92 ∷ 0x53 ∷ 0xAB ∷ 0x84 ∷ 0x16 ∷ 0x54 ∷ 0xAE ∷ 0x6B ∷ 0x53 ∷ 0xAC ∷ 0x88 ∷ 0x00 ∷ 0x00 ∷ 0x00 ∷ 0x00 ∷ 0x00 ∷ 0x00 ∷ 0x00 ∷ 0x7C ∷ []) ∷ write 68 (0xEC ∷ 0x97 ∷ []) ∷ write 93 (0xEC ∷ 0x8B ∷ []) ∷ write 128 (0x15 ∷ 0x49 ∷ 0xA9 ∷ 0x66 ∷ 0x8C ∷ 0x4D ∷ 0x80 ∷ 0x81 ∷ 0x78 ∷ 0x57 ∷ 0x41 ∷ 0x81 ∷ 0x79 ∷ 0x7B ∷ 0xA9 ∷ 0x81 ∷ 0x54 ∷ [] ++ tracks_hi) ∷ [])
unfolding plan_of outline_of ebml_header segment_of elements elements_within element_in id_at size_at grove grove_within table entry_of is_utf8 chars encode least_size_width count_leading_zeros property_of number whole is_id uint_width
both-move = refl

-- ---- missing room

-- There is no SeekHead.
pub no-seek-head : plan_of (segment 0xAF (tracks ++ cluster)) (name_hi ∷ []) ≡ Err (refusal.NoRoom room.SeekHead 26 0)
unfolding plan_of outline_of ebml_header segment_of elements elements_within element_in id_at size_at grove grove_within table entry_of is_utf8 chars encode least_size_width count_leading_zeros property_of number whole is_id uint_width
no-seek-head = refl

-- A SeekHead after the first Cluster doesn't count.
pub late-seek-head : plan_of (segment 0xC9 (tracks ++ cluster ++ seek_head)) (name_hi ∷ []) ≡ Err (refusal.NoRoom room.SeekHead 26 0)
unfolding plan_of outline_of ebml_header segment_of elements elements_within element_in id_at size_at grove grove_within table entry_of is_utf8 chars encode least_size_width count_leading_zeros property_of number whole is_id uint_width
late-seek-head = refl

-- The Segment states an end that isn't the file's.
pub cut-segment : plan_of (segment 0xB8 (tracks ++ cluster)) (name_hi ∷ []) ≡ Err (refusal.NoRoom room.Tail 77 68)
unfolding plan_of outline_of ebml_header segment_of elements elements_within element_in id_at size_at grove grove_within table entry_of is_utf8 chars encode least_size_width count_leading_zeros property_of number whole is_id uint_width
cut-segment = refl

-- The last Cluster states an end that isn't the file's.
pub cut-cluster : plan_of (segment 0xFF (tracks ++ 0x1F ∷ 0x43 ∷ 0xB6 ∷ 0x75 ∷ 0x92 ∷ 0xE7 ∷ 0x81 ∷ 0x00 ∷ 0xA3 ∷ 0x85 ∷ 0x81 ∷ 0x00 ∷ 0x00 ∷ 0x80 ∷ 0xAA ∷ 0xA3 ∷ 0x85 ∷ 0x81 ∷ 0x00 ∷ 0x14 ∷ 0x80 ∷ 0xBB ∷ [])) (name_hi ∷ []) ≡ Err (refusal.NoRoom room.Tail 69 68)
unfolding plan_of outline_of ebml_header segment_of elements elements_within element_in id_at size_at grove grove_within table entry_of is_utf8 chars encode least_size_width count_leading_zeros property_of number whole is_id uint_width
cut-cluster = refl

-- Bytes follow a Segment of unknown size.
pub octets-behind : plan_of (segment 0xFF (tracks ++ cluster ++ header)) (name_hi ∷ []) ≡ Err (refusal.NoRoom room.Tail 68 84)
unfolding plan_of outline_of ebml_header segment_of elements elements_within element_in id_at size_at grove grove_within table entry_of is_utf8 chars encode least_size_width count_leading_zeros property_of number whole is_id uint_width
octets-behind = refl

-- There is a second Tracks.
pub two-tracks : plan_of (segment 0xE5 (seek_head ++ tracks ++ void 3 ++ tracks ++ cluster)) (name_hi ∷ []) ≡ Err (refusal.NoRoom room.Twin 1 2)
unfolding plan_of outline_of ebml_header segment_of elements elements_within element_in id_at size_at grove grove_within table entry_of is_utf8 chars encode least_size_width count_leading_zeros property_of number whole is_id uint_width
two-tracks = refl

-- A Segment's size of 127 needs two bytes, since one of all ones is unknown.
pub size-of-127 : plan_of (segment 0xE1 (seek_head ++ tracks ++ cluster ++ void 24)) (name_hi ∷ []) ≡ Err (refusal.NoRoom room.SegmentSize 2 1)
unfolding plan_of outline_of ebml_header segment_of elements elements_within element_in id_at size_at grove grove_within table entry_of is_utf8 chars encode least_size_width count_leading_zeros property_of number whole is_id uint_width
size-of-127 = refl

-- A Segment's size of 126 needs one byte.
pub size-of-126 : plan_of (segment 0xE0 (seek_head ++ tracks ++ cluster ++ void 23)) (name_hi ∷ []) ≡ Ok (write 20 (0xFE ∷ []) ∷ write 21 (0x11 ∷ 0x4D ∷ 0x9B ∷ 0x74 ∷ 0x95 ∷ 0x4D ∷ 0xBB ∷ 0x92 ∷ 0x53 ∷ 0xAB ∷ 0x84 ∷ 0x16 ∷ 0x54 ∷ 0xAE ∷ 0x6B ∷ 0x53 ∷ 0xAC ∷ 0x88 ∷ 0x00 ∷ 0x00 ∷ 0x00 ∷ 0x00 ∷ 0x00 ∷ 0x00 ∷ 0x00 ∷ 0x60 ∷ []) ∷ write 47 (0xEC ∷ 0x97 ∷ []) ∷ write 117 tracks_hi ∷ [])
unfolding plan_of outline_of ebml_header segment_of elements elements_within element_in id_at size_at grove grove_within table entry_of is_utf8 chars encode least_size_width count_leading_zeros property_of number whole is_id uint_width
size-of-126 = refl

-- ---- refusals of an edit, or of the file

-- There is no Info.
pub no-info : plan_of (segment 0xAF (tracks ++ cluster)) (record { place = Info; change = Set; name = codes "nothing"; value = [] } ∷ []) ≡ Err (refusal.Edit 1 why.NoInfo)
unfolding plan_of outline_of ebml_header segment_of elements elements_within element_in id_at size_at grove grove_within table entry_of is_utf8 chars encode least_size_width count_leading_zeros property_of number whole is_id uint_width
no-info = refl

-- There is no second track.
pub no-such-track : plan_of (segment 0xAF (tracks ++ cluster)) (record { place = Nth 2; change = Set; name = codes "name"; value = codes "Hi" } ∷ []) ≡ Err (refusal.Edit 1 why.NoSuchTrack)
unfolding plan_of outline_of ebml_header segment_of elements elements_within element_in id_at size_at grove grove_within table entry_of is_utf8 chars encode least_size_width count_leading_zeros property_of number whole is_id uint_width
no-such-track = refl

-- A track hasn't this property of Info.
pub no-such-property : plan_of (segment 0xAF (tracks ++ cluster)) (record { place = Number 1; change = Set; name = codes "title"; value = codes "Hi" } ∷ []) ≡ Err (refusal.Edit 1 why.NoSuchProperty)
unfolding plan_of outline_of ebml_header segment_of elements elements_within element_in id_at size_at grove grove_within table entry_of is_utf8 chars encode least_size_width count_leading_zeros property_of number whole is_id uint_width
no-such-property = refl

-- A DefaultDuration of 0 is refused.
pub bad-value : plan_of (segment 0xAF (tracks ++ cluster)) (record { place = Nth 1; change = Set; name = codes "default-duration"; value = codes "0" } ∷ []) ≡ Err (refusal.Edit 1 why.BadPropertyValue)
unfolding plan_of outline_of ebml_header segment_of elements elements_within element_in id_at size_at grove grove_within table entry_of is_utf8 chars encode least_size_width count_leading_zeros property_of number whole is_id uint_width
bad-value = refl

-- The previous edit sets the name.
pub already-there : plan_of (segment 0xB9 (tracks ++ void 10 ++ cluster)) (name_hi ∷ record { place = Nth 1; change = Add; name = codes "name"; value = codes "x" } ∷ []) ≡ Err (refusal.Edit 2 why.AlreadyThere)
unfolding plan_of outline_of ebml_header segment_of elements elements_within element_in id_at size_at grove grove_within table entry_of is_utf8 chars encode least_size_width count_leading_zeros property_of number whole is_id uint_width
already-there = refl

-- A CodecID can't be deleted.
pub mandatory : plan_of (segment 0xAF (tracks ++ cluster)) (record { place = Nth 1; change = Delete; name = codes "codec-id"; value = [] } ∷ []) ≡ Err (refusal.Edit 1 why.Mandatory)
unfolding plan_of outline_of ebml_header segment_of elements elements_within element_in id_at size_at grove grove_within table entry_of is_utf8 chars encode least_size_width count_leading_zeros property_of number whole is_id uint_width
mandatory = refl

-- The file has no Tracks.
pub no-tracks : plan_of (segment 0x96 cluster) (name_hi ∷ []) ≡ Err (refusal.Damaged (record { kind = kind.NoTracks; id = 0; offset = 16 }))
unfolding plan_of outline_of ebml_header segment_of elements elements_within element_in id_at size_at grove grove_within table entry_of is_utf8 chars encode least_size_width count_leading_zeros property_of number whole is_id uint_width
no-tracks = refl

-- ---- an output of 393 bytes

-- its EBML header, and the header of its Segment
abbrev output_header : List ℕ
output_header =
    0x1A ∷ 0x45 ∷ 0xDF ∷ 0xA3 ∷ 0xA3 ∷ 0x42 ∷ 0x86 ∷ 0x81 ∷ 0x01 ∷ 0x42 ∷ 0xF7 ∷ 0x81 ∷ 0x01 ∷ 0x42 ∷ 0xF2 ∷ 0x81 ∷ 0x04 ∷ 0x42 ∷ 0xF3 ∷ 0x81 ∷ 0x08 ∷ 0x42 ∷ 0x82 ∷ 0x88 ∷ 0x6D ∷ 0x61 ∷ 0x74 ∷ 0x72 ∷ 0x6F ∷ 0x73 ∷ 0x6B ∷ 0x61 ∷ 0x42 ∷ 0x87 ∷ 0x81 ∷ 0x04 ∷ 0x42 ∷ 0x85 ∷ 0x81 ∷ 0x02 ∷ 0x18 ∷ 0x53 ∷ 0x80 ∷ 0x67 ∷ 0x01 ∷ 0x00 ∷ 0x00 ∷ 0x00 ∷ 0x00 ∷ 0x00 ∷ 0x01 ∷ 0x55 ∷ []

-- its SeekHead, with the Seeks of Info and Tracks
abbrev output_seeks : List ℕ
output_seeks =
    0x11 ∷ 0x4D ∷ 0x9B ∷ 0x74 ∷ 0xAA ∷ 0x4D ∷ 0xBB ∷ 0x92 ∷ 0x53 ∷ 0xAB ∷ 0x84 ∷ 0x15 ∷ 0x49 ∷ 0xA9 ∷ 0x66 ∷ 0x53 ∷ 0xAC ∷ 0x88 ∷ 0x00 ∷ 0x00 ∷ 0x00 ∷ 0x00 ∷ 0x00 ∷ 0x00 ∷ 0x01 ∷ 0x00 ∷ 0x4D ∷ 0xBB ∷ 0x92 ∷ 0x53 ∷ 0xAB ∷ 0x84 ∷ 0x16 ∷ 0x54 ∷ 0xAE ∷ 0x6B ∷ 0x53 ∷ 0xAC ∷ 0x88 ∷ 0x00 ∷ 0x00 ∷ 0x00 ∷ 0x00 ∷ 0x00 ∷ 0x00 ∷ 0x01 ∷ 0x26 ∷ []

-- the header of the Void after it, of 209 bytes
abbrev output_void : List ℕ
output_void =
    0xEC ∷ 0x01 ∷ 0x00 ∷ 0x00 ∷ 0x00 ∷ 0x00 ∷ 0x00 ∷ 0x00 ∷ 0xC8 ∷ []

-- its Info
abbrev output_info : List ℕ
output_info =
    0x15 ∷ 0x49 ∷ 0xA9 ∷ 0x66 ∷ 0xA1 ∷ 0x2A ∷ 0xD7 ∷ 0xB1 ∷ 0x83 ∷ 0x0F ∷ 0x42 ∷ 0x40 ∷ 0x4D ∷ 0x80 ∷ 0x8A ∷ 0x6D ∷ 0x6B ∷ 0x76 ∷ 0x73 ∷ 0x75 ∷ 0x69 ∷ 0x74 ∷ 0x65 ∷ 0x20 ∷ 0x31 ∷ 0x57 ∷ 0x41 ∷ 0x8A ∷ 0x6D ∷ 0x6B ∷ 0x76 ∷ 0x73 ∷ 0x75 ∷ 0x69 ∷ 0x74 ∷ 0x65 ∷ 0x20 ∷ 0x31 ∷ []

abbrev output : List ℕ
output = output_header ++ output_seeks ++ output_void ++ replicate 200 0 ++ output_info ++ tracks ++ cluster

-- Its Info becomes shorter, and a Void follows.
pub output-info : plan_of (output) (record { place = Info; change = Set; name = codes "writing-application"; value = codes "x" } ∷ []) ≡ Ok (write 308 (0x15 ∷ 0x49 ∷ 0xA9 ∷ 0x66 ∷ 0x98 ∷ 0x2A ∷ 0xD7 ∷ 0xB1 ∷ 0x83 ∷ 0x0F ∷ 0x42 ∷ 0x40 ∷ 0x4D ∷ 0x80 ∷ 0x8A ∷ 0x6D ∷ 0x6B ∷ 0x76 ∷ 0x73 ∷ 0x75 ∷ 0x69 ∷ 0x74 ∷ 0x65 ∷ 0x20 ∷ 0x31 ∷ 0x57 ∷ 0x41 ∷ 0x81 ∷ 0x78 ∷ 0xEC ∷ 0x87 ∷ []) ∷ [])
unfolding plan_of outline_of ebml_header segment_of elements elements_within element_in id_at size_at grove grove_within table entry_of is_utf8 chars encode least_size_width count_leading_zeros property_of number whole is_id uint_width
output-info = refl

abbrev output_writes : List Write
output_writes =
    write 44 (0x01 ∷ 0x00 ∷ 0x00 ∷ 0x00 ∷ 0x00 ∷ 0x00 ∷ 0x01 ∷ 0x73 ∷ [])
    ∷ write 52 (0x11 ∷ 0x4D ∷ 0x9B ∷ 0x74 ∷ 0xAA ∷ 0x4D ∷ 0xBB ∷ 0x92 ∷ 0x53 ∷ 0xAB ∷ 0x84 ∷ 0x15 ∷ 0x49 ∷ 0xA9 ∷ 0x66 ∷ 0x53 ∷ 0xAC ∷ 0x88 ∷ 0x00 ∷ 0x00 ∷ 0x00 ∷ 0x00 ∷ 0x00 ∷ 0x00 ∷ 0x01 ∷ 0x00 ∷ 0x4D ∷ 0xBB ∷ 0x92 ∷ 0x53 ∷ 0xAB ∷ 0x84 ∷ 0x16 ∷ 0x54 ∷ 0xAE ∷ 0x6B ∷ 0x53 ∷ 0xAC ∷ 0x88 ∷ 0x00 ∷ 0x00 ∷ 0x00 ∷ 0x00 ∷ 0x00 ∷ 0x00 ∷ 0x01 ∷ 0x55 ∷ [] ++ output_void)
    ∷ write 346 (0xEC ∷ 0x97 ∷ []) ∷ write 393 tracks_hi ∷ []

-- Its Tracks becomes longer, and moves.
pub output-tracks : plan_of (output) (record { place = Typed 2 1; change = Set; name = codes "name"; value = codes "Hi" } ∷ []) ≡ Ok output_writes
unfolding plan_of outline_of ebml_header segment_of elements elements_within element_in id_at size_at grove grove_within table entry_of is_utf8 chars encode least_size_width count_leading_zeros property_of number whole is_id uint_width
output-tracks = refl

pub output-length : extent (length output) output_writes ≡ 423
output-length = refl
