-- A content that is read as a document: RFC 8794, section 8 (EBML Document), and RFC 9559, sections 4.5 (Data Layout) and 5.1 (Segment Element).
use Rattle.std.specs.Prelude.{◌≡◌, ℕ, zero, suc, ◌+◌, false, List, [], ◌∷◌, ◌++◌, length, map, flat_map, take, drop, All, Option, None, Some, Ok}
use Rattle.std.specs.List.{AllZip}
use Rattle.mkv_schema.specs.declared.ids.TheConstants.{VOID, INFO, TRACKS, ATTACHMENTS, CUES, CHAPTERS, TAGS}
use Rattle.mkv_schema.specs.declared.element.Header.{Header}
use Rattle.mkv_schema.specs.Element.{in_master, in_segment, element_at, stated_end}
use Rattle.mkv_schema.specs.Elements.{children_in}
use Rattle.mkv_schema.specs.Value.{body_of, first_of}
use Rattle.mkv_schema.specs.Outline.{segment_bound, Outlined}
use Rattle.mkv_schema.specs.WithoutLimits.{outline_without_limits}
use Rattle.tree_format.specs.Node.{Node, leaf, master, nodes_of, list_of, id_of, children}
use Rattle.tree_format.specs.NormalForm.{octets}
use Rattle.tree_format.specs.Order.{tree_without_limits}
use Rattle.tree_format.specs.Standing.{placed_all, placed_in}
use Rattle.file_format.specs.Info.{scale_of, scale_without_limits}
use Rattle.block_format.specs.Block.{Block}
use Rattle.file_format.specs.FileBlocks.{file_events}
use Rattle.output_model.specs.Element.{octets_of, joined, header_in_place, headers_in_place, void_element}
use Rattle.output_model.specs.declared.TheConstants.{DURATION_LEN}
use Rattle.output_model.specs.declared.places.CuePoint.{CuePoint}
use Rattle.output_model.specs.declared.places.Seek.{Seek}
use Rattle.output_model.specs.Cues.{point_element}
use Rattle.output_model.specs.SeekHead.{area_elements}
use Rattle.output_model.specs.Document.{Document, duration_place, ebml_element, info_told, front_elements, back_elements, seeks_of}
use Rattle.output_laws.specs.Places.{OutputSegment, segment_elements, segment_element, segment_blocks, block_events}
use Rattle.output_laws.specs.Points.{PointsAtBlock}

-- ---- places of a document's Elements

-- the Segment of the document `d`: the area for its SeekHead and other Elements before the Clusters, the Clusters, and the Elements after them. The
-- law that a document is read back reads this Segment. Used by `header_of_segment`, `level_1_of` and others.
abbrev pub segment_of_document : Document → OutputSegment
segment_of_document d = record {
  front = area_elements (seeks_of d) ++ front_elements d.front;
  clusters = d.clusters;
  behind = back_elements d;
}

-- the header of the EBML header of the document `d`, at the offset 0. A part of the outline that a reader finds. Used by `outline_of_document`.
abbrev pub header_of_ebml : Document → Header
header_of_ebml d = header_in_place 0 (ebml_element d.front.webm)

-- the offset of the Segment of the document `d`, after its EBML header. Used for the places of all that is read back. Used by `header_of_segment` and
-- `blocks_of_document`.
abbrev pub segment_place : Document → ℕ
segment_place d = length (octets_of (ebml_element d.front.webm))

-- the header of the Segment of the document `d`, at its offset. The laws that an output is read back name its Segment so. Used by
-- `BlocksAreReadInOrder`, `LanesAreReadAgain` and others.
abbrev pub header_of_segment : Document → Header
header_of_segment d = header_in_place (segment_place d) (segment_element (segment_of_document d))

-- the headers of the Elements of level 1 of the document `d`, at their offsets in its content. A reader finds them as a part of the outline, and
-- looks up the records of the document among them. Used by `outline_of_document`, `IsReadAs` and others.
abbrev pub level_1_of : Document → List Header
level_1_of d = headers_in_place (header_of_segment d).body (segment_elements (segment_of_document d))

-- the outline of the document `d` in a file of `total` bytes, as a reader finds it, without damage. It has the headers of the EBML header, of the
-- Segment and of the Elements of level 1. `IsReadAs` states that it is read.
abbrev pub outline_of_document : Document → ℕ → Outlined
outline_of_document d total = record { ebml = header_of_ebml d; segment = header_of_segment d; list = level_1_of d; damage = None; end = total }

-- the blocks that are read from the document `d`, at the nanoseconds per tick of its Info. `IsReadAs` states that they are read.
abbrev pub blocks_of_document : Document → List Block
blocks_of_document d = segment_blocks (scale_of d.front.info) (segment_place d) (segment_of_document d)

-- ---- records

-- The Element with the header `h` in the content `bytes` is the record `n`, such as Tracks or Tags. It is read without a reader's limits as the tree
-- of `n` in normal form, with an offset for each Element. `RecordsAre` states it of each record of an output.
pub record IsRecordAt (bytes : List ℕ) (h : Header) (n : Node) : Type 0 where
  pub id : h.id ≡ id_of n
  pub read : tree_without_limits h.id h.offset (body_of bytes h) h.body ≡ Ok (placed_in h.offset h.body n)

-- The first Element with the ID `id` among the headers `list` is the record in the last argument. Without a record no Element has the ID. `bytes` is
-- the file. Used by `RecordsAre`, in the laws on what `merge` writes.
abbrev pub FirstIs : List ℕ → List Header → ℕ → Option Node → Type 0
FirstIs bytes list id None = first_of id list ≡ None
FirstIs bytes list id (Some n) = (h : Header) × (first_of id list ≡ Some h) × IsRecordAt bytes h n

-- the trees `ns` as they are read back after they are written at the offset `p`, each Element with its offset. For an Info with a Void
-- (`around_void`).
abbrev pub placed_list : ℕ → List Node → List Node
placed_list p ns = list_of (placed_all p (nodes_of ns))

-- the children `ns` of an Info as they are read back after they are written at the offset `p`. A Void follows the first `k`, in the place of a
-- Duration. Used by `IsInfoWithVoid`, in the laws on what `merge` writes.
abbrev pub around_void : ℕ → ℕ → List Node → List Node
around_void k p ns =
    let q = p + length (flat_map octets (take k ns)) in
    placed_list p (take k ns) ++ leaf VOID q (void_element DURATION_LEN).body ∷ placed_list (q + DURATION_LEN) (drop k ns)

-- The Element with the header `h` in the content `bytes` is the Info `info` of an output that ends at the tick 0. It is read as `IsRecordAt` states,
-- but has a Void in the place of a Duration. A case of `InfoIs`.
pub record IsInfoWithVoid (bytes : List ℕ) (h : Header) (info : Node) : Type 0 where
  pub id : h.id ≡ id_of info
  pub read : tree_without_limits h.id h.offset (body_of bytes h) h.body
      ≡ Ok (master h.id h.offset (nodes_of (around_void (duration_place (children info)) h.body (children info))))

-- The first Info among the headers `list` of the file `bytes` is the record `info`. It has the Duration for the end in the last argument, in ticks.
-- At the end 0 a Void is in its place; without an end there is no Duration. Used by `RecordsAre`, in the laws on what `merge` writes.
abbrev pub InfoIs : List ℕ → List Header → Node → Option ℕ → Type 0
InfoIs bytes list info None = FirstIs bytes list INFO (Some info)
InfoIs bytes list info (Some zero) = (h : Header) × (first_of INFO list ≡ Some h) × IsInfoWithVoid bytes h info
InfoIs bytes list info (Some (suc n)) = FirstIs bytes list INFO (Some (info_told info (Some (suc n))))

-- The children of the Element `h` in the content `bytes` are the records `ns`, in order and without damage. Used by `AttachmentsAre`, in the laws on
-- what `merge` writes.
pub record ChildrenAre (bytes : List ℕ) (h : Header) (ns : List Node) : Type 0 where
  pub unbroken : (children_in in_master bytes h.body (stated_end h)).damage ≡ None
  pub are : AllZip (IsRecordAt bytes) (children_in in_master bytes h.body (stated_end h)).list ns

-- The children of the first Attachments among the headers `list` are the AttachedFiles in the last argument; without AttachedFiles there is no
-- Attachments. `bytes` is the file. Used by `RecordsAre`, in the laws on what `merge` writes.
abbrev pub AttachmentsAre : List ℕ → List Header → List Node → Type 0
AttachmentsAre bytes list [] = first_of ATTACHMENTS list ≡ None
AttachmentsAre bytes list (n ∷ ns) = (h : Header) × (first_of ATTACHMENTS list ≡ Some h) × ChildrenAre bytes h (n ∷ ns)

-- The first Cues among the headers `list` has the cue points in the last argument as its content; without cue points there is no Cues. `bytes` is the
-- file. Used by `RecordsAre`, in the laws on what `merge` writes.
abbrev pub CuesAre : List ℕ → List Header → List CuePoint → Type 0
CuesAre bytes list [] = first_of CUES list ≡ None
CuesAre bytes list (p ∷ ps) = (h : Header) × (first_of CUES list ≡ Some h) × (body_of bytes h ≡ joined (map point_element (p ∷ ps)))

-- The Elements of level 1 in the content `bytes`, with the headers `list`, have the records and cue points of the document `d`. A part of `IsReadAs`,
-- in the laws on what `merge` writes.
pub record RecordsAre (bytes : List ℕ) (list : List Header) (d : Document) : Type 0 where
  pub info : InfoIs bytes list d.front.info d.front.lasting
  pub tracks : FirstIs bytes list TRACKS (Some d.front.tracks)
  pub attachments : AttachmentsAre bytes list d.front.attachments
  pub cues : CuesAre bytes list d.cues
  pub chapters : FirstIs bytes list CHAPTERS d.chapters
  pub tags : FirstIs bytes list TAGS d.tags

-- ---- Seeks

-- The position of the Seek `s` in the Segment with the header `segment` of the content `bytes` is an Element with the ID of `s`. `IsReadAs` states it
-- of each Seek of an output.
abbrev pub SeeksElement : List ℕ → Header → Seek → Type 0
SeeksElement bytes segment s =
    (h : Header) × (element_at in_segment bytes (segment.body + s.position) (segment_bound bytes segment) ≡ Ok h) × (h.id ≡ s.id)

-- ---- the whole

-- The content `bytes` is read as the document `d`, without a reader's limits. It has the document's outline, which no damage ends. Its scale, records
-- and cue points are the document's, and its blocks are the blocks of the Clusters, without damage. Each Seek has the position of its Element, and
-- each cue point points at its block. The law `layouts_are_read` states it of each output of `merge`.
pub record IsReadAs (d : Document) (bytes : List ℕ) : Type 0 where
  pub outline : outline_without_limits bytes ≡ Ok (outline_of_document d (length bytes))
  pub scale : scale_without_limits bytes (header_of_segment d) ≡ scale_of d.front.info
  pub records : RecordsAre bytes (level_1_of d) d
  pub events : file_events false bytes (header_of_segment d) ≡ block_events (blocks_of_document d)
  pub seeks : All (SeeksElement bytes (header_of_segment d)) (seeks_of d)
  pub cues : All (PointsAtBlock (scale_of d.front.info) bytes (header_of_segment d)) d.cues
