-- Outputs that can be written and read back: RFC 9559, sections 5.1 (Segment Element) and 10 (Cluster Blocks).
use Rattle.std.specs.Prelude.{◌≡◌, ◌≤◌, ◌<◌, ◌^◌, ⊤, ℕ, ◌+◌, ◌==◌, true, false, Bool, List, [], ◌∷◌, length, map, All, None, IfSome, Ok}
use Rattle.ebml_numbers.specs.Number.{magnitude}
use Rattle.mkv_schema.specs.declared.ids.TheConstants.{BLOCK_GROUP, INFO, TRACKS, ATTACHED_FILE, FILE_DATA, CHAPTERS, TAGS}
use Rattle.mkv_io.specs.declared.outside.TheConstants.{LONGEST_FILE}
use Rattle.mkv_schema.specs.Value.{is_known_value}
use Rattle.lacing.specs.declared.kind.Lace.TheVariants as lace
use Rattle.lacing.specs.Writing.{CanLace}
use Rattle.tree_format.specs.Node.{Node, id_of, children, IsMaster}
use Rattle.tree_format.specs.Changes.{part}
use Rattle.tree_format.specs.Standing.{IsSound as IsSoundTree, KeepsLimits}
use Rattle.file_format.specs.Entry.{entries_of, number_of}
use Rattle.file_format.specs.FileTracks.{entries_in}
use Rattle.file_format.specs.Info.{scale_of}
use Rattle.block_format.specs.Elements.{is_kept}
use Rattle.output_model.specs.Element.{Element, IsElement, joined}
use Rattle.output_model.specs.declared.TheConstants.{MAX_LANES}
use Rattle.output_model.specs.OutputBlock.{OutputBlock}
use Rattle.output_model.specs.Cluster.{OutputCluster, is_near}
use Rattle.output_model.specs.Document.{Document, cues_for, info_told, layout}

-- ---- a block

-- The Element `e` may be kept in a BlockGroup that is copied: it isn't a part of the block itself, and has a value of its kind. Used by `AreKept`.
pub record IsKeptElement (e : Element) : Type 0 where
  pub element : IsElement e
  pub left : is_kept e.id ≡ true
  pub value : is_known_value BLOCK_GROUP e.id e.body ≡ true

-- The bytes `octets` are Elements in sequence that may be kept in a BlockGroup that is copied. Used by `KeptCanBeWritten`.
abbrev pub AreKept : List ℕ → Type 0
AreKept octets = (es : List Element) × (octets ≡ joined es) × All IsKeptElement es

-- The block `b` of a SimpleBlock has only its frames and its flags. It is a condition of `IsSoundBlock`.
pub record IsSimple (b : OutputBlock) : Type 0 where
  pub duration : b.duration ≡ None
  pub references : b.references ≡ []
  pub kept : b.kept ≡ []

-- The block `b` of a BlockGroup is a keyframe if and only if it has no references; it isn't discardable. It is a condition of `IsSoundBlock`.
pub record IsGroup (b : OutputBlock) : Type 0 where
  pub key : b.key ≡ (length b.references == 0)
  pub discardable : b.discardable ≡ false
  pub duration : IfSome b.duration (λ ticks. ticks < 2 ^ 63)
  pub references : All (λ ticks. magnitude ticks < 2 ^ 63) b.references
  pub kept : AreKept b.kept

-- The block `b` can be written and read back; laws on outputs suppose or prove it. Its tick is below 2^63, its lacing can express its frames, and a
-- single frame has no lacing. Used by `IsSoundIn` and others.
pub record IsSoundBlock (b : OutputBlock) : Type 0 where
  pub tick : b.tick < 2 ^ 63
  pub frames : CanLace b.lace (map length b.frames)
  pub one : length b.frames ≡ 1 → b.lace ≡ lace.None
  pub simple : b.group ≡ false → IsSimple b
  pub group : b.group ≡ true → IsGroup b

-- The block `b` can be written in a Cluster with the Timestamp `timestamp` in ticks, on one of `lanes` output tracks, and read back. Used by
-- `BlocksAreRead`.
pub record IsSoundIn (lanes timestamp : ℕ) (b : OutputBlock) : Type 0 where
  pub sound : IsSoundBlock b
  pub near : is_near timestamp b.tick ≡ true
  pub lane_some : 1 ≤ b.lane
  pub lane_most : b.lane ≤ lanes

-- ---- a Cluster

-- The Timestamp `timestamp` of a Cluster is the tick of the first of its given blocks, so there is one. It is a condition of `IsSoundCluster`.
abbrev pub BeginsAt : ℕ → List OutputBlock → Type 0
BeginsAt timestamp [] = ⊥
BeginsAt timestamp (b ∷ bs) = timestamp ≡ b.tick

-- The Cluster `c` can be written in an output with `lanes` output tracks, and read back, as the laws on outputs suppose. Its Timestamp is the tick of
-- its first block. Used by `IsSoundDocument` and others.
pub record IsSoundCluster (lanes : ℕ) (c : OutputCluster) : Type 0 where
  pub begins : BeginsAt c.timestamp c.blocks
  pub blocks : All (IsSoundIn lanes c.timestamp) c.blocks

-- ---- a document

-- The tree `n` is a valid master with the ID `own`, such as an output's Tracks or Tags. It is neither too long nor nested too deep, so it can be
-- written and read back.
pub record IsRecord (own : ℕ) (n : Node) : Type 0 where
  pub id : id_of n ≡ own
  pub master : IsMaster n
  pub sound : IsSoundTree n
  pub limits : KeepsLimits n

-- The tree `n` is an AttachedFile of an output with one FileData, and can be written and read back. Used by `IsAttached`.
pub record IsAttachment (n : Node) : Type 0 where
  pub is : IsRecord ATTACHED_FILE n
  pub one : length (part FILE_DATA (children n)) ≡ 1

-- The numbers of the given list are `n`, `n + 1` and so on, in order. The TrackNumbers of an output count from 1. Used by `AreTracks` and others.
abbrev pub CountFrom : ℕ → List ℕ → Type 0
CountFrom n [] = ⊤
CountFrom n (number ∷ numbers) = (number ≡ n) × CountFrom (n + 1) numbers

-- The TrackEntries of an output's Tracks `tracks` are read without refusal, and their TrackNumbers count from 1: each is an output track. Used by
-- `IsSoundDocument`.
pub record AreTracks (tracks : Node) : Type 0 where
  pub is : IsRecord TRACKS tracks
  pub read : entries_in tracks ≡ Ok (entries_of tracks)
  pub numbers : CountFrom 1 (map number_of (entries_of tracks))
  pub few : length (entries_of tracks) ≤ MAX_LANES

-- the number of output tracks of the document `d`, for the limit on the track numbers of its blocks. Used by `IsSoundDocument`.
abbrev pub lanes_of : Document → ℕ
lanes_of d = length (entries_of d.front.tracks)

-- The document `d` can be written and read back; the laws on whole outputs suppose it, and a law proves it of merges. Its trees and Clusters can, and
-- its cue points belong to some of its blocks. It has at most 2^48 bytes. Used by `HoldsBlocks` of `generate_laws` and others.
pub record IsSoundDocument (d : Document) : Type 0 where
  pub info : IsRecord INFO (info_told d.front.info d.front.lasting)
  pub scale : 1 ≤ scale_of d.front.info
  pub tracks : AreTracks d.front.tracks
  pub attachments : All IsAttachment d.front.attachments
  pub clusters : All (IsSoundCluster (lanes_of d)) d.clusters
  pub cued : OutputBlock → Bool
  pub cues : d.cues ≡ cues_for cued d.front d.clusters
  pub chapters : IfSome d.chapters (IsRecord CHAPTERS)
  pub tags : IfSome d.tags (IsRecord TAGS)
  pub short : length (layout d) ≤ LONGEST_FILE
