-- The records of a file: RFC 9559, sections 5.1.2 (Info), 5.1.4 (Tracks), 5.1.6 (Attachments), 5.1.7 (Chapters) and 5.1.8 (Tags). The refusals
-- and their order are this project's.
use Rattle.std.specs.Prelude.{◌≡◌, ⊤, ℕ, ◌==◌, true, false, List, map, Option, Some, None, IfSome, Result, Ok, Err}
use Rattle.std.specs.List.{All}
use Rattle.mkv_schema.specs.declared.ids.TheConstants.{CHAPTERS, CLUSTER, INFO, TAGS, TRACKS}
use Rattle.mkv_io.specs.declared.damage.Damage.{Damage}
use Rattle.mkv_io.specs.declared.damage.Kind.TheVariants.{NoTracks}
use Rattle.mkv_io.specs.declared.outside.FileId.{FileId}
use Rattle.mkv_schema.specs.declared.element.Header.{Header}
use Rattle.mkv_schema.specs.Element.{damage}
use Rattle.mkv_schema.specs.Schema.{is_master}
use Rattle.mkv_schema.specs.declared.limits.TheConstants.{MAX_MASTER_LEN}
use Rattle.mkv_schema.specs.Outline.{is_described, segment_run}
use Rattle.mkv_io.specs.Results.{and_then, unless}
use Rattle.mkv_schema.specs.Value.{body_of, first_of}
use Rattle.element_reader.specs.Load.{limit_of}
use Rattle.element_reader.specs.declared.outline_end.OutlineEnd.{OutlineEnd}
use Rattle.element_reader.specs.declared.outline_end.OutlineEnd.TheVariants as outline_end
use Rattle.tree_format.specs.declared.limits.TheConstants.{MAX_NODES}
use Rattle.tree_format.specs.Node.{HasRoom, Node}
use Rattle.tree_format.specs.Reading.{tree_of}
use Rattle.tree_format.specs.Standing.{IsSoundOf}
use Rattle.ebml_tree.specs.Building.{IsRead}
use Rattle.file_format.specs.Tracks.{IsTrack}
use Rattle.track_records.specs.Sound.{IsEntry}
use Rattle.track_records.specs.Track.{track_of, tracks_of}
use Rattle.track_records.specs.declared.track.Track.{Track}
use Rattle.file_format.specs.Info.{info_refusal, scale_of}
use Rattle.file_format.specs.declared.scale.TheConstants.{DEFAULT_SCALE}
use Rattle.meta_records.specs.Walk.{IsAttachedIn}
use Rattle.meta_records.specs.Attached.{AttachedFile, first_attached, in_file}
use Rattle.meta_records.specs.declared.records.Records.{Records}
use Rattle.mkv_io.specs.Sources.{IfTold}
use Rattle.mkv_io.specs.declared.reads.Reads.{Ghosts}
use Rattle.element_reader.specs.Outline.{FileOutline, outline_in}

-- Elements with the ID `id` are masters of level 1 other than Clusters, limited to 16 MiB. A condition of `first_tree`, when the records of a file
-- are read.
pub record IsHeld (id : ℕ) : Type 0 where
  pub master : is_master id ≡ true
  pub described : is_described id ≡ true
  pub limit : limit_of id ≡ Some MAX_MASTER_LEN
  pub other : (id == CLUSTER) ≡ false

-- the Element with the given header in the content `bytes`, as a tree, if there is one, or its damage. For `first_tree`, when the records of a file
-- are read.
abbrev pub tree_at : List ℕ → Option Header → Result (Option Node) Damage
tree_at bytes None = Ok None
tree_at bytes (Some h) = and_then (tree_of h.id h.offset (body_of bytes h) h.body MAX_NODES) (λ tree. Ok (Some tree))

-- the first Element with the ID `id` in the Segment `segment` of the content `bytes`, as a tree, if there is one, or its damage. For `file_records`,
-- when the records of a file are read.
abbrev pub first_tree : ℕ → List ℕ → Header → Result (Option Node) Damage
first_tree id bytes segment = tree_at bytes (first_of id (segment_run bytes segment).list)

-- the given Info, if any, if its values are valid, or its damage. For `file_records`, when the records of a file are read.
abbrev pub good_info : Option Node → Result (Option Node) Damage
good_info None = Ok None
good_info (Some info) = unless (info_refusal info) (Some info)

-- the tracks of the given Tracks, or their damage; without a Tracks the damage is at the offset of the Segment `segment`. For `file_records`, when
-- the records of a file are read.
abbrev pub good_tracks : Header → Option Node → Result (List Track) Damage
good_tracks segment None = Err (damage NoTracks 0 segment.offset)
good_tracks segment (Some tracks) = tracks_of tracks

-- the records of a file: the first Info, Chapters and Tags, the tracks of the first Tracks, and the attached files of the first Attachments. The
-- definitions of `merge`, `info` and `extract` use them.
pub record FileRecords : Type 0 where
  pub info : Option Node
  pub tracks : List Track
  pub attachments : List AttachedFile
  pub chapters : Option Node
  pub tags : Option Node

-- the records in the Segment `segment` of the content `bytes`, or the first damage. Info, Tracks, Attachments, Chapters and Tags are checked in this
-- order. The contract of `read_records` states it.
abbrev pub file_records : List ℕ → Header → Result FileRecords Damage
file_records bytes segment =
    and_then (and_then (first_tree INFO bytes segment) good_info) (λ info.
    and_then (and_then (first_tree TRACKS bytes segment) (good_tracks segment)) (λ tracks.
    and_then (first_attached bytes segment) (λ attachments.
    and_then (first_tree CHAPTERS bytes segment) (λ chapters.
    and_then (first_tree TAGS bytes segment) (λ tags.
    Ok (record { info = info; tracks = tracks; attachments = attachments; chapters = chapters; tags = tags }))))))

-- the nanoseconds per tick of a file, given its first Info; without one the default, 1,000,000. For times of blocks and cue points. Used by
-- `scale_of` and others.
abbrev pub scale_of_info : Option Node → ℕ
scale_of_info None = DEFAULT_SCALE
scale_of_info (Some info) = scale_of info

-- The result of reading is the expected one, `found`: a value or damage. A read may fail, and memory may run out. The contracts of `first_tree` and
-- `good_tracks` state it.
abbrev pub ReadsAs : {A : Type 0} → Result A Damage → Result A OutlineEnd → Type 0
ReadsAs found (Ok x) = found ≡ Ok x
ReadsAs found (Err (outline_end.Refused d)) = found ≡ Err d
ReadsAs found (Err outline_end.ReadFault) = ⊤
ReadsAs found (Err outline_end.Memory) = ⊤

-- the records `r` that the code has read, as the definitions have them. For the contracts of `read_records` and of `info`.
abbrev pub described_by : Records → FileRecords
described_by r = record {
  info = r.info;
  tracks = r.tracks;
  attachments = map in_file r.attachments;
  chapters = r.chapters;
  tags = r.tags;
}

-- The result of reading records is the expected one, `found`: records or damage. A read may fail, and memory may run out. The contract of
-- `read_records` states it.
abbrev pub ReadsRecords : Result FileRecords Damage → Result Records OutlineEnd → Type 0
ReadsRecords found (Ok r) = found ≡ Ok (described_by r)
ReadsRecords found (Err (outline_end.Refused d)) = found ≡ Err d
ReadsRecords found (Err outline_end.ReadFault) = ⊤
ReadsRecords found (Err outline_end.Memory) = ⊤

-- ---- facts about records that were read

-- `info` is a valid Info that was read, without damage. A part of `AreGood`, and a condition of `scale_of`.
pub record IsGoodInfo (info : Node) : Type 0 where
  pub sound : IsSoundOf INFO info
  pub good : info_refusal info ≡ None

-- The tracks `tracks` agree with their TrackEntries, which are valid and fit in a Tracks Element. A part of `AreGood`, and a condition of the
-- extraction of tracks.
pub record AreRead (tracks : List Track) : Type 0 where
  pub said : All (λ (t : Track). t ≡ track_of t.entry) tracks
  pub sound : All (λ (t : Track). IsEntry t.entry) tracks
  pub each : All (λ (t : Track). IsTrack t.entry) tracks
  pub room : All (λ (t : Track). HasRoom t.entry) tracks

-- The records `r` of the live file `file` with `total` bytes are valid: they can be written and read again. The contract of `read_records` states it.
pub record AreGood (file : FileId) (total : ℕ) (r : Records) : Type 0 where
  pub info : IfSome r.info IsGoodInfo
  pub tracks : AreRead r.tracks
  pub attachments : All (IsAttachedIn file total) r.attachments
  pub chapters : IfSome r.chapters (IsRead CHAPTERS)
  pub tags : IfSome r.tags (IsRead TAGS)

-- `P` holds for the content of `file`, if it is visible to the proof and has the outline `outline`. Other inputs may hold any number of bytes. Used
-- by the contracts that read records. `r` gives the proof's view of the files.
abbrev pub IfOutlined : {S : Type 0} → Ghosts S → S → FileId → FileOutline → (List ℕ → Type 0) → Type 0
IfOutlined r src file outline P = IfTold r src file (λ bytes. (held : ℕ) → outline_in held bytes ≡ Ok outline → P bytes)

-- `P` holds for the value that `found` gives for the content and the Segment of `file`. This applies only if the content is visible to the proof and
-- has the outline `outline`. `r` shows the files to the proof. Used by the contracts of `first_tree` and `read_records`.
abbrev pub IfOutlinedAs : {S X : Type 0} → Ghosts S → S → FileId → FileOutline → (List ℕ → Header → X) → (X → Type 0) → Type 0
IfOutlinedAs r src file outline found P = IfOutlined r src file outline (λ bytes. P (found bytes outline.segment))
