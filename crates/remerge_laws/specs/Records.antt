-- The records that a reader with limits finds in an output: RFC 9559, sections 5.1.2 (Info Element), 5.1.4 (Tracks Element), 5.1.7 (Chapters
-- Element) and 5.1.8 (Tags Element). The limits are this project's.
use Rattle.std.specs.Prelude.{◌≡◌, ℕ, List, map, Option, Some, Ok, IfSome, true, false, length}
use Rattle.std.specs.List.{AllZip}
use Rattle.mkv_schema.specs.declared.ids.TheConstants.{ATTACHMENTS, CHAPTERS, INFO, TAGS, TRACKS}
use Rattle.mkv_schema.specs.declared.element.Header.{Header}
use Rattle.mkv_schema.specs.Outline.{outline_of}
use Rattle.mkv_schema.specs.Value.{first_of}
use Rattle.tree_format.specs.Node.{Node}
use Rattle.tree_format.specs.Standing.{placed}
use Rattle.file_format.specs.Entry.{entries_of}
use Rattle.file_format.specs.FileBlocks.{file_events}
use Rattle.file_format.specs.Info.{scale_of}
use Rattle.track_records.specs.Track.{track_of}
use Rattle.track_records.specs.declared.track.Track.{Track}
use Rattle.output_model.specs.Document.{Document, layout}
use Rattle.output_model.specs.Sound.{IsSoundDocument}
use Rattle.output_laws.specs.Places.{block_events}
use Rattle.output_laws.specs.Reading.{blocks_of_document, header_of_segment, level_1_of, outline_of_document}
use Rattle.meta_records.specs.Records.{FileRecords, file_records, first_tree, scale_of_info}
use Rattle.remerge_laws.specs.Placed.{MayStandAs}
use Rattle.remerge_laws.specs.Outline.{RecordsKeepLimits}
use Rattle.remerge_laws.specs.Tracks.{IsTrackOf}
use Rattle.remerge_laws.specs.Files.{AttachmentsKeepLimits, IsFileOf}

-- ---- trees

-- A reader with limits finds the record `own` as the first Element with the ID `id` in the Segment with the header `segment`, as it was written.
-- `bytes` is the content of the file. If there is no record, it finds no Element. `FindsTrees` uses it.
abbrev pub FirstTreeIs : ℕ → List ℕ → Header → Option Node → Type 0
FirstTreeIs id bytes segment own = (found : Option Node) × (first_tree id bytes segment ≡ Ok found) × MayStandAs own found

-- A reader with limits finds the Info, Tracks, Chapters and Tags of the document `d` in its output, as they were written. It is the result of
-- `TreesAreRead`.
pub record FindsTrees (d : Document) : Type 0 where
  pub info : FirstTreeIs INFO (layout d) (header_of_segment d) (Some d.front.info)
  pub tracks : FirstTreeIs TRACKS (layout d) (header_of_segment d) (Some d.front.tracks)
  pub chapters : FirstTreeIs CHAPTERS (layout d) (header_of_segment d) d.chapters
  pub tags : FirstTreeIs TAGS (layout d) (header_of_segment d) d.tags

-- A reader with limits finds the Info, Tracks, Chapters and Tags of a valid document `d` in its output if they keep the limits. The law
-- `trees_are_read` states it.
abbrev pub TreesAreRead : Type 0
TreesAreRead = (d : Document) → IsSoundDocument d → RecordsKeepLimits d → FindsTrees d

-- ---- all records of an output

-- The tracks `read` belong to the entries of the Tracks Element `tracks` that was written, one to each, as they are read. Used for the tracks that a
-- merge reads from an output.
pub record AreTracksOf (tracks : Node) (read : List Track) : Type 0 where
  pub say : AllZip IsTrackOf (entries_of tracks) read
  pub place : ℕ
  pub stand : read ≡ map track_of (entries_of (placed place tracks))

-- The records `r` that were read from an output are the records of its document `d`: its Info and scale, tracks, attached files, Chapters and Tags. A
-- part of `IsReadWithLimits`.
pub record RecordsOfOutput (d : Document) (r : FileRecords) : Type 0 where
  pub info : MayStandAs (Some d.front.info) r.info
  pub scale : scale_of_info r.info ≡ scale_of d.front.info
  pub tracks : AreTracksOf d.front.tracks r.tracks
  pub attachments : AllZip (IsFileOf (layout d)) d.front.attachments r.attachments
  pub chapters : MayStandAs d.chapters r.chapters
  pub tags : MayStandAs d.tags r.tags

-- ---- an output as a whole

-- The output of the document `d` keeps a reader's limits. Its records and its Attachments do, and its blocks are the same with and without limits. A
-- condition of `OutputsAreReadWithLimits`.
pub record OutputKeepsLimits (d : Document) : Type 0 where
  pub records : RecordsKeepLimits d
  pub attachments : IfSome (first_of ATTACHMENTS (level_1_of d)) (AttachmentsKeepLimits (layout d))
  pub blocks : file_events true (layout d) (header_of_segment d) ≡ file_events false (layout d) (header_of_segment d)

-- A reader with limits finds the document `d` in its output: its outline, its records, and its blocks without damage. It is the result of
-- `OutputsAreReadWithLimits`.
pub record IsReadWithLimits (d : Document) : Type 0 where
  pub outline : outline_of 0 (layout d) ≡ Ok (outline_of_document d (length (layout d)))
  pub records : (r : FileRecords) × (file_records (layout d) (header_of_segment d) ≡ Ok r) × RecordsOfOutput d r
  pub events : file_events true (layout d) (header_of_segment d) ≡ block_events (blocks_of_document d)

-- A reader with limits reads an output that keeps the limits as the valid document `d` that was written. The law `outputs_are_read_with_limits`
-- states it.
abbrev pub OutputsAreReadWithLimits : Type 0
OutputsAreReadWithLimits = (d : Document) → IsSoundDocument d → OutputKeepsLimits d → IsReadWithLimits d
