-- The table of Elements: RFC 8794, sections 11.2 (EBML Header Elements) and 11.3 (Global Elements), and RFC 9559, section 5 (Matroska Schema).
use Rattle.std.specs.Prelude.{ℕ, List, [], ◌∷◌, Option, Some, None, codes}
use Prim.Native.String.{String}
use Rattle.mkv_schema.specs.declared.kind.ElementKind.{ElementKind}
use Rattle.mkv_schema.specs.declared.kind.ElementKind.TheVariants.{Master, Uint, Int, Float, Ascii, Utf8, Binary}
use Rattle.mkv_schema.specs.declared.parents.Parents.{Parents}
use Rattle.mkv_schema.specs.declared.parents.Parents.TheVariants.{Root, AnyMaster, ChildOf, ChildOfOrItself}
use Rattle.mkv_schema.specs.declared.ids.TheConstants.{EBML, SEGMENT, SEEK_HEAD, SEEK, INFO, CLUSTER, BLOCK_GROUP, TRACKS, TRACK_ENTRY, VIDEO, AUDIO, CONTENT_ENCODINGS, CONTENT_ENCODING, CONTENT_COMPRESSION, CUES, CUE_POINT, CUE_TRACK_POSITIONS, ATTACHMENTS, ATTACHED_FILE, CHAPTERS, EDITION_ENTRY, CHAPTER_ATOM, CHAPTER_DISPLAY, TAGS, TAG, TARGETS, SIMPLE_TAG}

-- the default: the value of an Element that is missing. A number is the value of an empty integer too; an empty text has no bytes.
pub data Default : Type 0 where
  number_value : ℕ → Default
  text_value : List ℕ → Default

-- a row of the table, which the look-ups search: an Element's name, ID, kind of value, parents and default. Used by `entry_of`, `element` and others.
pub record Entry : Type 0 where
  pub name : List ℕ
  pub id : ℕ
  pub kind : ElementKind
  pub parents : Parents
  pub default : Option Default

-- the row of an Element with the name `name`, the ID `id`, the kind of value `kind`, the parents `parents` and the default `default`. The table is
-- made of them.
abbrev pub element : String → ℕ → ElementKind → Parents → Option Default → Entry
element name id kind parents default =
    record { name = codes name; id = id; kind = kind; parents = parents; default = default }

-- no default, as a row of the table has it if the standards give none. Used by `table` and others.
abbrev pub none : Option Default
none = None

-- the number `n` as the default of a row of the table. Used by `table`.
abbrev pub number : ℕ → Option Default
number n = Some (number_value n)

-- the text `t` as the default of a row of the table. Used by `is_doc_type` and `table`.
abbrev pub text : String → Option Default
text t = Some (text_value (codes t))

-- the rows: name, ID, kind, parents, default; all look-ups of the schema search them. BlockAdditions is a master in RFC 9559. Here its bytes are
-- copied as they are, so its kind is Binary, and its children have no rows. Used by `table_ids` and `entry_of`.
unfoldable pub table : List Entry
table =
    -- EBML Header Elements (RFC 8794, section 11.2)
    element "EBML" 0x1A45DFA3 Master Root none ∷
    element "EBMLVersion" 0x4286 Uint (ChildOf EBML) (number 1) ∷
    element "EBMLReadVersion" 0x42F7 Uint (ChildOf EBML) (number 1) ∷
    element "EBMLMaxIDLength" 0x42F2 Uint (ChildOf EBML) (number 4) ∷
    element "EBMLMaxSizeLength" 0x42F3 Uint (ChildOf EBML) (number 8) ∷
    element "DocType" 0x4282 Ascii (ChildOf EBML) none ∷
    element "DocTypeVersion" 0x4287 Uint (ChildOf EBML) (number 1) ∷
    element "DocTypeReadVersion" 0x4285 Uint (ChildOf EBML) (number 1) ∷
    -- Global Elements (RFC 8794, section 11.3)
    element "CRC-32" 0xBF Binary AnyMaster none ∷
    element "Void" 0xEC Binary AnyMaster none ∷
    -- Segment Element (RFC 9559, section 5.1)
    element "Segment" 0x18538067 Master Root none ∷
    -- SeekHead Element (RFC 9559, section 5.1.1)
    element "SeekHead" 0x114D9B74 Master (ChildOf SEGMENT) none ∷
    element "Seek" 0x4DBB Master (ChildOf SEEK_HEAD) none ∷
    element "SeekID" 0x53AB Binary (ChildOf SEEK) none ∷
    element "SeekPosition" 0x53AC Uint (ChildOf SEEK) none ∷
    -- Info Element (RFC 9559, section 5.1.2)
    element "Info" 0x1549A966 Master (ChildOf SEGMENT) none ∷
    element "SegmentUUID" 0x73A4 Binary (ChildOf INFO) none ∷
    element "SegmentFilename" 0x7384 Utf8 (ChildOf INFO) none ∷
    element "PrevUUID" 0x3CB923 Binary (ChildOf INFO) none ∷
    element "NextUUID" 0x3EB923 Binary (ChildOf INFO) none ∷
    element "TimestampScale" 0x2AD7B1 Uint (ChildOf INFO) (number 1000000) ∷
    element "Duration" 0x4489 Float (ChildOf INFO) none ∷
    element "Title" 0x7BA9 Utf8 (ChildOf INFO) none ∷
    element "MuxingApp" 0x4D80 Utf8 (ChildOf INFO) none ∷
    element "WritingApp" 0x5741 Utf8 (ChildOf INFO) none ∷
    -- Cluster Element (RFC 9559, section 5.1.3)
    element "Cluster" 0x1F43B675 Master (ChildOf SEGMENT) none ∷
    element "Timestamp" 0xE7 Uint (ChildOf CLUSTER) none ∷
    element "SimpleBlock" 0xA3 Binary (ChildOf CLUSTER) none ∷
    element "BlockGroup" 0xA0 Master (ChildOf CLUSTER) none ∷
    element "Block" 0xA1 Binary (ChildOf BLOCK_GROUP) none ∷
    element "BlockAdditions" 0x75A1 Binary (ChildOf BLOCK_GROUP) none ∷
    element "BlockDuration" 0x9B Uint (ChildOf BLOCK_GROUP) none ∷
    element "ReferenceBlock" 0xFB Int (ChildOf BLOCK_GROUP) none ∷
    element "CodecState" 0xA4 Binary (ChildOf BLOCK_GROUP) none ∷
    element "DiscardPadding" 0x75A2 Int (ChildOf BLOCK_GROUP) none ∷
    -- Tracks Element (RFC 9559, section 5.1.4)
    element "Tracks" 0x1654AE6B Master (ChildOf SEGMENT) none ∷
    element "TrackEntry" 0xAE Master (ChildOf TRACKS) none ∷
    element "TrackNumber" 0xD7 Uint (ChildOf TRACK_ENTRY) none ∷
    element "TrackUID" 0x73C5 Uint (ChildOf TRACK_ENTRY) none ∷
    element "TrackType" 0x83 Uint (ChildOf TRACK_ENTRY) none ∷
    element "FlagEnabled" 0xB9 Uint (ChildOf TRACK_ENTRY) (number 1) ∷
    element "FlagDefault" 0x88 Uint (ChildOf TRACK_ENTRY) (number 1) ∷
    element "FlagForced" 0x55AA Uint (ChildOf TRACK_ENTRY) (number 0) ∷
    element "FlagHearingImpaired" 0x55AB Uint (ChildOf TRACK_ENTRY) none ∷
    element "FlagVisualImpaired" 0x55AC Uint (ChildOf TRACK_ENTRY) none ∷
    element "FlagTextDescriptions" 0x55AD Uint (ChildOf TRACK_ENTRY) none ∷
    element "FlagOriginal" 0x55AE Uint (ChildOf TRACK_ENTRY) none ∷
    element "FlagCommentary" 0x55AF Uint (ChildOf TRACK_ENTRY) none ∷
    element "FlagLacing" 0x9C Uint (ChildOf TRACK_ENTRY) (number 1) ∷
    element "DefaultDuration" 0x23E383 Uint (ChildOf TRACK_ENTRY) none ∷
    element "TrackTimestampScale" 0x23314F Float (ChildOf TRACK_ENTRY) none ∷
    element "Name" 0x536E Utf8 (ChildOf TRACK_ENTRY) none ∷
    element "Language" 0x22B59C Ascii (ChildOf TRACK_ENTRY) (text "eng") ∷
    element "LanguageBCP47" 0x22B59D Ascii (ChildOf TRACK_ENTRY) none ∷
    element "CodecID" 0x86 Ascii (ChildOf TRACK_ENTRY) none ∷
    element "CodecPrivate" 0x63A2 Binary (ChildOf TRACK_ENTRY) none ∷
    element "Video" 0xE0 Master (ChildOf TRACK_ENTRY) none ∷
    element "PixelWidth" 0xB0 Uint (ChildOf VIDEO) none ∷
    element "PixelHeight" 0xBA Uint (ChildOf VIDEO) none ∷
    element "DisplayWidth" 0x54B0 Uint (ChildOf VIDEO) none ∷
    element "DisplayHeight" 0x54BA Uint (ChildOf VIDEO) none ∷
    element "Audio" 0xE1 Master (ChildOf TRACK_ENTRY) none ∷
    element "SamplingFrequency" 0xB5 Float (ChildOf AUDIO) none ∷
    element "Channels" 0x9F Uint (ChildOf AUDIO) (number 1) ∷
    element "ContentEncodings" 0x6D80 Master (ChildOf TRACK_ENTRY) none ∷
    element "ContentEncoding" 0x6240 Master (ChildOf CONTENT_ENCODINGS) none ∷
    element "ContentEncodingOrder" 0x5031 Uint (ChildOf CONTENT_ENCODING) (number 0) ∷
    element "ContentEncodingScope" 0x5032 Uint (ChildOf CONTENT_ENCODING) (number 1) ∷
    element "ContentEncodingType" 0x5033 Uint (ChildOf CONTENT_ENCODING) (number 0) ∷
    element "ContentCompression" 0x5034 Master (ChildOf CONTENT_ENCODING) none ∷
    element "ContentCompAlgo" 0x4254 Uint (ChildOf CONTENT_COMPRESSION) (number 0) ∷
    element "ContentCompSettings" 0x4255 Binary (ChildOf CONTENT_COMPRESSION) none ∷
    -- Cues Element (RFC 9559, section 5.1.5)
    element "Cues" 0x1C53BB6B Master (ChildOf SEGMENT) none ∷
    element "CuePoint" 0xBB Master (ChildOf CUES) none ∷
    element "CueTime" 0xB3 Uint (ChildOf CUE_POINT) none ∷
    element "CueTrackPositions" 0xB7 Master (ChildOf CUE_POINT) none ∷
    element "CueTrack" 0xF7 Uint (ChildOf CUE_TRACK_POSITIONS) none ∷
    element "CueClusterPosition" 0xF1 Uint (ChildOf CUE_TRACK_POSITIONS) none ∷
    element "CueRelativePosition" 0xF0 Uint (ChildOf CUE_TRACK_POSITIONS) none ∷
    -- Attachments Element (RFC 9559, section 5.1.6)
    element "Attachments" 0x1941A469 Master (ChildOf SEGMENT) none ∷
    element "AttachedFile" 0x61A7 Master (ChildOf ATTACHMENTS) none ∷
    element "FileDescription" 0x467E Utf8 (ChildOf ATTACHED_FILE) none ∷
    element "FileName" 0x466E Utf8 (ChildOf ATTACHED_FILE) none ∷
    element "FileMediaType" 0x4660 Ascii (ChildOf ATTACHED_FILE) none ∷
    element "FileData" 0x465C Binary (ChildOf ATTACHED_FILE) none ∷
    element "FileUID" 0x46AE Uint (ChildOf ATTACHED_FILE) none ∷
    -- Chapters Element (RFC 9559, section 5.1.7)
    element "Chapters" 0x1043A770 Master (ChildOf SEGMENT) none ∷
    element "EditionEntry" 0x45B9 Master (ChildOf CHAPTERS) none ∷
    element "EditionUID" 0x45BC Uint (ChildOf EDITION_ENTRY) none ∷
    element "ChapterAtom" 0xB6 Master (ChildOfOrItself EDITION_ENTRY) none ∷
    element "ChapterUID" 0x73C4 Uint (ChildOf CHAPTER_ATOM) none ∷
    element "ChapterTimeStart" 0x91 Uint (ChildOf CHAPTER_ATOM) none ∷
    element "ChapterTimeEnd" 0x92 Uint (ChildOf CHAPTER_ATOM) none ∷
    element "ChapterDisplay" 0x80 Master (ChildOf CHAPTER_ATOM) none ∷
    element "ChapString" 0x85 Utf8 (ChildOf CHAPTER_DISPLAY) none ∷
    element "ChapLanguage" 0x437C Ascii (ChildOf CHAPTER_DISPLAY) (text "eng") ∷
    -- Tags Element (RFC 9559, section 5.1.8)
    element "Tags" 0x1254C367 Master (ChildOf SEGMENT) none ∷
    element "Tag" 0x7373 Master (ChildOf TAGS) none ∷
    element "Targets" 0x63C0 Master (ChildOf TAG) none ∷
    element "TargetTypeValue" 0x68CA Uint (ChildOf TARGETS) (number 50) ∷
    element "TagTrackUID" 0x63C5 Uint (ChildOf TARGETS) (number 0) ∷
    element "TagEditionUID" 0x63C9 Uint (ChildOf TARGETS) (number 0) ∷
    element "TagChapterUID" 0x63C4 Uint (ChildOf TARGETS) (number 0) ∷
    element "TagAttachmentUID" 0x63C6 Uint (ChildOf TARGETS) (number 0) ∷
    element "SimpleTag" 0x67C8 Master (ChildOfOrItself TAG) none ∷
    element "TagName" 0x45A3 Utf8 (ChildOf SIMPLE_TAG) none ∷
    element "TagString" 0x4487 Utf8 (ChildOf SIMPLE_TAG) none ∷
    []
