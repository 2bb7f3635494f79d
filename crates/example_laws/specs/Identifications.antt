-- Examples of `info` and `merge -J` on small files.
use Rattle.std.specs.Prelude.{◌≡◌, ℕ, ◌+◌, List, [], ◌∷◌, ◌++◌, length, map, codes, Option, None, Some}
use Rattle.serde_json.specs.Written.{compact_text}
use Rattle.tree_format.specs.Node.{Node, leaf, master, nodes_of}
use Rattle.track_records.specs.Track.{track_of}
use Rattle.mkv_lines.specs.Verdict.{done, only_said, refused}
use Rattle.mkv_lines.specs.declared.status.Status.TheVariants.{Warned}
use Rattle.mkv_info.specs.declared.tags.Scope.TheVariants.{Global}
use Rattle.mkv_info.specs.Chapters.{chapter_count, entries_value}
use Rattle.mkv_info.specs.Identification.{container_properties}
use Rattle.mkv_info.specs.Identified.{identified_verdict}
use Rattle.mkv_info.specs.Listed.{listed_verdict}
use Rattle.mkv_info.specs.Tags.{tag_count, track_tags_value}
use Rattle.mkv_info.specs.ToldTracks.{dimensions_of, track_value}

-- ---- files, each with a Segment of less than 127 bytes

-- an EBML header whose DocType is `octet` and then `atroska`; 0x6D makes it `matroska`, for the examples of `info`
abbrev pub ebml : ℕ → List ℕ
ebml octet = 0x1A ∷ 0x45 ∷ 0xDF ∷ 0xA3 ∷ 0x8B ∷ 0x42 ∷ 0x82 ∷ 0x88 ∷ octet ∷ codes "atroska"

-- a Segment with the data `body`, which has less than 127 bytes, for the examples of `info`
abbrev pub segment : List ℕ → List ℕ
segment body = 0x18 ∷ 0x53 ∷ 0x80 ∷ 0x67 ∷ (0x80 + length body) ∷ body

-- a Matroska file whose Segment has the data `body`, which has less than 127 bytes, for the examples of `info`
abbrev pub file : List ℕ → List ℕ
file body = ebml 0x6D ++ segment body

-- a Tracks Element whose first ID byte is `first`, 0x16 for a valid one, with an audio track with the TrackNumber `number`, for the examples of
-- `info`
abbrev pub tracks : ℕ → ℕ → List ℕ
tracks first number =
    first ∷ 0x54 ∷ 0xAE ∷ 0x6B ∷ 0x94 ∷ 0xAE ∷ 0x92 ∷ 0xD7 ∷ 0x81 ∷ number ∷
    0x73 ∷ 0xC5 ∷ 0x81 ∷ 5 ∷ 0x83 ∷ 0x81 ∷ 2 ∷ 0x86 ∷ 0x86 ∷ codes "A_OPUS"

-- the data of a Cluster: a Timestamp and two SimpleBlocks of track 1, for the examples of `info`
abbrev pub blocks : List ℕ
blocks =
    0xE7 ∷ 0x81 ∷ 0 ∷ 0xA3 ∷ 0x85 ∷ 0x81 ∷ 0 ∷ 0 ∷ 0x80 ∷ 0xAA ∷
    0xA3 ∷ 0x85 ∷ 0x81 ∷ 0 ∷ 0x14 ∷ 0x80 ∷ 0xBB ∷ []

-- a Cluster with two SimpleBlocks of track 1, for the examples of `info`
abbrev pub cluster : List ℕ
cluster = 0x1F ∷ 0x43 ∷ 0xB6 ∷ 0x75 ∷ 0x91 ∷ blocks

-- a file with one audio track and one Cluster, for the examples of `info` and `merge -J`
abbrev pub one_track : List ℕ
one_track = file (tracks 0x16 1 ++ cluster)

-- an empty Segment after an EBML header whose DocType ends with zero bytes, for the examples of `info`
abbrev pub padded : List ℕ
padded = 0x1A ∷ 0x45 ∷ 0xDF ∷ 0xA3 ∷ 0x8E ∷ 0x42 ∷ 0x82 ∷ 0x8B ∷ codes "matroska" ++ (0 ∷ 0 ∷ 0 ∷ segment [])

-- a data size of eight bytes that means an unknown size, for the examples of `info`
abbrev pub unknown : List ℕ
unknown = 1 ∷ 0xFF ∷ 0xFF ∷ 0xFF ∷ 0xFF ∷ 0xFF ∷ 0xFF ∷ 0xFF ∷ []

-- a file whose Segment and Cluster have unknown sizes, with a Cues after the Cluster, for the examples of `info`
abbrev pub endless : List ℕ
endless =
    ebml 0x6D ++ (0x18 ∷ 0x53 ∷ 0x80 ∷ 0x67 ∷ unknown) ++ tracks 0x16 1 ++ (0x1F ∷ 0x43 ∷ 0xB6 ∷ 0x75 ∷ unknown) ++
    blocks ++ (0x1C ∷ 0x53 ∷ 0xBB ∷ 0x6B ∷ 0x80 ∷ [])

-- ---- listed files

-- the line that `info` prints for the EBML header of the examples, in which it has 11 bytes of data
abbrev pub header_line : List ℕ
header_line = codes "EBML at 0 size 11"

-- the line that `info` prints for the track in `one_track`
abbrev pub track_line : List ℕ
track_line = codes "track 0: audio A_OPUS number 1 uid 5 language eng"

-- For a file `s1.mkv` with the content `bytes`, `info` prints the lines `lines` and ends with Done; an example has this form.
abbrev pub lists : List ℕ → List (List ℕ) → Type 0
lists bytes lines = listed_verdict (codes "s1.mkv") bytes ≡ done lines

-- A file `s1.mkv` with the content `bytes` is refused by `info` with the line `line`; an example has this form.
abbrev pub refuses : List ℕ → List ℕ → Type 0
refuses bytes line = listed_verdict (codes "s1.mkv") bytes ≡ refused line

-- Examples of small files and of the lines that `info` prints for them.
pub record AreListed : Type 0 where
  -- A Segment may be empty; a file needs no Tracks to be listed.
  pub empty : lists (file []) (header_line ∷ codes "Segment at 16 size 0" ∷ [])
  -- A text ends before a zero byte.
  pub padded : lists padded (codes "EBML at 0 size 14" ∷ codes "Segment at 19 size 0" ∷ [])
  -- Elements of level 1 are indented, and tracks follow them.
  pub whole : lists one_track (
      header_line ∷ codes "Segment at 16 size 47" ∷ codes "  Tracks at 21 size 20" ∷
      codes "  Cluster at 46 size 17" ∷ track_line ∷ [])
  -- A Cluster of unknown size ends before Cues.
  pub endless : lists endless (
      header_line ∷ codes "Segment at 16 size unknown" ∷ codes "  Tracks at 28 size 20" ∷
      codes "  Cluster at 53 size unknown" ∷ codes "  Cues at 82 size 0" ∷ track_line ∷ [])
  -- Damage at level 1 is a warning after the list.
  pub damaged : listed_verdict (codes "s1.mkv") (file (tracks 0 1 ++ cluster))
      ≡ only_said Warned (
      header_line ∷ codes "Segment at 16 size 47" ∷ codes "warning: s1.mkv: BadId, element -, offset 21" ∷ [])
  -- An empty file isn't an EBML file.
  pub nothing : refuses [] (codes "error: s1.mkv: NotEbml, element -, offset 0")
  -- Another DocType refuses a file, and so does a TrackNumber of 0.
  pub other_type : refuses (ebml 0x78 ++ segment []) (codes "error: s1.mkv: DocType, element 4282, offset 5")
  pub number_zero : refuses (file (tracks 0x16 0 ++ cluster)) (codes "error: s1.mkv: BadValue, element D7, offset 28")

-- ---- files as JSON

-- the line of JSON that `merge -J` prints for `one_track` under the name `s1.mkv`
abbrev pub identified_as : List ℕ
identified_as =
    codes "{\"attachments\":[],\"chapters\":[],\"container\":{\"properties\":{\"timestamp_scale\":1000000}," ++
    codes "\"recognized\":true,\"supported\":true,\"type\":\"Matroska\"}," ++
    codes "\"file_name\":\"s1.mkv\",\"global_tags\":[],\"track_tags\":[],\"tracks\":[{\"codec\":\"A_OPUS\"," ++
    codes "\"id\":0,\"properties\":{\"codec_id\":\"A_OPUS\"," ++
    codes "\"default_track\":true,\"enabled_track\":true,\"forced_track\":false,\"language\":\"eng\"," ++
    codes "\"number\":1,\"uid\":5},\"type\":\"audio\"}]}"

-- an Info with the children `children`, for the examples of `merge -J`
abbrev pub info : List Node → Option Node
info children = Some (master 0x1549A966 0 (nodes_of children))

-- a TrackEntry with a Video that has the children `pixels`, for the examples of `merge -J`. Used by `AreIdentified`.
abbrev pub video : List Node → Node
video pixels = master 0xAE 0 (nodes_of (master 0xE0 0 (nodes_of pixels) ∷ []))

-- an EditionEntry with one ChapterAtom that has another one inside, for the examples of `merge -J`. Used by `two_editions`.
abbrev pub edition : Node
edition = master 0x45B9 0 (nodes_of (master 0xB6 0 (nodes_of (master 0xB6 0 (nodes_of []) ∷ [])) ∷ []))

-- a Chapters with two EditionEntries, each with one top ChapterAtom, for the examples of `merge -J`. Used by `AreIdentified`.
abbrev pub two_editions : Option Node
two_editions = Some (master 0x1043A770 0 (nodes_of (edition ∷ edition ∷ [])))

-- a Tag for the track with the TrackUID `uid`, with a SimpleTag that contains another one, for the examples of `merge -J`. Used by `tags`.
abbrev pub tag : ℕ → Node
tag uid =
    master 0x7373 0 (nodes_of (master 0x63C0 0 (nodes_of (leaf 0x63C5 0 (uid ∷ []) ∷ [])) ∷
    master 0x67C8 0 (nodes_of (master 0x67C8 0 (nodes_of []) ∷ [])) ∷ []))

-- a Tags with a Tag for each TrackUID in `uids`, for the examples of `merge -J`. Used by `AreIdentified`.
abbrev pub tags : List ℕ → Option Node
tags uids = Some (master 0x1254C367 0 (nodes_of (map tag uids)))

-- a TrackEntry of subtitles, with the children `more` after its own, for the examples of `merge -J`
abbrev pub entry : List Node → Node
entry more =
    master 0xAE 0 (nodes_of (leaf 0xD7 0 (2 ∷ []) ∷ leaf 0x83 0 (17 ∷ []) ∷ leaf 0x86 0 (codes "S_VOBSUB") ∷ more))

-- children of a TrackEntry: two flags, two languages and a name, for the examples of `merge -J`. Used by `AreIdentified`.
abbrev pub said_of_it : List Node
said_of_it =
    leaf 0x88 0 (0 ∷ []) ∷ leaf 0x55AA 0 (2 ∷ []) ∷ leaf 0x22B59C 0 (codes "ger") ∷
    leaf 0x22B59D 0 (codes "de-CH") ∷ leaf 0x536E 0 (codes "Hi") ∷ []

-- The JSON that `merge -J` prints for a track with the children `more` has the properties `properties`; an example has this form.
abbrev pub told_as : List Node → List ℕ → Type 0
told_as more properties =
    compact_text (track_value 1 (track_of (entry more)))
    ≡ codes "{\"codec\":\"S_VOBSUB\",\"id\":1,\"properties\":{\"codec_id\":\"S_VOBSUB\"," ++ properties
    ++ codes "},\"type\":\"subtitles\"}"

-- Examples of small files and records, and of the JSON that `merge -J` prints for them. The law `files_are_identified_so` has them.
pub record AreIdentified : Type 0 where
  -- The result is one line of JSON, with keys in the order of their bytes.
  pub whole : identified_verdict (codes "s1.mkv") one_track ≡ done (identified_as ∷ [])
  -- A Title that isn't empty is included.
  pub title : compact_text (container_properties (info (leaf 0x7BA9 0 (codes "Hi") ∷ [])))
      ≡ codes "{\"timestamp_scale\":1000000,\"title\":\"Hi\"}"
  pub no_title : compact_text (container_properties (info (leaf 0x7BA9 0 [] ∷ [])))
      ≡ codes "{\"timestamp_scale\":1000000}"
  -- A value that an entry lacks has its default, or is left out.
  pub defaults : told_as [] (
      codes "\"default_track\":true,\"enabled_track\":true,\"forced_track\":false,\"language\":\"eng\"," ++
      codes "\"number\":2,\"uid\":0")
  -- A flag is set if it isn't 0; with a LanguageBCP47, Language isn't included.
  pub said : told_as said_of_it (
      codes "\"default_track\":false,\"enabled_track\":true,\"forced_track\":true,\"language\":\"de-CH\"," ++
      codes "\"language_ietf\":\"de-CH\",\"number\":2,\"track_name\":\"Hi\",\"uid\":0")
  -- Pixels are included if both numbers are present.
  pub pixels : dimensions_of (video (leaf 0xB0 0 (2 ∷ 0x80 ∷ []) ∷ leaf 0xBA 0 (1 ∷ 0x68 ∷ []) ∷ []))
      ≡ Some (codes "640x360")
  pub no_height : dimensions_of (video (leaf 0xB0 0 (2 ∷ 0x80 ∷ []) ∷ [])) ≡ None
  -- The top atoms of all editions are counted; without Chapters the list is empty.
  pub chapters : compact_text (entries_value (chapter_count two_editions)) ≡ codes "[{\"num_entries\":2}]"
  pub no_chapters : compact_text (entries_value (chapter_count None)) ≡ codes "[]"
  -- The SimpleTags directly in Tags are counted; a TagTrackUID of 0 names no track.
  pub global_tags : tag_count Global (tags (5 ∷ 0 ∷ 6 ∷ [])) ≡ 1
  pub track_tags :
      compact_text (track_tags_value (tags (5 ∷ 0 ∷ 5 ∷ [])) (
      track_of (entry []) ∷ track_of (entry (leaf 0x73C5 0 (5 ∷ []) ∷ [])) ∷ []))
      ≡ codes "[{\"num_entries\":2,\"track_id\":1}]"
