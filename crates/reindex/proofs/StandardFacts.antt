-- Computed points of small files, so that a wrong definition fails the check; their bytes were written down by hand.
use Rattle.std.proofs.Common.{◌≡◌, ℕ, List, [], ◌∷◌, ◌++◌, length, take, slice_set, replicate, Result, Ok, Err, refl}
use Rattle.std.specs.Int.Count.{count_leading_zeros}
use Rattle.std.specs.Str.{chars, is_utf8}
use lib.Utf8.{encode}
use Rattle.ebml_numbers.specs.Number.{id_at, size_at}
use Rattle.mkv_io.specs.declared.damage.Damage.{Damage}
use Rattle.mkv_io.specs.declared.damage.Kind.TheVariants.{Truncated}
use Rattle.mkv_schema.specs.Table.{table}
use Rattle.mkv_schema.specs.Schema.{entry_of}
use Rattle.mkv_schema.specs.Element.{damage, element_in}
use Rattle.mkv_schema.specs.Elements.{elements, elements_within}
use Rattle.mkv_schema.specs.Outline.{ebml_header, outline_of, segment_of}
use Rattle.mkv_io.specs.Results.{and_then}
use Rattle.tree_format.specs.Reading.{grove, grove_within}
use Rattle.file_format.specs.Info.{file_scale}
use Rattle.lacing.specs.Reading.{lace_in, size_in, sizes_in}
use Rattle.block_format.specs.Content.{content_in}
use Rattle.block_format.specs.Elements.{block_group, simple_block}
use Rattle.block_format.specs.Events.{events_of}
use Rattle.edit_changes.specs.Records.{EditableFile}
use Rattle.output_model.specs.declared.places.CuePoint.{CuePoint}
use Rattle.reindex.specs.Index.{indexable}
use Rattle.reindex.specs.Points.{index_points}

-- the points of a file, or its refusal
abbrev points : List ℕ → Result (List CuePoint) Damage
points bytes = and_then (indexable bytes) (λ (f : EditableFile). Ok (index_points bytes f.outline.segment f.trees.tracks))

-- a point of track 1
abbrev point : ℕ → ℕ → ℕ → CuePoint
point tick cluster relative = record { tick = tick; lane = 1; cluster = cluster; relative = relative }

-- ---- a file of 67 bytes

-- its EBML header and its Segment, whose body begins at 21
abbrev head : List ℕ
head = 0x1A ∷ 0x45 ∷ 0xDF ∷ 0xA3 ∷ 0x8B ∷ 0x42 ∷ 0x82 ∷ 0x88 ∷ 0x6D ∷ 0x61 ∷ 0x74 ∷ 0x72 ∷ 0x6F ∷ 0x73 ∷ 0x6B ∷ 0x61 ∷ 0x18 ∷ 0x53 ∷ 0x80 ∷ 0x67 ∷ 0xAE ∷ []

-- a video track of number 1; its type is at 37
abbrev tracks : List ℕ
tracks = 0x16 ∷ 0x54 ∷ 0xAE ∷ 0x6B ∷ 0x93 ∷ 0xAE ∷ 0x91 ∷ 0xD7 ∷ 0x81 ∷ 0x01 ∷ 0x73 ∷ 0xC5 ∷ 0x81 ∷ 0x07 ∷ 0x83 ∷ 0x81 ∷ 0x01 ∷ 0x86 ∷ 0x85 ∷ 0x56 ∷ 0x5F ∷ 0x56 ∷ 0x50 ∷ 0x38 ∷ []

-- a Cluster at 45 with a keyframe at 53 and another block, of 20 ticks, at 60
abbrev cluster : List ℕ
cluster = 0x1F ∷ 0x43 ∷ 0xB6 ∷ 0x75 ∷ 0x91 ∷ 0xE7 ∷ 0x81 ∷ 0x00 ∷ 0xA3 ∷ 0x85 ∷ 0x81 ∷ 0x00 ∷ 0x00 ∷ 0x80 ∷ 0xAA ∷ 0xA3 ∷ 0x85 ∷ 0x81 ∷ 0x00 ∷ 0x14 ∷ 0x00 ∷ 0xBB ∷ []

abbrev pub video : List ℕ
video = head ++ tracks ++ cluster

pub record ArePoints : Type 0 where
  pub one_key : points video ≡ Ok (point 0 24 3 ∷ [])
  pub both_key : points (slice_set video 65 0x80) ≡ Ok (point 0 24 3 ∷ point 20 24 10 ∷ [])
  pub none_key : points (slice_set video 58 0) ≡ Ok []
  pub subtitles : points (slice_set video 37 17) ≡ Ok (point 0 24 3 ∷ [])
  pub audio : points (slice_set video 37 2) ≡ Ok []
  pub no_such_track : points (slice_set video 55 0x82) ≡ Ok []
  pub before_the_start : points (slice_set (slice_set video 56 0xFF) 57 0xFF) ≡ Ok []
  pub later_cluster : points (slice_set video 52 7) ≡ Ok (point 7 24 3 ∷ [])
  pub cut : points (take 66 video) ≡ Err (damage Truncated 0xA3 60)
  pub cut_behind_a_block : points (take 60 video) ≡ Ok (point 0 24 3 ∷ [])

pub are_points : ArePoints
unfolding is_utf8 chars encode file_scale outline_of ebml_header segment_of elements elements_within element_in id_at size_at entry_of table count_leading_zeros grove grove_within content_in lace_in sizes_in size_in simple_block block_group events_of
are_points = record {
  one_key = refl;
  both_key = refl;
  none_key = refl;
  subtitles = refl;
  audio = refl;
  no_such_track = refl;
  before_the_start = refl;
  later_cluster = refl;
  cut = refl;
  cut_behind_a_block = refl;
}

-- ---- a file of 414 bytes, as a merge writes it

-- an EBML header, a Segment of this size whose body begins at 52, a SeekHead and a Void
abbrev pub merged_head : ℕ → List ℕ
merged_head size = (0x1A ∷ 0x45 ∷ 0xDF ∷ 0xA3 ∷ 0xA3 ∷ 0x42 ∷ 0x86 ∷ 0x81 ∷ 0x01 ∷ 0x42 ∷ 0xF7 ∷ 0x81 ∷ 0x01 ∷ 0x42 ∷ 0xF2 ∷ 0x81 ∷ 0x04 ∷ 0x42 ∷ 0xF3 ∷ 0x81 ∷ 0x08 ∷ 0x42 ∷ 0x82 ∷ 0x88 ∷ 0x6D ∷ 0x61 ∷ 0x74 ∷ 0x72 ∷ 0x6F ∷ 0x73 ∷ 0x6B ∷ 0x61 ∷ 0x42 ∷ 0x87 ∷ 0x81 ∷ 0x04 ∷ 0x42 ∷ 0x85 ∷ 0x81 ∷ 0x02 ∷ 0x18 ∷ 0x53 ∷ 0x80 ∷ 0x67 ∷ 0x01 ∷ 0x00 ∷ 0x00 ∷ 0x00 ∷ 0x00 ∷ 0x00 ∷ 0x01 ∷ size ∷ 0x11 ∷ 0x4D ∷ 0x9B ∷ 0x74 ∷ 0xBF ∷ 0x4D ∷ 0xBB ∷ 0x92 ∷ 0x53 ∷ 0xAB ∷ 0x84 ∷ 0x15 ∷ 0x49 ∷ 0xA9 ∷ 0x66 ∷ 0x53 ∷ 0xAC ∷ 0x88 ∷ 0x00 ∷ 0x00 ∷ 0x00 ∷ 0x00 ∷ 0x00 ∷ 0x00 ∷ 0x01 ∷ 0x00 ∷ 0x4D ∷ 0xBB ∷ 0x92 ∷ 0x53 ∷ 0xAB ∷ 0x84 ∷ 0x16 ∷ 0x54 ∷ 0xAE ∷ 0x6B ∷ 0x53 ∷ 0xAC ∷ 0x88 ∷ 0x00 ∷ 0x00 ∷ 0x00 ∷ 0x00 ∷ 0x00 ∷ 0x00 ∷ 0x01 ∷ 0x26 ∷ 0x4D ∷ 0xBB ∷ 0x92 ∷ 0x53 ∷ 0xAB ∷ 0x84 ∷ 0x1C ∷ 0x53 ∷ 0xBB ∷ 0x6B ∷ 0x53 ∷ 0xAC ∷ 0x88 ∷ 0x00 ∷ 0x00 ∷ 0x00 ∷ 0x00 ∷ 0x00 ∷ 0x00 ∷ 0x01 ∷ 0x54 ∷ 0xEC ∷ 0x01 ∷ 0x00 ∷ 0x00 ∷ 0x00 ∷ 0x00 ∷ 0x00 ∷ 0x00 ∷ 0xB3 ∷ []) ++ replicate 179 0

-- an Info, and then the tracks and a Cluster, at 370, as above
abbrev pub merged_body : List ℕ
merged_body = (0x15 ∷ 0x49 ∷ 0xA9 ∷ 0x66 ∷ 0xA1 ∷ 0x2A ∷ 0xD7 ∷ 0xB1 ∷ 0x83 ∷ 0x0F ∷ 0x42 ∷ 0x40 ∷ 0x4D ∷ 0x80 ∷ 0x8A ∷ 0x6D ∷ 0x6B ∷ 0x76 ∷ 0x73 ∷ 0x75 ∷ 0x69 ∷ 0x74 ∷ 0x65 ∷ 0x20 ∷ 0x31 ∷ 0x57 ∷ 0x41 ∷ 0x8A ∷ 0x6D ∷ 0x6B ∷ 0x76 ∷ 0x73 ∷ 0x75 ∷ 0x69 ∷ 0x74 ∷ 0x65 ∷ 0x20 ∷ 0x31 ∷ []) ++ tracks ++ cluster

abbrev pub cues : List ℕ
cues = 0x1C ∷ 0x53 ∷ 0xBB ∷ 0x6B ∷ 0x91 ∷ 0xBB ∷ 0x8F ∷ 0xB3 ∷ 0x81 ∷ 0x00 ∷ 0xB7 ∷ 0x8A ∷ 0xF7 ∷ 0x81 ∷ 0x01 ∷ 0xF1 ∷ 0x82 ∷ 0x01 ∷ 0x3E ∷ 0xF0 ∷ 0x81 ∷ 0x03 ∷ []

-- The points are the points in its Cues, and the same without its Cues.
pub record AreMergedPoints : Type 0 where
  pub octets : length (merged_head 0x6A ++ merged_body ++ cues) ≡ 414
  pub whole : points (merged_head 0x6A ++ merged_body ++ cues) ≡ Ok (point 0 318 3 ∷ [])
  pub without_cues : points (merged_head 0x54 ++ merged_body) ≡ Ok (point 0 318 3 ∷ [])

pub are_merged_points : AreMergedPoints
unfolding is_utf8 chars encode file_scale outline_of ebml_header segment_of elements elements_within element_in id_at size_at entry_of table count_leading_zeros grove grove_within content_in lace_in sizes_in size_in simple_block block_group events_of
are_merged_points = record { octets = refl; whole = refl; without_cues = refl }
