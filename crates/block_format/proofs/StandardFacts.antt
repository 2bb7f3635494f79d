-- Computed blocks of small files. A wrong definition fails here.
use Rattle.std.proofs.Common.{◌≡◌, ℕ, ◌+◌, ◌-◌, ◌*◌, ◌/◌, ◌%◌, ◌^◌, true, false, List, [], ◌∷◌, ◌++◌, length, take, drop, slice_set, replicate, map, flat_map, Some, None, Result, Ok, Err, refl}
use Rattle.std.specs.Prelude.{ℤ, pos, negsuc}
use Rattle.std.specs.Int.Count.{count_leading_zeros}
use Rattle.ebml_numbers.specs.declared.number.Size.{Size}
use Rattle.ebml_numbers.specs.declared.number.Size.TheVariants.{Known, Unknown}
use Rattle.ebml_numbers.specs.Number.{id_at, size_at}
use Rattle.mkv_schema.specs.Table.{table}
use Rattle.mkv_schema.specs.Schema.{entry_of}
use Rattle.mkv_io.specs.declared.damage.Kind.{Kind}
use Rattle.mkv_io.specs.declared.damage.Kind.TheVariants.{BadId, BadSize, TooLong, Truncated, BadValue, MissingChild, ShortBlock, BadLacing, BlockTooLarge, TimeTooLarge, NoTimestamp, TooMany, UnknownSize}
use Rattle.mkv_schema.specs.declared.element.Header.{Header}
use Rattle.mkv_schema.specs.Element.{element_in, damage}
use Rattle.mkv_schema.specs.Elements.{elements, elements_within}
use Rattle.lacing.specs.declared.kind.Lace.TheVariants as lace
use Rattle.lacing.specs.Reading.{lace_in, sizes_in, size_in}
use Rattle.block_format.specs.Content.{Content, content_in, is_key, is_invisible, is_discardable, lace_of}
use Rattle.block_format.specs.Block.{Block}
use Rattle.block_format.specs.Elements.{Rules, with_limits, without_limits, simple_block, block_group}
use Rattle.block_format.specs.Events.{Event, block, damaged, stopped, events_of, blocks_of, damages_of, last_of}

-- ---- the content of blocks (RFC 9559, sections 10.1, Block Structure, 10.2, SimpleBlock Structure, and 10.3, Block Lacing)

abbrev spelled : ℕ → ℤ → ℕ → List (List ℕ) → Result Content Kind
spelled track relative flags frames = Ok (record { track = track; relative = relative; flags = flags; frames = frames })

-- the content of a block of track 1 at time 0 with the flags `flags`, whose data are `octets`
abbrev laced : ℕ → List ℕ → Result Content Kind
laced flags octets = content_in (0x81 ∷ 0 ∷ 0 ∷ flags ∷ octets)

pub record AreContents : Type 0 where
  pub one_frame : content_in (0x81 ∷ 0 ∷ 0 ∷ 0x80 ∷ 0xAA ∷ []) ≡ spelled 1 (pos 0) 0x80 ((0xAA ∷ []) ∷ [])
  pub all_ones : content_in (0xFF ∷ 0xFF ∷ 0xFF ∷ 0 ∷ []) ≡ spelled 127 (negsuc 0) 0 ([] ∷ [])
  pub wide_track : content_in (0x40 ∷ 0x81 ∷ 0x80 ∷ 0 ∷ 8 ∷ 0xAA ∷ []) ≡ spelled 129 (negsuc 32767) 8 ((0xAA ∷ []) ∷ [])
  pub no_track : content_in (0 ∷ 0 ∷ 0 ∷ 0x80 ∷ []) ≡ Err ShortBlock
  pub no_width : content_in (replicate 20 0) ≡ Err ShortBlock
  pub no_flags : content_in (0x81 ∷ 0 ∷ 0 ∷ []) ≡ Err ShortBlock
  pub nothing : content_in [] ≡ Err ShortBlock
  pub xiph : laced 2 (1 ∷ 4 ∷ replicate 4 0xAA ++ replicate 6 0xBB) ≡ spelled 1 (pos 0) 2 (replicate 4 0xAA ∷ replicate 6 0xBB ∷ [])
  pub xiph_long : laced 2 (1 ∷ 0xFF ∷ 0 ∷ replicate 255 0xAA ++ (0xBB ∷ [])) ≡ spelled 1 (pos 0) 2 (replicate 255 0xAA ∷ (0xBB ∷ []) ∷ [])
  pub fixed : laced 4 (1 ∷ replicate 3 0xAA ++ replicate 3 0xBB) ≡ spelled 1 (pos 0) 4 (replicate 3 0xAA ∷ replicate 3 0xBB ∷ [])
  pub ebml : laced 6 (2 ∷ 0x84 ∷ 0xBE ∷ replicate 4 0xAA ++ replicate 3 0xBB ++ replicate 2 0xCC) ≡ spelled 1 (pos 0) 6 (replicate 4 0xAA ∷ replicate 3 0xBB ∷ replicate 2 0xCC ∷ [])
  pub one_in_a_lace : laced 2 (0 ∷ 0xAA ∷ []) ≡ spelled 1 (pos 0) 2 ((0xAA ∷ []) ∷ [])
  pub no_count : laced 2 [] ≡ Err ShortBlock
  pub fixed_with_rest : laced 4 (2 ∷ replicate 10 0xAA) ≡ Err BadLacing
  pub frame_too_large : laced 2 (1 ∷ 4 ∷ replicate 3 0xAA) ≡ Err BadLacing

pub contents : AreContents
unfolding content_in lace_in sizes_in size_in size_at count_leading_zeros
contents = record {
  one_frame = refl;
  all_ones = refl;
  wide_track = refl;
  no_track = refl;
  no_width = refl;
  no_flags = refl;
  nothing = refl;
  xiph = refl;
  xiph_long = refl;
  fixed = refl;
  ebml = refl;
  one_in_a_lace = refl;
  no_count = refl;
  fixed_with_rest = refl;
  frame_too_large = refl;
}

pub record AreFlags : Type 0 where
  pub key : is_key 0x80 ≡ true
  pub not_key : is_key 0x7F ≡ false
  pub invisible : is_invisible 8 ≡ true
  pub visible : is_invisible 0xF7 ≡ false
  pub discardable : is_discardable 1 ≡ true
  pub not_discardable : is_discardable 0xFE ≡ false
  pub none : lace_of 0xF9 ≡ lace.None
  pub xiph : lace_of 2 ≡ lace.Xiph
  pub fixed : lace_of 4 ≡ lace.Fixed
  pub ebml : lace_of 6 ≡ lace.Ebml

pub flags : AreFlags
flags = record {
  key = refl;
  not_key = refl;
  invisible = refl;
  visible = refl;
  discardable = refl;
  not_discardable = refl;
  none = refl;
  xiph = refl;
  fixed = refl;
  ebml = refl;
}

-- ---- a small file

-- an EBML header of 16 bytes with the DocType `matroska`
abbrev header : List ℕ
header =
    0x1A ∷ 0x45 ∷ 0xDF ∷ 0xA3 ∷ 0x8B ∷ 0x42 ∷ 0x82 ∷ 0x88 ∷ 0x6D ∷ 0x61 ∷ 0x74 ∷ 0x72 ∷ 0x6F ∷ 0x73 ∷ 0x6B ∷ 0x61 ∷ []

-- a Tracks of 25 bytes with one audio track
abbrev tracks : List ℕ
tracks =
    0x16 ∷ 0x54 ∷ 0xAE ∷ 0x6B ∷ 0x94 ∷ 0xAE ∷ 0x92 ∷ 0xD7 ∷ 0x81 ∷ 1 ∷ 0x73 ∷ 0xC5 ∷ 0x81 ∷ 5 ∷ 0x83 ∷ 0x81 ∷
    2 ∷ 0x86 ∷ 0x86 ∷ 0x41 ∷ 0x5F ∷ 0x4F ∷ 0x50 ∷ 0x55 ∷ 0x53 ∷ []

-- a Timestamp `tick` and SimpleBlocks there and 20 ticks later, 17 bytes
abbrev cluster_body : ℕ → List ℕ
cluster_body tick =
    0xE7 ∷ 0x81 ∷ tick ∷ 0xA3 ∷ 0x85 ∷ 0x81 ∷ 0 ∷ 0 ∷ 0x80 ∷ 0xAA ∷ 0xA3 ∷ 0x85 ∷ 0x81 ∷ 0 ∷ 0x14 ∷ 0x80 ∷
    0xBB ∷ []

-- the same in a Cluster of 22 bytes
abbrev cluster_at : ℕ → List ℕ
cluster_at tick = (0x1F ∷ 0x43 ∷ 0xB6 ∷ 0x75 ∷ 0x91 ∷ []) ++ cluster_body tick

-- the header and a Segment with Tracks and a Cluster: 68 bytes
abbrev small : List ℕ
small = header ++ (0x18 ∷ 0x53 ∷ 0x80 ∷ 0x67 ∷ 0xAF ∷ []) ++ tracks ++ cluster_at 0

-- the same with a second Cluster: 90 bytes
abbrev two_clusters : List ℕ
two_clusters = header ++ (0x18 ∷ 0x53 ∷ 0x80 ∷ 0x67 ∷ 0xC5 ∷ []) ++ tracks ++ cluster_at 0 ++ cluster_at 40

-- the small file as a live stream: unknown sizes, and Cues at the end; 87 bytes
abbrev streamed : List ℕ
streamed =
    header ++ (0x18 ∷ 0x53 ∷ 0x80 ∷ 0x67 ∷ 1 ∷ replicate 7 0xFF) ++ tracks
    ++ (0x1F ∷ 0x43 ∷ 0xB6 ∷ 0x75 ∷ 1 ∷ replicate 7 0xFF) ++ cluster_body 0 ++ (0x1C ∷ 0x53 ∷ 0xBB ∷ 0x6B ∷ 0x80 ∷ [])

-- the Segment after the EBML header
abbrev segment : ℕ → Size → Header
segment body size = record { id = 0x18538067; offset = 16; body = body; size = size }

-- the events of a file whose ticks are milliseconds
abbrev given_by : ℕ → Size → List ℕ → List Event
given_by body size bytes = events_of (with_limits 1000000) bytes (segment body size)

-- the small file with the byte `octet` at the offset `at`
abbrev with_octet : ℕ → ℕ → List Event
with_octet at octet = given_by 21 (Known 47) (slice_set small at octet)

-- the first `n` bytes of the small file
abbrev cut : ℕ → List Event
cut n = given_by 21 (Known 47) (take n small)

-- a SimpleBlock of track 1, a keyframe of one byte, with the timestamp `time`
abbrev simple_at : ℤ → ℕ → ℕ → Block
simple_at time octet offset = record {
  track = 1;
  time = time;
  key = true;
  invisible = false;
  discardable = false;
  group = false;
  lace = lace.None;
  frames = (octet ∷ []) ∷ [];
  duration = None;
  references = [];
  kept = [];
  offset = offset;
}

-- the same at `ms` milliseconds
abbrev simple : ℕ → ℕ → ℕ → Event
simple ms octet offset = block (simple_at (pos (ms * 1000000)) octet offset)

-- a damage after which reading goes on
abbrev goes_on : Kind → ℕ → ℕ → Event
goes_on kind id offset = damaged (damage kind id offset)

-- a damage that ends the reading
abbrev ends : Kind → ℕ → ℕ → Event
ends kind id offset = stopped (damage kind id offset)

-- the small file's blocks
abbrev first : Event
first = simple 0 0xAA 54

abbrev second : Event
second = simple 20 0xBB 61

pub record AreWhole : Type 0 where
  pub small_file : given_by 21 (Known 47) small ≡ first ∷ second ∷ []
  pub two : given_by 21 (Known 69) two_clusters ≡ first ∷ second ∷ simple 40 0xAA 76 ∷ simple 60 0xBB 83 ∷ []
  pub streamed_file : given_by 28 Unknown streamed ≡ simple 0 0xAA 68 ∷ simple 20 0xBB 75 ∷ []
  pub bad_size_behind : given_by 28 Unknown (slice_set streamed 86 0) ≡ simple 0 0xAA 68 ∷ simple 20 0xBB 75 ∷ ends BadSize 0x1C53BB6B 82 ∷ []
  pub unknown_behind : given_by 28 Unknown (slice_set streamed 82 0x1D) ≡ simple 0 0xAA 68 ∷ simple 20 0xBB 75 ∷ []
  pub block_behind : given_by 28 Unknown (streamed ++ drop 10 (cluster_body 0)) ≡ simple 0 0xAA 68 ∷ simple 20 0xBB 75 ∷ []
  pub file_behind : given_by 28 Unknown (take 82 streamed ++ small) ≡ simple 0 0xAA 68 ∷ simple 20 0xBB 75 ∷ []
  pub open_segment : given_by 21 Unknown (slice_set small 20 0xFF) ≡ first ∷ second ∷ []
  pub open_cluster : with_octet 50 0xFF ≡ first ∷ second ∷ []
  pub open_before_another : given_by 21 (Known 69) (slice_set two_clusters 50 0xFF) ≡ first ∷ second ∷ simple 40 0xAA 76 ∷ simple 60 0xBB 83 ∷ []

pub whole_files : AreWhole
unfolding events_of elements elements_within element_in id_at size_at simple_block block_group content_in entry_of table count_leading_zeros
whole_files = record {
  small_file = refl;
  two = refl;
  streamed_file = refl;
  bad_size_behind = refl;
  unknown_behind = refl;
  block_behind = refl;
  file_behind = refl;
  open_segment = refl;
  open_cluster = refl;
  open_before_another = refl;
}

-- ---- damage of a file

-- Damage of the small file with one changed byte.
pub record AreDamages : Type 0 where
  pub no_cluster : with_octet 46 0 ≡ ends BadId 0 46 ∷ []
  pub short_cluster : with_octet 50 0x90 ≡ first ∷ goes_on TooLong 0xA3 61 ∷ ends Truncated 0xBB 67 ∷ []
  pub its_blocks : blocks_of (with_octet 50 0x90) ≡ simple_at (pos 0) 0xAA 54 ∷ []
  pub both_damages : damages_of (with_octet 50 0x90) ≡ damage TooLong 0xA3 61 ∷ damage Truncated 0xBB 67 ∷ []
  pub last_damage : last_of (with_octet 50 0x90) ≡ Some (damage Truncated 0xBB 67)
  pub no_timestamp : with_octet 51 0xE6 ≡ goes_on NoTimestamp 0xA3 54 ∷ []
  pub no_last_damage : last_of (with_octet 51 0xE6) ≡ None
  pub empty_timestamp : with_octet 52 0x80 ≡ goes_on BadId 0 53 ∷ []
  pub short_block : with_octet 55 0x82 ≡ goes_on ShortBlock 0xA3 54 ∷ []
  pub unknown_size : with_octet 55 0xFF ≡ goes_on UnknownSize 0xA3 54 ∷ []
  pub no_track : with_octet 56 0 ≡ goes_on ShortBlock 0xA3 54 ∷ []
  pub bad_lace : with_octet 59 0x86 ≡ goes_on BadLacing 0xA3 54 ∷ []
  pub long_block : with_octet 62 0x86 ≡ first ∷ goes_on Truncated 0xA3 61 ∷ []

pub damages : AreDamages
unfolding events_of elements elements_within element_in id_at size_at simple_block block_group content_in lace_in sizes_in size_in entry_of table count_leading_zeros
damages = record {
  no_cluster = refl;
  short_cluster = refl;
  its_blocks = refl;
  both_damages = refl;
  last_damage = refl;
  no_timestamp = refl;
  no_last_damage = refl;
  empty_timestamp = refl;
  short_block = refl;
  unknown_size = refl;
  no_track = refl;
  bad_lace = refl;
  long_block = refl;
}

-- Each of these prefixes of the small file gives the events `events`.
abbrev CutsGive : List ℕ → List Event → Type 0
CutsGive places events = map cut places ≡ replicate (length places) events

-- A Cluster that is cut between its children has no damage. A cut elsewhere is a damage that ends the reading.
pub record AreCut : Type 0 where
  pub between : CutsGive (46 ∷ 51 ∷ 54 ∷ []) []
  pub in_cluster_id : CutsGive (47 ∷ 48 ∷ 49 ∷ []) (ends Truncated 0 46 ∷ [])
  pub before_cluster_size : CutsGive (50 ∷ []) (ends Truncated 0x1F43B675 46 ∷ [])
  pub in_timestamp : CutsGive (52 ∷ 53 ∷ []) (ends Truncated 0xE7 51 ∷ [])
  pub in_first : CutsGive (55 ∷ 56 ∷ 57 ∷ 58 ∷ 59 ∷ 60 ∷ []) (ends Truncated 0xA3 54 ∷ [])
  pub behind_first : CutsGive (61 ∷ []) (first ∷ [])
  pub in_second : CutsGive (62 ∷ 63 ∷ 64 ∷ 65 ∷ 66 ∷ 67 ∷ []) (first ∷ ends Truncated 0xA3 61 ∷ [])

pub cuts : AreCut
unfolding events_of elements elements_within element_in id_at size_at simple_block block_group content_in entry_of table count_leading_zeros
cuts = record {
  between = refl;
  in_cluster_id = refl;
  before_cluster_size = refl;
  in_timestamp = refl;
  in_first = refl;
  behind_first = refl;
  in_second = refl;
}

-- Two Clusters with damage in the first one, whose size is known or not, or after both.
pub record AreBehindDamages : Type 0 where
  pub closed : given_by 21 (Known 69) (slice_set two_clusters 62 0x82) ≡ first ∷ goes_on ShortBlock 0xA3 61 ∷ simple 40 0xAA 76 ∷ simple 60 0xBB 83 ∷ []
  pub not_closed : given_by 21 (Known 69) (slice_set (slice_set two_clusters 62 0x82) 50 0xFF) ≡ first ∷ ends ShortBlock 0xA3 61 ∷ []
  pub child_of_closed : given_by 21 (Known 69) (slice_set two_clusters 61 0) ≡ first ∷ goes_on BadId 0 61 ∷ simple 40 0xAA 76 ∷ simple 60 0xBB 83 ∷ []
  pub child_of_not_closed : given_by 21 (Known 69) (slice_set (slice_set two_clusters 61 0) 50 0xFF) ≡ first ∷ ends BadId 0 61 ∷ []
  pub behind_not_closed : given_by 21 (Known 70) (slice_set two_clusters 50 0xFF ++ 0 ∷ []) ≡ first ∷ second ∷ simple 40 0xAA 76 ∷ simple 60 0xBB 83 ∷ ends BadId 0 90 ∷ []
  pub in_both : given_by 21 (Known 69) (slice_set (slice_set two_clusters 62 0x82) 84 0x82) ≡ first ∷ goes_on ShortBlock 0xA3 61 ∷ simple 40 0xAA 76 ∷ goes_on ShortBlock 0xA3 83 ∷ []

pub behind_damages : AreBehindDamages
unfolding events_of elements elements_within element_in id_at size_at simple_block block_group content_in entry_of table count_leading_zeros
behind_damages = record {
  closed = refl;
  not_closed = refl;
  child_of_closed = refl;
  child_of_not_closed = refl;
  behind_not_closed = refl;
  in_both = refl;
}

-- ---- a Cluster of a Segment that begins a file: its children begin at 12

-- an Element with a size of two bytes
abbrev element : List ℕ → List ℕ → List ℕ
element id body = id ++ (0x40 + length body / 256) ∷ length body % 256 ∷ body

-- the events of a Segment with one Cluster
abbrev given_by_cluster : Rules → List ℕ → List Event
given_by_cluster r children =
    let cluster = element (0x1F ∷ 0x43 ∷ 0xB6 ∷ 0x75 ∷ []) children in
    events_of r (element (0x18 ∷ 0x53 ∷ 0x80 ∷ 0x67 ∷ []) cluster) (record { id = 0x18538067; offset = 0; body = 6; size = Known (length cluster) })

-- a Timestamp
abbrev timestamp : List ℕ → List ℕ
timestamp octets = 0xE7 ∷ (0x80 + length octets) ∷ octets

-- a SimpleBlock of track 1 with the frame AA
abbrev simple_block_octets : List ℕ
simple_block_octets = 0xA3 ∷ 0x85 ∷ 0x81 ∷ 0 ∷ 0 ∷ 0x80 ∷ 0xAA ∷ []

pub record AreTimestamps : Type 0 where
  pub empty : given_by_cluster (with_limits 1000000) (timestamp [] ++ simple_block_octets) ≡ simple 0 0xAA 14 ∷ []
  pub two_octets : given_by_cluster (with_limits 1000000) (timestamp (1 ∷ 2 ∷ []) ++ simple_block_octets) ≡ simple 258 0xAA 16 ∷ []
  pub second_one : given_by_cluster (with_limits 1000000) (timestamp (7 ∷ []) ++ timestamp (9 ∷ []) ++ simple_block_octets) ≡ simple 7 0xAA 18 ∷ []
  pub behind_block : given_by_cluster (with_limits 1000000) (simple_block_octets ++ timestamp (7 ∷ [])) ≡ goes_on NoTimestamp 0xA3 12 ∷ []
  pub nine_octets : given_by_cluster (with_limits 1000000) (timestamp (replicate 9 0) ++ simple_block_octets) ≡ goes_on BadValue 0xE7 12 ∷ []
  pub later_nine_octets : given_by_cluster (with_limits 1000000) (timestamp (7 ∷ []) ++ simple_block_octets ++ timestamp (replicate 9 0)) ≡ simple 7 0xAA 15 ∷ goes_on BadValue 0xE7 22 ∷ []

pub timestamps : AreTimestamps
unfolding events_of elements elements_within element_in id_at size_at simple_block block_group content_in entry_of table count_leading_zeros
timestamps = record { empty = refl; two_octets = refl; second_one = refl; behind_block = refl; nine_octets = refl; later_nine_octets = refl }

-- ---- a BlockGroup: it begins at 15 and its children at 18

-- the events of a Cluster with the Timestamp 10 and a group with the children `children`
abbrev given_by_group : List ℕ → List Event
given_by_group children = given_by_cluster (with_limits 1000000) (timestamp (10 ∷ []) ++ element (0xA0 ∷ []) children)

-- a Block of track 1, 5 ticks later, which isn't shown, with the frame CC. Its flags have the bits of a keyframe and of a discardable one, which
-- a Block doesn't have.
abbrev block_octets : List ℕ
block_octets = 0xA1 ∷ 0x85 ∷ 0x81 ∷ 0 ∷ 5 ∷ 0x89 ∷ 0xCC ∷ []

-- another Block
abbrev other_block : List ℕ
other_block = 0xA1 ∷ 0x85 ∷ 0x82 ∷ 0 ∷ 6 ∷ 0 ∷ 0xDD ∷ []

abbrev duration : ℕ → List ℕ
duration ticks = 0x9B ∷ 0x81 ∷ ticks ∷ []

abbrev reference : ℕ → List ℕ
reference octet = 0xFB ∷ 0x81 ∷ octet ∷ []

-- a BlockAdditions
abbrev additions : List ℕ
additions = 0x75 ∷ 0xA1 ∷ 0x81 ∷ 7 ∷ []

-- a CodecState, a DiscardPadding and an Element that the table doesn't have
abbrev others : List ℕ
others = 0xA4 ∷ 0x81 ∷ 1 ∷ 0x75 ∷ 0xA2 ∷ 0x81 ∷ 5 ∷ 0x41 ∷ 0x42 ∷ 0x80 ∷ []

-- a Void, a CRC-32 and a Slices
abbrev skipped : List ℕ
skipped = 0xEC ∷ 0x81 ∷ 0 ∷ 0xBF ∷ 0x84 ∷ 1 ∷ 2 ∷ 3 ∷ 4 ∷ 0x8E ∷ 0x80 ∷ []

-- a DiscardPadding of nine bytes
abbrev bad_padding : List ℕ
bad_padding = 0x75 ∷ 0xA2 ∷ 0x89 ∷ replicate 9 0

-- the block of a group that has only the Block
abbrev grouped : Block
grouped = record {
  track = 1;
  time = pos 15000000;
  key = true;
  invisible = true;
  discardable = false;
  group = true;
  lace = lace.None;
  frames = (0xCC ∷ []) ∷ [];
  duration = None;
  references = [];
  kept = [];
  offset = 15;
}

-- A group with the children `children` gives the block `b`.
abbrev IsGroup : List ℕ → Block → Type 0
IsGroup children b = given_by_group children ≡ block b ∷ []

-- A group with the children `children` has this damage.
abbrev IsWrong : List ℕ → Kind → ℕ → ℕ → Type 0
IsWrong children kind id offset = given_by_group children ≡ goes_on kind id offset ∷ []

pub record AreGroups : Type 0 where
  pub alone : IsGroup block_octets grouped
  pub whole : IsGroup (block_octets ++ duration 20 ++ reference 0xFF ++ reference 2 ++ additions ++ skipped) (record grouped { key = false; duration = Some 20000000; references = negsuc 999999 ∷ pos 2000000 ∷ []; kept = additions })
  pub kept_in_order : IsGroup (others ++ skipped ++ block_octets ++ additions) (record grouped { kept = others ++ additions })
  pub two_blocks : IsGroup (block_octets ++ other_block) grouped
  pub other_first : IsGroup (other_block ++ block_octets) (record grouped { track = 2; time = pos 16000000; invisible = false; frames = (0xDD ∷ []) ∷ [] })
  pub two_durations : IsGroup (duration 20 ++ block_octets ++ duration 30) (record grouped { duration = Some 20000000 })
  pub empty_duration : IsGroup (block_octets ++ (0x9B ∷ 0x80 ∷ [])) (record grouped { duration = Some 0 })

pub groups : AreGroups
unfolding events_of elements elements_within element_in id_at size_at simple_block block_group content_in entry_of table count_leading_zeros
groups = record { alone = refl; whole = refl; kept_in_order = refl; two_blocks = refl; other_first = refl; two_durations = refl; empty_duration = refl }

pub record AreWrongGroups : Type 0 where
  pub empty : IsWrong [] MissingChild 0xA1 15
  pub no_block : IsWrong (duration 20) MissingChild 0xA1 15
  pub bad_value : IsWrong (block_octets ++ bad_padding) BadValue 0x75A2 25
  pub bad_value_first : IsWrong bad_padding BadValue 0x75A2 18
  pub long_duration : IsWrong (block_octets ++ (0x9B ∷ 0x89 ∷ replicate 9 0)) BadValue 0x9B 25
  pub child_first : IsWrong (0 ∷ bad_padding) BadId 0 18
  pub value_before_child : IsWrong (bad_padding ++ 0 ∷ []) BadValue 0x75A2 18
  pub short_block : IsWrong (0xA1 ∷ 0x82 ∷ 0x81 ∷ 0 ∷ []) ShortBlock 0xA1 15
  pub bad_lace : IsWrong (0xA1 ∷ 0x85 ∷ 0x81 ∷ 0 ∷ 0 ∷ 2 ∷ 1 ∷ []) BadLacing 0xA1 15
  pub no_timestamp : given_by_cluster (with_limits 1000000) (element (0xA0 ∷ []) (block_octets ++ bad_padding)) ≡ goes_on NoTimestamp 0xA0 12 ∷ []
  pub long_child : given_by_cluster (with_limits 1000000) (timestamp (10 ∷ []) ++ (0xA0 ∷ 0x86 ∷ []) ++ block_octets) ≡ goes_on TooLong 0xA1 17 ∷ []

pub wrong_groups : AreWrongGroups
unfolding events_of elements elements_within element_in id_at size_at simple_block block_group content_in lace_in sizes_in size_in entry_of table count_leading_zeros
wrong_groups = record {
  empty = refl;
  no_block = refl;
  bad_value = refl;
  bad_value_first = refl;
  long_duration = refl;
  child_first = refl;
  value_before_child = refl;
  short_block = refl;
  bad_lace = refl;
  no_timestamp = refl;
  long_child = refl;
}

-- ---- the limits of a reader, which aren't the format's

-- `n` references to the block a tick later, of 3 bytes each
abbrev references : ℕ → List ℕ
references n = flat_map reference (replicate n 1)

-- the block of a group with `n` references
abbrev referring : ℕ → Block
referring n = record grouped { key = false; references = replicate n (pos 1000000) }

-- the events of a Cluster with the Timestamp `ticks` and a SimpleBlock
abbrev given_at : Rules → List ℕ → List Event
given_at r ticks = given_by_cluster r (timestamp ticks ++ simple_block_octets)

-- a SimpleBlock 32768 ticks before the Cluster's Timestamp
abbrev early_block : List ℕ
early_block = 0xA3 ∷ 0x85 ∷ 0x81 ∷ 0x80 ∷ 0 ∷ 0x80 ∷ 0xAA ∷ []

-- a Cluster with a group whose BlockDuration has eight bytes: `octet`, then zeros
abbrev with_duration : ℕ → List ℕ
with_duration octet = timestamp (10 ∷ []) ++ element (0xA0 ∷ []) (block_octets ++ (0x9B ∷ 0x88 ∷ octet ∷ replicate 7 0))

-- the same for its ReferenceBlock
abbrev with_reference : ℕ → List ℕ
with_reference octet = timestamp (10 ∷ []) ++ element (0xA0 ∷ []) (block_octets ++ (0xFB ∷ 0x88 ∷ octet ∷ replicate 7 0))

-- the block of the group with ticks of one nanosecond
abbrev grouped_at_15 : Block
grouped_at_15 = record grouped { time = pos 15 }

pub record AreTimes : Type 0 where
  pub largest : given_at (with_limits 1) (replicate 7 0xFF) ≡ block (simple_at (pos (2 ^ 56 - 1)) 0xAA 21) ∷ []
  pub too_large : given_at (with_limits (2 ^ 28)) (0x10 ∷ 0 ∷ 0 ∷ 0 ∷ []) ≡ goes_on TimeTooLarge 0xA3 18 ∷ []
  pub free_of_limits : given_at (without_limits (2 ^ 28)) (0x10 ∷ 0 ∷ 0 ∷ 0 ∷ []) ≡ block (simple_at (pos (2 ^ 56)) 0xAA 18) ∷ []
  pub too_early : given_by_cluster (with_limits (2 ^ 41)) (timestamp (0 ∷ []) ++ early_block) ≡ goes_on TimeTooLarge 0xA3 15 ∷ []
  pub earliest : given_by_cluster (with_limits (2 ^ 41 - 1)) (timestamp (0 ∷ []) ++ early_block) ≡ block (simple_at (negsuc (2 ^ 56 - 2 ^ 15 - 1)) 0xAA 15) ∷ []
  pub too_long : given_by_cluster (with_limits 1) (with_duration 1) ≡ goes_on TimeTooLarge 0xA1 15 ∷ []
  pub too_long_free_of_limits : given_by_cluster (without_limits 1) (with_duration 1) ≡ block (record grouped_at_15 { duration = Some (2 ^ 56) }) ∷ []
  pub too_far : given_by_cluster (with_limits 1) (with_reference 0xFF) ≡ goes_on TimeTooLarge 0xA1 15 ∷ []
  pub too_far_free_of_limits : given_by_cluster (without_limits 1) (with_reference 0xFF) ≡ block (record grouped_at_15 { key = false; references = negsuc (2 ^ 56 - 1) ∷ [] }) ∷ []

pub times : AreTimes
unfolding events_of elements elements_within element_in id_at size_at simple_block block_group content_in entry_of table count_leading_zeros
times = record {
  largest = refl;
  too_large = refl;
  free_of_limits = refl;
  too_early = refl;
  earliest = refl;
  too_long = refl;
  too_long_free_of_limits = refl;
  too_far = refl;
  too_far_free_of_limits = refl;
}

-- 64 references, and one more; the last of them begins at 217.
pub record AreCounts : Type 0 where
  pub most : given_by_group (block_octets ++ references 64) ≡ block (referring 64) ∷ []
  pub one_more : given_by_group (block_octets ++ references 65) ≡ goes_on TooMany 0xFB 217 ∷ []
  pub free_of_limits : given_by_cluster (without_limits 1000000) (timestamp (10 ∷ []) ++ element (0xA0 ∷ []) (block_octets ++ references 65)) ≡ block (referring 65) ∷ []
  pub short_block_first : given_by_group (references 65 ++ (0xA1 ∷ 0x82 ∷ 0x81 ∷ 0 ∷ [])) ≡ goes_on ShortBlock 0xA1 15 ∷ []

pub counts : AreCounts
unfolding events_of elements elements_within element_in id_at size_at simple_block block_group content_in entry_of table count_leading_zeros
counts = record { most = refl; one_more = refl; free_of_limits = refl; short_block_first = refl }

-- the header of a block with a body of `octets` bytes. A block that is too large is reported before all other damage, and a missing Timestamp
-- before damage of the content.
abbrev sized : ℕ → ℕ → Header
sized id octets = record { id = id; offset = 20; body = 25; size = Known octets }

pub record AreSizes : Type 0 where
  pub too_large : simple_block (with_limits 1) [] None (sized 0xA3 (32 * 2 ^ 20 + 1)) ≡ Err (damage BlockTooLarge 0xA3 20)
  pub too_large_group : block_group (with_limits 1) [] (Some 0) (sized 0xA0 (32 * 2 ^ 20 + 1)) ≡ Err (damage BlockTooLarge 0xA0 20)
  pub largest : simple_block (with_limits 1) [] None (sized 0xA3 (32 * 2 ^ 20)) ≡ Err (damage NoTimestamp 0xA3 20)
  pub free_of_limits : simple_block (without_limits 1) [] None (sized 0xA3 (32 * 2 ^ 20 + 1)) ≡ Err (damage NoTimestamp 0xA3 20)

pub sizes : AreSizes
unfolding simple_block block_group
sizes = record { too_large = refl; too_large_group = refl; largest = refl; free_of_limits = refl }
