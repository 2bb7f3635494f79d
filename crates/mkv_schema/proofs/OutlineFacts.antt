-- Computed outlines of small files. A wrong definition fails here.
use Rattle.std.proofs.Common.{◌≡◌, ℕ, [], ◌∷◌, ◌++◌, List, take, slice_set, replicate, Option, Some, None, Result, Ok, Err, refl}
use Rattle.std.specs.Int.Count.{count_leading_zeros}
use Rattle.std.specs.Str.{is_utf8, chars}
use lib.Utf8.{encode}
use Rattle.ebml_numbers.specs.declared.number.Size.{Size}
use Rattle.ebml_numbers.specs.declared.number.Size.TheVariants.{Known, Unknown}
use Rattle.ebml_numbers.specs.Number.{id_at, size_at}
use Rattle.mkv_schema.specs.Table.{table}
use Rattle.mkv_schema.specs.Schema.{entry_of}
use Rattle.mkv_io.specs.declared.damage.Damage.{Damage}
use Rattle.mkv_io.specs.declared.damage.Kind.{Kind}
use Rattle.mkv_io.specs.declared.damage.Kind.TheVariants.{NotEbml, BadId, TooLong, Truncated, DocType, NoSegment, UnknownSize}
use Rattle.mkv_schema.specs.declared.element.Header.{Header}
use Rattle.mkv_schema.specs.Element.{element_in, element_at, anywhere, in_tree, damage}
use Rattle.mkv_schema.specs.Elements.{elements, elements_within}
use Rattle.mkv_schema.specs.Outline.{Outlined, outline_of, ebml_header, segment_of}

-- the parts of an outline that are compared: the Segment's size; ID, offset and size of each Element of level 1; the damage; and the end
pub record Shown : Type 0 where
  pub segment : Size
  pub list : List (ℕ × ℕ × Size)
  pub damage : Option Damage
  pub end : ℕ

abbrev shown_header : Header → ℕ × ℕ × Size
shown_header h = (h.id, h.offset, h.size)

abbrev shown_list : List Header → List (ℕ × ℕ × Size)
shown_list [] = []
shown_list (h ∷ hs) = shown_header h ∷ shown_list hs

abbrev shown : Result Outlined Damage → Result Shown Damage
shown (Err d) = Err d
shown (Ok o) = Ok (record { segment = o.segment.size; list = shown_list o.list; damage = o.damage; end = o.end })

-- the outline with this size of the Segment, these Elements and no damage
abbrev whole : Size → List (ℕ × ℕ × Size) → ℕ → Result Shown Damage
whole size list end = Ok (record { segment = size; list = list; damage = None; end = end })

-- the same with the damage `d`
abbrev damaged : Size → List (ℕ × ℕ × Size) → Damage → ℕ → Result Shown Damage
damaged size list d end = Ok (record { segment = size; list = list; damage = Some d; end = end })

abbrev outline : List ℕ → Result Shown Damage
outline bytes = shown (outline_of 0 bytes)

abbrev refused : Kind → ℕ → ℕ → Result Shown Damage
refused kind id offset = Err (damage kind id offset)

-- an EBML header of 16 bytes with the DocType `matroska`
abbrev header : List ℕ
header =
    0x1A ∷ 0x45 ∷ 0xDF ∷ 0xA3 ∷ 0x8B ∷ 0x42 ∷ 0x82 ∷ 0x88 ∷ 0x6D ∷ 0x61 ∷ 0x74 ∷ 0x72 ∷ 0x6F ∷ 0x73 ∷ 0x6B ∷ 0x61 ∷ []

-- the same with three zero bytes at the end of its DocType
abbrev header_with_zeros : List ℕ
header_with_zeros =
    0x1A ∷ 0x45 ∷ 0xDF ∷ 0xA3 ∷ 0x8E ∷ 0x42 ∷ 0x82 ∷ 0x8B ∷ 0x6D ∷ 0x61 ∷ 0x74 ∷ 0x72 ∷ 0x6F ∷ 0x73 ∷ 0x6B ∷ 0x61 ∷
    0 ∷ 0 ∷ 0 ∷ []

-- a Tracks of 25 bytes with one audio track
abbrev tracks : List ℕ
tracks =
    0x16 ∷ 0x54 ∷ 0xAE ∷ 0x6B ∷ 0x94 ∷ 0xAE ∷ 0x92 ∷ 0xD7 ∷ 0x81 ∷ 1 ∷ 0x73 ∷ 0xC5 ∷ 0x81 ∷ 5 ∷ 0x83 ∷ 0x81 ∷
    2 ∷ 0x86 ∷ 0x86 ∷ 0x41 ∷ 0x5F ∷ 0x4F ∷ 0x50 ∷ 0x55 ∷ 0x53 ∷ []

-- a Timestamp and two SimpleBlocks, 17 bytes
abbrev cluster_body : List ℕ
cluster_body =
    0xE7 ∷ 0x81 ∷ 0 ∷ 0xA3 ∷ 0x85 ∷ 0x81 ∷ 0 ∷ 0 ∷ 0x80 ∷ 0xAA ∷ 0xA3 ∷ 0x85 ∷ 0x81 ∷ 0 ∷ 0x14 ∷ 0x80 ∷
    0xBB ∷ []

-- the header and a Segment with Tracks and a Cluster: 68 bytes
abbrev small : List ℕ
small = header ++ (0x18 ∷ 0x53 ∷ 0x80 ∷ 0x67 ∷ 0xAF ∷ []) ++ tracks ++ (0x1F ∷ 0x43 ∷ 0xB6 ∷ 0x75 ∷ 0x91 ∷ []) ++ cluster_body

-- the same as a live stream: unknown sizes, and Cues at the end; 87 bytes
abbrev streamed : List ℕ
streamed =
    header ++ (0x18 ∷ 0x53 ∷ 0x80 ∷ 0x67 ∷ 1 ∷ replicate 7 0xFF) ++ tracks
    ++ (0x1F ∷ 0x43 ∷ 0xB6 ∷ 0x75 ∷ 1 ∷ replicate 7 0xFF) ++ cluster_body ++ (0x1C ∷ 0x53 ∷ 0xBB ∷ 0x6B ∷ 0x80 ∷ [])

abbrev tracks_at : ℕ → ℕ × ℕ × Size
tracks_at p = (0x1654AE6B, p, Known 20)

abbrev cluster_at : ℕ → Size → ℕ × ℕ × Size
cluster_at p size = (0x1F43B675, p, size)

pub record AreOutlines : Type 0 where
  pub segment_alone : outline (header ++ (0x18 ∷ 0x53 ∷ 0x80 ∷ 0x67 ∷ 0x80 ∷ [])) ≡ whole (Known 0) [] 21
  pub zeros_behind_text : outline (header_with_zeros ++ (0x18 ∷ 0x53 ∷ 0x80 ∷ 0x67 ∷ 0x80 ∷ [])) ≡ whole (Known 0) [] 24
  pub small_file : outline small ≡ whole (Known 47) (tracks_at 21 ∷ cluster_at 46 (Known 17) ∷ []) 68
  pub streamed_file : outline streamed ≡ whole Unknown (tracks_at 28 ∷ cluster_at 53 Unknown ∷ (0x1C53BB6B, 82, Known 0) ∷ []) 87

pub outlines : AreOutlines
unfolding is_utf8 chars encode outline_of ebml_header segment_of elements elements_within element_in id_at size_at entry_of table count_leading_zeros
outlines = record { segment_alone = refl; zeros_behind_text = refl; small_file = refl; streamed_file = refl }

-- the small file with the byte `octet` at the offset `at`
abbrev with_octet : ℕ → ℕ → List ℕ
with_octet at octet = slice_set small at octet

-- the outline of the first `n` bytes of the small file
abbrev cut : ℕ → Result Shown Damage
cut n = outline (take n small)

pub record AreRefusals : Type 0 where
  pub nothing : cut 0 ≡ refused NotEbml 0 0
  pub no_mark : cut 3 ≡ refused NotEbml 0 0
  pub other_mark : outline (with_octet 0 0x1B) ≡ refused NotEbml 0 0
  pub no_size : cut 4 ≡ refused Truncated 0x1A45DFA3 0
  pub half_a_header : cut 15 ≡ refused Truncated 0x1A45DFA3 0
  pub no_segment : cut 16 ≡ refused NoSegment 0 16
  pub half_an_id : cut 19 ≡ refused Truncated 0 16
  pub no_segment_size : cut 20 ≡ refused Truncated 0x18538067 16
  pub no_id : outline (with_octet 16 0) ≡ refused BadId 0 16
  pub other_doc_type : outline (with_octet 8 0x78) ≡ refused DocType 0x4282 5

pub refusals : AreRefusals
unfolding is_utf8 chars encode outline_of ebml_header segment_of elements elements_within element_in id_at size_at entry_of table count_leading_zeros
refusals = record {
  nothing = refl;
  no_mark = refl;
  other_mark = refl;
  no_size = refl;
  half_a_header = refl;
  no_segment = refl;
  half_an_id = refl;
  no_segment_size = refl;
  no_id = refl;
  other_doc_type = refl;
}

-- A file that is cut after an Element is whole. A cut elsewhere is a damage.
pub record AreDamages : Type 0 where
  pub unknown_segment : outline (with_octet 20 0xFF) ≡ whole Unknown (tracks_at 21 ∷ cluster_at 46 (Known 17) ∷ []) 68
  pub bad_id_first : outline (with_octet 21 0) ≡ damaged (Known 47) [] (damage BadId 0 21) 68
  pub bad_id : outline (with_octet 46 0) ≡ damaged (Known 47) (tracks_at 21 ∷ []) (damage BadId 0 46) 68
  pub cut_behind_segment : cut 21 ≡ whole (Known 47) [] 21
  pub cut_in_tracks : cut 45 ≡ damaged (Known 47) [] (damage Truncated 0x1654AE6B 21) 45
  pub cut_behind_tracks : cut 46 ≡ whole (Known 47) (tracks_at 21 ∷ []) 46
  pub cut_in_id : cut 49 ≡ damaged (Known 47) (tracks_at 21 ∷ []) (damage Truncated 0 46) 49
  pub cut_before_size : cut 50 ≡ damaged (Known 47) (tracks_at 21 ∷ []) (damage Truncated 0x1F43B675 46) 50
  pub cut_in_cluster : cut 60 ≡ whole (Known 47) (tracks_at 21 ∷ cluster_at 46 (Known 17) ∷ []) 60

pub damages : AreDamages
unfolding is_utf8 chars encode outline_of ebml_header segment_of elements elements_within element_in id_at size_at entry_of table count_leading_zeros
damages = record {
  unknown_segment = refl;
  bad_id_first = refl;
  bad_id = refl;
  cut_behind_segment = refl;
  cut_in_tracks = refl;
  cut_behind_tracks = refl;
  cut_in_id = refl;
  cut_before_size = refl;
  cut_in_cluster = refl;
}

-- Elements at a place: the byte `80` in a ChapterAtom and elsewhere, and a body that passes its parent's end.
pub record AreElements : Type 0 where
  pub display : element_at (in_tree 0xB6) (0x80 ∷ 0x80 ∷ []) 0 2 ≡ Ok (record { id = 0x80; offset = 0; body = 2; size = Known 0 })
  pub no_display : element_at (in_tree 0x45B9) (0x80 ∷ 0x80 ∷ []) 0 2 ≡ Err (damage BadId 0 0)
  pub passes_parent : element_at anywhere (0xEC ∷ 0x82 ∷ 0 ∷ 0 ∷ []) 0 3 ≡ Err (damage TooLong 0xEC 0)
  pub passes_file : element_at anywhere (0xEC ∷ 0x82 ∷ 0 ∷ []) 0 3 ≡ Err (damage Truncated 0xEC 0)
  pub passes_tree : element_at (in_tree 0xAE) (0xEC ∷ 0x82 ∷ 0 ∷ []) 0 3 ≡ Err (damage TooLong 0xEC 0)
  pub unknown_void : element_at anywhere (0xEC ∷ 0xFF ∷ []) 0 2 ≡ Err (damage UnknownSize 0xEC 0)

pub elements_at : AreElements
unfolding element_in id_at size_at count_leading_zeros
elements_at = record {
  display = refl;
  no_display = refl;
  passes_parent = refl;
  passes_file = refl;
  passes_tree = refl;
  unknown_void = refl;
}
