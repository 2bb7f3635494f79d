-- Records with bytes written by hand. They are computed: a wrong definition doesn't check.
use Rattle.std.proofs.Common.{◌≡◌, [], ◌∷◌, codes, refl}
use Rattle.ebml_numbers.specs.Number.{uint_width, least_size_width}
use Rattle.mkv_schema.specs.declared.ids.TheConstants.{VOID, CRC_32, TRACK_ENTRY, TRACK_NUMBER}
use Rattle.tree_format.specs.Node.{leaf, master, nodes_of}
use Rattle.tree_format.specs.NormalForm.{octets}
use Rattle.tree_format.specs.Standing.{kept}
use Rattle.output_records.specs.Info.{output_info}
use Rattle.output_records.specs.Tracks.{output_tracks}

-- 38 bytes, without a title.
pub info-plain : octets (output_info 1000000 []) ≡ (0x15 ∷ 0x49 ∷ 0xA9 ∷ 0x66 ∷ 0xA1 ∷ 0x2A ∷ 0xD7 ∷ 0xB1 ∷ 0x83 ∷ 0x0F ∷ 0x42 ∷ 0x40 ∷ 0x4D ∷ 0x80 ∷ 0x8A ∷ 0x6D ∷ 0x6B ∷ 0x76 ∷ 0x73 ∷ 0x75 ∷ 0x69 ∷ 0x74 ∷ 0x65 ∷ 0x20 ∷ 0x31 ∷ 0x57 ∷ 0x41 ∷ 0x8A ∷ 0x6D ∷ 0x6B ∷ 0x76 ∷ 0x73 ∷ 0x75 ∷ 0x69 ∷ 0x74 ∷ 0x65 ∷ 0x20 ∷ 0x31 ∷ [])
unfolding uint_width least_size_width
info-plain = refl

-- The title follows the TimestampScale.
pub info-titled : octets (output_info 1000 (codes "Hi")) ≡ (0x15 ∷ 0x49 ∷ 0xA9 ∷ 0x66 ∷ 0xA5 ∷ 0x2A ∷ 0xD7 ∷ 0xB1 ∷ 0x82 ∷ 0x03 ∷ 0xE8 ∷ 0x7B ∷ 0xA9 ∷ 0x82 ∷ 0x48 ∷ 0x69 ∷ 0x4D ∷ 0x80 ∷ 0x8A ∷ 0x6D ∷ 0x6B ∷ 0x76 ∷ 0x73 ∷ 0x75 ∷ 0x69 ∷ 0x74 ∷ 0x65 ∷ 0x20 ∷ 0x31 ∷ 0x57 ∷ 0x41 ∷ 0x8A ∷ 0x6D ∷ 0x6B ∷ 0x76 ∷ 0x73 ∷ 0x75 ∷ 0x69 ∷ 0x74 ∷ 0x65 ∷ 0x20 ∷ 0x31 ∷ [])
unfolding uint_width least_size_width
info-titled = refl

-- The Tracks, an entry and its number are three elements; others don't count.
pub kept-three : kept (output_tracks (leaf CRC_32 0 (1 ∷ 2 ∷ 3 ∷ 4 ∷ []) ∷ master TRACK_ENTRY 0 (nodes_of (leaf TRACK_NUMBER 0 (1 ∷ []) ∷ leaf VOID 0 [] ∷ [])) ∷ leaf VOID 0 [] ∷ [])) ≡ 3
kept-three = refl
