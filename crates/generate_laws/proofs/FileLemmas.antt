-- Both files that `generate` makes are valid.
use Rattle.std.specs.List.{All}
use Rattle.std.specs.Prelude.{codes}
use Rattle.std.specs.Str.{IsUtf8}
use Rattle.std.proofs.Common.{◌≡◌, ℕ, ◌^◌, ◌≤◌, [], ◌∷◌, length, refl, arith, true}
use Rattle.std.proofs.lemmas.List.{length-map}
use Rattle.std.proofs.lemmas.List.Elements.{All-cons, All-map, All-nil, All-weaker}
use lib.Utf8.{encode}
use Rattle.ebml_numbers.specs.Number.{is_id, least_size_width, uint_width}
use Rattle.mkv_schema.specs.declared.ids.TheConstants.{CODEC_ID, TRACKS, TRACK_ENTRY}
use Rattle.mkv_schema.specs.Schema.{entry_of}
use Rattle.mkv_schema.specs.Table.{table}
use Rattle.tree_format.specs.Node.{Node}
use Rattle.tree_format.specs.NormalForm.{content}
use Rattle.ebml_tree.proofs.LeafLemmas.{text-stands}
use Rattle.file_format.specs.Entry.{type_of}
use Rattle.output_model.specs.OutputBlock.{OutputBlock}
use Rattle.output_model.specs.Sound.{AreTracks, IsRecord}
use Rattle.output_records.specs.Tracks.{output_tracks}
use Rattle.merge_model.specs.Merged.{in_lane}
use Rattle.output_laws.proofs.MergedClusterLemmas.{IsOf}
use Rattle.input_files.proofs.TrackLemmas.{codec-in}
use Rattle.mkv_generate.specs.declared.blocks.MediaKind.{MediaKind}
use Rattle.mkv_generate.specs.declared.blocks.MediaKind.TheVariants.{Pictures, Sounds}
use Rattle.mkv_generate.specs.Blocks.{blocks_of, count_of}
use Rattle.mkv_generate.specs.Files.{lane_blocks, rule_of, track_of}
use Rattle.merge_laws.specs.Merge.{HasNoEncodings}
use Rattle.merge_laws.specs.Sources.{is_taken_type}
use Rattle.generate_laws.specs.Files.{FilesHoldBlocks}
use Rattle.generate_laws.proofs.BlockLemmas.{IsGood, blocks-count, blocks-good, good-in_lane}
use Rattle.generate_laws.proofs.DocumentLemmas.{HasLanes, document-holds}
use Rattle.generate_laws.proofs.LengthLemmas.{IsSmall}

-- ---- Tracks

-- the Tracks of a file
abbrev pub tracks_of : MediaKind → Node
tracks_of medium = output_tracks (track_of medium ∷ [])

pub tracks-long : (medium : MediaKind) → length (content (tracks_of medium)) ≡ 20
unfolding uint_width least_size_width
tracks-long Pictures = refl
tracks-long Sounds = refl

pub picture-text : IsUtf8 (codes "V_TEST")
unfolding encode
picture-text = (codes "V_TEST", (refl, refl))

pub sound-text : IsUtf8 (codes "A_TEST")
unfolding encode
sound-text = (codes "A_TEST", (refl, refl))

tracks-record : (medium : MediaKind) → IsRecord TRACKS (tracks_of medium)
unfolding uint_width entry_of table is_id
tracks-record Pictures = record {
  id = refl;
  master = refl;
  sound = ((refl, (record { id_stands = refl; no_master = refl; value = refl }, (record { id_stands = refl; no_master = refl; value = refl }, (record { id_stands = refl; no_master = refl; value = refl }, (text-stands TRACK_ENTRY CODEC_ID (codes "V_TEST") codec-in picture-text, tt))))), tt);
  limits = record { long = omega (arith, tracks-long Pictures); deep = omega arith };
}
tracks-record Sounds = record {
  id = refl;
  master = refl;
  sound = ((refl, (record { id_stands = refl; no_master = refl; value = refl }, (record { id_stands = refl; no_master = refl; value = refl }, (record { id_stands = refl; no_master = refl; value = refl }, (text-stands TRACK_ENTRY CODEC_ID (codes "A_TEST") codec-in sound-text, tt))))), tt);
  limits = record { long = omega (arith, tracks-long Sounds); deep = omega arith };
}

tracks-are : (medium : MediaKind) → AreTracks (tracks_of medium)
unfolding uint_width entry_of table is_id
tracks-are Pictures = record { is = tracks-record Pictures; read = refl; numbers = (refl, tt); few = omega arith }
tracks-are Sounds = record { is = tracks-record Sounds; read = refl; numbers = (refl, tt); few = omega arith }

-- A merge can select a track with this entry.
abbrev IsTakenEntry : Node → Type 0
IsTakenEntry entry = is_taken_type (type_of entry) ≡ true

pub tracks-lanes : (medium : MediaKind) → HasLanes 1 (tracks_of medium)
unfolding uint_width entry_of table is_id
tracks-lanes Pictures = record { are = tracks-are Pictures; many = refl; short = omega (arith, tracks-long Pictures); few = omega arith; plain = All-cons HasNoEncodings (track_of Pictures) [] refl (All-nil HasNoEncodings); types = All-cons IsTakenEntry (track_of Pictures) [] refl (All-nil IsTakenEntry); usable = λ name place. refl }
tracks-lanes Sounds = record { are = tracks-are Sounds; many = refl; short = omega (arith, tracks-long Sounds); few = omega arith; plain = All-cons HasNoEncodings (track_of Sounds) [] refl (All-nil HasNoEncodings); types = All-cons IsTakenEntry (track_of Sounds) [] refl (All-nil IsTakenEntry); usable = λ name place. refl }

-- ---- its blocks

module _ (medium : MediaKind) (n : ℕ) (few : n ≤ 100000) where
  pub good : All IsGood (lane_blocks medium n)
  good =
      All-map IsGood (in_lane 1) (blocks_of medium n)
      (All-weaker IsGood (λ (b : OutputBlock). IsGood (in_lane 1 b)) (λ b is. good-in_lane 1 b is) (blocks_of medium n) (blocks-good medium n few))

  pub of-lane : All (IsOf 1) (lane_blocks medium n)
  of-lane =
      All-map (IsOf 1) (in_lane 1) (blocks_of medium n)
      (All-weaker IsGood (λ (b : OutputBlock). IsOf 1 (in_lane 1 b)) (λ b is. record { holds = (good-in_lane 1 b is).sound; some = omega arith; most = omega arith }) (blocks_of medium n) (blocks-good medium n few))

  small : All IsSmall (lane_blocks medium n)
  small = All-weaker IsGood IsSmall (λ b is. is.small) (lane_blocks medium n) good

  pub many : length (lane_blocks medium n) ≤ 2 ^ 20
  many = let one = length-map (blocks_of medium n) (in_lane 1) in let all = blocks-count medium n in of medium all one
    where
      of : (m : MediaKind) → length (blocks_of m n) ≡ count_of m n → length (lane_blocks m n) ≡ length (blocks_of m n) → length (lane_blocks m n) ≤ 2 ^ 20
      of Pictures all one = omega arith
      of Sounds all one = omega arith

pub files-hold : FilesHoldBlocks
files-hold medium n few =
    document-holds (rule_of medium ∷ []) (tracks_of medium) 1 (tracks-lanes medium) (lane_blocks medium n) (of-lane medium n few) (small medium n few) (many medium n few)
