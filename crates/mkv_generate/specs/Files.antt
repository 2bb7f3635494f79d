-- The two files that `generate` writes itself: RFC 9559, section 5.1.4 (Tracks Element). Their contents are this project's.
use Rattle.std.specs.Prelude.{◌≡◌, ℕ, List, [], ◌∷◌, codes, false, map, None}
use Rattle.mkv_schema.specs.declared.ids.TheConstants.{TRACK_ENTRY, TRACK_NUMBER, TRACK_UID, TRACK_TYPE, CODEC_ID}
use Rattle.tree_format.specs.Node.{Node, leaf, master, nodes_of}
use Rattle.tree_format.specs.Children.{uint_leaf}
use Rattle.output_records.specs.Info.{output_info}
use Rattle.output_records.specs.Tracks.{output_tracks}
use Rattle.output_model.specs.declared.heads.ClusterLimits.{ClusterLimits}
use Rattle.output_model.specs.declared.front.Front as given
use Rattle.output_model.specs.declared.rule.CueRule.{CueRule}
use Rattle.output_model.specs.declared.rule.CueRule.TheVariants.{Key, Never}
use Rattle.output_model.specs.Cued.{document_of}
use Rattle.output_model.specs.Document.{Document, Front}
use Rattle.output_model.specs.OutputBlock.{OutputBlock}
use Rattle.merge_model.specs.Merged.{in_lane}
use Rattle.mkv_generate.specs.declared.blocks.MediaKind.{MediaKind}
use Rattle.mkv_generate.specs.declared.blocks.MediaKind.TheVariants.{Pictures, Sounds}
use Rattle.mkv_generate.specs.Blocks.{blocks_of}

-- the TrackType in the file of this kind, pictures or sounds: video or audio. `track_of` uses it.
abbrev pub type_of : MediaKind → ℕ
type_of Pictures = 1
type_of Sounds = 2

-- the CodecID in the file of this kind, pictures or sounds. `track_of` uses it.
abbrev pub codec_of : MediaKind → List ℕ
codec_of Pictures = codes "V_TEST"
codec_of Sounds = codes "A_TEST"

-- the TrackEntry of the generated file of the kind `medium`; TrackNumber and TrackUID are 1. `front_of` uses it.
abbrev pub track_of : MediaKind → Node
track_of medium = master TRACK_ENTRY 0 (nodes_of (
    uint_leaf TRACK_NUMBER 1 ∷ uint_leaf TRACK_UID 1 ∷ uint_leaf TRACK_TYPE (type_of medium) ∷ leaf CODEC_ID 0 (codec_of medium) ∷ []))

-- the Elements before the Clusters of the generated file of the kind `medium`, with 1,000,000 ns per tick and without a Duration. `file_of` uses
-- them.
abbrev pub front_of : MediaKind → Front
front_of medium = record { webm = false; lasting = None; info = output_info 1000000 []; tracks = output_tracks (track_of medium ∷ []); attachments = [] }

-- The code's `f` has the Elements before the Clusters of the generated file of the kind `medium`. The contract of `front_of` in the code has it.
pub record IsFrontOf (medium : MediaKind) (f : given.Front) : Type 0 where
  pub webm : f.webm ≡ false
  pub duration : f.duration ≡ false
  pub info : f.info ≡ output_info 1000000 []
  pub tracks : f.tracks ≡ output_tracks (track_of medium ∷ [])
  pub attachments : f.attachments ≡ []

-- the limits of a Cluster that a merge has by default, and a generated file: 65,535 blocks and 5 s. `file_of` uses them.
abbrev pub default_limits : ClusterLimits
default_limits = record { blocks = 65535; span = 5000000000; scale = 1000000 }

-- the rule for the cue points of the file of this kind: keyframes of pictures, and no sounds. `file_of` uses it.
abbrev pub rule_of : MediaKind → CueRule
rule_of Pictures = Key
rule_of Sounds = Never

-- the blocks of the generated file of the kind `medium` for `n` pictures, on output track 1. `file_of` uses them.
abbrev pub lane_blocks : MediaKind → ℕ → List OutputBlock
lane_blocks medium n = map (in_lane 1) (blocks_of medium n)

-- the whole generated file of the kind `medium` for `n` pictures, as its Elements. `generate` writes it.
abbrev pub file_of : MediaKind → ℕ → Document
file_of medium n = document_of default_limits (rule_of medium ∷ []) (front_of medium) None None (lane_blocks medium n)
