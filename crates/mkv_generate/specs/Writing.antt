-- The state of a generated file while its blocks are written. In each effect, `old` and `new` are the states of the files before and after a call.
use Rattle.std.specs.Prelude.{◌≡◌, ℕ, List, ◌∷◌, [], Result, Ok, Err}
use Rattle.mkv_io.specs.Names.{Names}
use Rattle.mkv_io.specs.declared.reads.Reads.{Ghosts}
use Rattle.mkv_io.specs.declared.files.Files as writing
use Rattle.mkv_io.specs.declared.remux_end.RemuxEnd.{RemuxEnd}
use Rattle.output_model.specs.OutputBlock.{OutputBlock}
use Rattle.output_model.specs.Document.{Document, cues_for}
use Rattle.output_model.specs.Cued.{is_cue}
use Rattle.merge_model.specs.Merged.{in_lane}
use Rattle.cluster_writer.specs.Gathered.{Gathered}
use Rattle.cues_seekhead.specs.OpenOutput.{OpenOutput}
use Rattle.cues_seekhead.specs.Draft.{StandsDrafted, draft_of}
use Rattle.remuxer.specs.Stands.{HasAll, Stands}
use Rattle.remuxer.specs.declared.counts.Counts.{Counts}
use Rattle.mkv_generate.specs.declared.blocks.MediaKind.{MediaKind}
use Rattle.mkv_generate.specs.Blocks.{block_of}
use Rattle.mkv_generate.specs.Files.{lane_blocks, rule_of}

-- In the state `files`, the output `o` of the kind `medium` with the name `name` is incomplete: the blocks `left` of its content `d` remain. The
-- names were `before` when it was created. `g` is the Cluster that is being filled. Its counts may be any. Used by `AddsOne` and `AddsAll`.
pub record IsOnTheWay {S : Type 0} (r : Ghosts S) (f : writing.Ghosts S) (before : Names) (name : List ℕ) (medium : MediaKind) (d : Document) (files : S) (o : OpenOutput) (g : Gathered) (left : List OutputBlock) : Type 0 where
  pub counts : Counts
  pub stands : Stands r f before name (rule_of medium ∷ []) d files o g counts left

-- In the state `files`, the output `o` with the name `name` has all Clusters of its content `d`. The names were `before` when it was created. Used by
-- `AddsAll`.
pub record IsWhole {S : Type 0} (r : Ghosts S) (f : writing.Ghosts S) (before : Names) (name : List ℕ) (d : Document) (files : S) (o : OpenOutput) : Type 0 where
  pub counts : Counts
  pub has : HasAll r f before name d files o counts

-- The block number `i`, counted from 0, of the file of the kind `medium` was added to the output, if it was the first remaining one. After a failure
-- the output is a draft. The files `old` became `new`, the output `o` became `o'`, and the Cluster `g` became `g'`. The contract of `add_one` has it.
-- `r` and `f` give the proof's view of the files.
abbrev pub AddsOne : {S T : Type 0} → Ghosts S → writing.Ghosts S → MediaKind → ℕ → S → S → OpenOutput → OpenOutput → Gathered → Gathered → Result T RemuxEnd → Type 0
AddsOne r f medium i old new o o' g g' (Ok _) =
    (before : Names) (name : List ℕ) (d : Document) (left : List OutputBlock) → IsOnTheWay r f before name medium d old o g (in_lane 1 (block_of medium i) ∷ left) → IsOnTheWay r f before name medium d new o' g' left
AddsOne r f medium i old new o o' g g' (Err _) =
    (before : Names) (name : List ℕ) (d : Document) (left : List OutputBlock) → IsOnTheWay r f before name medium d old o g (in_lane 1 (block_of medium i) ∷ left) → StandsDrafted before (f.names new) (draft_of name d)

-- All blocks of the file of the kind `medium` for `n` pictures were added to the output. After a failure the output is a draft. The files `old`
-- became `new`, and the output `o` became `o'`. `g` was the Cluster that was being filled. The contract of `add_all` has it. `r` and `f` give the
-- proof's view of the files.
abbrev pub AddsAll : {S T : Type 0} → Ghosts S → writing.Ghosts S → MediaKind → ℕ → S → S → OpenOutput → OpenOutput → Gathered → Result T RemuxEnd → Type 0
AddsAll r f medium n old new o o' g (Ok _) =
    (before : Names) (name : List ℕ) (d : Document) → d.cues ≡ cues_for (is_cue (rule_of medium ∷ [])) d.front d.clusters → IsOnTheWay r f before name medium d old o g (lane_blocks medium n) → IsWhole r f before name d new o'
AddsAll r f medium n old new o o' g (Err _) =
    (before : Names) (name : List ℕ) (d : Document) → IsOnTheWay r f before name medium d old o g (lane_blocks medium n) → StandsDrafted before (f.names new) (draft_of name d)
