-- The output tracks of an output that is merged by itself: RFC 9559, sections 5.1.3 (Cluster Element) and 10 (Cluster Blocks). This is this project's
-- promise.
use Rattle.std.specs.Prelude.{◌≡◌, pos, false, List, [], ◌∷◌, length, map, All, None}
use Rattle.track_records.specs.Usable.{prefix_for}
use Rattle.file_format.specs.Info.{scale_of}
use Rattle.output_model.specs.declared.heads.ClusterLimits.{ClusterLimits}
use Rattle.output_model.specs.Cluster.{clusters}
use Rattle.output_model.specs.Document.{Document, layout}
use Rattle.output_model.specs.OutputBlock.{OutputBlock}
use Rattle.output_model.specs.Sound.{CountFrom, IsSoundDocument}
use Rattle.output_laws.specs.Lanes.{HasNoLane}
use Rattle.output_laws.specs.Places.{block_events}
use Rattle.output_laws.specs.Reading.{blocks_of_document, header_of_segment}
use Rattle.merge_model.specs.Lanes.{lane_blocks}
use Rattle.merge_model.specs.Merged.{merged}
use Rattle.merge_inputs.specs.Input.{Clusters, InputRead, events_in}
use Rattle.merge_inputs.specs.declared.taken.TakenTrack.{TakenTrack}
use Rattle.requests.specs.declared.merge.MergeWords.{MergeWords}
use Rattle.merge_plan.specs.Plan.{lanes_given}
use Rattle.mkv_merge.specs.Merge.{has_damage}

-- The track `t` is selected with its own timestamps and unchanged frames: it has no delay and no header stripping. It is so for each track of an
-- output that is merged by itself. `IsReadOfOutput` uses it.
pub record IsTakenPlain (t : TakenTrack) : Type 0 where
  pub undelayed : t.delay ≡ pos 0
  pub prefix : prefix_for t.track ≡ []

-- The input `again` is read from the output with the document `d`. It has the blocks of the output's Clusters, without damage, at the scale of its
-- Info. It isn't appended, and no file lists its timestamps. Its tracks are selected plain, and their numbers count from 1. A condition of
-- `LanesAreMergedAgain`.
pub record IsReadOfOutput (d : Document) (again : InputRead) : Type 0 where
  pub blocks : again.blocks ≡ Clusters (header_of_segment d) (scale_of d.front.info)
  pub events : events_in again (layout d) ≡ block_events (blocks_of_document d)
  pub alone : again.shift ≡ None
  pub times : again.times ≡ []
  pub numbers : CountFrom 1 (map (λ (t : TakenTrack). t.track.number) again.taken)
  pub plain : All IsTakenPlain again.taken

-- An input `again` that is read from the output with the document `d` gives the output tracks that were merged, with the same blocks. `lanes` has the
-- blocks of each of these output tracks, and `limits` the limits of the output's Clusters. No damage is met in it. The law `lanes_are_merged_again`
-- states it.
pub record LanesAreMergedAgain : Type 0 where
  pub lanes : (d : Document) (limits : ClusterLimits) (lanes : List (List OutputBlock)) (again : InputRead) → IsSoundDocument d
      → d.clusters ≡ clusters limits (merged lanes) → All (All HasNoLane) lanes → length again.taken ≡ length lanes → IsReadOfOutput d again
      → map (lane_blocks (scale_of d.front.info)) (lanes_given ((layout d, again) ∷ [])) ≡ lanes
  pub undamaged : (words : MergeWords) (d : Document) (again : InputRead) → IsReadOfOutput d again → has_damage words ((layout d, again) ∷ []) ≡ false
