-- The output tracks of a merge are valid.
use Rattle.std.proofs.Common.{◌≡◌, ◌≤◌, ℕ, ◌+◌, Bool, true, false, if◌then◌else◌, List, [], ◌∷◌, length, map, flat_map, Option, Some, None, refl, ◌∙◌}
use Rattle.std.specs.Prelude.{◌&&◌, not}
use Rattle.std.specs.List.{All}
use Rattle.std.proofs.lemmas.List.{length-map}
use Rattle.std.proofs.lemmas.List.Elements.{All-nil, All-cons, All-head, All-tail, All-append, All-map, All-weaker}
use Rattle.block_format.specs.Block.{Block}
use Rattle.output_model.specs.OutputBlock.{OutputBlock}
use Rattle.output_model.specs.Sound.{IsSoundBlock}
use Rattle.merge_model.specs.Links.{Given, Placing, delayed, output_block, placed, placed_at, given_blocks, going_on}
use Rattle.merge_model.specs.Lanes.{lane_blocks}
use Rattle.output_laws.specs.Lanes.{HasNoLane}
use Rattle.output_laws.specs.Read.{IsReadBlock, IsPlacing, LEAST_SCALE}
use Rattle.output_laws.proofs.SoundLemmas.{placed-sound}
use Rattle.merge_plan.specs.Front.{reads_of}
use Rattle.requests.specs.declared.merge.MergeWords.{MergeWords}
use Rattle.merge_plan.specs.Plan.{Source, given_of, lanes_given, lanes_ordered, lanes_taken}
use Rattle.merge_plan.specs.Records.{is_appended, tracks_taken}
use Rattle.merge_plan.proofs.ChainLemmas.{lanes-all}
use Rattle.merge_plan.proofs.OrderedLemmas.{lanes-many, lanes-ordered-count, ordered-all}
use Rattle.merge_laws.specs.Sources.{IsReadSource}
use Rattle.merge_laws.proofs.GivenLemmas.{CanBePlaced, given-placed}

-- ---- placed blocks

no-lane : (scale : ℕ) (p : Placing) (b : Block) → All HasNoLane (placed scale p b)
no-lane scale p b = split (delayed p b)
  where
    split : (o : Option ℕ) → All HasNoLane (placed_at scale p b o)
    split None = All-nil HasNoLane
    split (Some t) = All-cons HasNoLane (output_block scale p.prefix (t + p.shift) b) [] refl (All-nil HasNoLane)

-- ---- a fact about each placed block

module _ (P : OutputBlock → Type 0) (scale : ℕ) (holds : (p : Placing) (b : Block) → IsPlacing p → IsReadBlock b → All P (placed scale p b)) where
  -- It holds for all blocks of a link.
  GivenHolds : Given → Type 0
  GivenHolds g = All P (given_blocks scale g)

  blocks-hold : (p : Placing) (bs : List Block) → IsPlacing p → All IsReadBlock bs → All P (flat_map (placed scale p) bs)
  blocks-hold p [] placing read = All-nil P
  blocks-hold p (b ∷ bs) placing read =
      All-append P (placed scale p b) (flat_map (placed scale p) bs) (holds p b placing (All-head IsReadBlock b bs read)) (blocks-hold p bs placing (All-tail IsReadBlock b bs read))

  source-holds : (s : Source) → IsReadSource s → All GivenHolds (given_of s)
  unfolding GivenHolds
  source-holds s is = All-weaker CanBePlaced GivenHolds (λ g can. blocks-hold g.placing g.blocks can.placing can.blocks) (given_of s) (given-placed s is)

  -- It holds for all blocks of an output track, whether or not it goes on after damage.
  lane-holds : (b : Bool) (gs : List Given) → All GivenHolds gs → All P (lane_blocks scale (map (going_on b) gs))
  unfolding GivenHolds
  lane-holds b [] all = All-nil P
  lane-holds b (g ∷ gs) all =
      All-append P (given_blocks scale g) (if not b && g.stops then [] else lane_blocks scale (map (going_on b) gs)) (All-head GivenHolds g gs all)
      (of (not b && g.stops) (lane-holds b gs (All-tail GivenHolds g gs all)))
    where
      of : (stops : Bool) → All P (lane_blocks scale (map (going_on b) gs)) → All P (if stops then [] else lane_blocks scale (map (going_on b) gs))
      of true rest = All-nil P
      of false rest = rest

  lanes-hold : (b : Bool) (order : List (ℕ × ℕ)) (sources : List Source) → All IsReadSource sources → All (All P) (map (lane_blocks scale) (map (map (going_on b)) (lanes_ordered order sources)))
  lanes-hold b order sources each =
      All-map (All P) (lane_blocks scale) (map (map (going_on b)) (lanes_ordered order sources))
      (All-map (λ (gs : List Given). All P (lane_blocks scale gs)) (map (going_on b)) (lanes_ordered order sources)
      (All-weaker (All GivenHolds) (λ (gs : List Given). All P (lane_blocks scale (map (going_on b) gs))) (lane-holds b) (lanes_ordered order sources)
      (ordered-all (All GivenHolds) order (reads_of sources) (lanes_given sources) (lanes-all GivenHolds (λ (s : Source). is_appended s.1) given_of IsReadSource source-holds sources each))))

-- Each block of an output track is valid.
pub lanes-sound : (words : MergeWords) (sources : List Source) → LEAST_SCALE ≤ words.scale → All IsReadSource sources → All (All IsSoundBlock) (map (lane_blocks words.scale) (lanes_taken words sources))
lanes-sound words sources least each = lanes-hold IsSoundBlock words.scale (λ p b placing read. placed-sound words.scale p b least placing read) words.append_damaged words.order sources each

-- No block has an output track yet.
pub lanes-free : (words : MergeWords) (sources : List Source) → All IsReadSource sources → All (All HasNoLane) (map (lane_blocks words.scale) (lanes_taken words sources))
lanes-free words sources each = lanes-hold HasNoLane words.scale (λ p b placing read. no-lane words.scale p b) words.append_damaged words.order sources each

-- ---- number of output tracks

-- There are as many with the option to go on after damage as without it.
pub lanes-as_many : (words : MergeWords) (sources : List Source) → length (lanes_taken words sources) ≡ length (lanes_given sources)
lanes-as_many words sources = length-map (lanes_ordered words.order sources) (map (going_on words.append_damaged)) ∙ lanes-ordered-count words.order sources

-- The lists of their blocks have the same number.
pub lanes-length : (words : MergeWords) (sources : List Source) → length (map (lane_blocks words.scale) (lanes_taken words sources)) ≡ length (tracks_taken (reads_of sources))
lanes-length words sources = length-map (lanes_taken words sources) (lane_blocks words.scale) ∙ lanes-as_many words sources ∙ lanes-many sources
