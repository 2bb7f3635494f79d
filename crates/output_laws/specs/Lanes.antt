-- The output tracks of a merged list, and the tracks that are read from an output.
use Rattle.std.specs.Prelude.{◌≡◌, ℕ, zero, suc, ◌==◌, pos, List, [], ◌∷◌, map, filter, flat_map, None}
use Rattle.block_format.specs.Block.{Block}
use Rattle.block_format.specs.Events.{Event, blocks_of}
use Rattle.output_model.specs.OutputBlock.{OutputBlock}
use Rattle.merge_model.specs.Links.{Placing, placed, track_given}
use Rattle.merge_model.specs.Lanes.{lane_blocks}
use Rattle.merge_model.specs.Merged.{in_lane}

-- ---- tracks of a merged list

-- the blocks in the merged list `bs` of the output track with the number `number`, counted from 1. The law that a merge keeps its output tracks takes
-- a merged list apart by it.
abbrev pub lane_of : ℕ → List OutputBlock → List OutputBlock
lane_of number bs = filter (λ (b : OutputBlock). b.lane == number) bs

-- the output tracks with the numbers from `number` onwards, each as its blocks in the merged list `bs`. The second argument is the number of tracks.
-- For the law `lanes_are_kept`.
abbrev pub lanes_from : ℕ → ℕ → List OutputBlock → List (List OutputBlock)
lanes_from number zero bs = []
lanes_from number (suc n) bs = lane_of number bs ∷ lanes_from (suc number) n bs

-- the given output tracks, each block with the number of its track; the first has the number `number`, counted from 1. For the law `lanes_are_kept`.
abbrev pub in_lanes : ℕ → List (List OutputBlock) → List (List OutputBlock)
in_lanes number [] = []
in_lanes number (l ∷ ls) = map (in_lane number) l ∷ in_lanes (suc number) ls

-- ---- tracks of an output that is read

-- the placing of a track that is merged again without options: no delay, no append offset, and no bytes before a frame. `lanes_read` and the law
-- `ticks_are_kept` read an output by it.
abbrev pub as_it_stands : Placing
as_it_stands = record { delay = pos 0; shift = 0; default_duration = None; prefix = [] }

-- the tracks of a file with the events `events`, each as its blocks in ticks of `scale` nanoseconds. They have TrackNumbers from `number` onwards,
-- and the third argument is their count. The laws on a merge and on a repeated merge compare them with the output tracks.
abbrev pub lanes_read : ℕ → ℕ → ℕ → List Event → List (List OutputBlock)
lanes_read scale number zero events = []
lanes_read scale number (suc n) events =
    lane_blocks scale (track_given as_it_stands number events ∷ []) ∷ lanes_read scale (suc number) n events

-- the block `b` that was read from a file, as the blocks of an output with `scale` nanoseconds per tick. It is one block, or none before time 0. Its
-- output track number is its TrackNumber. For `blocks_read`.
abbrev pub block_read : ℕ → Block → List OutputBlock
block_read scale b = map (in_lane b.track) (placed scale as_it_stands b)

-- the blocks of `events`, as blocks of an output with `scale` nanoseconds per tick. The law `blocks_are_read_in_order` compares them with the merged
-- list.
abbrev pub blocks_read : ℕ → List Event → List OutputBlock
blocks_read scale events = flat_map (block_read scale) (blocks_of events)

-- The block `b` has no output track number yet, which is stored as 0. So are the blocks of an output track before they are merged; a condition of the
-- laws on an output that is read again. Used by `LanesAreReadAgain`, `ClustersAreCutAgain` and others.
abbrev pub HasNoLane : OutputBlock → Type 0
HasNoLane b = b.lane ≡ 0
