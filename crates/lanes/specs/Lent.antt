-- The last block of an output track, as the code returns it.
use Rattle.std.specs.Prelude.{◌≡◌, ◌<◌, ◌≤◌, ◌+◌, ◌*◌, ◌/◌, ◌^◌, ℕ, Bool, true, false, List, [], ◌∷◌, max}
use Rattle.std.specs.List.{All}
use Rattle.std.specs.Option.{IfSome}
use Rattle.block_format.specs.declared.limits.TheConstants.{TOO_LARGE_TIME}
use Rattle.block_reader.specs.Time.{IsSmallTime}
use Rattle.block_reader.specs.Buffered.{Buffered, block_of}
use Rattle.mkv_io.specs.declared.entry.Entry.{Entry}
use Rattle.output_model.specs.OutputBlock.{Lent, OutputBlock, lent_block}
use Rattle.merge_model.specs.Merged.{Ordered}
use Rattle.merge_model.specs.declared.link.TextLink.{TextLink}
use Rattle.merge_model.specs.declared.link.TrackLink.{TrackLink}
use Rattle.lanes.specs.Placed.{entry_placed, text_lent, track_lent, track_placed}
use Rattle.lanes.specs.Times.{most_time}
use Rattle.lanes.specs.declared.place.Placed.{Placed}

-- the block `l` with its order number, as an item of a merge of output tracks. `GivesBlock` uses it.
abbrev pub lent_ordered : Lent → Ordered
lent_ordered l = record { order = l.head.order; block = lent_block l }

-- The tick of the placed block `p` is below 2^63, if `scale`, the nanoseconds per tick, is at least 2. It isn't after the latest possible time,
-- rounded. Its duration and references are below 2^56 ticks. The contracts of `place_block` and `place_entry` have it.
pub record HasFewTicks (scale : ℕ) (p : Placed) : Type 0 where
  pub tick : 2 ≤ scale → p.head.tick < 2 ^ 63
  pub early : p.head.tick * scale ≤ most_time + scale / 2
  pub duration : IfSome p.head.duration (λ d. d < TOO_LARGE_TIME)
  pub references : All IsSmallTime p.references.items

-- ---- placing a block

-- `blocks` has only the block `l`. Its order number is the greatest tick of the output track: its own, or the one up to now, `greatest`. Used by
-- `Becomes`.
pub record IsPlaced (blocks : List OutputBlock) (greatest : ℕ) (l : Lent) : Type 0 where
  pub block : blocks ≡ lent_block l ∷ []
  pub order : l.head.order ≡ max greatest l.head.tick

-- The only block of `blocks` was placed as `l`, or there is none, and it was dropped. `greatest` is the greatest tick of the output track up to now.
-- The last argument is false if it was dropped. `TrackBecomes` and `EntryBecomes` use it.
abbrev pub Becomes : List OutputBlock → ℕ → Lent → Bool → Type 0
Becomes blocks greatest l true = IsPlaced blocks greatest l
Becomes blocks greatest l false = blocks ≡ []

-- The link `t` has placed the buffered block `b` as `p`, or dropped it if `given` is false. `k` frames of its track precede it, `greatest` is the
-- greatest tick up to now, and `scale` the nanoseconds per tick. The contract of `place_block` has it.
abbrev pub TrackBecomes : ℕ → TrackLink → ℕ → Buffered → ℕ → Placed → Bool → Type 0
TrackBecomes scale t k b greatest p given = Becomes (track_placed scale t k (block_of b)) greatest (track_lent t b p) given

-- The text `t` has placed the subtitle `e` as `p`, or dropped it if `given` is false. `greatest` is the greatest tick up to now, and `scale` the
-- nanoseconds per tick. The contract of `place_entry` has it.
abbrev pub EntryBecomes : ℕ → TextLink → Entry → ℕ → Placed → Bool → Type 0
EntryBecomes scale t e greatest p given = Becomes (entry_placed scale t e) greatest (text_lent e.text p) given
