-- The timestamps that an extraction writes for a track, given back to the blocks of the track.
use Rattle.std.specs.Prelude.{◌≡◌, ◌<◌, ◌≤◌, ℕ, ◌^◌, ◌==◌, nat_abs, All, List, length, filter, Some, Ok}
use Rattle.block_format.specs.Block.{Block}
use Rattle.ext_times.specs.Listing.{Listing, listing}
use Rattle.merge_model.specs.Timed.{timed}
use Rattle.extractors.specs.Codec.{times_head}
use Rattle.extractors.specs.Content.{content_of}
use Rattle.extractors.specs.declared.frame_form.FrameForm.TheVariants as form
use Rattle.extractors.specs.declared.track_output.TrackOutput.{TrackOutput}

-- the blocks in `blocks` of the track with the TrackNumber `number`. For `ChangesNothing`, in the laws on timestamp files.
abbrev pub of_track : ℕ → List Block → List Block
of_track number blocks = filter (λ (b : Block). b.track == number) blocks

-- The output `o` is a timestamp file, for a track whose frames have a default duration of less than 2^48 ns, or none. A condition of
-- `OwnTimesChangeNothing`, in the laws on timestamp files.
pub record IsOfTimes (o : TrackOutput) : Type 0 where
  pub head : o.head ≡ times_head
  pub form : o.form ≡ form.Time
  pub step : o.step < 2 ^ 48

-- The block `b` is one that a reader with limits may find: it has 1 to 256 frames, and a timestamp of less than 2^56 ns in size. A condition of
-- `OwnTimesChangeNothing`.
pub record IsTimedBlock (b : Block) : Type 0 where
  pub some : 1 ≤ length b.frames
  pub most : length b.frames ≤ 256
  pub small : nat_abs b.time < 2 ^ 56

-- The content that an extraction to `o` writes for `blocks` is a timestamp file, with which each block of the track keeps its timestamp. For
-- `OwnTimesChangeNothing`.
pub record ChangesNothing (o : TrackOutput) (blocks : List Block) : Type 0 where
  pub times : Listing
  pub read : listing (content_of o blocks) ≡ Ok times
  pub same : timed (Some times) 0 (of_track o.track blocks) ≡ of_track o.track blocks

-- The timestamps that an extraction to the output `o` writes for `blocks` change nothing if the track gets them again. Conditions are `IsOfTimes` of
-- `o` and `IsTimedBlock` of each block. The law `own_times_change_nothing` states it.
abbrev pub OwnTimesChangeNothing : Type 0
OwnTimesChangeNothing = (o : TrackOutput) (blocks : List Block) → IsOfTimes o → All IsTimedBlock blocks → ChangesNothing o blocks
