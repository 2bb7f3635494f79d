-- The blocks of a file that the outputs need, and the part of a block that is enough: for timestamps the frames needn't be read.
use Rattle.std.specs.Prelude.{◌≡◌, ◌==◌, Bool, true, false, if◌then◌else◌, List, [], ◌∷◌}
use Rattle.std.specs.List.{All, list_all}
use Rattle.block_format.specs.Block.{Block}
use Rattle.block_reader.specs.Buffered.{Buffered, block_of}
use Rattle.cluster_reader.specs.Takes.{IsKnownByHead}
use Rattle.cluster_reader.specs.declared.filter.BlockFilter.{BlockFilter}
use Rattle.cluster_reader.specs.declared.filter.BlockFilter.TheVariants as takes
use Rattle.extractors.specs.declared.frame_form.FrameForm.{FrameForm}
use Rattle.extractors.specs.declared.frame_form.FrameForm.TheVariants as form
use Rattle.extractors.specs.declared.track_output.TrackOutput.{TrackOutput}

-- ---- the blocks that are taken

-- The given form of an output writes only the timestamps of frames, and not their bytes, so that no frame need be read. Used by `takes_of`.
abbrev pub is_of_times : FrameForm → Bool
is_of_times form.Plain = false
is_of_times form.SubRip = false
is_of_times (form.AnnexB w) = false
is_of_times (form.Adts aac) = false
is_of_times form.Pgs = false
is_of_times form.Time = true

-- the filter for the walk of `extract` that reads only the blocks of one track if all outputs of the list are for it, and all blocks if not
abbrev pub of_one_track : List TrackOutput → BlockFilter
of_one_track [] = takes.All
of_one_track (o ∷ others) = if list_all (λ (other : TrackOutput). other.track == o.track) others then takes.Track o.track else takes.All

-- the filter for the walk of `extract` over a file's blocks, if the outputs are `list`: only heads of blocks if every output takes only timestamps,
-- else the ones of `of_one_track`
abbrev pub takes_of : List TrackOutput → BlockFilter
takes_of list = if list_all (λ (o : TrackOutput). is_of_times o.form) list then takes.Heads else of_one_track list

-- ---- the known part of a block

-- The buffered block `lent` has enough of the block `b` for an output of the given form. For timestamps it is the head and count of frames, for each
-- other form all of it.
abbrev pub IsEnough : FrameForm → Block → Buffered → Type 0
IsEnough form.Plain b lent = b ≡ block_of lent
IsEnough form.SubRip b lent = b ≡ block_of lent
IsEnough (form.AnnexB w) b lent = b ≡ block_of lent
IsEnough (form.Adts aac) b lent = b ≡ block_of lent
IsEnough form.Pgs b lent = b ≡ block_of lent
IsEnough form.Time b lent = IsKnownByHead b lent

-- The buffered block `lent` has the TrackNumber of the block `b`. If it is the track of the output `o` of an extraction, `lent` has enough of the
-- block for the output. Used by `AddsPart` and `CountsPiece`.
pub record IsEnoughFor (o : TrackOutput) (b : Block) (lent : Buffered) : Type 0 where
  pub track : b.track ≡ lent.head.track
  pub own : lent.head.track ≡ o.track → IsEnough o.form b lent

-- The buffered block `lent` has the TrackNumber of the block `b`. It has enough of the block for each output of `list` that is for this track. The
-- filter of `takes_of` gives it. Used by `TellsBad` and `GivesLent`.
pub record IsEnoughForAll (list : List TrackOutput) (b : Block) (lent : Buffered) : Type 0 where
  pub track : b.track ≡ lent.head.track
  pub each : All (λ (o : TrackOutput). IsEnoughFor o b lent) list
