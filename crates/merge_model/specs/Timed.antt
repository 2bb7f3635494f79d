-- Timestamps of a track's blocks from a timestamp file. The rule is this project's, after mkvmerge(1).
use Rattle.std.specs.Prelude.{ℕ, ◌+◌, ℤ, List, [], ◌∷◌, length, Option, Some, None}
use Rattle.block_format.specs.Block.{Block}
use Rattle.ext_times.specs.Listing.{Listing}
use Rattle.ext_times.specs.Times.{time_at}

-- the given blocks of a track with the timestamps in nanoseconds that the timestamp file `l` lists for their first frames; `k` frames of the track
-- precede them. Durations and references stay. Used by `timed`.
abbrev pub retimed : Listing → ℕ → List Block → List Block
retimed l k [] = []
retimed l k (b ∷ bs) = record b { time = time_at l k } ∷ retimed l (k + length b.frames) bs

-- the blocks `bs` of a track in a merge with the timestamps of the given timestamp file, or with their own if there is none; `k` frames of the track
-- precede them. Used by `timed_given` and others.
abbrev pub timed : Option Listing → ℕ → List Block → List Block
timed None k bs = bs
timed (Some l) k bs = retimed l k bs

-- the timestamp in nanoseconds of a block that `k` frames of its track precede: the given timestamp file's, or the block's own, `own`, without one;
-- for `at_time` and the contract of `time_of`
abbrev pub time_for : Option Listing → ℕ → ℤ → ℤ
time_for None k own = own
time_for (Some l) k own = time_at l k
