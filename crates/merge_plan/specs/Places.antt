-- The append offsets of appended inputs. They are this project's.
use Rattle.std.specs.Prelude.{ℕ, ◌+◌, List, [], ◌∷◌}
use Rattle.std.specs.Option.{option_map}
use Rattle.merge_model.specs.Ends.{file_end}
use Rattle.merge_plan.specs.Plan.{Source, given_of, append_offset}

-- the end of the source `s` in the output, in nanoseconds: the end of its blocks, including its append offset. A source that is appended to it begins
-- there. `in_place_from` uses it.
abbrev pub end_of : Source → ℕ
end_of s = append_offset s.1 + file_end (given_of s)

-- the source `s` with the append offset `time`, in nanoseconds, if it is appended to another; otherwise unchanged. `in_place_from` uses it.
abbrev pub begun_at : ℕ → Source → Source
begun_at time s = (s.0, record s.1 { shift = option_map (λ _. time) s.1.shift })

-- the sources, each appended one beginning at the end of the previous one. `time` is the end of the source before the list, in nanoseconds.
-- `in_place` uses it.
abbrev pub in_place_from : ℕ → List Source → List Source
in_place_from time [] = []
in_place_from time (s ∷ ss) = begun_at time s ∷ in_place_from (end_of (begun_at time s)) ss

-- the sources `sources` as they are placed in the output: each appended one has the end of the previous one as its append offset. A merge reads its
-- sources and then places them. `StandInPlace` uses it.
abbrev pub in_place : List Source → List Source
in_place sources = in_place_from 0 sources
