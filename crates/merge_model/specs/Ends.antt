-- The end of a file in nanoseconds, which gives the append offset of the next one. The rule is this project's.
use Rattle.std.specs.Prelude.{ℕ, ◌+◌, ◌*◌, max, List, [], ◌∷◌, length, Option, Some, None}
use Rattle.std.specs.Option.{unwrap_or}
use Rattle.block_format.specs.Block.{Block}
use Rattle.merge_model.specs.Links.{Given, Placing, delayed}

-- the duration in nanoseconds of the block `b` of a source with the placing `p`, for the end of a file. It is its own, or else the default for each
-- frame, or else 0. Used by `end_at`.
abbrev pub lasting : Placing → Block → ℕ
lasting p b = unwrap_or b.duration (length b.frames * unwrap_or p.default_duration 0)

-- the end in nanoseconds of the block `b` of a source with the placing `p`, without append offset. The last argument is its time with the delay, or
-- None if the block is dropped, whose end is 0. Used by `block_end`.
abbrev pub end_at : Placing → Block → Option ℕ → ℕ
end_at p b None = 0
end_at p b (Some t) = t + lasting p b

-- the end in nanoseconds of the block `b` of a source with the placing `p`, with its delay and without append offset; 0 if it is dropped. Used by
-- `last_end` and others.
abbrev pub block_end : Placing → Block → ℕ
block_end p b = end_at p b (delayed p b)

-- the greatest end in nanoseconds of the given blocks of a source with the placing `p`, without append offset, or 0 without blocks; for `file_end`
abbrev pub last_end : Placing → List Block → ℕ
last_end p [] = 0
last_end p (b ∷ bs) = max (block_end p b) (last_end p bs)

-- the end in nanoseconds of a file with the given sources, without append offset: the greatest end of a block in any of them. `merge` adds it up for
-- the append offset of the next file.
abbrev pub file_end : List Given → ℕ
file_end [] = 0
file_end (g ∷ gs) = max (last_end g.placing g.blocks) (file_end gs)
