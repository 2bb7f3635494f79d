-- The promise about the exit status of the program. It is this project's.
use Rattle.std.specs.Prelude.{ℕ, ◌<◌}
use Rattle.std.specs.declared.alloc.Global.{Global}
use Rattle.std.specs.declared.string.String.{String}
use Rattle.std.specs.declared.vec.Vec.{Vec}
use Rattle.mkv_io.specs.Names.{Names}
use Rattle.merge_laws.specs.Merge.{HasMerged}
use Rattle.word_values.specs.Place.{texts}

-- If the exit status `code` is 0 or 1, the merge that `words` ask for was written, and took the names `old` to `new`. Other commands need no promise
-- here. The contract of `program` promises it.
abbrev pub ExitsMerged : Names → Names → ℕ → Vec (String Global) Global → Type 0
ExitsMerged old new code words = code < 2 → HasMerged old (texts words.items) new
