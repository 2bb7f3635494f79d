-- None of the first pairs names a track that the input lacks.
use Rattle.std.proofs.Common.{◌≡◌, drop}
use Rattle.mkv_io.specs.Lists.{is_some_of}
use Rattle.mkv_merge.specs.Merge.{absent_in}
use Rattle.mkv_merge.proofs.telling.has_absent_in.Given as goal

abbrev pub invariant-loop-pair : goal.invariant-loop-pair
invariant-loop-pair l = is_some_of (absent_in l.order l.input l.file l.count) ≡ is_some_of (absent_in (drop l.pair-index l.order) l.input l.file l.count)
