use Rattle.std.proofs.Common.{◌≡◌, ◌++◌, false, map, take, drop}
use Rattle.std.specs.List.{list_any}
use Rattle.block_format.specs.Block.{nanoseconds}
use Rattle.block_reader.specs.Time.{is_too_large_at}
use Rattle.block_reader.proofs.time.scale_all.Given as goal

abbrev pub invariant-loop-time : goal.invariant-loop-time
invariant-loop-time l = record {
  done : l.times ≡ map (nanoseconds l.scale) (take l.time-index l.initial.times) ++ drop l.time-index l.initial.times;
  fits : list_any (is_too_large_at l.scale) (take l.time-index l.initial.times) ≡ false;
}
