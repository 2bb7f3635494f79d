-- The frames of the tracks passed can be used.
use Rattle.std.proofs.Common.{◌≡◌, drop}
use Rattle.mkv_schema.specs.Outline.{first_damage}
use Rattle.mkv_extract.specs.Read.{causes_from, first_unusable}
use Rattle.mkv_extract.proofs.reading.first_unusable.Given as goal

abbrev pub invariant-loop-k : goal.invariant-loop-k
invariant-loop-k l = first_unusable l.targets l.tracks ≡ first_damage (causes_from l.targets l.k (drop l.k l.tracks))
