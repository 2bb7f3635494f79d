use Rattle.std.proofs.Common.{◌≡◌, drop}
use Rattle.remuxer.specs.Taking.{told_by}
use Rattle.remuxer.specs.Told.{told_of}
use Rattle.remuxer.proofs.summary.told_of.Given as goal

abbrev pub invariant-loop-k : goal.invariant-loop-k
invariant-loop-k l = told_of (drop l.k l.inputs) (drop l.k (told_by l.merge)) l.input ≡ told_of l.inputs (told_by l.merge) l.input
