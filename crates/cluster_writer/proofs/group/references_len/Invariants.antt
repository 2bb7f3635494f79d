use Rattle.std.proofs.Common.{◌≡◌, ◌≤◌, ◌+◌, ◌*◌, drop}
use Rattle.cluster_writer.specs.Lengths.{references_len}
use Rattle.cluster_writer.proofs.group.references_len.Given as goal

abbrev pub invariant-loop-ticks : goal.invariant-loop-ticks
invariant-loop-ticks l = record {
  same : l.total + references_len (drop l.ticks-index l.references) ≡ references_len l.references;
  few : l.total ≤ 24 * l.ticks-index;
}
