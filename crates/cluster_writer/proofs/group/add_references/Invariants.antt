use Rattle.std.proofs.Common.{◌≡◌, ◌≤◌, ◌++◌, map, drop}
use Rattle.std.specs.Vec.{vec_capacity}
use Rattle.output_model.specs.Element.{joined}
use Rattle.output_model.specs.Block.{reference_element}
use Rattle.cluster_writer.proofs.group.add_references.Given as goal

abbrev pub invariant-loop-ticks : goal.invariant-loop-ticks
invariant-loop-ticks l = record {
  same : l.out.items ++ joined (map reference_element (drop l.ticks-index l.references)) ≡ l.fn.out.items ++ joined (map reference_element l.references);
  capacity : vec_capacity l.fn.out ≤ vec_capacity l.out;
}
