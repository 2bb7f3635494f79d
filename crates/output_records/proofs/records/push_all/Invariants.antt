-- The previous children were appended, and the others are valid there.
use Rattle.std.proofs.Common.{◌≡◌, ◌≤◌, ◌++◌}
use Rattle.tree_format.specs.Node.{id_of, offset_of, children, nodes_of, depth_all}
use Rattle.tree_format.specs.Standing.{AllStandIn}
use Rattle.ebml_tree.specs.Building.{IsBuilt}
use Rattle.output_records.proofs.records.push_all.Given as goal

abbrev pub invariant-loop-child : goal.invariant-loop-child
invariant-loop-child l = record {
  built : IsBuilt (id_of l.fn.tree) (offset_of l.fn.tree) 31 (children l.fn.tree ++ l.yielded) l.tree;
  all : l.yielded ++ l.child-iterator.rest.items ≡ l.initial.child-iterator.rest.items;
  stand : AllStandIn (id_of l.fn.tree) (nodes_of l.child-iterator.rest.items);
  low : depth_all (nodes_of l.child-iterator.rest.items) ≤ 31;
}
