use Rattle.std.proofs.Common.{◌≡◌, take}
use Rattle.tree_format.specs.Node.{IsMaster}
use Rattle.remuxer.specs.Info.{with_more}
use Rattle.remuxer.proofs.info.add_copies.Given as goal

abbrev pub invariant-loop-child : goal.invariant-loop-child
invariant-loop-child l = record {
  master : IsMaster l.info;
  is : l.info ≡ with_more l.initial.info (take l.child-index l.children);
}
