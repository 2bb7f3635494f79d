-- The bytes after the header are the children's, and no element is left if there are too many.
use Rattle.output_records.proofs.KeptLemmas.{too-long, too-many}
use Rattle.output_records.proofs.record_limits.is_too_large.Goals as goal

pub returns-then-are_long : goal.returns-then-are_long
returns-then-are_long c = too-long c.args.tree.now _ _ c.requires c.children.ensures.exact c.are_long.ensures c.if-are_long.true

pub returns-else-are_long : goal.returns-else-are_long
returns-else-are_long c = too-many c.args.tree.now _ _ c.requires c.children.ensures.exact c.are_long.ensures c.if-are_long.false _ _ _ c.nodes_left.ensures c.is_none.ensures
