-- Children are smaller than their parent.
use Rattle.std.specs.Prelude.{◌≤◌, ℕ, ◌+◌, ◌∷◌, [], max, List}
use Rattle.std.proofs.Common.{arith}
use denote.Param.Weighed.{most}
use Rattle.tree_format.specs.Node.{Node, nodes_of, count, count_all}
use Rattle.ebml_tree.specs.declared.tree.content.Content.{Content}
use Rattle.ebml_tree.specs.declared.tree.content.Content.TheVariants.{Body, Children}
use Rattle.ebml_tree.specs.declared.tree.Tree.TheDeep.{deep-Content}
use Rattle.ebml_tree.specs.View.{node_of}

pub most_below : (ns : List Node) → most (λ n. count n + 1) ns ≤ count_all (nodes_of ns) + 1
most_below [] = omega arith
most_below (n ∷ ns) = omega (arith, most_below ns)

-- Each child is smaller than its parent.
pub falls : (id at : ℕ) (c : Content) → max (deep-Content c) 0 ≤ count (node_of id at c)
falls id at (Body b) = omega arith
falls id at (Children v) = omega (arith, most_below v.items)
