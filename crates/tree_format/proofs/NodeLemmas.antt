-- Trees and lists of trees.
use Rattle.std.proofs.Common.{◌≡◌, max, List, [], ◌∷◌, ◌++◌, flat_map, refl, ap, arith}
use Rattle.tree_format.specs.Node.{Node, Nodes, none, node, nodes_of, list_of, depth_all}
use Rattle.tree_format.specs.NormalForm.{octets, octets_all}

pub list-nodes : (ns : List Node) → list_of (nodes_of ns) ≡ ns
list-nodes [] = refl
list-nodes (n ∷ ns) = ap (λ l. n ∷ l) (list-nodes ns)

pub nodes-list : (ns : Nodes) → nodes_of (list_of ns) ≡ ns
nodes-list none = refl
nodes-list (node n ns) = ap (node n) (nodes-list ns)

-- A list of trees is written as the trees in sequence.
pub octets_all-flat : (ns : List Node) → octets_all (nodes_of ns) ≡ flat_map octets ns
octets_all-flat [] = refl
octets_all-flat (n ∷ ns) = ap (λ l. octets n ++ l) (octets_all-flat ns)

-- A list of trees is as deep as its deepest one.
pub depth_all-append : (ms ns : List Node) → depth_all (nodes_of (ms ++ ns)) ≡ max (depth_all (nodes_of ms)) (depth_all (nodes_of ns))
depth_all-append [] ns = omega arith
depth_all-append (m ∷ ms) ns = let rest = depth_all-append ms ns in omega arith
