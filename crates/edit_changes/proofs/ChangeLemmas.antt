-- A changed master keeps its ID.
use Rattle.std.proofs.Common.{◌≡◌, List, refl, ◌∙◌, ap}
use Rattle.tree_format.specs.Node.{Node, leaf, master, id_of, with_children}

id-with_children : (n : Node) (ns : List Node) → id_of (with_children n ns) ≡ id_of n
id-with_children (leaf id at body) ns = refl
id-with_children (master id at kids) ns = refl

pub kept-id : (n m : Node) (ns : List Node) → m ≡ with_children n ns → id_of m ≡ id_of n
kept-id n m ns is = ap id_of is ∙ id-with_children n ns

pub ruleset changes = kept-id
