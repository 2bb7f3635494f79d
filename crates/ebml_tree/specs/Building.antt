-- A master that is built child by child.
use Rattle.std.specs.Prelude.{◌≡◌, ◌≤◌, ℕ, List}
use Rattle.tree_format.specs.Node.{Node, master, nodes_of, id_of, depth, depth_all, IsMaster}
use Rattle.tree_format.specs.Changes.{AreTooLong}
use Rattle.tree_format.specs.Standing.{AllStandIn, StandsIn, IsSound}

-- `tree` is a master with the ID `id`, its header at the offset `at`, and the children `ns`. They are valid, at most `deep` masters deep, and not too
-- long together. The contract of `empty` promises it, and code that builds a master keeps it.
pub record IsBuilt (id at deep : ℕ) (ns : List Node) (tree : Node) : Type 0 where
  pub is : tree ≡ master id at (nodes_of ns)
  pub stand : AllStandIn id (nodes_of ns)
  pub shallow : depth_all (nodes_of ns) ≤ deep
  pub short : ¬ AreTooLong ns

-- The tree `n`, which was made from the child `of`, is a valid child of `parent`, and nested at most as deep. Contracts of code that changes Chapters
-- or Tags promise it.
pub record IsInPlace (parent : ℕ) (of n : Node) : Type 0 where
  pub stands : StandsIn parent n
  pub shallow : depth n ≤ depth of

-- The tree `n` is a valid master with the ID `own` that was read, and so is within the limits of a tree. Code that edits or copies Info, Tracks,
-- Chapters or Tags requires it.
pub record IsRead (own : ℕ) (n : Node) : Type 0 where
  pub id : id_of n ≡ own
  pub master : IsMaster n
  pub sound : IsSound n
