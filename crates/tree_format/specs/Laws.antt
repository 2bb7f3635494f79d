-- Laws on masters that are read whole.
use Rattle.std.specs.Prelude.{◌≡◌, ◌≢◌, ◌<◌, ℕ, List, [], ◌∷◌, ◌++◌, length, None, Ok}
use Rattle.tree_format.specs.Node.{Node, id_of, IsMaster}
use Rattle.tree_format.specs.Reading.{header_at, tree_of}
use Rattle.tree_format.specs.Order.{listed_from, elements_in, tree_in_order, tree_without_limits}
use Rattle.tree_format.specs.Changes.{without, with_child, part, HasNone}
use Rattle.tree_format.specs.Standing.{IsSound, KeepsLimits, IsReadWithoutLimits}

-- Elements are listed one at a time: none if no byte is left, and otherwise the Element at the next byte. It is the law `elements_are_listed`.
pub record ElementsAreListed : Type 0 where
  pub end : (parent p : ℕ) → elements_in parent p [] ≡ record { trees = []; damage = None }
  pub more : (parent p : ℕ) (octets : List ℕ) → 0 < length octets
      → elements_in parent p octets ≡ listed_from elements_in parent p octets (header_at parent p octets)

-- Reading Element by Element gives the tree, or the first damage, that is defined over all Elements at once. The arguments are the ones of `tree_of`.
-- It is the law `trees_are_in_order`.
abbrev pub TreesAreInOrder : Type 0
TreesAreInOrder =
    (id offset : ℕ) (body : List ℕ) (base nodes : ℕ) → tree_of id offset body base nodes ≡ tree_in_order id offset body base nodes

-- If reading with limits gives the tree `n`, reading without limits gives the same tree. The other arguments are the ones of `tree_of`. It is the law
-- `limits_change_no_tree`.
abbrev pub LimitsChangeNoTree : Type 0
LimitsChangeNoTree =
    (id offset : ℕ) (body : List ℕ) (base nodes : ℕ) (n : Node) → tree_of id offset body base nodes ≡ Ok n
    → tree_without_limits id offset body base ≡ Ok n

-- The written bytes of a valid master `n` are read back without limits. Its content must fit a size of eight bytes, and it must not be nested too
-- deep. It is the law `sound_trees_are_read_again`.
abbrev pub SoundTreesAreReadAgain : Type 0
SoundTreesAreReadAgain = (n : Node) → IsMaster n → IsSound n → KeepsLimits n → IsReadWithoutLimits n

-- A child `n` that is set takes the place of the first child with its ID, or the last place. It is the only child with its ID then. Children with
-- another ID stay. It is the law `children_change`.
pub record ChildrenChange : Type 0 where
  pub at : (n m : Node) (front back : List Node) → id_of m ≡ id_of n → HasNone (id_of n) front
      → with_child n (front ++ m ∷ back) ≡ front ++ n ∷ without (id_of n) back
  pub last : (n : Node) (ns : List Node) → HasNone (id_of n) ns → with_child n ns ≡ ns ++ n ∷ []
  pub one : (n : Node) (ns : List Node) → part (id_of n) (with_child n ns) ≡ n ∷ []
  pub set_others : (id : ℕ) (n : Node) (ns : List Node) → id_of n ≢ id → part id (with_child n ns) ≡ part id ns
  pub gone : (id : ℕ) (ns : List Node) → HasNone id (without id ns)
  pub kept_others : (id other : ℕ) (ns : List Node) → other ≢ id → part id (without other ns) ≡ part id ns
