-- Changes of children keep a tree valid.
use Rattle.std.proofs.Common.{◌≡◌, ℕ, zero, suc, ◌+◌, ◌==◌, ◌≤◌, ◌<◌, Bool, true, false, not, cond, List, [], ◌∷◌, ◌++◌, take, drop, filter, position, find, slice_get, Option, Some, None, IfSome, sym, subst, arith}
use Rattle.std.specs.Option.{option_copied}
use denote.Ref.{Bor}
use Rattle.tree_format.specs.Node.{Node, Nodes, leaf, master, nodes_of, id_of, children, with_children, depth_all, deepest, IsMaster, HasRoom}
use Rattle.tree_format.specs.Changes.{without, placed_at, with_child}
use Rattle.tree_format.specs.Standing.{StandsIn, AllStandIn, IsSound}
use Rattle.tree_format.proofs.NodeLemmas.{nodes-list}

abbrev Stand : ℕ → List Node → Type 0
Stand parent ns = AllStandIn parent (nodes_of ns)

stand-append : (parent : ℕ) (ms ns : List Node) → Stand parent ms → Stand parent ns → Stand parent (ms ++ ns)
stand-append parent [] ns front behind = behind
stand-append parent (m ∷ ms) ns front behind = (front.0, stand-append parent ms ns front.1 behind)

stand-take : (parent k : ℕ) (ns : List Node) → Stand parent ns → Stand parent (take k ns)
stand-take parent zero ns stand = tt
stand-take parent (suc k) [] stand = tt
stand-take parent (suc k) (n ∷ ns) stand = (stand.0, stand-take parent k ns stand.1)

stand-drop : (parent k : ℕ) (ns : List Node) → Stand parent ns → Stand parent (drop k ns)
stand-drop parent zero ns stand = stand
stand-drop parent (suc k) [] stand = tt
stand-drop parent (suc k) (n ∷ ns) stand = stand-drop parent k ns stand.1

stand-without : (parent id : ℕ) (ns : List Node) → Stand parent ns → Stand parent (without id ns)
stand-without parent id [] stand = tt
stand-without parent id (n ∷ ns) stand = split (not (id_of n == id)) (stand-without parent id ns stand.1)
  where
    split : (keep : Bool) → Stand parent (without id ns) → Stand parent (cond keep (n ∷ without id ns) (without id ns))
    split true rest = (stand.0, rest)
    split false rest = rest

stand-placed_at : (parent : ℕ) (n : Node) (ns : List Node) (o : Option ℕ) → StandsIn parent n → Stand parent ns → Stand parent (placed_at n ns o)
stand-placed_at parent n ns None one stand = stand-append parent ns (n ∷ []) stand (one, tt)
stand-placed_at parent n ns (Some k) one stand =
    stand-append parent (take k ns) (n ∷ without (id_of n) (drop (k + 1) ns)) (stand-take parent k ns stand)
    (one, stand-without parent (id_of n) (drop (k + 1) ns) (stand-drop parent (k + 1) ns stand))

-- The children of a valid master, as a list, are valid under it.
sound-children : (n : Node) (ns : List Node) → IsMaster n → Stand (id_of n) ns → IsSound (with_children n ns)
sound-children (leaf id at body) ns is stand = absurd (cc)
sound-children (master id at kids) ns is stand = stand

children-sound : (n : Node) → IsSound n → Stand (id_of n) (children n)
children-sound (leaf id at body) sound = tt
children-sound (master id at kids) sound = let P : Nodes → Type 0 = AllStandIn id in subst P (sym (nodes-list kids)) sound

-- A master with a valid child that is set is valid.
pub sound-set : (n child : Node) → IsMaster n → IsSound n → StandsIn (id_of n) child → IsSound (with_children n (with_child child (children n)))
sound-set n child is sound stands =
    sound-children n (with_child child (children n)) is (stand-placed_at (id_of n) child (children n) (position (λ m. id_of m == id_of child) (children n)) stands (children-sound n sound))

pub sound-push : (n child : Node) → IsMaster n → IsSound n → StandsIn (id_of n) child → IsSound (with_children n (children n ++ child ∷ []))
sound-push n child is sound stands =
    sound-children n (children n ++ child ∷ []) is (stand-append (id_of n) (children n) (child ∷ []) (children-sound n sound) (stands, tt))

pub sound-remove : (n : Node) (id : ℕ) → IsMaster n → IsSound n → IsSound (with_children n (without id (children n)))
sound-remove n id is sound =
    sound-children n (without id (children n)) is (stand-without (id_of n) id (children n) (children-sound n sound))

pub ruleset keeps = (sound-set, sound-push, sound-remove)

-- ---- room

-- A tree that is found among the children leaves room for a master around it.
find-low : (p : Node → Bool) (ns : List Node) → depth_all (nodes_of ns) < deepest → IfSome (find p ns) HasRoom
find-low p [] low = tt
find-low p (n ∷ ns) low = split (p n) (find-low p ns (omega arith))
  where
    split : (passes : Bool) → IfSome (find p ns) HasRoom → IfSome (cond passes (Some n) (find p ns)) HasRoom
    split true rest = omega arith
    split false rest = rest

get-low : (ns : List Node) (k : ℕ) → depth_all (nodes_of ns) < deepest → IfSome (slice_get ns k) HasRoom
get-low [] k low = tt
get-low (n ∷ ns) zero low = omega arith
get-low (n ∷ ns) (suc k) low = get-low ns k (omega arith)

filter-low : (p : Node → Bool) (ns : List Node) → depth_all (nodes_of (filter p ns)) ≤ depth_all (nodes_of ns)
filter-low p [] = omega arith
filter-low p (n ∷ ns) = split (p n) (filter-low p ns)
  where
    split : (passes : Bool) → depth_all (nodes_of (filter p ns)) ≤ depth_all (nodes_of ns) → depth_all (nodes_of (cond passes (n ∷ filter p ns) (filter p ns))) ≤ depth_all (nodes_of (n ∷ ns))
    split true rest = omega arith
    split false rest = omega arith

copied-low : (r : Option (Bor Node)) (o : Option Node) → option_copied r ≡ o → IfSome o HasRoom → IfSome r (λ t. HasRoom t.now)
copied-low None o is low = tt
copied-low (Some t) o is low = rw (← is) at low

pub room-find : (p : Node → Bool) (ns : List Node) (r : Option (Bor Node)) → option_copied r ≡ find p ns → depth_all (nodes_of ns) < deepest → IfSome r (λ t. HasRoom t.now)
room-find p ns r is low = copied-low r (find p ns) is (find-low p ns low)

pub room-get : (ns : List Node) (k : ℕ) (r : Option (Bor Node)) → option_copied r ≡ slice_get ns k → depth_all (nodes_of ns) < deepest → IfSome r (λ t. HasRoom t.now)
room-get ns k r is low = copied-low r (slice_get ns k) is (get-low ns k low)

pub room-nth : (p : Node → Bool) (ns : List Node) (k : ℕ) (r : Option (Bor Node)) → option_copied r ≡ slice_get (filter p ns) k → depth_all (nodes_of ns) < deepest → IfSome r (λ t. HasRoom t.now)
room-nth p ns k r is low = let fewer = filter-low p ns in room-get (filter p ns) k r is (omega arith)
