-- Laws on the length and depth of a list of trees after a change.
use Rattle.std.proofs.Common.{◌≡◌, ◌≤◌, ℕ, zero, suc, ◌+◌, max, List, [], ◌∷◌, ◌++◌, length, flat_map, Bool, true, false, cond, not, ◌==◌, take, drop, get_or, nat_lt, ◌<◌, position, Option, Some, None, refl, sym, ap, ◌∙◌, arith, length-append, add-one}
use Rattle.std.proofs.lemmas.Bool.Decides.{nat_tests}
use Rattle.std.proofs.lemmas.List.{take-append-drop, take_all, drop_all}
use Rattle.std.proofs.lemmas.List.Sums.{passes_at_first}
use Rattle.std.proofs.Math.Seq.{drop-cons}
use Rattle.std.specs.List.{position_or_len}
use Rattle.std.proofs.lemmas.Grind.{flat_map-append}
use Rattle.tree_format.specs.Node.{Node, nodes_of, id_of, depth, depth_all}
use Rattle.tree_format.specs.NormalForm.{octets}
use Rattle.tree_format.specs.Changes.{without, placed_at, with_child}
use Rattle.tree_format.proofs.NodeLemmas.{depth_all-append}

-- ---- bytes

-- the number of bytes of the trees in sequence
abbrev long : List Node → ℕ
long ns = length (flat_map octets ns)

long-append : (ms ns : List Node) → long (ms ++ ns) ≡ long ms + long ns
long-append ms ns = ap length (flat_map-append octets ms ns) ∙ length-append (flat_map octets ms) (flat_map octets ns)

-- Trees without an ID have at most the bytes of all trees.
pub long-without : (id : ℕ) (ns : List Node) → length (flat_map octets (without id ns)) ≤ length (flat_map octets ns)
long-without id [] = omega arith
long-without id (n ∷ ns) = split (not (id_of n == id)) (long-without id ns)
  where
    split : (keep : Bool) → long (without id ns) ≤ long ns → long (cond keep (n ∷ without id ns) (without id ns)) ≤ long (n ∷ ns)
    split true rest = omega (arith, length-append (octets n) (flat_map octets (without id ns)), length-append (octets n) (flat_map octets ns))
    split false rest = omega (arith, length-append (octets n) (flat_map octets ns))

-- the place of the first tree with the ID `id`, or the length of the list
abbrev first_at : ℕ → List Node → ℕ
first_at id ns = position_or_len (λ m. id_of m == id) ns

without-other : (id : ℕ) (n : Node) (ns : List Node) → (id_of n == id) ≡ false → without id (n ∷ ns) ≡ n ∷ without id ns
without-other id n ns other = ap (λ b. cond (not b) (n ∷ without id ns) (without id ns)) other

without-same : (id : ℕ) (n : Node) (ns : List Node) → (id_of n == id) ≡ true → without id (n ∷ ns) ≡ without id ns
without-same id n ns same = ap (λ b. cond (not b) (n ∷ without id ns) (without id ns)) same

-- The trees without an ID are the trees before the first one with it, then the trees without it from there on.
long-split : (id : ℕ) (ns : List Node) → long (take (first_at id ns) ns) + long (without id (drop (first_at id ns) ns)) ≡ long (without id ns)
long-split id [] = omega arith
long-split id (n ∷ ns) = split (id_of n == id) refl (long-split id ns)
  where
    split : (is_id : Bool) → (id_of n == id) ≡ is_id → long (take (first_at id ns) ns) + long (without id (drop (first_at id ns) ns)) ≡ long (without id ns)
        → long (take (cond (not is_id) (1 + first_at id ns) 0) (n ∷ ns)) + long (without id (drop (cond (not is_id) (1 + first_at id ns) 0) (n ∷ ns))) ≡ long (without id (n ∷ ns))
    split true is rest = omega arith
    split false is rest =
        let more : 1 + first_at id ns ≡ suc (first_at id ns) = omega arith in
        ap (λ i. long (take i (n ∷ ns)) + long (without id (drop i (n ∷ ns)))) more
        ∙ omega (arith, rest, length-append (octets n) (flat_map octets (take (first_at id ns) ns)), length-append (octets n) (flat_map octets (without id ns)), ap long (without-other id n ns is))

-- The first tree with an ID isn't one with another ID.
long-behind_first : (id : ℕ) (ns : List Node) (d : Node) → first_at id ns < length ns → long (without id (drop (first_at id ns) ns)) ≡ long (without id (drop (first_at id ns + 1) ns))
long-behind_first id ns d inside =
    let next : drop (first_at id ns + 1) ns ≡ drop (suc (first_at id ns)) ns = rw add-one refl in
    ap (λ l. long (without id l)) (drop-cons ns (first_at id ns) d inside)
    ∙ ap long (without-same id (get_or ns (first_at id ns) d) (drop (suc (first_at id ns)) ns) (passes_at_first (λ m. id_of m == id) ns d inside))
    ∙ ap (λ l. long (without id l)) (sym next)

-- After a child is set, the bytes are the bytes of the trees with another ID, plus its own.
pub long-with_child : (n : Node) (ns : List Node) → length (flat_map octets (with_child n ns)) ≡ length (flat_map octets (without (id_of n) ns)) + length (octets n)
long-with_child n ns = split (nat_lt (first_at (id_of n) ns) (length ns)) refl
  where
    split : (found : Bool) → nat_lt (first_at (id_of n) ns) (length ns) ≡ found
        → long (placed_at n ns (cond found (Some (first_at (id_of n) ns)) None)) ≡ long (without (id_of n) ns) + length (octets n)
    split true is =
        let inside : first_at (id_of n) ns < length ns = grind (arith, nat_tests) in
        omega (arith, long-split (id_of n) ns, long-behind_first (id_of n) ns n inside, long-append (take (first_at (id_of n) ns) ns) (n ∷ without (id_of n) (drop (first_at (id_of n) ns + 1) ns)), length-append (octets n) (flat_map octets (without (id_of n) (drop (first_at (id_of n) ns + 1) ns))))
    split false is =
        let past : length ns ≤ first_at (id_of n) ns = grind (arith, nat_tests) in
        omega (arith, long-split (id_of n) ns, long-append ns (n ∷ []), length-append (octets n) [], ap long (take_all (first_at (id_of n) ns) ns past), ap (λ l. long (without (id_of n) l)) (drop_all (first_at (id_of n) ns) ns past))

pub long-push : (n : Node) (ns : List Node) → length (flat_map octets (ns ++ n ∷ [])) ≡ length (flat_map octets ns) + length (octets n)
long-push n ns = omega (arith, long-append ns (n ∷ []), length-append (octets n) [])

-- ---- depth

abbrev deep : List Node → ℕ
deep ns = depth_all (nodes_of ns)

pub deep-without : (id : ℕ) (ns : List Node) → depth_all (nodes_of (without id ns)) ≤ depth_all (nodes_of ns)
deep-without id [] = omega arith
deep-without id (n ∷ ns) = split (not (id_of n == id)) (deep-without id ns)
  where
    split : (keep : Bool) → deep (without id ns) ≤ deep ns → deep (cond keep (n ∷ without id ns) (without id ns)) ≤ deep (n ∷ ns)
    split true rest = omega arith
    split false rest = omega arith

deep-drop_one : (k : ℕ) (ns : List Node) → deep (drop (suc k) ns) ≤ deep (drop k ns)
deep-drop_one zero [] = omega arith
deep-drop_one zero (n ∷ ns) = omega arith
deep-drop_one (suc k) [] = omega arith
deep-drop_one (suc k) (n ∷ ns) = deep-drop_one k ns

deep-take_drop : (k : ℕ) (ns : List Node) → max (deep (take k ns)) (deep (drop k ns)) ≡ deep ns
deep-take_drop k ns = sym (depth_all-append (take k ns) (drop k ns)) ∙ ap deep (take-append-drop k ns)

deep-placed_at : (n : Node) (ns : List Node) (o : Option ℕ) → deep (placed_at n ns o) ≤ max (depth n) (deep ns)
deep-placed_at n ns None = omega (arith, depth_all-append ns (n ∷ []))
deep-placed_at n ns (Some k) =
    let next : drop (k + 1) ns ≡ drop (suc k) ns = rw add-one refl in
    let behind = deep-without (id_of n) (drop (k + 1) ns) in
    let fewer : deep (drop (k + 1) ns) ≤ deep (drop k ns) = rw next (deep-drop_one k ns) in
    omega (arith, behind, fewer, depth_all-append (take k ns) (n ∷ without (id_of n) (drop (k + 1) ns)), deep-take_drop k ns)

-- After a child is set, the list is at most as deep as before, or as the child.
pub deep-with_child : (n : Node) (ns : List Node) → depth_all (nodes_of (with_child n ns)) ≤ max (depth n) (depth_all (nodes_of ns))
deep-with_child n ns = deep-placed_at n ns (position (λ m. id_of m == id_of n) ns)

pub deep-push : (n : Node) (ns : List Node) → depth_all (nodes_of (ns ++ n ∷ [])) ≡ max (depth_all (nodes_of ns)) (depth n)
deep-push n ns = omega (arith, depth_all-append ns (n ∷ []))
