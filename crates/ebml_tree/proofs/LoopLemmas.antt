-- Lists of trees, one tree at a time.
use Rattle.std.proofs.Common.{◌≡◌, ◌≤◌, ◌<◌, ℕ, ◌+◌, max, List, [], ◌∷◌, ◌++◌, length, flat_map, Bool, true, false, not, cond, ◌==◌, drop, get_or, refl, ap, ◌∙◌, arith, add-one, length-append}
use Rattle.std.proofs.lemmas.List.{drop_all}
use Rattle.std.proofs.Math.Seq.{drop-cons}
use Rattle.tree_format.specs.Node.{Node, id_of, nodes_of, depth, depth_all}
use Rattle.tree_format.specs.NormalForm.{octets}
use Rattle.tree_format.specs.Changes.{without}
use Rattle.tree_format.proofs.ChangeLemmas.{long-without}

-- The rest of a list begins with its next tree.
pub next-is : (i : ℕ) (ns : List Node) (n : Node) → i < length ns → n ≡ get_or ns i n → drop i ns ≡ n ∷ drop (i + 1) ns
next-is i ns n inside is = drop-cons ns i n inside ∙ rw (add-one, ← is) refl

pub octets-next : (i : ℕ) (ns : List Node) (n : Node) → i < length ns → n ≡ get_or ns i n → flat_map octets (drop i ns) ≡ octets n ++ flat_map octets (drop (i + 1) ns)
octets-next i ns n inside is = ap (flat_map octets) (next-is i ns n inside is)

pub long-next : (i : ℕ) (ns : List Node) (n : Node) → i < length ns → n ≡ get_or ns i n → length (flat_map octets (drop i ns)) ≡ length (octets n) + length (flat_map octets (drop (i + 1) ns))
long-next i ns n inside is = ap length (octets-next i ns n inside is) ∙ length-append (octets n) (flat_map octets (drop (i + 1) ns))

pub deep-next : (i : ℕ) (ns : List Node) (n : Node) → i < length ns → n ≡ get_or ns i n → depth_all (nodes_of (drop i ns)) ≡ max (depth n) (depth_all (nodes_of (drop (i + 1) ns)))
deep-next i ns n inside is = ap (λ l. depth_all (nodes_of l)) (next-is i ns n inside is)

-- At the end the rest is empty.
pub octets-none : (i : ℕ) (ns : List Node) → length ns ≤ i → flat_map octets (drop i ns) ≡ []
octets-none i ns past = ap (flat_map octets) (drop_all i ns past)

pub long-none : (i : ℕ) (ns : List Node) → length ns ≤ i → length (flat_map octets (drop i ns)) ≡ 0
long-none i ns past = ap length (octets-none i ns past)

pub deep-none : (i : ℕ) (ns : List Node) → length ns ≤ i → depth_all (nodes_of (drop i ns)) ≡ 0
deep-none i ns past = ap (λ l. depth_all (nodes_of l)) (drop_all i ns past)

pub ruleset rest = (octets-next, long-next, deep-next, octets-none, long-none, deep-none)

-- The bytes of the remaining trees with another ID.
pub others-next : (id i : ℕ) (ns : List Node) (n : Node) → i < length ns → n ≡ get_or ns i n
    → length (flat_map octets (without id (drop i ns))) ≡ cond (id_of n == id) 0 (length (octets n)) + length (flat_map octets (without id (drop (i + 1) ns)))
others-next id i ns n inside is = ap (λ l. length (flat_map octets (without id l))) (next-is i ns n inside is) ∙ split (id_of n == id)
  where
    split : (is_id : Bool) → length (flat_map octets (cond (not is_id) (n ∷ without id (drop (i + 1) ns)) (without id (drop (i + 1) ns))))
        ≡ cond is_id 0 (length (octets n)) + length (flat_map octets (without id (drop (i + 1) ns)))
    split true = omega arith
    split false = length-append (octets n) (flat_map octets (without id (drop (i + 1) ns)))

pub others-none : (id i : ℕ) (ns : List Node) → length ns ≤ i → length (flat_map octets (without id (drop i ns))) ≡ 0
others-none id i ns past = ap (λ l. length (flat_map octets (without id l))) (drop_all i ns past)

pub ruleset others = (others-next, others-none, long-without)
