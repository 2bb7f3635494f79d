-- The offsets of trees, and Elements that aren't written, don't change the written bytes.
use Rattle.std.proofs.Common.{◌≡◌, ℕ, ◌+◌, Bool, true, false, if◌then◌else◌, List, [], ◌++◌, length, refl, sym, ap, ap₂, ◌∙◌}
use Rattle.tree_format.specs.Node.{Node, Nodes, leaf, master, none, node}
use Rattle.tree_format.specs.NormalForm.{is_filler, header_octets, kept_octets, octets, octets_all}
use Rattle.tree_format.specs.Standing.{placed, placed_all, placed_in}

-- An Element, then the other trees.
placed-step : (p : ℕ) (f : Bool) (written : List ℕ) (n' : Node) (ns : Nodes) → written ≡ octets n' → ((p : ℕ) → octets_all (placed_all p ns) ≡ octets_all ns) → (f ≡ true → written ≡ [])
    → octets_all (if f then placed_all p ns else node n' (placed_all (p + length written) ns)) ≡ written ++ octets_all ns
placed-step p true written n' ns same rest nothing = rest p ∙ ap (λ l. l ++ octets_all ns) (sym (nothing refl))
placed-step p false written n' ns same rest nothing = ap₂ (λ l m. l ++ m) (sym same) (rest (p + length written))

filler-none : (id : ℕ) (body : List ℕ) → is_filler id ≡ true → kept_octets id body ≡ []
filler-none id body is = rw is refl

pub octets_all-placed : (ns : Nodes) (p : ℕ) → octets_all (placed_all p ns) ≡ octets_all ns
octets_all-placed none p = refl
octets_all-placed (node (leaf id at body) ns) p =
    placed-step p (is_filler id) (octets (leaf id at body)) (leaf id p body) ns refl (λ q. octets_all-placed ns q) (filler-none id body)
octets_all-placed (node (master id at kids) ns) p =
    placed-step p (is_filler id) (octets (master id at kids)) (placed p (master id at kids)) ns
    (ap (kept_octets id) (sym (octets_all-placed kids (p + length (header_octets id (length (octets_all kids)))))))
    (λ q. octets_all-placed ns q) (filler-none id (octets_all kids))

pub octets-placed_in : (offset base : ℕ) (n : Node) → octets (placed_in offset base n) ≡ octets n
octets-placed_in offset base (leaf id at body) = refl
octets-placed_in offset base (master id at kids) = ap (kept_octets id) (octets_all-placed kids base)
