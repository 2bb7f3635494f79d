-- The encoding of a tree in the logic.
use Rattle.std.proofs.Common.{◌≡◌, ◌≢◌, ℕ, ap, arith}
use Rattle.std.specs.Coded.{Coded, coded_ℕ, coded_list}
use base.Stored.{Gv, gnil, gnum, gcons}
use Rattle.tree_format.specs.Node.{Node, Nodes, leaf, master, none, node}

-- the first of the pair `g`, or the empty code if `g` isn't a pair. `Gv` is the logic's type for stored values: numbers (`gnum`), nested pairs
-- (`gcons`) and one empty code (`gnil`).
abbrev head : Gv → Gv
head gnil = gnil
head (gnum n) = gnil
head (gcons a b) = a

-- the second of the pair `g`, or the empty code if `g` isn't a pair
abbrev tail : Gv → Gv
tail gnil = gnil
tail (gnum n) = gnil
tail (gcons a b) = b

-- Pairs that begin with different numbers `m` and `n` aren't equal.
apart : (m n : ℕ) {a b : Gv} → gcons (gnum m) a ≡ gcons (gnum n) b → m ≢ n → ⊥
apart m n p other = other (cc)

abbrev mutual
  pub node_code : Node → Gv
  node_code (leaf id at body) = gcons (gnum 0) (gcons (coded_ℕ.code id) (gcons (coded_ℕ.code at) ((coded_list coded_ℕ).code body)))
  node_code (master id at kids) = gcons (gnum 1) (gcons (coded_ℕ.code id) (gcons (coded_ℕ.code at) (nodes_code kids)))

  pub nodes_code : Nodes → Gv
  nodes_code none = gcons (gnum 0) gnil
  nodes_code (node n ns) = gcons (gnum 1) (gcons (node_code n) (nodes_code ns))

-- Trees with the same encoding are equal.
mutual
  pub node_inj : (x y : Node) → node_code x ≡ node_code y → x ≡ y
  node_inj (leaf a b c) (leaf d e f) p =
      λ i. leaf (coded_ℕ.inj a d (ap (λ g. head (tail g)) p) i) (coded_ℕ.inj b e (ap (λ g. head (tail (tail g))) p) i) ((coded_list coded_ℕ).inj c f (ap (λ g. tail (tail (tail g))) p) i)
  node_inj (leaf a b c) (master d e f) p = absurd (apart 0 1 p (omega arith))
  node_inj (master a b c) (leaf d e f) p = absurd (apart 1 0 p (omega arith))
  node_inj (master a b c) (master d e f) p =
      λ i. master (coded_ℕ.inj a d (ap (λ g. head (tail g)) p) i) (coded_ℕ.inj b e (ap (λ g. head (tail (tail g))) p) i) (nodes_inj c f (ap (λ g. tail (tail (tail g))) p) i)

  pub nodes_inj : (x y : Nodes) → nodes_code x ≡ nodes_code y → x ≡ y
  nodes_inj none none p = λ i. none
  nodes_inj none (node n ns) p = absurd (apart 0 1 p (omega arith))
  nodes_inj (node n ns) none p = absurd (apart 1 0 p (omega arith))
  nodes_inj (node m ms) (node n ns) p =
      λ i. node (node_inj m n (ap (λ g. head (tail g)) p) i) (nodes_inj ms ns (ap (λ g. tail (tail g)) p) i)

-- the encoding of trees as codes, with the proof that different trees have different codes. The logic needs it to store a `Tree`.
abbrev pub coded_node : Coded Node
coded_node = record { code = node_code; inj = node_inj }
