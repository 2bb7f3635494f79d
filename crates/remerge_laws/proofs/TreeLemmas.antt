-- Trees that keep a reader's limits are read with them.
use Rattle.std.proofs.Common.{◌≡◌, ℕ, ◌+◌, ◌≤◌, ◌<◌, Bool, List, [], ◌∷◌, map, length, length-append, All, Option, Some, None, Result, Ok, refl, sym, ap, ap₂, ◌∙◌, arith, inl, inr}
use Rattle.std.proofs.lemmas.Bool.{lt-leb, cases_Bool}
use Rattle.std.proofs.lemmas.List.Elements.{All-nil, All-cons, All-head, All-tail, All-append}
use Rattle.mkv_io.specs.declared.damage.Damage.{Damage}
use Rattle.mkv_io.specs.declared.damage.Kind.TheVariants.{TooMany}
use Rattle.mkv_schema.specs.Element.{damage}
use Rattle.mkv_schema.specs.Outline.{first_damage, first_refusal, where_it}
use Rattle.mkv_io.specs.Results.{unless}
use Rattle.mkv_schema.proofs.OutlineLemmas.{unless-ok}
use Rattle.tree_format.specs.Node.{Node, Nodes, leaf, master, none, node, nodes_of, id_of, count, count_all, depth, depth_all, deepest}
use Rattle.tree_format.specs.NormalForm.{is_filler, header_octets, octets, octets_all}
use Rattle.tree_format.specs.Order.{Listed, NodeContext, in_order, all_in_order, told_at, too_deep, no_value, one_too_many, causes, first_refused, elements_in, tree_without_limits}
use Rattle.tree_format.specs.Standing.{kept, kept_all, placed, placed_all, placed_in}
use Rattle.tree_format.proofs.OrderLemmas.{sound-without_limits, tree_of-in_order}
use Rattle.remerge_laws.specs.Trees.{AlikeRecordsCountAlike, SmallTreesAreRead}

-- ---- Elements that are met in a tree, in order

mutual
  length-in_order : (parent around : ℕ) (n : Node) → length (in_order parent around n) ≡ count n
  length-in_order parent around (leaf id at body) = refl
  length-in_order parent around (master id at kids) = let rest = length-all_in_order id (around + 1) kids in omega arith

  length-all_in_order : (parent around : ℕ) (ns : Nodes) → length (all_in_order parent around ns) ≡ count_all ns
  length-all_in_order parent around none = refl
  length-all_in_order parent around (node n ns) =
      omega (arith, length-append (in_order parent around n) (all_in_order parent around ns), length-in_order parent around n, length-all_in_order parent around ns)

-- The Element isn't inside too many masters.
abbrev IsHigh : NodeContext → Type 0
IsHigh s = too_deep s ≡ None

high-master : (parent around id at : ℕ) (kids : Nodes) → around < deepest → IsHigh (record { parent = parent; around = around; node = master id at kids })
high-master parent around id at kids few = ap (λ (b : Bool). where_it b (damage TooMany id at)) (lt-leb deepest around few)

mutual
  all-high : (parent around : ℕ) (n : Node) → around + depth n ≤ deepest → All IsHigh (in_order parent around n)
  all-high parent around (leaf id at body) low = All-cons IsHigh (record { parent = parent; around = around; node = leaf id at body }) [] refl (All-nil IsHigh)
  all-high parent around (master id at kids) low =
      All-cons IsHigh (record { parent = parent; around = around; node = master id at kids }) (all_in_order id (around + 1) kids) (high-master parent around id at kids (omega arith)) (all-high_among id (around + 1) kids (omega arith))

  all-high_among : (parent around : ℕ) (ns : Nodes) → around + depth_all ns ≤ deepest → All IsHigh (all_in_order parent around ns)
  all-high_among parent around none low = All-nil IsHigh
  all-high_among parent around (node n ns) low =
      All-append IsHigh (in_order parent around n) (all_in_order parent around ns) (all-high parent around n (omega arith)) (all-high_among parent around ns (omega arith))

-- ---- no refusal

pub none-both : (a b : Option Damage) → first_refusal a b ≡ None → (a ≡ None) × (b ≡ None)
none-both None b is = (refl, is)
none-both (Some d) b is = absurd (cc)

first-refusal : (o : Option Damage) (os : List (Option Damage)) → first_damage (o ∷ os) ≡ first_refusal o (first_damage os)
first-refusal None os = refl
first-refusal (Some d) os = refl

pub three-none : (a b c : Option Damage) → a ≡ None → b ≡ None → c ≡ None → first_damage (a ∷ b ∷ c ∷ []) ≡ None
three-none a b c x y z = rw (x, y, z) refl

none-refused : (nodes before : ℕ) (spots : List NodeContext) → All IsHigh spots → first_damage (map no_value spots) ≡ None → before + length spots ≤ nodes → first_refused nodes before spots ≡ None
none-refused nodes before [] high values few = refl
none-refused nodes before (s ∷ spots) high values few =
    let both = none-both (no_value s) (first_damage (map no_value spots)) (sym (first-refusal (no_value s) (map no_value spots)) ∙ values) in
    let room : one_too_many nodes before s ≡ None = ap (λ (b : Bool). where_it b (told_at TooMany s)) (lt-leb nodes before (omega arith)) in
    let one : first_damage (causes nodes before s) ≡ None = three-none (one_too_many nodes before s) (too_deep s) (no_value s) room (All-head IsHigh s spots high) both.0 in
    first-refusal (first_damage (causes nodes before s)) _
    ∙ ap (λ (o : Option Damage). first_refusal o (first_refused nodes (before + 1) spots)) one
    ∙ none-refused nodes (before + 1) spots (All-tail IsHigh s spots high) both.1 (omega arith)

-- A tree that is read without limits, and keeps them, is read with them.
pub small-read : SmallTreesAreRead
small-read id offset body base nodes n is few low =
    let all : Listed = elements_in id base body in
    let tree : Node = master id offset (nodes_of all.trees) in
    let parts = unless-ok (first_refusal (first_damage (map no_value (in_order 0 0 tree))) all.damage) tree n is in
    let both = none-both (first_damage (map no_value (in_order 0 0 tree))) all.damage parts.0 in
    let many : count tree ≡ count n = ap count parts.1 in
    let deep : depth tree ≡ depth n = ap depth parts.1 in
    let none_is : first_refused nodes 0 (in_order 0 0 tree) ≡ None =
    none-refused nodes 0 (in_order 0 0 tree) (all-high 0 0 tree (omega arith)) both.0 (omega (arith, length-in_order 0 0 tree)) in
    tree_of-in_order id offset body base nodes
    ∙ ap₂ (λ (o p : Option Damage). unless (first_refusal o p) tree) none_is both.1
    ∙ ap (λ t. let r : Result Node Damage = Ok t in r) parts.1

-- ---- an Element at the place of its written form

mutual
  pub count-placed : (p : ℕ) (n : Node) → count (placed p n) ≡ kept n
  count-placed p (leaf id at body) = refl
  count-placed p (master id at kids) = ap (λ (k : ℕ). k + 1) (count-placed_all (p + length (header_octets id (length (octets_all kids)))) kids)

  count-placed_all : (p : ℕ) (ns : Nodes) → count_all (placed_all p ns) ≡ kept_all ns
  count-placed_all p none = refl
  count-placed_all p (node n ns) = elim (cases_Bool (is_filler (id_of n))) [
    | inl filler ↦ rw filler (count-placed_all p ns)
    | inr other ↦ rw other (ap₂ (λ (a b : ℕ). a + b) (count-placed p n) (count-placed_all (p + length (octets n)) ns))
  ]

-- The number of nodes of a tree that is read back at any two places is the number of Elements that are written.
count-placed_in : (offset base : ℕ) (n : Node) → count (placed_in offset base n) ≡ kept n
count-placed_in offset base (leaf id at body) = refl
count-placed_in offset base (master id at kids) = ap (λ (k : ℕ). k + 1) (count-placed_all base kids)

mutual
  pub depth-placed : (p : ℕ) (n : Node) → depth (placed p n) ≤ depth n
  depth-placed p (leaf id at body) = omega arith
  depth-placed p (master id at kids) = let inner = depth-placed_all (p + length (header_octets id (length (octets_all kids)))) kids in omega arith

  depth-placed_all : (p : ℕ) (ns : Nodes) → depth_all (placed_all p ns) ≤ depth_all ns
  depth-placed_all p none = omega arith
  depth-placed_all p (node n ns) = elim (cases_Bool (is_filler (id_of n))) [
    | inl filler ↦ rw filler (let behind = depth-placed_all p ns in omega arith)
    | inr other ↦ rw other (let one = depth-placed p n in let behind = depth-placed_all (p + length (octets n)) ns in omega arith)
  ]

-- ---- records that are written alike

-- Both are read, without limits, as the same tree.
pub alike-count : AlikeRecordsCountAlike
alike-count own m n one two same =
    let ids : id_of m ≡ id_of n = one.id ∙ sym two.id in
    let first = (sound-without_limits m one.master one.sound one.limits).read 0 0 in
    let second = (sound-without_limits n two.master two.sound two.limits).read 0 0 in
    let read : Ok (placed_in 0 0 m) ≡ Ok (placed_in 0 0 n) = sym first ∙ ap₂ (λ (i : ℕ) (o : List ℕ). tree_without_limits i 0 o 0) ids same ∙ second in
    let tree : placed_in 0 0 m ≡ placed_in 0 0 n = cc in
    sym (count-placed_in 0 0 m) ∙ ap count tree ∙ count-placed_in 0 0 n
