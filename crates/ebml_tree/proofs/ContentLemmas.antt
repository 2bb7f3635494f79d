-- A tree's fields as a tree of the definitions.
use Rattle.std.proofs.Common.{◌≡◌, ◌≤◌, ◌<◌, ℕ, ◌+◌, List, [], ◌∷◌, ◌++◌, length, flat_map, true, false, refl, sym, ap, ap₂, append_assoc, ◌∙◌, arith}
use Rattle.tree_format.specs.Node.{Node, leaf, master, nodes_of, id_of, children, with_children, body_of, depth, depth_all, deepest, HasRoom, IsMaster, is_leaf}
use Rattle.tree_format.specs.NormalForm.{octets, content, header_octets, kept_octets, is_filler, longest}
use Rattle.tree_format.specs.Changes.{without, with_child}
use Rattle.tree_format.proofs.NodeLemmas.{list-nodes, octets_all-flat}
use Rattle.tree_format.specs.Standing.{IsSound, KeepsLimits, IsReadAgain, StandsIn}
use Rattle.tree_format.specs.Standing.{kept as kept_of}
use Rattle.tree_format.proofs.AgainLemmas.{sound-again}
use Rattle.tree_format.proofs.StandingLemmas.{sound-remove, sound-set, sound-push}
use Rattle.tree_format.proofs.ChangeLemmas.{long-without, long-with_child, long-push, deep-without, deep-with_child, deep-push}
use Rattle.tree_format.proofs.WrittenLemmas.{length-kept_octets, length-filler, length-header_octets}
use Rattle.ebml_tree.specs.declared.tree.content.Content.{Content}
use Rattle.ebml_tree.specs.declared.tree.content.Content.TheVariants.{Body, Children}
use Rattle.ebml_tree.specs.View.{node_of, kids_of, content_of, depth_of, octets_in, Measured, IsKids, HasKids, IsSame}

-- ---- the tree that the fields show

pub view_kids : (c : Content) (id at : ℕ) (n : Node) → node_of id at c ≡ n → children n ≡ kids_of c
view_kids (Body b) id at n is = rw (← is) refl
view_kids (Children v) id at n is = rw (← is) (list-nodes v.items)

pub view_body : (c : Content) (id at : ℕ) (n : Node) → node_of id at c ≡ n → body_of n ≡ octets_in c
view_body (Body b) id at n is = rw (← is) refl
view_body (Children v) id at n is = rw (← is) refl

pub view_id : (c : Content) (id at : ℕ) (n : Node) → node_of id at c ≡ n → id_of n ≡ id
view_id (Body b) id at n is = rw (← is) refl
view_id (Children v) id at n is = rw (← is) refl

pub view_depth : (c : Content) (id at : ℕ) (n : Node) → node_of id at c ≡ n → depth n ≡ depth_of c
view_depth (Body b) id at n is = rw (← is) refl
view_depth (Children v) id at n is = rw (← is) refl

pub view_content : (c : Content) (id at : ℕ) (n : Node) → node_of id at c ≡ n → content n ≡ content_of c
view_content (Body b) id at n is = rw (← is) refl
view_content (Children v) id at n is = rw (← is) (octets_all-flat v.items)

-- A tree that isn't nested too deep has room for its children.
pub view_low : (c : Content) (depth' : ℕ) → depth' ≡ depth_of c → depth' ≤ deepest → depth_all (nodes_of (kids_of c)) < deepest
view_low (Body b) depth' is low = omega arith
view_low (Children v) depth' is low = omega arith

pub view_octets : (c : Content) (id at : ℕ) (n : Node) → node_of id at c ≡ n → octets n ≡ kept_octets id (content_of c)
view_octets (Body b) id at n is = rw (← is) refl
view_octets (Children v) id at n is = rw (← is) (ap (kept_octets id) (octets_all-flat v.items))

-- A tree whose fields are measured keeps its limits.
pub view_limits : (id at written depth' : ℕ) (c : Content) (n : Node) → node_of id at c ≡ n → Measured id written depth' c → KeepsLimits n
view_limits id at written depth' c n is measured =
    let exact = measured.exact in
    let most = measured.most in
    let deep = measured.deep in
    let low = measured.not_too_deep in
    record { long = rw (view_content c id at n is) (omega arith); deep = rw (view_depth c id at n is) (omega arith) }

-- Children that aren't too long or too deep make such a tree.
pub limits-master : (id at sum : ℕ) (own ns : List Node) → own ≡ ns → (sum ≡ length (flat_map octets own)) × (sum ≤ longest) → depth_all (nodes_of ns) < deepest → KeepsLimits (master id at (nodes_of ns))
limits-master id at sum own ns is long low =
    let exact = long.0 in
    let most = long.1 in
    record { long = rw octets_all-flat (rw (← is) (omega arith)); deep = omega arith }

pub master_kids : (c : Content) (id at : ℕ) (n : Node) → node_of id at c ≡ n → IsMaster n → IsKids c
master_kids (Body b) id at n is kids = let never : true ≡ false = ap is_leaf is ∙ kids in absurd (cc)
master_kids (Children v) id at n is kids = tt

-- ---- the tree that they show after a change

pub view_has : (c d : Content) (id at : ℕ) (n : Node) (ns : List Node) → node_of id at c ≡ n → IsMaster n → HasKids d ns → node_of id at d ≡ with_children n ns
view_has c (Body b) id at n ns is kids has = absurd has
view_has (Body b) (Children w) id at n ns is kids has = absurd (master_kids (Body b) id at n is kids)
view_has (Children v) (Children w) id at n ns is kids has = rw (← is, has) refl

pub kept : (c d : Content) (id at : ℕ) (n : Node) → node_of id at c ≡ n → IsMaster n → HasKids d (kids_of c) → node_of id at d ≡ n
kept c (Body b) id at n is kids has = absurd has
kept (Body b) (Children w) id at n is kids has = absurd (master_kids (Body b) id at n is kids)
kept (Children v) (Children w) id at n is kids has = rw has is

pub has-master : (d : Content) (ns : List Node) (id at : ℕ) → HasKids d ns → IsMaster (node_of id at d)
has-master (Body b) ns id at has = absurd has
has-master (Children v) ns id at has = refl

pub sound-removed : (c d : Content) (id at k : ℕ) (n : Node) → node_of id at c ≡ n → IsMaster n → HasKids d (without k (kids_of c)) → IsSound n → IsSound (node_of id at d)
sound-removed c d id at k n is kids has sound =
    rw (view_has c d id at n (without k (kids_of c)) is kids has, ← view_kids c id at n is) (sound-remove n k kids sound)

-- A valid tree whose fields keep the limits is read back.
pub again-view : (id at written depth' : ℕ) (c : Content) (n : Node) (nodes : ℕ) → node_of id at c ≡ n → Measured id written depth' c → IsMaster n → IsSound n → kept_of n ≤ nodes → IsReadAgain nodes n
again-view id at written depth' c n nodes is measured m sound few = sound-again n nodes m sound (view_limits id at written depth' c n is measured) few

pub content_has : (d : Content) (ns : List Node) → HasKids d ns → content_of d ≡ flat_map octets ns
content_has (Body b) ns has = absurd has
content_has (Children w) ns has = ap (flat_map octets) has

pub kids_has : (d : Content) (ns : List Node) → HasKids d ns → kids_of d ≡ ns
kids_has (Body b) ns has = absurd has
kids_has (Children w) ns has = has

pub depth_has : (d : Content) (ns : List Node) → HasKids d ns → depth_of d ≡ depth_all (nodes_of ns) + 1
depth_has (Body b) ns has = absurd has
depth_has (Children w) ns has = ap (λ l. depth_all (nodes_of l) + 1) has

pub content_kids : (c : Content) → IsKids c → content_of c ≡ flat_map octets (kids_of c)
content_kids (Body b) kids = absurd kids
content_kids (Children v) kids = refl

pub depth_kids : (c : Content) → IsKids c → depth_of c ≡ depth_all (nodes_of (kids_of c)) + 1
depth_kids (Body b) kids = absurd kids
depth_kids (Children v) kids = refl

pub same_node : (c d : Content) (id at : ℕ) → IsSame c d → node_of id at d ≡ node_of id at c
same_node (Body b) (Body d) id at same = ap (leaf id at) (sym same)
same_node (Body b) (Children w) id at same = absurd same
same_node (Children v) (Body b) id at same = absurd same
same_node (Children v) (Children w) id at same = ap (λ l. master id at (nodes_of l)) (sym same)

pub same_content : (c d : Content) → IsSame c d → content_of d ≡ content_of c
same_content (Body b) (Body d) same = sym same
same_content (Body b) (Children w) same = absurd same
same_content (Children v) (Body b) same = absurd same
same_content (Children v) (Children w) same = ap (flat_map octets) (sym same)

pub same_depth : (c d : Content) → IsSame c d → depth_of d ≡ depth_of c
same_depth (Body b) (Body d) same = refl
same_depth (Body b) (Children w) same = absurd same
same_depth (Children v) (Body b) same = absurd same
same_depth (Children v) (Children w) same = ap (λ l. depth_all (nodes_of l) + 1) (sym same)

-- A header, then the content, is the whole of an Element that isn't left out.
pub written-whole : (c : Content) (id at : ℕ) (n : Node) (before start out : List ℕ) (written : ℕ) (trees : List Node) → node_of id at c ≡ n → is_filler id ≡ false → content_of c ≡ flat_map octets trees → written ≡ length (content_of c)
    → start ≡ before ++ header_octets id written → out ≡ start ++ flat_map octets trees → out ≡ before ++ octets n
written-whole c id at n before start out written trees is keeps inside exact header behind =
    let element : octets n ≡ header_octets id (length (content_of c)) ++ content_of c = view_octets c id at n is ∙ rw keeps refl in
    behind ∙ ap (λ l. l ++ flat_map octets trees) header ∙ append_assoc before (header_octets id written) (flat_map octets trees)
    ∙ ap (λ l. before ++ l) (ap₂ (λ k l. header_octets id k ++ l) exact (sym inside) ∙ sym element)

-- ---- reading back after a change

module _ (c d : Content) (id at : ℕ) (n : Node) (is : node_of id at c ≡ n) (m : IsMaster n) (sound : IsSound n) where
  -- With other valid children.
  pub again-has : (ns : List Node) (nodes : ℕ) → HasKids d ns → length (flat_map octets ns) ≤ longest → depth_all (nodes_of ns) < deepest → IsSound (with_children n ns) → kept_of (node_of id at d) ≤ nodes → IsReadAgain nodes (node_of id at d)
  again-has ns nodes has long low stands few =
      let same = view_has c d id at n ns is m has in
      let content_same : length (content (node_of id at d)) ≡ length (flat_map octets ns) = ap length (view_content d id at (node_of id at d) refl ∙ content_has d ns has) in
      let depth_same : depth (node_of id at d) ≡ depth_all (nodes_of ns) + 1 = view_depth d id at (node_of id at d) refl ∙ depth_has d ns has in
      sound-again (node_of id at d) nodes (has-master d ns id at has) (rw same stands) (record { long = omega arith; deep = omega arith }) few

  pub again-set : (child : Node) (own : List Node) (others long key written' depth' nodes : ℕ) → Measured id written' depth' c → own ≡ kids_of c → key ≡ id_of child → others ≡ length (flat_map octets (without key own)) → long ≡ length (octets child) → others + long ≤ longest
      → HasRoom child → StandsIn (id_of n) child → HasKids d (with_child child (kids_of c)) → kept_of (node_of id at d) ≤ nodes → IsReadAgain nodes (node_of id at d)
  again-set child own others long key written' depth' nodes measured same_kids same_key rest one fits room stands has few =
      let deep = measured.deep in
      let low = measured.not_too_deep in
      let part : others ≡ length (flat_map octets (without (id_of child) (kids_of c))) = rest ∙ ap₂ (λ k l. length (flat_map octets (without k l))) same_key same_kids in
      again-has (with_child child (kids_of c)) nodes has
      (omega (arith, long-with_child child (kids_of c)))
      (omega (arith, deep-with_child child (kids_of c), depth_kids c (master_kids c id at n is m)))
      (rw (← view_kids c id at n is) (sound-set n child m sound stands)) few

  pub again-push : (child : Node) (long written' depth' nodes : ℕ) → Measured id written' depth' c → long ≡ length (octets child) → written' + long ≤ longest
      → HasRoom child → StandsIn (id_of n) child → HasKids d (kids_of c ++ child ∷ []) → kept_of (node_of id at d) ≤ nodes → IsReadAgain nodes (node_of id at d)
  again-push child long written' depth' nodes measured one fits room stands has few =
      let exact = measured.exact in
      let deep = measured.deep in
      let low = measured.not_too_deep in
      again-has (kids_of c ++ child ∷ []) nodes has
      (omega (arith, long-push child (kids_of c), ap length (content_kids c (master_kids c id at n is m))))
      (omega (arith, deep-push child (kids_of c), depth_kids c (master_kids c id at n is m)))
      (rw (← view_kids c id at n is) (sound-push n child m sound stands)) few

  pub again-remove : (key written' depth' nodes : ℕ) → Measured id written' depth' c → HasKids d (without key (kids_of c)) → kept_of (node_of id at d) ≤ nodes → IsReadAgain nodes (node_of id at d)
  again-remove key written' depth' nodes measured has few =
      let exact = measured.exact in
      let most = measured.most in
      let deep = measured.deep in
      let low = measured.not_too_deep in
      again-has (without key (kids_of c)) nodes has
      (omega (arith, long-without key (kids_of c), ap length (content_kids c (master_kids c id at n is m))))
      (omega (arith, deep-without key (kids_of c), depth_kids c (master_kids c id at n is m)))
      (rw (← view_kids c id at n is) (sound-remove n key m sound)) few

  -- With the same children.
  pub again-kept : (written' depth' nodes : ℕ) → Measured id written' depth' c → HasKids d (kids_of c) → kept_of (node_of id at d) ≤ nodes → IsReadAgain nodes (node_of id at d)
  again-kept written' depth' nodes measured has few =
      let same = kept c d id at n is m has in
      let fewer = rw same at few in
      rw same (again-view id at written' depth' c n nodes is measured m sound fewer)

pub ruleset lengths = (length-kept_octets, length-filler, length-header_octets)

pub ruleset changes = (has-master, view_kids, view_body, master_kids, view_has, kept, content_has, kids_has, depth_has, content_kids, depth_kids, long-without, long-with_child, long-push, deep-without, deep-with_child, deep-push)

pub ruleset copies = (same_node, same_content, same_depth)

pub ruleset written = (view_octets, view_content, view_id, view_depth)
