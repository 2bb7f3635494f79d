-- The number of written elements in a tree.
use Rattle.std.proofs.Common.{◌≡◌, ◌≤◌, ◌<◌, ℕ, zero, suc, ◌+◌, Bool, true, false, cond, List, [], ◌∷◌, length, drop, flat_map, get_or, nat_lt, Option, Some, None, is_some, not, refl, sym, ap, ◌∙◌, arith}
use Rattle.std.specs.Option.{SomeIff}
use Rattle.std.proofs.lemmas.Bool.Decides.{nat_tests}
use Rattle.std.proofs.lemmas.List.{drop_all}
use Rattle.ebml_numbers.proofs.WidthLemmas.{least_size_width-IsLeast}
use Rattle.mkv_schema.specs.declared.limits.TheConstants.{MAX_MASTER_LEN}
use Rattle.tree_format.specs.declared.limits.TheConstants.{MAX_NODES}
use Rattle.tree_format.specs.Node.{Node, leaf, master, nodes_of, id_of, children, count, count_all, IsMaster}
use Rattle.tree_format.specs.NormalForm.{octets, content, is_filler, longest}
use Rattle.tree_format.specs.Standing.{kept, kept_all}
use Rattle.tree_format.proofs.NodeLemmas.{nodes-list, octets_all-flat}
use Rattle.tree_format.proofs.WrittenLemmas.{octets-kept, length-filler, length-kept_octets}
use Rattle.ebml_tree.proofs.LoopLemmas.{next-is}
use Rattle.output_records.specs.RecordLimits.{is_too_large}

-- A tree counts as one, plus its written children.
pub kept-children : (n : Node) → kept n ≡ kept_all (nodes_of (children n)) + 1
kept-children (leaf id at body) = refl
kept-children (master id at kids) = ap (λ k. kept_all k + 1) (sym (nodes-list kids))

-- The bytes after a master's header are the bytes of its children.
pub content-children : (n : Node) → IsMaster n → content n ≡ flat_map octets (children n)
content-children (leaf id at body) is = absurd (cc)
content-children (master id at kids) is = ap (λ k. content (master id at k)) (sym (nodes-list kids)) ∙ octets_all-flat (children (master id at kids))

-- ---- one more child

-- Void and CRC-32 have no bytes, and other elements have some.
pub filler-length : (n : Node) → is_filler (id_of n) ≡ true → length (octets n) ≡ 0
filler-length n goes = ap length (octets-kept n) ∙ length-filler (id_of n) (content n) goes

pub kept-length : (n : Node) → length (content n) ≤ longest → is_filler (id_of n) ≡ false → 0 < length (octets n)
kept-length n short keeps =
    let long = ap length (octets-kept n) ∙ length-kept_octets (id_of n) (content n) (length (content n)) refl keeps in
    let some = (least_size_width-IsLeast (length (content n)) (omega arith)).some in
    omega arith

kept_all-next : (is_filled : Bool) (n : Node) (ns : List Node) → is_filler (id_of n) ≡ is_filled → kept_all (nodes_of (n ∷ ns)) ≡ cond is_filled (kept_all (nodes_of ns)) (kept n + kept_all (nodes_of ns))
kept_all-next is_filled n ns is = ap (λ b. cond b (kept_all (nodes_of ns)) (kept n + kept_all (nodes_of ns))) is

-- An element with bytes counts.
pub next-written : (ns : List Node) (i : ℕ) (n : Node) → i < length ns → n ≡ get_or ns i n → 0 < length (octets n) → kept_all (nodes_of (drop i ns)) ≡ kept n + kept_all (nodes_of (drop (i + 1) ns))
next-written ns i n inside is some = ap (λ l. kept_all (nodes_of l)) (next-is i ns n inside is) ∙ kept_all-next false n (drop (i + 1) ns) (of (is_filler (id_of n)) refl)
  where
    of : (b : Bool) → is_filler (id_of n) ≡ b → is_filler (id_of n) ≡ false
    of true goes = let none = filler-length n goes in absurd (omega arith)
    of false keeps = keeps

-- An element without bytes doesn't count.
pub next-unwritten : (ns : List Node) (i : ℕ) (n : Node) → i < length ns → n ≡ get_or ns i n → length (content n) ≤ longest → length (octets n) ≤ 0 → kept_all (nodes_of (drop i ns)) ≡ kept_all (nodes_of (drop (i + 1) ns))
next-unwritten ns i n inside is short none = ap (λ l. kept_all (nodes_of l)) (next-is i ns n inside is) ∙ kept_all-next true n (drop (i + 1) ns) (of (is_filler (id_of n)) refl)
  where
    of : (b : Bool) → is_filler (id_of n) ≡ b → is_filler (id_of n) ≡ true
    of true goes = goes
    of false keeps = let some = kept-length n short keeps in absurd (omega arith)

pub none-left : (ns : List Node) (i : ℕ) → length ns ≤ i → kept_all (nodes_of (drop i ns)) ≡ 0
none-left ns i past = ap (λ l. kept_all (nodes_of l)) (drop_all i ns past)

-- ---- a child is smaller than its parent

count-get : (ns : List Node) (i : ℕ) (n : Node) → i < length ns → n ≡ get_or ns i n → count n ≤ count_all (nodes_of ns)
count-get [] i n inside is = absurd (omega arith)
count-get (m ∷ ns) zero n inside is = omega (arith, ap count is)
count-get (m ∷ ns) (suc i) n inside is = let rest = count-get ns i n (omega arith) is in omega arith

count-children : (n : Node) → count_all (nodes_of (children n)) < count n
count-children (leaf id at body) = omega arith
count-children (master id at kids) = omega (arith, ap count_all (nodes-list kids))

pub child-smaller : (tree n : Node) (ns : List Node) (i : ℕ) → ns ≡ children tree → i < length ns → n ≡ get_or ns i n → count n < count tree
child-smaller tree n ns i are inside is =
    let some = count-get ns i n inside is in
    let all = count-children tree in
    let same = ap (λ l. count_all (nodes_of l)) are in
    omega arith

-- ---- too large records

few-nodes : (o : Option ℕ) (b : Bool) (nodes k left : ℕ) → SomeIff o (k ≤ nodes) left → is_some o ≡ not b → b ≡ nat_lt nodes k
few-nodes None true nodes k left few is = of (nat_lt nodes k) refl
  where
    of : (b : Bool) → nat_lt nodes k ≡ b → true ≡ b
    of true more = refl
    of false more = absurd (few (grind (arith, nat_tests)))
few-nodes None false nodes k left few is = absurd (cc)
few-nodes (Some v) true nodes k left few is = absurd (cc)
few-nodes (Some v) false nodes k left few is = of (nat_lt nodes k) refl
  where
    of : (b : Bool) → nat_lt nodes k ≡ b → false ≡ b
    of true more = let some = few.0 in absurd (grind (arith, nat_tests))
    of false more = refl

module _ (n : Node) (ns : List Node) (long : Bool) (is : IsMaster n) (are : ns ≡ children n) (tells : long ≡ nat_lt MAX_MASTER_LEN (length (flat_map octets ns))) where
  long-is : nat_lt MAX_MASTER_LEN (length (content n)) ≡ long
  long-is = ap (λ l. nat_lt MAX_MASTER_LEN (length l)) (content-children n is ∙ ap (flat_map octets) (sym are)) ∙ sym tells

  pub too-long : long ≡ true → long ≡ is_too_large n
  too-long passes = rw (long-is, passes) refl

  pub too-many : long ≡ false → (o : Option ℕ) (b : Bool) (left : ℕ) → SomeIff o (kept n ≤ MAX_NODES) left → is_some o ≡ not b → b ≡ is_too_large n
  too-many short o b left few is = rw (long-is, short) (few-nodes o b MAX_NODES (kept n) left few is)
