-- Changed elements are still valid in their parents.
use Rattle.std.proofs.Common.{◌≡◌, ◌<◌, ◌≤◌, ℕ, zero, suc, ◌==◌, Bool, true, false, List, [], ◌∷◌, length, take, get_or, Option, None, Some, IfSome, Result, Ok, Err, IfOk, OnOk, eqb-true, refl, sym, ap, ap₂, subst, ◌∙◌, arith}
use Rattle.std.specs.declared.alloc.AllocError.{AllocError}
use Rattle.std.proofs.lemmas.List.{take_all}
use Rattle.tree_format.specs.Node.{Node, leaf, master, nodes_of, list_of, id_of, offset_of, children, with_children, count, count_all, depth, depth_all, IsMaster}
use Rattle.tree_format.specs.Changes.{with_child}
use Rattle.tree_format.specs.Reading.{is_master_in}
use Rattle.tree_format.specs.Standing.{StandsIn, AllStandIn, IsSound}
use Rattle.tree_format.proofs.NodeLemmas.{nodes-list}
use Rattle.tree_format.proofs.ChangeLemmas.{deep-with_child}
use Rattle.tree_format.specs.Children.{uint_leaf, set_in}
use Rattle.ebml_tree.specs.Building.{IsBuilt, IsInPlace, IsRead}
use Rattle.ebml_tree.proofs.BuildLemmas.{child-of, stands-read, built-in_place, built-with}
use Rattle.record_changes.specs.Standing.{IsReadIf, MayReplace}

-- ---- children

-- A child of a master that was read was read too, if the table has it as a master.
pub read-if : (parent own : ℕ) (tree n : Node) (ns : List Node) (i : ℕ) → is_master_in parent own ≡ true → IsRead parent tree → ns ≡ children tree → i < length ns → n ≡ get_or ns i n → IsReadIf own n
read-if parent own tree n ns i has read are inside is = λ same. stands-read parent own n has (child-of parent tree n ns i read are inside is) same

pub other-id : (a b : ℕ) → (a ≡ b → ⊥) → (a == b) ≡ false
other-id a b other = split (a == b) refl
  where
    split : (t : Bool) → (a == b) ≡ t → (a == b) ≡ false
    split true is = absurd (other (eqb-true a b is))
    split false is = is

-- A child is smaller than its parent.
count-get : (ns : List Node) (i : ℕ) (n : Node) → i < length ns → n ≡ get_or ns i n → count n ≤ count_all (nodes_of ns)
count-get [] i n inside is = absurd (omega arith)
count-get (m ∷ ns) zero n inside is = omega (arith, ap count is)
count-get (m ∷ ns) (suc i) n inside is = let rest = count-get ns i n (omega arith) is in omega arith

count-children : (n : Node) → count_all (nodes_of (children n)) < count n
count-children (leaf id at body) = omega arith
count-children (master id at kids) = omega (arith, ap count_all (nodes-list kids))

pub child-smaller : (tree n : Node) (ns : List Node) (i : ℕ) → ns ≡ children tree → i < length ns → n ≡ get_or ns i n → count n < count tree
child-smaller tree n ns i are inside is =
    let some = count-get ns i n inside is in
    let all = count-children tree in
    let same = ap (λ l. count_all (nodes_of l)) are in
    omega arith

-- ---- a master that replaces another

pub stands-here : (parent own : ℕ) (n : Node) → IsRead own n → StandsIn parent n → is_master_in parent own ≡ true
stands-here parent own (leaf id at body) read stands = let never = read.master in absurd (cc)
stands-here parent own (master id at kids) read stands = ap (is_master_in parent) (sym read.id) ∙ stands.0

pub may-built : (own : ℕ) (n t : Node) (ks ns : List Node) → IsRead own n → ks ≡ children n → IsBuilt own (offset_of n) (depth_all (nodes_of ks)) ns t → MayReplace n t
may-built own n t ks ns read are built = λ parent stands. built-in_place parent own (offset_of n) n t ks ns (stands-here parent own n read stands) read are built

-- All children were read.
pub built-all : (own at deep i : ℕ) (f : List Node → List Node) (xs : List Node) (t : Node) → length xs ≤ i → IsBuilt own at deep (f (take i xs)) t → IsBuilt own at deep (f xs) t
built-all own at deep i f xs t past built = let P : List Node → Type 0 = λ l. IsBuilt own at deep (f l) t in subst P (take_all i xs past) built

pub built-whole : (own deep : ℕ) (n t : Node) (ns : List Node) → IsRead own n → IsBuilt own (offset_of n) deep ns t → t ≡ with_children n ns
built-whole own deep n t ns read built =
    let P : ℕ → Type 0 = λ p. IsBuilt p (offset_of n) deep ns t in
    built-with n t deep ns read.master (subst P (sym read.id) built)

pub built-read : (own at deep : ℕ) (ns : List Node) (t : Node) → IsBuilt own at deep ns t → IsRead own t
built-read own at deep ns t built = let P : Node → Type 0 = IsRead own in subst P (sym built.is) (record { id = refl; master = refl; sound = built.stand })

-- ---- setting a child

set-in_place : (parent : ℕ) (n t child new : Node) → IsMaster t → IsInPlace parent n t → depth child ≡ 0 → new ≡ with_children t (with_child child (children t)) → IsSound new → IsInPlace parent n new
set-in_place parent n (leaf id at body) child new is place low same sound = absurd (cc)
set-in_place parent n (master id at kids) child new is place low same sound =
    let shallow = place.shallow in
    let stands = place.stands in
    let deep = deep-with_child child (list_of kids) in
    let kept : depth_all (nodes_of (list_of kids)) ≡ depth_all kids = ap depth_all (nodes-list kids) in
    let whole : AllStandIn id (nodes_of (with_child child (list_of kids))) = subst IsSound same sound in
    let P : Node → Type 0 = IsInPlace parent n in
    subst P (sym same) (record { stands = (stands.0, whole); shallow = omega arith })

module _ (own : ℕ) (n t child new : Node) (ks ns : List Node) (read : IsRead own n) (are : ks ≡ children n) (built : IsBuilt own (offset_of n) (depth_all (nodes_of ks)) ns t)
    (same : new ≡ with_children t (with_child child (children t))) where
  -- The new element is sound, so it may replace the old one.
  pub may-set : (id value : ℕ) → child ≡ uint_leaf id value → (IsSound t → StandsIn (id_of t) child → IsSound new) → StandsIn own child → MayReplace n new
  may-set id value is keeps stands =
      let whole = built-read own (offset_of n) (depth_all (nodes_of ks)) ns t built in
      let P : ℕ → Type 0 = λ p. StandsIn p child in
      let sound : IsSound new = keeps whole.sound (subst P (sym whole.id) stands) in
      λ parent here. set-in_place parent n t child new whole.master (may-built own n t ks ns read are built parent here) (ap depth is) same sound

  pub set-whole : (set : Node) → child ≡ set → new ≡ set_in set (with_children n ns)
  set-whole set is = same ∙ ap₂ (λ m s. with_children s (with_child m (children s))) is (built-whole own (depth_all (nodes_of ks)) n t ns read built)

-- ---- result of a call

pub on-ok : (r : Result Node AllocError) (P : Type 0) → P → OnOk r P
on-ok (Ok t) P holds = holds
on-ok (Err e) P holds = tt

pub ok-is : (r : Result Node AllocError) (m n : Node) → m ≡ n → IfOk r (λ t. t ≡ m) → IfOk r (λ t. t ≡ n)
ok-is (Ok t) m n same is = is ∙ same
ok-is (Err e) m n same is = tt

-- A copy may replace its original.
pub may-copy : (r : Result Node AllocError) (n : Node) → IfOk r (λ t. t ≡ n) → IfOk r (MayReplace n)
may-copy (Ok t) n is = λ parent stands. (let P : Node → Type 0 = IsInPlace parent n in subst P (sym is) (record { stands = stands; shallow = omega arith }))
may-copy (Err e) n is = tt

pub may-here : (r : Result Node AllocError) (parent : ℕ) (n : Node) → StandsIn parent n → IfOk r (MayReplace n) → IfOk r (IsInPlace parent n)
may-here (Ok t) parent n stands may = may parent stands
may-here (Err e) parent n stands may = tt

-- An integer has depth 0.
pub leaf-here : (r : Result Node AllocError) (parent id value : ℕ) (n : Node) → IfOk r (λ t. t ≡ uint_leaf id value) → IfOk r (StandsIn parent) → IfOk r (IsInPlace parent n)
leaf-here (Ok t) parent id value n is stands = record { stands = stands; shallow = (let P : Node → Type 0 = λ m. depth m ≤ depth n in subst P (sym is) (omega arith)) }
leaf-here (Err e) parent id value n is stands = tt

pub may-some : (o : Option Node) (parent : ℕ) (n : Node) → StandsIn parent n → IfSome o (MayReplace n) → IfSome o (IsInPlace parent n)
may-some None parent n stands may = tt
may-some (Some m) parent n stands may = may parent stands
