-- Masters that are built child by child.
use Rattle.std.proofs.Common.{◌≡◌, ◌≤◌, ◌<◌, ℕ, zero, suc, ◌+◌, ◌-◌, nat_lt, Bool, true, false, List, [], ◌∷◌, ◌++◌, length, take, map, flat_map, get_or, Option, Some, None, IfSome, Ok, refl, sym, ap, subst, ◌∙◌, arith, add-one, append-nil}
use Rattle.std.specs.Prelude.{IsErr}
use Rattle.std.specs.declared.alloc.AllocError.{AllocError}
use Rattle.std.specs.Option.{option_to_list}
use Rattle.std.proofs.lemmas.Bool.Decides.{nat_tests}
use Rattle.std.proofs.lemmas.Grind.{flat_map-append}
use Rattle.std.proofs.lemmas.List.{map_more}
use Rattle.std.proofs.Math.Seq.{take-suc}
use Rattle.mkv_io.specs.Results.{and_then}
use Rattle.tree_format.specs.Node.{Node, leaf, master, none, nodes_of, id_of, offset_of, children, with_children, depth, depth_all, deepest, IsMaster, HasRoom}
use Rattle.tree_format.specs.NormalForm.{octets, longest}
use Rattle.tree_format.specs.Changes.{AreTooLong}
use Rattle.tree_format.specs.Reading.{tree_of, as_root, is_master_in}
use Rattle.tree_format.specs.Standing.{StandsIn, AllStandIn, KeepsLimits}
use Rattle.tree_format.proofs.NodeLemmas.{list-nodes, nodes-list, depth_all-append, octets_all-flat}
use Rattle.tree_format.proofs.ReadingLemmas.{grove-end}
use Rattle.tree_format.proofs.ChildLemmas.{child-stands}
use Rattle.ebml_tree.specs.Building.{IsBuilt, IsRead, IsInPlace}

-- ---- no child

-- An empty body has no children.
empty-tree : (id offset : ℕ) → tree_of id offset [] 0 1 ≡ Ok (master id offset none)
empty-tree id offset = ap (λ r. and_then r (as_root id offset)) (grove-end (deepest - 1) (1 - 1) id 0)

pub empty-built : (id at deep : ℕ) (t : Node) → tree_of id at [] 0 1 ≡ Ok t → IsBuilt id at deep [] t
empty-built id at deep t is =
    let whole : Ok (master id at none) ≡ tree_of id at [] 0 1 = sym (empty-tree id at) in
    let same : t ≡ master id at none = cc in
    record { is = same; stand = tt; shallow = omega arith; short = λ long. omega (arith, long) }

-- At first there are no children.
pub built-none : (id at at' deep : ℕ) (t : Node) → at ≡ at' → ((d : ℕ) → IsBuilt id at d [] t) → IsBuilt id at' deep [] t
built-none id at at' deep t same built = let P : ℕ → Type 0 = λ a. IsBuilt id a deep [] t in subst P same (built deep)

-- ---- one more child

stand-push : (id : ℕ) (ns : List Node) (n : Node) → AllStandIn id (nodes_of ns) → StandsIn id n → AllStandIn id (nodes_of (ns ++ n ∷ []))
stand-push id [] n stand one = (one, tt)
stand-push id (m ∷ ns) n stand one = (stand.0, stand-push id ns n stand.1 one)

-- The tree `new` is `old` with `child` appended, and isn't too long.
pub record IsPut (old child new : Node) : Type 0 where
  pub grown : new ≡ with_children old (children old ++ child ∷ [])
  pub short : AreTooLong (children old ++ child ∷ []) → ⊥

pub built-push : (id at deep : ℕ) (ns : List Node) (old child new : Node) → IsBuilt id at deep ns old → IsPut old child new → StandsIn id child → depth child ≤ deep → IsBuilt id at deep (ns ++ child ∷ []) new
built-push id at deep ns old child new built put stands low =
    let shallow = built.shallow in
    let same : children old ≡ ns = ap children built.is ∙ list-nodes ns in
    record {
      is = put.grown ∙ ap (λ t. with_children t (children t ++ child ∷ [])) built.is ∙ ap (λ l. master id at (nodes_of (l ++ child ∷ []))) (list-nodes ns);
      stand = stand-push id ns child built.stand stands;
      shallow = omega (arith, depth_all-append ns (child ∷ []));
      short = λ long. put.short (let P : List Node → Type 0 = λ l. AreTooLong (l ++ child ∷ []) in subst P (sym same) long);
    }

pub built-master : (id at deep : ℕ) (ns : List Node) (t : Node) → IsBuilt id at deep ns t → IsMaster t
built-master id at deep ns t built = let P : Node → Type 0 = IsMaster in subst P (sym built.is) refl

-- A master with new children replaces the old one.
pub built-with : (n t : Node) (deep : ℕ) (ns : List Node) → IsMaster n → IsBuilt (id_of n) (offset_of n) deep ns t → t ≡ with_children n ns
built-with (leaf id at body) t deep ns is built = absurd (cc)
built-with (master id at kids) t deep ns is built = built.is

-- ---- children of a master that was read

pub child-of : (own : ℕ) (tree n : Node) (ns : List Node) (i : ℕ) → IsRead own tree → ns ≡ children tree → i < length ns → n ≡ get_or ns i n → StandsIn own n
child-of own tree n ns i read are inside is =
    let P : ℕ → Type 0 = λ p. StandsIn p n in
    subst P read.id (child-stands tree n ns i read.sound are inside is)

-- A valid child whose ID is a master's was read as a valid master.
pub stands-read : (parent own : ℕ) (n : Node) → is_master_in parent own ≡ true → StandsIn parent n → id_of n ≡ own → IsRead own n
stands-read parent own (leaf id at body) has stands is =
    let never : true ≡ false = sym has ∙ ap (is_master_in parent) (sym is) ∙ stands.no_master in
    absurd (cc)
stands-read parent own (master id at kids) has stands is = record { id = is; master = refl; sound = stands.1 }

pub deep-get : (ns : List Node) (i : ℕ) (n : Node) → i < length ns → n ≡ get_or ns i n → depth n ≤ depth_all (nodes_of ns)
deep-get [] i n inside is = absurd (omega arith)
deep-get (m ∷ ns) zero n inside is = omega (arith, ap depth is)
deep-get (m ∷ ns) (suc i) n inside is = let rest = deep-get ns i n (omega arith) is in omega arith

pub room-of : (ns : List Node) (i parent : ℕ) (n m : Node) → depth_all (nodes_of ns) < deepest → i < length ns → n ≡ get_or ns i n → IsInPlace parent n m → HasRoom m
room-of ns i parent n m low inside is place = let deep = deep-get ns i n inside is in let shallow = place.shallow in omega arith

pub built-in_place : (parent own at : ℕ) (n t : Node) (ks ns : List Node) → is_master_in parent own ≡ true → IsRead own n → ks ≡ children n → IsBuilt own at (depth_all (nodes_of ks)) ns t → IsInPlace parent n t
built-in_place parent own at (leaf id at' body) t ks ns has read are built = absurd (read-leaf id at' body read)
  where
    read-leaf : (id at' : ℕ) (body : List ℕ) → IsRead own (leaf id at' body) → ⊥
    read-leaf id at' body read = let never = read.master in absurd (cc)
built-in_place parent own at (master id at' kids) t ks ns has read are built =
    let shallow = built.shallow in
    let same : depth_all (nodes_of ks) ≡ depth_all kids = ap (λ l. depth_all (nodes_of l)) are ∙ ap depth_all (nodes-list kids) in
    let P : Node → Type 0 = IsInPlace parent (master id at' kids) in
    subst P (sym built.is) (record { stands = (has, built.stand); shallow = omega arith })

-- ---- the written bytes of one more child

take-step : (xs : List Node) (i : ℕ) (x : Node) → i < length xs → x ≡ get_or xs i x → take (i + 1) xs ≡ take i xs ++ x ∷ []
take-step xs i x inside is = rw add-one (take-suc xs i x inside ∙ ap (λ y. take i xs ++ y ∷ []) (sym is))

flat-step : (f : Node → List Node) (xs : List Node) (i : ℕ) (x : Node) → i < length xs → x ≡ get_or xs i x → flat_map f (take (i + 1) xs) ≡ flat_map f (take i xs) ++ f x
flat-step f xs i x inside is =
    ap (flat_map f) (take-step xs i x inside is) ∙ flat_map-append f (take i xs) (x ∷ []) ∙ ap (λ l. flat_map f (take i xs) ++ l) (append-nil (f x))

module _ (own at i : ℕ) (xs : List Node) (x old : Node) (inside : i < length xs) (is : x ≡ get_or xs i x) where
  flat-none : (f : Node → List Node) → IsBuilt own at (depth_all (nodes_of xs)) (flat_map f (take i xs)) old → f x ≡ [] → IsBuilt own at (depth_all (nodes_of xs)) (flat_map f (take (i + 1) xs)) old
  flat-none f built lacks =
      let P : List Node → Type 0 = λ ns. IsBuilt own at (depth_all (nodes_of xs)) ns old in
      subst P (sym (flat-step f xs i x inside is ∙ ap (λ l. flat_map f (take i xs) ++ l) lacks ∙ append-nil (flat_map f (take i xs)))) built

  flat-one : (f : Node → List Node) (m new : Node) → IsBuilt own at (depth_all (nodes_of xs)) (flat_map f (take i xs)) old → f x ≡ m ∷ [] → IsInPlace own x m → IsPut old m new
      → IsBuilt own at (depth_all (nodes_of xs)) (flat_map f (take (i + 1) xs)) new
  flat-one f m new built one place put =
      let low = deep-get xs i x inside is in
      let shallow = place.shallow in
      let P : List Node → Type 0 = λ ns. IsBuilt own at (depth_all (nodes_of xs)) ns new in
      subst P (sym (flat-step f xs i x inside is ∙ ap (λ l. flat_map f (take i xs) ++ l) one)) (built-push own at (depth_all (nodes_of xs)) (flat_map f (take i xs)) old m new built put place.stands (omega arith))

  pub map-one : (f : Node → Node) (m new : Node) → IsBuilt own at (depth_all (nodes_of xs)) (map f (take i xs)) old → m ≡ f x → IsInPlace own x m → IsPut old m new
      → IsBuilt own at (depth_all (nodes_of xs)) (map f (take (i + 1) xs)) new
  map-one f m new built one place put =
      let low = deep-get xs i x inside is in
      let shallow = place.shallow in
      let P : List Node → Type 0 = λ ns. IsBuilt own at (depth_all (nodes_of xs)) ns new in
      subst P (sym (map_more f xs i x inside ∙ ap (λ y. map f (take i xs) ++ y ∷ []) (ap f (sym is) ∙ sym one))) (built-push own at (depth_all (nodes_of xs)) (map f (take i xs)) old m new built put place.stands (omega arith))

pub some-of : (o : Option Node) (P : Node → Type 0) (t : Node) → IfSome o P → o ≡ Some t → P t
some-of None P t has is = absurd (cc)
some-of (Some u) P t has is = let same : u ≡ t = cc in subst P same has

-- The tree that a child becomes is appended, or there is none.
module _ (own at i : ℕ) (xs : List Node) (x old : Node) (inside : i < length xs) (is : x ≡ get_or xs i x) (f : Node → List Node) (o : Option Node)
    (built : IsBuilt own at (depth_all (nodes_of xs)) (flat_map f (take i xs)) old) (exact : option_to_list o ≡ f x) where
  pub step-some : (m new final : Node) → IfSome o (IsInPlace own x) → o ≡ Some m → IsPut old m new → final ≡ new
      → IsBuilt own at (depth_all (nodes_of xs)) (flat_map f (take (i + 1) xs)) final
  step-some m new final place some put last =
      let P : Node → Type 0 = IsBuilt own at (depth_all (nodes_of xs)) (flat_map f (take (i + 1) xs)) in
      subst P (sym last) (flat-one own at i xs x old inside is f m new built (sym exact ∙ ap option_to_list some) (some-of o (IsInPlace own x) m place some) put)

  pub step-none : (final : Node) → o ≡ None → final ≡ old → IsBuilt own at (depth_all (nodes_of xs)) (flat_map f (take (i + 1) xs)) final
  step-none final lacks last =
      let P : Node → Type 0 = IsBuilt own at (depth_all (nodes_of xs)) (flat_map f (take (i + 1) xs)) in
      subst P (sym last) (flat-none own at i xs x old inside is f built (sym exact ∙ ap option_to_list lacks))

-- ---- the result of `push`

module _ (old child new : Node) (u : Unit {0}) where
  -- A push that succeeds has appended the child.
  pub put-is : new ≡ with_children old (children old ++ child ∷ []) → (AreTooLong (children old ++ child ∷ []) → IsErr {T = Unit {0}} {E = AllocError} (Ok u)) → IsPut old child new
  put-is ok full = record { grown = ok; short = λ long. (let never = full long in absurd (cc)) }

-- One more leaf.
pub built-leaf : (id at deep own : ℕ) (ns : List Node) (body : List ℕ) (old child new : Node) → IsBuilt id at deep ns old → IsPut old child new → child ≡ leaf own 0 body → StandsIn id child → IsBuilt id at deep (ns ++ leaf own 0 body ∷ []) new
built-leaf id at deep own ns body old child new built put is stands =
    let P : Node → Type 0 = λ c. IsBuilt id at deep (ns ++ c ∷ []) new in
    subst P is (built-push id at deep ns old child new built put stands (omega (arith, ap depth is)))

-- The tree keeps the limits for reading it back.
pub built-limits : (id at deep : ℕ) (ns : List Node) (t : Node) → IsBuilt id at deep ns t → deep < deepest → KeepsLimits t
built-limits id at deep ns t built low =
    let shallow = built.shallow in
    let P : Node → Type 0 = KeepsLimits in
    subst P (sym built.is) (record { long = rw (octets_all-flat ns) (at-most (flat_map octets ns) built.short); deep = omega arith })
  where
    at-most : (l : List ℕ) → (longest < length l → ⊥) → length l ≤ longest
    at-most l short = split (nat_lt longest (length l)) refl
      where
        split : (b : Bool) → nat_lt longest (length l) ≡ b → length l ≤ longest
        split true is = absurd (short (grind (arith, nat_tests)))
        split false is = grind (arith, nat_tests)
