-- Laws on the children of a valid tree, and on their values.
use Rattle.std.proofs.Common.{◌≡◌, ℕ, zero, suc, ◌<◌, ◌≤◌, ◌==◌, eqb-true, Bool, true, false, cond, List, [], ◌∷◌, length, find, get_or, Some, sym, subst, refl, ap, ◌∙◌, arith, All}
use Rattle.std.proofs.lemmas.Bool.Decides.{nat_tests}
use Rattle.std.proofs.lemmas.List.Elements.{All-nil, All-cons}
use Rattle.std.proofs.lemmas.Str.{IsUtf8-nil, is_utf8-from_IsUtf8}
use Rattle.mkv_schema.specs.declared.kind.ElementKind.{ElementKind}
use Rattle.mkv_schema.specs.declared.kind.ElementKind.TheVariants.{Master, Uint, Int, Float, Ascii, Utf8, Date, Binary}
use Rattle.mkv_schema.specs.Schema.{kind_of, may_stand}
use Rattle.mkv_schema.specs.Value.{is_value}
use Rattle.tree_format.specs.Node.{Node, Nodes, leaf, master, nodes_of, id_of, body_of, children}
use Rattle.tree_format.specs.Standing.{StandsIn, AllStandIn, IsSound, IsSoundOf}
use Rattle.tree_format.proofs.NodeLemmas.{nodes-list}
use Rattle.tree_format.specs.Values.{first_child, HasUint}

-- The empty list of bytes is a value of every kind.
value-nil : (kind : ElementKind) → is_value kind [] ≡ true
value-nil Master = refl
value-nil Uint = refl
value-nil Int = refl
value-nil Float = refl
value-nil Ascii = is_utf8-from_IsUtf8 [] IsUtf8-nil
value-nil Utf8 = is_utf8-from_IsUtf8 [] IsUtf8-nil
value-nil Date = refl
value-nil Binary = refl

-- A valid child has a value of the kind that the table has for it.
pub stands-value : (parent : ℕ) (kind : ElementKind) (n : Node) → StandsIn parent n → may_stand (id_of n) parent ≡ true → kind_of (id_of n) ≡ Some kind → is_value kind (body_of n) ≡ true
stands-value parent kind (leaf id at body) stands may is = rw (may, is) at stands.value
stands-value parent kind (master id at kids) stands may is = value-nil kind

-- An Element that is found among valid ones is valid.
stand-find : (parent : ℕ) (test : Node → Bool) (ns : List Node) (m : Node) → AllStandIn parent (nodes_of ns) → find test ns ≡ Some m → StandsIn parent m × (test m ≡ true)
stand-find parent test [] m stand found = absurd (cc)
stand-find parent test (n ∷ ns) m stand found = split (test n) refl (stand-find parent test ns m stand.1) found
  where
    split : (b : Bool) → test n ≡ b → (find test ns ≡ Some m → StandsIn parent m × (test m ≡ true)) → cond b (Some n) (find test ns) ≡ Some m → StandsIn parent m × (test m ≡ true)
    split true is rest found =
        let same : n ≡ m = cc in
        let P : Node → Type 0 = λ k. StandsIn parent k × (test k ≡ true) in
        subst P same (stand.0, is)
    split false is rest found = rest found

-- The children of a valid tree are valid under it.
sound-stand : (tree : Node) → IsSound tree → AllStandIn (id_of tree) (nodes_of (children tree))
sound-stand (leaf id at body) sound = tt
sound-stand (master id at kids) sound = let P : Nodes → Type 0 = AllStandIn id in subst P (sym (nodes-list kids)) sound

stand-get : (parent : ℕ) (ns : List Node) (i : ℕ) (n : Node) → AllStandIn parent (nodes_of ns) → i < length ns → n ≡ get_or ns i n → StandsIn parent n
stand-get parent [] i n stand inside is = absurd (omega arith)
stand-get parent (m ∷ ns) zero n stand inside is = let P : Node → Type 0 = StandsIn parent in subst P (sym is) stand.0
stand-get parent (m ∷ ns) (suc i) n stand inside is = stand-get parent ns i n stand.1 (omega arith) is

-- Each child of a valid master may be a child of it.
pub child-stands : (tree n : Node) (ns : List Node) (i : ℕ) → IsSound tree → ns ≡ children tree → i < length ns → n ≡ get_or ns i n → StandsIn (id_of tree) n
child-stands tree n ns i sound are inside is =
    let P : List Node → Type 0 = λ ms. AllStandIn (id_of tree) (nodes_of ms) in
    stand-get (id_of tree) ns i n (subst P (sym are) (sound-stand tree sound)) inside is

-- An Element that may be a child is valid.
pub stands-sound : (parent : ℕ) (n : Node) → StandsIn parent n → IsSound n
stands-sound parent (leaf id at body) stands = tt
stands-sound parent (master id at kids) stands = stands.1

-- The first child with an ID may be a child of its valid tree.
first_child-stands : (tree n : Node) (id : ℕ) → IsSound tree → first_child id tree ≡ Some n → StandsIn (id_of tree) n × (id_of n ≡ id)
first_child-stands tree n id sound found =
    let there = stand-find (id_of tree) (λ m. id_of m == id) (children tree) n (sound-stand tree sound) found in
    (there.0, eqb-true (id_of n) id there.1)

-- So it is valid.
pub first_child-sound : (tree n : Node) (id : ℕ) → IsSound tree → first_child id tree ≡ Some n → IsSoundOf id n
first_child-sound tree n id sound found =
    let there = first_child-stands tree n id sound found in
    record { id = there.1; sound = stands-sound (id_of tree) n there.0 }

-- If the table has its ID there, it has a value of its kind.
pub first_child-value : (tree n : Node) (id : ℕ) (kind : ElementKind) → IsSound tree → may_stand id (id_of tree) ≡ true → kind_of id ≡ Some kind → first_child id tree ≡ Some n → is_value kind (body_of n) ≡ true
first_child-value tree n id kind sound may is found =
    let there = first_child-stands tree n id sound found in
    stands-value (id_of tree) kind n there.0 (ap (λ k. may_stand k (id_of tree)) there.1 ∙ may) (ap kind_of there.1 ∙ is)

-- If the table has `id` as an unsigned integer under `parent`, it does so under an Element with this ID.
pub HasUint-of : (parent id : ℕ) (n : Node) → IsSoundOf parent n → HasUint parent id → HasUint (id_of n) id
HasUint-of parent id n is uint = let P : ℕ → Type 0 = λ p. HasUint p id in subst P (sym is.id) uint

-- An unsigned integer has at most eight bytes.
pub first_child-short : (tree n : Node) (id : ℕ) → IsSound tree → HasUint (id_of tree) id → first_child id tree ≡ Some n → length (body_of n) ≤ 8
first_child-short tree n id sound uint found =
    let value : is_value Uint (body_of n) ≡ true = first_child-value tree n id Uint sound uint.stands uint.kind found in
    grind (arith, nat_tests)

-- The children of a valid tree are valid.
all-sound : (parent : ℕ) (ns : List Node) → AllStandIn parent (nodes_of ns) → All IsSound ns
all-sound parent [] stand = All-nil IsSound
all-sound parent (n ∷ ns) stand = All-cons IsSound n ns (stands-sound parent n stand.0) (all-sound parent ns stand.1)

pub children-sound : (tree : Node) → IsSound tree → All IsSound (children tree)
children-sound tree sound = all-sound (id_of tree) (children tree) (sound-stand tree sound)
