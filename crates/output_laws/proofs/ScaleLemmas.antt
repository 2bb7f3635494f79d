-- The scale of an Info that is written and read again.
use Rattle.std.proofs.Common.{◌≡◌, ℕ, ◌+◌, ◌==◌, Bool, true, false, cond, if◌then◌else◌, List, ◌∷◌, ◌++◌, length, take, drop, find, Option, None, Some, refl, sym, ap, ap₂, ◌∙◌, arith}
use Rattle.std.specs.Prelude.{unwrap_or}
use Rattle.std.specs.Option.{option_map, option_or}
use Rattle.std.proofs.lemmas.Bool.Decides.{nat_tests}
use Rattle.std.proofs.lemmas.List.{take-append-drop}
use Rattle.std.proofs.lemmas.List.Folds.{find-append}
use Rattle.mkv_schema.specs.Schema.{uint_default}
use Rattle.mkv_schema.specs.declared.ids.TheConstants.{TIMESTAMP_SCALE}
use Rattle.tree_format.specs.Node.{Node, Nodes, leaf, master, none, node, list_of, id_of}
use Rattle.tree_format.specs.NormalForm.{is_filler, header_octets, octets, octets_all}
use Rattle.tree_format.specs.Standing.{placed, placed_all, placed_in}
use Rattle.tree_format.specs.Values.{integer_of}
use Rattle.file_format.specs.Info.{scale_of}

-- ---- an integer among the children

-- the unsigned integer `id` among the children `ns`, if there is one
abbrev pub integer_among : ℕ → List Node → Option ℕ
integer_among id ns = option_map integer_of (find (λ n. id_of n == id) ns)

map-or : (f : Node → ℕ) (a b : Option Node) → option_map f (option_or a b) ≡ option_or (option_map f a) (option_map f b)
map-or f None b = refl
map-or f (Some n) b = refl

integer-append : (id : ℕ) (ms ns : List Node) → integer_among id (ms ++ ns) ≡ option_or (integer_among id ms) (integer_among id ns)
integer-append id ms ns =
    ap (option_map integer_of) (find-append (λ n. id_of n == id) ms ns) ∙ map-or integer_of (find (λ n. id_of n == id) ms) (find (λ n. id_of n == id) ns)

-- A child with another ID, and children with the same integer before and after it, don't change the integer.
pub integer-inserted : (id : ℕ) (n : Node) (k : ℕ) (front back ns : List Node) → integer_among id front ≡ integer_among id (take k ns) → integer_among id back ≡ integer_among id (drop k ns) → (id_of n == id) ≡ false
    → integer_among id (front ++ n ∷ back) ≡ integer_among id ns
integer-inserted id n k front back ns first rest other =
    integer-append id front (n ∷ back)
    ∙ ap (λ (t : Bool). option_or (integer_among id front) (option_map integer_of (cond t (Some n) (find (λ m. id_of m == id) back)))) other
    ∙ ap₂ option_or first rest
    ∙ sym (integer-append id (take k ns) (drop k ns)) ∙ ap (integer_among id) (take-append-drop k ns)

-- A written integer is the same at any place.
pub placed-integer : (id : ℕ) (ns : Nodes) (p : ℕ) → is_filler id ≡ false → integer_among id (list_of (placed_all p ns)) ≡ integer_among id (list_of ns)
placed-integer id none p kept = refl
placed-integer id (node n ns) p kept = split (is_filler (id_of n)) refl (λ q. placed-integer id ns q kept)
  where
    not_it : (t : Bool) → (id_of n == id) ≡ t → is_filler (id_of n) ≡ true → t ≡ false
    not_it true is filler =
        let same : id_of n ≡ id = grind (arith, nat_tests) in
        let never : true ≡ false = sym filler ∙ ap is_filler same ∙ kept in
        absurd (cc)
    not_it false is filler = refl

    here : (m : Node) (q r : ℕ) → option_map integer_of (find (λ k. id_of k == id) (list_of (placed_all r ns))) ≡ option_map integer_of (find (λ k. id_of k == id) (list_of ns))
        → option_map integer_of (cond (id_of (placed q m) == id) (Some (placed q m)) (find (λ k. id_of k == id) (list_of (placed_all r ns)))) ≡ option_map integer_of (cond (id_of m == id) (Some m) (find (λ k. id_of k == id) (list_of ns)))
    here (leaf i at body) q r rest = either (i == id)
      where
        either : (t : Bool) → option_map integer_of (cond t (Some (leaf i q body)) (find (λ k. id_of k == id) (list_of (placed_all r ns)))) ≡ option_map integer_of (cond t (Some (leaf i at body)) (find (λ k. id_of k == id) (list_of ns)))
        either true = refl
        either false = rest
    here (master i at kids) q r rest = either (i == id)
      where
        inner : Nodes
        inner = placed_all (q + length (header_octets i (length (octets_all kids)))) kids

        either : (t : Bool) → option_map integer_of (cond t (Some (master i q (placed_all (q + length (header_octets i (length (octets_all kids)))) kids))) (find (λ k. id_of k == id) (list_of (placed_all r ns)))) ≡ option_map integer_of (cond t (Some (master i at kids)) (find (λ k. id_of k == id) (list_of ns)))
        either true = refl
        either false = rest

    split : (f : Bool) → is_filler (id_of n) ≡ f → ((q : ℕ) → option_map integer_of (find (λ k. id_of k == id) (list_of (placed_all q ns))) ≡ option_map integer_of (find (λ k. id_of k == id) (list_of ns)))
        → option_map integer_of (find (λ k. id_of k == id) (list_of (if f then placed_all p ns else node (placed p n) (placed_all (p + length (octets n)) ns)))) ≡ option_map integer_of (cond (id_of n == id) (Some n) (find (λ k. id_of k == id) (list_of ns)))
    split true filler rest = rest p ∙ sym (ap (λ (t : Bool). option_map integer_of (cond t (Some n) (find (λ k. id_of k == id) (list_of ns)))) (not_it (id_of n == id) refl filler))
    split false filler rest = here n p (p + length (octets n)) (rest (p + length (octets n)))

-- ---- the scale

-- the scale, if it is known, and otherwise the default
abbrev pub default_scale : Option ℕ → ℕ
default_scale scale = unwrap_or scale (unwrap_or (uint_default TIMESTAMP_SCALE) 0)

-- the scale of an Info with the children `ns`
abbrev pub scale_among : List Node → ℕ
scale_among ns = default_scale (integer_among TIMESTAMP_SCALE ns)

-- The scale of an Info is the scale of the written Info.
pub scale-placed : (offset base : ℕ) (info : Node) → scale_of (placed_in offset base info) ≡ scale_of info
scale-placed offset base (leaf id at body) = refl
scale-placed offset base (master id at kids) = ap default_scale (placed-integer TIMESTAMP_SCALE kids base refl)
