-- Editions and atoms, with one more.
use Rattle.std.proofs.Common.{◌≡◌, ◌<◌, ◌≤◌, ℕ, zero, suc, ◌+◌, ◌==◌, Bool, cond, if◌then◌else◌, List, [], ◌∷◌, ◌++◌, length, take, drop, map, flat_map, get_or, refl, sym, ap, ◌∙◌, arith, append-nil, append_assoc, length-append}
use Rattle.std.proofs.lemmas.List.{take_more, take_all, take-append-drop, map-append}
use Rattle.std.proofs.lemmas.List.Elements.{filter-append}
use Rattle.std.proofs.lemmas.Grind.{flat_map-append}
use Rattle.mkv_schema.specs.declared.ids.TheConstants.{EDITION_ENTRY, CHAPTER_ATOM, CHAPTER_UID}
use Rattle.tree_format.specs.Node.{Node, leaf, master, nodes_of, id_of, children}
use Rattle.tree_format.specs.Changes.{part}
use Rattle.tree_format.proofs.NodeLemmas.{nodes-list}
use Rattle.ebml_tree.specs.Building.{IsRead}
use Rattle.record_changes.specs.Atoms.{atoms_at, atoms_among, atoms_inside, value_in}
use Rattle.record_changes.proofs.StandLemmas.{other-id}

pub take-step : (xs : List Node) (i : ℕ) (x : Node) → i < length xs → x ≡ get_or xs i x → take (i + 1) xs ≡ take i xs ++ x ∷ []
take-step xs i x inside is = take_more xs i x inside ∙ ap (λ y. take i xs ++ y ∷ []) (sym is)

-- ---- atoms

-- An atom comes before the atoms inside it.
pub atoms-own : (n : Node) → IsRead CHAPTER_ATOM n → atoms_at n ≡ n ∷ atoms_inside n
atoms-own (leaf id at body) read = let never = read.master in absurd (cc)
atoms-own (master id at kids) read =
    ap (λ i. if i == CHAPTER_ATOM then master id at kids ∷ atoms_among kids else []) read.id ∙ ap (λ ks. master id at kids ∷ atoms_among ks) (sym (nodes-list kids))

pub atoms-other : (n : Node) → (id_of n ≡ CHAPTER_ATOM → ⊥) → atoms_at n ≡ []
atoms-other (leaf id at body) other = refl
atoms-other (master id at kids) other = ap (λ (b : Bool). if b then master id at kids ∷ atoms_among kids else []) (other-id id CHAPTER_ATOM other)

atoms_among-append : (xs : List Node) (x : Node) → atoms_among (nodes_of (xs ++ x ∷ [])) ≡ atoms_among (nodes_of xs) ++ atoms_at x
atoms_among-append [] x = append-nil (atoms_at x)
atoms_among-append (y ∷ ys) x = ap (λ l. atoms_at y ++ l) (atoms_among-append ys x) ∙ sym (append_assoc (atoms_at y) (atoms_among (nodes_of ys)) (atoms_at x))

pub atoms-step : (xs : List Node) (i : ℕ) (x : Node) → i < length xs → x ≡ get_or xs i x → atoms_among (nodes_of (take (i + 1) xs)) ≡ atoms_among (nodes_of (take i xs)) ++ atoms_at x
atoms-step xs i x inside is = ap (λ l. atoms_among (nodes_of l)) (take-step xs i x inside is) ∙ atoms_among-append (take i xs) x

pub atoms-counted : (xs : List Node) (i : ℕ) (x : Node) → i < length xs → x ≡ get_or xs i x → length (atoms_among (nodes_of (take (i + 1) xs))) ≡ length (atoms_among (nodes_of (take i xs))) + length (atoms_at x)
atoms-counted xs i x inside is = ap length (atoms-step xs i x inside is) ∙ length-append (atoms_among (nodes_of (take i xs))) (atoms_at x)

pub atoms-all : (n : Node) (items : List Node) (i : ℕ) → items ≡ children n → length items ≤ i → length (atoms_among (nodes_of (take i items))) ≡ length (atoms_inside n)
atoms-all n items i are past = ap (λ l. length (atoms_among (nodes_of l))) (take_all i items past ∙ are)

-- The atoms found and the next ones are at most all.
pub atoms-few : (xs : List Node) (i : ℕ) (x : Node) → i < length xs → x ≡ get_or xs i x → length (atoms_among (nodes_of (take i xs))) + length (atoms_at x) ≤ length (atoms_among (nodes_of xs))
atoms-few [] i x inside is = absurd (omega arith)
atoms-few (y ∷ ys) zero x inside is = omega (arith, length-append (atoms_at y) (atoms_among (nodes_of ys)), ap (λ n. length (atoms_at n)) is)
atoms-few (y ∷ ys) (suc i) x inside is =
    let rest = atoms-few ys i x (omega arith) is in
    omega (arith, length-append (atoms_at y) (atoms_among (nodes_of (take i ys))), length-append (atoms_at y) (atoms_among (nodes_of ys)))

-- ---- editions

pub part-step : (id : ℕ) (xs : List Node) (i : ℕ) (x : Node) → i < length xs → x ≡ get_or xs i x → part id (take (i + 1) xs) ≡ part id (take i xs) ++ part id (x ∷ [])
part-step id xs i x inside is = ap (part id) (take-step xs i x inside is) ∙ filter-append (λ n. id_of n == id) (take i xs) (x ∷ [])

pub edition-own : (x : Node) → id_of x ≡ EDITION_ENTRY → part EDITION_ENTRY (x ∷ []) ≡ x ∷ []
edition-own x own = ap (λ i. cond (i == EDITION_ENTRY) (x ∷ []) []) own

pub edition-other : (x : Node) → (id_of x ≡ EDITION_ENTRY → ⊥) → part EDITION_ENTRY (x ∷ []) ≡ []
edition-other x other = ap (λ (b : Bool). cond b (x ∷ []) []) (other-id (id_of x) EDITION_ENTRY other)

pub atom-own : (x : Node) → id_of x ≡ CHAPTER_ATOM → part CHAPTER_ATOM (x ∷ []) ≡ x ∷ []
atom-own x own = ap (λ i. cond (i == CHAPTER_ATOM) (x ∷ []) []) own

pub atom-other : (x : Node) → (id_of x ≡ CHAPTER_ATOM → ⊥) → part CHAPTER_ATOM (x ∷ []) ≡ []
atom-other x other = ap (λ (b : Bool). cond b (x ∷ []) []) (other-id (id_of x) CHAPTER_ATOM other)

-- A child that isn't an edition is skipped.
pub part-passed : (xs : List Node) (i : ℕ) (x : Node) → i < length xs → x ≡ get_or xs i x → (id_of x ≡ EDITION_ENTRY → ⊥) → part EDITION_ENTRY (take (i + 1) xs) ≡ part EDITION_ENTRY (take i xs)
part-passed xs i x inside is other =
    part-step EDITION_ENTRY xs i x inside is ∙ ap (λ l. part EDITION_ENTRY (take i xs) ++ l) (edition-other x other) ∙ append-nil (part EDITION_ENTRY (take i xs))

pub part-grown : (xs : List Node) (i : ℕ) (x : Node) → i < length xs → x ≡ get_or xs i x → id_of x ≡ EDITION_ENTRY → part EDITION_ENTRY (take (i + 1) xs) ≡ part EDITION_ENTRY (take i xs) ++ x ∷ []
part-grown xs i x inside is own = part-step EDITION_ENTRY xs i x inside is ∙ ap (λ l. part EDITION_ENTRY (take i xs) ++ l) (edition-own x own)

-- One more edition adds its atoms.
pub atoms-grown : (xs : List Node) (i : ℕ) (x : Node) → i < length xs → x ≡ get_or xs i x → id_of x ≡ EDITION_ENTRY
    → length (flat_map atoms_inside (part EDITION_ENTRY (take (i + 1) xs))) ≡ length (flat_map atoms_inside (part EDITION_ENTRY (take i xs))) + length (atoms_inside x)
atoms-grown xs i x inside is own =
    let before : List Node = part EDITION_ENTRY (take i xs) in
    let all = ap (flat_map atoms_inside) (part-grown xs i x inside is own) ∙ flat_map-append atoms_inside before (x ∷ []) in
    omega (arith, ap length all, length-append (flat_map atoms_inside before) (atoms_inside x ++ []), length-append (atoms_inside x) [])

pub inside-step : (xs : List Node) (i : ℕ) (x : Node) → i < length xs → x ≡ get_or xs i x
    → flat_map atoms_inside (part EDITION_ENTRY (take (i + 1) xs)) ≡ flat_map atoms_inside (part EDITION_ENTRY (take i xs)) ++ flat_map atoms_inside (part EDITION_ENTRY (x ∷ []))
inside-step xs i x inside is =
    ap (flat_map atoms_inside) (part-step EDITION_ENTRY xs i x inside is) ∙ flat_map-append atoms_inside (part EDITION_ENTRY (take i xs)) (part EDITION_ENTRY (x ∷ []))

module _ (xs : List Node) (i : ℕ) (x : Node) (inside : i < length xs) (is : x ≡ get_or xs i x) (own : id_of x ≡ EDITION_ENTRY) where
  whole : part EDITION_ENTRY xs ≡ (part EDITION_ENTRY (take i xs) ++ x ∷ []) ++ part EDITION_ENTRY (drop (i + 1) xs)
  whole =
      ap (part EDITION_ENTRY) (sym (take-append-drop (i + 1) xs)) ∙ filter-append (λ n. id_of n == EDITION_ENTRY) (take (i + 1) xs) (drop (i + 1) xs)
      ∙ ap (λ l. l ++ part EDITION_ENTRY (drop (i + 1) xs)) (part-grown xs i x inside is own)

  -- One more edition is left.
  pub editions-few : length (part EDITION_ENTRY (take i xs)) < length (part EDITION_ENTRY xs)
  editions-few =
      let before = part EDITION_ENTRY (take i xs) in
      omega (arith, ap length whole, length-append (before ++ x ∷ []) (part EDITION_ENTRY (drop (i + 1) xs)), length-append before (x ∷ []))

  pub inside-few : length (flat_map atoms_inside (part EDITION_ENTRY (take i xs))) + length (atoms_inside x) ≤ length (flat_map atoms_inside (part EDITION_ENTRY xs))
  inside-few =
      let before : List Node = part EDITION_ENTRY (take i xs) in
      let behind : List Node = part EDITION_ENTRY (drop (i + 1) xs) in
      let all = ap (flat_map atoms_inside) whole ∙ flat_map-append atoms_inside (before ++ x ∷ []) behind ∙ ap (λ l. l ++ flat_map atoms_inside behind) (flat_map-append atoms_inside before (x ∷ [])) in
      omega (arith, ap length all, length-append (flat_map atoms_inside before ++ (atoms_inside x ++ [])) (flat_map atoms_inside behind), length-append (flat_map atoms_inside before) (atoms_inside x ++ []), length-append (atoms_inside x) [])

-- ---- appended identifiers

pub uids-grown : (f : Node → ℕ) (base had new : List ℕ) (before one all : List Node) → all ≡ before ++ one → had ≡ base ++ map f before → new ≡ had ++ map f one → new ≡ base ++ map f all
uids-grown f base had new before one all is was put =
    put ∙ ap (λ l. l ++ map f one) was ∙ append_assoc base (map f before) (map f one) ∙ ap (λ l. base ++ l) (sym (map-append f before one)) ∙ ap (λ l. base ++ map f l) (sym is)

-- The identifiers of an atom are its own, then the ones of the atoms inside it.
pub uids-own : (base new : List ℕ) (atom : Node) (items : List Node) (i : ℕ) → IsRead CHAPTER_ATOM atom → items ≡ children atom → length items ≤ i
    → new ≡ (base ++ value_in CHAPTER_UID atom ∷ []) ++ map (value_in CHAPTER_UID) (atoms_among (nodes_of (take i items))) → new ≡ base ++ map (value_in CHAPTER_UID) (atoms_at atom)
uids-own base new atom items i read are past is =
    is ∙ ap (λ l. (base ++ value_in CHAPTER_UID atom ∷ []) ++ map (value_in CHAPTER_UID) (atoms_among (nodes_of l))) (take_all i items past ∙ are)
    ∙ append_assoc base (value_in CHAPTER_UID atom ∷ []) (map (value_in CHAPTER_UID) (atoms_inside atom))
    ∙ ap (λ l. base ++ map (value_in CHAPTER_UID) l) (sym (atoms-own atom read))
