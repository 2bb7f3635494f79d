-- The identifiers of chapters don't depend on the places of chapters, nor on the Elements beside them.
use Rattle.std.proofs.Common.{◌≡◌, ℕ, ◌+◌, ◌==◌, Bool, true, false, if◌then◌else◌, List, [], ◌∷◌, ◌++◌, length, map, flat_map, Option, refl, sym, ap, ap₂, ◌∙◌, inl, inr, find, unwrap_or}
use Rattle.std.proofs.lemmas.List.{length-map, map-append}
use Rattle.std.proofs.lemmas.Bool.{cases_Bool}
use Rattle.mkv_schema.specs.declared.ids.TheConstants.{CHAPTER_ATOM, CHAPTER_UID}
use Rattle.tree_format.specs.Node.{Node, Nodes, leaf, master, none, node, nodes_of, list_of, id_of}
use Rattle.tree_format.specs.NormalForm.{is_filler, header_octets, octets, octets_all}
use Rattle.tree_format.specs.Changes.{part, with_child}
use Rattle.tree_format.specs.Standing.{placed, placed_all}
use Rattle.tree_format.specs.Values.{integer_of}
use Rattle.tree_format.proofs.PartLemmas.{part-other}
use Rattle.record_laws.proofs.TrackLemmas.{placed-integer}
use Rattle.record_changes.specs.Atoms.{atoms_among, atoms_at, value_in}
use Rattle.record_laws.proofs.SameLemmas.{filler-other}
pub use Rattle.lemmas.proofs.PlainLemmas.{map-or}

-- the ChapterUIDs of an Element, if it is an atom, and of the atoms inside it; `uids_among` is the same for Elements in sequence
abbrev pub uids_at : Node → List ℕ
uids_at n = map (value_in CHAPTER_UID) (atoms_at n)

abbrev pub uids_among : Nodes → List ℕ
uids_among ns = map (value_in CHAPTER_UID) (atoms_among ns)

uids-more : (n : Node) (ns : Nodes) → uids_among (node n ns) ≡ uids_at n ++ uids_among ns
uids-more n ns = map-append (value_in CHAPTER_UID) (atoms_at n) (atoms_among ns)

-- ---- an Element that is an atom, or isn't

pub atoms-atom : (id at : ℕ) (kids : Nodes) → (id == CHAPTER_ATOM) ≡ true → atoms_at (master id at kids) ≡ master id at kids ∷ atoms_among kids
atoms-atom id at kids is = ap (λ (b : Bool). if b then master id at kids ∷ atoms_among kids else []) is

pub atoms-none : (n : Node) → (id_of n == CHAPTER_ATOM) ≡ false → atoms_at n ≡ []
atoms-none (leaf id at body) is = refl
atoms-none (master id at kids) is = ap (λ (b : Bool). if b then master id at kids ∷ atoms_among kids else []) is

-- An Element that is left out isn't an atom.
pub filler-none : (n : Node) → is_filler (id_of n) ≡ true → atoms_at n ≡ []
filler-none n filler = atoms-none n (filler-other (id_of n) CHAPTER_ATOM filler refl)

-- ---- places of chapters

pub value-placed : (id : ℕ) (n : Node) (p : ℕ) → is_filler id ≡ false → value_in id (placed p n) ≡ value_in id n
value-placed id (leaf i at body) p kept = refl
value-placed id (master i at kids) p kept =
    let q : ℕ = p + length (header_octets i (length (octets_all kids))) in
    map-or integer_of (find (λ n. id_of n == id) (list_of (placed_all q kids))) 0
    ∙ ap (λ (o : Option ℕ). unwrap_or o 0) (placed-integer id kids q kept)
    ∙ sym (map-or integer_of (find (λ n. id_of n == id) (list_of kids)) 0)

-- One Element, and then the others.
placed-step : (p : ℕ) (n there : Node) (ns : Nodes) → uids_at there ≡ uids_at n → ((q : ℕ) → uids_among (placed_all q ns) ≡ uids_among ns) → (f : Bool) → is_filler (id_of n) ≡ f
    → uids_among (if f then placed_all p ns else node there (placed_all (p + length (octets n)) ns)) ≡ uids_among (node n ns)
placed-step p n there ns same rest true filler =
    rest p ∙ sym (ap (λ l. map (value_in CHAPTER_UID) l ++ uids_among ns) (filler-none n filler)) ∙ sym (uids-more n ns)
placed-step p n there ns same rest false filler =
    uids-more there (placed_all (p + length (octets n)) ns) ∙ ap₂ (λ (a b : List ℕ). a ++ b) same (rest (p + length (octets n))) ∙ sym (uids-more n ns)

placed-master : (id at p : ℕ) (kids : Nodes) → ((q : ℕ) → uids_among (placed_all q kids) ≡ uids_among kids) → uids_at (placed p (master id at kids)) ≡ uids_at (master id at kids)
placed-master id at p kids inside = elim (cases_Bool (id == CHAPTER_ATOM)) [
  | inl is ↦ rw is (ap₂ (λ u (us : List ℕ). u ∷ us) (value-placed CHAPTER_UID (master id at kids) p refl) (inside (p + length (header_octets id (length (octets_all kids))))))
  | inr is ↦ rw is refl
]

pub uids-placed_all : (ns : Nodes) (p : ℕ) → uids_among (placed_all p ns) ≡ uids_among ns
uids-placed_all none p = refl
uids-placed_all (node (leaf id at body) ns) p = placed-step p (leaf id at body) (leaf id p body) ns refl (λ q. uids-placed_all ns q) (is_filler id) refl
uids-placed_all (node (master id at kids) ns) p =
    placed-step p (master id at kids) (placed p (master id at kids)) ns (placed-master id at p kids (λ q. uids-placed_all kids q)) (λ q. uids-placed_all ns q) (is_filler id) refl

pub uids-placed : (n : Node) (p : ℕ) → uids_at (placed p n) ≡ uids_at n
uids-placed (leaf id at body) p = refl
uids-placed (master id at kids) p = placed-master id at p kids (λ q. uids-placed_all kids q)

-- The number of atoms is the same.
pub count-placed : (n : Node) (p : ℕ) → length (atoms_at (placed p n)) ≡ length (atoms_at n)
count-placed n p = sym (length-map (atoms_at (placed p n)) (value_in CHAPTER_UID)) ∙ ap length (uids-placed n p) ∙ length-map (atoms_at n) (value_in CHAPTER_UID)

-- ---- Elements beside chapters

pub atoms-flat : (ns : List Node) → atoms_among (nodes_of ns) ≡ flat_map atoms_at ns
atoms-flat [] = refl
atoms-flat (n ∷ ns) = ap (λ l. atoms_at n ++ l) (atoms-flat ns)

atoms-part : (ns : List Node) → flat_map atoms_at ns ≡ flat_map atoms_at (part CHAPTER_ATOM ns)
atoms-part [] = refl
atoms-part (n ∷ ns) = elim (cases_Bool (id_of n == CHAPTER_ATOM)) [
  | inl is ↦ rw is (ap (λ l. atoms_at n ++ l) (atoms-part ns))
  | inr is ↦ rw is (ap (λ l. l ++ flat_map atoms_at ns) (atoms-none n is) ∙ atoms-part ns)
]

-- A child that is set and isn't an atom.
pub atoms-set : (child : Node) (ns : List Node) → (id_of child == CHAPTER_ATOM) ≡ false → atoms_among (nodes_of (with_child child ns)) ≡ atoms_among (nodes_of ns)
atoms-set child ns other =
    atoms-flat (with_child child ns) ∙ atoms-part (with_child child ns) ∙ ap (flat_map atoms_at) (part-other CHAPTER_ATOM child ns other) ∙ sym (atoms-part ns) ∙ sym (atoms-flat ns)
