-- The identifiers that were given are the ones that are read.
use Rattle.std.proofs.Common.{◌≡◌, ◌<◌, ℕ, zero, suc, ◌+◌, ◌^◌, ◌==◌, Bool, true, false, if◌then◌else◌, List, [], ◌∷◌, ◌++◌, length, map, Option, refl, sym, ap, ap₂, ◌∙◌, arith, length-append, find, slice_index}
use Rattle.std.specs.Option.{option_map_or}
use Rattle.std.proofs.lemmas.List.{length-map, map-append}
use Rattle.ebml_numbers.specs.Number.{uint_octets}
use Rattle.mkv_schema.specs.declared.ids.TheConstants.{CHAPTER_ATOM, CHAPTER_UID}
use Rattle.tree_format.specs.Node.{Node, Nodes, leaf, master, none, node, nodes_of, id_of}
use Rattle.tree_format.specs.Changes.{with_child}
use Rattle.tree_format.specs.Values.{integer_of}
use Rattle.tree_format.proofs.NodeLemmas.{list-nodes}
use Rattle.tree_format.proofs.PartLemmas.{part-set}
use Rattle.tree_format.proofs.ValueLemmas.{uint_value-octets}
use Rattle.tree_format.specs.Children.{set_in, uint_leaf}
use Rattle.record_laws.proofs.TrackLemmas.{find-filter, first_in}
use Rattle.record_changes.specs.Atoms.{atoms_among, atoms_at, value_in}
use Rattle.record_changes.specs.ChapterIdentifiers.{numbered, numbered_among}
use Rattle.record_laws.proofs.AtomLemmas.{atoms-atom, atoms-set, uids_among, uids_at, atoms-none}

-- ---- numbers in a list

-- `n` of the numbers `uids`, from the one at `k` on
abbrev pub numbers_at : List ℕ → ℕ → ℕ → List ℕ
numbers_at uids k zero = []
numbers_at uids k (suc n) = slice_index uids k ∷ numbers_at uids (k + 1) n

pub numbers-long : (uids : List ℕ) (k n : ℕ) → length (numbers_at uids k n) ≡ n
numbers-long uids k zero = refl
numbers-long uids k (suc n) = ap suc (numbers-long uids (k + 1) n)

pub numbers-join : (uids : List ℕ) (k m n : ℕ) → numbers_at uids k (m + n) ≡ numbers_at uids k m ++ numbers_at uids (k + m) n
numbers-join uids k zero n = ap₂ (numbers_at uids) (let same : k ≡ k + 0 = omega arith in same) (let same : 0 + n ≡ n = omega arith in same)
numbers-join uids k (suc m) n =
    let more : suc m + n ≡ suc (m + n) = omega arith in
    let on : k + 1 + m ≡ k + suc m = omega arith in
    ap (numbers_at uids k) more
    ∙ ap (λ (l : List ℕ). slice_index uids k ∷ l) (numbers-join uids (k + 1) m n ∙ ap (λ (j : ℕ). numbers_at uids (k + 1) m ++ numbers_at uids j n) on)

numbers-behind : (uid : ℕ) (uids : List ℕ) (k n : ℕ) → numbers_at (uid ∷ uids) (suc k) n ≡ numbers_at uids k n
numbers-behind uid uids k zero = refl
numbers-behind uid uids k (suc n) =
    let there : suc k + 1 ≡ suc (k + 1) = omega arith in
    ap (λ (l : List ℕ). slice_index uids k ∷ l) (ap (λ (j : ℕ). numbers_at (uid ∷ uids) j n) there ∙ numbers-behind uid uids (k + 1) n)

pub numbers-all : (uids : List ℕ) → numbers_at uids 0 (length uids) ≡ uids
numbers-all [] = refl
numbers-all (uid ∷ uids) =
    let first : 0 + 1 ≡ suc 0 = refl in
    ap (λ (l : List ℕ). uid ∷ l) (ap (λ (j : ℕ). numbers_at (uid ∷ uids) j (length uids)) first ∙ numbers-behind uid uids 0 (length uids) ∙ numbers-all uids)

-- ---- a number that is set

pub value-set : (id value at own : ℕ) (ns : List Node) → value < 2 ^ 64 → value_in id (master own at (nodes_of (with_child (uint_leaf id value) ns))) ≡ value
value-set id value at own ns small =
    ap (λ (o : Option Node). option_map_or integer_of o 0)
    (ap (find (λ n. id_of n == id)) (list-nodes (with_child (uint_leaf id value) ns)) ∙ find-filter (λ n. id_of n == id) (with_child (uint_leaf id value) ns) ∙ ap first_in (part-set (uint_leaf id value) ns))
    ∙ uint_value-octets id value (uint_octets value) small refl

-- ---- atoms

pub numbered-atom : (uids : List ℕ) (k id at : ℕ) (kids : Nodes) → (id == CHAPTER_ATOM) ≡ true
    → numbered uids k (master id at kids) ≡ master id at (nodes_of (with_child (uint_leaf CHAPTER_UID (slice_index uids k)) (numbered_among uids (k + 1) kids)))
numbered-atom uids k id at kids is =
    let child : Node = uint_leaf CHAPTER_UID (slice_index uids k) in
    ap (λ (b : Bool). if b then set_in child (master id at (nodes_of (numbered_among uids (k + 1) kids))) else master id at kids) is
    ∙ ap (λ (l : List Node). master id at (nodes_of (with_child child l))) (list-nodes (numbered_among uids (k + 1) kids))

pub numbered-none : (uids : List ℕ) (k id at : ℕ) (kids : Nodes) → (id == CHAPTER_ATOM) ≡ false → numbered uids k (master id at kids) ≡ master id at kids
numbered-none uids k id at kids is =
    ap (λ (b : Bool). if b then set_in (uint_leaf CHAPTER_UID (slice_index uids k)) (master id at (nodes_of (numbered_among uids (k + 1) kids))) else master id at kids) is

module _ (uids : List ℕ) (small : (k : ℕ) → slice_index uids k < 2 ^ 64) where
  uids-own : (k id at : ℕ) (kids : Nodes) → ((j : ℕ) → uids_among (nodes_of (numbered_among uids j kids)) ≡ numbers_at uids j (length (atoms_among kids))) → (t : Bool) → (id == CHAPTER_ATOM) ≡ t
      → uids_at (numbered uids k (master id at kids)) ≡ numbers_at uids k (length (atoms_at (master id at kids)))
  uids-own k id at kids inside true is =
      let child : Node = uint_leaf CHAPTER_UID (slice_index uids k) in
      let all : List Node = with_child child (numbered_among uids (k + 1) kids) in
      ap uids_at (numbered-atom uids k id at kids is)
      ∙ ap (map (value_in CHAPTER_UID)) (atoms-atom id at (nodes_of all) is)
      ∙ ap₂ (λ u (us : List ℕ). u ∷ us) (value-set CHAPTER_UID (slice_index uids k) at id (numbered_among uids (k + 1) kids) (small k))
      (ap (map (value_in CHAPTER_UID)) (atoms-set child (numbered_among uids (k + 1) kids) refl) ∙ inside (k + 1))
      ∙ ap (λ (l : List Node). numbers_at uids k (length l)) (sym (atoms-atom id at kids is))
  uids-own k id at kids inside false is =
      ap uids_at (numbered-none uids k id at kids is)
      ∙ ap (map (value_in CHAPTER_UID)) (atoms-none (master id at kids) is)
      ∙ ap (λ (l : List Node). numbers_at uids k (length l)) (sym (atoms-none (master id at kids) is))

  -- The atoms have the numbers from the one at `k` on.
  pub uids-among : (ns : Nodes) (k : ℕ) → uids_among (nodes_of (numbered_among uids k ns)) ≡ numbers_at uids k (length (atoms_among ns))
  uids-among none k = refl
  uids-among (node (leaf id at body) ns) k = let same : k + 0 ≡ k = omega arith in uids-among ns (k + 0) ∙ ap (λ (j : ℕ). numbers_at uids j (length (atoms_among ns))) same
  uids-among (node (master id at kids) ns) k =
      let n : Node = master id at kids in
      map-append (value_in CHAPTER_UID) (atoms_at (numbered uids k n)) (atoms_among (nodes_of (numbered_among uids (k + length (atoms_at n)) ns)))
      ∙ ap₂ (λ (a b : List ℕ). a ++ b) (uids-own k id at kids (λ j. uids-among kids j) (id == CHAPTER_ATOM) refl) (uids-among ns (k + length (atoms_at n)))
      ∙ sym (numbers-join uids k (length (atoms_at n)) (length (atoms_among ns)))
      ∙ ap (numbers_at uids k) (sym (length-append (atoms_at n) (atoms_among ns)))

  pub uids-numbered : (n : Node) (k : ℕ) → uids_at (numbered uids k n) ≡ numbers_at uids k (length (atoms_at n))
  uids-numbered (leaf id at body) k = refl
  uids-numbered (master id at kids) k = uids-own k id at kids (λ j. uids-among kids j) (id == CHAPTER_ATOM) refl

  -- The number of atoms is the same.
  pub count-numbered : (n : Node) (k : ℕ) → length (atoms_at (numbered uids k n)) ≡ length (atoms_at n)
  count-numbered n k = sym (length-map (atoms_at (numbered uids k n)) (value_in CHAPTER_UID)) ∙ ap length (uids-numbered n k) ∙ numbers-long uids k (length (atoms_at n))
