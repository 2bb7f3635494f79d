-- Atoms with identifiers are written as they were after they are read.
use Rattle.std.proofs.Common.{◌≡◌, ◌<◌, inl, inr, ℕ, ◌+◌, ◌^◌, ◌==◌, Bool, true, false, List, [], ◌∷◌, ◌++◌, length, map, flat_map, refl, sym, ap, ap₂, subst, ◌∙◌, arith, length-append, eqb-true}
use Rattle.std.specs.Prelude.{⊤, slice_index}
use Rattle.std.proofs.lemmas.Bool.{cases_Bool}
use Rattle.mkv_schema.specs.declared.ids.TheConstants.{CHAPTER_ATOM, CHAPTER_UID}
use Rattle.tree_format.specs.Node.{Node, Nodes, leaf, master, none, node, nodes_of, list_of, id_of}
use Rattle.tree_format.specs.NormalForm.{is_filler, header_octets, kept_octets, octets, octets_all}
use Rattle.tree_format.specs.Changes.{part, with_child, without}
use Rattle.tree_format.specs.Standing.{placed, placed_all}
use Rattle.tree_format.proofs.NodeLemmas.{octets_all-flat}
use Rattle.tree_format.proofs.PartLemmas.{part-set, split-first, with_child-at, with_child-none}
use Rattle.tree_format.specs.Children.{uint_leaf}
use Rattle.record_laws.proofs.SameLemmas.{HasOnly, part-read, placed-octets, same-only}
use Rattle.record_changes.specs.Atoms.{atoms_at}
use Rattle.record_changes.specs.ChapterIdentifiers.{numbered, numbered_among}
use Rattle.record_laws.proofs.AtomLemmas.{atoms-none, count-placed, filler-none}
use Rattle.record_laws.proofs.NumberLemmas.{count-numbered, numbered-atom, numbered-none}

-- The Element stays: after it is read, its atoms with the identifiers from the one at `k` on are written as they were.
abbrev pub Stays : List ℕ → ℕ → Node → Type 0
Stays uids k n = (p : ℕ) → octets (numbered uids k (placed p n)) ≡ octets n

-- Elements in sequence stay: each is written as it was after it is read.
abbrev pub AllStay : List ℕ → ℕ → List Node → Type 0
AllStay uids k [] = ⊤
AllStay uids k (n ∷ ns) = Stays uids k n × AllStay uids (k + length (atoms_at n)) ns

-- ---- lists of Elements that stay

stay-at : (uids : List ℕ) (j k : ℕ) (ns : List Node) → j ≡ k → AllStay uids j ns → AllStay uids k ns
stay-at uids j k ns same stay = subst (λ (i : ℕ). AllStay uids i ns) same stay

-- An Element that is left out has no bytes.
pub octets-filler : (n : Node) → is_filler (id_of n) ≡ true → octets n ≡ []
octets-filler (leaf id at body) is = rw is refl
octets-filler (master id at kids) is = rw is refl

pub stay-read : (uids : List ℕ) (ns : List Node) (k q : ℕ) → AllStay uids k ns → flat_map octets (numbered_among uids k (placed_all q (nodes_of ns))) ≡ flat_map octets ns
stay-read uids [] k q stay = refl
stay-read uids (n ∷ ns) k q stay = elim (cases_Bool (is_filler (id_of n))) [
  | inl filler ↦
      let same : k + length (atoms_at n) ≡ k = omega (arith, ap length (filler-none n filler)) in
      rw (filler, octets-filler n filler) (stay-read uids ns k q (stay-at uids (k + length (atoms_at n)) k ns same stay.1))
  | inr kept ↦
      let behind : Nodes = placed_all (q + length (octets n)) (nodes_of ns) in
      rw kept
      (ap (λ (m : ℕ). octets (numbered uids k (placed q n)) ++ flat_map octets (numbered_among uids (k + m) behind)) (count-placed n q)
      ∙ ap₂ (λ (a b : List ℕ). a ++ b) (stay.0 q) (stay-read uids ns (k + length (atoms_at n)) (q + length (octets n)) stay.1))
]

stay-join : (uids : List ℕ) (k : ℕ) (xs ys : List Node) → AllStay uids k xs → AllStay uids (k + length (flat_map atoms_at xs)) ys → AllStay uids k (xs ++ ys)
stay-join uids k [] ys stay more = let same : k + 0 ≡ k = omega arith in stay-at uids (k + 0) k ys same more
stay-join uids k (x ∷ xs) ys stay more =
    let same : k + length (atoms_at x ++ flat_map atoms_at xs) ≡ k + length (atoms_at x) + length (flat_map atoms_at xs) = omega (arith, length-append (atoms_at x) (flat_map atoms_at xs)) in
    (stay.0, stay-join uids (k + length (atoms_at x)) xs ys stay.1 (stay-at uids (k + length (atoms_at x ++ flat_map atoms_at xs)) (k + length (atoms_at x) + length (flat_map atoms_at xs)) ys same more))

stay-front : (uids : List ℕ) (k : ℕ) (xs ys : List Node) → AllStay uids k (xs ++ ys) → AllStay uids k xs
stay-front uids k [] ys stay = tt
stay-front uids k (x ∷ xs) ys stay = (stay.0, stay-front uids (k + length (atoms_at x)) xs ys stay.1)

stay-back : (uids : List ℕ) (k : ℕ) (xs ys : List Node) → AllStay uids k (xs ++ ys) → AllStay uids (k + length (flat_map atoms_at xs)) ys
stay-back uids k [] ys stay = let same : k ≡ k + 0 = omega arith in stay-at uids k (k + 0) ys same stay
stay-back uids k (x ∷ xs) ys stay =
    let same : k + length (atoms_at x) + length (flat_map atoms_at xs) ≡ k + length (atoms_at x ++ flat_map atoms_at xs) = omega (arith, length-append (atoms_at x) (flat_map atoms_at xs)) in
    stay-at uids (k + length (atoms_at x) + length (flat_map atoms_at xs)) (k + length (atoms_at x ++ flat_map atoms_at xs)) ys same (stay-back uids (k + length (atoms_at x)) xs ys stay.1)

-- An Element with another ID than an atom's has no atom inside.
not-atom : (id : ℕ) (n : Node) → (id == CHAPTER_ATOM) ≡ false → (id_of n == id) ≡ true → atoms_at n ≡ []
not-atom id n other is = atoms-none n (rw (eqb-true (id_of n) id is) other)

stay-without : (uids : List ℕ) (k id : ℕ) (ns : List Node) → (id == CHAPTER_ATOM) ≡ false → AllStay uids k ns → AllStay uids k (without id ns)
stay-without uids k id [] other stay = tt
stay-without uids k id (n ∷ ns) other stay =
    let rest = stay-without uids (k + length (atoms_at n)) id ns other stay.1 in
    elim (cases_Bool (id_of n == id)) [
      | inl is ↦ rw is (stay-at uids (k + length (atoms_at n)) k (without id ns) (omega (arith, ap length (not-atom id n other is))) rest)
      | inr is ↦ rw is (stay.0, rest)
    ]

-- A number that is set beside them.
pub stay-set : (uids : List ℕ) (k id value : ℕ) (ns : List Node) → (id == CHAPTER_ATOM) ≡ false → AllStay uids k ns → AllStay uids k (with_child (uint_leaf id value) ns)
stay-set uids k id value ns other stay = elim (split-first id ns) [
  | inl lacks ↦ subst (AllStay uids k) (sym (with_child-none (uint_leaf id value) ns lacks)) (stay-join uids k ns (uint_leaf id value ∷ []) stay ((λ p. refl), tt))
  | inr s ↦
      let whole : AllStay uids k (s.front ++ s.first ∷ s.back) = subst (AllStay uids k) s.whole stay in
      let back = stay-back uids k s.front (s.first ∷ s.back) whole in
      let at : ℕ = k + length (flat_map atoms_at s.front) in
      let same : at + length (atoms_at s.first) ≡ at + 0 = omega (arith, ap length (not-atom id s.first other s.is)) in
      subst (AllStay uids k) (sym (ap (with_child (uint_leaf id value)) s.whole ∙ with_child-at (uint_leaf id value) s.first s.front s.back s.is s.none_before))
      (stay-join uids k s.front (uint_leaf id value ∷ without id s.back) (stay-front uids k s.front (s.first ∷ s.back) whole)
      ((λ p. refl), stay-without uids (at + 0) id s.back other (stay-at uids (at + length (atoms_at s.first)) (at + 0) s.back same back.1)))
]

-- ---- Elements with identifiers

numbered-id : (uids : List ℕ) (k : ℕ) (n : Node) → id_of (numbered uids k n) ≡ id_of n
numbered-id uids k (leaf id at body) = refl
numbered-id uids k (master id at kids) =
    elim (cases_Bool (id == CHAPTER_ATOM)) [ inl is ↦ ap id_of (numbered-atom uids k id at kids is) | inr is ↦ ap id_of (numbered-none uids k id at kids is) ]

numbered-same : (uids : List ℕ) (k id : ℕ) (n : Node) → (id == CHAPTER_ATOM) ≡ false → (id_of n == id) ≡ true → numbered uids k n ≡ n
numbered-same uids k id (leaf i at body) other is = refl
numbered-same uids k id (master i at kids) other is = numbered-none uids k i at kids (rw (eqb-true i id is) other)

-- The Elements with another ID are the same.
pub part-numbered : (uids : List ℕ) (id k : ℕ) (ns : Nodes) → (id == CHAPTER_ATOM) ≡ false → part id (numbered_among uids k ns) ≡ part id (list_of ns)
part-numbered uids id k none other = refl
part-numbered uids id k (node n ns) other =
    let rest = part-numbered uids id (k + length (atoms_at n)) ns other in
    elim (cases_Bool (id_of n == id)) [
      | inl is ↦ rw (numbered-id uids k n, is) (ap₂ (λ m (ms : List Node). m ∷ ms) (numbered-same uids k id n other is) rest)
      | inr is ↦ rw (numbered-id uids k n, is) rest
    ]

-- A master is written as it was if this number is its only child with the ID, and its other children stay. They are read at a place, their atoms
-- get the identifiers from the one at `k` on, and the number is set again.
pub master-again : (uids : List ℕ) (k own value : ℕ) (ns : List Node) (q : ℕ) → (own == CHAPTER_ATOM) ≡ false → is_filler own ≡ false → AllStay uids k ns
    → flat_map octets (with_child (uint_leaf own value) (numbered_among uids k (placed_all q (nodes_of (with_child (uint_leaf own value) ns))))) ≡ flat_map octets (with_child (uint_leaf own value) ns)
master-again uids k own value ns q other kept stay =
    let child : Node = uint_leaf own value in
    let all : List Node = with_child child ns in
    let only : HasOnly child (numbered_among uids k (placed_all q (nodes_of all))) =
    ap (map octets) (part-numbered uids own k (placed_all q (nodes_of all)) other) ∙ part-read own q all kept ∙ ap (map octets) (part-set child ns) in
    same-only child (numbered_among uids k (placed_all q (nodes_of all))) only
    ∙ stay-read uids all k q (stay-set uids k own value ns other stay)

module _ (uids : List ℕ) (small : (k : ℕ) → slice_index uids k < 2 ^ 64) where
  atom-stays : (k id at : ℕ) (kids : Nodes) → ((j : ℕ) → AllStay uids j (numbered_among uids j kids)) → (t : Bool) → (id == CHAPTER_ATOM) ≡ t → Stays uids k (numbered uids k (master id at kids))
  atom-stays k id at kids inside true is = λ p.
      let ns : List Node = numbered_among uids (k + 1) kids in
      let own : ℕ = slice_index uids k in
      let all : List Node = with_child (uint_leaf CHAPTER_UID own) ns in
      let q : ℕ = p + length (header_octets id (length (octets_all (nodes_of all)))) in
      let again : List Node = with_child (uint_leaf CHAPTER_UID own) (numbered_among uids (k + 1) (placed_all q (nodes_of all))) in
      ap (λ (n : Node). octets (numbered uids k (placed p n))) (numbered-atom uids k id at kids is)
      ∙ ap octets (numbered-atom uids k id p (placed_all q (nodes_of all)) is)
      ∙ ap (kept_octets id) (octets_all-flat again ∙ master-again uids (k + 1) CHAPTER_UID own ns q refl refl (inside (k + 1)) ∙ sym (octets_all-flat all))
      ∙ sym (ap octets (numbered-atom uids k id at kids is))
  atom-stays k id at kids inside false is = λ p.
      ap (λ (n : Node). octets (numbered uids k (placed p n))) (numbered-none uids k id at kids is)
      ∙ ap octets (numbered-none uids k id p (placed_all (p + length (header_octets id (length (octets_all kids)))) kids) is)
      ∙ placed-octets (master id at kids) p
      ∙ sym (ap octets (numbered-none uids k id at kids is))

  pub all-stay : (ns : Nodes) (k : ℕ) → AllStay uids k (numbered_among uids k ns)
  all-stay none k = tt
  all-stay (node (leaf id at body) ns) k = ((λ p. refl), all-stay ns (k + 0))
  all-stay (node (master id at kids) ns) k =
      let n : Node = master id at kids in
      let same : k + length (atoms_at n) ≡ k + length (atoms_at (numbered uids k n)) = omega (arith, count-numbered uids small n k) in
      (atom-stays k id at kids (λ j. all-stay kids j) (id == CHAPTER_ATOM) refl, stay-at uids (k + length (atoms_at n)) (k + length (atoms_at (numbered uids k n))) (numbered_among uids (k + length (atoms_at n)) ns) same (all-stay ns (k + length (atoms_at n))))
