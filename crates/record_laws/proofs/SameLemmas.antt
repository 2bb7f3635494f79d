-- Elements that are read after writing, and a child that replaces an equal one.
use Rattle.std.proofs.Common.{◌≡◌, inl, inr, ℕ, ◌+◌, ◌==◌, Bool, true, false, cond, List, [], ◌∷◌, ◌++◌, length, map, flat_map, refl, sym, ap, ap₂, ◌∙◌, arith, ne_eqb}
use Rattle.std.proofs.lemmas.List.Concat.{flat_map-append}
use Rattle.std.proofs.lemmas.List.Elements.{All-nil, All-cons, filter-append}
use Rattle.std.proofs.lemmas.Bool.{cases_Bool}
use Rattle.tree_format.specs.Node.{Node, Nodes, leaf, master, none, node, nodes_of, list_of, id_of}
use Rattle.tree_format.specs.NormalForm.{is_filler, header_octets, kept_octets, octets, octets_all}
use Rattle.tree_format.specs.Changes.{without, with_child, part, HasNone}
use Rattle.tree_format.specs.Standing.{placed, placed_all}
use Rattle.tree_format.proofs.NodeLemmas.{list-nodes, nodes-list, octets_all-flat}
use Rattle.tree_format.proofs.PartLemmas.{split-first, without-none, with_child-at, part-none}
use Rattle.tree_format.proofs.PlacedLemmas.{octets_all-placed}
use Rattle.record_laws.specs.Again.{read_of}
use Rattle.tree_format.specs.Values.{integer_of}

-- Exactly one child has the ID of `n`, and it is written as `n` is.
abbrev pub HasOnly : Node → List Node → Type 0
HasOnly n ns = map octets (part (id_of n) ns) ≡ octets n ∷ []

-- If nothing is written for an ID, no child has it.
pub none-part : (id : ℕ) (ns : List Node) → map octets (part id ns) ≡ [] → HasNone id ns
none-part id [] is = All-nil (λ k. (id_of k == id) ≡ false)
none-part id (n ∷ ns) is = grind (arith, none-part id ns, All-cons (λ k. (id_of k == id) ≡ false) n ns)

-- If it is the only one already, the written bytes stay.
pub same-only : (n : Node) (ns : List Node) → HasOnly n ns → flat_map octets (with_child n ns) ≡ flat_map octets ns
same-only n ns only = elim (split-first (id_of n) ns) [
  | inl lacks ↦ absurd (let never : [] ≡ octets n ∷ [] = sym (ap (map octets) (part-none (id_of n) ns lacks)) ∙ only in cc)
  | inr s ↦
      let here : octets s.first ∷ map octets (part (id_of n) s.back) ≡ octets n ∷ [] =
      sym (ap (map octets) (ap (part (id_of n)) s.whole ∙ filter-append (λ k. id_of k == id_of n) s.front (s.first ∷ s.back)
      ∙ ap₂ (λ (a b : List Node). a ++ b) (part-none (id_of n) s.front s.none_before) (ap (λ (t : Bool). cond t (s.first ∷ part (id_of n) s.back) (part (id_of n) s.back)) s.is))) ∙ only in
      let alike : octets s.first ≡ octets n = cc in
      let none_left : map octets (part (id_of n) s.back) ≡ [] = cc in
      let rest : without (id_of n) s.back ≡ s.back = without-none (id_of n) s.back (none-part (id_of n) s.back none_left) in
      ap (flat_map octets) (ap (with_child n) s.whole ∙ with_child-at n s.first s.front s.back s.is s.none_before ∙ ap (λ l. s.front ++ n ∷ l) rest)
      ∙ flat_map-append octets s.front (n ∷ s.back)
      ∙ ap (λ (o : List ℕ). flat_map octets s.front ++ (o ++ flat_map octets s.back)) (sym alike)
      ∙ sym (flat_map-append octets s.front (s.first ∷ s.back))
      ∙ ap (flat_map octets) (sym s.whole)
]

-- ---- Elements that are read after writing

pub placed-octets : (n : Node) (p : ℕ) → octets (placed p n) ≡ octets n
placed-octets (leaf id at body) p = refl
placed-octets (master id at kids) p = ap (kept_octets id) (octets_all-placed kids (p + length (header_octets id (length (octets_all kids)))))

pub placed-id : (n : Node) (p : ℕ) → id_of (placed p n) ≡ id_of n
placed-id (leaf id at body) p = refl
placed-id (master id at kids) p = refl

pub integer-placed : (n : Node) (p : ℕ) → integer_of (placed p n) ≡ integer_of n
integer-placed (leaf id at body) p = refl
integer-placed (master id at kids) p = refl

-- An ID that is left out differs from one that isn't.
pub filler-other : (own id : ℕ) → is_filler own ≡ true → is_filler id ≡ false → (own == id) ≡ false
filler-other own id filler kept = ne_eqb own id (λ same. let never : true ≡ false = sym filler ∙ ap is_filler same ∙ kept in absurd (cc))

-- An Element is read, and then the others.
pub read-step : (p : ℕ) (n : Node) (ns : List Node) → is_filler (id_of n) ≡ false → read_of p (n ∷ ns) ≡ placed p n ∷ read_of (p + length (octets n)) ns
read-step p n ns kept = rw kept refl

-- A function that ignores places has the same values for the children with an ID.
pub part-placed : {A : Type 0} (f : Node → A) → ((n : Node) (p : ℕ) → f (placed p n) ≡ f n) → (id : ℕ) (ns : Nodes) (p : ℕ) → is_filler id ≡ false
    → map f (part id (list_of (placed_all p ns))) ≡ map f (part id (list_of ns))
part-placed f same id none p kept = refl
part-placed {A} f same id (node n ns) p kept = elim (cases_Bool (is_filler (id_of n))) [
  | inl filler ↦ rw (filler, filler-other (id_of n) id filler kept) (part-placed f same id ns p kept)
  | inr other ↦
      let rest = part-placed f same id ns (p + length (octets n)) kept in
      elim (cases_Bool (id_of n == id)) [
        | inl is ↦ rw (other, placed-id n p, is) (ap₂ (λ (x : A) (xs : List A). x ∷ xs) (same n p) rest)
        | inr is ↦ rw (other, placed-id n p, is) rest
      ]
]

pub part-read : (id p : ℕ) (ns : List Node) → is_filler id ≡ false → map octets (part id (read_of p ns)) ≡ map octets (part id ns)
part-read id p ns kept = part-placed octets placed-octets id (nodes_of ns) p kept ∙ ap (λ l. map octets (part id l)) (list-nodes ns)

pub octets-read : (p : ℕ) (ns : List Node) → flat_map octets (read_of p ns) ≡ flat_map octets ns
octets-read p ns =
    sym (octets_all-flat (read_of p ns)) ∙ ap octets_all (nodes-list (placed_all p (nodes_of ns))) ∙ octets_all-placed (nodes_of ns) p ∙ octets_all-flat ns
