-- Identifiers of atoms and editions.
use Rattle.std.proofs.Common.{◌≡◌, ◌<◌, ℕ, ◌+◌, ◌==◌, Bool, if◌then◌else◌, List, [], ◌∷◌, ◌++◌, length, take, flat_map, get_or, refl, sym, ap, ap₂, subst, ◌∙◌, arith, length-append}
use Rattle.std.specs.Prelude.{slice_index}
use Rattle.mkv_schema.specs.declared.ids.TheConstants.{EDITION_ENTRY, CHAPTER_ATOM, CHAPTER_UID}
use Rattle.tree_format.specs.Node.{Node, leaf, master, nodes_of, id_of, children, with_children, depth_all}
use Rattle.tree_format.specs.Changes.{part}
use Rattle.tree_format.proofs.NodeLemmas.{nodes-list}
use Rattle.tree_format.specs.Children.{uint_leaf, set_in}
use Rattle.ebml_tree.specs.Building.{IsBuilt, IsInPlace, IsRead}
use Rattle.ebml_tree.proofs.BuildLemmas.{IsPut, built-push, deep-get}
use Rattle.record_changes.specs.Atoms.{atoms_at, atoms_among, atoms_inside}
use Rattle.record_changes.specs.ChapterIdentifiers.{numbered, numbered_among, numbered_edition, numbered_editions}
use Rattle.record_changes.proofs.StandLemmas.{other-id}
use Rattle.record_changes.proofs.AtomLemmas.{take-step, part-grown}

-- ---- one atom

pub numbered-other : (uids : List ℕ) (k : ℕ) (n : Node) → (id_of n ≡ CHAPTER_ATOM → ⊥) → numbered uids k n ≡ n
numbered-other uids k (leaf id at body) other = refl
numbered-other uids k (master id at kids) other =
    ap (λ (b : Bool). if b then set_in (uint_leaf CHAPTER_UID (slice_index uids k)) (master id at (nodes_of (numbered_among uids (k + 1) kids))) else master id at kids) (other-id id CHAPTER_ATOM other)

pub numbered-own : (uids : List ℕ) (k : ℕ) (n : Node) → IsRead CHAPTER_ATOM n → numbered uids k n ≡ set_in (uint_leaf CHAPTER_UID (slice_index uids k)) (with_children n (numbered_among uids (k + 1) (nodes_of (children n))))
numbered-own uids k (leaf id at body) read = let never = read.master in absurd (cc)
numbered-own uids k (master id at kids) read =
    let set : Node → Node = set_in (uint_leaf CHAPTER_UID (slice_index uids k)) in
    ap (λ i. if i == CHAPTER_ATOM then set (master id at (nodes_of (numbered_among uids (k + 1) kids))) else master id at kids) read.id
    ∙ ap (λ ks. set (master id at (nodes_of (numbered_among uids (k + 1) ks)))) (sym (nodes-list kids))

-- One more element is numbered.
numbered_among-append : (uids : List ℕ) (k : ℕ) (xs : List Node) (x : Node)
    → numbered_among uids k (nodes_of (xs ++ x ∷ [])) ≡ numbered_among uids k (nodes_of xs) ++ numbered uids (k + length (atoms_among (nodes_of xs))) x ∷ []
numbered_among-append uids k [] x = let same : k ≡ k + 0 = omega arith in ap (λ j. numbered uids j x ∷ []) same
numbered_among-append uids k (y ∷ ys) x =
    let j : ℕ = k + length (atoms_at y) in
    let same : j + length (atoms_among (nodes_of ys)) ≡ k + length (atoms_at y ++ atoms_among (nodes_of ys)) = omega (arith, length-append (atoms_at y) (atoms_among (nodes_of ys))) in
    ap (λ l. numbered uids k y ∷ l) (numbered_among-append uids j ys x ∙ ap (λ p. numbered_among uids j (nodes_of ys) ++ numbered uids p x ∷ []) same)

module _ (own at i : ℕ) (xs : List Node) (x old m new : Node) (inside : i < length xs) (is : x ≡ get_or xs i x) (place : IsInPlace own x m) (put : IsPut old m new) where
  grown : (ns all : List Node) → all ≡ ns ++ m ∷ [] → IsBuilt own at (depth_all (nodes_of xs)) ns old → IsBuilt own at (depth_all (nodes_of xs)) all new
  grown ns all same built =
      let low = deep-get xs i x inside is in
      let shallow = place.shallow in
      let P : List Node → Type 0 = λ l. IsBuilt own at (depth_all (nodes_of xs)) l new in
      subst P (sym same) (built-push own at (depth_all (nodes_of xs)) ns old m new built put place.stands (omega arith))

  pub numbered-step : (uids : List ℕ) (k j : ℕ) → IsBuilt own at (depth_all (nodes_of xs)) (numbered_among uids k (nodes_of (take i xs))) old
      → j ≡ k + length (atoms_among (nodes_of (take i xs))) → m ≡ numbered uids j x
      → IsBuilt own at (depth_all (nodes_of xs)) (numbered_among uids k (nodes_of (take (i + 1) xs))) new
  numbered-step uids k j built here one =
      grown (numbered_among uids k (nodes_of (take i xs))) (numbered_among uids k (nodes_of (take (i + 1) xs)))
      (ap (λ l. numbered_among uids k (nodes_of l)) (take-step xs i x inside is) ∙ numbered_among-append uids k (take i xs) x
      ∙ ap (λ y. numbered_among uids k (nodes_of (take i xs)) ++ y ∷ []) (ap (λ p. numbered uids p x) (sym here) ∙ sym one)) built

-- ---- editions

numbered_editions-append : (es us : List ℕ) (j k : ℕ) (xs : List Node) (x : Node)
    → numbered_editions es us j k (xs ++ x ∷ []) ≡ numbered_editions es us j k xs ++ numbered_edition (slice_index es (j + length xs)) us (k + length (flat_map atoms_inside xs)) x ∷ []
numbered_editions-append es us j k [] x =
    let first : j ≡ j + 0 = omega arith in
    let next : k ≡ k + 0 = omega arith in
    ap₂ (λ p q. numbered_edition (slice_index es p) us q x ∷ []) first next
numbered_editions-append es us j k (y ∷ ys) x =
    let q : ℕ = k + length (atoms_inside y) in
    let first : j + 1 + length ys ≡ j + length (y ∷ ys) = omega arith in
    let next : q + length (flat_map atoms_inside ys) ≡ k + length (atoms_inside y ++ flat_map atoms_inside ys) = omega (arith, length-append (atoms_inside y) (flat_map atoms_inside ys)) in
    ap (λ l. numbered_edition (slice_index es j) us k y ∷ l)
    (numbered_editions-append es us (j + 1) q ys x ∙ ap₂ (λ a b. numbered_editions es us (j + 1) q ys ++ numbered_edition (slice_index es a) us b x ∷ []) first next)

module _ (own at i : ℕ) (xs : List Node) (x old : Node) (inside : i < length xs) (is : x ≡ get_or xs i x) (es us : List ℕ)
    (built : IsBuilt own at (depth_all (nodes_of xs)) (numbered_editions es us 0 0 (part EDITION_ENTRY (take i xs))) old) where
  pub editions-step : (m new : Node) (j k : ℕ) → id_of x ≡ EDITION_ENTRY → j ≡ length (part EDITION_ENTRY (take i xs)) → k ≡ length (flat_map atoms_inside (part EDITION_ENTRY (take i xs)))
      → m ≡ numbered_edition (slice_index es j) us k x → IsInPlace own x m → IsPut old m new
      → IsBuilt own at (depth_all (nodes_of xs)) (numbered_editions es us 0 0 (part EDITION_ENTRY (take (i + 1) xs))) new
  editions-step m new j k edition first next one place put =
      let before : List Node = part EDITION_ENTRY (take i xs) in
      let a : 0 + length before ≡ j = omega arith in
      let b : 0 + length (flat_map atoms_inside before) ≡ k = omega arith in
      grown own at i xs x old m new inside is place put (numbered_editions es us 0 0 before) (numbered_editions es us 0 0 (part EDITION_ENTRY (take (i + 1) xs)))
      (ap (numbered_editions es us 0 0) (part-grown xs i x inside is edition) ∙ numbered_editions-append es us 0 0 before x
      ∙ ap (λ y. numbered_editions es us 0 0 before ++ y ∷ []) (ap₂ (λ p q. numbered_edition (slice_index es p) us q x) a b ∙ sym one)) built
