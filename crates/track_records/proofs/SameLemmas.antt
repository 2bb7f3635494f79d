-- Two Elements that are compared, one child at a time.
use Rattle.std.proofs.Common.{◌≡◌, ◌≤◌, ◌<◌, ℕ, zero, suc, ◌+◌, ◌==◌, Bool, true, false, not, ◌&&◌, cond, List, [], ◌∷◌, length, filter, drop, position, nat_lt, get_or, Some, None, refl, sym, ap, ap₂, ◌∙◌, arith, add-one}
use Rattle.std.specs.List.{position_or_len}
use Rattle.std.proofs.lemmas.Bool.Decides.{nat_tests}
use Rattle.std.proofs.lemmas.List.{drop_all}
use Rattle.std.specs.Str.{bytes_eq}
use Rattle.std.proofs.Math.Seq.{drop-cons}
use Rattle.tree_format.specs.Node.{Node, Nodes, leaf, master, none, node, nodes_of, list_of, id_of, body_of, children, count, count_all}
use Rattle.tree_format.specs.NormalForm.{is_filler}
use Rattle.tree_format.proofs.NodeLemmas.{nodes-list}
use Rattle.track_records.specs.Same.{without_fillers, is_end, is_same, are_same}

-- ---- each child is smaller than its parent

count-listed : (ns : Nodes) (k : ℕ) (d : Node) → k < length (list_of ns) → count (get_or (list_of ns) k d) < count_all ns + 1
count-listed none k d inside = absurd (omega arith)
count-listed (node n ns) zero d inside = omega arith
count-listed (node n ns) (suc k) d inside = omega (arith, count-listed ns k d (omega (arith, inside)))

pub count-child : (n : Node) (k : ℕ) (d : Node) → k < length (children n) → count (get_or (children n) k d) < count n
count-child (leaf id at body) k d inside = absurd (omega arith)
count-child (master id at kids) k d inside = count-listed kids k d inside

-- ---- the Elements that are written

-- The first Element that passes a test is found, and the ones behind it are left.
first-some : (p : Node → Bool) (ns : List Node) (k : ℕ) (d : Node) → k ≡ position_or_len p ns → k < length ns → filter p ns ≡ get_or ns k d ∷ filter p (drop (k + 1) ns)
first-some p [] k d is inside = absurd (omega arith)
first-some p (n ∷ ns) k d is inside = split (p n) k is inside (λ i at less. first-some p ns i d at less)
  where
    split : (b : Bool) (i : ℕ) → i ≡ cond (not b) (1 + position_or_len p ns) 0 → i < suc (length ns)
        → ((j : ℕ) → j ≡ position_or_len p ns → j < length ns → filter p ns ≡ get_or ns j d ∷ filter p (drop (j + 1) ns))
        → cond b (n ∷ filter p ns) (filter p ns) ≡ get_or (n ∷ ns) i d ∷ filter p (drop (i + 1) (n ∷ ns))
    split true zero is less rest = refl
    split true (suc i) is less rest = absurd (omega arith)
    split false zero is less rest = absurd (omega arith)
    split false (suc i) is less rest = rest i (omega arith) (omega arith) ∙ ap (λ j. get_or ns i d ∷ filter p (drop j (n ∷ ns))) (next i)
      where
        next : (i : ℕ) → suc (i + 1) ≡ suc i + 1
        next i = omega arith

first-none : (p : Node → Bool) (ns : List Node) → length ns ≤ position_or_len p ns → filter p ns ≡ []
first-none p [] end = refl
first-none p (n ∷ ns) end = split (p n) end (λ more. first-none p ns more)
  where
    split : (b : Bool) → suc (length ns) ≤ cond (not b) (1 + position_or_len p ns) 0 → (length ns ≤ position_or_len p ns → filter p ns ≡ []) → cond b (n ∷ filter p ns) (filter p ns) ≡ []
    split true end rest = absurd (omega arith)
    split false end rest = rest (omega arith)

found-at : (at long k : ℕ) → Some k ≡ cond (nat_lt at long) (Some at) None → (k ≡ at) × (at < long)
found-at at long k found = grind (arith, nat_tests)

not-found : (at long : ℕ) → None ≡ cond (nat_lt at long) (Some at) None → long ≤ at
not-found at long found = grind (arith, nat_tests)

pub written-first : (ns : List Node) (k : ℕ) (d : Node) → Some k ≡ position (λ n. not (is_filler (id_of n))) ns → without_fillers ns ≡ get_or ns k d ∷ without_fillers (drop (k + 1) ns)
written-first ns k d found =
    let at = found-at (position_or_len (λ n. not (is_filler (id_of n))) ns) (length ns) k found in
    first-some (λ n. not (is_filler (id_of n))) ns k d at.0 (omega (arith, at.0, at.1))

pub written-none : (ns : List Node) → None ≡ position (λ n. not (is_filler (id_of n))) ns → without_fillers ns ≡ []
written-none ns found = first-none (λ n. not (is_filler (id_of n))) ns (not-found (position_or_len (λ n. not (is_filler (id_of n))) ns) (length ns) found)

-- ---- the comparison

-- Two Elements are the same by their IDs, their data and their children.
pub same-by : (a b : Node) → is_same a b ≡ (id_of a == id_of b && bytes_eq (body_of a) (body_of b) && are_same (nodes_of (children a)) (without_fillers (children b)))
same-by (leaf id at body) b = refl
same-by (master id at kids) b = ap (λ ns. id == id_of b && bytes_eq [] (body_of b) && are_same ns (without_fillers (children b))) (sym (nodes-list kids))

pub other-id : (a b : Node) → (id_of a == id_of b) ≡ false → is_same a b ≡ false
other-id a b other = same-by a b ∙ ap (λ i. i && bytes_eq (body_of a) (body_of b) && are_same (nodes_of (children a)) (without_fillers (children b))) other

pub same-filler : (m : Node) (ms : Nodes) (ns : List Node) → is_filler (id_of m) ≡ true → are_same (node m ms) ns ≡ are_same ms ns
same-filler m ms [] filler = ap (λ f. f && are_same ms []) filler
same-filler m ms (n ∷ ns) filler = ap (λ f. cond f (are_same ms (n ∷ ns)) (is_same m n && are_same ms ns)) filler

pub same-none : (m : Node) (ms : Nodes) → is_filler (id_of m) ≡ false → are_same (node m ms) [] ≡ false
same-none m ms kept = ap (λ f. f && are_same ms []) kept

pub same-some : (m n : Node) (ms : Nodes) (ns : List Node) → is_filler (id_of m) ≡ false → are_same (node m ms) (n ∷ ns) ≡ (is_same m n && are_same ms ns)
same-some m n ms ns kept = ap (λ f. cond f (are_same ms (n ∷ ns)) (is_same m n && are_same ms ns)) kept

-- ---- the loop over the children

-- Two Elements with the same ID and data are the same if their children are.
pub same-whole : (a b : Node) (items others : List Node) → items ≡ children a → others ≡ children b → id_of a ≡ id_of b → bytes_eq (body_of a) (body_of b) ≡ true → is_same a b ≡ are_same (nodes_of items) (without_fillers others)
same-whole a b items others of_a of_b id body =
    same-by a b ∙ ap₂ (λ i l. i && l && are_same (nodes_of (children a)) (without_fillers (children b))) (eqb-same (id_of a) (id_of b) id) body
    ∙ ap₂ (λ l m. are_same (nodes_of l) (without_fillers m)) (sym of_a) (sym of_b)
  where
    eqb-same : (i j : ℕ) → i ≡ j → (i == j) ≡ true
    eqb-same i j same = grind (arith, nat_tests)

from-item : (items : List Node) (k : ℕ) (m : Node) → k < length items → m ≡ get_or items k m → nodes_of (drop k items) ≡ node m (nodes_of (drop (k + 1) items))
from-item items k m inside is = ap nodes_of (drop-cons items k m inside ∙ ap₂ (λ l i. l ∷ drop i items) (sym is) (sym (add-one k)))

-- A child that is written is compared with the first one on the other side.
pub same-next : (items others : List Node) (k : ℕ) (m n : Node) (rest : List Node) → k < length items → m ≡ get_or items k m → is_filler (id_of m) ≡ false → without_fillers others ≡ n ∷ rest
    → are_same (nodes_of (drop k items)) (without_fillers others) ≡ (is_same m n && are_same (nodes_of (drop (k + 1) items)) rest)
same-next items others k m n rest inside is kept first =
    ap₂ are_same (from-item items k m inside is) first ∙ same-some m n (nodes_of (drop (k + 1) items)) rest kept

-- Without one on the other side, the children differ.
pub same-missing : (items others : List Node) (k : ℕ) (m : Node) → k < length items → m ≡ get_or items k m → is_filler (id_of m) ≡ false → without_fillers others ≡ [] → are_same (nodes_of (drop k items)) (without_fillers others) ≡ false
same-missing items others k m inside is kept end =
    ap₂ are_same (from-item items k m inside is) end ∙ same-none m (nodes_of (drop (k + 1) items)) kept

-- A child that isn't written is passed.
pub same-passed : (items others : List Node) (k : ℕ) (m : Node) → k < length items → m ≡ get_or items k m → is_filler (id_of m) ≡ true
    → are_same (nodes_of (drop k items)) (without_fillers others) ≡ are_same (nodes_of (drop (k + 1) items)) (without_fillers others)
same-passed items others k m inside is filler =
    ap (λ l. are_same l (without_fillers others)) (from-item items k m inside is) ∙ same-filler m (nodes_of (drop (k + 1) items)) (without_fillers others) filler

-- At the end, nothing is left on the other side.
pub same-end : (items others : List Node) (k : ℕ) → length items ≤ k → are_same (nodes_of (drop k items)) (without_fillers others) ≡ is_end (without_fillers others)
same-end items others k end = ap (λ l. are_same (nodes_of l) (without_fillers others)) (drop_all k items end)
