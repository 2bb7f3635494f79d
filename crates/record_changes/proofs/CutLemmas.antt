-- Chapters cut to a period of time.
use Rattle.std.proofs.Common.{◌≡◌, ◌<◌, ◌≤◌, ℕ, ◌+◌, ◌-◌, ◌==◌, Bool, true, false, cond, if◌then◌else◌, List, [], ◌∷◌, ◌++◌, length, take, drop, find, get_or, All, Option, None, Some, eqb-true, refl, sym, ap, subst, ◌∙◌, arith, append-nil, append_assoc, length-drop}
use Rattle.std.specs.Option.{option_to_list}
use Rattle.std.proofs.lemmas.List.{drop_all, take_all, get_or_default}
use Rattle.std.proofs.lemmas.List.Elements.{All-head, All-tail}
use Rattle.mkv_schema.specs.declared.ids.TheConstants.{EDITION_ENTRY, CHAPTER_ATOM}
use Rattle.mkv_schema.specs.Schema.{is_master}
use Rattle.tree_format.specs.Node.{Node, leaf, master, nodes_of, list_of, id_of, offset_of, children, with_children, depth, depth_all, IsMaster}
use Rattle.tree_format.specs.Changes.{with_child}
use Rattle.tree_format.specs.Reading.{is_master_in}
use Rattle.tree_format.specs.Standing.{StandsIn, IsSound}
use Rattle.tree_format.proofs.NodeLemmas.{list-nodes, nodes-list}
use Rattle.tree_format.proofs.ChangeLemmas.{deep-with_child}
use Rattle.ebml_tree.proofs.LoopLemmas.{next-is}
use Rattle.tree_format.specs.Children.{uint_leaf, set_in, set_each}
use Rattle.ebml_tree.specs.Building.{IsBuilt, IsInPlace, IsRead}
use Rattle.ebml_tree.proofs.BuildLemmas.{IsPut, built-push, deep-get}
use Rattle.record_changes.specs.declared.stretch.Stretch.{Stretch}
use Rattle.record_changes.specs.Cut.{takes, start_of, end_of, next_start, times_within, cut_at, cut_among, cut_inside, unless_empty}
use Rattle.record_changes.specs.Standing.{HoldsAtoms, IsReadIf, MayReplace, SetsTimes}
use Rattle.record_changes.proofs.ChapterFacts.{edition-master, atom-master, atom-in_edition, atom-in_atom}
use Rattle.record_changes.proofs.StandLemmas.{read-if, other-id, stands-here, built-whole}

-- ---- masters with atoms

pub edition-holds : (n : Node) → IsRead EDITION_ENTRY n → HoldsAtoms n
edition-holds n read = record {
  read = (let P : ℕ → Type 0 = λ p. IsRead p n in subst P (sym read.id) read);
  known = ap is_master read.id ∙ edition-master;
  atoms = ap (λ p. is_master_in p CHAPTER_ATOM) read.id ∙ atom-in_edition;
}

pub atom-holds : (n : Node) → IsRead CHAPTER_ATOM n → HoldsAtoms n
atom-holds n read = record {
  read = (let P : ℕ → Type 0 = λ p. IsRead p n in subst P (sym read.id) read);
  known = ap is_master read.id ∙ atom-master;
  atoms = ap (λ p. is_master_in p CHAPTER_ATOM) read.id ∙ atom-in_atom;
}

-- The atoms in a master were read.
pub all-read-if : (parent own : ℕ) (n : Node) (ns : List Node) → is_master_in parent own ≡ true → IsRead parent n → ns ≡ children n → All (IsReadIf own) ns
all-read-if parent own n ns has read are = λ i d inside. read-if parent own n (get_or ns i d) ns i has read are inside (get_or_default ns i d (get_or ns i d) inside)

pub all-read : (n : Node) (ns : List Node) → HoldsAtoms n → ns ≡ children n → All (IsReadIf CHAPTER_ATOM) ns
all-read n ns holds are = all-read-if (id_of n) CHAPTER_ATOM n ns holds.atoms holds.read are

pub find-read : (own : ℕ) (ns : List Node) (n : Node) → All (IsReadIf own) ns → find (λ m. id_of m == own) ns ≡ Some n → IsRead own n
find-read own [] n all found = absurd (cc)
find-read own (m ∷ ms) n all found = split (id_of m == own) refl (find-read own ms n (All-tail (IsReadIf own) m ms all)) found
  where
    split : (b : Bool) → (id_of m == own) ≡ b → (find (λ k. id_of k == own) ms ≡ Some n → IsRead own n) → cond b (Some m) (find (λ k. id_of k == own) ms) ≡ Some n → IsRead own n
    split true is rest found =
        let same : m ≡ n = cc in
        subst (IsRead own) same (All-head (IsReadIf own) m ms all (eqb-true (id_of m) own is))
    split false is rest found = rest found

-- ---- setting a time

set-id : (n : Node) (ns : List Node) → id_of (with_children n ns) ≡ id_of n
set-id (leaf id at body) ns = refl
set-id (master id at kids) ns = refl

set-deep : (n child : Node) → depth child ≡ 0 → depth (with_children n (with_child child (children n))) ≤ depth n
set-deep (leaf id at body) child low = omega arith
set-deep (master id at kids) child low =
    let deep = deep-with_child child (list_of kids) in
    let kept : depth_all (nodes_of (list_of kids)) ≡ depth_all kids = ap depth_all (nodes-list kids) in
    omega arith

pub sets-time : (old new child : Node) (id value : ℕ) → IsRead CHAPTER_ATOM old → child ≡ uint_leaf id value → new ≡ with_children old (with_child child (children old)) → IsMaster new
    → (IsSound old → StandsIn (id_of old) child → IsSound new) → StandsIn CHAPTER_ATOM child → SetsTimes (uint_leaf id value ∷ []) old new
sets-time old new child id value read is same is_master keeps stands =
    let P : ℕ → Type 0 = λ p. StandsIn p child in
    record {
      changed = same ∙ ap (λ m. set_in m old) is;
      read = record { id = ap id_of same ∙ set-id old (with_child child (children old)) ∙ read.id; master = is_master; sound = keeps read.sound (subst P (sym read.id) stands) };
      shallow = (let Q : Node → Type 0 = λ m. depth m ≤ depth old in subst Q (sym same) (set-deep old child (ap depth is)));
    }

pub sets-none : (n : Node) → IsRead CHAPTER_ATOM n → SetsTimes [] n n
sets-none n read = record { changed = refl; read = read; shallow = omega arith }

atom-in_place : (parent : ℕ) (n new : Node) → is_master_in parent CHAPTER_ATOM ≡ true → IsRead CHAPTER_ATOM new → depth new ≤ depth n → IsInPlace parent n new
atom-in_place parent n (leaf id at body) has read shallow = let never = read.master in absurd (cc)
atom-in_place parent n (master id at kids) has read shallow = record { stands = (ap (is_master_in parent) read.id ∙ has, read.sound); shallow = shallow }

-- With its times set, an atom is still valid in its place.
pub may-sets : (n t first last : Node) (cs ds : List Node) → IsRead CHAPTER_ATOM n → MayReplace n t → SetsTimes cs t first → SetsTimes ds first last → MayReplace n last
may-sets n t first last cs ds read may one two =
    λ parent stands.
    let shallow = (may parent stands).shallow in
    let a = one.shallow in
    let b = two.shallow in
    atom-in_place parent n last (stands-here parent CHAPTER_ATOM n read stands) two.read (omega arith)

-- ---- one element

pub cut-other : (s : Stretch) (n : Node) (next : Option ℕ) → (id_of n ≡ CHAPTER_ATOM → ⊥) → cut_at s n next ≡ n ∷ []
cut-other s (leaf id at body) next other = refl
cut-other s (master id at kids) next other =
    ap (λ (b : Bool). if b then (if takes s (start_of (master id at kids)) (end_of (master id at kids) next) then set_each (times_within s (master id at kids)) (master id at (nodes_of (cut_among s kids))) ∷ [] else []) else master id at kids ∷ []) (other-id id CHAPTER_ATOM other)

cut-own : (s : Stretch) (n : Node) (next : Option ℕ) → IsRead CHAPTER_ATOM n → cut_at s n next ≡ (if takes s (start_of n) (end_of n next) then set_each (times_within s n) (cut_inside s n) ∷ [] else [])
cut-own s (leaf id at body) next read = let never = read.master in absurd (cc)
cut-own s (master id at kids) next read =
    let n : Node = master id at kids in
    let taken : Bool = takes s (start_of n) (end_of n next) in
    ap (λ i. if i == CHAPTER_ATOM then (if taken then set_each (times_within s n) (master id at (nodes_of (cut_among s kids))) ∷ [] else []) else n ∷ []) read.id
    ∙ ap (λ ks. if taken then set_each (times_within s n) (master id at (nodes_of (cut_among s ks))) ∷ [] else []) (sym (nodes-list kids))

pub cut-taken : (s : Stretch) (n : Node) (next : Option ℕ) → IsRead CHAPTER_ATOM n → takes s (start_of n) (end_of n next) ≡ true → cut_at s n next ≡ set_each (times_within s n) (cut_inside s n) ∷ []
cut-taken s n next read is = cut-own s n next read ∙ ap (λ (b : Bool). if b then set_each (times_within s n) (cut_inside s n) ∷ [] else []) is

pub cut-left : (s : Stretch) (n : Node) (next : Option ℕ) → IsRead CHAPTER_ATOM n → takes s (start_of n) (end_of n next) ≡ false → cut_at s n next ≡ []
cut-left s n next read is = cut-own s n next read ∙ ap (λ (b : Bool). if b then set_each (times_within s n) (cut_inside s n) ∷ [] else []) is

-- ---- elements in sequence

-- The elements from index `m` on are the rest.
pub from-rest : (m : ℕ) (xs : List Node) → take (length xs - m) (drop m xs) ≡ drop m xs
from-rest m xs = take_all (length xs - m) (drop m xs) (omega (arith, length-drop m xs))

-- The elements that were built and the rest, cut to the period, make the whole.
pub record IsCutTo (own at i : ℕ) (s : Stretch) (xs : List Node) (t : Node) : Type 0 where
  pub built : IsBuilt own at (depth_all (nodes_of xs)) (children t) t
  pub rest : children t ++ cut_among s (nodes_of (drop i xs)) ≡ cut_among s (nodes_of xs)

pub built-children : (own at deep : ℕ) (ns : List Node) (t : Node) → IsBuilt own at deep ns t → children t ≡ ns
built-children own at deep ns t built = ap children built.is ∙ list-nodes ns

-- Nothing is built at first.
pub cut-none_yet : (own own' at at' : ℕ) (s : Stretch) (xs : List Node) (t : Node) → own ≡ own' → at ≡ at' → ((d : ℕ) → IsBuilt own at d [] t) → IsCutTo own' at' 0 s xs t
cut-none_yet own own' at at' s xs t own_is at_is empty =
    let d : ℕ = depth_all (nodes_of xs) in
    let none : children t ≡ [] = built-children own at d [] t (empty d) in
    let P : List Node → Type 0 = λ ns. IsBuilt own' at' d ns t in
    record {
      built = subst P (sym none) (subst (λ p. IsBuilt p at' d [] t) own_is (subst (λ p. IsBuilt own p d [] t) at_is (empty d)));
      rest = ap (λ l. l ++ cut_among s (nodes_of xs)) none;
    }

cut-next : (s : Stretch) (xs : List Node) (i : ℕ) (x : Node) → i < length xs → x ≡ get_or xs i x
    → cut_among s (nodes_of (drop i xs)) ≡ cut_at s x (next_start (drop (i + 1) xs)) ++ cut_among s (nodes_of (drop (i + 1) xs))
cut-next s xs i x inside is =
    ap (λ l. cut_among s (nodes_of l)) (next-is i xs x inside is)
    ∙ ap (λ l. cut_at s x (next_start l) ++ cut_among s (nodes_of (drop (i + 1) xs))) (list-nodes (drop (i + 1) xs))

-- An element is added or left out.
module _ (own at i : ℕ) (s : Stretch) (xs : List Node) (x old : Node) (next : Option ℕ) (o : Option Node) (inside : i < length xs) (is : x ≡ get_or xs i x) (here : next ≡ next_start (drop (i + 1) xs))
    (so_far : IsCutTo own at i s xs old) (exact : option_to_list o ≡ cut_at s x next) where
  after : List Node
  after = cut_among s (nodes_of (drop (i + 1) xs))

  grown : (ms : List Node) → option_to_list o ≡ ms → (children old ++ ms) ++ after ≡ cut_among s (nodes_of xs)
  unfolding after
  grown ms one =
      append_assoc (children old) ms after
      ∙ ap (λ l. children old ++ (l ++ after)) (sym one ∙ exact ∙ ap (cut_at s x) here)
      ∙ ap (λ l. children old ++ l) (sym (cut-next s xs i x inside is)) ∙ so_far.rest

  pub cut-more : (m new final : Node) → o ≡ Some m → IsInPlace own x m → IsPut old m new → final ≡ new → IsCutTo own at (i + 1) s xs final
  unfolding after
  cut-more m new final some place put last =
      let low = deep-get xs i x inside is in
      let shallow = place.shallow in
      let d : ℕ = depth_all (nodes_of xs) in
      let built : IsBuilt own at d (children old ++ m ∷ []) new = built-push own at d (children old) old m new so_far.built put place.stands (omega arith) in
      let kids = built-children own at d (children old ++ m ∷ []) new built in
      let P : List Node → Type 0 = λ ns. IsBuilt own at d ns new in
      let Q : Node → Type 0 = IsCutTo own at (i + 1) s xs in
      subst Q (sym last) (record { built = subst P (sym kids) built; rest = ap (λ l. l ++ after) kids ∙ grown (m ∷ []) (ap option_to_list some) })

  pub cut-less : (final : Node) → o ≡ None → final ≡ old → IsCutTo own at (i + 1) s xs final
  unfolding after
  cut-less final lacks last =
      let Q : Node → Type 0 = IsCutTo own at (i + 1) s xs in
      subst Q (sym last) (record { built = so_far.built; rest = ap (λ l. l ++ after) (sym (append-nil (children old))) ∙ grown [] (ap option_to_list lacks) })

-- All elements are cut.
pub cut-done : (own i : ℕ) (s : Stretch) (n t : Node) (xs : List Node) → IsRead own n → xs ≡ children n → length xs ≤ i → IsCutTo own (offset_of n) i s xs t → t ≡ cut_inside s n
cut-done own i s n t xs read are past so_far =
    built-whole own (depth_all (nodes_of xs)) n t (children t) read so_far.built
    ∙ ap (with_children n) (sym (append-nil (children t)) ∙ ap (λ l. children t ++ cut_among s (nodes_of l)) (sym (drop_all i xs past)) ∙ so_far.rest ∙ ap (λ l. cut_among s (nodes_of l)) are)

-- ---- nothing without children

pub unless-none : (tree : Node) (ns : List Node) → (length ns == 0) ≡ true → unless_empty tree ns ≡ None
unless-none tree [] is = refl
unless-none tree (n ∷ ns) is = absurd (let never = eqb-true (length (n ∷ ns)) 0 is in omega arith)

pub unless-some : (tree : Node) (ns : List Node) → (length ns == 0) ≡ false → unless_empty tree ns ≡ Some (with_children tree ns)
unless-some tree [] is = absurd (cc)
unless-some tree (n ∷ ns) is = refl
