-- Later times.
use Rattle.std.proofs.Common.{◌≡◌, ◌≤◌, ℕ, ◌==◌, Bool, true, false, if◌then◌else◌, ◌||◌, List, [], ◌∷◌, ◌++◌, length, map, refl, sym, ap, subst, ◌∙◌, arith, append-nil, eqb-true}
use Rattle.std.proofs.lemmas.Bool.Decides.{nat_tests}
use Rattle.mkv_schema.specs.declared.ids.TheConstants.{CHAPTER_ATOM, CHAPTER_TIME_START, CHAPTER_TIME_END}
use Rattle.mkv_schema.specs.declared.kind.ElementKind.TheVariants.{Uint}
use Rattle.mkv_schema.specs.Value.{is_value}
use Rattle.tree_format.specs.Node.{Node, leaf, master, nodes_of, list_of, id_of, offset_of, body_of, children, with_children}
use Rattle.tree_format.specs.Standing.{StandsIn}
use Rattle.tree_format.specs.Values.{integer_of}
use Rattle.tree_format.proofs.ChildLemmas.{stands-value}
use Rattle.tree_format.proofs.NodeLemmas.{nodes-list}
use Rattle.tree_format.specs.Children.{uint_leaf}
use Rattle.ebml_tree.specs.Building.{IsBuilt, IsRead}
use Rattle.ebml_tree.specs.Leaves.{IsUintIn}
use Rattle.record_changes.specs.Shift.{later, is_time, later_time, has_start, missing_start, shifted_part, shifted_parts}
use Rattle.record_changes.proofs.StandLemmas.{other-id, built-whole}
use Rattle.record_changes.proofs.ChapterFacts.{start, end}

-- ---- times

-- A start and an end are integers of the table.
pub time-uint : (id : ℕ) → is_time id ≡ true → IsUintIn CHAPTER_ATOM id
time-uint id is = of (id == CHAPTER_TIME_START) (id == CHAPTER_TIME_END) refl refl is
  where
    at : (own : ℕ) → (id == own) ≡ true → IsUintIn CHAPTER_ATOM own → IsUintIn CHAPTER_ATOM id
    at own same has = subst (IsUintIn CHAPTER_ATOM) (sym (eqb-true id own same)) has

    of : (a b : Bool) → (id == CHAPTER_TIME_START) ≡ a → (id == CHAPTER_TIME_END) ≡ b → a || b ≡ true → IsUintIn CHAPTER_ATOM id
    of true b a_is b_is one = at CHAPTER_TIME_START a_is start
    of false true a_is b_is one = at CHAPTER_TIME_END b_is end
    of false false a_is b_is one = absurd (cc)

-- A time has at most eight bytes.
pub time-short : (n : Node) → StandsIn CHAPTER_ATOM n → is_time (id_of n) ≡ true → length (body_of n) ≤ 8
time-short n stands is =
    let has = time-uint (id_of n) is in
    let value : is_value Uint (body_of n) ≡ true = stands-value CHAPTER_ATOM Uint n stands has.known.stands has.known.kind in
    grind (arith, nat_tests)

-- ---- a child of an atom

part-plain : (by : ℕ) (n : Node) → (id_of n ≡ CHAPTER_ATOM → ⊥) → shifted_part by n ≡ later_time by n
part-plain by (leaf id at body) other = refl
part-plain by (master id at kids) other =
    ap (λ (b : Bool). if b then master id at (nodes_of (shifted_parts by kids ++ missing_start by (list_of kids))) else later_time by (master id at kids)) (other-id id CHAPTER_ATOM other)

pub part-time : (by : ℕ) (n : Node) → (id_of n ≡ CHAPTER_ATOM → ⊥) → is_time (id_of n) ≡ true → uint_leaf (id_of n) (later by (integer_of n)) ≡ shifted_part by n
part-time by n other is = sym (part-plain by n other ∙ ap (λ (b : Bool). if b then uint_leaf (id_of n) (later by (integer_of n)) else n) is)

pub part-same : (by : ℕ) (n : Node) → (id_of n ≡ CHAPTER_ATOM → ⊥) → is_time (id_of n) ≡ false → n ≡ shifted_part by n
part-same by n other is = sym (part-plain by n other ∙ ap (λ (b : Bool). if b then uint_leaf (id_of n) (later by (integer_of n)) else n) is)

parts-map : (by : ℕ) (ns : List Node) → shifted_parts by (nodes_of ns) ≡ map (shifted_part by) ns
parts-map by [] = refl
parts-map by (n ∷ ns) = ap (λ l. shifted_part by n ∷ l) (parts-map by ns)

-- An atom has later children, and a start.
pub part-own : (by : ℕ) (n : Node) → IsRead CHAPTER_ATOM n → shifted_part by n ≡ with_children n (map (shifted_part by) (children n) ++ missing_start by (children n))
part-own by (leaf id at body) read = let never = read.master in absurd (cc)
part-own by (master id at kids) read =
    ap (λ i. if i == CHAPTER_ATOM then master id at (nodes_of (shifted_parts by kids ++ missing_start by (list_of kids))) else later_time by (master id at kids)) read.id
    ∙ ap (λ ks. master id at (nodes_of (shifted_parts by ks ++ missing_start by (list_of kids)))) (sym (nodes-list kids))
    ∙ ap (λ l. master id at (nodes_of (l ++ missing_start by (list_of kids)))) (parts-map by (list_of kids))

pub part-built : (by deep : ℕ) (n t : Node) (items : List Node) → IsRead CHAPTER_ATOM n → items ≡ children n → IsBuilt CHAPTER_ATOM (offset_of n) deep (map (shifted_part by) items ++ missing_start by items) t → t ≡ shifted_part by n
part-built by deep n t items read are built =
    built-whole CHAPTER_ATOM deep n t (map (shifted_part by) items ++ missing_start by items) read built
    ∙ ap (λ l. with_children n (map (shifted_part by) l ++ missing_start by l)) are ∙ sym (part-own by n read)

-- ---- start

pub start-there : (by : ℕ) (ns ms : List Node) → has_start ns ≡ true → ms ++ missing_start by ns ≡ ms
start-there by ns ms is = ap (λ (b : Bool). ms ++ (if b then [] else uint_leaf CHAPTER_TIME_START by ∷ [])) is ∙ append-nil ms

pub start-added : (by : ℕ) (ns ms : List Node) → has_start ns ≡ false → ms ++ missing_start by ns ≡ ms ++ uint_leaf CHAPTER_TIME_START by ∷ []
start-added by ns ms is = ap (λ (b : Bool). ms ++ (if b then [] else uint_leaf CHAPTER_TIME_START by ∷ [])) is
