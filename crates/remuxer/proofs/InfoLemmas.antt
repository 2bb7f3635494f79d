-- An Info with identifiers, child by child.
use Rattle.std.proofs.Common.{◌≡◌, ◌<◌, ℕ, ◌+◌, List, [], ◌∷◌, ◌++◌, length, take, get_or, Result, Ok, Err, OnOk, refl, sym, ◌∙◌, ap, subst, append_assoc, append-nil, add-one, true, arith}
use Rattle.tree_format.specs.Node.{HasRoom, IsMaster, Node, children, deepest, depth_all, id_of, leaf, list_of, master, nodes_of, offset_of, with_children}
use Rattle.tree_format.proofs.NodeLemmas.{list-nodes, nodes-list}
use Rattle.ebml_tree.specs.Building.{IsBuilt}
use Rattle.ebml_tree.proofs.BuildLemmas.{deep-get}
use Rattle.std.proofs.Math.Seq.{take-suc}
use Rattle.mkv_schema.specs.Schema.{entry_of, is_master}
use Rattle.mkv_schema.specs.Table.{table}
use Rattle.mkv_schema.specs.declared.ids.TheConstants.{SEGMENT_UUID, PREV_UUID, NEXT_UUID}
use Rattle.tree_format.specs.Children.{given}
use Rattle.mkv_schema.specs.declared.ids.TheConstants.{INFO}
use Rattle.remux_plan.specs.Uuids.{behind_first, uuid_elements, uuid_leaf, with_uuids}
use Rattle.remux_plan.specs.declared.uuids.PartUuids.{PartUuids}
use Rattle.remuxer.specs.Info.{with_more}

-- Nothing is appended.
pub more-none : (n : Node) → with_more n [] ≡ n
more-none (leaf id at body) = refl
more-none (master id at kids) = ap (λ (ns : List Node). master id at (nodes_of ns)) (append-nil (list_of kids)) ∙ ap (master id at) (nodes-list kids)

-- Two lists are appended in sequence.
pub more-then : (n : Node) (xs ys : List Node) → with_more (with_more n xs) ys ≡ with_more n (xs ++ ys)
more-then (leaf id at body) xs ys = refl
more-then (master id at kids) xs ys =
    ap (λ (ns : List Node). master id at (nodes_of (ns ++ ys))) (list-nodes (list_of kids ++ xs)) ∙ ap (λ (ns : List Node). master id at (nodes_of ns)) (append_assoc (list_of kids) xs ys)

-- There is room for a copy of a child.
pub copy-room : (ns : List Node) (k : ℕ) (n copy : Node) → depth_all (nodes_of ns) < deepest → k < length ns → n ≡ get_or ns k n → copy ≡ n → HasRoom copy
copy-room ns k n copy low inside is same = let deep = deep-get ns k n inside is in subst HasRoom (sym same) (omega arith)

-- A consequence of a success.
pub on-ok-then : {T E : Type 0} (r : Result T E) (P Q : Type 0) → (P → Q) → OnOk r P → OnOk r Q
on-ok-then (Ok x) P Q step is = step is
on-ok-then (Err e) P Q step is = tt

-- An Info is a master.
pub info-master : is_master INFO ≡ true
unfolding entry_of table
info-master = refl

take-step : (xs : List Node) (i : ℕ) (x : Node) → i < length xs → x ≡ get_or xs i x → take (i + 1) xs ≡ take i xs ++ x ∷ []
take-step xs i x inside is = rw add-one (take-suc xs i x inside ∙ ap (λ (y : Node). take i xs ++ y ∷ []) (sym is))

-- The identifiers are appended in sequence.
pub uuids-added : (n one two three : Node) (u : PartUuids) → one ≡ with_more n (given (uuid_leaf SEGMENT_UUID) u.own) → two ≡ with_more one (given (uuid_leaf PREV_UUID) u.before) → three ≡ with_more two (given (uuid_leaf NEXT_UUID) u.next)
    → three ≡ with_more n (uuid_elements u)
uuids-added n one two three u first second third =
    let a = given (uuid_leaf SEGMENT_UUID) u.own in
    let b = given (uuid_leaf PREV_UUID) u.before in
    let c = given (uuid_leaf NEXT_UUID) u.next in
    third ∙ ap (λ (t : Node). with_more t c) (second ∙ ap (λ (t : Node). with_more t b) first ∙ more-then n a b) ∙ more-then n (a ++ b) c ∙ ap (with_more n) (append_assoc a b c)

-- One more child is copied.
pub more-step : (n old new : Node) (ns : List Node) (k : ℕ) (child copy : Node) → k < length ns → child ≡ get_or ns k child → copy ≡ child → old ≡ with_more n (take k ns) → new ≡ with_children old (children old ++ copy ∷ [])
    → new ≡ with_more n (take (k + 1) ns)
more-step n old new ns k child copy inside is same before put =
    put ∙ ap (λ (t : Node). with_more t (copy ∷ [])) before ∙ more-then n (take k ns) (copy ∷ []) ∙ ap (λ (c : Node). with_more n (take k ns ++ c ∷ [])) same ∙ ap (with_more n) (sym (take-step ns k child inside is))

-- ---- the whole Info

-- The children of an Info, with the identifiers after the first one, make the whole.
pub whole-info : (info made with_first with_own whole first copy : Node) (others : List Node) (u : PartUuids) → IsMaster info → id_of info ≡ INFO → IsBuilt INFO (offset_of info) 0 [] made → children info ≡ first ∷ others → copy ≡ first
    → with_first ≡ with_children made (children made ++ copy ∷ []) → with_own ≡ with_more with_first (uuid_elements u) → whole ≡ with_more with_own others → whole ≡ with_uuids u info
unfolding with_uuids
whole-info (leaf id at body) made with_first with_own whole first copy others u is own built are same one two three = absurd (cc)
whole-info (master id at kids) made with_first with_own whole first copy others u is own built are same one two three =
    three ∙ ap (λ (t : Node). with_more t others) (two ∙ ap (λ (t : Node). with_more t (uuid_elements u)) (one ∙ ap (λ (t : Node). with_more t (copy ∷ [])) built.is))
    ∙ ap (λ (t : Node). with_more t others) (more-then (master INFO at (nodes_of [])) (copy ∷ []) (uuid_elements u))
    ∙ more-then (master INFO at (nodes_of [])) (copy ∷ [] ++ uuid_elements u) others
    ∙ ap (λ (c : Node). master INFO at (nodes_of (c ∷ (uuid_elements u ++ others)))) same
    ∙ ap (λ (own_id : ℕ). master own_id at (nodes_of (first ∷ (uuid_elements u ++ others)))) (sym own)
    ∙ ap (λ (ns : List Node). master id at (nodes_of (behind_first (uuid_elements u) ns))) (sym are)

-- An Info without children gets no identifiers.
pub empty-info : (info made : Node) (u : PartUuids) → IsMaster info → id_of info ≡ INFO → IsBuilt INFO (offset_of info) 0 [] made → length (children info) ≡ 0 → made ≡ with_uuids u info
unfolding with_uuids
empty-info (leaf id at body) made u is own built none = absurd (cc)
empty-info (master id at kids) made u is own built none =
    built.is ∙ ap (λ (own_id : ℕ). master own_id at (nodes_of [])) (sym own)
    ∙ ap (λ (ns : List Node). master id at (nodes_of (behind_first (uuid_elements u) ns))) (sym (without (list_of kids) none))
  where
    without : (ns : List Node) → length ns ≡ 0 → ns ≡ []
    without [] is = refl
    without (n ∷ ns) is = absurd (omega arith)

-- An Info with identifiers is still an Info.
pub with-id : (u : PartUuids) (n : Node) → id_of (with_uuids u n) ≡ id_of n
unfolding with_uuids
with-id u (leaf id at body) = refl
with-id u (master id at kids) = refl

pub with-master : (u : PartUuids) (n : Node) → IsMaster n → IsMaster (with_uuids u n)
unfolding with_uuids
with-master u (leaf id at body) is = is
with-master u (master id at kids) is = refl
