-- The Info of an output as it is written and read back, with a Duration or with a Void in its place.
use Rattle.std.proofs.Common.{◌≡◌, inl, ℕ, zero, suc, pos, ◌+◌, ◌-◌, ◌<◌, ◌≤◌, ◌==◌, Bool, true, false, not, cond, ◌||◌, List, [], ◌∷◌, ◌++◌, length, flat_map, take, drop, append_assoc, length-append, Option, Some, None, Result, Ok, refl, sym, ap, ap₂, ◌∙◌, subst, arith}
use Rattle.std.specs.Float.{binary64}
use Rattle.std.specs.Float.Ieee.{of_int, to_bits}
use Rattle.std.proofs.lemmas.Bool.Decides.{nat_tests}
use Rattle.std.proofs.lemmas.List.{take-append-drop}
use Rattle.std.proofs.lemmas.List.Concat.{flat_map-append}
use Rattle.byteorder.specs.Numbers.{length-bytes_high_first}
use Rattle.ebml_numbers.specs.Number.{is_id, least_size_width, uint_width}
use Rattle.mkv_schema.specs.Table.{table}
use Rattle.mkv_schema.specs.Schema.{entry_of}
use Rattle.mkv_schema.specs.declared.ids.TheConstants.{VOID, INFO, DURATION, TIMESTAMP_SCALE, SEGMENT_UUID, PREV_UUID, NEXT_UUID}
use Rattle.mkv_schema.specs.declared.element.Header.{Header}
use Rattle.mkv_schema.specs.Value.{first_of}
use Rattle.mkv_io.specs.declared.damage.Damage.{Damage}
use Rattle.mkv_io.specs.Results.{and_then}
use Rattle.tree_format.specs.Node.{Node, Nodes, leaf, master, nodes_of, list_of, id_of, IsMaster, children, depth_all, deepest}
use Rattle.tree_format.specs.NormalForm.{is_filler, header_octets, element_octets, kept_octets, octets, octets_all, content, longest}
use Rattle.tree_format.specs.Reading.{Grove, is_master_in, grown, with_first, grove, as_root, tree_of}
use Rattle.tree_format.specs.Order.{tree_without_limits}
use Rattle.tree_format.specs.Standing.{IsLeafIn, StandsIn, AllStandIn, IsSound, KeepsLimits, kept_all, placed_all, placed_in}
use Rattle.tree_format.proofs.NodeLemmas.{list-nodes, nodes-list, octets_all-flat, depth_all-append}
use Rattle.tree_format.proofs.AgainLemmas.{header_of, grove-again, grove-octets}
use Rattle.tree_format.proofs.OrderLemmas.{tree_of-without_limits}
use Rattle.tree_format.proofs.PlacedLemmas.{octets_all-placed, octets-placed_in}
use Rattle.file_format.specs.Info.{scale_of, info_without_limits}
use Rattle.output_model.specs.Element.{element, octets_of, void_element}
use Rattle.output_model.specs.declared.TheConstants.{DURATION_LEN}
use Rattle.output_model.specs.Duration.{float_octets}
use Rattle.output_model.specs.Document.{tree_element, is_before_duration, duration_place, info_with, info_element, info_told}
use Rattle.output_model.specs.Sound.{IsRecord}
use Rattle.output_laws.specs.Reading.{FirstIs, placed_list, around_void, InfoIs}
use Rattle.output_laws.proofs.ScaleLemmas.{integer_among, default_scale, scale_among, placed-integer, integer-inserted, scale-placed}

-- ---- its ID

pub told-id : (info : Node) (lasting : Option ℕ) → id_of (info_told info lasting) ≡ id_of info
told-id info None = refl
told-id (leaf id at body) (Some end) = refl
told-id (master id at kids) (Some end) = refl

pub told-master : (info : Node) (lasting : Option ℕ) → IsMaster (info_told info lasting) → IsMaster info
told-master info None is = is
told-master (leaf id at body) (Some end) is = is
told-master (master id at kids) (Some end) is = refl

-- At the end 0 it has no Duration.
pub told-void : (info : Node) → info_told info (Some zero) ≡ info
told-void (leaf id at body) = refl
told-void (master id at kids) = ap (master id at) (nodes-list kids)

-- ---- lengths

-- the body of the Void in the place of a Duration
abbrev void_body : List ℕ
void_body = (void_element DURATION_LEN).body

void-octets : octets_of (void_element DURATION_LEN) ≡ element_octets VOID void_body
unfolding least_size_width
void-octets = refl

void-len : length (element_octets VOID void_body) ≡ DURATION_LEN
unfolding least_size_width uint_width
void-len = refl

float-len : (n : ℕ) → length (float_octets n) ≡ 8
float-len n = length-bytes_high_first 8 (to_bits binary64 (of_int binary64 (pos n)))

float-written : (body : List ℕ) → length body ≡ 8 → length (element_octets DURATION body) ≡ DURATION_LEN
unfolding least_size_width uint_width
float-written body eight = length-append (header_octets DURATION (length body)) body ∙ ap (λ n. length (header_octets DURATION n) + n) eight

-- ---- a Duration

-- The bytes of children `ns`, and of another child after the first `k`.
octets-between : (k : ℕ) (n : Node) (ns : List Node) → octets_all (nodes_of (take k ns ++ n ∷ drop k ns)) ≡ flat_map octets (take k ns) ++ (octets n ++ flat_map octets (drop k ns))
octets-between k n ns = octets_all-flat (take k ns ++ n ∷ drop k ns) ∙ flat_map-append octets (take k ns) (n ∷ drop k ns)

-- An Info with a Duration is written as its tree.
pub told-element : (info : Node) (n : ℕ) → IsMaster (info_told info (Some (suc n))) → tree_element (info_told info (Some (suc n))) ≡ info_element info (Some (suc n))
told-element (leaf id at body) n is = absurd (cc)
told-element (master id at kids) n is = ap (element id) (octets-between (duration_place (list_of kids)) (leaf DURATION 0 (float_octets (suc n))) (list_of kids))

duration-stands : (body : List ℕ) → length body ≡ 8 → IsLeafIn INFO DURATION body
unfolding entry_of table is_id
duration-stands body eight = record { id_stands = refl; no_master = refl; value = ap (λ n. n == 0 || n == 4 || n == 8) eight }

between-stands : (k : ℕ) (n : Node) (ns : List Node) → StandsIn INFO n → AllStandIn INFO (nodes_of ns) → AllStandIn INFO (nodes_of (take k ns ++ n ∷ drop k ns))
between-stands zero n ns one all = (one, all)
between-stands (suc k) n [] one all = (one, all)
between-stands (suc k) n (m ∷ ns) one all = (all.0, between-stands k n ns one all.1)

-- An Info that can be written can be written with a Duration, too, if its size leaves room for that.
pub told-record : (info : Node) (lasting : Option ℕ) → IsRecord INFO info → length (content info) + DURATION_LEN ≤ longest → IsRecord INFO (info_told info lasting)
told-record info None is short = is
told-record info (Some zero) is short = subst (IsRecord INFO) (sym (told-void info)) is
told-record (leaf id at body) (Some (suc n)) is short = is
told-record (master id at kids) (Some (suc n)) is short =
    let ns : List Node = list_of kids in
    let k : ℕ = duration_place ns in
    let body : List ℕ = float_octets (suc n) in
    let duration : Node = leaf DURATION 0 body in
    let list : nodes_of ns ≡ kids = nodes-list kids in
    let inside : AllStandIn INFO (nodes_of ns) = subst (λ (i : ℕ). AllStandIn i (nodes_of ns)) is.id (subst (AllStandIn id) (sym list) is.sound) in
    let stands : AllStandIn INFO (nodes_of (take k ns ++ duration ∷ drop k ns)) = between-stands k duration ns (duration-stands body (float-len (suc n))) inside in
    let len : length (octets_all (nodes_of (take k ns ++ duration ∷ drop k ns))) ≡ length (octets_all kids) + DURATION_LEN =
    ap length (octets-between k duration ns)
    ∙ omega (arith, length-append (flat_map octets (take k ns)) (octets duration ++ flat_map octets (drop k ns)), length-append (octets duration) (flat_map octets (drop k ns)), float-written body (float-len (suc n)), ap length (ap octets_all (sym list) ∙ octets_all-flat ns ∙ ap (flat_map octets) (sym (take-append-drop k ns)) ∙ flat_map-append octets (take k ns) (drop k ns)), length-append (flat_map octets (take k ns)) (flat_map octets (drop k ns))) in
    let depth : depth_all (nodes_of (take k ns ++ duration ∷ drop k ns)) ≡ depth_all kids =
    omega (arith, depth_all-append (take k ns) (duration ∷ drop k ns), depth_all-append (take k ns) (drop k ns), ap (λ l. depth_all (nodes_of l)) (take-append-drop k ns), ap depth_all list) in
    let long = is.limits.long in
    let deep = is.limits.deep in
    record { id = is.id; master = refl; sound = subst (λ (i : ℕ). AllStandIn i (nodes_of (take k ns ++ duration ∷ drop k ns))) (sym is.id) stands; limits = record { long = omega arith; deep = omega arith } }

-- ---- a Void

void-stands : IsLeafIn INFO VOID void_body
unfolding entry_of table is_id
void-stands = record { id_stands = refl; no_master = refl; value = refl }

-- A leaf of an Info is read, then the Elements after it.
leaf-first : (room left p id : ℕ) (body rest : List ℕ) → IsLeafIn INFO id body → 0 < left → length body ≤ longest
    → grove room left INFO p (element_octets id body ++ rest) ≡ and_then (grove room (left - 1) INFO (p + length (element_octets id body)) rest) (with_first (leaf id p body))
leaf-first room left p id body rest stands some small =
    let more : (left == 0) ≡ false = grind (arith, nat_tests) in
    grove-again room left INFO p id body rest (inl stands.id_stands) small
    ∙ ap (λ r. and_then r (λ g. and_then (grove room g.left INFO (p + length (element_octets id body)) rest) (with_first g.tree))) (is-grown more)
  where
    is-grown : (left == 0) ≡ false → grown grove room left INFO (header_of p id (length body)) body ≡ Ok (record { tree = leaf id p body; left = left - 1 })
    is-grown more = rw (more, stands.no_master, stands.value) refl

-- The ID isn't Void or CRC-32, and the table has no master with it in an Info.
abbrev IsPlainId : ℕ → Type 0
IsPlainId id = (is_filler id ≡ false) × (is_master_in INFO id ≡ false)

before-plain : (id : ℕ) → (id == TIMESTAMP_SCALE || id == SEGMENT_UUID || id == PREV_UUID || id == NEXT_UUID) ≡ true → IsPlainId id
unfolding entry_of table
before-plain id is = split (id == TIMESTAMP_SCALE) (id == SEGMENT_UUID) (id == PREV_UUID) (id == NEXT_UUID) refl refl refl refl is
  where
    of : (own : ℕ) → id ≡ own → IsPlainId own → IsPlainId id
    of own same plain = subst IsPlainId (sym same) plain

    split : (a b c d : Bool) → (id == TIMESTAMP_SCALE) ≡ a → (id == SEGMENT_UUID) ≡ b → (id == PREV_UUID) ≡ c → (id == NEXT_UUID) ≡ d → (a || b || c || d) ≡ true → IsPlainId id
    split true b c d one two three four is = of TIMESTAMP_SCALE (grind (arith, nat_tests)) (refl, refl)
    split false true c d one two three four is = of SEGMENT_UUID (grind (arith, nat_tests)) (refl, refl)
    split false false true d one two three four is = of PREV_UUID (grind (arith, nat_tests)) (refl, refl)
    split false false false true one two three four is = of NEXT_UUID (grind (arith, nat_tests)) (refl, refl)
    split false false false false one two three four is = absurd (cc)

-- the result of reading the children `ns` of an Info with a Void after the first `k`, of at most `left` nodes
abbrev around_read : ℕ → ℕ → ℕ → List Node → Result Grove Damage
around_read k left p ns = Ok (record { trees = around_void k p ns; left = left - (kept_all (nodes_of ns) + 1) })

-- the bytes of the children `ns` with a Void after the first `k`
abbrev around_octets : ℕ → List Node → List ℕ
around_octets k ns = flat_map octets (take k ns) ++ (octets_of (void_element DURATION_LEN) ++ flat_map octets (drop k ns))

-- A Void, and children after it.
void-first : (ns : List Node) (room left p : ℕ) → AllStandIn INFO (nodes_of ns) → depth_all (nodes_of ns) ≤ room → length (octets_all (nodes_of ns)) ≤ longest → kept_all (nodes_of ns) < left
    → grove room left INFO p (around_octets 0 ns) ≡ around_read 0 left p ns
void-first ns room left p stand low small enough =
    let q : ℕ = p + DURATION_LEN in
    let base : p ≡ p + 0 = omega arith in
    let fewer : left - 1 - kept_all (nodes_of ns) ≡ left - (kept_all (nodes_of ns) + 1) = omega arith in
    let read : ℕ → Result Grove Damage = λ k. Ok (record { trees = leaf VOID p void_body ∷ placed_list q ns; left = k }) in
    ap (λ o. grove room left INFO p (o ++ flat_map octets ns)) void-octets
    ∙ leaf-first room left p VOID void_body (flat_map octets ns) void-stands (omega arith) (omega arith)
    ∙ ap₂ (λ n o. and_then (grove room (left - 1) INFO (p + n) o) (with_first (leaf VOID p void_body))) void-len (sym (octets_all-flat ns))
    ∙ ap (λ r. and_then r (with_first (leaf VOID p void_body))) (grove-octets (nodes_of ns) room (left - 1) INFO q stand low small (omega arith))
    ∙ ap read fewer
    ∙ ap (λ (b : ℕ). let r : Result Grove Damage = Ok (record { trees = leaf VOID b void_body ∷ placed_list (b + DURATION_LEN) ns; left = left - (kept_all (nodes_of ns) + 1) }) in r) base

-- A leaf that is written, and children after it.
leaf-octets : (id : ℕ) (body : List ℕ) → is_filler id ≡ false → kept_octets id body ≡ element_octets id body
leaf-octets id body plain = rw plain refl

leaf-kept : (id at : ℕ) (body : List ℕ) (ns : List Node) → is_filler id ≡ false → kept_all (nodes_of (leaf id at body ∷ ns)) ≡ 1 + kept_all (nodes_of ns)
leaf-kept id at body ns plain = rw plain refl

leaf-placed : (id at p : ℕ) (body : List ℕ) (ns : List Node) → is_filler id ≡ false → placed_list p (leaf id at body ∷ ns) ≡ leaf id p body ∷ placed_list (p + length (element_octets id body)) ns
leaf-placed id at p body ns plain = rw plain refl

leaf-around : (k id at p : ℕ) (body : List ℕ) (ns : List Node) → is_filler id ≡ false → around_void (suc k) p (leaf id at body ∷ ns) ≡ leaf id p body ∷ around_void k (p + length (element_octets id body)) ns
leaf-around k id at p body ns plain =
    let first : List ℕ = flat_map octets (take k ns) in
    let same : p + length (kept_octets id body ++ first) ≡ p + length (element_octets id body) + length first =
    ap (λ (o : List ℕ). p + length (o ++ first)) (leaf-octets id body plain) ∙ omega (arith, length-append (element_octets id body) first) in
    ap₂ (λ l q. l ++ leaf VOID q void_body ∷ placed_list (q + DURATION_LEN) (drop k ns)) (leaf-placed id at p body (take k ns) plain) same

-- The children `ns` with a Void after the first `k` are read, at any place, if there may be enough nodes.
AroundIsRead : ℕ → ℕ → List Node → Type 0
AroundIsRead room k ns =
    (left p : ℕ) → length (octets_all (nodes_of ns)) ≤ longest → kept_all (nodes_of ns) < left → grove room left INFO p (around_octets k ns) ≡ around_read k left p ns

leaf-step : (room k id at : ℕ) (body : List ℕ) (ns : List Node) → is_filler id ≡ false → IsLeafIn INFO id body → AroundIsRead room k ns → AroundIsRead room (suc k) (leaf id at body ∷ ns)
unfolding AroundIsRead
leaf-step room k id at body ns plain stands rest = λ left p small enough.
    let own : List ℕ = element_octets id body in
    let q : ℕ = p + length own in
    let written = leaf-octets id body plain in
    let kept = leaf-kept id at body ns plain in
    let len : length (kept_octets id body ++ octets_all (nodes_of ns)) ≡ length own + length (octets_all (nodes_of ns)) =
    ap (λ (o : List ℕ). length (o ++ octets_all (nodes_of ns))) written ∙ length-append own (octets_all (nodes_of ns)) in
    let whole = length-append (header_octets id (length body)) body in
    let fewer : left - 1 - (kept_all (nodes_of ns) + 1) ≡ left - (kept_all (nodes_of (leaf id at body ∷ ns)) + 1) = omega arith in
    ap (grove room left INFO p) (append_assoc (kept_octets id body) (flat_map octets (take k ns)) _ ∙ ap (λ o. o ++ around_octets k ns) written)
    ∙ leaf-first room left p id body (around_octets k ns) stands (omega arith) (omega arith)
    ∙ ap (λ r. and_then r (with_first (leaf id p body))) (rest (left - 1) q (omega arith) (omega arith))
    ∙ ap₂ (λ (l : List Node) (n : ℕ). let r : Result Grove Damage = Ok (record { trees = l; left = n }) in r) (sym (leaf-around k id at p body ns plain)) fewer

-- A Void at the place of a Duration is read with the children before it and after it.
around-all : (ns : List Node) (room : ℕ) → AllStandIn INFO (nodes_of ns) → depth_all (nodes_of ns) ≤ room → AroundIsRead room (duration_place ns) ns
unfolding AroundIsRead
around-all [] room stand low = λ left p small enough. void-first [] room left p stand low small enough
around-all (n ∷ ns) room stand low = split (around-all ns room stand.1 (omega arith)) (is_before_duration n) refl
  where
    before : (m : Node) → AroundIsRead room (duration_place ns) ns → StandsIn INFO m → is_before_duration m ≡ true → AroundIsRead room (suc (duration_place ns)) (m ∷ ns)
    before (leaf id at body) rest stands is = leaf-step room (duration_place ns) id at body ns (before-plain id is).0 stands rest
    before (master id at kids) rest stands is = let none : is_master_in INFO id ≡ false = (before-plain id is).1 in let some = stands.0 in absurd (cc)

    split : AroundIsRead room (duration_place ns) ns → (t : Bool) → is_before_duration n ≡ t → AroundIsRead room (duration_place (n ∷ ns)) (n ∷ ns)
    split rest true is =
        let place : suc (duration_place ns) ≡ duration_place (n ∷ ns) = omega (arith, ap (λ t. cond (not (not t)) (1 + duration_place ns) 0) is) in
        subst (λ (k : ℕ). AroundIsRead room k (n ∷ ns)) place (before n rest stand.0 is)
    split rest false is =
        let place : 0 ≡ duration_place (n ∷ ns) = sym (ap (λ t. cond (not (not t)) (1 + duration_place ns) 0) is) in
        subst (λ (k : ℕ). AroundIsRead room k (n ∷ ns)) place (λ left p small enough. void-first (n ∷ ns) room left p stand low small enough)

-- An Info with a Void in the place of a Duration is read back.
pub void-again : (info : Node) (offset base : ℕ) → id_of info ≡ INFO → IsMaster info → IsSound info → KeepsLimits info
    → tree_without_limits (id_of info) offset (info_with info (octets_of (void_element DURATION_LEN))) base ≡ Ok (master (id_of info) offset (nodes_of (around_void (duration_place (children info)) base (children info))))
unfolding AroundIsRead
void-again (leaf id at body) offset base own is sound within = absurd (cc)
void-again (master id at kids) offset base own is sound within =
    let ns : List Node = list_of kids in
    let list : nodes_of ns ≡ kids = nodes-list kids in
    let k : ℕ = duration_place ns in
    let nodes : ℕ = kept_all kids + 2 in
    let long = within.long in
    let deep = within.deep in
    let stand : AllStandIn INFO (nodes_of ns) = subst (λ (i : ℕ). AllStandIn i (nodes_of ns)) own (subst (AllStandIn id) (sym list) sound) in
    let count = ap kept_all list in
    let depth = ap depth_all list in
    let size = ap (λ (o : Nodes). length (octets_all o)) list in
    let some : (nodes == 0) ≡ false = grind (arith, nat_tests) in
    let read : grove (deepest - 1) (nodes - 1) INFO base (around_octets k ns) ≡ around_read k (nodes - 1) base ns = around-all ns (deepest - 1) stand (omega arith) (nodes - 1) base (omega arith) (omega arith) in
    let again : tree_of id offset (around_octets k ns) base nodes ≡ Ok (master id offset (nodes_of (around_void k base ns))) =
    rw some (ap (λ i. and_then (grove (deepest - 1) (nodes - 1) i base (around_octets k ns)) (as_root id offset)) own ∙ ap (λ r. and_then r (as_root id offset)) read) in
    tree_of-without_limits id offset (around_octets k ns) base nodes _ again

-- ---- what a reader needs of an Info with a Void

-- The Void isn't written again.
pub around-octets : (k p : ℕ) (ns : List Node) → octets_all (nodes_of (around_void k p ns)) ≡ octets_all (nodes_of ns)
around-octets k p ns =
    let first : List Node = take k ns in
    let rest : List Node = drop k ns in
    let q : ℕ = p + length (flat_map octets first) in
    octets_all-flat (around_void k p ns)
    ∙ flat_map-append octets (placed_list p first) (leaf VOID q void_body ∷ placed_list (q + DURATION_LEN) rest)
    ∙ ap₂ (λ a b. a ++ b) (again first p) (again rest (q + DURATION_LEN))
    ∙ sym (flat_map-append octets first rest) ∙ ap (flat_map octets) (take-append-drop k ns) ∙ sym (octets_all-flat ns)
  where
    again : (ms : List Node) (b : ℕ) → flat_map octets (placed_list b ms) ≡ flat_map octets ms
    again ms b =
        sym (octets_all-flat (placed_list b ms)) ∙ ap octets_all (nodes-list (placed_all b (nodes_of ms))) ∙ octets_all-placed (nodes_of ms) b ∙ octets_all-flat ms

-- A Duration doesn't change the scale, and neither does a Void.
pub told-scale : (info : Node) (lasting : Option ℕ) → scale_of (info_told info lasting) ≡ scale_of info
told-scale info None = refl
told-scale (leaf id at body) (Some end) = refl
told-scale (master id at kids) (Some zero) = ap scale_of (told-void (master id at kids))
told-scale (master id at kids) (Some (suc n)) =
    let k : ℕ = duration_place (list_of kids) in
    let duration : Node = leaf DURATION 0 (float_octets (suc n)) in
    ap scale_among (list-nodes (take k (list_of kids) ++ duration ∷ drop k (list_of kids)))
    ∙ ap default_scale (integer-inserted TIMESTAMP_SCALE duration k (take k (list_of kids)) (drop k (list_of kids)) (list_of kids) refl refl refl)

around-scale : (id offset p : ℕ) (k : ℕ) (ns : List Node) → scale_of (master id offset (nodes_of (around_void k p ns))) ≡ scale_among ns
around-scale id offset p k ns =
    let q : ℕ = p + length (flat_map octets (take k ns)) in
    ap scale_among (list-nodes (around_void k p ns))
    ∙ ap default_scale (integer-inserted TIMESTAMP_SCALE (leaf VOID q void_body) k (placed_list p (take k ns)) (placed_list (q + DURATION_LEN) (drop k ns)) ns (again (take k ns) p) (again (drop k ns) (q + DURATION_LEN)) refl)
  where
    again : (ms : List Node) (b : ℕ) → integer_among TIMESTAMP_SCALE (placed_list b ms) ≡ integer_among TIMESTAMP_SCALE ms
    again ms b = placed-integer TIMESTAMP_SCALE (nodes_of ms) b refl ∙ ap (integer_among TIMESTAMP_SCALE) (list-nodes ms)

-- The first Info of a content is read as a tree with the scale of `info`. The tree is written as `info` with its Duration.
pub record FindsInfo (bytes : List ℕ) (list : List Header) (info : Node) (lasting : Option ℕ) : Type 0 where
  pub header : Header
  pub first : first_of INFO list ≡ Some header
  pub tree : Node
  pub read : info_without_limits bytes header ≡ Ok tree
  pub same : octets tree ≡ octets (info_told info lasting)
  pub scale : scale_of tree ≡ scale_of info

record-found : (bytes : List ℕ) (list : List Header) (info : Node) (lasting : Option ℕ) → FirstIs bytes list INFO (Some (info_told info lasting)) → FindsInfo bytes list info lasting
record-found bytes list info lasting is =
    let h : Header = is.0 in
    let told : Node = info_told info lasting in
    record {
      header = h;
      first = is.1;
      tree = placed_in h.offset h.body told;
      read = is.2.read;
      same = octets-placed_in h.offset h.body told;
      scale = scale-placed h.offset h.body told ∙ told-scale info lasting;
    }

pub info-found : (bytes : List ℕ) (list : List Header) (info : Node) (lasting : Option ℕ) → IsMaster info → InfoIs bytes list info lasting → FindsInfo bytes list info lasting
info-found bytes list info None is_master is = record-found bytes list info None is
info-found bytes list (leaf id at body) (Some zero) is_master is = absurd (cc)
info-found bytes list (master id at kids) (Some zero) is_master is =
    let h : Header = is.0 in
    let k : ℕ = duration_place (list_of kids) in
    record {
      header = h;
      first = is.1;
      tree = master h.id h.offset (nodes_of (around_void k h.body (list_of kids)));
      read = is.2.read;
      same = ap₂ kept_octets is.2.id (around-octets k h.body (list_of kids));
      scale = around-scale h.id h.offset h.body k (list_of kids);
    }
info-found bytes list info (Some (suc n)) is_master is = record-found bytes list info (Some (suc n)) is
