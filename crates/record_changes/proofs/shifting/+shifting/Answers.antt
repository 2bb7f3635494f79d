-- An atom has later children, and a start.
use Rattle.std.proofs.Common.{◌≡◌, ℕ, ◌++◌, true, false, List, map, sym, ap, ap₂, subst, ◌∙◌, arith}
use Rattle.mkv_schema.specs.declared.ids.TheConstants.{CHAPTER_ATOM, CHAPTER_TIME_START}
use Rattle.tree_format.specs.Node.{Node, nodes_of, id_of, offset_of, depth_all}
use Rattle.tree_format.specs.Standing.{StandsIn}
use Rattle.tree_format.specs.Values.{integer_of}
use Rattle.tree_format.specs.Children.{uint_leaf}
use Rattle.ebml_tree.specs.Building.{IsBuilt}
use Rattle.ebml_tree.proofs.BuildLemmas.{IsPut, put-is, built-none, built-master, built-leaf, map-one, child-of, room-of, stands-read}
use Rattle.record_changes.specs.Shift.{later, is_time, has_start, missing_start, shifted_part}
use Rattle.record_changes.proofs.ChapterFacts.{atom-master, atom-in_atom, start}
use Rattle.record_changes.proofs.StandLemmas.{child-smaller, built-all, may-built, may-copy, may-here, leaf-here, ok-is}
use Rattle.record_changes.proofs.ShiftLemmas.{time-uint, time-short, part-time, part-same, part-built, start-there, start-added}
use Rattle.record_changes.proofs.shifting.+shifting.Goals as goal

-- ---- an atom

pub shifted_atom-empty-requires : goal.shifted_atom-empty-requires
shifted_atom-empty-requires t c = atom-master

pub shifted_atom-loop-part-init : goal.shifted_atom-loop-part-init
shifted_atom-loop-part-init t c = built-none _ _ _ _ _ c.offset.ensures c.in_ok-shifted.ensures

pub shifted_atom-shifted_part-requires : goal.shifted_atom-shifted_part-requires
shifted_atom-shifted_part-requires t c =
    let are = c.children-part-items.ensures.exact in
    let inside = c.loop-part-test.true in
    let item = c.part-item.is in
    let less = child-smaller _ _ _ _ are inside item in
    (omega arith, child-of _ _ _ _ _ c.requires are inside item)

pub shifted_atom-push-requires-clause-master : goal.shifted_atom-push-requires-clause-master
shifted_atom-push-requires-clause-master t c = built-master _ _ _ _ _ c.loop-part.invariant

pub shifted_atom-push-requires-clause-room : goal.shifted_atom-push-requires-clause-room
shifted_atom-push-requires-clause-room t c = room-of _ _ _ _ _ c.children-part-items.ensures.room c.loop-part-test.true c.part-item.is c.in_ok-shifted_part.ensures.place

pub shifted_atom-loop-part-preserved : goal.shifted_atom-loop-part-preserved
shifted_atom-loop-part-preserved t c =
    map-one _ _ _ _ _ _ c.loop-part-test.true c.part-item.is _ _ _ c.loop-part.invariant c.in_ok-shifted_part.ensures.exact c.in_ok-shifted_part.ensures.place (put-is _ _ _ _ c.in_ok-push.ensures.ok c.in_ok-push.ensures.full)

pub shifted_atom-returns-then-has_start : goal.shifted_atom-returns-then-has_start
shifted_atom-returns-then-has_start t c =
    let atom : Node = c.args.atom.now in
    let by : ℕ = c.args.by in
    let items : List Node = c.children-part-items.result.now in
    let are = c.children-part-items.ensures.exact in
    let has : has_start items ≡ true = ap has_start are ∙ sym c.has_start.ensures ∙ c.if-has_start.true in
    let built = built-all _ _ _ _ (map (shifted_part by)) _ _ c.loop-part-test.false c.loop-part.invariant in
    let P : List Node → Type 0 = λ l. IsBuilt CHAPTER_ATOM (offset_of atom) (depth_all (nodes_of items)) l c.loop-part.shifted in
    let whole = subst P (sym (start-there by items (map (shifted_part by) items) has)) built in
    record { exact = part-built by _ atom _ items c.requires are whole; place = may-built CHAPTER_ATOM atom _ items _ c.requires are whole }

-- The start of an atom is added.
with-start : (by : ℕ) (atom : Node) (items : List Node) (old child new : Node) → IsBuilt CHAPTER_ATOM (offset_of atom) (depth_all (nodes_of items)) (map (shifted_part by) items) old
    → IsPut old child new → child ≡ uint_leaf CHAPTER_TIME_START by → StandsIn CHAPTER_ATOM child → has_start items ≡ false
    → IsBuilt CHAPTER_ATOM (offset_of atom) (depth_all (nodes_of items)) (map (shifted_part by) items ++ missing_start by items) new
with-start by atom items old child new built put is stands lacks =
    let P : List Node → Type 0 = λ l. IsBuilt CHAPTER_ATOM (offset_of atom) (depth_all (nodes_of items)) l new in
    subst P (sym (start-added by items (map (shifted_part by) items) lacks)) (built-leaf _ _ _ CHAPTER_TIME_START _ _ old child new built put is stands)

pub shifted_atom-uint_leaf-requires : goal.shifted_atom-uint_leaf-requires
shifted_atom-uint_leaf-requires t c = start.valid

pub shifted_atom-push-requires-2-clause-master : goal.shifted_atom-push-requires-2-clause-master
shifted_atom-push-requires-2-clause-master t c = built-master _ _ _ _ _ c.loop-part.invariant

pub shifted_atom-returns : goal.shifted_atom-returns
shifted_atom-returns t c =
    let atom : Node = c.args.atom.now in
    let by : ℕ = c.args.by in
    let items : List Node = c.children-part-items.result.now in
    let are = c.children-part-items.ensures.exact in
    let lacks : has_start items ≡ false = ap has_start are ∙ sym c.has_start.ensures ∙ c.if-has_start.false in
    let built = built-all _ _ _ _ (map (shifted_part by)) _ _ c.loop-part-test.false c.loop-part.invariant in
    let whole = with-start by atom items _ _ _ built (put-is _ _ _ _ c.in_ok-push-2.ensures.ok c.in_ok-push-2.ensures.full) c.in_ok-uint_leaf.ensures.exact (c.in_ok-uint_leaf.ensures.stands CHAPTER_ATOM start) lacks in
    record { exact = part-built by _ atom _ items c.requires are whole; place = may-built CHAPTER_ATOM atom _ items _ c.requires are whole }

-- ---- a child of an atom

pub shifted_part-shifted_atom-requires : goal.shifted_part-shifted_atom-requires
shifted_part-shifted_atom-requires t c = (omega arith, stands-read _ _ _ atom-in_atom c.requires (sym c.id-id.ensures ∙ c.if-id-eq-CHAPTER_ATOM.true))

pub shifted_part-returns-then-id-eq-CHAPTER_ATOM : goal.shifted_part-returns-then-id-eq-CHAPTER_ATOM
shifted_part-returns-then-id-eq-CHAPTER_ATOM t c =
    record { exact = c.shifted_atom.ensures.exact; place = may-here c.shifted_atom.result CHAPTER_ATOM c.args.part.now c.requires c.shifted_atom.ensures.place }

pub shifted_part-uint-requires : goal.shifted_part-uint-requires
shifted_part-uint-requires t c = time-short _ c.requires (ap is_time (sym c.id-id.ensures) ∙ sym c.is_time.ensures ∙ c.if-is_time.true)

pub shifted_part-uint_leaf-requires : goal.shifted_part-uint_leaf-requires
shifted_part-uint_leaf-requires t c = (time-uint _ (sym c.is_time.ensures ∙ c.if-is_time.true)).valid

pub shifted_part-returns-then-is_time : goal.shifted_part-returns-then-is_time
shifted_part-returns-then-is_time t c =
    let part : Node = c.args.part.now in
    let by : ℕ = c.args.by in
    let id : ℕ = c.id-id.result in
    let time : is_time id ≡ true = sym c.is_time.ensures ∙ c.if-is_time.true in
    let value : c.saturating_add.result ≡ later by (integer_of part) = c.saturating_add.ensures ∙ ap (later by) c.uint.ensures in
    let same : uint_leaf id c.saturating_add.result ≡ shifted_part by part =
    ap₂ uint_leaf c.id-id.ensures value ∙ part-time by part (λ own. c.if-id-eq-CHAPTER_ATOM.false (c.id-id.ensures ∙ own)) (ap is_time (sym c.id-id.ensures) ∙ time) in
    record {
      exact = ok-is c.uint_leaf.result (uint_leaf id c.saturating_add.result) (shifted_part by part) same c.uint_leaf.ensures.exact;
      place = leaf-here c.uint_leaf.result CHAPTER_ATOM id c.saturating_add.result part c.uint_leaf.ensures.exact (c.uint_leaf.ensures.stands CHAPTER_ATOM (time-uint id time));
    }

pub shifted_part-returns : goal.shifted_part-returns
shifted_part-returns t c =
    let part : Node = c.args.part.now in
    let plain : is_time (id_of part) ≡ false = ap is_time (sym c.id-id.ensures) ∙ sym c.is_time.ensures ∙ c.if-is_time.false in
    record {
      exact = ok-is c.copy.result part (shifted_part c.args.by part) (part-same c.args.by part (λ own. c.if-id-eq-CHAPTER_ATOM.false (c.id-id.ensures ∙ own)) plain) c.copy.ensures;
      place = may-here c.copy.result CHAPTER_ATOM part c.requires (may-copy c.copy.result part c.copy.ensures);
    }
