-- The content of a file after edits, with or without a moved Element.
use Rattle.std.proofs.Common.{inl, inr, ◌≡◌, ◌⊎◌, ◌<◌, ◌≤◌, ℕ, ◌+◌, ◌^◌, ◌==◌, max, nat_lt, not, Bool, true, false, ◌||◌, if◌then◌else◌, List, [], ◌∷◌, ◌++◌, length, length-append, filter, flat_map, All, Option, Some, None, IfSome, Result, Ok, refl, sym, ◌∙◌, ap, ap₂, subst, arith}
use Rattle.std.specs.List.{list_any}
use Rattle.std.specs.Prelude.{filter_map, sum_by}
use Rattle.std.specs.Option.{is_some, option_map, option_map_or, unwrap_or}
use Rattle.std.proofs.lemmas.Bool.{cases_lt}
use Rattle.std.proofs.lemmas.Bool.Decides.{nat_tests}
use Rattle.std.proofs.lemmas.List.Elements.{All-nil, All-cons, All-head, All-tail, All-append, All-weaker}
use Rattle.std.proofs.lemmas.List.Sums.{length-filter, sum_by-append, sum_by-cons}
use Rattle.ebml_numbers.specs.Number.{AreOctets}
use Rattle.mkv_schema.specs.declared.ids.TheConstants.{ATTACHMENTS, CHAPTERS, CLUSTER, INFO, SEEK_HEAD, TAGS, TIMESTAMP_SCALE, TRACKS, TRACK_ENTRY}
use Rattle.mkv_io.specs.declared.damage.Damage.{Damage}
use Rattle.mkv_io.specs.declared.outside.TheConstants.{LONGEST_FILE}
use Rattle.requests.specs.declared.edit.Edit.{Edit}
use Rattle.mkv_schema.specs.declared.element.Header.{Header}
use Rattle.mkv_schema.specs.Elements.{Run, ends_cluster}
use Rattle.mkv_schema.specs.Outline.{outlined, segment_bound, segment_run}
use Rattle.mkv_io.specs.Results.{and_then, unless}
use Rattle.mkv_schema.specs.Value.{body_of, first_of}
use Rattle.mkv_schema.proofs.OutlineLemmas.{and_then-ok}
use Rattle.tree_format.specs.Reading.{tree_of}
use Rattle.mkv_schema.specs.declared.limits.TheConstants.{MAX_ELEMENTS, MAX_MASTER_LEN, MAX_MASTERS_LEN}
use Rattle.mkv_schema.specs.Schema.{uint_default}
use Rattle.element_reader.specs.Collected.{others_of}
use Rattle.element_reader.specs.Outline.{shown}
use Rattle.element_reader.proofs.OutlineLemmas.{first_in-others}
use Rattle.output_model.specs.Element.{Element, IsElement, element, header_in_place, headers_in_place, octets_of}
use Rattle.output_model.proofs.ReadLemmas.{length-octets_of}
use Rattle.tree_format.specs.declared.limits.TheConstants.{MAX_NODES}
use Rattle.tree_format.specs.Node.{Node, children, id_of, master, nodes_of, deepest, depth_all}
use Rattle.tree_format.specs.NormalForm.{octets}
use Rattle.tree_format.specs.Standing.{AllStandIn, kept_all, placed_all}
use Rattle.file_format.specs.FileBlocks.{file_events}
use Rattle.file_format.specs.Info.{file_scale, info_refusal, scale_of}
use Rattle.file_format.specs.Tracks.{AreTracks}
use Rattle.file_format.proofs.TracksLemmas.{refusal-none}
use Rattle.meta_records.specs.Records.{first_tree, good_info, scale_of_info, tree_at}
use Rattle.block_format.specs.Elements.{with_limits}
use Rattle.block_format.specs.Events.{damages_of, events_of}
use Rattle.sidecar_edit.specs.Writes.{Write, applied}
use Rattle.edit_changes.specs.declared.trees.Trees.{Trees}
use Rattle.edit_changes.specs.declared.refusal.TheConstants.{MAX_WRITTEN}
use Rattle.edit_changes.specs.Change.{are_of_info, are_of_tracks, edited_from}
use Rattle.edit_changes.specs.Records.{EditableFile, good_tracks, trees_of}
use Rattle.edit_changes.specs.Plan.{Part, appended, ascending, edit_ids, elements_moving, info_nodes, length_in_place, length_moving, most_nodes, moves, moving, part, part_of, part_writes, parts, seek_head, too_large}
use Rattle.edit_plan.proofs.PartLemmas.{first-own, info-valid, tracks-valid}
use Rattle.edit_changes.specs.declared.refusal.Refusal.TheVariants as refusal
use Rattle.edit_plan.proofs.PlanLemmas.{large-none}
use Rattle.edit_plan.proofs.LevelLemmas.{Stand}
use Rattle.edit_changes.specs.SeekHead.{SeekHeadAt}
use Rattle.edit_laws.proofs.AmongLemmas.{IsAmong, all-among, among-left, among-right}
use Rattle.edit_laws.proofs.SameLemmas.{InOrder}
use Rattle.edit_laws.specs.Laws.{HoldsEdited, IsOutside, normal_form, tracks_octets}
use Rattle.edit_laws.proofs.CountLemmas.{described-most, described_len, undescribed}
use Rattle.edit_laws.proofs.LimitLemmas.{AreWithinLimits, counts, described-sum}
use Rattle.edit_laws.proofs.AgainLemmas.{CanBeRead}
use Rattle.edit_laws.proofs.GoodLemmas.{AreUnrefused, IsScaled, good-all, info-again, scale-again, scale-all, scaled-info, tracks-again}
use Rattle.edit_laws.proofs.IndexedLemmas.{edited-again, file_with, indexed-again, scale-tree, scale_read, trees-made}
use Rattle.edit_laws.proofs.PointLemmas.{indexable-whole}
use Rattle.edit_laws.proofs.HeldLemmas.{IsWritten, first-written, tree-again, written-again, written-first}
use Rattle.edit_laws.proofs.ItemLemmas.{AreDistinct, IsItem, IsName, Item, names}
use Rattle.edit_laws.proofs.OpenedLemmas.{IsOpened}
use Rattle.edit_changes.specs.Span.{span_of}
use Rattle.edit_laws.proofs.EndLemmas.{moves-found, moving-all, twin-of, twins-none}
use Rattle.edit_laws.proofs.PlannedLemmas.{IsPlanned, rest-behind}
use Rattle.edit_laws.proofs.RestLemmas.{HoldsRest, IsUntouched, rest-stays, stand}
use Rattle.edit_laws.proofs.SectionLemmas.{AreFirst, first-fit, fit-octets, info-stands, info-there, tracks-stand, trees-fit}
use Rattle.edit_laws.proofs.TreeLemmas.{AreFit, IsFit, fit-all, info-stays, tracks-stay}
use Rattle.edit_laws.proofs.WriteLemmas.{AreOf, adds-most, adds-parts, adds_void, described-parts, described_there, few-parts, item_at, items-are, items-few as items_of-few, items_of, of-append, of-part, of-still, of-writes, there-none}

-- ---- Elements that can be rewritten

-- The items have the ID `id`.
pub items-id : (written : Bool) (id : ℕ) (list : List Header) (nodes : List Node) → All (λ (i : Item). i.element.id ≡ id) (items_of written id list nodes)
items-id false id list nodes = All-nil (λ (i : Item). i.element.id ≡ id)
items-id true id list nodes = of (first_of id list) refl
  where
    of : (first : Option Header) → first_of id list ≡ first → All (λ (i : Item). i.element.id ≡ id) (option_map_or (λ h. item_at nodes h ∷ []) first [])
    of None is = All-nil (λ (i : Item). i.element.id ≡ id)
    of (Some h) is = All-cons (λ (i : Item). i.element.id ≡ id) (item_at nodes h) [] (first-own id list h is) (All-nil (λ (i : Item). i.element.id ≡ id))

-- There is one item, or none.
pub item-cases : (written : Bool) (id : ℕ) (list : List Header) (nodes : List Node)
    → (((written ≡ false) ⊎ (first_of id list ≡ None)) × (items_of written id list nodes ≡ [])) ⊎ ((h : Header) × (first_of id list ≡ Some h) × (items_of written id list nodes ≡ item_at nodes h ∷ []))
item-cases false id list nodes = inl (inl refl, refl)
item-cases true id list nodes = of (first_of id list) refl
  where
    of : (first : Option Header) → first_of id list ≡ first
        → (((true ≡ false) ⊎ (first_of id list ≡ None)) × (option_map_or (λ h. item_at nodes h ∷ []) first [] ≡ [])) ⊎ ((h : Header) × (first_of id list ≡ Some h) × (option_map_or (λ h. item_at nodes h ∷ []) first [] ≡ item_at nodes h ∷ []))
    of None is = inl (inr is, refl)
    of (Some h) is = inr (h, is, refl)

-- Items of two IDs are distinct.
pub two-distinct : (one other : Bool) (a b : ℕ) (list : List Header) (ns ms : List Node) → (b == a) ≡ false → AreDistinct (items_of one a list ns ++ items_of other b list ms)
two-distinct one other a b list ns ms differ = of (items_of one a list ns) (items-id one a list ns) (few one a ns)
  where
    rest : List Item
    rest = items_of other b list ms

    alone : (is : List Item) → length is ≤ 1 → AreDistinct is
    alone [] short = tt
    alone (i ∷ []) short = (All-nil (λ (j : Item). (j.element.id == i.element.id) ≡ false), tt)
    alone (i ∷ j ∷ js) short = absurd (omega arith)

    few : (w : Bool) (id : ℕ) (nodes : List Node) → length (items_of w id list nodes) ≤ 1
    few w id nodes = elim (item-cases w id list nodes) [
      | inl none ↦ (let len : length (items_of w id list nodes) ≡ 0 = ap (λ (l : List Item). length l) none.1 in omega arith)
      | inr some ↦ (let len : length (items_of w id list nodes) ≡ 1 = ap (λ (l : List Item). length l) some.2 in omega arith)
    ]

    of : (is : List Item) → All (λ (i : Item). i.element.id ≡ a) is → length is ≤ 1 → AreDistinct (is ++ rest)
    of [] ids short = alone rest (few other b ms)
    of (i ∷ []) ids short =
        let own = All-head (λ (i : Item). i.element.id ≡ a) i [] ids in
        (All-weaker (λ (j : Item). j.element.id ≡ b) (λ (j : Item). (j.element.id == i.element.id) ≡ false) (λ j is. ap (λ n. n == i.element.id) is ∙ ap (λ n. b == n) own ∙ differ) rest (items-id other b list ms), alone rest (few other b ms))
    of (i ∷ j ∷ js) ids short = absurd (omega arith)

-- If nothing moves, nothing is appended.
appended-none : (ps : List Part) → list_any moves ps ≡ false → appended ps ≡ []
appended-none [] none = refl
appended-none (p ∷ ps) none = of (appended-none ps) (moves p) none
  where
    of : (list_any moves ps ≡ false → appended ps ≡ []) → (b : Bool) → (b || list_any moves ps) ≡ false → flat_map octets_of (filter_map (λ (q : Part). q.element) (if b then p ∷ moving ps else moving ps)) ≡ []
    of further true is = absurd (cc)
    of further false is = further is

-- Each part has few nodes.
pub nodes-none : (len : ℕ) (ps : List Part) → too_large len ps ≡ None → most_nodes ps ≤ MAX_NODES
nodes-none len ps is = of (nat_lt MAX_NODES (most_nodes ps)) (nat_lt MAX_WRITTEN len) refl is
  where
    of : (many long : Bool) → nat_lt MAX_NODES (most_nodes ps) ≡ many → (if many || long then Some (refusal.EditTooLarge len (most_nodes ps)) else None) ≡ None → most_nodes ps ≤ MAX_NODES
    of true long test is = absurd (cc)
    of false true test is = absurd (cc)
    of false false test is = grind (arith, nat_tests)

pub nodes-append : (ps qs : List Part) → most_nodes (ps ++ qs) ≡ max (most_nodes ps) (most_nodes qs)
nodes-append [] qs = omega arith
nodes-append (p ∷ ps) qs = let rest = nodes-append ps qs in omega arith

all-left : {X : Type 0} (P : X → Type 0) (xs ys : List X) → All P (xs ++ ys) → All P xs
all-left P [] ys all = All-nil P
all-left P (x ∷ xs) ys all = All-cons P x xs (All-head P x (xs ++ ys) all) (all-left P xs ys (All-tail P x (xs ++ ys) all))

all-right : {X : Type 0} (P : X → Type 0) (xs ys : List X) → All P (xs ++ ys) → All P ys
all-right P [] ys all = all
all-right P (x ∷ xs) ys all = all-right P xs ys (All-tail P x (xs ++ ys) all)

-- The nodes of a part that is written.
part-nodes : (written : Bool) (id : ℕ) (list : List Header) (nodes : List Node) (i : Item) → items_of written id list nodes ≡ i ∷ [] → kept_all (nodes_of nodes) + 1 ≤ most_nodes (part_of written id list nodes)
part-nodes false id list nodes i is = absurd (cc)
part-nodes true id list nodes i is = of (first_of id list) is
  where
    of : (first : Option Header) → option_map_or (λ h. item_at nodes h ∷ []) first [] ≡ i ∷ [] → kept_all (nodes_of nodes) + 1 ≤ most_nodes (option_map_or (λ h. part list nodes h ∷ []) first [])
    of None is = absurd (cc)
    of (Some h) is = omega arith

-- An Info with a scale isn't refused.
scaled-good : (n : Option Node) → IfSome n IsScaled → good_info n ≡ Ok n
scaled-good None scaled = refl
scaled-good (Some n) scaled = ap (λ (r : Option Damage). unless r (Some n)) (scaled-info n scaled)

-- the TrackEntries among the children of a Tracks
abbrev entries_among : List Node → List Node
entries_among ns = filter (λ n. id_of n == TRACK_ENTRY) ns

module _ (bytes : List ℕ) (are_octets : AreOctets bytes) (short : length bytes ≤ LONGEST_FILE) (edits : List Edit) (f : EditableFile) (t : Trees) (ws : List Write)
    (op : IsOpened bytes f.outline) (undamaged : f.outline.damage ≡ None) (first : AreFirst bytes f.outline.segment f.trees) (made : edited_from 0 edits f.trees ≡ Ok t)
    (order : InOrder (length bytes) 0 ws) (outside_all : All IsOutside (segment_run bytes f.outline.segment).list) where
  abbrev pub segment : Header
  segment = f.outline.segment

  abbrev pub list : List Header
  list = (segment_run bytes segment).list

  abbrev pub others : List Header
  others = others_of list

  abbrev pub last : ℕ
  last = (segment_run bytes segment).end

  abbrev pub end : ℕ
  end = segment_bound bytes segment

  abbrev pub ps : List Part
  ps = parts others edits t

  abbrev pub infos : List Item
  infos = items_of (are_of_info edits) INFO others (info_nodes t.info)

  abbrev pub tracks : List Item
  tracks = items_of (are_of_tracks edits) TRACKS others t.tracks

  abbrev pub items : List Item
  items = infos ++ tracks

  pub before-fit : AreFit f.trees
  before-fit = trees-fit bytes segment f.trees are_octets first

  pub fit : AreFit t
  fit = fit-all 0 edits f.trees t before-fit made

  pub level-stands : Stand segment.body last others
  level-stands = stand bytes are_octets short f.outline ws op undamaged order outside_all

  pub are-of : AreOf others ps items
  are-of = of-append others (part_of (are_of_info edits) INFO others (info_nodes t.info)) (part_of (are_of_tracks edits) TRACKS others t.tracks) infos tracks
      (of-part segment.body last others level-stands (are_of_info edits) INFO (info_nodes t.info)) (of-part segment.body last others level-stands (are_of_tracks edits) TRACKS t.tracks)

  -- The edited trees aren't refused.
  good : AreUnrefused t
  good = good-all 0 edits f.trees t first.good made

  pub distinct : AreDistinct items
  distinct = two-distinct (are_of_info edits) (are_of_tracks edits) INFO TRACKS others (info_nodes t.info) t.tracks refl

  -- ---- written Elements can be read

  module _ (few : All (λ (i : Item). length (octets_of i.element) ≤ 2 ^ 24) items) (nodes : most_nodes ps ≤ MAX_NODES) where
    pub are : All (IsItem others) items
    are = All-append (IsItem others) infos tracks
        (items-are (are_of_info edits) INFO others (info_nodes t.info) names.info info-valid (all-left (λ (i : Item). length (octets_of i.element) ≤ 2 ^ 24) infos tracks few))
        (items-are (are_of_tracks edits) TRACKS others t.tracks names.tracks tracks-valid (all-right (λ (i : Item). length (octets_of i.element) ≤ 2 ^ 24) infos tracks few))

    both-nodes : (most_nodes (part_of (are_of_info edits) INFO others (info_nodes t.info)) ≤ MAX_NODES) × (most_nodes (part_of (are_of_tracks edits) TRACKS others t.tracks) ≤ MAX_NODES)
    both-nodes = (let all = nodes-append (part_of (are_of_info edits) INFO others (info_nodes t.info)) (part_of (are_of_tracks edits) TRACKS others t.tracks) in (omega arith, omega arith))

    pub can-info : (n : Node) (h : Header) → t.info ≡ Some n → infos ≡ item_at (info_nodes t.info) h ∷ [] → CanBeRead INFO (info_nodes t.info)
    can-info n h is item =
        let own : IsFit INFO deepest n = subst (λ (x : Option Node). IfSome x (IsFit INFO deepest)) is fit.info in
        let stands = info-stands n own in
        let same : info_nodes t.info ≡ children n = ap info_nodes is in
        let small = All-head (λ (i : Item). length (octets_of i.element) ≤ 2 ^ 24) (item_at (info_nodes t.info) h) [] (subst (All (λ (i : Item). length (octets_of i.element) ≤ 2 ^ 24)) item (all-left (λ (i : Item). length (octets_of i.element) ≤ 2 ^ 24) infos tracks few)) in
        let len = length-octets_of (element h.id (flat_map octets (info_nodes t.info))) in
        let count = part-nodes (are_of_info edits) INFO others (info_nodes t.info) (item_at (info_nodes t.info) h) item in
        let most = both-nodes.0 in
        let deep : depth_all (nodes_of (info_nodes t.info)) ≡ depth_all (nodes_of (children n)) = ap (λ (ns : List Node). depth_all (nodes_of ns)) same in
        let low = stands.1 in
        record { stand = subst (λ (ns : List Node). AllStandIn INFO (nodes_of ns)) (sym same) stands.0; shallow = omega arith; short = omega arith; few = omega arith }

    pub can-tracks : (h : Header) → tracks ≡ item_at t.tracks h ∷ [] → CanBeRead TRACKS t.tracks
    can-tracks h item =
        let stands = tracks-stand t fit in
        let small = All-head (λ (i : Item). length (octets_of i.element) ≤ 2 ^ 24) (item_at t.tracks h) [] (subst (All (λ (i : Item). length (octets_of i.element) ≤ 2 ^ 24)) item (all-right (λ (i : Item). length (octets_of i.element) ≤ 2 ^ 24) infos tracks few)) in
        let len = length-octets_of (element h.id (flat_map octets t.tracks)) in
        let count = part-nodes (are_of_tracks edits) TRACKS others t.tracks (item_at t.tracks h) item in
        let most = both-nodes.1 in
        record { stand = stands.0; shallow = stands.1; short = omega arith; few = omega arith }

  -- ---- Info and Tracks that are read

  in-list : (id : ℕ) (h : Option Header) → (id == CLUSTER) ≡ false → first_of id others ≡ h → first_of id list ≡ h
  in-list id h other is = sym (first_in-others id list other) ∙ is

  -- The list has an Info if and only if the trees have one.
  info-was : (h : Option Header) → first_of INFO list ≡ h → is_some h ≡ is_some f.trees.info
  info-was None is =
      let read : Ok None ≡ Ok f.trees.info = sym (ap (tree_at bytes) is) ∙ first.info in
      let same : None ≡ f.trees.info = cc in
      ap is_some same
  info-was (Some h) is =
      let read = and_then-ok (tree_of h.id h.offset (body_of bytes h) h.body MAX_NODES) (λ tree. Ok (Some tree)) f.trees.info (sym (ap (tree_at bytes) is) ∙ first.info) in
      let same : Some read.0 ≡ f.trees.info = (let last = read.1.1 in cc) in
      ap is_some same

  info-is : (h : Header) → first_of INFO others ≡ Some h → (n : Node) × (t.info ≡ Some n)
  info-is h is = of t.info refl (info-was (Some h) (in-list INFO (Some h) refl is) ∙ info-there 0 edits f.trees t made)
    where
      of : (n : Option Node) → t.info ≡ n → true ≡ is_some n → (m : Node) × (t.info ≡ Some m)
      of None is there = absurd (cc)
      of (Some n) is there = (n, is)

  info-none : first_of INFO others ≡ None → t.info ≡ f.trees.info
  info-none is = of f.trees.info t.info (info-was None (in-list INFO None refl is)) (info-there 0 edits f.trees t made)
    where
      of : (a b : Option Node) → false ≡ is_some a → is_some a ≡ is_some b → b ≡ a
      of None None one two = refl
      of None (Some b) one two = absurd (cc)
      of (Some a) b one two = absurd (cc)

  info-kept : (new : List ℕ) (now : Header) → ((are_of_info edits ≡ false) ⊎ (first_of INFO others ≡ None)) → first_tree INFO new now ≡ first_tree INFO bytes segment → normal_form INFO new now ≡ Ok (option_map octets t.info)
  info-kept new now why same =
      ap (λ (x : Result (Option Node) Damage). and_then x (λ (n : Option Node). Ok (option_map octets n))) (same ∙ first.info) ∙ ap (λ (n : Option Node). Ok (option_map octets n)) (sym stays_it)
    where
      stays_it : t.info ≡ f.trees.info
      stays_it = elim why [
        | inl other ↦ info-stays 0 edits f.trees t other made
        | inr lacks ↦ info-none lacks
      ]

  info-new : (new : List ℕ) (now : Header) (h : Header) → first_of INFO others ≡ Some h
      → ((n : Node) → t.info ≡ Some n → normal_form INFO new now ≡ Ok (Some (octets (master INFO 0 (nodes_of (info_nodes t.info)))))) → normal_form INFO new now ≡ Ok (option_map octets t.info)
  info-new new now h is read =
      let there = info-is h is in
      let own : IsFit INFO deepest there.0 = subst (λ (x : Option Node). IfSome x (IsFit INFO deepest)) there.1 fit.info in
      read there.0 there.1
      ∙ ap (λ (x : Option Node). Ok (Some (octets (master INFO 0 (nodes_of (info_nodes x)))))) there.1
      ∙ ap (λ (l : List ℕ). Ok (Some l)) (fit-octets INFO there.0 own)
      ∙ ap (λ (x : Option Node). Ok (option_map octets x)) (sym there.1)

  tracks-kept : (new : List ℕ) (now : Header) → ((are_of_tracks edits ≡ false) ⊎ (first_of TRACKS others ≡ None)) → first_tree TRACKS new now ≡ first_tree TRACKS bytes segment → normal_form TRACKS new now ≡ Ok (Some (tracks_octets t.tracks))
  tracks-kept new now why same =
      ap (λ (x : Result (Option Node) Damage). and_then x (λ (n : Option Node). Ok (option_map octets n))) (same ∙ first.tracks)
      ∙ ap (λ (l : List ℕ). Ok (Some l)) (sym (fit-octets TRACKS first.whole (first-fit TRACKS bytes segment (Some first.whole) are_octets first.tracks)))
      ∙ ap (λ (ns : List Node). Ok (Some (tracks_octets ns))) (sym first.children ∙ sym stay_it)
    where
      stay_it : t.tracks ≡ f.trees.tracks
      stay_it = elim why [
        | inl other ↦ tracks-stay 0 edits f.trees t other made
        | inr lacks ↦ absurd (let read : Ok None ≡ Ok (Some first.whole) = sym (ap (tree_at bytes) (in-list TRACKS None refl lacks)) ∙ first.tracks in cc)
      ]

  -- No item has an ID other than Info and Tracks.
  neither : (id : ℕ) → (INFO == id) ≡ false → (TRACKS == id) ≡ false → All (λ (i : Item). (i.element.id == id) ≡ false) items
  neither id one two = All-append (λ (i : Item). (i.element.id == id) ≡ false) infos tracks
      (All-weaker (λ (i : Item). i.element.id ≡ INFO) (λ (i : Item). (i.element.id == id) ≡ false) (λ i is. ap (λ n. n == id) is ∙ one) infos (items-id (are_of_info edits) INFO others (info_nodes t.info)))
      (All-weaker (λ (i : Item). i.element.id ≡ TRACKS) (λ (i : Item). (i.element.id == id) ≡ false) (λ i is. ap (λ n. n == id) is ∙ two) tracks (items-id (are_of_tracks edits) TRACKS others t.tracks))

  no-info : infos ≡ [] → All (λ (i : Item). (i.element.id == INFO) ≡ false) items
  no-info none = subst (λ (is : List Item). All (λ (i : Item). (i.element.id == INFO) ≡ false) (is ++ tracks)) (sym none)
      (All-weaker (λ (i : Item). i.element.id ≡ TRACKS) (λ (i : Item). (i.element.id == INFO) ≡ false) (λ i is. ap (λ n. n == INFO) is) tracks (items-id (are_of_tracks edits) TRACKS others t.tracks))

  no-tracks : tracks ≡ [] → All (λ (i : Item). (i.element.id == TRACKS) ≡ false) items
  no-tracks none = All-append (λ (i : Item). (i.element.id == TRACKS) ≡ false) infos tracks
      (All-weaker (λ (i : Item). i.element.id ≡ INFO) (λ (i : Item). (i.element.id == TRACKS) ≡ false) (λ i is. ap (λ n. n == TRACKS) is) infos (items-id (are_of_info edits) INFO others (info_nodes t.info)))
      (subst (All (λ (i : Item). (i.element.id == TRACKS) ≡ false)) (sym none) (All-nil (λ (i : Item). (i.element.id == TRACKS) ≡ false)))

  -- The body of a written Info; below the same for Tracks.
  info-spells : (h : Header) → infos ≡ item_at (info_nodes t.info) h ∷ [] → All (λ (i : Item). i.element.id ≡ INFO → i.element.body ≡ flat_map octets (info_nodes t.info)) items
  info-spells h item = All-append (λ (i : Item). i.element.id ≡ INFO → i.element.body ≡ flat_map octets (info_nodes t.info)) infos tracks
      (subst (All (λ (i : Item). i.element.id ≡ INFO → i.element.body ≡ flat_map octets (info_nodes t.info))) (sym item) (All-cons (λ (i : Item). i.element.id ≡ INFO → i.element.body ≡ flat_map octets (info_nodes t.info)) (item_at (info_nodes t.info) h) [] (λ own. refl) (All-nil (λ (i : Item). i.element.id ≡ INFO → i.element.body ≡ flat_map octets (info_nodes t.info)))))
      (All-weaker (λ (i : Item). i.element.id ≡ TRACKS) (λ (i : Item). i.element.id ≡ INFO → i.element.body ≡ flat_map octets (info_nodes t.info)) (λ i is own. absurd (let same : TRACKS ≡ INFO = sym is ∙ own in omega arith)) tracks (items-id (are_of_tracks edits) TRACKS others t.tracks))

  tracks-spell : (h : Header) → tracks ≡ item_at t.tracks h ∷ [] → All (λ (i : Item). i.element.id ≡ TRACKS → i.element.body ≡ flat_map octets t.tracks) items
  tracks-spell h item = All-append (λ (i : Item). i.element.id ≡ TRACKS → i.element.body ≡ flat_map octets t.tracks) infos tracks
      (All-weaker (λ (i : Item). i.element.id ≡ INFO) (λ (i : Item). i.element.id ≡ TRACKS → i.element.body ≡ flat_map octets t.tracks) (λ i is own. absurd (let same : INFO ≡ TRACKS = sym is ∙ own in omega arith)) infos (items-id (are_of_info edits) INFO others (info_nodes t.info)))
      (subst (All (λ (i : Item). i.element.id ≡ TRACKS → i.element.body ≡ flat_map octets t.tracks)) (sym item) (All-cons (λ (i : Item). i.element.id ≡ TRACKS → i.element.body ≡ flat_map octets t.tracks) (item_at t.tracks h) [] (λ own. refl) (All-nil (λ (i : Item). i.element.id ≡ TRACKS → i.element.body ≡ flat_map octets t.tracks))))

  -- ---- new content of the file

  -- The items are rewritten, other Elements follow the old end, and the parts are found among both.
  module _ (new : List ℕ) (all : List Item) (added : List Element) (rest : HoldsRest bytes new f.outline list all added)
      (few : All (λ (i : Item). length (octets_of i.element) ≤ 2 ^ 24) items) (nodes : most_nodes ps ≤ MAX_NODES)
      (untouched : (id : ℕ) → ends_cluster id ≡ true → (id == CLUSTER) ≡ false → (SEEK_HEAD == id) ≡ false → All (λ (i : Item). (i.element.id == id) ≡ false) items → IsUntouched all added id)
      (written : (id : ℕ) (nodes : List Node) (h : Header) → (id == CLUSTER) ≡ false → IsAmong items (item_at nodes h) → first_of id others ≡ Some h
      → All (λ (i : Item). i.element.id ≡ id → i.element.body ≡ flat_map octets nodes) items → IsWritten new id (flat_map octets nodes) rest.list)
      (adds : sum_by (adds_void others) all + length added ≤ 3) (bytes_added : sum_by (described_there others) all + sum_by described_len added ≤ MAX_WRITTEN)
      (all_short : All (λ (i : Item). described_len i.element ≤ MAX_MASTER_LEN) all) (added_short : All (λ (d : Element). described_len d ≤ MAX_MASTER_LEN) added) where
    section : (id : ℕ) (nodes : List Node) (h : Header) → (id == CLUSTER) ≡ false → CanBeRead id nodes → IsAmong items (item_at nodes h) → first_of id others ≡ Some h
        → All (λ (i : Item). i.element.id ≡ id → i.element.body ≡ flat_map octets nodes) items → normal_form id new rest.segment ≡ Ok (Some (octets (master id 0 (nodes_of nodes))))
    section id nodes h other can member found spells =
        written-again new rest.segment rest.list rest.end rest.run id nodes can (written id nodes h other member found spells)

    info-now : normal_form INFO new rest.segment ≡ Ok (option_map octets t.info)
    info-now = elim (item-cases (are_of_info edits) INFO others (info_nodes t.info)) [
      | inl (why, none) ↦ info-kept new rest.segment why (rest.tree INFO (untouched INFO names.info.level refl refl (no-info none)))
      | inr (h, found, item) ↦
          info-new new rest.segment h found
          (λ n is. section INFO (info_nodes t.info) h refl (can-info few nodes n h is item) (among-left infos tracks (item_at (info_nodes t.info) h) (subst (λ (is : List Item). IsAmong is (item_at (info_nodes t.info) h)) (sym item) (inl refl))) found (info-spells h item))
    ]

    tracks-now : normal_form TRACKS new rest.segment ≡ Ok (Some (tracks_octets t.tracks))
    tracks-now = elim (item-cases (are_of_tracks edits) TRACKS others t.tracks) [
      | inl (why, none) ↦ tracks-kept new rest.segment why (rest.tree TRACKS (untouched TRACKS names.tracks.level refl refl (no-tracks none)))
      | inr (h, found, item) ↦
          section TRACKS t.tracks h refl (can-tracks few nodes h item) (among-right infos tracks (item_at t.tracks h) (subst (λ (is : List Item). IsAmong is (item_at t.tracks h)) (sym item) (inl refl))) found (tracks-spell h item)
    ]

    -- ---- the trees are read again

    -- A written Info, with the places after writing.
    info-written : (h : Header) → first_of INFO others ≡ Some h → infos ≡ item_at (info_nodes t.info) h ∷ []
        → (place : ℕ) × (base : ℕ) × (first_tree INFO new rest.segment ≡ Ok (Some (master INFO place (placed_all base (nodes_of (info_nodes t.info))))))
    info-written h found item =
        let there = info-is h found in
        let w = written INFO (info_nodes t.info) h refl (among-left infos tracks (item_at (info_nodes t.info) h) (subst (λ (is : List Item). IsAmong is (item_at (info_nodes t.info) h)) (sym item) (inl refl))) found (info-spells h item) in
        (w.place, (header_in_place w.place w.element).body, tree-again new rest.segment rest.list rest.end rest.run INFO (info_nodes t.info) (can-info few nodes there.0 h there.1 item) w)

    -- The scale stays.
    scale-now : file_scale new rest.segment ≡ file_scale bytes segment
    scale-now = scale-tree new rest.segment ∙ elim (item-cases (are_of_info edits) INFO others (info_nodes t.info)) [
      | inl (why, none) ↦ ap scale_read (rest.tree INFO (untouched INFO names.info.level refl refl (no-info none)))
      | inr (h, found, item) ↦ (
          let there = info-is h found in
          let w = info-written h found item in
          ap scale_read w.2
          ∙ ap (λ (x : Option Node). scale_of (master INFO w.0 (placed_all w.1 (nodes_of (info_nodes x))))) there.1
          ∙ ap (λ (o : Option ℕ). unwrap_or o (unwrap_or (uint_default TIMESTAMP_SCALE) 0)) (scale-again there.0 INFO w.0 w.1)
          ∙ ap scale_of_info (sym there.1)
          ∙ scale-all 0 edits f.trees t made
          ∙ sym (ap scale_read first.info)
          )
    ] ∙ sym (scale-tree bytes segment)

    -- If the old file has no damage, the new one has none.
    undamaged-now : damages_of (file_events true bytes segment) ≡ [] → damages_of (file_events true new rest.segment) ≡ []
    undamaged-now none = subst (λ n. damages_of (events_of (with_limits n) new rest.segment) ≡ []) (sym scale-now) (rest.undamaged (with_limits (file_scale bytes segment)) none)

    -- An Info that was kept, or written, isn't refused.
    info-read : (i : Option Node) × (and_then (first_tree INFO new rest.segment) good_info ≡ Ok i)
    info-read = elim (item-cases (are_of_info edits) INFO others (info_nodes t.info)) [
      | inl (why, none) ↦ (
        f.trees.info,
        ap (λ (x : Result (Option Node) Damage). and_then x good_info) (rest.tree INFO (untouched INFO names.info.level refl refl (no-info none)) ∙ first.info) ∙ scaled-good f.trees.info first.good.info,
      )
      | inr (h, found, item) ↦ (
          let there = info-is h found in
          let scaled : IsScaled there.0 = subst (λ (x : Option Node). IfSome x IsScaled) there.1 good.info in
          let w = info-written h found item in
          let tree : Node = master INFO w.0 (placed_all w.1 (nodes_of (info_nodes t.info))) in
          let same : tree ≡ master INFO w.0 (placed_all w.1 (nodes_of (children there.0))) = ap (λ (x : Option Node). master INFO w.0 (placed_all w.1 (nodes_of (info_nodes x)))) there.1 in (
            Some tree,
            ap (λ (x : Result (Option Node) Damage). and_then x good_info) w.2
                ∙ ap (λ (r : Option Damage). unless r (Some tree)) (ap info_refusal same ∙ info-again there.0 INFO w.0 w.1 scaled),
          )
          )
    ]

    tracks-read : (n : Node) × (and_then (first_tree TRACKS new rest.segment) (good_tracks rest.segment) ≡ Ok n)
    tracks-read = elim (item-cases (are_of_tracks edits) TRACKS others t.tracks) [
      | inl (why, none) ↦ (
        first.whole,
        ap (λ (x : Result (Option Node) Damage). and_then x (good_tracks rest.segment)) (rest.tree TRACKS (untouched TRACKS names.tracks.level refl refl (no-tracks none)) ∙ first.tracks)
            ∙ ap (λ (r : Option Damage). unless r first.whole) ((refusal-none first.whole).1 (subst (λ (ns : List Node). AreTracks (entries_among ns)) first.children first.good.tracks)),
      )
      | inr (h, found, item) ↦ (
          let w = written TRACKS t.tracks h refl (among-right infos tracks (item_at t.tracks h) (subst (λ (is : List Item). IsAmong is (item_at t.tracks h)) (sym item) (inl refl))) found (tracks-spell h item) in
          let read = tree-again new rest.segment rest.list rest.end rest.run TRACKS t.tracks (can-tracks few nodes h item) w in
          let base : ℕ = (header_in_place w.place w.element).body in
          let tree : Node = master TRACKS w.place (placed_all base (nodes_of t.tracks)) in (
            tree,
            ap (λ (x : Result (Option Node) Damage). and_then x (good_tracks rest.segment)) read
                ∙ ap (λ (r : Option Damage). unless r tree) (tracks-again t.tracks TRACKS w.place base good.tracks),
          )
          )
    ]

    trees-read : (u : Trees) × (trees_of new rest.segment ≡ Ok u)
    trees-read =
        let info = info-read in
        let tracks_are = tracks-read in (
          record { info = info.0; tracks = children tracks_are.0 },
          trees-made new rest.segment info.0 tracks_are.0 first.files first.chapters first.tags info.1 tracks_are.1
              (rest.attached first.files (untouched ATTACHMENTS names.attachments.level refl refl (neither ATTACHMENTS refl refl)) first.attached)
              (rest.tree CHAPTERS (untouched CHAPTERS names.chapters.level refl refl (neither CHAPTERS refl refl)) ∙ first.chapters_read)
              (rest.tree TAGS (untouched TAGS names.tags.level refl refl (neither TAGS refl refl)) ∙ first.tags_read),
        )

    -- The Elements of level 1 are within the limits, if three more are, and as many bytes as an edit may write.
    new-within : length f.outline.others + 3 ≤ MAX_ELEMENTS → f.outline.held + MAX_WRITTEN ≤ MAX_MASTERS_LEN → AreWithinLimits (segment_run new rest.segment).list
    new-within room space =
        let was = op.within in
        let number : length f.outline.others ≡ sum_by counts list = ap (λ (hs : List Header). length hs) op.others ∙ length-filter (λ (k : Header). not (k.id == CLUSTER)) list in
        let count = rest.count in
        let sum = rest.described in
        let held = op.held in
        let old_sum = described-sum list in
        let new_sum = described-sum rest.list in
        subst AreWithinLimits (sym (ap (λ (r : Run). r.list) rest.run)) (record { count = omega arith; each = rest.short was.each all_short added_short; all = omega arith })

    holds : HoldsEdited bytes new f t
    holds = record {
      segment = rest.segment;
      ebml = rest.ebml;
      found = rest.found;
      whole = ap (λ (r : Run). r.damage) rest.run;
      info = info-now;
      tracks = tracks-now;
      attachments = rest.attached first.files (untouched ATTACHMENTS names.attachments.level refl refl (neither ATTACHMENTS refl refl)) first.attached ∙ sym first.attached;
      file_data = rest.file_data first.files (untouched ATTACHMENTS names.attachments.level refl refl (neither ATTACHMENTS refl refl)) first.attached;
      chapters = rest.tree CHAPTERS (untouched CHAPTERS names.chapters.level refl refl (neither CHAPTERS refl refl));
      tags = rest.tree TAGS (untouched TAGS names.tags.level refl refl (neither TAGS refl refl));
      blocks = rest.blocks;
      again = λ room space.
          edited-again new f.outline.ebml rest.segment trees-read.0 rest.ebml rest.found (new-within room space) (ap (λ (r : Run). r.damage) rest.run) trees-read.1;
      indexed = λ room space could. (
        file_with (shown new (outlined new f.outline.ebml rest.segment (segment_run new rest.segment))) trees-read.0,
        indexed-again new f.outline.ebml rest.segment trees-read.0 rest.ebml rest.found (new-within room space) trees-read.1 (undamaged-now (indexable-whole bytes f could).undamaged),
      );
    }

  -- A short Element keeps the limit of each.
  few-short : (d : Element) → length (octets_of d) ≤ 2 ^ 24 → described_len d ≤ MAX_MASTER_LEN
  few-short d few = let most = described-most d in omega arith

  items-few : length items ≤ 2
  items-few =
      let one = items_of-few (are_of_info edits) INFO others (info_nodes t.info) in
      let two = items_of-few (are_of_tracks edits) TRACKS others t.tracks in
      let all = length-append infos tracks in
      omega arith

  -- ---- nothing moves

  module _ (still : list_any moves ps ≡ false) (large : too_large (length_in_place ps) ps ≡ None) (is_ws : ascending (part_writes ps) ≡ ws) where
    few : All (λ (i : Item). length (octets_of i.element) ≤ 2 ^ 24) items
    few =
        let none : length (appended ps) ≡ 0 = ap (λ (l : List ℕ). length l) (appended-none ps still) in
        let most = large-none (length_in_place ps) ps large in
        All-weaker (λ (i : Item). length (octets_of i.element) ≤ length_in_place ps + length (appended ps)) (λ (i : Item). length (octets_of i.element) ≤ 2 ^ 24) (λ i is. omega arith) items (few-parts others ps items are-of)

    nodes : most_nodes ps ≤ MAX_NODES
    nodes = nodes-none (length_in_place ps) ps large

    rest-still : HoldsRest bytes (applied bytes ws) f.outline list items []
    rest-still = rest-stays bytes are_octets short f.outline ws op undamaged order outside_all items (are few nodes) distinct (ap ascending (sym (of-writes others ps items are-of)) ∙ is_ws)

    written-still : (id : ℕ) (nodes : List Node) (h : Header) → (id == CLUSTER) ≡ false → IsAmong items (item_at nodes h) → first_of id others ≡ Some h
        → All (λ (i : Item). i.element.id ≡ id → i.element.body ≡ flat_map octets nodes) items → IsWritten (applied bytes ws) id (flat_map octets nodes) rest-still.list
    written-still id nodes h other member found spells =
        let own : h.id ≡ id = first-own id others h found in
        let fits = all-among (λ (i : Item). span_of i.header others < length (octets_of i.element) → ⊥) items (item_at nodes h) (of-still others ps items are-of still) member in
        subst (λ n. IsWritten (applied bytes ws) n (flat_map octets nodes) rest-still.list) own
        (elim (cases_lt (span_of h others) (length (octets_of (element h.id (flat_map octets nodes))))) [
          | inl long ↦ absurd (fits long)
          | inr has ↦ (rest-still.stays (item_at nodes h) member has).0
        ])

    -- The content of the file if nothing moves.
    pub stayed : HoldsEdited bytes (applied bytes ws) f t
    stayed =
        holds (applied bytes ws) items [] rest-still few nodes
        (λ id level other seek none. record { level = level; other = other; written = none; behind = All-nil (λ (d : Element). (d.id == id) ≡ false) })
        written-still
        (let most = adds-most others items in let two = items-few in omega arith)
        (let some = described-parts others ps items are-of in
        let none : length (appended ps) ≡ 0 = ap (λ (l : List ℕ). length l) (appended-none ps still) in
        let most = large-none (length_in_place ps) ps large in
        let nothing : sum_by described_len [] ≡ 0 = refl in
        omega arith)
        (All-weaker (λ (i : Item). length (octets_of i.element) ≤ 2 ^ 24) (λ (i : Item). described_len i.element ≤ MAX_MASTER_LEN) (λ i is. few-short i.element is) items few)
        (All-nil (λ (d : Element). described_len d ≤ MAX_MASTER_LEN))

  -- ---- an Element moves

  module _ (s : SeekHeadAt) (planned : IsPlanned f.outline edit_ids ps ws s others) (any : list_any moves ps ≡ true) (moved_first : Element) (moved_more : List Element) (moved_are : elements_moving ps ≡ moved_first ∷ moved_more) where
    abbrev seeks : Element
    seeks = seek_head edit_ids f.outline ps (Some s)

    abbrev space : ℕ
    space = span_of s.header others

    abbrev all : List Item
    all = record { header = s.header; element = seeks } ∷ items

    abbrev total : ℕ
    total = length bytes

    abbrev grown : List ℕ
    grown = applied bytes ws

    small : length_moving f.outline ps seeks space ≤ MAX_WRITTEN
    small = large-none (length_moving f.outline ps seeks space) ps planned.large

    few-moving : All (λ (i : Item). length (octets_of i.element) ≤ 2 ^ 24) items
    few-moving =
        let most = small in
        All-weaker (λ (i : Item). length (octets_of i.element) ≤ length_in_place ps + length (appended ps)) (λ (i : Item). length (octets_of i.element) ≤ 2 ^ 24) (λ i is. omega arith) items (few-parts others ps items are-of)

    nodes-moving : most_nodes ps ≤ MAX_NODES
    nodes-moving = nodes-none (length_moving f.outline ps seeks space) ps planned.large

    part-items : All (IsItem others) items
    part-items = are few-moving nodes-moving

    -- A fact about all items holds for the moved Elements.
    of-items : (Q : Element → Type 0) → All (λ (i : Item). Q i.element) items → All Q (moved_first ∷ moved_more)
    of-items Q is = subst (All Q) moved_are (moving-all Q others ps items are-of is)

    rest-away : HoldsRest bytes grown f.outline list all (moved_first ∷ moved_more)
    rest-away =
        rest-behind bytes are_octets short f.outline ws op undamaged order outside_all edit_ids ps s planned items part-items distinct (neither SEEK_HEAD refl refl) (of-writes others ps items are-of) any moved_first moved_more moved_are
        (of-items IsElement (All-weaker (IsItem others) (λ (i : Item). IsElement i.element) (λ i is. is.widen.own) items part-items))
        (of-items (λ d. IsName d.id) (All-weaker (IsItem others) (λ (i : Item). IsName i.element.id) (λ i is. is.name) items part-items))

    untouched-away : (id : ℕ) → ends_cluster id ≡ true → (id == CLUSTER) ≡ false → (SEEK_HEAD == id) ≡ false → All (λ (i : Item). (i.element.id == id) ≡ false) items → IsUntouched all (moved_first ∷ moved_more) id
    untouched-away id level other seek none = record {
      level = level;
      other = other;
      written = All-cons (λ (i : Item). (i.element.id == id) ≡ false) (record { header = s.header; element = seeks }) items seek none;
      behind = of-items (λ d. (d.id == id) ≡ false) none;
    }

    written-away : (id : ℕ) (nodes : List Node) (h : Header) → (id == CLUSTER) ≡ false → IsAmong items (item_at nodes h) → first_of id others ≡ Some h
        → All (λ (i : Item). i.element.id ≡ id → i.element.body ≡ flat_map octets nodes) items → IsWritten grown id (flat_map octets nodes) rest-away.list
    written-away id nodes h other member found spells =
        let own : h.id ≡ id = first-own id others h found in
        elim (cases_lt (span_of h others) (length (octets_of (element h.id (flat_map octets nodes))))) [
          | inl long ↦ (
              let few_of = twin-of others ps items (item_at nodes h) are-of (twins-none others (moving ps) planned.twins) member long in
              let there = moves-found others ps items (item_at nodes h) total are-of member long in
              let there_id : first_of id (headers_in_place total (moved_first ∷ moved_more)) ≡ Some there.0 = sym (ap₂ (λ n (ds : List Element). first_of n (headers_in_place total ds)) own moved_are) ∙ there.1 in
              let behind = first-written grown id (flat_map octets nodes) total (moved_first ∷ moved_more) rest-away.held (of-items (λ d. d.id ≡ id → d.body ≡ flat_map octets nodes) spells) there.0 there_id in
              written-first grown id (flat_map octets nodes) (headers_in_place total (moved_first ∷ moved_more)) rest-away.list
              (subst (λ n. first_of n rest-away.list ≡ first_of n (headers_in_place total (moved_first ∷ moved_more))) own (rest-away.moves (item_at nodes h) (inr member) long few_of)) behind)
          | inr has ↦ subst (λ n. IsWritten grown n (flat_map octets nodes) rest-away.list) own (rest-away.stays (item_at nodes h) (inr member) has).0
        ]

    short-items : All (λ (i : Item). described_len i.element ≤ MAX_MASTER_LEN) items
    short-items = All-weaker (λ (i : Item). length (octets_of i.element) ≤ 2 ^ 24) (λ (i : Item). described_len i.element ≤ MAX_MASTER_LEN) (λ i is. few-short i.element is) items few-moving

    -- A SeekHead has no limited bytes.
    head-none : described_len seeks ≡ 0
    head-none = undescribed seeks refl refl refl refl

    short-away : All (λ (i : Item). described_len i.element ≤ MAX_MASTER_LEN) all
    short-away = All-cons (λ (i : Item). described_len i.element ≤ MAX_MASTER_LEN) (record { header = s.header; element = seeks }) items (let none = head-none in omega arith) short-items

    adds-away : sum_by (adds_void others) all + length (moved_first ∷ moved_more) ≤ 3
    adds-away =
        let head : Item = record { header = s.header; element = seeks } in
        let one = adds-most others (head ∷ []) in
        let both = sum_by-append (adds_void others) (head ∷ []) items in
        let parts = adds-parts others ps items are-of in
        let two = items-few in
        let moved : length (elements_moving ps) ≡ length (moved_first ∷ moved_more) = ap (λ (es : List Element). length es) moved_are in
        omega arith

    bytes-away : sum_by (described_there others) all + sum_by described_len (moved_first ∷ moved_more) ≤ MAX_WRITTEN
    bytes-away =
        let head : Item = record { header = s.header; element = seeks } in
        let none = there-none others head head-none in
        let both = sum_by-cons (described_there others) head items in
        let parts = described-parts others ps items are-of in
        let moved : sum_by described_len (elements_moving ps) ≡ sum_by described_len (moved_first ∷ moved_more) = ap (sum_by described_len) moved_are in
        let most = small in
        omega arith

    -- The content of the file if an Element moves.
    pub moved-away : HoldsEdited bytes grown f t
    moved-away =
        holds grown all (moved_first ∷ moved_more) rest-away few-moving nodes-moving untouched-away written-away
        adds-away bytes-away short-away (of-items (λ d. described_len d ≤ MAX_MASTER_LEN) short-items)
