-- The content that stays if some Elements of level 1 are rewritten, with or without Elements after the old end.
use Rattle.std.proofs.Common.{inl, inr, ◌≡◌, ◌⊎◌, ◌<◌, ◌≤◌, ℕ, ◌+◌, ◌-◌, ◌^◌, ◌==◌, min, Bool, true, false, if◌then◌else◌, List, [], ◌∷◌, ◌++◌, length, length-append, append-nil, All, None, Some, Ok, refl, sym, ◌∙◌, ap, ap₂, subst, arith}
use Rattle.std.specs.Prelude.{sum_by}
use Rattle.std.proofs.lemmas.Bool.Decides.{nat_tests}
use Rattle.std.proofs.lemmas.List.Elements.{All-nil, All-head, All-weaker}
use Rattle.ebml_numbers.specs.declared.number.Size.{Size}
use Rattle.ebml_numbers.specs.declared.number.Size.TheVariants.{Known, Unknown}
use Rattle.ebml_numbers.specs.Number.{AreOctets, all_ones, id_octets, is_id, size_octets, uint_width}
use Rattle.ebml_numbers.proofs.NumberLemmas.{length-size_octets, length-uint_octets}
use Rattle.mkv_schema.specs.declared.ids.TheConstants.{ATTACHMENTS, CLUSTER, SEGMENT}
use Rattle.mkv_io.specs.declared.outside.TheConstants.{LONGEST_FILE}
use Rattle.mkv_schema.specs.declared.element.Header.{Header}
use Rattle.mkv_schema.specs.Element.{at_level_0, body_damage, element_at, end_in, in_segment, is_unknown, known, octets_between, stated_end}
use Rattle.mkv_schema.specs.Elements.{ends_cluster, ends_segment, level_1}
use Rattle.mkv_schema.specs.declared.limits.TheConstants.{MAX_MASTER_LEN}
use Rattle.mkv_schema.specs.Outline.{ebml_header, is_described, segment_bound, segment_of, segment_run}
use Rattle.mkv_schema.specs.Value.{first_of}
use Rattle.mkv_schema.proofs.ElementLemmas.{element_at-placed, length-octets_between}
use Rattle.element_reader.specs.Collected.{described_octets, others_of}
use Rattle.element_reader.specs.Outline.{FileOutline}
use Rattle.element_reader.proofs.OutlineLemmas.{first_in-others}
use Rattle.output_model.specs.Element.{Element, HoldsAt, IsElement, element, header_in_place, header_of, headers_in_place, joined, octets_of}
use Rattle.output_model.proofs.ReadLemmas.{element_at-read, length-header_of, length-octets_of}
use Rattle.output_model.proofs.HeldLemmas.{between-split, held-left}
use Rattle.output_model.proofs.WrittenLemmas.{Written, element-written}
use Rattle.block_format.specs.Elements.{Rules}
use Rattle.block_format.specs.Events.{blocks_of, damages_of, events_among, events_of, found_in}
use Rattle.meta_records.specs.Attached.{AttachedFile, first_attached}
use Rattle.meta_records.specs.Records.{first_tree}
use Rattle.sidecar_edit.specs.Writes.{Write, applied, extent, WritesOctet}
use Rattle.sidecar_edit.proofs.RedoLemmas.{length-applied}
use Rattle.edit_changes.specs.Plan.{ascending, number_of, size_refusal, size_width, size_writes, write}
use Rattle.edit_changes.specs.Span.{span_of}
use Rattle.edit_plan.proofs.LevelLemmas.{Stand}
use Rattle.edit_plan.proofs.PartLemmas.{first-own}
use Rattle.edit_plan.proofs.PlanLemmas.{bound-most}
use Rattle.edit_plan.proofs.SizeLemmas.{HasSize, has-size}
use Rattle.edit_laws.proofs.AmongLemmas.{IsAmong, all-among, among-left, among-right}
use Rattle.edit_laws.proofs.SameLemmas.{AreSame, InOrder, order-fits, order-held, same-clear, same-part}
use Rattle.edit_laws.proofs.HeaderLemmas.{found-same, found-sound}
use Rattle.edit_laws.proofs.HeadLemmas.{header-long, header-same, sound-longer}
use Rattle.edit_laws.proofs.SegmentLemmas.{IsSegment, segment-is, segment-same}
use Rattle.edit_laws.proofs.BlockLemmas.{AreAlike}
use Rattle.edit_laws.proofs.TileLemmas.{advances-level, level, run_of, Stands, Tiles, tiled, whole}
use Rattle.edit_laws.proofs.LevelLemmas.{Edit, Spot, IsSpot, all_now, level-within, new_level}
use Rattle.edit_laws.proofs.LimitLemmas.{KeepsMasterLimit, counts}
use Rattle.edit_laws.proofs.CountLemmas.{becomes-all, becomes-sum, described_len, headers-count, headers-described, headers-short, passed-most, spot-count, spot-described, spot-short, void-undescribed}
use Rattle.edit_laws.proofs.ResultLemmas.{cluster-kept, events-skip, first-behind, first-moved, first-skips, first-stays}
use Rattle.edit_laws.proofs.FillLemmas.{IsFilled, Stands as FillsRoom, small-widen}
use Rattle.edit_laws.proofs.HeldLemmas.{IsWritten, attached-same, data-same, first-tree, in-place, same-blocks, same-undamaged}
use Rattle.edit_laws.proofs.ItemLemmas.{AreDistinct, IsAnew, IsInside, IsItem, IsName, Item, goes-on, write_of}
use Rattle.edit_laws.proofs.OpenedLemmas.{IsOpened}
use Rattle.edit_laws.proofs.EndLemmas.{CanGrow, alone-first, bound-total, ends-total, extent-last, last-total, touches-size}
use Rattle.edit_laws.proofs.MoveLemmas.{moved, moved-anew}
use Rattle.edit_laws.proofs.RoomLemmas.{tiles-stand}
use Rattle.edit_laws.proofs.StayLemmas.{same-length, same-outside, stays, stays-anew}
use Rattle.edit_laws.proofs.WriteLemmas.{adds_void, described_there, inside-room, moves_from, one-ascending, one-items, touches-append, touches-ascending, touches-items, writes_of}
use Rattle.edit_laws.specs.Laws.{IsOutside, attached_data}

-- ---- content that stays

-- No Element with the ID `id` is rewritten or follows the old end. The ID ends a Cluster and isn't the Cluster's own.
pub record IsUntouched (items : List Item) (added : List Element) (id : ℕ) : Type 0 where
  pub level : ends_cluster id ≡ true
  pub other : (id == CLUSTER) ≡ false
  pub written : All (λ (i : Item). (i.element.id == id) ≡ false) items
  pub behind : All (λ (d : Element). (d.id == id) ≡ false) added

-- The Cluster `h` of the old content is in the new one, too, and gives the same blocks.
pub record HoldsCluster (old new : List ℕ) (was now h : Header) : Type 0 where
  pub found : element_at in_segment new h.offset (segment_bound new now) ≡ Ok h
  pub alike : (r : Rules) → AreAlike (found_in r old (segment_bound old was) h) (found_in r new (segment_bound new now) h)

-- The new content holds the rest of the old one. Level 1 is undamaged. Clusters, blocks and other Elements that aren't rewritten stay in their
-- places, and no damage is added. A rewritten Element is in its place; or, if it is the only one with its ID, after the old end or nowhere. Each adds a
-- Void at most.
pub record HoldsRest (old new : List ℕ) (o : FileOutline) (was : List Header) (items : List Item) (added : List Element) : Type 0 where
  pub segment : Header
  pub ebml : ebml_header new ≡ Ok o.ebml
  pub found : segment_of new o.ebml ≡ Ok segment
  pub body : segment.body ≡ o.segment.body
  pub list : List Header
  pub end : ℕ
  pub run : segment_run new segment ≡ whole list end
  pub held : HoldsAt new (length old) (joined added)
  pub same : (id : ℕ) → IsUntouched items added id → first_of id list ≡ first_of id was
  pub tree : (id : ℕ) → IsUntouched items added id → first_tree id new segment ≡ first_tree id old o.segment
  pub attached : (files : List AttachedFile) → IsUntouched items added ATTACHMENTS → first_attached old o.segment ≡ Ok files → first_attached new segment ≡ Ok files
  pub file_data : (files : List AttachedFile) → IsUntouched items added ATTACHMENTS → first_attached old o.segment ≡ Ok files → attached_data new segment ≡ attached_data old o.segment
  pub blocks : (r : Rules) → blocks_of (events_of r new segment) ≡ blocks_of (events_of r old o.segment)
  pub undamaged : (r : Rules) → damages_of (events_of r old o.segment) ≡ [] → damages_of (events_of r new segment) ≡ []
  pub count : sum_by counts list ≤ sum_by counts was + sum_by (adds_void (others_of was)) items + length added
  pub described : sum_by described_octets list ≤ sum_by described_octets was + sum_by (described_there (others_of was)) items + sum_by described_len added
  pub short : All KeepsMasterLimit was → All (λ (i : Item). described_len i.element ≤ MAX_MASTER_LEN) items → All (λ (d : Element). described_len d ≤ MAX_MASTER_LEN) added → All KeepsMasterLimit list
  pub clusters : (h : Header) → (h.id == CLUSTER) ≡ true → IsAmong was h → HoldsCluster old new o.segment segment h
  pub stays : (i : Item) → IsAmong items i → length (octets_of i.element) ≤ span_of i.header (others_of was) → (w : IsWritten new i.element.id i.element.body list) × (w.place ≡ i.header.offset)
  pub moves : (i : Item) → IsAmong items i → span_of i.header (others_of was) < length (octets_of i.element) → number_of i.element.id (others_of was) ≤ 1
      → first_of i.element.id list ≡ first_of i.element.id (headers_in_place (length old) added)
  pub joins : (id : ℕ) → ends_cluster id ≡ true → All (λ (i : Item). (i.element.id == id) ≡ false) items → first_of id was ≡ None
      → first_of id list ≡ first_of id (headers_in_place (length old) added)

-- ---- items

-- A short Element can be rewritten.
pub small-item : (others : List Header) (id : ℕ) (body : List ℕ) (h : Header) → IsName id → is_id id ≡ true → first_of id others ≡ Some h → length (octets_of (element id body)) ≤ 2 ^ 24 → IsItem others (record { header = h; element = element id body })
small-item others id body h name valid first few =
    let all = length-octets_of (element id body) in
    record { first = first; name = name; widen = small-widen id body valid (omega arith) }

-- ---- bytes

-- Two sequences of bytes follow each other.
held-join : (bytes : List ℕ) (p : ℕ) (a b : List ℕ) → HoldsAt bytes p a → HoldsAt bytes (p + length a) b → HoldsAt bytes p (a ++ b)
held-join bytes p a b one two =
    let len = length-append a b in
    ap (octets_between bytes p) (let end : p + length (a ++ b) ≡ p + length a + length b = omega arith in end)
    ∙ between-split bytes p (p + length a) (p + length a + length b) (omega arith) (omega arith)
    ∙ ap₂ (λ x y. x ++ y) one two

held-nothing : (bytes : List ℕ) (p : ℕ) → HoldsAt bytes p []
held-nothing bytes p = let len = length-octets_between bytes p (p + 0) in of (octets_between bytes p (p + 0)) (omega arith)
  where
    of : (l : List ℕ) → length l ≡ 0 → l ≡ []
    of [] is = refl
    of (x ∷ xs) is = absurd (omega arith)

-- ---- results of the new list

module _ (t : Edit) (o : FileOutline) (items : List Item) (added : List Element) (now : Header) (anew : IsAnew t items)
    (old_run : segment_run t.old o.segment ≡ whole t.list t.last) (new_run : segment_run t.new now ≡ run_of (new_level t) t.start)
    (old_bound : segment_bound t.old o.segment ≡ t.end) (new_bound : segment_bound t.new now ≡ t.now_end)
    (are : All (IsItem (others_of t.list)) items) (behind : t.behind ≡ headers_in_place (length t.old) added) (none : All (λ (d : Element). (d.id == CLUSTER) ≡ false) added) where
  none-behind : (id : ℕ) → All (λ (d : Element). (d.id == id) ≡ false) added → first_of id t.behind ≡ None
  none-behind id others =
      ap (first_of id) (behind ∙ sym (append-nil (headers_in_place (length t.old) added))) ∙ first-skips id (length t.old) added [] others

  no-events : (r : Rules) → events_among r t.new t.now_end t.behind None ≡ []
  no-events r =
      ap (λ l. events_among r t.new t.now_end l None) (behind ∙ sym (append-nil (headers_in_place (length t.old) added)))
      ∙ events-skip t r (length t.old) added [] none

  no-cluster : All (λ (i : Item). (i.element.id == CLUSTER) ≡ false) items
  no-cluster = All-weaker (IsItem (others_of t.list)) (λ (i : Item). (i.element.id == CLUSTER) ≡ false) (λ i is. is.name.cluster) items are

  cluster-holds : (h : Header) → (h.id == CLUSTER) ≡ true → IsAmong t.list h → HoldsCluster t.old t.new o.segment now h
  cluster-holds h cluster ahead =
      let keeps = cluster-kept t h cluster t.list anew.listed.list anew.listed.becomes ahead in
      record {
        found = subst (λ e. element_at in_segment t.new h.offset e ≡ Ok h) (sym new_bound) keeps.found;
        alike = λ r.
            subst (λ e. AreAlike (found_in r t.old e h) (found_in r t.new (segment_bound t.new now) h)) (sym old_bound)
            (subst (λ e. AreAlike (found_in r t.old t.end h) (found_in r t.new e h)) (sym new_bound) (keeps.alike r));
      }

  -- A rewritten Element.
  module _ (i : Item) (member : IsAmong items i) where
    is : IsItem (others_of t.list) i
    is = all-among (IsItem (others_of t.list)) items i are member

    abbrev fill : IsFilled t.new i.header.offset (span_of i.header (others_of t.list)) i.element
    fill = (anew.spots i member).0

    abbrev spot : Spot
    spot = record { header = i.header; now = fill.now; voids = fill.voids }

    in_them : IsAmong t.spots spot
    in_them = (anew.spots i member).1

    own : i.header.id ≡ i.element.id
    own = first-own i.element.id (others_of t.list) i.header is.first

    first : first_of i.element.id t.list ≡ Some i.header
    first = sym (first_in-others i.element.id t.list is.name.cluster) ∙ is.first

    holds-spot : IsSpot t spot
    holds-spot = all-among (IsSpot t) t.spots spot anew.edit.spots in_them

    item-stays : length (octets_of i.element) ≤ span_of i.header (others_of t.list) → (w : IsWritten t.new i.element.id i.element.body anew.listed.list) × (w.place ≡ i.header.offset)
    item-stays fits = elim fill.is [
      | inl (same, body, room) ↦ (in-place t anew.listed o.segment now old_run new_run old_bound new_bound spot in_them holds-spot i.element.id i.element.body own is.name.level (anew.single spot in_them) first same body, refl)
      | inr (void, alone, long) ↦ absurd (omega arith)
    ]

    item-moves : span_of i.header (others_of t.list) < length (octets_of i.element) → number_of i.element.id (others_of t.list) ≤ 1 → first_of i.element.id anew.listed.list ≡ first_of i.element.id (headers_in_place (length t.old) added)
    item-moves long few = elim fill.is [
      | inl (same, body, room) ↦ absurd (omega arith)
      | inr (void, alone, more) ↦
          first-moved t spot in_them holds-spot i.element.id own is.name.level (anew.single spot in_them) void t.list anew.listed.list (alone-first i.element.id t.list i.header is.name.cluster few first) anew.listed.becomes
          ∙ ap (first_of i.element.id) behind
    ]

  -- ---- the number and the length of the new Elements

  old-tiles : Tiles (level t.old o.segment.size (segment_bound t.old o.segment)) o.segment.body t.list t.last
  old-tiles = (tiled (level t.old o.segment.size (segment_bound t.old o.segment)) o.segment.body t.last t.list (advances-level t.old o.segment.size (segment_bound t.old o.segment)) old_run).tiles

  -- The sum over the new Elements is at most the old sum, what the items add, and the sum over the Elements after the old end.
  sum-most : (f : Header → ℕ) (x : Spot → ℕ) (g : Item → ℕ) → ((s : Spot) → IsAmong t.spots s → IsSpot t s → sum_by f (headers_in_place s.header.offset (all_now s)) ≤ f s.header + x s)
      → ((i : Item) → IsAmong items i → (fill : IsFilled t.new i.header.offset (span_of i.header (others_of t.list)) i.element) → x (record { header = i.header; now = fill.now; voids = fill.voids }) ≤ g i)
      → sum_by f anew.listed.list ≤ sum_by f t.list + sum_by g items + sum_by f (headers_in_place (length t.old) added)
  sum-most f x g spots each =
      let all = becomes-sum t f x spots t.list anew.listed.list anew.listed.becomes in
      let some = passed-most (level t.old o.segment.size (segment_bound t.old o.segment)) (advances-level t.old o.segment.size (segment_bound t.old o.segment)) x t.spots o.segment.body t.last t.list old-tiles in
      let total = anew.totals x g each in
      let tail : sum_by f t.behind ≡ sum_by f (headers_in_place (length t.old) added) = ap (sum_by f) behind in
      omega arith

  -- A filled room has a Void after its Element, or a Void alone.
  fill-count : (i : Item) (fill : IsFilled t.new i.header.offset (span_of i.header (others_of t.list)) i.element) → length fill.voids ≤ adds_void (others_of t.list) i
  fill-count i fill = of (moves_from (others_of t.list) i) refl fill.is
    where
      of : (test : Bool) → moves_from (others_of t.list) i ≡ test → FillsRoom fill.now fill.voids (span_of i.header (others_of t.list)) i.element → length fill.voids ≤ (if test then 0 else 1)
      of true is (inl (same, body, room)) = absurd (let wrong : span_of i.header (others_of t.list) < length (octets_of i.element) = grind (arith, nat_tests) in omega arith)
      of true is (inr (void, alone, long)) = (let none : length fill.voids ≡ 0 = ap (λ (l : List Element). length l) alone in omega arith)
      of false is filled = fill.few

  fill-described : (i : Item) (fill : IsFilled t.new i.header.offset (span_of i.header (others_of t.list)) i.element) → described_len fill.now ≤ described_there (others_of t.list) i
  fill-described i fill = of (moves_from (others_of t.list) i) refl fill.is
    where
      of : (test : Bool) → moves_from (others_of t.list) i ≡ test → FillsRoom fill.now fill.voids (span_of i.header (others_of t.list)) i.element → described_len fill.now ≤ (if test then 0 else described_len i.element)
      of true is (inl (same, body, room)) = absurd (let wrong : span_of i.header (others_of t.list) < length (octets_of i.element) = grind (arith, nat_tests) in omega arith)
      of true is (inr (void, alone, long)) = (let none = void-undescribed fill.now void in omega arith)
      of false is (inl (same, body, room)) = (let equal : described_len fill.now ≡ described_len i.element = ap₂ (λ n (l : List ℕ). if is_described n then length l else 0) same body in omega arith)
      of false is (inr (void, alone, long)) = (let none = void-undescribed fill.now void in omega arith)

  count-most : sum_by counts anew.listed.list ≤ sum_by counts t.list + sum_by (adds_void (others_of t.list)) items + length added
  count-most =
      let all = sum-most counts (λ (s : Spot). length s.voids) (adds_void (others_of t.list)) (λ s member spot. spot-count t s spot) (λ i member fill. fill-count i fill) in
      let tail = headers-count (length t.old) added in
      omega arith

  described-most : sum_by described_octets anew.listed.list ≤ sum_by described_octets t.list + sum_by (described_there (others_of t.list)) items + sum_by described_len added
  described-most =
      let all = sum-most described_octets (λ (s : Spot). described_len s.now) (described_there (others_of t.list)) (λ s member spot. spot-described t s spot) (λ i member fill. fill-described i fill) in
      let tail = headers-described (length t.old) added in
      omega arith

  -- A rewritten Element keeps the limit if its item does.
  now-short : All (λ (i : Item). described_len i.element ≤ MAX_MASTER_LEN) items → (s : Spot) → IsAmong t.spots s → described_len s.now ≤ MAX_MASTER_LEN
  now-short few s member =
      let of = anew.from s member in
      let own = all-among (λ (i : Item). described_len i.element ≤ MAX_MASTER_LEN) items of.item few of.member in
      let most = fill-described of.item of.fill in
      let there = there-most of.item in
      let same : described_len of.fill.now ≡ described_len s.now = ap (λ (x : Spot). described_len x.now) of.is in
      omega arith
    where
      there-most : (i : Item) → described_there (others_of t.list) i ≤ described_len i.element
      there-most i = cases (moves_from (others_of t.list) i)
        where
          cases : (test : Bool) → (if test then 0 else described_len i.element) ≤ described_len i.element
          cases true = omega arith
          cases false = omega arith

  all-short : All KeepsMasterLimit t.list → All (λ (i : Item). described_len i.element ≤ MAX_MASTER_LEN) items → All (λ (d : Element). described_len d ≤ MAX_MASTER_LEN) added → All KeepsMasterLimit anew.listed.list
  all-short old few more =
      becomes-all t KeepsMasterLimit (λ s member spot. spot-short t s spot (now-short few s member))
      (subst (All KeepsMasterLimit) (sym behind) (headers-short (length t.old) added more)) t.list anew.listed.list old anew.listed.becomes

  rest-of : HoldsAt t.new (length t.old) (joined added) → ebml_header t.new ≡ Ok o.ebml → segment_of t.new o.ebml ≡ Ok now → now.body ≡ o.segment.body → HoldsRest t.old t.new o t.list items added
  rest-of held ebml found body = record {
    segment = now;
    ebml = ebml;
    found = found;
    body = body;
    list = anew.listed.list;
    end = anew.listed.end;
    run = new_run ∙ anew.listed.run;
    held = held;
    same = λ id is. first-stays t id is.level (anew.none id is.written) (none-behind id is.behind) t.list anew.listed.list anew.listed.becomes;
    tree = λ id is. first-tree t anew.listed o.segment now old_run new_run old_bound new_bound id is.level is.other (anew.none id is.written) (none-behind id is.behind);
    attached = λ files is old. attached-same t anew.listed o.segment now old_run new_run old_bound new_bound files (anew.none ATTACHMENTS is.written) (none-behind ATTACHMENTS is.behind) old;
    file_data = λ files is old. data-same t anew.listed o.segment now old_run new_run old_bound new_bound files (anew.none ATTACHMENTS is.written) (none-behind ATTACHMENTS is.behind) old;
    blocks = λ r. same-blocks t anew.listed o.segment now old_run new_run old_bound new_bound r (no-events r) (anew.none CLUSTER no-cluster);
    undamaged = λ r. same-undamaged t anew.listed o.segment now old_run new_run old_bound new_bound r (no-events r) (anew.none CLUSTER no-cluster);
    count = count-most;
    described = described-most;
    short = all-short;
    clusters = cluster-holds;
    stays = item-stays;
    moves = item-moves;
    joins = λ id level written nothing. first-behind t id level (anew.none id written) t.list anew.listed.list anew.listed.becomes nothing ∙ ap (first_of id) behind;
  }

-- ---- the two contents

module _ (bytes : List ℕ) (are_octets : AreOctets bytes) (short : length bytes ≤ LONGEST_FILE) (o : FileOutline) (ws : List Write) (op : IsOpened bytes o) (undamaged : o.damage ≡ None)
    (order : InOrder (length bytes) 0 ws) (outside_all : All IsOutside (segment_run bytes o.segment).list) where
  abbrev segment : Header
  segment = o.segment

  abbrev list : List Header
  list = (segment_run bytes segment).list

  abbrev others : List Header
  others = others_of list

  abbrev last : ℕ
  last = (segment_run bytes segment).end

  abbrev end : ℕ
  end = segment_bound bytes segment

  abbrev total : ℕ
  total = length bytes

  abbrev new : List ℕ
  new = applied bytes ws

  run : run_of (level bytes segment.size end) segment.body ≡ whole list last
  run = ap (λ d. record { list = list; damage = d; end = last }) (sym op.damage ∙ undamaged)

  seg : IsSegment bytes o.ebml segment
  seg = segment-is bytes o.ebml segment op.segment

  body-inside : segment.body ≤ length bytes
  body-inside = (element_at-placed at_level_0 bytes segment.offset (length bytes) segment (omega (arith, seg.inside)) seg.found).within

  body-later : segment.offset < segment.body
  body-later = (element_at-placed at_level_0 bytes segment.offset (length bytes) segment (omega (arith, seg.inside)) seg.found).later

  begins : segment.body ≤ end
  begins = of (is_unknown segment.size)
    where
      of : (unknown : Bool) → segment.body ≤ (if unknown then length bytes else end_in (length bytes) segment)
      of true = body-inside
      of false = omega (arith, body-inside)

  within : end ≤ length bytes
  within = bound-most bytes segment

  pub stand : Stand segment.body last others
  stand = tiles-stand bytes segment.size end segment.body last list (tiled (level bytes segment.size end) segment.body last list (advances-level bytes segment.size end) run).tiles

  -- The list ends within the file.
  pub last-within : last ≤ length bytes
  last-within =
      let reaches = level-within bytes segment.size end segment.body last list (tiled (level bytes segment.size end) segment.body last list (advances-level bytes segment.size end) run).tiles begins in
      omega (arith, reaches, within)

  offset-long : 4 ≤ segment.offset
  offset-long =
      let long = header-long bytes o.ebml op.ebml in
      let before = seg.before in omega arith

  blocks : (h : Header) → IsAmong list h → ends_cluster h.id ≡ false → IsOutside h
  blocks h ahead goes = all-among IsOutside list h outside_all ahead

  -- ---- nothing follows the old end

  module _ (items : List Item) (are : All (IsItem others) items) (distinct : AreDistinct items) (is_ws : ascending (writes_of others items) ≡ ws) where
    one : All (λ (i : Item). IsAmong ws (write_of others i)) items
    one = subst (λ (vs : List Write). All (λ (i : Item). IsAmong vs (write_of others i)) items) is_ws
        (All-weaker (λ (i : Item). IsAmong (writes_of others items) (write_of others i)) (λ (i : Item). IsAmong (ascending (writes_of others items)) (write_of others i)) (λ i is. one-ascending (writes_of others items) (write_of others i) is) items (one-items others items))

    touch : (k : ℕ) → WritesOctet ws k → IsInside others items k
    touch k touched =
        touches-items segment.body last others stand items k are
        (touches-ascending (writes_of others items) k (subst (λ (vs : List Write). WritesOctet vs k) (sym is_ws) touched))

    len : length new ≡ length bytes
    len = same-length bytes segment.size segment.body end last list items ws short within begins run order are one touch blocks

    front-same : AreSame bytes new 0 segment.body
    front-same = same-outside bytes segment.size segment.body end last list items ws short within begins run order are one touch blocks 0 segment.body body-inside (inl (omega arith))

    abbrev edit-is : Edit
    edit-is = stays bytes segment.size segment.body end last list items ws short within begins run order are one touch blocks

    bound-same : segment_bound new segment ≡ end
    bound-same = ap (λ n. if is_unknown segment.size then n else end_in n segment) len

    new-run : segment_run new segment ≡ run_of (level new segment.size end) segment.body
    new-run = ap (λ n. level_1 new segment.size segment.body n) bound-same

    there : element_at at_level_0 new segment.offset (length new) ≡ Ok segment
    there =
        let inside = seg.inside in let later = body-later in let short_body = body-inside in
        found-same ((at_level_0).may_open) ((at_level_0).may_open) bytes new segment.offset (length bytes) (length new) segment (omega arith) seg.found (omega (arith, len))
        (same-part bytes new 0 segment.body segment.offset segment.body (omega arith) (omega arith) (omega arith) front-same)
        (ap (λ n. body_damage at_level_0 n n segment) len ∙ found-sound ((at_level_0).may_open) bytes segment.offset (length bytes) segment seg.found)

    front-part : AreSame bytes new 0 segment.offset
    front-part = same-part bytes new 0 segment.body 0 segment.offset (omega arith) (omega arith) (omega (arith, body-later)) front-same

    -- The content that stays if nothing follows the old end.
    pub rest-stays : HoldsRest bytes new o list items []
    rest-stays =
        rest-of edit-is o items [] segment
        (stays-anew bytes segment.size segment.body end last list items ws short within begins run order are one touch blocks distinct)
        run new-run refl bound-same are refl (All-nil (λ (d : Element). (d.id == CLUSTER) ≡ false))
        (held-nothing new total)
        (header-same bytes new o.ebml segment.offset front-part offset-long seg.before (omega (arith, seg.inside)) (omega (arith, len)) op.ebml)
        (segment-same bytes new o.ebml segment segment seg (omega (arith, len)) front-part there seg.own)
        refl

  -- ---- Elements follow the old end

  module _ (items : List Item) (are : All (IsItem others) items) (distinct : AreDistinct items) (grow : CanGrow o) (first : Element) (more : List Element)
      (elements : All IsElement (first ∷ more)) (names : All (λ (d : Element). IsName d.id) (first ∷ more)) (few : length (joined (first ∷ more)) ≤ 2 ^ 24)
      (size_fits : size_refusal o.segment (length bytes + length (joined (first ∷ more))) ≡ None)
      (is_ws : size_writes o.segment (length bytes + length (joined (first ∷ more))) ++ ascending (writes_of (others_of (segment_run bytes o.segment).list) items) ++ write (length bytes) (joined (first ∷ more)) ∷ [] ≡ ws) where
    abbrev added : List ℕ
    added = joined (first ∷ more)

    abbrev now_end : ℕ
    now_end = total + length added

    abbrev front : List Write
    front = size_writes segment now_end

    abbrev middle : List Write
    middle = ascending (writes_of others items)

    abbrev tail_write : Write
    tail_write = write total added

    one-moving : All (λ (i : Item). IsAmong ws (write_of others i)) items
    one-moving = subst (λ (vs : List Write). All (λ (i : Item). IsAmong vs (write_of others i)) items) is_ws
        (All-weaker (λ (i : Item). IsAmong (writes_of others items) (write_of others i)) (λ (i : Item). IsAmong (front ++ middle ++ tail_write ∷ []) (write_of others i))
        (λ i is. among-left (front ++ middle) (tail_write ∷ []) (write_of others i) (among-right front middle (write_of others i) (one-ascending (writes_of others items) (write_of others i) is))) items (one-items others items))

    -- The places of written bytes.
    where-written : (k : ℕ) → WritesOctet ws k → ((segment.offset + length (id_octets SEGMENT) ≤ k) × (k < segment.body)) ⊎ ((total ≤ k) ⊎ IsInside others items k)
    where-written k touched = elim (touches-append (front ++ middle) (tail_write ∷ []) k (subst (λ (vs : List Write). WritesOctet vs k) (sym is_ws) touched)) [
      | inl before ↦ elim (touches-append front middle k before) [
        | inl size ↦ inl (touches-size segment now_end k size)
        | inr mid ↦ inr (inr (touches-items segment.body last others stand items k are (touches-ascending (writes_of others items) k mid)))
      ]
      | inr behind ↦ elim behind [
        | inl here ↦ inr (inl here.0)
        | inr none ↦ absurd none
      ]
    ]

    touch-moving : (k : ℕ) → WritesOctet ws k → (k < segment.body) ⊎ ((total ≤ k) ⊎ IsInside others items k)
    touch-moving k touched = elim (where-written k touched) [ inl size ↦ inl size.1 | inr rest ↦ inr rest ]

    -- ---- length of the file

    inside-front : (k : ℕ) → WritesOctet (front ++ middle) k → k < total
    inside-front k touched = elim (touches-append front middle k touched) [
      | inl size ↦ (let is = touches-size segment now_end k size in let before = is.1 in let most = body-inside in omega arith)
      | inr mid ↦ (let is = inside-room segment.body last others stand items k are (touches-items segment.body last others stand items k are (touches-ascending (writes_of others items) k mid)) in let right = is.1 in let ends = last-total bytes o op undamaged grow body-inside run in omega arith)
    ]

    order-is : InOrder total 0 (front ++ middle ++ tail_write ∷ [])
    order-is = subst (InOrder total 0) (sym is_ws) order

    grown-len : length new ≡ now_end
    grown-len =
        length-applied bytes ws (order-fits total 0 total ws (omega arith) (omega arith) order)
        ∙ ap (extent total) (sym is_ws)
        ∙ extent-last total (front ++ middle) tail_write order-is inside-front (omega arith)

    added-held : HoldsAt new total added
    added-held = order-held total ws bytes tail_write refl order (subst (λ (vs : List Write). IsAmong vs tail_write) is_ws (among-right (front ++ middle) (tail_write ∷ []) tail_write (inl refl))) (omega (arith, grown-len))

    -- ---- level 1

    abbrev now_size : Size
    now_size = if is_unknown segment.size then segment.size else Known (now_end - segment.body)

    added-go : All (λ (d : Element). ends_segment now_size d.id ≡ false) (first ∷ more)
    added-go = All-weaker (λ (d : Element). IsName d.id) (λ (d : Element). ends_segment now_size d.id ≡ false) (λ d is. goes-on now_size d.id is.inner) (first ∷ more) names

    added-level : ends_cluster first.id ≡ true
    added-level = (All-head (λ (d : Element). IsName d.id) first more names).level

    stops : (id : ℕ) → ends_segment now_size id ≡ ends_segment segment.size id
    stops id = of segment.size
      where
        of : (z : Size) → ends_segment (if is_unknown z then z else Known (now_end - segment.body)) id ≡ ends_segment z id
        of (Known n) = refl
        of Unknown = refl

    bound-is : end ≡ total
    bound-is = bound-total bytes o op undamaged grow body-inside run

    run-moving : run_of (level bytes segment.size total) segment.body ≡ whole list total
    run-moving = ap (λ n. run_of (level bytes segment.size n) segment.body) (sym bound-is) ∙ run ∙ ap (whole list) (last-total bytes o op undamaged grow body-inside run)

    ends-moving : (h : Header) (m : ℕ) → Stands (level bytes segment.size total) h.offset h m → IsAmong list h → stated_end h ≤ total
    ends-moving h m stands ahead = ends-total bytes o op undamaged grow body-inside run h m (subst (λ n. Stands (level bytes segment.size n) h.offset h m) (sym bound-is) stands) ahead

    abbrev moving-edit : Edit
    moving-edit = moved bytes segment.size now_size segment.body list items ws first more short run-moving order are one-moving touch-moving stops ends-moving blocks grown-len added-held elements added-go added-level

    -- ---- the Segment

    -- the Segment of the new content: a known size is rewritten
    record IsNow (now : Header) : Type 0 where
      there : element_at at_level_0 new segment.offset (length new) ≡ Ok now
      own : now.id ≡ SEGMENT
      body : now.body ≡ segment.body
      size : now.size ≡ now_size

    clear-before : (p q : ℕ) → q ≤ segment.offset + length (id_octets SEGMENT) → q ≤ segment.body → q ≤ total → AreSame bytes new p q
    clear-before p q header before inside =
        same-clear ws bytes p q (order-fits total 0 total ws (omega arith) (omega arith) order) inside
        (λ k from to touched. elim (where-written k touched) [
          | inl size ↦ (let is = size.0 in let wrong : ⊥ = omega arith in wrong)
          | inr rest ↦ elim rest [
            | inl past ↦ (let wrong : ⊥ = omega arith in wrong)
            | inr room ↦ (let is = (inside-room segment.body last others stand items k are room).0 in let wrong : ⊥ = omega arith in wrong)
          ]
        ])

    clear-all : is_unknown segment.size ≡ true → (p q : ℕ) → q ≤ segment.body → AreSame bytes new p q
    clear-all unknown p q before =
        let inside = body-inside in
        same-clear ws bytes p q (order-fits total 0 total ws (omega arith) (omega arith) order) (omega arith)
        (λ k from to touched. elim (touches-append (front ++ middle) (tail_write ∷ []) k (subst (λ (vs : List Write). WritesOctet vs k) (sym is_ws) touched)) [
          | inl head_or ↦ elim (touches-append front middle k head_or) [
            | inl size ↦ no-size k size
            | inr mid ↦ (let is = (inside-room segment.body last others stand items k are (touches-items segment.body last others stand items k are (touches-ascending (writes_of others items) k mid))).0 in let wrong : ⊥ = omega arith in wrong)
          ]
          | inr behind ↦ elim behind [
            | inl here ↦ (let is = here.0 in let wrong : ⊥ = omega arith in wrong)
            | inr none ↦ none
          ]
        ])
      where
        no-size : (k : ℕ) → WritesOctet (size_writes segment now_end) k → ⊥
        no-size k touched = subst (λ (u : Bool). WritesOctet (if u then [] else write (segment.offset + length (id_octets SEGMENT)) (size_octets (now_end - segment.body) (size_width segment)) ∷ []) k) unknown touched

    now-unknown : is_unknown segment.size ≡ true → IsNow segment
    now-unknown unknown =
        let later = body-later in let inside = body-inside in let start_inside = seg.inside in
        record {
          there = found-same ((at_level_0).may_open) ((at_level_0).may_open) bytes new segment.offset total (length new) segment (omega arith) seg.found (omega (arith, grown-len))
              (clear-all unknown segment.offset segment.body (omega arith))
              (sound-longer ((at_level_0).may_open) total (length new) total (length new) segment (found-sound ((at_level_0).may_open) bytes segment.offset total segment seg.found) (omega (arith, unknown-end segment.size refl, grown-len)) (omega arith));
          own = seg.own;
          body = refl;
          size = sym (ap (λ (u : Bool). if u then segment.size else Known (now_end - segment.body)) unknown);
        }
      where
        unknown-end : (z : Size) → segment.size ≡ z → stated_end segment ≤ total
        unknown-end (Known n) is = absurd (let wrong : true ≡ false = sym unknown ∙ ap is_unknown is in cc)
        unknown-end Unknown is = let none : known segment.size ≡ 0 = ap known is in let inside = body-inside in omega arith

    now-known : is_unknown segment.size ≡ false → (now : Header) × IsNow now
    now-known known_size = of (element-written at_level_0 bytes segment.offset total segment are_octets (omega (arith, seg.inside)) refl seg.found known_size (omega (arith, grow.segment known_size, op.total)))
      where
        sized : (n : ℕ) → segment.size ≡ Known n → HasSize segment now_end
        sized n is = has-size segment now_end n is (omega (arith, few)) size_fits

        has : (z : Size) → segment.size ≡ z → HasSize segment now_end
        has (Known n) is = sized n is
        has Unknown is = absurd (let wrong : true ≡ false = ap is_unknown (sym is) ∙ known_size in cc)

        of : Written bytes segment.offset segment → (now : Header) × IsNow now
        of (d, w) =
            let z = has segment.size refl in
            let some = z.some in let fits = z.fits in let behind = z.behind in
            let own_id : d.id ≡ SEGMENT = sym (ap (λ (h : Header). h.id) w.header) ∙ seg.own in
            let head = length-header_of d in
            let id_len : length (id_octets SEGMENT) ≡ uint_width SEGMENT = length-uint_octets SEGMENT in
            let id_same : uint_width d.id ≡ uint_width SEGMENT = ap uint_width own_id in
            let body_is : segment.body ≡ segment.offset + length (header_of d) = ap (λ (h : Header). h.body) w.header in
            let most = w.piece.most in
            let width : size_width segment ≡ d.width = omega arith in
            let inside = body-inside in
            let now_body : List ℕ = octets_between new segment.body now_end in
            let body_len : length now_body ≡ now_end - segment.body = (let len = length-octets_between new segment.body now_end in omega (arith, grown-len)) in
            let e : Element = record { id = SEGMENT; width = size_width segment; body = now_body } in
            let e_head = length-header_of e in
            let e_all = length-octets_of e in
            let is_e : IsElement e = record { id_stands = subst (λ n. is_id n ≡ true) own_id w.piece.id_stands; some = omega arith; most = omega arith; fits = (let same_width : min (size_width segment) 8 ≡ size_width segment = omega arith in subst (λ n. length now_body < all_ones n) same_width (omega (arith, body_len))) } in
            let id_held : HoldsAt bytes segment.offset (id_octets SEGMENT) = held-left bytes segment.offset (id_octets SEGMENT) (size_octets (length d.body) d.width) (subst (λ n. HoldsAt bytes segment.offset (id_octets n ++ size_octets (length d.body) d.width)) own_id (held-left bytes segment.offset (header_of d) d.body w.stands)) in
            let id_now : HoldsAt new segment.offset (id_octets SEGMENT) = clear-before segment.offset (segment.offset + length (id_octets SEGMENT)) (omega arith) behind (omega arith) ∙ id_held in
            let size_one : IsAmong ws (write (segment.offset + length (id_octets SEGMENT)) (size_octets (now_end - segment.body) (size_width segment))) =
            subst (λ (vs : List Write). IsAmong vs (write (segment.offset + length (id_octets SEGMENT)) (size_octets (now_end - segment.body) (size_width segment)))) is_ws
            (among-left (front ++ middle) (tail_write ∷ []) _ (among-left front middle _
            (subst (λ (u : Bool). IsAmong (if u then [] else write (segment.offset + length (id_octets SEGMENT)) (size_octets (now_end - segment.body) (size_width segment)) ∷ []) (write (segment.offset + length (id_octets SEGMENT)) (size_octets (now_end - segment.body) (size_width segment)))) (sym known_size) (inl refl)))) in
            let size_len = length-size_octets (now_end - segment.body) (size_width segment) in
            let size_now : HoldsAt new (segment.offset + length (id_octets SEGMENT)) (size_octets (length now_body) (size_width segment)) =
            subst (λ n. HoldsAt new (segment.offset + length (id_octets SEGMENT)) (size_octets n (size_width segment))) (sym body_len)
            (order-held total ws bytes (write (segment.offset + length (id_octets SEGMENT)) (size_octets (now_end - segment.body) (size_width segment))) refl order size_one (omega (arith, grown-len))) in
            let header_now : HoldsAt new segment.offset (header_of e) = held-join new segment.offset (id_octets SEGMENT) (size_octets (length now_body) (size_width segment)) id_now size_now in
            let place : segment.offset + length (header_of e) ≡ segment.body = omega arith in
            let body_now : HoldsAt new (segment.offset + length (header_of e)) now_body = ap (λ n. octets_between new n (n + length now_body)) place ∙ ap (octets_between new segment.body) (let last_is : segment.body + length now_body ≡ now_end = omega arith in last_is) in
            let held : HoldsAt new segment.offset (octets_of e) = held-join new segment.offset (header_of e) now_body header_now body_now in (
              header_in_place segment.offset e,
              record {
                there = element_at-read at_level_0 new e segment.offset (length new) refl is_e held (omega (arith, grown-len));
                own = refl;
                body = place;
                size = ap (λ n. Known n) body_len ∙ sym (ap (λ (u : Bool). if u then segment.size else Known (now_end - segment.body)) known_size);
              },
            )

    now-is : (now : Header) × IsNow now
    now-is = of (is_unknown segment.size) refl
      where
        of : (unknown : Bool) → is_unknown segment.size ≡ unknown → (now : Header) × IsNow now
        of true unknown = (segment, now-unknown unknown)
        of false known_size = now-known known_size

    module _ (now : Header) (is : IsNow now) where
      moving-bound : segment_bound new now ≡ now_end
      moving-bound = of (is_unknown segment.size) refl
        where
          of : (unknown : Bool) → is_unknown segment.size ≡ unknown → (if is_unknown now.size then length new else end_in (length new) now) ≡ now_end
          of true unknown =
              let same : is_unknown now.size ≡ true = ap is_unknown (is.size ∙ ap (λ (u : Bool). if u then segment.size else Known (now_end - segment.body)) unknown) ∙ unknown in
              ap (λ (u : Bool). if u then length new else end_in (length new) now) same ∙ grown-len
          of false known_size =
              let same : now.size ≡ Known (now_end - segment.body) = is.size ∙ ap (λ (u : Bool). if u then segment.size else Known (now_end - segment.body)) known_size in
              let body = is.body in let inside = body-inside in
              let size_is : known now.size ≡ now_end - segment.body = ap known same in
              ap (λ (u : Bool). if u then length new else end_in (length new) now) (ap is_unknown same)
              ∙ (let end : min (now.body + known now.size) (length new) ≡ now_end = omega (arith, grown-len) in end)

      moving-run : segment_run new now ≡ run_of (level new now_size now_end) segment.body
      moving-run =
          ap (λ n. level_1 new now.size now.body n) moving-bound
          ∙ ap (λ (z : Size). level_1 new z now.body now_end) is.size
          ∙ ap (λ n. level_1 new now_size n now_end) is.body

      old-run : segment_run bytes segment ≡ whole list total
      old-run = run ∙ ap (whole list) (last-total bytes o op undamaged grow body-inside run)

      front-clear : AreSame bytes new 0 segment.offset
      front-clear = clear-before 0 segment.offset (omega arith) (omega (arith, body-later)) (omega (arith, seg.inside))

      rest-now : HoldsRest bytes new o list items (first ∷ more)
      rest-now =
          rest-of moving-edit o items (first ∷ more) now
          (moved-anew bytes segment.size now_size segment.body list items ws first more short run-moving order are one-moving touch-moving stops ends-moving blocks grown-len added-held elements added-go added-level distinct)
          old-run moving-run bound-is moving-bound are refl
          (All-weaker (λ (d : Element). IsName d.id) (λ (d : Element). (d.id == CLUSTER) ≡ false) (λ d name. name.cluster) (first ∷ more) names)
          added-held
          (header-same bytes new o.ebml segment.offset front-clear offset-long seg.before (omega (arith, seg.inside)) (omega (arith, grown-len)) op.ebml)
          (segment-same bytes new o.ebml segment now seg (omega (arith, grown-len)) front-clear is.there is.own)
          is.body

    -- The content that stays if these Elements follow the old end.
    pub rest-moves : HoldsRest bytes new o list items (first ∷ more)
    rest-moves = rest-now now-is.0 now-is.1
