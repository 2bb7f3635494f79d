-- The rewritten Elements of level 1, in both contents.
use Rattle.std.proofs.Common.{inl, inr, ◌≡◌, ◌⊎◌, ◌<◌, ◌≤◌, ℕ, ◌+◌, ◌==◌, true, false, List, [], ◌∷◌, length, get_or, All, Some, None, refl, sym, ◌∙◌, ap, subst, arith}
use Rattle.std.specs.Bool.{⊤}
use Rattle.std.specs.Prelude.{sum_by}
use Rattle.std.specs.Option.{unwrap_or}
use Rattle.std.proofs.lemmas.Bool.Decides.{nat_tests}
use Rattle.std.proofs.lemmas.List.Elements.{All-head, All-tail, All-nil, All-cons, All-weaker}
use Rattle.std.proofs.lemmas.List.Sums.{sum_by-cons}
use Rattle.ebml_numbers.specs.declared.number.Size.{Size}
use Rattle.ebml_numbers.specs.declared.number.Size.TheVariants.{Known, Unknown}
use Rattle.mkv_schema.specs.Schema.{entry_of, is_level0}
use Rattle.mkv_schema.specs.Table.{table}
use Rattle.mkv_schema.specs.declared.ids.TheConstants.{ATTACHMENTS, CHAPTERS, CLUSTER, CUES, INFO, SEEK_HEAD, TAGS, TRACKS, VOID}
use Rattle.mkv_io.specs.declared.outside.TheConstants.{LONGEST_FILE}
use Rattle.mkv_schema.specs.declared.element.Header.{Header}
use Rattle.mkv_schema.specs.Element.{in_segment, is_unknown, stated_end, end_in, body_damage}
use Rattle.mkv_schema.specs.Elements.{ends_segment, ends_cluster, ends_at}
use Rattle.mkv_schema.specs.Value.{first_of}
use Rattle.mkv_schema.proofs.ElementLemmas.{element_at-placed}
use Rattle.element_reader.specs.Collected.{others_of}
use Rattle.element_reader.proofs.OutlineLemmas.{first_in-others}
use Rattle.output_model.specs.Element.{Element, octets_of}
use Rattle.block_format.specs.Events.{is_closed}
use Rattle.sidecar_edit.specs.Writes.{Write, applied, extent, WritesOctet}
use Rattle.sidecar_edit.proofs.RedoLemmas.{length-applied, extent_grows}
use Rattle.edit_changes.specs.Span.{behind_voids, fitted, span_of, void_header}
use Rattle.edit_changes.specs.Plan.{write}
use Rattle.edit_plan.proofs.LevelLemmas.{Stand}
use Rattle.edit_plan.proofs.PartLemmas.{first-own}
use Rattle.edit_plan.proofs.VoidLemmas.{first-room, span-end, voids-least}
use Rattle.edit_laws.proofs.AmongLemmas.{IsAmong, all-among}
use Rattle.edit_laws.proofs.SameLemmas.{AreSame, same-clear, InOrder, order-fits, order-held, order-end}
use Rattle.edit_laws.proofs.TileLemmas.{level, run_of, advances-level, Stands, Tiles, whole, tiled, stands-placed, ahead-later}
use Rattle.edit_laws.proofs.LevelLemmas.{Spot, end_of, Edit, new_level, new_inner, IsSpot, IsOld, IsClear, IsEdit, IsListed, whole-known, level-becomes}
use Rattle.edit_laws.proofs.FillLemmas.{IsFilled, CanWiden, filled}
use Rattle.edit_laws.proofs.RoomLemmas.{tiles-stand, room-voids, first-there, ahead-behind}
use Rattle.edit_laws.specs.Laws.{IsOutside}

-- an Element that is rewritten: its old header, and the new Element
pub record Item : Type 0 where
  pub header : Header
  pub element : Element

-- An Element with the ID `id` can be rewritten at level 1.
pub record IsName (id : ℕ) : Type 0 where
  pub cluster : (id == CLUSTER) ≡ false
  pub void : (id == VOID) ≡ false
  pub level : ends_cluster id ≡ true
  pub inner : is_level0 id ≡ false

-- the write of the Element in its room, or of a Void there
abbrev pub write_of : List Header → Item → Write
write_of others i = write i.header.offset (unwrap_or (fitted i.element (span_of i.header others)) (void_header (span_of i.header others)))

pub record IsItem (others : List Header) (i : Item) : Type 0 where
  pub first : first_of i.element.id others ≡ Some i.header
  pub name : IsName i.element.id
  pub widen : CanWiden i.element

-- No two items have the same ID.
abbrev pub AreDistinct : List Item → Type 0
AreDistinct [] = ⊤
AreDistinct (i ∷ is) = All (λ (j : Item). (j.element.id == i.element.id) ≡ false) is × AreDistinct is

-- The byte is in the room of an item.
abbrev pub IsInside : List Header → List Item → ℕ → Type 0
IsInside others [] k = ⊥
IsInside others (i ∷ is) k = ((i.header.offset ≤ k) × (k < i.header.offset + span_of i.header others)) ⊎ IsInside others is k

-- The IDs of Elements of level 1 that are rewritten, or stay.
pub record AreNames : Type 0 where
  pub info : IsName INFO
  pub tracks : IsName TRACKS
  pub seek_head : IsName SEEK_HEAD
  pub cues : IsName CUES
  pub attachments : IsName ATTACHMENTS
  pub chapters : IsName CHAPTERS
  pub tags : IsName TAGS

pub names : AreNames
unfolding entry_of table
names = record {
  info = record { cluster = refl; void = refl; level = refl; inner = refl };
  tracks = record { cluster = refl; void = refl; level = refl; inner = refl };
  seek_head = record { cluster = refl; void = refl; level = refl; inner = refl };
  cues = record { cluster = refl; void = refl; level = refl; inner = refl };
  attachments = record { cluster = refl; void = refl; level = refl; inner = refl };
  chapters = record { cluster = refl; void = refl; level = refl; inner = refl };
  tags = record { cluster = refl; void = refl; level = refl; inner = refl };
}

void-level : is_level0 VOID ≡ false
unfolding entry_of table
void-level = refl

pub goes-on : (size : Size) (id : ℕ) → is_level0 id ≡ false → ends_segment size id ≡ false
goes-on (Known n) id is = refl
goes-on Unknown id is = is

-- A fact about each of several Elements in sequence.
tiles-all : (bytes : List ℕ) (size : Size) (e p q : ℕ) (hs : List Header) (P : Header → Type 0) → Tiles (level bytes size e) p hs q
    → ((h : Header) (m : ℕ) → Stands (level bytes size e) h.offset h m → IsAmong hs h → P h) → All P hs
tiles-all bytes size e p q [] P tiles each = All-nil P
tiles-all bytes size e p q (h ∷ hs) P (m, stands, rest) each =
    let at = (stands-placed (level bytes size e) p m h (advances-level bytes size e) stands).0 in
    All-cons P h hs (each h m (subst (λ k. Stands (level bytes size e) k h m) (sym at) stands) (inl refl))
    (tiles-all bytes size e m q hs P rest (λ g k there ahead. each g k there (inr ahead)))

-- The Element `h` can be in the other content, too.
pub record CanKeep (a b : List ℕ) (e e' : ℕ) (h : Header) : Type 0 where
  pub sound : body_damage in_segment (length b) e' h ≡ None
  pub ends : is_unknown h.size ≡ false → end_in e' h ≡ end_in e h
  pub closed : is_closed (length b) h ≡ is_closed (length a) h

-- The spot `s` is the filled room of an item.
pub record IsSpotOf (t : Edit) (items : List Item) (s : Spot) : Type 0 where
  pub item : Item
  pub member : IsAmong items item
  pub fill : IsFilled t.new item.header.offset (span_of item.header (others_of t.list)) item.element
  pub is : record { header = item.header; now = fill.now; voids = fill.voids } ≡ s

-- The old Elements of level 1 become the new ones, and each rewritten item has its own spot.
pub record IsAnew (t : Edit) (items : List Item) : Type 0 where
  pub listed : IsListed t t.list t.start
  pub edit : IsEdit t
  pub none : (id : ℕ) → All (λ (i : Item). (i.element.id == id) ≡ false) items → All (λ (s : Spot). (s.header.id == id) ≡ false) t.spots
  pub spots : (i : Item) → IsAmong items i → (f : IsFilled t.new i.header.offset (span_of i.header (others_of t.list)) i.element) × IsAmong t.spots (record { header = i.header; now = f.now; voids = f.voids })
  pub single : (s : Spot) → IsAmong t.spots s → All (λ (o : Spot). o.header ≡ s.header → o ≡ s) t.spots
  pub from : (s : Spot) → IsAmong t.spots s → IsSpotOf t items s
  pub totals : (x : Spot → ℕ) (g : Item → ℕ)
      → ((i : Item) → IsAmong items i → (f : IsFilled t.new i.header.offset (span_of i.header (others_of t.list)) i.element) → x (record { header = i.header; now = f.now; voids = f.voids }) ≤ g i)
      → sum_by x t.spots ≤ sum_by g items

module _ (bytes : List ℕ) (size now_size : Size) (start e now_end last : ℕ) (list : List Header) (items : List Item) (ws : List Write) (behind : List Header)
    (short : length bytes ≤ LONGEST_FILE) (within : e ≤ length bytes) (longer : e ≤ now_end) (reaches : last ≤ e)
    (run : run_of (level bytes size e) start ≡ whole list last)
    (order : InOrder (length bytes) 0 ws) (are : All (IsItem (others_of list)) items) (one : All (λ (i : Item). IsAmong ws (write_of (others_of list) i)) items)
    (touch : (k : ℕ) → WritesOctet ws k → (k < start) ⊎ ((length bytes ≤ k) ⊎ IsInside (others_of list) items k)) where
  abbrev pub new : List ℕ
  new = applied bytes ws

  abbrev pub others : List Header
  others = others_of list

  tiles : Tiles (level bytes size e) start list last
  tiles = (tiled (level bytes size e) start last list (advances-level bytes size e) run).tiles

  stand : Stand start last others
  stand = tiles-stand bytes size e start last list tiles

  len : length new ≡ extent (length bytes) ws
  len = length-applied bytes ws (order-fits (length bytes) 0 (length bytes) ws (omega arith) (omega arith) order)

  grows : length bytes ≤ length new
  grows = omega (arith, len, extent_grows (length bytes) ws)

  -- ---- one item

  abbrev pub Filled : Item → Type 0
  Filled i = IsFilled new i.header.offset (span_of i.header others) i.element

  pub fill : (i : Item) → IsItem others i → IsAmong ws (write_of others i) → Filled i
  fill i is in_them =
      let room = first-room i.element.id start last others i.header stand is.first in
      let least = room.least in let inside = room.inside in let more = grows in
      let end = order-end (length bytes) 0 (length bytes) ws (write_of others i) order in_them in
      filled new i.header.offset (span_of i.header others) i.element is.widen least (omega arith) (omega arith)
      (order-held (length bytes) ws bytes (write_of others i) refl order in_them (omega (arith, len)))

  abbrev pub spot : (i : Item) → Filled i → Spot
  spot i f = record { header = i.header; now = f.now; voids = f.voids }

  end-is : (i : Item) (is : IsItem others i) (f : Filled i) → end_of (spot i f) ≡ behind_voids (stated_end i.header) others
  end-is i is f =
      let end = span-end i.element.id start last others i.header stand is.first in
      let all = f.len in
      omega arith

  abbrev pub spots : (is : List Item) → All (IsItem others) is → All (λ (i : Item). IsAmong ws (write_of others i)) is → List Spot
  spots [] are one = []
  spots (i ∷ is) are one =
      spot i (fill i (All-head (IsItem others) i is are) (All-head (λ (i : Item). IsAmong ws (write_of others i)) i is one))
      ∷ spots is (All-tail (IsItem others) i is are) (All-tail (λ (i : Item). IsAmong ws (write_of others i)) i is one)

  abbrev pub edit : Edit
  edit = record { old = bytes; new = new; size = size; now_size = now_size; start = start; end = e; now_end = now_end; list = list; spots = spots items are one; behind = behind; last = last }

  spot-is : (i : Item) (is : IsItem others i) (f : Filled i) → IsSpot edit (spot i f)
  spot-is i is f =
      let name = is.name in
      let first : first_of i.element.id list ≡ Some i.header = sym (first_in-others i.element.id list name.cluster) ∙ is.first in
      let there = first-there bytes size e i.element.id start last list i.header tiles first in
      let stands = there.stands in
      let own = there.own in
      let other : (i.header.id == CLUSTER) ≡ false = ap (λ n. n == CLUSTER) own ∙ name.cluster in
      let known = whole-known bytes size i.header.offset e there.next i.header stands other in
      let room = first-room i.element.id start last others i.header stand is.first in
      let inside = room.inside in
      let end = end-is i is f in
      let all = f.len in
      let least = voids-least (stated_end i.header) start last others stand in
      record {
        inside = stands.inside;
        found = stands.found;
        known = known.0;
        ends = known.1;
        cluster = other;
        void = ap (λ n. n == VOID) own ∙ name.void;
        room = omega arith;
        last = omega arith;
        elements = f.elements;
        held = f.held;
        within = omega arith;
        goes = All-cons (λ (d : Element). ends_segment now_size d.id ≡ false) f.now f.voids (now-goes name f.is)
            (All-weaker (λ (d : Element). d.id ≡ VOID) (λ (d : Element). ends_segment now_size d.id ≡ false) (λ d is. ap (ends_segment now_size) is ∙ goes-on now_size VOID void-level) f.voids f.are);
        voids = f.are;
        stays = of own name f.is;
      }
    where
      now-goes : IsName i.element.id → ((f.now.id ≡ i.element.id) × (f.now.body ≡ i.element.body) × (length (octets_of i.element) ≤ span_of i.header others)) ⊎ ((f.now.id ≡ VOID) × (f.voids ≡ []) × (span_of i.header others < length (octets_of i.element))) → ends_segment now_size f.now.id ≡ false
      now-goes name (inl (same, body, fits)) = ap (ends_segment now_size) same ∙ goes-on now_size i.element.id name.inner
      now-goes name (inr (void, alone, long)) = ap (ends_segment now_size) void ∙ goes-on now_size VOID void-level

      of : i.header.id ≡ i.element.id → IsName i.element.id → ((f.now.id ≡ i.element.id) × (f.now.body ≡ i.element.body) × (length (octets_of i.element) ≤ span_of i.header others)) ⊎ ((f.now.id ≡ VOID) × (f.voids ≡ []) × (span_of i.header others < length (octets_of i.element)))
          → ((f.now.id ≡ i.header.id) × (ends_cluster i.header.id ≡ true)) ⊎ ((f.now.id ≡ VOID) × (f.voids ≡ []))
      of own name (inl (same, body, fits)) = inl (same ∙ sym own, ap ends_cluster own ∙ name.level)
      of own name (inr (void, alone, long)) = inr (void, alone)

  -- ---- all items

  spots-are : (is : List Item) (are : All (IsItem others) is) (one : All (λ (i : Item). IsAmong ws (write_of others i)) is) → All (IsSpot edit) (spots is are one)
  spots-are [] are one = All-nil (IsSpot edit)
  spots-are (i ∷ is) are one =
      All-cons (IsSpot edit) _ _ (spot-is i (All-head (IsItem others) i is are) (fill i (All-head (IsItem others) i is are) (All-head (λ (i : Item). IsAmong ws (write_of others i)) i is one)))
      (spots-are is (All-tail (IsItem others) i is are) (All-tail (λ (i : Item). IsAmong ws (write_of others i)) i is one))

  -- The spots end where their rooms do.
  ends-are : (is : List Item) (are : All (IsItem others) is) (one : All (λ (i : Item). IsAmong ws (write_of others i)) is) → All (λ (s : Spot). end_of s ≡ behind_voids (stated_end s.header) others) (spots is are one)
  ends-are [] are one = All-nil (λ (s : Spot). end_of s ≡ behind_voids (stated_end s.header) others)
  ends-are (i ∷ is) are one =
      All-cons (λ (s : Spot). end_of s ≡ behind_voids (stated_end s.header) others) _ _ (end-is i (All-head (IsItem others) i is are) (fill i (All-head (IsItem others) i is are) (All-head (λ (i : Item). IsAmong ws (write_of others i)) i is one)))
      (ends-are is (All-tail (IsItem others) i is are) (All-tail (λ (i : Item). IsAmong ws (write_of others i)) i is one))

  ahead-are : (is : List Item) (are : All (IsItem others) is) (one : All (λ (i : Item). IsAmong ws (write_of others i)) is) → All (λ (s : Spot). IsAmong list s.header) (spots is are one)
  ahead-are [] are one = All-nil (λ (s : Spot). IsAmong list s.header)
  ahead-are (i ∷ is) are one =
      let own = All-head (IsItem others) i is are in
      let name = own.name in
      let first : first_of i.element.id list ≡ Some i.header = sym (first_in-others i.element.id list name.cluster) ∙ own.first in
      All-cons (λ (s : Spot). IsAmong list s.header) _ _ (first-there bytes size e i.element.id start last list i.header tiles first).ahead
      (ahead-are is (All-tail (IsItem others) i is are) (All-tail (λ (i : Item). IsAmong ws (write_of others i)) i is one))

  -- Each item has its own spot.
  spot-in : (is : List Item) (are : All (IsItem others) is) (one : All (λ (i : Item). IsAmong ws (write_of others i)) is) (i : Item) → IsAmong is i → (f : Filled i) × IsAmong (spots is are one) (spot i f)
  spot-in [] are one i member = absurd member
  spot-in (j ∷ js) are one i (inl same) =
      let P : Item → Type 0 = λ (k : Item). (f : Filled k) × IsAmong (spots (j ∷ js) are one) (spot k f) in
      subst P same (fill j (All-head (IsItem others) j js are) (All-head (λ (i : Item). IsAmong ws (write_of others i)) j js one), inl refl)
  spot-in (j ∷ js) are one i (inr later) =
      let rest = spot-in js (All-tail (IsItem others) j js are) (All-tail (λ (i : Item). IsAmong ws (write_of others i)) j js one) i later in
      (rest.0, inr rest.1)

  -- Each spot is an item's.
  from-in : (is : List Item) (are : All (IsItem others) is) (one : All (λ (i : Item). IsAmong ws (write_of others i)) is) (s : Spot) → IsAmong (spots is are one) s → ((i : Item) → IsAmong is i → IsAmong items i) → IsSpotOf edit items s
  from-in [] are one s member in_all = absurd member
  from-in (i ∷ is) are one s (inl same) in_all = record {
    item = i;
    member = in_all i (inl refl);
    fill = fill i (All-head (IsItem others) i is are) (All-head (λ (i : Item). IsAmong ws (write_of others i)) i is one);
    is = same;
  }
  from-in (i ∷ is) are one s (inr later) in_all = from-in is (All-tail (IsItem others) i is are) (All-tail (λ (i : Item). IsAmong ws (write_of others i)) i is one) s later (λ j member. in_all j (inr member))

  -- A sum over the spots is at most the sum of what bounds each.
  totals-in : (is : List Item) (are : All (IsItem others) is) (one : All (λ (i : Item). IsAmong ws (write_of others i)) is) (x : Spot → ℕ) (g : Item → ℕ)
      → ((i : Item) → IsAmong is i → (f : Filled i) → x (spot i f) ≤ g i) → sum_by x (spots is are one) ≤ sum_by g is
  totals-in [] are one x g each = omega arith
  totals-in (i ∷ is) are one x g each =
      let f : Filled i = fill i (All-head (IsItem others) i is are) (All-head (λ (i : Item). IsAmong ws (write_of others i)) i is one) in
      let more : List Spot = spots is (All-tail (IsItem others) i is are) (All-tail (λ (i : Item). IsAmong ws (write_of others i)) i is one) in
      let here : x (spot i f) ≤ g i = each i (inl refl) f in
      let rest : sum_by x more ≤ sum_by g is = totals-in is (All-tail (IsItem others) i is are) (All-tail (λ (i : Item). IsAmong ws (write_of others i)) i is one) x g (λ j member. each j (inr member)) in
      let left : sum_by x (spot i f ∷ more) ≡ x (spot i f) + sum_by x more = sum_by-cons x (spot i f) more in
      let right : sum_by g (i ∷ is) ≡ g i + sum_by g is = sum_by-cons g i is in
      omega arith

  header-id : (i : Item) → IsItem others i → i.header.id ≡ i.element.id
  header-id i is = first-own i.element.id others i.header is.first

  -- A fact about the IDs of the items holds for the spots.
  ids-are : (P : ℕ → Type 0) (is : List Item) (are : All (IsItem others) is) (one : All (λ (i : Item). IsAmong ws (write_of others i)) is) → All (λ (i : Item). P i.element.id) is → All (λ (s : Spot). P s.header.id) (spots is are one)
  ids-are P [] are one all = All-nil (λ (s : Spot). P s.header.id)
  ids-are P (i ∷ is) are one all =
      All-cons (λ (s : Spot). P s.header.id) _ _ (subst P (sym (header-id i (All-head (IsItem others) i is are))) (All-head (λ (i : Item). P i.element.id) i is all))
      (ids-are P is (All-tail (IsItem others) i is are) (All-tail (λ (i : Item). IsAmong ws (write_of others i)) i is one) (All-tail (λ (i : Item). P i.element.id) i is all))

  -- No two spots have the same header.
  single-in : (is : List Item) (are : All (IsItem others) is) (one : All (λ (i : Item). IsAmong ws (write_of others i)) is) → AreDistinct is → (s : Spot) → IsAmong (spots is are one) s → All (λ (o : Spot). o.header ≡ s.header → o ≡ s) (spots is are one)
  single-in [] are one distinct s member = absurd member
  single-in (i ∷ is) are one distinct s (inl same) =
      let rest_ids = ids-are (λ n. (n == i.element.id) ≡ false) is (All-tail (IsItem others) i is are) (All-tail (λ (i : Item). IsAmong ws (write_of others i)) i is one) distinct.0 in
      let own = header-id i (All-head (IsItem others) i is are) in
      All-cons (λ (o : Spot). o.header ≡ s.header → o ≡ s) _ _ (λ header. same)
      (λ k d below header.
      let differs = rest_ids k d below in
      let ids : (get_or (spots is (All-tail (IsItem others) i is are) (All-tail (λ (i : Item). IsAmong ws (write_of others i)) i is one)) k d).header.id ≡ i.element.id =
      ap (λ (g : Header). g.id) header ∙ ap (λ (x : Spot). x.header.id) (sym same) ∙ own in
      absurd (let here : ((get_or (spots is (All-tail (IsItem others) i is are) (All-tail (λ (i : Item). IsAmong ws (write_of others i)) i is one)) k d).header.id == i.element.id) ≡ true = grind (arith, nat_tests) in cc))
  single-in (i ∷ is) are one distinct s (inr later) =
      let rest_ids = ids-are (λ n. (n == i.element.id) ≡ false) is (All-tail (IsItem others) i is are) (All-tail (λ (i : Item). IsAmong ws (write_of others i)) i is one) distinct.0 in
      let own = header-id i (All-head (IsItem others) i is are) in
      let differs = all-among (λ (s : Spot). (s.header.id == i.element.id) ≡ false) (spots is (All-tail (IsItem others) i is are) (All-tail (λ (i : Item). IsAmong ws (write_of others i)) i is one)) s rest_ids later in
      All-cons (λ (o : Spot). o.header ≡ s.header → o ≡ s) _ _
      (λ header. let ids : s.header.id ≡ i.element.id = sym (ap (λ (g : Header). g.id) header) ∙ own in absurd (let here : (s.header.id == i.element.id) ≡ true = grind (arith, nat_tests) in cc))
      (single-in is (All-tail (IsItem others) i is are) (All-tail (λ (i : Item). IsAmong ws (write_of others i)) i is one) distinct.1 s later)

  -- No byte is written between two places without an item.
  none-inside : (p q k : ℕ) (is : List Item) (are : All (IsItem others) is) (one : All (λ (i : Item). IsAmong ws (write_of others i)) is)
      → All (λ (s : Spot). (q ≤ s.header.offset) ⊎ (end_of s ≤ p)) (spots is are one) → p ≤ k → k < q → IsInside others is k → ⊥
  none-inside p q k [] are one clear from to inside = inside
  none-inside p q k (i ∷ is) are one clear from to (inr later) =
      none-inside p q k is (All-tail (IsItem others) i is are) (All-tail (λ (i : Item). IsAmong ws (write_of others i)) i is one) (All-tail (λ (s : Spot). (q ≤ s.header.offset) ⊎ (end_of s ≤ p)) _ _ clear) from to later
  none-inside p q k (i ∷ is) are one clear from to (inl (begins, ends)) =
      let f : Filled i = fill i (All-head (IsItem others) i is are) (All-head (λ (i : Item). IsAmong ws (write_of others i)) i is one) in
      let all = f.len in
      elim (All-head (λ (s : Spot). (q ≤ s.header.offset) ⊎ (end_of s ≤ p)) _ _ clear) [
        | inl before ↦ omega arith
        | inr past ↦ omega arith
      ]

  same-is : (p q : ℕ) → start ≤ p → p ≤ q → q ≤ e → IsClear edit p q → AreSame bytes new p q
  same-is p q from between to clear =
      same-clear ws bytes p q (order-fits (length bytes) 0 (length bytes) ws (omega arith) (omega arith) order) (omega arith)
      (λ k begins ends touched. elim (touch k touched) [
        | inl before ↦ (let wrong : ⊥ = omega arith in wrong)
        | inr rest ↦ elim rest [
          | inl past ↦ (let wrong : ⊥ = omega arith in wrong)
          | inr inside ↦ none-inside p q k items are one clear begins ends inside
        ]
      ])

  -- The new content equals the old one, except for rewritten Elements and Elements after the old end.
  module _ (now_within : now_end ≤ length new) (stops : (id : ℕ) → ends_segment now_size id ≡ ends_segment size id)
      (keep : (h : Header) (m : ℕ) → Stands (level bytes size e) h.offset h m → IsAmong list h → CanKeep bytes new e now_end h)
      (blocks : (h : Header) → IsAmong list h → ends_cluster h.id ≡ false → IsOutside h)
      (tail : run_of (new_level edit) last ≡ whole behind (run_of (new_level edit) last).end)
      (closes : run_of (new_inner edit) last ≡ ends_at last) where
    old-is : (h : Header) (m : ℕ) → Stands (level bytes size e) h.offset h m → IsAmong list h → IsOld edit h
    old-is h m stands ahead =
        let k = keep h m stands ahead in
        record {
          sound = k.sound;
          ends = k.ends;
          closed = k.closed;
          block = blocks h ahead;
          room = λ s member after before.
              let end = all-among (λ (s : Spot). end_of s ≡ behind_voids (stated_end s.header) others) (spots items are one) s (ends-are items are one) member in
              let there = all-among (λ (s : Spot). IsAmong list s.header) (spots items are one) s (ahead-are items are one) member in
              let own = all-among (IsSpot edit) (spots items are one) s (spots-are items are one) member in
              in-room h m stands ahead s own end there after before;
        }
      where
        in-room : (h : Header) (m : ℕ) → Stands (level bytes size e) h.offset h m → IsAmong list h → (s : Spot) → IsSpot edit s → end_of s ≡ behind_voids (stated_end s.header) others → IsAmong list s.header
            → s.header.offset < h.offset → h.offset < end_of s → (h.id ≡ VOID) × (stated_end h ≤ end_of s)
        in-room h m stands ahead s own end there after before =
            let behind_it = ahead-behind bytes size e start last list s.header h tiles there ahead own.cluster after in
            let from = ahead-later (level bytes size e) start last list s.header (advances-level bytes size e) tiles there in
            let header = element_at-placed in_segment bytes s.header.offset e s.header (let inside = own.inside in omega arith) own.found in
            let later = header.later in
            let void = room-voids bytes size e (stated_end s.header) start last list h (omega arith) tiles ahead behind_it (omega arith) in
            (void.0, (let ends = void.1 in omega arith))

    is-edit : IsEdit edit
    is-edit = record {
      same = same-is;
      longer = longer;
      within = within;
      now_within = now_within;
      stops = stops;
      spots = spots-are items are one;
      single = λ k d below j c under same.
          let one_end = ends-are items are one k d below in
          let other_end = ends-are items are one j c under in
          one_end ∙ ap (λ (g : Header). behind_voids (stated_end g) others) same ∙ sym other_end;
      stay = tiles-all bytes size e start last list (IsOld edit) tiles old-is;
      behind = tail;
      closes = closes;
    }

    pub anew : AreDistinct items → IsAnew edit items
    anew distinct = record {
      listed = level-becomes edit is-edit reaches run (ahead-are items are one);
      edit = is-edit;
      none = λ id written. ids-are (λ n. (n == id) ≡ false) items are one written;
      spots = spot-in items are one;
      single = single-in items are one distinct;
      from = λ s member. from-in items are one s member (λ i among. among);
      totals = totals-in items are one;
    }
