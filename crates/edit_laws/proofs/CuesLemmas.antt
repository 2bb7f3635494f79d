-- The Cues of a file with a new index: in the room of the old one, after the old end, or none.
use Rattle.std.proofs.Common.{inl, inr, ◌≡◌, ◌<◌, ◌≤◌, ℕ, ◌+◌, ◌-◌, ◌^◌, ◌==◌, ◌||◌, nat_lt, Bool, true, false, if◌then◌else◌, List, [], ◌∷◌, append-nil, length, map, replicate, All, Option, Some, None, Ok, refl, sym, ◌∙◌, ap, ap₂, subst, arith}
use Rattle.std.specs.List.{cons_option, list_any}
use Rattle.std.specs.Prelude.{IfSome, filter_map, sum_by}
use Rattle.std.specs.Option.{option_map, unwrap_or}
use Rattle.std.proofs.lemmas.Bool.{cases_lt}
use Rattle.std.proofs.lemmas.Bool.Decides.{nat_tests}
use Rattle.std.proofs.lemmas.List.{length-replicate}
use Rattle.std.proofs.lemmas.List.Elements.{All-nil, All-cons, All-head, All-tail, All-weaker}
use Rattle.ebml_numbers.specs.Number.{AreOctets, all_ones, is_id}
use Rattle.ebml_numbers.proofs.NumberLemmas.{is_id-bounds}
use Rattle.mkv_schema.specs.declared.ids.TheConstants.{ATTACHMENTS, CHAPTERS, CLUSTER, CUES, INFO, SEEK_HEAD, TAGS, TRACKS}
use Rattle.mkv_io.specs.declared.outside.TheConstants.{LONGEST_FILE}
use Rattle.mkv_schema.specs.declared.element.Header.{Header}
use Rattle.mkv_schema.specs.Elements.{ends_cluster}
use Rattle.mkv_schema.specs.Outline.{segment_run}
use Rattle.mkv_schema.specs.Value.{first_of}
use Rattle.element_reader.specs.Collected.{others_of}
use Rattle.tree_format.specs.Node.{Node, children}
use Rattle.element_reader.specs.Outline.{FileOutline}
use Rattle.element_reader.proofs.OutlineLemmas.{first_in-others}
use Rattle.output_model.specs.Cues.{point_element}
use Rattle.output_model.specs.Element.{Element, HoldsAt, IsElement, element, header_in_place, headers_in_place, joined, octets_of}
use Rattle.output_model.specs.SeekHead.{seeks_from}
use Rattle.output_model.specs.declared.places.CuePoint.{CuePoint}
use Rattle.output_model.specs.declared.places.Seek.{Seek}
use Rattle.output_model.proofs.ReadLemmas.{body_of-read, length-header_of, length-octets_of}
use Rattle.output_laws.specs.Reading.{CuesAre}
use Rattle.meta_records.specs.Records.{first_tree}
use Rattle.sidecar_edit.specs.Writes.{Write, applied}
use Rattle.edit_changes.specs.Span.{fitted, span_of, void_header}
use Rattle.edit_changes.specs.Plan.{Part, appended, elements_moving, overwrite_or_void, length_in_place, length_moving, moves, number_of, part_writes, seek_for, seek_head, seek_to, seeks, stands, write, writes_of_parts}
use Rattle.edit_changes.specs.SeekHead.{SeekHeadAt, seek_head_body, seek_head_of}
use Rattle.edit_plan.specs.Laws.{ArePartsOf, IsPartOf}
use Rattle.edit_plan.proofs.PartLemmas.{first-own}
use Rattle.edit_plan.proofs.PlanLemmas.{large-none}
use Rattle.edit_plan.proofs.SitsLemmas.{element-some}
use Rattle.edit_plan.proofs.VoidLemmas.{first-room}
use Rattle.edit_laws.proofs.SameLemmas.{InOrder}
use Rattle.edit_laws.proofs.FillLemmas.{small-widen}
use Rattle.edit_laws.proofs.HeldLemmas.{IsWritten, written-first}
use Rattle.edit_laws.proofs.ItemLemmas.{IsItem, IsName, Item, names}
use Rattle.edit_laws.proofs.OpenedLemmas.{IsOpened}
use Rattle.edit_laws.proofs.PlannedLemmas.{IsPlanned, head-read, rest-behind, rest-beside, writes-planned}
use Rattle.edit_laws.proofs.RestLemmas.{HoldsRest, IsUntouched, last-within, small-item, stand}
use Rattle.edit_laws.proofs.WriteLemmas.{AreOf, adds-most, adds-moved, adds_void, few-parts, of-writes, writes_of}
use Rattle.edit_laws.specs.Laws.{IsOutside}
use Rattle.edit_laws.specs.IndexLaws.{first_seeks}
use Rattle.reindex.specs.Plan.{cues_part, cues_parts, index_ids, new_cues}

-- ---- a Cues as it is written

cues-valid : is_id CUES ≡ true
unfolding is_id
cues-valid = refl

-- the Cues Element of points
abbrev cues_of : List CuePoint → Element
cues_of points = element CUES (joined (map point_element points))

-- A Cues that is removed is treated as one without room. A Void is written in its place, and nothing is added at the end of the file.
abbrev gone : ℕ → Element
gone room = record { id = CUES; width = 7; body = replicate room 0 }

gone-long : (room : ℕ) → room < length (octets_of (gone room))
gone-long room =
    let all = length-octets_of (gone room) in let head = length-header_of (gone room) in
    let body : length (replicate {A = ℕ} room 0) ≡ room = length-replicate room 0 in
    omega arith

gone-fitted : (room : ℕ) → fitted (gone room) room ≡ None
gone-fitted room =
    let long = gone-long room in
    let test : nat_lt room (length (octets_of (gone room))) ≡ true = grind (arith, nat_tests) in
    rw test refl

gone-item : (others : List Header) (h : Header) (room : ℕ) → first_of CUES others ≡ Some h → room ≤ 2 ^ 48 → IsItem others (record { header = h; element = gone room })
gone-item others h room first short =
    let body : length (replicate {A = ℕ} room 0) ≡ room = length-replicate room 0 in
    record {
      first = first;
      name = names.cues;
      widen = record {
        own = record { id_stands = cues-valid; some = omega arith; most = omega arith; fits = (let fit : 2 ^ 48 < all_ones 7 = omega arith in omega arith) };
        wide = omega arith;
        fits = (let fit : 2 ^ 48 < all_ones 8 = omega arith in omega arith);
      };
    }

-- ---- its part of the plan

-- A single part is a plan without a second part of its ID.
one-part : (list : List Header) (p : Part) → IsPartOf list p → ArePartsOf list (p ∷ [])
one-part list p is = record { few = omega arith; parts = All-cons (IsPartOf list) p [] is (All-nil (IsPartOf list)); distinct = λ i j d less below. absurd (omega arith) }

pub cues-are : (list : List Header) (first : Option Header) (new : Option Element) → first_of CUES list ≡ first → IfSome new (λ e. e.id ≡ CUES) → ArePartsOf list (cues_parts list first new)
cues-are list None None is own = record { few = omega arith; parts = All-nil (IsPartOf list); distinct = λ i j d less below. absurd (omega arith) }
cues-are list None (Some e) is own =
    one-part list (cues_part 0 0 (Some e)) (record { valid = cues-valid; void = refl; seek_head = refl; new = own; old = λ stood. absurd (cc) })
cues-are list (Some h) new is own =
    one-part list (cues_part h.offset (span_of h list) new)
    (record { valid = cues-valid; void = refl; seek_head = refl; new = own; old = λ stood. record { header = h; first = is; place = refl; room = refl } })

pub new-own : (points : List CuePoint) → IfSome (new_cues points) (λ e. e.id ≡ CUES)
new-own [] = tt
new-own (p ∷ ps) = refl

-- ---- new content

-- The content `new` holds the rest of `old`. It has a Cues Element with the points `points`, or none, and a SeekHead with the new places.
pub record HoldsCues (old new : List ℕ) (o : FileOutline) (points : List CuePoint) : Type 0 where
  pub items : List Item
  pub added : List Element
  pub rest : HoldsRest old new o (segment_run old o.segment).list items added
  pub untouched : (id : ℕ) → ends_cluster id ≡ true → (id == CLUSTER) ≡ false → (SEEK_HEAD == id) ≡ false → (CUES == id) ≡ false → IsUntouched items added id
  pub few : sum_by (adds_void (others_of (segment_run old o.segment).list)) items + length added ≤ 2
  pub cues : CuesAre new rest.list points
  pub old_head : Node
  pub read : first_tree SEEK_HEAD old o.segment ≡ Ok (Some old_head)
  pub seeks : IsWritten new SEEK_HEAD (seek_head_body index_ids (first_seeks index_ids o.segment.body rest.list) (children old_head)) rest.list

untouched-by : (head : Item) (items : List Item) (added : List Element) → head.element.id ≡ SEEK_HEAD → All (λ (i : Item). i.element.id ≡ CUES) items → All (λ (d : Element). d.id ≡ CUES) added
    → (id : ℕ) → ends_cluster id ≡ true → (id == CLUSTER) ≡ false → (SEEK_HEAD == id) ≡ false → (CUES == id) ≡ false → IsUntouched (head ∷ items) added id
untouched-by head items added own are behind id level other seek cues = record {
  level = level;
  other = other;
  written = All-cons (λ (i : Item). (i.element.id == id) ≡ false) head items (ap (λ n. n == id) own ∙ seek)
      (All-weaker (λ (i : Item). i.element.id ≡ CUES) (λ (i : Item). (i.element.id == id) ≡ false) (λ i is. ap (λ n. n == id) is ∙ cues) items are);
  behind = All-weaker (λ (d : Element). d.id ≡ CUES) (λ (d : Element). (d.id == id) ≡ false) (λ d is. ap (λ n. n == id) is ∙ cues) added behind;
}

-- The Cues that is written is the Cues that is read.
written-are : (new : List ℕ) (list : List Header) (p : CuePoint) (ps : List CuePoint) → IsWritten new CUES (joined (map point_element (p ∷ ps))) list → CuesAre new list (p ∷ ps)
written-are new list p ps is = (header_in_place is.place is.element, is.first, body_of-read new is.place is.element is.held ∙ is.spells)

-- A Cues is the only Element after the old end.
alone-written : (new : List ℕ) (place : ℕ) (body : List ℕ) → HoldsAt new place (joined (element CUES body ∷ [])) → IsWritten new CUES body (headers_in_place place (element CUES body ∷ []))
alone-written new place body held = record {
  place = place;
  element = element CUES body;
  first = refl;
  held = subst (HoldsAt new place) (append-nil (octets_of (element CUES body))) held;
  own = refl;
  spells = refl;
}

-- ---- the SeekHead

-- Two functions that agree on each item keep the same items.
filter_map-same : {A B : Type 0} (f g : A → Option B) (xs : List A) → All (λ x. f x ≡ g x) xs → filter_map f xs ≡ filter_map g xs
filter_map-same f g [] same = refl
filter_map-same f g (x ∷ xs) same = ap₂ cons_option (All-head (λ x. f x ≡ g x) x xs same) (filter_map-same f g xs (All-tail (λ x. f x ≡ g x) x xs same))

-- A fact about the six IDs that the SeekHead lists.
six : (P : ℕ → Type 0) → P INFO → P TRACKS → P ATTACHMENTS → P CUES → P CHAPTERS → P TAGS → All P index_ids
six P info tracks attachments cues chapters tags =
    All-cons P INFO (TRACKS ∷ ATTACHMENTS ∷ CUES ∷ CHAPTERS ∷ TAGS ∷ []) info (All-cons P TRACKS (ATTACHMENTS ∷ CUES ∷ CHAPTERS ∷ TAGS ∷ []) tracks
    (All-cons P ATTACHMENTS (CUES ∷ CHAPTERS ∷ TAGS ∷ []) attachments (All-cons P CUES (CHAPTERS ∷ TAGS ∷ []) cues (All-cons P CHAPTERS (TAGS ∷ []) chapters (All-cons P TAGS [] tags (All-nil P))))))

-- ---- moves

abbrev cues_moves : ℕ → ℕ → Element → List Part
cues_moves place room e = cues_part place room (Some e) ∷ []

moving-one : (place room : ℕ) (e : Element) → room < length (octets_of e) → (list_any moves (cues_moves place room e) ≡ true) × (elements_moving (cues_moves place room e) ≡ e ∷ [])
moving-one place room e long =
    let test : nat_lt room (length (octets_of e)) ≡ true = grind (arith, nat_tests) in (
      ap (λ b. b || false) test,
      ap (λ (b : Bool). filter_map (λ (q : Part). q.element) (if b then cues_part place room (Some e) ∷ [] else [])) test,
    )

still-one : (place room : ℕ) (e : Element) → length (octets_of e) ≤ room → (list_any moves (cues_moves place room e) ≡ false) × (elements_moving (cues_moves place room e) ≡ [])
still-one place room e fits =
    let test : nat_lt room (length (octets_of e)) ≡ false = grind (arith, nat_tests) in (
      ap (λ b. b || false) test,
      ap (λ (b : Bool). filter_map (λ (q : Part). q.element) (if b then cues_part place room (Some e) ∷ [] else [])) test,
    )

module _ (bytes : List ℕ) (are_octets : AreOctets bytes) (short : length bytes ≤ LONGEST_FILE) (o : FileOutline) (ws : List Write) (op : IsOpened bytes o) (undamaged : o.damage ≡ None)
    (order : InOrder (length bytes) 0 ws) (outside_all : All IsOutside (segment_run bytes o.segment).list) (alone : number_of CUES (others_of (segment_run bytes o.segment).list) ≤ 1) where
  abbrev list : List Header
  list = (segment_run bytes o.segment).list

  abbrev others : List Header
  others = others_of list

  abbrev new : List ℕ
  new = applied bytes ws

  -- The SeekHead isn't a Cues.
  no-cues : (head : Item) → head.element.id ≡ SEEK_HEAD → All (λ (i : Item). (i.element.id == CUES) ≡ false) (head ∷ [])
  no-cues head own = All-cons (λ (i : Item). (i.element.id == CUES) ≡ false) head [] (ap (λ n. n == CUES) own) (All-nil (λ (i : Item). (i.element.id == CUES) ≡ false))

  none-listed : first_of CUES others ≡ None → first_of CUES list ≡ None
  none-listed none = sym (first_in-others CUES list refl) ∙ none

  -- The written Seeks are the Seeks of the new list.
  module _ (ps : List Part) (s : SeekHeadAt) (is : seek_head_of bytes o ≡ Some s) (items : List Item) (added : List Element) (rest : HoldsRest bytes new o list items added)
      (untouched : (id : ℕ) → ends_cluster id ≡ true → (id == CLUSTER) ≡ false → (SEEK_HEAD == id) ≡ false → (CUES == id) ≡ false → IsUntouched items added id)
      (moved : elements_moving ps ≡ added) (written : IsWritten new SEEK_HEAD (seek_head index_ids o ps (Some s)).body rest.list)
      (others_stay : (id : ℕ) → (CUES == id) ≡ false → seek_for (seeks_from (o.total - o.segment.body) added) o ps id ≡ option_map (seek_to o.segment.body) (first_of id o.others))
      (cues : seek_for (seeks_from (o.total - o.segment.body) added) o ps CUES ≡ option_map (seek_to o.segment.body) (first_of CUES rest.list)) where
    other-seek : (id : ℕ) → ends_cluster id ≡ true → (id == CLUSTER) ≡ false → (SEEK_HEAD == id) ≡ false → (CUES == id) ≡ false
        → seek_for (seeks_from (o.total - o.segment.body) added) o ps id ≡ option_map (seek_to o.segment.body) (first_of id rest.list)
    other-seek id level other seek no_cues =
        others_stay id no_cues
        ∙ ap (option_map (seek_to o.segment.body)) (ap (first_of id) op.others ∙ first_in-others id list other ∙ sym (rest.same id (untouched id level other seek no_cues)))

    seeks-are : seeks index_ids o ps ≡ first_seeks index_ids o.segment.body rest.list
    seeks-are =
        ap (λ (es : List Element). filter_map (seek_for (seeks_from (o.total - o.segment.body) es) o ps) index_ids) moved
        ∙ filter_map-same (seek_for (seeks_from (o.total - o.segment.body) added) o ps) (λ id. option_map (seek_to o.segment.body) (first_of id rest.list)) index_ids
        (six (λ id. seek_for (seeks_from (o.total - o.segment.body) added) o ps id ≡ option_map (seek_to o.segment.body) (first_of id rest.list))
        (other-seek INFO names.info.level refl refl refl) (other-seek TRACKS names.tracks.level refl refl refl) (other-seek ATTACHMENTS names.attachments.level refl refl refl) cues
        (other-seek CHAPTERS names.chapters.level refl refl refl) (other-seek TAGS names.tags.level refl refl refl))

    seeks-written : IsWritten new SEEK_HEAD (seek_head_body index_ids (first_seeks index_ids o.segment.body rest.list) (children (head-read bytes o s op is).tree)) rest.list
    seeks-written = subst (λ (body : List ℕ). IsWritten new SEEK_HEAD body rest.list) (ap₂ (seek_head_body index_ids) seeks-are (head-read bytes o s op is).seeks) written

    holds : sum_by (adds_void others) items + length added ≤ 2 → (points : List CuePoint) → CuesAre new rest.list points → HoldsCues bytes new o points
    holds few points are = record {
      items = items;
      added = added;
      rest = rest;
      untouched = untouched;
      few = few;
      cues = are;
      old_head = (head-read bytes o s op is).tree;
      read = (head-read bytes o s op is).read;
      seeks = seeks-written;
    }

  -- the Seek of a Cues at a place, or none
  abbrev seek_at : ℕ → ℕ → Option Seek
  seek_at id place = Some (record { id = id; position = place - o.segment.body })

  -- The Seek of a Cues after the old end.
  added-seek : (body : List ℕ) (ns : List Header) → first_of CUES ns ≡ first_of CUES (headers_in_place (length bytes) (element CUES body ∷ []))
      → seek_at CUES o.total ≡ option_map (seek_to o.segment.body) (first_of CUES ns)
  added-seek body ns first =
      ap (seek_at CUES) op.total ∙ sym (ap (option_map (seek_to o.segment.body)) first)

  -- There was no Cues, and none is written.
  none-still : first_of CUES others ≡ None → writes_of_parts index_ids true bytes o [] ≡ Ok ws → HoldsCues bytes new o []
  none-still none made =
      let plan = writes-planned bytes o index_ids [] ws op made in
      let head : Item = record { header = plan.0.header; element = seek_head index_ids o [] (Some plan.0) } in
      let rest = rest-beside bytes are_octets short o ws op undamaged order outside_all index_ids [] plan.0 plan.2 [] (All-nil (IsItem others)) tt (All-nil (λ (i : Item). (i.element.id == SEEK_HEAD) ≡ false)) refl refl in
      let untouched = untouched-by head [] [] refl (All-nil (λ (i : Item). i.element.id ≡ CUES)) (All-nil (λ (d : Element). d.id ≡ CUES)) in
      let lacks = rest.joins CUES names.cues.level (no-cues head refl) (none-listed none) in
      holds [] plan.0 plan.1 (head ∷ []) [] rest untouched refl (rest.stays head (inl refl) plan.2.reaches).0 (λ id other. refl)
      (ap (option_map (seek_to o.segment.body)) (ap (first_of CUES) op.others ∙ none ∙ sym lacks)) (let few = adds-most others (head ∷ []) in omega arith) [] lacks

  -- There was no Cues, and one is written after the old end.
  none-new : (p : CuePoint) (ps : List CuePoint) → first_of CUES others ≡ None → writes_of_parts index_ids true bytes o (cues_moves 0 0 (cues_of (p ∷ ps))) ≡ Ok ws → HoldsCues bytes new o (p ∷ ps)
  none-new p ps none made =
      let e = cues_of (p ∷ ps) in
      let parts = cues_moves 0 0 e in
      let plan = writes-planned bytes o index_ids parts ws op made in
      let head : Item = record { header = plan.0.header; element = seek_head index_ids o parts (Some plan.0) } in
      let some : 0 < length (octets_of e) = (let is = element-some CUES e.body (is_id-bounds CUES cues-valid).0 in omega arith) in
      let moved = moving-one 0 0 e some in
      let most = large-none (length_moving o parts (seek_head index_ids o parts (Some plan.0)) (span_of plan.0.header others)) parts plan.2.large in
      let len : length (appended parts) ≡ length (octets_of e) = ap (λ (es : List Element). length (joined es)) moved.1 ∙ ap (λ (l : List ℕ). length l) (append-nil (octets_of e)) in
      let all = length-octets_of e in
      let own = (small-widen CUES e.body cues-valid (omega arith)).own in
      let rest = rest-behind bytes are_octets short o ws op undamaged order outside_all index_ids parts plan.0 plan.2 [] (All-nil (IsItem others)) tt (All-nil (λ (i : Item). (i.element.id == SEEK_HEAD) ≡ false)) refl
      moved.0 e [] moved.1 (All-cons IsElement e [] own (All-nil IsElement)) (All-cons (λ (d : Element). IsName d.id) e [] names.cues (All-nil (λ (d : Element). IsName d.id))) in
      let untouched = untouched-by head [] (e ∷ []) refl (All-nil (λ (i : Item). i.element.id ≡ CUES)) (All-cons (λ (d : Element). d.id ≡ CUES) e [] refl (All-nil (λ (d : Element). d.id ≡ CUES))) in
      let joins = rest.joins CUES names.cues.level (no-cues head refl) (none-listed none) in
      holds parts plan.0 plan.1 (head ∷ []) (e ∷ []) rest untouched moved.1 (rest.stays head (inl refl) plan.2.reaches).0 (λ id other. rw other refl) (added-seek e.body rest.list joins)
      (let few = adds-most others (head ∷ []) in omega arith) (p ∷ ps) (written-are new rest.list p ps (written-first new CUES e.body (headers_in_place (length bytes) (e ∷ [])) rest.list joins (alone-written new (length bytes) e.body rest.held)))

  -- There was a Cues.
  module _ (h : Header) (found : first_of CUES others ≡ Some h) where
    abbrev space : ℕ
    space = span_of h others

    least : 2 ≤ space
    least = (first-room CUES o.segment.body (segment_run bytes o.segment).end others h (stand bytes are_octets short o ws op undamaged order outside_all) found).least

    inside : h.offset + space ≤ (segment_run bytes o.segment).end
    inside = (first-room CUES o.segment.body (segment_run bytes o.segment).end others h (stand bytes are_octets short o ws op undamaged order outside_all) found).inside

    space-short : space ≤ 2 ^ 48
    space-short = (let reaches = last-within bytes are_octets short o ws op undamaged order outside_all in let all = inside in omega arith)

    -- The Seek of a Cues in its room.
    placed-seek : (ns : List Header) (body : List ℕ) (w : IsWritten new CUES body ns) → w.place ≡ h.offset → option_map (seek_to o.segment.body) (first_of CUES o.others) ≡ option_map (seek_to o.segment.body) (first_of CUES ns)
    placed-seek ns body w place =
        ap (option_map (seek_to o.segment.body)) (ap (first_of CUES) op.others ∙ found)
        ∙ ap₂ seek_at (first-own CUES others h found ∙ sym w.own) (sym place)
        ∙ sym (ap (option_map (seek_to o.segment.body)) w.first)

    -- No Cues is written, so the old one is removed.
    one-gone : writes_of_parts index_ids true bytes o (cues_part h.offset space None ∷ []) ≡ Ok ws → HoldsCues bytes new o []
    one-gone made =
        let part = cues_part h.offset space None in
        let plan = writes-planned bytes o index_ids (part ∷ []) ws op made in
        let head : Item = record { header = plan.0.header; element = seek_head index_ids o (part ∷ []) (Some plan.0) } in
        let item : Item = record { header = h; element = gone space } in
        let some = least in
        let test : stands part ≡ true = grind (arith, nat_tests) in
        let writes : part_writes (part ∷ []) ≡ writes_of others (item ∷ []) =
        ap (λ (b : Bool). map (λ (q : Part). write q.place (overwrite_or_void q)) (if b then part ∷ [] else [])) test
        ∙ ap (λ (w : Option (List ℕ)). write h.offset (unwrap_or w (void_header space)) ∷ []) (sym (gone-fitted space)) in
        let rest = rest-beside bytes are_octets short o ws op undamaged order outside_all index_ids (part ∷ []) plan.0 plan.2 (item ∷ [])
        (All-cons (IsItem others) item [] (gone-item others h space found space-short) (All-nil (IsItem others))) (All-nil (λ (j : Item). (j.element.id == CUES) ≡ false), tt)
        (All-cons (λ (i : Item). (i.element.id == SEEK_HEAD) ≡ false) item [] refl (All-nil (λ (i : Item). (i.element.id == SEEK_HEAD) ≡ false))) writes refl in
        let untouched = untouched-by head (item ∷ []) [] refl (All-cons (λ (i : Item). i.element.id ≡ CUES) item [] refl (All-nil (λ (i : Item). i.element.id ≡ CUES))) (All-nil (λ (d : Element). d.id ≡ CUES)) in
        let lacks = rest.moves item (inr (inl refl)) (gone-long space) alone in
        holds (part ∷ []) plan.0 plan.1 (head ∷ item ∷ []) [] rest untouched refl (rest.stays head (inl refl) plan.2.reaches).0 (λ id other. rw other refl)
        (sym (ap (option_map (seek_to o.segment.body)) lacks)) (let few = adds-most others (head ∷ item ∷ []) in omega arith) [] lacks

    -- A Cues is written, in the old room or after the old end.
    module _ (p : CuePoint) (ps : List CuePoint) (made : writes_of_parts index_ids true bytes o (cues_moves h.offset (span_of h (others_of (segment_run bytes o.segment).list)) (cues_of (p ∷ ps))) ≡ Ok ws) where
      abbrev e : Element
      e = cues_of (p ∷ ps)

      abbrev parts : List Part
      parts = cues_moves h.offset space e

      abbrev item : Item
      item = record { header = h; element = e }

      plan : (s : SeekHeadAt) × (seek_head_of bytes o ≡ Some s) × IsPlanned o index_ids parts ws s others
      plan = writes-planned bytes o index_ids parts ws op made

      abbrev head : Item
      head = record { header = plan.0.header; element = seek_head index_ids o parts (Some plan.0) }

      of-it : AreOf others parts (item ∷ [])
      of-it = (record { id = refl; place = refl; room = refl; some = (let some = least in omega arith); new = refl }, tt)

      few : length (octets_of e) ≤ 2 ^ 24
      few =
          let most = large-none (length_moving o parts (seek_head index_ids o parts (Some plan.0)) (span_of plan.0.header others)) parts plan.2.large in
          let own = All-head (λ (i : Item). length (octets_of i.element) ≤ length_in_place parts + length (appended parts)) item [] (few-parts others parts (item ∷ []) of-it) in
          omega arith

      item-is : IsItem others item
      item-is = small-item others CUES e.body h names.cues cues-valid found few

      its-own : All (λ (i : Item). i.element.id ≡ CUES) (item ∷ [])
      its-own = All-cons (λ (i : Item). i.element.id ≡ CUES) item [] refl (All-nil (λ (i : Item). i.element.id ≡ CUES))

      no-head : All (λ (i : Item). (i.element.id == SEEK_HEAD) ≡ false) (item ∷ [])
      no-head = All-cons (λ (i : Item). (i.element.id == SEEK_HEAD) ≡ false) item [] refl (All-nil (λ (i : Item). (i.element.id == SEEK_HEAD) ≡ false))

      fits-in : length (octets_of e) ≤ space → HoldsCues bytes new o (p ∷ ps)
      fits-in fits =
          let still = still-one h.offset space e fits in
          let rest = rest-beside bytes are_octets short o ws op undamaged order outside_all index_ids parts plan.0 plan.2 (item ∷ [])
          (All-cons (IsItem others) item [] item-is (All-nil (IsItem others))) (All-nil (λ (j : Item). (j.element.id == CUES) ≡ false), tt) no-head (of-writes others parts (item ∷ []) of-it) still.0 in
          let untouched = untouched-by head (item ∷ []) [] refl its-own (All-nil (λ (d : Element). d.id ≡ CUES)) in
          let stays = rest.stays item (inr (inl refl)) fits in
          holds parts plan.0 plan.1 (head ∷ item ∷ []) [] rest untouched still.1 (rest.stays head (inl refl) plan.2.reaches).0 (λ id other. rw other refl)
          (placed-seek rest.list e.body stays.0 stays.1) (let few = adds-most others (head ∷ item ∷ []) in omega arith) (p ∷ ps) (written-are new rest.list p ps stays.0)

      moves-on : space < length (octets_of e) → HoldsCues bytes new o (p ∷ ps)
      moves-on long =
          let moved = moving-one h.offset space e long in
          let rest = rest-behind bytes are_octets short o ws op undamaged order outside_all index_ids parts plan.0 plan.2 (item ∷ [])
          (All-cons (IsItem others) item [] item-is (All-nil (IsItem others))) (All-nil (λ (j : Item). (j.element.id == CUES) ≡ false), tt) no-head (of-writes others parts (item ∷ []) of-it)
          moved.0 e [] moved.1 (All-cons IsElement e [] item-is.widen.own (All-nil IsElement)) (All-cons (λ (d : Element). IsName d.id) e [] names.cues (All-nil (λ (d : Element). IsName d.id))) in
          let untouched = untouched-by head (item ∷ []) (e ∷ []) refl its-own (All-cons (λ (d : Element). d.id ≡ CUES) e [] refl (All-nil (λ (d : Element). d.id ≡ CUES))) in
          let away = rest.moves item (inr (inl refl)) long alone in
          holds parts plan.0 plan.1 (head ∷ item ∷ []) (e ∷ []) rest untouched moved.1 (rest.stays head (inl refl) plan.2.reaches).0 (λ id other. rw other refl) (added-seek e.body rest.list away)
          (let few = adds-moved others head item long in omega arith) (p ∷ ps) (written-are new rest.list p ps (written-first new CUES e.body (headers_in_place (length bytes) (e ∷ [])) rest.list away (alone-written new (length bytes) e.body rest.held)))

      one-anew : HoldsCues bytes new o (p ∷ ps)
      one-anew = elim (cases_lt space (length (octets_of e))) [ inl long ↦ moves-on long | inr fits ↦ fits-in fits ]

  -- In each case the file then has a Cues Element with the points, and no other.
  pub cues-hold : (points : List CuePoint) → writes_of_parts index_ids true bytes o (cues_parts others (first_of CUES others) (new_cues points)) ≡ Ok ws → HoldsCues bytes new o points
  cues-hold points made = of points (first_of CUES others) refl made
    where
      of : (points : List CuePoint) (first : Option Header) → first_of CUES others ≡ first → writes_of_parts index_ids true bytes o (cues_parts others first (new_cues points)) ≡ Ok ws → HoldsCues bytes new o points
      of [] None none made = none-still none made
      of (p ∷ ps) None none made = none-new p ps none made
      of [] (Some h) found made = one-gone h found made
      of (p ∷ ps) (Some h) found made = one-anew h found p ps made
