-- The writes of edits are the plan of an edit.
use Rattle.std.proofs.Common.{◌≡◌, ℕ, ◌+◌, ◌-◌, ◌<◌, ◌≤◌, nat_lt, Bool, true, false, ◌||◌, if◌then◌else◌, List, [], ◌∷◌, ◌++◌, length, map, flat_map, Option, Some, None, Result, Ok, Err, refl, sym, ◌∙◌, ap, subst, arith}
use Rattle.std.specs.List.{cons_option, list_any}
use Rattle.std.specs.Prelude.{filter_map}
use Rattle.std.specs.Option.{option_and_then, option_map_or, unwrap_or}
use Rattle.std.proofs.lemmas.List.{length-append, length-map, length-take}
use Rattle.std.proofs.lemmas.List.Sums.{sum_by-append}
use Rattle.std.proofs.lemmas.Bool.Decides.{nat_tests}
use Rattle.ebml_numbers.specs.Number.{id_octets, size_octets}
use Rattle.ebml_numbers.proofs.NumberLemmas.{length-size_octets, is_id-bounds}
use Rattle.ebml_numbers.proofs.WidthLemmas.{least_size_width-IsLeast}
use Rattle.mkv_schema.specs.declared.ids.TheConstants.{SEEK_HEAD, SEGMENT}
use Rattle.mkv_io.specs.declared.damage.Damage.{Damage}
use Rattle.mkv_io.specs.declared.outside.TheConstants.{LONGEST_FILE}
use Rattle.requests.specs.declared.edit.Edit.{Edit}
use Rattle.mkv_schema.specs.declared.element.Header.{Header}
use Rattle.mkv_schema.specs.Element.{end_in, is_unknown, known, stated_end}
use Rattle.mkv_schema.specs.Outline.{segment_bound}
use Rattle.mkv_io.specs.Results.{unless as unless_damaged, and_then as edits_then, unless}
use Rattle.mkv_schema.proofs.OutlineLemmas.{and_then-ok, unless-ok}
use Rattle.mkv_schema.specs.Value.{body_of, first_of}
use Rattle.element_reader.specs.Collected.{others_of}
use Rattle.element_reader.specs.Outline.{FileOutline, outline_in}
use Rattle.element_reader.proofs.OutlineLemmas.{Outlines-shown}
use Rattle.tree_format.specs.Node.{Node, children}
use Rattle.tree_format.specs.Reading.{tree_of}
use Rattle.output_model.specs.Element.{Element, octets_of}
use Rattle.sidecar_edit.specs.declared.place.TheConstants.{KEPT, MAX_OCTETS, MAX_WRITES}
use Rattle.sidecar_edit.specs.Fields.{AreInOrder, IsPlan}
use Rattle.sidecar_edit.specs.Writes.{Write}
use Rattle.edit_changes.specs.declared.refusal.Refusal.{Refusal}
use Rattle.edit_changes.specs.declared.refusal.Refusal.TheVariants as refusal
use Rattle.edit_changes.specs.declared.refusal.Room.{Room}
use Rattle.edit_changes.specs.declared.refusal.Room.TheVariants as room
use Rattle.edit_changes.specs.declared.refusal.TheConstants.{MAX_WRITTEN}
use Rattle.edit_changes.specs.declared.trees.Trees.{Trees}
use Rattle.edit_changes.specs.Change.{edited_trees}
use Rattle.edit_changes.specs.Records.{EditableFile, editable, trees_of}
use Rattle.edit_changes.specs.SeekHead.{SeekHeadAt, before_clusters, if_read, if_sound, seek_head_of}
use Rattle.edit_changes.specs.Span.{fitted, span_of}
use Rattle.edit_changes.specs.Plan.{edit_ids, if_editable, plan_of, Part, part_writes, parts, place, write, recorded, ascending, moves, moving, appended, elements_moving, length_in_place, length_moving, most_nodes, too_large, first_refusal, lacks, size_length, size_refusal, size_need, size_width, size_writes, new_end, tail_refusal, twin_refusal, moving_refusals, moving_writes, writes_moving, writes_in_place, writes_of_parts, seek_head}
use Rattle.edit_plan.specs.Laws.{ArePartsOf, PartsAreInOrder}
use Rattle.edit_plan.proofs.LevelLemmas.{Stand, Stand-later, level-stands}
use Rattle.edit_plan.proofs.VoidLemmas.{first-room}
use Rattle.edit_plan.proofs.OrderLemmas.{Between, between-append, between-last, between-order, order-extent, ascending-between, ascending-bytes, ascending-length, bytes_in, bytes_in-cons, places-bytes}
use Rattle.edit_plan.proofs.FitLemmas.{fills-fitted, fitted-same}
use Rattle.edit_plan.proofs.PartLemmas.{seek_head-valid}
use Rattle.edit_plan.proofs.SitsLemmas.{SitsAt, edits-are, element-some, head-apart, parts-apart, parts-bytes, parts-few}

-- ---- level 1 of an outline

Stand-wider : (p e f : ℕ) (hs : List Header) → e ≤ f → Stand p e hs → Stand p f hs
Stand-wider p e f [] wider stand = tt
Stand-wider p e f (h ∷ hs) wider stand = (stand.0, stand.1, omega (arith, stand.2), Stand-wider (stated_end h) e f hs wider stand.3)

-- The Elements of level 1 other than Clusters are in sequence, up to the end of the file.
pub record IsLevel (o : FileOutline) : Type 0 where
  pub stand : Stand o.segment.body o.total o.others

pub bound-most : (bytes : List ℕ) (segment : Header) → segment_bound bytes segment ≤ length bytes
bound-most bytes segment = of (is_unknown segment.size)
  where
    of : (unknown : Bool) → (if unknown then length bytes else end_in (length bytes) segment) ≤ length bytes
    of true = omega arith
    of false = omega arith

pub IsLevel-shown : (held : ℕ) (bytes : List ℕ) (o : FileOutline) → outline_in held bytes ≡ Ok o → IsLevel o
IsLevel-shown held bytes o is =
    let of = Outlines-shown held bytes o is in
    let segment : Header = of.outlined.segment in
    let stand = level-stands bytes segment.size segment.body (segment_bound bytes segment) in
    let wide = Stand-wider segment.body (segment_bound bytes segment) (length bytes) _ (bound-most bytes segment) stand in
    let listed : Stand segment.body (length bytes) (others_of of.outlined.list) = subst (λ l. Stand segment.body (length bytes) (others_of l)) (sym of.list) wide in
    let P : FileOutline → Type 0 = λ v. Stand v.segment.body v.total v.others in
    record { stand = subst P (sym of.shows) listed }

-- ---- no refusal

pub unless-none : {A : Type 0} (r : Option Refusal) (x y : A) → unless r x ≡ Ok y → (r ≡ None) × (x ≡ y)
unless-none None x y is = (refl, cc)
unless-none (Some d) x y is = absurd (cc)

pub first-none : (r : Option Refusal) (rs : List (Option Refusal)) → first_refusal (r ∷ rs) ≡ None → (r ≡ None) × (first_refusal rs ≡ None)
first-none None rs is = (refl, is)
first-none (Some d) rs is = absurd (cc)

pub lacks-none : (why : Room) (need have : ℕ) → lacks why need have ≡ None → need ≤ have
lacks-none why need have is = of (nat_lt have need) refl is
  where
    of : (less : Bool) → nat_lt have need ≡ less → (if less then Some (refusal.NoRoom why need have) else None) ≡ None → need ≤ have
    of true test is = absurd (cc)
    of false test is = grind (arith, nat_tests)

pub large-none : (len : ℕ) (ps : List Part) → too_large len ps ≡ None → len ≤ MAX_WRITTEN
large-none len ps is = of (nat_lt 65536 (most_nodes ps)) (nat_lt MAX_WRITTEN len) refl is
  where
    of : (many long : Bool) → nat_lt MAX_WRITTEN len ≡ long → (if many || long then Some (refusal.EditTooLarge len (most_nodes ps)) else None) ≡ None → len ≤ MAX_WRITTEN
    of true long test is = absurd (cc)
    of false true test is = absurd (cc)
    of false false test is = grind (arith, nat_tests)

pub size-none : (segment : Header) (end : ℕ) → is_unknown segment.size ≡ false → size_refusal segment end ≡ None → size_need segment end ≤ size_width segment
size-none segment end known is = of (is_unknown segment.size) known is
  where
    of : (unknown : Bool) → unknown ≡ false → (if unknown then None else lacks room.SegmentSize (size_need segment end) (size_width segment)) ≡ None → size_need segment end ≤ size_width segment
    of true known is = absurd (cc)
    of false known is = lacks-none _ _ _ is

-- ---- Elements that move

flat_map-next : {X : Type 0} (f : X → List ℕ) (x : X) (xs : List X) → flat_map f (x ∷ xs) ≡ f x ++ flat_map f xs
flat_map-next f x xs = refl

-- A conditional with a true test is its first branch.
pub if-true : {A : Type 0} (b : Bool) (x y z : A) → b ≡ true → (if b then x else y) ≡ z → x ≡ z
if-true b x y z is found = sym (ap (λ (c : Bool). if c then x else y) is) ∙ found

-- If something moves, there are bytes to append.
pub appended-some : (ps : List Part) → list_any moves ps ≡ true → 1 ≤ length (appended ps)
appended-some [] any = absurd (cc)
appended-some (p ∷ ps) any = of (appended-some ps) (moves p) refl any
  where
    own : (new : Option Element) → option_map_or (λ e. nat_lt p.room (length (octets_of e))) new false ≡ true → 1 ≤ length (flat_map octets_of (cons_option new (elements_moving ps)))
    own None test = absurd (cc)
    own (Some e) test =
        let long : p.room < length (octets_of e) = grind (arith, nat_tests) in
        let all = ap length (flat_map-next octets_of e (elements_moving ps)) in
        let both = length-append (octets_of e) (flat_map octets_of (elements_moving ps)) in
        omega arith

    of : (list_any moves ps ≡ true → 1 ≤ length (appended ps)) → (b : Bool) → moves p ≡ b → (b || list_any moves ps) ≡ true
        → 1 ≤ length (flat_map octets_of (filter_map (λ (q : Part). q.element) (if b then p ∷ moving ps else moving ps)))
    of later true is any = own p.element is
    of later false is any = later any

-- ---- the existing SeekHead

pub head-first : (bytes : List ℕ) (o : FileOutline) (s : SeekHeadAt) → seek_head_of bytes o ≡ Some s → first_of SEEK_HEAD o.others ≡ Some s.header
head-first bytes o s is = of (first_of SEEK_HEAD o.others) is
  where
    read : (h : Header) (tree : Result Node Damage) → if_read h tree ≡ Some s → h ≡ s.header
    read h (Ok n) is = let same : record { header = h; seeks = children n } ≡ s = cc in ap (λ (x : SeekHeadAt). x.header) same
    read h (Err d) is = absurd (cc)

    sound : (h : Header) (large : Bool) → (if large then None else if_read h (tree_of h.id h.offset (body_of bytes h) h.body 65536)) ≡ Some s → h ≡ s.header
    sound h true is = absurd (cc)
    sound h false is = read h _ is

    before : (h : Header) (front : Bool) → option_and_then (if_sound bytes) (if front then Some h else None) ≡ Some s → h ≡ s.header
    before h true is = sound h _ is
    before h false is = absurd (cc)

    of : (first : Option Header) → option_and_then (if_sound bytes) (option_and_then (before_clusters o.cluster) first) ≡ Some s → first ≡ Some s.header
    of None is = absurd (cc)
    of (Some h) is = ap (λ x. Some x) (before h _ is)

-- ---- the law

bytes_in-append : (xs ys : List Write) → bytes_in (xs ++ ys) ≡ bytes_in xs + bytes_in ys
bytes_in-append xs ys = sum_by-append (λ (w : Write). length w.bytes) xs ys

-- A few ordered writes of few bytes are the plan of an edit.
planned : (bytes : List ℕ) (ws : List Write) → length bytes ≤ LONGEST_FILE → length ws ≤ MAX_WRITES → bytes_in ws ≤ MAX_OCTETS → AreInOrder (length bytes) 0 (map place ws) → IsPlan (recorded bytes ws)
planned bytes ws short few small order = record {
  sound = record {
    few = omega (arith, length-map ws place);
    order = order;
    small = omega (arith, places-bytes ws);
    short = short;
    new_len = order-extent (length bytes) (length bytes) 0 ws (omega arith) order;
    first = length-take KEPT bytes;
  };
  full = payload ws ∙ sym (places-bytes ws);
}
  where
    payload : (vs : List Write) → length (flat_map (λ (w : Write). w.bytes) vs) ≡ bytes_in vs
    payload [] = refl
    payload (v ∷ vs) =
        ap length (flat_map-next (λ (w : Write). w.bytes) v vs) ∙ length-append v.bytes (flat_map (λ (w : Write). w.bytes) vs)
        ∙ ap (λ n. length v.bytes + n) (payload vs) ∙ sym (bytes_in-cons v vs)

module _ (bytes : List ℕ) (o : FileOutline) (ids : List ℕ) (ps : List Part) (level : IsLevel o) (are : ArePartsOf o.others ps) (total : o.total ≡ length bytes) (short : length bytes ≤ LONGEST_FILE) where
  all-few : length (part_writes ps) ≤ 5
  all-few = let some = parts-few ps in let few = are.few in omega arith

  head-some : (head : Option SeekHeadAt) → 1 ≤ length (octets_of (seek_head ids o ps head))
  head-some head = element-some SEEK_HEAD _ (is_id-bounds SEEK_HEAD seek_head-valid).0

  -- Parts that stay are the plan of an edit.
  in-place-planned : (ws : List Write) → writes_in_place ps ≡ Ok ws → IsPlan (recorded bytes ws)
  in-place-planned ws is =
      let split = unless-none (too_large (length_in_place ps) ps) (ascending (part_writes ps)) ws is in
      let small = large-none (length_in_place ps) ps split.0 in
      let stand = Stand-later 0 o.segment.body o.total o.others (omega arith) level.stand in
      let apart = parts-apart 0 o.total o.others stand ps (omega arith) are.parts are.distinct in
      let between = ascending-between 0 o.total (part_writes ps) apart in
      let order = between-order o.total 0 (ascending (part_writes ps)) between in
      subst (λ vs. IsPlan (recorded bytes vs)) split.1
      (planned bytes (ascending (part_writes ps)) short
      (omega (arith, ascending-length (part_writes ps), all-few))
      (omega (arith, ascending-bytes (part_writes ps), parts-bytes ps, small))
      (subst (λ n. AreInOrder n 0 (map place (ascending (part_writes ps)))) total order))

  module _ (s : SeekHeadAt) (first : first_of SEEK_HEAD o.others ≡ Some s.header) (seeks : Element) (some : 1 ≤ length (octets_of seeks)) where
    abbrev space : ℕ
    space = span_of s.header o.others

    abbrev middle : List Write
    middle = write s.header.offset (unwrap_or (fitted seeks space) []) ∷ part_writes ps

    begins : o.segment.body ≤ o.total
    begins =
        let is = first-room SEEK_HEAD o.segment.body o.total o.others s.header level.stand first in
        let from = is.from in let inside = is.inside in
        omega arith

    middle-between : length (octets_of seeks) ≤ space → Between o.segment.body o.total (ascending middle)
    middle-between reaches =
        let fills = fills-fitted seeks space reaches some in
        let sits : SitsAt o.others SEEK_HEAD (write s.header.offset (unwrap_or (fitted seeks space) [])) =
        record { header = s.header; first = first; at = refl; some = fills.some; most = fills.most } in
        ascending-between o.segment.body o.total middle (head-apart o.segment.body o.total o.others level.stand _ ps begins sits are.parts are.distinct)

    middle-bytes : length (octets_of seeks) ≤ space → bytes_in (ascending middle) ≡ length (unwrap_or (fitted seeks space) (octets_of seeks)) + length_in_place ps
    middle-bytes reaches =
        let same = ap length (fitted-same seeks space [] (octets_of seeks) reaches some) in
        omega (arith, ascending-bytes middle, bytes_in-cons (write s.header.offset (unwrap_or (fitted seeks space) [])) (part_writes ps), parts-bytes ps, same)

    -- The Segment's size is before its body.
    size-between : (unknown : Bool) (end : ℕ) → (unknown ≡ false → 1 ≤ size_width o.segment)
        → Between 0 o.segment.body (if unknown then [] else write (o.segment.offset + length (id_octets SEGMENT)) (size_octets (end - o.segment.body) (size_width o.segment)) ∷ [])
    size-between true end wide = omega arith
    size-between false end has =
        let wide = has refl in
        let long = length-size_octets (end - o.segment.body) (size_width o.segment) in
        (omega arith, omega arith, omega arith)

    size-few : (unknown : Bool) (end : ℕ)
        → length (if unknown then [] else write (o.segment.offset + length (id_octets SEGMENT)) (size_octets (end - o.segment.body) (size_width o.segment)) ∷ []) ≤ 1
    size-few true end = omega arith
    size-few false end = omega arith

    size-bytes : (unknown : Bool) (end : ℕ)
        → bytes_in (if unknown then [] else write (o.segment.offset + length (id_octets SEGMENT)) (size_octets (end - o.segment.body) (size_width o.segment)) ∷ []) ≡ (if unknown then 0 else size_width o.segment)
    size-bytes true end = refl
    size-bytes false end =
        bytes_in-cons (write (o.segment.offset + length (id_octets SEGMENT)) (size_octets (end - o.segment.body) (size_width o.segment))) []
        ∙ (let long = length-size_octets (end - o.segment.body) (size_width o.segment) in omega arith)

    -- The Segment's size has at least one byte.
    size-wide : too_large (length_moving o ps seeks space) ps ≡ None → size_refusal o.segment (new_end o ps) ≡ None → is_unknown o.segment.size ≡ false → 1 ≤ size_width o.segment
    size-wide large fits known =
        let small = large-none (length_moving o ps seeks space) ps large in
        let need = size-none o.segment (new_end o ps) known fits in
        let least = (least_size_width-IsLeast (new_end o ps - o.segment.body) (omega (arith, total))).some in
        omega arith

    -- If nothing is appended, the SeekHead and the parts are the plan of an edit.
    stays-planned : list_any moves ps ≡ false → (ws : List Write) → ascending middle ≡ ws → length (octets_of seeks) ≤ space → length_moving o ps seeks space ≤ MAX_WRITTEN → IsPlan (recorded bytes ws)
    stays-planned still ws is reaches small =
        let before = between-append 0 o.segment.body o.total [] (ascending middle) (omega arith) (middle-between reaches) in
        let order = between-order o.total 0 (ascending middle) before in
        subst (λ vs. IsPlan (recorded bytes vs)) is
        (planned bytes (ascending middle) short
        (omega (arith, ascending-length middle, all-few))
        (omega (arith, middle-bytes reaches, small))
        (subst (λ n. AreInOrder n 0 (map place (ascending middle))) total order))

    -- If something is appended, the writes are the plan of an edit.
    moves-planned : list_any moves ps ≡ true → (ws : List Write) → size_writes o.segment (new_end o ps) ++ ascending middle ++ write o.total (appended ps) ∷ [] ≡ ws → length (octets_of seeks) ≤ space
        → too_large (length_moving o ps seeks space) ps ≡ None → size_refusal o.segment (new_end o ps) ≡ None → IsPlan (recorded bytes ws)
    moves-planned any ws is reaches large fits =
        let small = large-none (length_moving o ps seeks space) ps large in
        let front : List Write = size_writes o.segment (new_end o ps) in
        let sized = size-between (is_unknown o.segment.size) (new_end o ps) (size-wide large fits) in
        let before = between-append 0 o.segment.body o.total front (ascending middle) sized (middle-between reaches) in
        let order = between-last o.total 0 (front ++ ascending middle) (appended ps) before (appended-some ps any) in
        let counted : (if list_any moves ps then size_length o.segment else 0) ≡ size_length o.segment = ap (λ (b : Bool). if b then size_length o.segment else 0) any in
        let bytes_front = size-bytes (is_unknown o.segment.size) (new_end o ps) in
        subst (λ vs. IsPlan (recorded bytes vs)) is
        (planned bytes (front ++ ascending middle ++ write o.total (appended ps) ∷ []) short
        (omega (arith, length-append (front ++ ascending middle) (write o.total (appended ps) ∷ []), length-append front (ascending middle), ascending-length middle, size-few (is_unknown o.segment.size) (new_end o ps), all-few))
        (omega (
          arith,
          bytes_in-append (front ++ ascending middle) (write o.total (appended ps) ∷ []),
          bytes_in-append front (ascending middle),
          middle-bytes reaches,
          bytes_in-cons (write o.total (appended ps)) [],
          counted,
          bytes_front,
          small,
        ))
        (subst (λ n. AreInOrder n 0 (map place (front ++ ascending middle ++ write o.total (appended ps) ∷ []))) total order))

    moving-planned : (ws : List Write) → unless (first_refusal (moving_refusals o ps seeks space)) (moving_writes o ps seeks s.header.offset space) ≡ Ok ws → IsPlan (recorded bytes ws)
    moving-planned ws is =
        let split = unless-none (first_refusal (moving_refusals o ps seeks space)) (moving_writes o ps seeks s.header.offset space) ws is in
        let large = first-none (too_large (length_moving o ps seeks space) ps) _ split.0 in
        let tail = first-none (if list_any moves ps then tail_refusal o else None) _ large.1 in
        let twin = first-none (twin_refusal o.others (moving ps)) _ tail.1 in
        let head = first-none (lacks room.SeekHead (length (octets_of seeks)) space) _ twin.1 in
        let size = first-none (if list_any moves ps then size_refusal o.segment (new_end o ps) else None) [] head.1 in
        let reaches = lacks-none _ _ _ head.0 in
        of (list_any moves ps) refl reaches large.0 size.0 split.1
      where
        of : (any : Bool) → list_any moves ps ≡ any → length (octets_of seeks) ≤ space → too_large (length_moving o ps seeks space) ps ≡ None
            → (if any then size_refusal o.segment (new_end o ps) else None) ≡ None → (if any then size_writes o.segment (new_end o ps) ++ ascending middle ++ write o.total (appended ps) ∷ [] else ascending middle) ≡ ws → IsPlan (recorded bytes ws)
        of true any reaches large fits made = moves-planned any ws made reaches large fits
        of false still reaches large fits made = stays-planned still ws made reaches (large-none (length_moving o ps seeks space) ps large)

  moving-found : (ws : List Write) → (head : Option SeekHeadAt) → seek_head_of bytes o ≡ head → writes_moving ids o ps head ≡ Ok ws → IsPlan (recorded bytes ws)
  moving-found ws None is made =
      let split = unless-none (first_refusal (moving_refusals o ps (seek_head ids o ps None) 0)) _ ws made in
      let large = first-none (too_large (length_moving o ps (seek_head ids o ps None) 0) ps) _ split.0 in
      let tail = first-none (if list_any moves ps then tail_refusal o else None) _ large.1 in
      let twin = first-none (twin_refusal o.others (moving ps)) _ tail.1 in
      let head = first-none (lacks room.SeekHead (length (octets_of (seek_head ids o ps None))) 0) _ twin.1 in
      let reaches = lacks-none _ _ _ head.0 in
      let some = head-some None in
      absurd (omega arith)
  moving-found ws (Some s) is made = moving-planned s (head-first bytes o s is) (seek_head ids o ps (Some s)) (head-some (Some s)) ws made

  -- The writes of parts are the plan of an edit.
  pub parts-planned : (always : Bool) (ws : List Write) → writes_of_parts ids always bytes o ps ≡ Ok ws → IsPlan (recorded bytes ws)
  parts-planned always ws made = of (always || list_any moves ps) made
    where
      of : (heads : Bool) → (if heads then writes_moving ids o ps (seek_head_of bytes o) else writes_in_place ps) ≡ Ok ws → IsPlan (recorded bytes ws)
      of true is = moving-found ws (seek_head_of bytes o) refl is
      of false is = in-place-planned ws is

-- The total of an outline is the file's length.
total-is : (held : ℕ) (bytes : List ℕ) (o : FileOutline) → outline_in held bytes ≡ Ok o → o.total ≡ length bytes
total-is held bytes o is = let shows = (Outlines-shown held bytes o is).shows in ap (λ (v : FileOutline). v.total) shows

pub parts-in-order : PartsAreInOrder
parts-in-order bytes held o ids always ps ws short outline are made =
    parts-planned bytes o ids ps (IsLevel-shown held bytes o outline) are (total-is held bytes o outline) short always ws made

-- The outline of an editable file is the file's.
pub editable-outline : (bytes : List ℕ) (f : EditableFile) → editable bytes ≡ Ok f → outline_in 0 bytes ≡ Ok f.outline
editable-outline bytes f is =
    let first = and_then-ok (outline_in 0 bytes) _ f is in
    let second = and_then-ok (unless_damaged first.0.damage first.0) _ f first.1.1 in
    let third = and_then-ok (trees_of bytes second.0.segment) _ f second.1.1 in
    let same : first.0 ≡ second.0 = (unless-ok first.0.damage first.0 second.0 second.1.0).1 in
    let made : record { outline = second.0; trees = third.0 } ≡ f = cc (third.1.1) in
    first.1.0 ∙ ap (λ (o : FileOutline). Ok o) (same ∙ ap (λ (x : EditableFile). x.outline) made)

pub plan_of-planned : (bytes : List ℕ) (edits : List Edit) (ws : List Write) → length bytes ≤ LONGEST_FILE → plan_of bytes edits ≡ Ok ws → IsPlan (recorded bytes ws)
unfolding plan_of
plan_of-planned bytes edits ws short is = of (editable bytes) refl is
  where
    trees : (f : EditableFile) → editable bytes ≡ Ok f → (t : Result Trees Refusal)
        → edits_then t (λ x. writes_of_parts edit_ids false bytes f.outline (parts f.outline.others edits x)) ≡ Ok ws → IsPlan (recorded bytes ws)
    trees f found (Ok t) is = parts-in-order bytes 0 f.outline edit_ids false _ ws short (editable-outline bytes f found) (edits-are f.outline.others edits t) is
    trees f found (Err r) is = absurd (cc)

    of : (found : Result EditableFile Damage) → editable bytes ≡ found
        → edits_then (if_editable found) (λ f. edits_then (edited_trees edits f.trees) (λ t. writes_of_parts edit_ids false bytes f.outline (parts f.outline.others edits t))) ≡ Ok ws
        → IsPlan (recorded bytes ws)
    of (Ok f) found is = trees f found (edited_trees edits f.trees) is
    of (Err d) found is = absurd (cc)
