-- A file that can grow: its Segment and its last Cluster end at the end of the file.
use Rattle.std.proofs.Common.{inl, inr, ◌≡◌, ◌⊎◌, ◌<◌, ◌≤◌, ℕ, ◌+◌, ◌-◌, ◌==◌, max, Bool, true, false, ◌||◌, if◌then◌else◌, List, [], ◌∷◌, ◌++◌, length, map, All, Option, Some, None, filter, count_by, not, nat_lt, refl, sym, ◌∙◌, ap, subst, arith}
use Rattle.std.specs.Option.{option_map_or, option_or}
use Rattle.std.proofs.lemmas.Bool.{cases_lt}
use Rattle.std.proofs.lemmas.List.Sums.{length-filter}
use Rattle.std.proofs.lemmas.Bool.Decides.{nat_tests}
use Rattle.std.proofs.lemmas.List.Elements.{All-nil, All-cons, All-head, All-tail, All-weaker}
use Rattle.ebml_numbers.specs.declared.number.Size.{Size}
use Rattle.ebml_numbers.specs.declared.number.Size.TheVariants.{Known, Unknown}
use Rattle.ebml_numbers.specs.Number.{id_octets, size_octets}
use Rattle.ebml_numbers.proofs.NumberLemmas.{length-size_octets}
use Rattle.mkv_schema.specs.declared.ids.TheConstants.{CLUSTER, SEGMENT}
use Rattle.mkv_schema.specs.declared.element.Header.{Header}
use Rattle.mkv_schema.specs.Element.{in_segment, element_at, end_in, is_unknown, known, stated_end}
use Rattle.mkv_schema.specs.Elements.{ends_segment, ends_at, id_of}
use Rattle.mkv_schema.specs.Outline.{segment_bound, segment_end, segment_run}
use Rattle.mkv_schema.proofs.ElementLemmas.{element_at-placed}
use Rattle.element_reader.specs.Collected.{last_element, others_of}
use Rattle.element_reader.specs.Outline.{FileOutline}
use Rattle.output_model.specs.Element.{Element, octets_of, header_in_place, headers_in_place}
use Rattle.sidecar_edit.specs.Writes.{Write, end_of, extent, WritesOctet}
use Rattle.edit_changes.specs.declared.refusal.Refusal.TheVariants as refusal
use Rattle.edit_changes.specs.declared.refusal.Room.TheVariants as room
use Rattle.edit_changes.specs.Plan.{Part, cluster_end, elements_moving, moves, moving, number_of, other_end, size_width, size_writes, tail_refusal, twin_of, twin_refusal, wrong_end, write}
use Rattle.edit_laws.proofs.AmongLemmas.{IsAmong}
use Rattle.edit_laws.proofs.SameLemmas.{InOrder}
use Rattle.edit_laws.proofs.TileLemmas.{advances-level, end-stops, level, run_of, Stands, Tiles, tiled, whole}
use Rattle.edit_laws.proofs.LevelLemmas.{level-within, next-known, whole-known}
use Rattle.edit_changes.specs.Span.{span_of}
use Rattle.mkv_schema.specs.Value.{first_of}
use Rattle.edit_laws.proofs.ItemLemmas.{Item}
use Rattle.edit_laws.proofs.OpenedLemmas.{IsOpened}
use Rattle.edit_laws.proofs.RoomLemmas.{last-there}
use Rattle.edit_laws.proofs.WriteLemmas.{AreOf, extent-within, moves_from, of-moves, of-moving}
use Rattle.lemmas.proofs.PlainLemmas.{map-none}

-- ---- nothing at the end refuses it

-- A known end is the end of the file.
other-none : (total : ℕ) (h : Header) → other_end total h ≡ None → is_unknown h.size ≡ false → stated_end h ≡ total
other-none total h none known = of (is_unknown h.size) (stated_end h == total) known refl none
  where
    of : (unknown same : Bool) → unknown ≡ false → (stated_end h == total) ≡ same → (if unknown || same then None else Some (stated_end h)) ≡ None → stated_end h ≡ total
    of true same known is none = absurd (cc)
    of false true known is none = grind (arith, nat_tests)
    of false false known is none = absurd (cc)

or-none : {A : Type 0} (a b : Option A) → option_or a b ≡ None → (a ≡ None) × (b ≡ None)
or-none None b is = (refl, is)
or-none (Some x) b is = absurd (cc)

pub record CanGrow (o : FileOutline) : Type 0 where
  pub segment : is_unknown o.segment.size ≡ false → stated_end o.segment ≡ o.total
  pub cluster : cluster_end o.total o.last ≡ None
  pub end : o.end ≡ o.total

pub can-grow : (o : FileOutline) → tail_refusal o ≡ None → CanGrow o
can-grow o is =
    let none = map-none (λ (end : ℕ). refusal.NoRoom room.Tail end o.total) (wrong_end o) is in
    let first = or-none (other_end o.total o.segment) _ none in
    let second = or-none (cluster_end o.total o.last) _ first.1 in
    record { segment = other-none o.total o.segment first.0; cluster = second.0; end = of (o.end == o.total) refl second.1 }
  where
    of : (same : Bool) → (o.end == o.total) ≡ same → (if same then None else Some o.end) ≡ None → o.end ≡ o.total
    of true is none = grind (arith, nat_tests)
    of false is none = absurd (cc)

module _ (bytes : List ℕ) (o : FileOutline) (op : IsOpened bytes o) (undamaged : o.damage ≡ None) (grow : CanGrow o) (inside : o.segment.body ≤ length bytes)
    (run : run_of (level bytes o.segment.size (segment_bound bytes o.segment)) o.segment.body ≡ whole (segment_run bytes o.segment).list (segment_run bytes o.segment).end) where
  -- The Segment reaches to the end of the file.
  pub bound-total : segment_bound bytes o.segment ≡ length bytes
  bound-total = of (is_unknown o.segment.size) refl
    where
      of : (unknown : Bool) → is_unknown o.segment.size ≡ unknown → (if unknown then length bytes else end_in (length bytes) o.segment) ≡ length bytes
      of true is = refl
      of false known = let end = grow.segment known in let total = op.total in omega arith

  tiles : Tiles (level bytes o.segment.size (segment_bound bytes o.segment)) o.segment.body (segment_run bytes o.segment).list (segment_run bytes o.segment).end
  tiles = (tiled (level bytes o.segment.size (segment_bound bytes o.segment)) o.segment.body (segment_run bytes o.segment).end (segment_run bytes o.segment).list (advances-level bytes o.segment.size (segment_bound bytes o.segment)) run).tiles

  over : run_of (level bytes o.segment.size (segment_bound bytes o.segment)) (segment_run bytes o.segment).end ≡ ends_at (segment_run bytes o.segment).end
  over = (tiled (level bytes o.segment.size (segment_bound bytes o.segment)) o.segment.body (segment_run bytes o.segment).end (segment_run bytes o.segment).list (advances-level bytes o.segment.size (segment_bound bytes o.segment)) run).ends

  -- Its Elements reach to the end of the file.
  pub last-total : (segment_run bytes o.segment).end ≡ length bytes
  last-total = of (is_unknown o.segment.size) refl (sym op.end ∙ grow.end ∙ op.total)
    where
      known-over : (size : Size) → o.segment.size ≡ size → is_unknown size ≡ false → (segment_run bytes o.segment).end < segment_bound bytes o.segment → ⊥
      known-over (Known n) is known less =
          let stops = end-stops (level bytes o.segment.size (segment_bound bytes o.segment)) (segment_run bytes o.segment).end (advances-level bytes o.segment.size (segment_bound bytes o.segment)) over less in
          let goes : ends_segment o.segment.size (id_of (element_at in_segment bytes (segment_run bytes o.segment).end (segment_bound bytes o.segment))) ≡ false = ap (λ (k : Size). ends_segment k (id_of (element_at in_segment bytes (segment_run bytes o.segment).end (segment_bound bytes o.segment)))) is in
          absurd (let wrong : true ≡ false = sym stops ∙ goes in cc)
      known-over Unknown is known less = absurd (cc)

      of : (unknown : Bool) → is_unknown o.segment.size ≡ unknown → segment_end bytes o.segment (segment_run bytes o.segment) ≡ length bytes → (segment_run bytes o.segment).end ≡ length bytes
      of true unknown is =
          sym (ap (λ (u : Bool). if u then option_map_or (λ d. length bytes) (segment_run bytes o.segment).damage (segment_run bytes o.segment).end else end_in (length bytes) o.segment) unknown
          ∙ ap (λ d. option_map_or (λ d. length bytes) d (segment_run bytes o.segment).end) (sym op.damage ∙ undamaged)) ∙ is
      of false known is =
          let bound = bound-total in
          let most = level-within bytes o.segment.size (segment_bound bytes o.segment) o.segment.body (segment_run bytes o.segment).end (segment_run bytes o.segment).list tiles (omega arith) in
          elim (cases_lt (segment_run bytes o.segment).end (segment_bound bytes o.segment)) [
            | inl less ↦ absurd (known-over o.segment.size refl known less)
            | inr reached ↦ omega arith
          ]

  -- Each Element ends in the file.
  pub ends-total : (h : Header) (m : ℕ) → Stands (level bytes o.segment.size (segment_bound bytes o.segment)) h.offset h m → IsAmong (segment_run bytes o.segment).list h → stated_end h ≤ length bytes
  ends-total h m stands ahead = of (h.id == CLUSTER) refl (is_unknown h.size) refl
    where
      unknown-end : (size : Size) → h.size ≡ size → is_unknown size ≡ true → stated_end h ≤ length bytes
      unknown-end (Known n) is unknown = absurd (cc)
      unknown-end Unknown is unknown =
          let placed = element_at-placed in_segment bytes h.offset (segment_bound bytes o.segment) h (omega (arith, stands.inside)) stands.found in
          let within = placed.within in let bound = bound-total in
          let none : known h.size ≡ 0 = ap known is in
          omega arith

      of : (cluster : Bool) → (h.id == CLUSTER) ≡ cluster → (unknown : Bool) → is_unknown h.size ≡ unknown → stated_end h ≤ length bytes
      of false other unknown is = let whole = whole-known bytes o.segment.size h.offset (segment_bound bytes o.segment) m h stands other in let ends = whole.1 in let bound = bound-total in omega arith
      of true cluster true unknown = unknown-end h.size refl unknown
      of true cluster false known_size =
          let next = next-known bytes o.segment.size h.offset (segment_bound bytes o.segment) m h stands known_size in
          let bound = bound-total in
          elim (cases_lt (length bytes) (stated_end h)) [
            | inr inside ↦ inside
            | inl past ↦ (
                let last : last_element (segment_run bytes o.segment).list ≡ Some h = last-there bytes o.segment.size (segment_bound bytes o.segment) o.segment.body (segment_run bytes o.segment).end (segment_run bytes o.segment).list h m None tiles ahead stands (omega arith) in
                let none : other_end o.total h ≡ None = sym (ap (λ (b : Bool). if b then other_end o.total h else None) cluster) ∙ sym (ap (cluster_end o.total) (op.last ∙ last)) ∙ grow.cluster in
                let same = other-none o.total h none known_size in
                let total = op.total in
                absurd (omega arith))
          ]

-- ---- the size of the Segment, and the end of the file

-- The written size is before the body.
pub touches-size : (segment : Header) (end k : ℕ) → WritesOctet (size_writes segment end) k → (segment.offset + length (id_octets SEGMENT) ≤ k) × (k < segment.body)
touches-size segment end k touched = of (is_unknown segment.size) touched
  where
    of : (unknown : Bool) → WritesOctet (if unknown then [] else write (segment.offset + length (id_octets SEGMENT)) (size_octets (end - segment.body) (size_width segment)) ∷ []) k → (segment.offset + length (id_octets SEGMENT) ≤ k) × (k < segment.body)
    of true touched = absurd touched
    of false (inr none) = absurd none
    of false (inl (begins, ends)) = let len = length-size_octets (end - segment.body) (size_width segment) in (begins, omega arith)

pub order-front : (old from : ℕ) (xs ys : List Write) → InOrder old from (xs ++ ys) → InOrder old from xs
order-front old from [] ys order = tt
order-front old from (x ∷ xs) ys order = (order.0, order.1, order.2, order-front old (end_of x) xs ys order.3)

-- If all writes except the last stay inside the file, the file ends where the last write ends.
pub extent-last : (old : ℕ) (xs : List Write) (w : Write) → InOrder old 0 (xs ++ w ∷ []) → ((k : ℕ) → WritesOctet xs k → k < old) → old ≤ end_of w → extent old (xs ++ w ∷ []) ≡ end_of w
extent-last old xs w order inside past =
    append old xs ∙ ap (λ n. max n (end_of w)) (extent-within old 0 old xs (order-front old 0 xs (w ∷ []) order) inside) ∙ (let is : max old (end_of w) ≡ end_of w = omega arith in is)
  where
    append : (n : ℕ) (xs : List Write) → extent n (xs ++ w ∷ []) ≡ max (extent n xs) (end_of w)
    append n [] = refl
    append n (x ∷ xs) = append (max n (end_of x)) xs

-- A fact about all items holds for each that moves.
pub moving-all : (Q : Element → Type 0) (list : List Header) (ps : List Part) (is : List Item) → AreOf list ps is → All (λ (i : Item). Q i.element) is → All Q (elements_moving ps)
moving-all Q list ps is are all = subst (All Q) (sym (of-moving list ps is are)) (kept is all)
  where
    kept : (js : List Item) → All (λ (i : Item). Q i.element) js → All Q (map (λ (i : Item). i.element) (filter (moves_from list) js))
    kept [] all = All-nil Q
    kept (j ∷ js) all = of (moves_from list j) (kept js (All-tail (λ (i : Item). Q i.element) j js all))
      where
        of : (b : Bool) → All Q (map (λ (i : Item). i.element) (filter (moves_from list) js)) → All Q (map (λ (i : Item). i.element) (if b then j ∷ filter (moves_from list) js else filter (moves_from list) js))
        of true rest = All-cons Q j.element (map (λ (i : Item). i.element) (filter (moves_from list) js)) (All-head (λ (i : Item). Q i.element) j js all) rest
        of false rest = rest

-- ---- the only one of its ID

count-step : {X : Type 0} (p : X → Bool) (x : X) (xs : List X) → count_by p (x ∷ xs) ≡ (if p x then 1 + count_by p xs else count_by p xs)
count-step p x xs = sym (length-filter p (x ∷ xs)) ∙ of (p x)
  where
    of : (b : Bool) → length (if b then x ∷ filter p xs else filter p xs) ≡ (if b then 1 + count_by p xs else count_by p xs)
    of true = let rest = length-filter p xs in omega arith
    of false = length-filter p xs

none-counted : (id : ℕ) (list : List Header) → number_of id (others_of list) ≡ 0 → (id == CLUSTER) ≡ false → All (λ (g : Header). (g.id == id) ≡ false) list
none-counted id [] none other = All-nil (λ (g : Header). (g.id == id) ≡ false)
none-counted id (g ∷ gs) none other = of (none-counted id gs) (g.id == CLUSTER) (g.id == id) refl refl none
  where
    of : (number_of id (others_of gs) ≡ 0 → (id == CLUSTER) ≡ false → All (λ (g : Header). (g.id == id) ≡ false) gs) → (cluster test : Bool) → (g.id == CLUSTER) ≡ cluster → (g.id == id) ≡ test
        → number_of id (if not cluster then g ∷ others_of gs else others_of gs) ≡ 0 → All (λ (g : Header). (g.id == id) ≡ false) (g ∷ gs)
    of further true true is_cluster same none =
        let one : g.id ≡ CLUSTER = grind (arith, nat_tests) in let two : g.id ≡ id = grind (arith, nat_tests) in
        absurd (let wrong : (id == CLUSTER) ≡ true = grind (arith, nat_tests) in cc)
    of further true false is_cluster same none = All-cons (λ (g : Header). (g.id == id) ≡ false) g gs same (further none other)
    of further false test is_cluster same none =
        let step : number_of id (g ∷ others_of gs) ≡ (if g.id == id then 1 + number_of id (others_of gs) else number_of id (others_of gs)) = count-step (λ (h : Header). h.id == id) g (others_of gs) in
        counted test same (sym (step ∙ ap (λ (b : Bool). if b then 1 + number_of id (others_of gs) else number_of id (others_of gs)) same) ∙ none)
      where
        counted : (test : Bool) → (g.id == id) ≡ test → (if test then 1 + number_of id (others_of gs) else number_of id (others_of gs)) ≡ 0 → All (λ (g : Header). (g.id == id) ≡ false) (g ∷ gs)
        counted true same some = absurd (omega arith)
        counted false same rest = All-cons (λ (g : Header). (g.id == id) ≡ false) g gs same (further rest other)

pub alone-first : (id : ℕ) (list : List Header) (h : Header) → (id == CLUSTER) ≡ false → number_of id (others_of list) ≤ 1 → first_of id list ≡ Some h → All (λ (g : Header). (g.id == id) ≡ true → g ≡ h) list
alone-first id [] h other few found = absurd (cc)
alone-first id (g ∷ gs) h other few found = of (alone-first id gs h other) (g.id == id) refl found
  where
    not_cluster : (g.id == id) ≡ true → (g.id == CLUSTER) ≡ false
    not_cluster same = let own : g.id ≡ id = grind (arith, nat_tests) in ap (λ n. n == CLUSTER) own ∙ other

    fewer : (cluster : Bool) → (g.id == CLUSTER) ≡ cluster → number_of id (others_of gs) ≤ 1
    fewer true is = let same : number_of id (others_of (g ∷ gs)) ≡ number_of id (others_of gs) = ap (λ (b : Bool). number_of id (if not b then g ∷ others_of gs else others_of gs)) is in omega arith
    fewer false is =
        let same : number_of id (others_of (g ∷ gs)) ≡ number_of id (g ∷ others_of gs) = ap (λ (b : Bool). number_of id (if not b then g ∷ others_of gs else others_of gs)) is in
        let step = count-step (λ (h : Header). h.id == id) g (others_of gs) in
        of_test (g.id == id) (omega arith)
      where
        of_test : (b : Bool) → (if b then 1 + number_of id (others_of gs) else number_of id (others_of gs)) ≤ 1 → number_of id (others_of gs) ≤ 1
        of_test true few = omega arith
        of_test false few = few

    of : (number_of id (others_of gs) ≤ 1 → first_of id gs ≡ Some h → All (λ (g : Header). (g.id == id) ≡ true → g ≡ h) gs) → (test : Bool) → (g.id == id) ≡ test
        → (if test then Some g else first_of id gs) ≡ Some h → All (λ (g : Header). (g.id == id) ≡ true → g ≡ h) (g ∷ gs)
    of further true same is =
        let it : g ≡ h = cc in
        let other_than = not_cluster same in
        let all : number_of id (others_of (g ∷ gs)) ≡ number_of id (g ∷ others_of gs) = ap (λ (b : Bool). number_of id (if not b then g ∷ others_of gs else others_of gs)) other_than in
        let step : number_of id (g ∷ others_of gs) ≡ 1 + number_of id (others_of gs) = count-step (λ (h : Header). h.id == id) g (others_of gs) ∙ ap (λ (b : Bool). if b then 1 + number_of id (others_of gs) else number_of id (others_of gs)) same in
        let none : number_of id (others_of gs) ≡ 0 = omega arith in
        All-cons (λ (g : Header). (g.id == id) ≡ true → g ≡ h) g gs (λ own. it)
        (All-weaker (λ (x : Header). (x.id == id) ≡ false) (λ (x : Header). (x.id == id) ≡ true → x ≡ h) (λ x differs own. absurd (cc)) gs (none-counted id gs none other))
    of further false same later =
        All-cons (λ (g : Header). (g.id == id) ≡ true → g ≡ h) g gs (λ own. absurd (cc)) (further (fewer (g.id == CLUSTER) refl) later)

-- If no other Element has the ID, at most one Element has it.
pub twin-none : (list : List Header) (id : ℕ) → twin_of list id ≡ None → number_of id list ≤ 1
twin-none list id none = of (nat_lt 1 (number_of id list)) refl none
  where
    of : (many : Bool) → nat_lt 1 (number_of id list) ≡ many → (if many then Some (refusal.NoRoom room.Twin 1 (number_of id list)) else None) ≡ None → number_of id list ≤ 1
    of true is none = absurd (cc)
    of false is none = grind (arith, nat_tests)

-- No Element that moves has a second one with its ID.
pub twins-none : (list : List Header) (ps : List Part) → twin_refusal list ps ≡ None → All (λ (p : Part). number_of p.id list ≤ 1) ps
twins-none list [] none = All-nil (λ (p : Part). number_of p.id list ≤ 1)
twins-none list (p ∷ ps) none =
    let both = or-none (twin_of list p.id) (twin_refusal list ps) none in
    All-cons (λ (p : Part). number_of p.id list ≤ 1) p ps (twin-none list p.id both.0) (twins-none list ps both.1)

-- An item that moves is the only one with its ID.
pub twin-of : (list : List Header) (ps : List Part) (is : List Item) (i : Item) → AreOf list ps is → All (λ (p : Part). number_of p.id list ≤ 1) (moving ps) → IsAmong is i → span_of i.header list < length (octets_of i.element) → number_of i.element.id list ≤ 1
twin-of list ps [] i are all member long = absurd member
twin-of list [] (j ∷ js) i are all member long = absurd are
twin-of list (p ∷ ps) (j ∷ js) i are all member long = of (λ rest. twin-of list ps js i are.1 rest) (moves p) refl all member
  where
    of : (All (λ (p : Part). number_of p.id list ≤ 1) (moving ps) → IsAmong js i → span_of i.header list < length (octets_of i.element) → number_of i.element.id list ≤ 1) → (b : Bool) → moves p ≡ b
        → All (λ (p : Part). number_of p.id list ≤ 1) (if b then p ∷ moving ps else moving ps) → (j ≡ i) ⊎ IsAmong js i → number_of i.element.id list ≤ 1
    of further true is all (inl same) =
        let own = All-head (λ (p : Part). number_of p.id list ≤ 1) p (moving ps) all in
        let number : number_of p.id list ≡ number_of i.element.id list = ap (λ n. number_of n list) (are.0.id ∙ ap (λ (k : Item). k.element.id) same) in
        omega arith
    of further true is all (inr later) = further (All-tail (λ (p : Part). number_of p.id list ≤ 1) p (moving ps) all) later long
    of further false is all (inl same) =
        let still : moves_from list i ≡ false = sym (of-moves list p j are.0 ∙ ap (moves_from list) same) ∙ is in
        absurd (let wrong : moves_from list i ≡ true = grind (arith, nat_tests) in cc)
    of further false is all (inr later) = further all later long

-- An Element that moves is found.
pub moves-found : (list : List Header) (ps : List Part) (is : List Item) (i : Item) (place : ℕ) → AreOf list ps is → IsAmong is i → span_of i.header list < length (octets_of i.element) → (g : Header) × (first_of i.element.id (headers_in_place place (elements_moving ps)) ≡ Some g)
moves-found list ps is i place are member long =
    let there = found is place member in
    (there.0, ap (λ (es : List Element). first_of i.element.id (headers_in_place place es)) (of-moving list ps is are) ∙ there.1)
  where
    found : (js : List Item) (q : ℕ) → IsAmong js i → (g : Header) × (first_of i.element.id (headers_in_place q (map (λ (k : Item). k.element) (filter (moves_from list) js))) ≡ Some g)
    found [] q member = absurd member
    found (j ∷ js) q member = of (λ r. found js r) (moves_from list j) refl member
      where
        of : ((r : ℕ) → IsAmong js i → (g : Header) × (first_of i.element.id (headers_in_place r (map (λ (k : Item). k.element) (filter (moves_from list) js))) ≡ Some g)) → (b : Bool) → moves_from list j ≡ b → (j ≡ i) ⊎ IsAmong js i
            → (g : Header) × (first_of i.element.id (headers_in_place q (map (λ (k : Item). k.element) (if b then j ∷ filter (moves_from list) js else filter (moves_from list) js))) ≡ Some g)
        of further true test (inl same) =
            let own : j.element.id ≡ i.element.id = ap (λ (k : Item). k.element.id) same in
            let is_own : (j.element.id == i.element.id) ≡ true = grind (arith, nat_tests) in
            (header_in_place q j.element, ap (λ (b : Bool). if b then Some (header_in_place q j.element) else first_of i.element.id (headers_in_place (q + length (octets_of j.element)) (map (λ (k : Item). k.element) (filter (moves_from list) js)))) is_own)
        of further true test (inr later) = front (j.element.id == i.element.id)
          where
            front : (b : Bool) → (g : Header) × ((if b then Some (header_in_place q j.element) else first_of i.element.id (headers_in_place (q + length (octets_of j.element)) (map (λ (k : Item). k.element) (filter (moves_from list) js)))) ≡ Some g)
            front true = (header_in_place q j.element, refl)
            front false = further (q + length (octets_of j.element)) later
        of further false test (inl same) =
            let still : moves_from list i ≡ false = ap (moves_from list) (sym same) ∙ test in
            absurd (let wrong : moves_from list i ≡ true = grind (arith, nat_tests) in cc)
        of further false test (inr later) = further q later
