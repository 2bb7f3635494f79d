-- The writes of edits, by the rewritten Elements.
use Rattle.std.proofs.Common.{inl, inr, ◌≡◌, ◌⊎◌, ◌<◌, ◌≤◌, ℕ, ◌+◌, ◌-◌, ◌^◌, ◌==◌, ◌||◌, nat_lt, nat_le, max, Bool, true, false, if◌then◌else◌, List, [], ◌∷◌, ◌++◌, length, map, flat_map, All, Option, Some, None, refl, sym, ◌∙◌, ap, ap₂, subst, arith}
use Rattle.std.specs.Bool.{⊤}
use Rattle.std.specs.List.{cons_option, list_any}
use Rattle.std.specs.Prelude.{filter, filter_map, sum_by}
use Rattle.std.specs.Option.{option_and_then, option_map_or, unwrap_or}
use Rattle.std.proofs.lemmas.List.{length-append}
use Rattle.std.proofs.lemmas.List.Elements.{All-head, All-tail, All-nil, All-cons, All-weaker}
use Rattle.std.proofs.lemmas.List.Sums.{sum_by-cons, sum_by_push}
use Rattle.std.proofs.lemmas.Bool.Decides.{nat_tests}
use Rattle.ebml_numbers.specs.Number.{is_id}
use Rattle.ebml_numbers.proofs.NumberLemmas.{is_id-bounds}
use Rattle.mkv_schema.specs.declared.element.Header.{Header}
use Rattle.mkv_schema.specs.Value.{first_of}
use Rattle.tree_format.specs.Node.{Node}
use Rattle.tree_format.specs.NormalForm.{octets}
use Rattle.output_model.specs.Element.{Element, octets_of, element}
use Rattle.output_model.proofs.ReadLemmas.{length-octets_of, length-header_of}
use Rattle.sidecar_edit.specs.Writes.{Write, end_of, extent, WritesOctet}
use Rattle.edit_changes.specs.Span.{fitted, span_of, void_header, wider}
use Rattle.edit_changes.specs.Plan.{Part, appended, ascending, elements_moving, overwrite_or_void, inserted, length_in_place, moves, moving, part, part_of, part_writes, stands, write}
use Rattle.edit_plan.proofs.LevelLemmas.{Stand}
use Rattle.edit_plan.proofs.VoidLemmas.{first-room}
use Rattle.edit_plan.proofs.PartLemmas.{first-own}
use Rattle.edit_plan.proofs.FitLemmas.{fills-place, wider-length}
use Rattle.edit_laws.proofs.AmongLemmas.{IsAmong}
use Rattle.edit_laws.proofs.CountLemmas.{described-most, described_len}
use Rattle.edit_laws.proofs.SameLemmas.{InOrder}
use Rattle.edit_laws.proofs.FillLemmas.{small-widen}
use Rattle.edit_laws.proofs.ItemLemmas.{Item, IsName, IsItem, IsInside, write_of}

-- ---- writes by their places

touches-inserted : (w : Write) (vs : List Write) (k : ℕ) → WritesOctet (inserted w vs) k → WritesOctet (w ∷ vs) k
touches-inserted w [] k touched = touched
touches-inserted w (v ∷ vs) k touched = of (touches-inserted w vs k) (nat_le w.at v.at) touched
  where
    of : (WritesOctet (inserted w vs) k → WritesOctet (w ∷ vs) k) → (first : Bool) → WritesOctet (if first then w ∷ v ∷ vs else v ∷ inserted w vs) k → WritesOctet (w ∷ v ∷ vs) k
    of further true touched = touched
    of further false (inl here) = inr (inl here)
    of further false (inr later) = elim (further later) [
      | inl own ↦ inl own
      | inr rest ↦ inr (inr rest)
    ]

pub touches-ascending : (ws : List Write) (k : ℕ) → WritesOctet (ascending ws) k → WritesOctet ws k
touches-ascending [] k touched = touched
touches-ascending (w ∷ ws) k touched = elim (touches-inserted w (ascending ws) k touched) [
  | inl here ↦ inl here
  | inr later ↦ inr (touches-ascending ws k later)
]

pub touches-append : (xs ys : List Write) (k : ℕ) → WritesOctet (xs ++ ys) k → WritesOctet xs k ⊎ WritesOctet ys k
touches-append [] ys k touched = inr touched
touches-append (x ∷ xs) ys k (inl here) = inl (inl here)
touches-append (x ∷ xs) ys k (inr later) = elim (touches-append xs ys k later) [
  | inl left ↦ inl (inr left)
  | inr right ↦ inr right
]

one-inserted : (w v : Write) (vs : List Write) → IsAmong (v ∷ vs) w → IsAmong (inserted v vs) w
one-inserted w v [] one = one
one-inserted w v (u ∷ us) one = of (one-inserted w v us) (nat_le v.at u.at) one
  where
    of : (IsAmong (v ∷ us) w → IsAmong (inserted v us) w) → (first : Bool) → IsAmong (v ∷ u ∷ us) w → IsAmong (if first then v ∷ u ∷ us else u ∷ inserted v us) w
    of further true one = one
    of further false (inl own) = inr (further (inl own))
    of further false (inr (inl here)) = inl here
    of further false (inr (inr later)) = inr (further (inr later))

pub one-ascending : (ws : List Write) (w : Write) → IsAmong ws w → IsAmong (ascending ws) w
one-ascending [] w one = one
one-ascending (v ∷ vs) w (inl own) = one-inserted w v (ascending vs) (inl own)
one-ascending (v ∷ vs) w (inr later) = one-inserted w v (ascending vs) (inr (one-ascending vs w later))

-- The file doesn't grow if all writes end before its end.
pub extent-within : (old from n : ℕ) (ws : List Write) → InOrder old from ws → ((k : ℕ) → WritesOctet ws k → k < n) → extent n ws ≡ n
extent-within old from n [] order inside = refl
extent-within old from n (w ∷ ws) order inside =
    let some = order.0 in
    let last = inside (end_of w - 1) (inl (omega arith, omega arith)) in
    let same : max n (end_of w) ≡ n = omega arith in
    ap (λ k. extent k ws) same ∙ extent-within old (end_of w) n ws order.3 (λ k touched. inside k (inr touched))

-- ---- writes of items

abbrev pub writes_of : List Header → List Item → List Write
writes_of list is = map (write_of list) is

module _ (q e : ℕ) (list : List Header) (stand : Stand q e list) where
  pub item-some : (i : Item) → IsItem list i → 1 ≤ length (octets_of i.element)
  item-some i is =
      let own = is.widen.own in
      let wide = (is_id-bounds i.element.id own.id_stands).0 in
      let all = length-octets_of i.element in let head = length-header_of i.element in omega arith

  -- The write is at most as long as the room.
  item-most : (i : Item) → IsItem list i → length (write_of list i).bytes ≤ span_of i.header list
  item-most i is =
      let room = first-room i.element.id q e list i.header stand is.first in
      (fills-place i.element (span_of i.header list) room.least (item-some i is)).most

  pub touches-items : (is : List Item) (k : ℕ) → All (IsItem list) is → WritesOctet (writes_of list is) k → IsInside list is k
  touches-items [] k are touched = touched
  touches-items (i ∷ is) k are (inl (begins, ends)) = let most = item-most i (All-head (IsItem list) i is are) in inl (begins, omega arith)
  touches-items (i ∷ is) k are (inr later) = inr (touches-items is k (All-tail (IsItem list) i is are) later)

  -- A byte of a room is before the end of the list.
  pub inside-room : (is : List Item) (k : ℕ) → All (IsItem list) is → IsInside list is k → (q ≤ k) × (k < e)
  inside-room [] k are inside = absurd inside
  inside-room (i ∷ is) k are (inr later) = inside-room is k (All-tail (IsItem list) i is are) later
  inside-room (i ∷ is) k are (inl here) =
      let own = All-head (IsItem list) i is are in
      let room = first-room i.element.id q e list i.header stand own.first in
      let from = room.from in let inside = room.inside in let left = here.0 in let right = here.1 in
      (omega arith, omega arith)

pub one-items : (list : List Header) (is : List Item) → All (λ (i : Item). IsAmong (writes_of list is) (write_of list i)) is
one-items list [] = All-nil (λ (i : Item). IsAmong [] (write_of list i))
one-items list (i ∷ is) =
    All-cons (λ (j : Item). IsAmong (writes_of list (i ∷ is)) (write_of list j)) i is (inl refl)
    (All-weaker (λ (j : Item). IsAmong (writes_of list is) (write_of list j)) (λ (j : Item). IsAmong (writes_of list (i ∷ is)) (write_of list j)) (λ j one. inr one) is (one-items list is))

-- ---- rewritten Info and Tracks as items

-- an Element of level 1 with new children
abbrev pub item_at : List Node → Header → Item
item_at nodes h = record { header = h; element = element h.id (flat_map octets nodes) }

abbrev pub items_of : Bool → ℕ → List Header → List Node → List Item
items_of written id list nodes = if written then option_map_or (λ h. item_at nodes h ∷ []) (first_of id list) [] else []

-- The part `p` belongs to the item `i`: it has the place and the room of the old Element.
pub record IsOf (list : List Header) (p : Part) (i : Item) : Type 0 where
  pub id : p.id ≡ i.element.id
  pub place : p.place ≡ i.header.offset
  pub room : p.room ≡ span_of i.header list
  pub some : 1 ≤ p.room
  pub new : p.element ≡ Some i.element

-- The parts belong to the items.
abbrev pub AreOf : List Header → List Part → List Item → Type 0
AreOf list [] [] = ⊤
AreOf list [] (i ∷ is) = ⊥
AreOf list (p ∷ ps) [] = ⊥
AreOf list (p ∷ ps) (i ∷ is) = IsOf list p i × AreOf list ps is

-- The item is longer than its room.
abbrev pub moves_from : List Header → Item → Bool
moves_from list i = nat_lt (span_of i.header list) (length (octets_of i.element))

-- the number of Voids that an item adds: one, unless it moves
abbrev pub adds_void : List Header → Item → ℕ
adds_void list i = if moves_from list i then 0 else 1

-- the limited bytes of an item in its place, or 0 if it moves
abbrev pub described_there : List Header → Item → ℕ
described_there list i = if moves_from list i then 0 else described_len i.element

pub of-moves : (list : List Header) (p : Part) (i : Item) → IsOf list p i → moves p ≡ moves_from list i
of-moves list p i is =
    ap (λ (new : Option Element). option_map_or (λ e. nat_lt p.room (length (octets_of e))) new false) is.new
    ∙ ap (λ n. nat_lt n (length (octets_of i.element))) is.room

of-stands : (list : List Header) (p : Part) (i : Item) → IsOf list p i → stands p ≡ true
of-stands list p i is = (let some = is.some in grind (arith, nat_tests))

-- A part that moves is the first of those that move.
moving-more : (list : List Header) (p : Part) (i : Item) (ps : List Part) → IsOf list p i → moves_from list i ≡ true → elements_moving (p ∷ ps) ≡ i.element ∷ elements_moving ps
moving-more list p i ps is test =
    ap (λ (b : Bool). filter_map (λ (q : Part). q.element) (if b then p ∷ moving ps else moving ps)) (of-moves list p i is ∙ test)
    ∙ ap (λ (new : Option Element). cons_option new (elements_moving ps)) is.new

moving-same : (list : List Header) (p : Part) (i : Item) (ps : List Part) → IsOf list p i → moves_from list i ≡ false → elements_moving (p ∷ ps) ≡ elements_moving ps
moving-same list p i ps is test = ap (λ (b : Bool). filter_map (λ (q : Part). q.element) (if b then p ∷ moving ps else moving ps)) (of-moves list p i is ∙ test)

pub of-moving : (list : List Header) (ps : List Part) (is : List Item) → AreOf list ps is → elements_moving ps ≡ map (λ (i : Item). i.element) (filter (moves_from list) is)
of-moving list [] [] are = refl
of-moving list [] (i ∷ is) are = absurd are
of-moving list (p ∷ ps) [] are = absurd are
of-moving list (p ∷ ps) (i ∷ is) are =
    ap (λ (b : Bool). filter_map (λ (q : Part). q.element) (if b then p ∷ moving ps else moving ps)) (of-moves list p i are.0) ∙ of (moves_from list i) (of-moving list ps is are.1)
  where
    of : (b : Bool) → elements_moving ps ≡ map (λ (j : Item). j.element) (filter (moves_from list) is)
        → filter_map (λ (q : Part). q.element) (if b then p ∷ moving ps else moving ps) ≡ map (λ (j : Item). j.element) (if b then i ∷ filter (moves_from list) is else filter (moves_from list) is)
    of true rest = ap₂ (λ (new : Option Element) (es : List Element). cons_option new es) are.0.new rest
    of false rest = rest

pub of-append : (list : List Header) (ps qs : List Part) (is js : List Item) → AreOf list ps is → AreOf list qs js → AreOf list (ps ++ qs) (is ++ js)
of-append list [] qs [] js one two = two
of-append list [] qs (i ∷ is) js one two = absurd one
of-append list (p ∷ ps) qs [] js one two = absurd one
of-append list (p ∷ ps) qs (i ∷ is) js one two = (one.0, of-append list ps qs is js one.1 two)

pub of-part : (q e : ℕ) (list : List Header) → Stand q e list → (written : Bool) (id : ℕ) (nodes : List Node) → AreOf list (part_of written id list nodes) (items_of written id list nodes)
of-part q e list stand false id nodes = tt
of-part q e list stand true id nodes = of (first_of id list) refl
  where
    of : (first : Option Header) → first_of id list ≡ first → AreOf list (option_map_or (λ h. part list nodes h ∷ []) first []) (option_map_or (λ h. item_at nodes h ∷ []) first [])
    of None is = tt
    of (Some h) is =
        let least = (first-room id q e list h stand is).least in
        (record { id = refl; place = refl; room = refl; some = omega arith; new = refl }, tt)

pub of-writes : (list : List Header) (ps : List Part) (is : List Item) → AreOf list ps is → part_writes ps ≡ writes_of list is
of-writes list [] [] are = refl
of-writes list [] (i ∷ is) are = absurd are
of-writes list (p ∷ ps) [] are = absurd are
of-writes list (p ∷ ps) (i ∷ is) are =
    ap (λ (b : Bool). map (λ (q : Part). write q.place (overwrite_or_void q)) (if b then p ∷ filter stands ps else filter stands ps)) (of-stands list p i are.0)
    ∙ ap₂ (λ w ws. w ∷ ws)
    (ap (λ n. write n (overwrite_or_void p)) are.0.place
    ∙ ap (λ n. write i.header.offset (unwrap_or (option_and_then (λ e. fitted e n) p.element) (void_header n))) are.0.room
    ∙ ap (λ (new : Option Element). write i.header.offset (unwrap_or (option_and_then (λ e. fitted e (span_of i.header list)) new) (void_header (span_of i.header list)))) are.0.new)
    (of-writes list ps is are.1)

-- An item that doesn't move has room.
pub of-still : (list : List Header) (ps : List Part) (is : List Item) → AreOf list ps is → list_any moves ps ≡ false → All (λ (i : Item). span_of i.header list < length (octets_of i.element) → ⊥) is
of-still list [] [] are none = All-nil (λ (i : Item). span_of i.header list < length (octets_of i.element) → ⊥)
of-still list [] (i ∷ is) are none = absurd are
of-still list (p ∷ ps) [] are none = absurd are
of-still list (p ∷ ps) (i ∷ is) are none = of (of-still list ps is are.1) (moves p) refl none
  where
    of : (list_any moves ps ≡ false → All (λ (i : Item). span_of i.header list < length (octets_of i.element) → ⊥) is) → (b : Bool) → moves p ≡ b → (b || list_any moves ps) ≡ false → All (λ (i : Item). span_of i.header list < length (octets_of i.element) → ⊥) (i ∷ is)
    of further true is none = absurd (cc)
    of further false still rest =
        let test : moves_from list i ≡ false = sym (of-moves list p i are.0) ∙ still in
        let fits : length (octets_of i.element) ≤ span_of i.header list = grind (arith, nat_tests) in
        All-cons (λ (i : Item). span_of i.header list < length (octets_of i.element) → ⊥) i is (λ long. omega arith) (further rest)

-- ---- items are short

pub fitted-long : (e : Element) (room : ℕ) (other : List ℕ) → length (octets_of e) ≤ room → length (octets_of e) ≤ length (unwrap_or (fitted e room) other)
fitted-long e room other fits = of (nat_lt room (length (octets_of e))) (room == length (octets_of e)) (room == length (octets_of e) + 1) refl
  where
    of : (long just more : Bool) → nat_lt room (length (octets_of e)) ≡ long
        → length (octets_of e) ≤ length (unwrap_or (if long then None else if just then Some (octets_of e) else if more then Some (octets_of (wider e)) else Some (octets_of e ++ void_header (room - length (octets_of e)))) other)
    of true just more is = (let wrong : room < length (octets_of e) = grind (arith, nat_tests) in absurd (omega arith))
    of false true more is = omega arith
    of false false true is = let all = wider-length e in omega arith
    of false false false is = let all = length-append (octets_of e) (void_header (room - length (octets_of e))) in omega arith

pub few-parts : (list : List Header) (ps : List Part) (is : List Item) → AreOf list ps is → All (λ (i : Item). length (octets_of i.element) ≤ length_in_place ps + length (appended ps)) is
few-parts list [] [] are = All-nil (λ (i : Item). length (octets_of i.element) ≤ 0)
few-parts list [] (i ∷ is) are = absurd are
few-parts list (p ∷ ps) [] are = absurd are
few-parts list (p ∷ ps) (i ∷ is) are =
    All-cons (λ (j : Item). length (octets_of j.element) ≤ length_in_place (p ∷ ps) + length (appended (p ∷ ps))) i is own
    (All-weaker (λ (j : Item). length (octets_of j.element) ≤ length_in_place ps + length (appended ps)) (λ (j : Item). length (octets_of j.element) ≤ length_in_place (p ∷ ps) + length (appended (p ∷ ps))) (λ j few. more j few) is (few-parts list ps is are.1))
  where
    sum : length_in_place (p ∷ ps) ≡ length (overwrite_or_void p) + length_in_place ps
    sum = ap (λ (b : Bool). sum_by (λ (q : Part). length (overwrite_or_void q)) (if b then p ∷ filter stands ps else filter stands ps)) (of-stands list p i are.0)
        ∙ sum_by-cons (λ (q : Part). length (overwrite_or_void q)) p (filter stands ps)

    placed : overwrite_or_void p ≡ unwrap_or (fitted i.element p.room) (void_header p.room)
    placed = ap (λ (new : Option Element). unwrap_or (option_and_then (λ e. fitted e p.room) new) (void_header p.room)) are.0.new

    moved : (b : Bool) → moves p ≡ b → (length (octets_of i.element) ≤ length (overwrite_or_void p) + length (appended (p ∷ ps))) × (length (appended ps) ≤ length (appended (p ∷ ps)))
    moved true is =
        let all : appended (p ∷ ps) ≡ octets_of i.element ++ appended ps =
        ap (λ (b : Bool). flat_map octets_of (filter_map (λ (q : Part). q.element) (if b then p ∷ moving ps else moving ps))) is
        ∙ ap (λ (new : Option Element). flat_map octets_of (cons_option new (elements_moving ps))) are.0.new in
        let len : length (appended (p ∷ ps)) ≡ length (octets_of i.element) + length (appended ps) = ap (λ (l : List ℕ). length l) all ∙ length-append (octets_of i.element) (appended ps) in
        (omega arith, omega arith)
    moved false is =
        let all : appended (p ∷ ps) ≡ appended ps = ap (λ (b : Bool). flat_map octets_of (filter_map (λ (q : Part). q.element) (if b then p ∷ moving ps else moving ps))) is in
        let len : length (appended (p ∷ ps)) ≡ length (appended ps) = ap (λ (l : List ℕ). length l) all in
        let test : moves_from list i ≡ false = sym (of-moves list p i are.0) ∙ is in
        let fits : length (octets_of i.element) ≤ span_of i.header list = grind (arith, nat_tests) in
        let room = are.0.room in
        let long = fitted-long i.element p.room (void_header p.room) (omega arith) in
        let same = ap length placed in
        (omega arith, omega arith)

    own : length (octets_of i.element) ≤ length_in_place (p ∷ ps) + length (appended (p ∷ ps))
    own = (let both = moved (moves p) refl in let one = both.0 in omega (arith, sum))

    more : (j : Item) → length (octets_of j.element) ≤ length_in_place ps + length (appended ps) → length (octets_of j.element) ≤ length_in_place (p ∷ ps) + length (appended (p ∷ ps))
    more j few = (let both = moved (moves p) refl in let two = both.1 in omega (arith, sum))

-- ---- Elements and bytes that items add

-- An item without limited bytes has none in its place.
pub there-none : (list : List Header) (i : Item) → described_len i.element ≡ 0 → described_there list i ≡ 0
there-none list i none = of (moves_from list i)
  where
    of : (test : Bool) → (if test then 0 else described_len i.element) ≡ 0
    of true = refl
    of false = none

-- Each item adds at most one Void.
pub adds-most : (list : List Header) (is : List Item) → sum_by (adds_void list) is ≤ length is
adds-most list [] = omega arith
adds-most list (i ∷ is) =
    let all = sum_by-cons (adds_void list) i is in let rest = adds-most list is in let one = of (moves_from list i) in omega arith
  where
    of : (test : Bool) → (if test then 0 else 1) ≤ 1
    of true = omega arith
    of false = omega arith

-- Of two items the second one moves.
pub adds-moved : (list : List Header) (i j : Item) → span_of j.header list < length (octets_of j.element) → sum_by (adds_void list) (i ∷ j ∷ []) ≤ 1
adds-moved list i j long =
    let test : moves_from list j ≡ true = grind (arith, nat_tests) in
    let here : adds_void list j ≡ 0 = ap (λ (b : Bool). if b then 0 else 1) test in
    let one = adds-most list (i ∷ []) in
    let all = sum_by_push (adds_void list) (i ∷ []) j in
    omega arith

-- An item adds a Void at most, or itself after the old end.
pub adds-parts : (list : List Header) (ps : List Part) (is : List Item) → AreOf list ps is → sum_by (adds_void list) is + length (elements_moving ps) ≡ length is
adds-parts list [] [] are = omega arith
adds-parts list [] (i ∷ is) are = absurd are
adds-parts list (p ∷ ps) [] are = absurd are
adds-parts list (p ∷ ps) (i ∷ is) are = of (adds-parts list ps is are.1) (moves_from list i) refl
  where
    all : sum_by (adds_void list) (i ∷ is) ≡ adds_void list i + sum_by (adds_void list) is
    all = sum_by-cons (adds_void list) i is

    of : sum_by (adds_void list) is + length (elements_moving ps) ≡ length is → (test : Bool) → moves_from list i ≡ test → sum_by (adds_void list) (i ∷ is) + length (elements_moving (p ∷ ps)) ≡ length (i ∷ is)
    of rest true test =
        let here : adds_void list i ≡ 0 = ap (λ (b : Bool). if b then 0 else 1) test in
        let more : length (elements_moving (p ∷ ps)) ≡ 1 + length (elements_moving ps) =
        ap (λ (es : List Element). length es) (moving-more list p i ps are.0 test) ∙ (let one : length (i.element ∷ elements_moving ps) ≡ 1 + length (elements_moving ps) = omega arith in one) in
        omega (arith, all)
    of rest false test =
        let here : adds_void list i ≡ 1 = ap (λ (b : Bool). if b then 0 else 1) test in
        let same : length (elements_moving (p ∷ ps)) ≡ length (elements_moving ps) = ap (λ (es : List Element). length es) (moving-same list p i ps are.0 test) in
        omega (arith, all)

-- The limited bytes of the new Elements are among the written bytes.
pub described-parts : (list : List Header) (ps : List Part) (is : List Item) → AreOf list ps is → sum_by (described_there list) is + sum_by described_len (elements_moving ps) ≤ length_in_place ps + length (appended ps)
described-parts list [] [] are = omega arith
described-parts list [] (i ∷ is) are = absurd are
described-parts list (p ∷ ps) [] are = absurd are
described-parts list (p ∷ ps) (i ∷ is) are = of (described-parts list ps is are.1) (moves_from list i) refl
  where
    all : sum_by (described_there list) (i ∷ is) ≡ described_there list i + sum_by (described_there list) is
    all = sum_by-cons (described_there list) i is

    sum : length_in_place (p ∷ ps) ≡ length (overwrite_or_void p) + length_in_place ps
    sum = ap (λ (b : Bool). sum_by (λ (q : Part). length (overwrite_or_void q)) (if b then p ∷ filter stands ps else filter stands ps)) (of-stands list p i are.0)
        ∙ sum_by-cons (λ (q : Part). length (overwrite_or_void q)) p (filter stands ps)

    most : described_len i.element ≤ length (octets_of i.element)
    most = described-most i.element

    of : sum_by (described_there list) is + sum_by described_len (elements_moving ps) ≤ length_in_place ps + length (appended ps) → (test : Bool) → moves_from list i ≡ test
        → sum_by (described_there list) (i ∷ is) + sum_by described_len (elements_moving (p ∷ ps)) ≤ length_in_place (p ∷ ps) + length (appended (p ∷ ps))
    of rest true test =
        let here : described_there list i ≡ 0 = ap (λ (b : Bool). if b then 0 else described_len i.element) test in
        let moved = moving-more list p i ps are.0 test in
        let more : sum_by described_len (elements_moving (p ∷ ps)) ≡ described_len i.element + sum_by described_len (elements_moving ps) = ap (sum_by described_len) moved ∙ sum_by-cons described_len i.element (elements_moving ps) in
        let bytes : length (appended (p ∷ ps)) ≡ length (octets_of i.element) + length (appended ps) = ap (λ (es : List Element). length (flat_map octets_of es)) moved ∙ length-append (octets_of i.element) (appended ps) in
        omega (arith, all, sum, most)
    of rest false test =
        let here : described_there list i ≡ described_len i.element = ap (λ (b : Bool). if b then 0 else described_len i.element) test in
        let still = moving-same list p i ps are.0 test in
        let more : sum_by described_len (elements_moving (p ∷ ps)) ≡ sum_by described_len (elements_moving ps) = ap (sum_by described_len) still in
        let bytes : length (appended (p ∷ ps)) ≡ length (appended ps) = ap (λ (es : List Element). length (flat_map octets_of es)) still in
        let fits : length (octets_of i.element) ≤ span_of i.header list = grind (arith, nat_tests) in
        let room = are.0.room in
        let long = fitted-long i.element p.room (void_header p.room) (omega arith) in
        let placed : length (overwrite_or_void p) ≡ length (unwrap_or (fitted i.element p.room) (void_header p.room)) = ap (λ (new : Option Element). length (unwrap_or (option_and_then (λ e. fitted e p.room) new) (void_header p.room))) are.0.new in
        omega (arith, all, sum, most)

-- There is one item or none.
pub items-few : (written : Bool) (id : ℕ) (list : List Header) (nodes : List Node) → length (items_of written id list nodes) ≤ 1
items-few false id list nodes = omega arith
items-few true id list nodes = of (first_of id list)
  where
    of : (first : Option Header) → length (option_map_or (λ h. item_at nodes h ∷ []) first []) ≤ 1
    of None = omega arith
    of (Some h) = omega arith

-- Items of Info or Tracks can be rewritten.
pub items-are : (written : Bool) (id : ℕ) (list : List Header) (nodes : List Node) → IsName id → is_id id ≡ true → All (λ (i : Item). length (octets_of i.element) ≤ 2 ^ 24) (items_of written id list nodes) → All (IsItem list) (items_of written id list nodes)
items-are false id list nodes name valid few = All-nil (IsItem list)
items-are true id list nodes name valid few = of (first_of id list) refl few
  where
    of : (first : Option Header) → first_of id list ≡ first
        → All (λ (i : Item). length (octets_of i.element) ≤ 2 ^ 24) (option_map_or (λ h. item_at nodes h ∷ []) first [])
        → All (IsItem list) (option_map_or (λ h. item_at nodes h ∷ []) first [])
    of None is few = All-nil (IsItem list)
    of (Some h) is few =
        let own = first-own id list h is in
        let small = All-head (λ (i : Item). length (octets_of i.element) ≤ 2 ^ 24) (item_at nodes h) [] few in
        let len = length-octets_of (element h.id (flat_map octets nodes)) in
        All-cons (IsItem list) (item_at nodes h) [] (record {
          first = ap (λ n. first_of n list) own ∙ is;
          name = subst IsName (sym own) name;
          widen = small-widen h.id (flat_map octets nodes) (ap is_id own ∙ valid) (omega arith);
        }) (All-nil (IsItem list))
