-- The content of a room after it is filled.
use Rattle.std.proofs.Common.{inl, inr, ◌≡◌, ◌≢◌, ◌⊎◌, ℕ, ◌+◌, ◌-◌, ◌*◌, ◌^◌, ◌<◌, ◌≤◌, ◌==◌, nat_lt, nat_le, Bool, true, false, if◌then◌else◌, List, [], ◌∷◌, ◌++◌, append-nil, length, replicate, All, Some, None, refl, sym, ◌∙◌, ap, ap₂, subst, arith}
use Rattle.std.specs.Option.{unwrap_or}
use Rattle.std.specs.Int.Count.{count_leading_zeros}
use Rattle.std.proofs.lemmas.List.{length-append, length-replicate}
use Rattle.std.proofs.lemmas.List.Elements.{All-nil, All-cons}
use Rattle.std.proofs.lemmas.Nat.{pow_below}
use Rattle.std.proofs.lemmas.Bool.Decides.{nat_tests}
use Rattle.ebml_numbers.specs.Number.{is_id, uint_width, all_ones, id_octets, size_octets, least_size_width}
use Rattle.ebml_numbers.proofs.WidthLemmas.{least_size_width-IsLeast}
use Rattle.mkv_schema.specs.declared.ids.TheConstants.{VOID}
use Rattle.mkv_schema.specs.Element.{octets_between}
use Rattle.mkv_schema.proofs.ElementLemmas.{length-octets_between}
use Rattle.output_model.specs.Element.{Element, IsElement, HoldsAt, header_of, octets_of, joined, element}
use Rattle.output_model.proofs.ReadLemmas.{length-header_of, length-octets_of}
use Rattle.output_model.proofs.HeldLemmas.{between-split, held-left, held-right}
use Rattle.edit_changes.specs.Span.{fitted, void_header, wider}

void-width : uint_width VOID ≡ 1
unfolding uint_width count_leading_zeros
void-width = refl

void-valid : is_id VOID ≡ true
unfolding is_id
void-valid = refl

-- ---- a Void whose body is the old bytes

-- The content `new` has a Void of `total` bytes at `at`.
pub record HasVoid (new : List ℕ) (at total : ℕ) : Type 0 where
  pub void : Element
  pub id : void.id ≡ VOID
  pub element : IsElement void
  pub held : HoldsAt new at (octets_of void)
  pub len : length (octets_of void) ≡ total

void-of : (new : List ℕ) (at total width most : ℕ) → 1 ≤ width → width ≤ 8 → width + 1 ≤ total → total ≤ most → most - (width + 1) < all_ones width → at + total ≤ length new
    → HoldsAt new at (id_octets VOID ++ size_octets (total - (width + 1)) width) → HasVoid new at total
void-of new at total width most some wide least short fits within held =
    record { void = void; id = refl; element = record { id_stands = void-valid; some = some; most = wide; fits = fits_it }; held = stands; len = all }
  where
    body : List ℕ
    body = octets_between new (at + (width + 1)) (at + total)

    body-len : length body ≡ total - (width + 1)
    body-len = (let len = length-octets_between new (at + (width + 1)) (at + total) in omega arith)

    void : Element
    void = record { id = VOID; width = width; body = body }

    head-len : length (header_of void) ≡ width + 1
    head-len = (let len = length-header_of void in let one = void-width in omega arith)

    fits_it : length body < all_ones width
    fits_it = omega (arith, body-len)

    all : length (octets_of void) ≡ total
    all = (let len = length-octets_of void in omega (arith, body-len, head-len))

    head-is : header_of void ≡ id_octets VOID ++ size_octets (total - (width + 1)) width
    head-is = ap (λ n. id_octets VOID ++ size_octets n width) body-len

    stands : HoldsAt new at (octets_of void)
    stands =
        let end : at + length (octets_of void) ≡ at + total = omega (arith, all) in
        let mid : at + length (id_octets VOID ++ size_octets (total - (width + 1)) width) ≡ at + (width + 1) = omega (arith, head-len, ap (λ (l : List ℕ). length l) head-is) in
        ap (octets_between new at) end
        ∙ between-split new at (at + (width + 1)) (at + total) (omega arith) (omega arith)
        ∙ ap (λ l. l ++ body) (ap (octets_between new at) (sym mid) ∙ held ∙ sym head-is)

-- The header of a Void was written.
pub void-there : (new : List ℕ) (at total : ℕ) → 2 ≤ total → total ≤ 2 ^ 50 → at + total ≤ length new → HoldsAt new at (void_header total) → HasVoid new at total
void-there new at total some short within held = of (nat_le total 128) refl held
  where
    of : (small : Bool) → nat_le total 128 ≡ small
        → HoldsAt new at (header_of (if small then record { id = VOID; width = 1; body = replicate (total - 2) 0 } else record { id = VOID; width = 8; body = replicate (total - 9) 0 })) → HasVoid new at total
    of true is there =
        let few : total ≤ 128 = grind (arith, nat_tests) in
        let len : length (replicate {A = ℕ} (total - 2) 0) ≡ total - 2 = length-replicate (total - 2) 0 in
        void-of new at total 1 128 (omega arith) (omega arith) (omega arith) few (let fit : 128 - 2 < all_ones 1 = omega arith in fit) within (subst (λ n. HoldsAt new at (id_octets VOID ++ size_octets n 1)) len there)
    of false is there =
        let many : 128 < total = grind (arith, nat_tests) in
        let len : length (replicate {A = ℕ} (total - 9) 0) ≡ total - 9 = length-replicate (total - 9) 0 in
        void-of new at total 8 (2 ^ 50) (omega arith) (omega arith) (omega arith) short (let fit : 2 ^ 50 - 9 < all_ones 8 = omega arith in fit) within (subst (λ n. HoldsAt new at (id_octets VOID ++ size_octets n 8)) len there)

-- ---- an Element, or a Void in its place

-- The room has the Element, or a single Void if the Element has no room.
abbrev pub Stands : Element → List Element → ℕ → Element → Type 0
Stands now voids room e = ((now.id ≡ e.id) × (now.body ≡ e.body) × (length (octets_of e) ≤ room)) ⊎ ((now.id ≡ VOID) × (voids ≡ []) × (room < length (octets_of e)))

-- The room of `room` bytes at `at` has the Element `e`, with a Void after it or none; or it has one Void.
pub record IsFilled (new : List ℕ) (at room : ℕ) (e : Element) : Type 0 where
  pub now : Element
  pub voids : List Element
  pub elements : All IsElement (now ∷ voids)
  pub held : HoldsAt new at (joined (now ∷ voids))
  pub len : length (joined (now ∷ voids)) ≡ room
  pub are : All (λ (d : Element). d.id ≡ VOID) voids
  pub few : length voids ≤ 1
  pub is : Stands now voids room e

joined-two : (d v : Element) → joined (d ∷ v ∷ []) ≡ octets_of d ++ octets_of v
joined-two d v = ap (λ l. octets_of d ++ l) (append-nil (octets_of v))

-- The size of the Element `e` can be written with one more byte.
pub record CanWiden (e : Element) : Type 0 where
  pub own : IsElement e
  pub wide : e.width + 1 ≤ 8
  pub fits : length e.body < all_ones (e.width + 1)

pub filled : (new : List ℕ) (at room : ℕ) (e : Element) → CanWiden e → 2 ≤ room → room ≤ 2 ^ 50 → at + room ≤ length new → HoldsAt new at (unwrap_or (fitted e room) (void_header room)) → IsFilled new at room e
filled new at room e can some short within held =
    of (nat_lt room (length (octets_of e))) (room == length (octets_of e)) (room == length (octets_of e) + 1) refl refl refl held
  where
    alone : (d : Element) → IsElement d → HoldsAt new at (octets_of d) → length (octets_of d) ≡ room
        → Stands d [] room e → IsFilled new at room e
    alone d is there len kind = record {
      now = d;
      voids = [];
      elements = All-cons IsElement d [] is (All-nil IsElement);
      held = subst (HoldsAt new at) (sym (append-nil (octets_of d))) there;
      len = ap (λ (l : List ℕ). length l) (append-nil (octets_of d)) ∙ len;
      are = All-nil (λ (d : Element). d.id ≡ VOID);
      few = omega arith;
      is = kind;
    }

    with-void : length (octets_of e) + 2 ≤ room → HoldsAt new at (octets_of e ++ void_header (room - length (octets_of e))) → IsFilled new at room e
    with-void less there =
        let left : ℕ = room - length (octets_of e) in
        let v = void-there new (at + length (octets_of e)) left (omega arith) (omega arith) (omega arith) (held-right new at (octets_of e) (void_header left) there) in
        let first = held-left new at (octets_of e) (void_header left) there in
        let len = v.len in
        let both : length (octets_of e ++ octets_of v.void) ≡ room = length-append (octets_of e) (octets_of v.void) ∙ (let is : length (octets_of e) + length (octets_of v.void) ≡ room = omega arith in is) in
        record {
          now = e;
          voids = v.void ∷ [];
          elements = All-cons IsElement e (v.void ∷ []) can.own (All-cons IsElement v.void [] v.element (All-nil IsElement));
          held = subst (HoldsAt new at) (sym (joined-two e v.void))
              (ap (octets_between new at) (let end : at + length (octets_of e ++ octets_of v.void) ≡ at + room = omega arith in end)
              ∙ between-split new at (at + length (octets_of e)) (at + room) (omega arith) (omega arith)
              ∙ ap₂ (λ x y. x ++ y) first (ap (octets_between new (at + length (octets_of e))) (let end : at + room ≡ at + length (octets_of e) + length (octets_of v.void) = omega arith in end) ∙ v.held));
          len = ap (λ (l : List ℕ). length l) (joined-two e v.void) ∙ both;
          are = All-cons (λ (d : Element). d.id ≡ VOID) v.void [] v.id (All-nil (λ (d : Element). d.id ≡ VOID));
          few = omega arith;
          is = inl (refl, refl, omega arith);
        }

    of : (long just more : Bool) → nat_lt room (length (octets_of e)) ≡ long → (room == length (octets_of e)) ≡ just → (room == length (octets_of e) + 1) ≡ more
        → HoldsAt new at (unwrap_or (if long then None else if just then Some (octets_of e) else if more then Some (octets_of (wider e)) else Some (octets_of e ++ void_header (room - length (octets_of e)))) (void_header room))
        → IsFilled new at room e
    of true just more is_long is_just is_more there =
        let v = void-there new at room some short within there in
        alone v.void v.element v.held v.len (inr (v.id, refl, grind (arith, nat_tests)))
    of false true more is_long is_just is_more there =
        let same : room ≡ length (octets_of e) = grind (arith, nat_tests) in
        alone e can.own there (sym same) (inl (refl, refl, omega arith))
    of false false true is_long is_just is_more there =
        let same : room ≡ length (octets_of e) + 1 = grind (arith, nat_tests) in
        let own = can.own in
        let one = length-octets_of (wider e) in let head = length-header_of (wider e) in let two = length-octets_of e in let old = length-header_of e in
        alone (wider e) (record { id_stands = own.id_stands; some = omega arith; most = can.wide; fits = can.fits }) there (omega arith) (inl (refl, refl, omega arith))
    of false false false is_long is_just is_more there =
        let reaches : length (octets_of e) ≤ room = grind (arith, nat_tests) in
        let other : room ≢ length (octets_of e) = grind (arith, nat_tests) in
        let another : room ≢ length (octets_of e) + 1 = grind (arith, nat_tests) in
        with-void (omega arith) there

-- ---- a short Element

pub small-widen : (id : ℕ) (body : List ℕ) → is_id id ≡ true → length body ≤ 2 ^ 25 → CanWiden (element id body)
small-widen id body valid short =
    let least = least_size_width-IsLeast (length body) (omega arith) in
    let few = least.least 4 (omega arith) (let fit : length body < all_ones 4 = omega arith in fit) in
    let fits = least.fits in
    let more = pow_below (7 * least_size_width (length body)) (7 * (least_size_width (length body) + 1)) (omega arith) in
    record {
      own = record { id_stands = valid; some = least.some; most = least.most; fits = fits };
      wide = omega arith;
      fits = omega arith;
    }
