-- The rooms of Elements of level 1, among all Elements there.
use Rattle.std.proofs.Common.{inl, inr, ◌≡◌, ◌<◌, ◌≤◌, ℕ, ◌==◌, ◌&&◌, not, Bool, true, false, if◌then◌else◌, List, [], ◌∷◌, Option, Some, Ok, refl, sym, ◌∙◌, ap, subst, arith}
use Rattle.std.proofs.lemmas.Bool.{cases_lt}
use Rattle.std.proofs.lemmas.Bool.Decides.{nat_tests}
use Rattle.ebml_numbers.specs.declared.number.Size.{Size}
use Rattle.mkv_schema.specs.declared.ids.TheConstants.{CLUSTER, VOID}
use Rattle.mkv_schema.specs.declared.element.Header.{Header}
use Rattle.mkv_schema.specs.Element.{stated_end}
use Rattle.mkv_schema.specs.Value.{first_of}
use Rattle.std.specs.List.{last_or}
use Rattle.mkv_schema.specs.Elements.{behind_in_segment}
use Rattle.element_reader.specs.Collected.{others_of}
use Rattle.edit_changes.specs.Span.{behind_voids}
use Rattle.edit_plan.proofs.LevelLemmas.{Stand, Stand-later, element_at-header}
use Rattle.edit_plan.proofs.VoidLemmas.{voids-least}
use Rattle.edit_laws.proofs.AmongLemmas.{IsAmong}
use Rattle.edit_laws.proofs.TileLemmas.{level, advances-level, Stands, Tiles, stands-placed, tiles-end, ahead-later}
use Rattle.edit_laws.proofs.LevelLemmas.{whole-known, next-known}

module _ (bytes : List ℕ) (size : Size) (e : ℕ) where
  -- The Elements besides Clusters follow each other, up to the end of the list.
  pub tiles-stand : (p q : ℕ) (hs : List Header) → Tiles (level bytes size e) p hs q → Stand p q (others_of hs)
  tiles-stand p q [] tiles = tt
  tiles-stand p q (h ∷ hs) (m, stands, rest) = of (tiles-stand m q hs rest) (h.id == CLUSTER) refl
    where
      at : h.offset ≡ p
      at = (stands-placed (level bytes size e) p m h (advances-level bytes size e) stands).0

      on : p < m
      on = (stands-placed (level bytes size e) p m h (advances-level bytes size e) stands).1

      of : Stand m q (others_of hs) → (cluster : Bool) → (h.id == CLUSTER) ≡ cluster → Stand p q (if not cluster then h ∷ others_of hs else others_of hs)
      of later true is = Stand-later p m q (others_of hs) (omega (arith, on)) later
      of later false is =
          let whole = whole-known bytes size p e m h stands is in
          let next = next-known bytes size p e m h stands whole.0 in
          let ends = whole.1 in
          let behind : stated_end h ≡ m = omega arith in
          let header = (element_at-header bytes p e h stands.found).least in
          let last = tiles-end (level bytes size e) m q hs (advances-level bytes size e) rest in
          (omega (arith, at), omega (arith, at), omega arith, subst (λ k. Stand k q (others_of hs)) (sym behind) later)

  -- ---- Voids

  -- From a place before all of them no Void is skipped.
  voids-none : (x p q : ℕ) (hs : List Header) → x < p → Tiles (level bytes size e) p hs q → behind_voids x (others_of hs) ≡ x
  voids-none x p q [] before tiles = refl
  voids-none x p q (h ∷ hs) before (m, stands, rest) =
      let place = stands-placed (level bytes size e) p m h (advances-level bytes size e) stands in
      let at = place.0 in let on = place.1 in
      of (voids-none x m q hs (omega arith) rest) (h.id == CLUSTER) (h.id == VOID) (h.offset == x) refl
    where
      of : behind_voids x (others_of hs) ≡ x → (cluster void here : Bool) → (h.offset == x) ≡ here
          → behind_voids x (if not cluster then h ∷ others_of hs else others_of hs) ≡ x
      of rest_is true void here is = rest_is
      of rest_is false true true is =
          let at = (stands-placed (level bytes size e) p m h (advances-level bytes size e) stands).0 in
          let same : h.offset ≡ x = grind (arith, nat_tests) in absurd (omega arith)
      of rest_is false void here is = split rest_is (h.id == VOID) (h.offset == x) refl
        where
          split : behind_voids x (others_of hs) ≡ x → (void here : Bool) → (h.offset == x) ≡ here → (if void && here then behind_voids (stated_end h) (others_of hs) else behind_voids x (others_of hs)) ≡ x
          split rest_is true true is =
              let at = (stands-placed (level bytes size e) p m h (advances-level bytes size e) stands).0 in
              let same : h.offset ≡ x = grind (arith, nat_tests) in absurd (omega arith)
          split rest_is true false is = rest_is
          split rest_is false here is = rest_is

  -- The Element is a Void that ends inside a room.
  abbrev pub IsVoidIn : ℕ → Header → Type 0
  IsVoidIn end g = (g.id ≡ VOID) × (stated_end g ≤ end)

  -- Each Element in a room is a Void that ends inside.
  pub room-voids : (x p q : ℕ) (hs : List Header) (g : Header) → p ≤ x → Tiles (level bytes size e) p hs q → IsAmong hs g → x ≤ g.offset → g.offset < behind_voids x (others_of hs) → IsVoidIn (behind_voids x (others_of hs)) g
  room-voids x p q [] g before tiles ahead from inside = absurd ahead
  room-voids x p q (h ∷ hs) g before (m, stands, rest) ahead from inside =
      of (λ later. room-voids x m q hs g later rest) (room-voids (stated_end h) m q hs g) ahead inside (h.id == CLUSTER) (h.id == VOID) (h.offset == x) refl refl refl
    where
      at : h.offset ≡ p
      at = (stands-placed (level bytes size e) p m h (advances-level bytes size e) stands).0

      on : p < m
      on = (stands-placed (level bytes size e) p m h (advances-level bytes size e) stands).1

      -- An Element after the first one is a Void in the room.
      later : (m ≤ x → IsAmong hs g → x ≤ g.offset → g.offset < behind_voids x (others_of hs) → IsVoidIn (behind_voids x (others_of hs)) g)
          → IsAmong (h ∷ hs) g → (h.offset == x) ≡ false → g.offset < behind_voids x (others_of hs) → IsVoidIn (behind_voids x (others_of hs)) g
      later further (inl same) other inside =
          let place : h.offset ≡ g.offset = ap (λ (k : Header). k.offset) same in
          let less : p < x = before-it other in
          absurd (let place_is = at in omega arith)
        where
          before-it : (h.offset == x) ≡ false → p < x
          before-it other = (let place_is = at in grind (arith, nat_tests))
      later further (inr ahead) other inside =
          elim (cases_lt x m) [
            | inl past ↦ absurd (let none = voids-none x m q hs past rest in omega arith)
            | inr reached ↦ further reached ahead from inside
          ]

      -- If the Element isn't a Void, nothing is skipped.
      not-here : (m ≤ x → IsAmong hs g → x ≤ g.offset → g.offset < behind_voids x (others_of hs) → IsVoidIn (behind_voids x (others_of hs)) g)
          → g.offset < behind_voids x (others_of hs) → IsAmong (h ∷ hs) g → (here : Bool) → (h.offset == x) ≡ here → IsVoidIn (behind_voids x (others_of hs)) g
      not-here further inside ahead true is = absurd (let place = at in let step = on in let same : h.offset ≡ x = grind (arith, nat_tests) in let none = voids-none x m q hs (omega arith) rest in omega arith)
      not-here further inside ahead false is = later further ahead is inside

      of : (m ≤ x → IsAmong hs g → x ≤ g.offset → g.offset < behind_voids x (others_of hs) → IsVoidIn (behind_voids x (others_of hs)) g)
          → (m ≤ stated_end h → Tiles (level bytes size e) m hs q → IsAmong hs g → stated_end h ≤ g.offset → g.offset < behind_voids (stated_end h) (others_of hs) → IsVoidIn (behind_voids (stated_end h) (others_of hs)) g)
          → IsAmong (h ∷ hs) g → g.offset < behind_voids x (others_of (h ∷ hs))
          → (cluster void here : Bool) → (h.id == CLUSTER) ≡ cluster → (h.id == VOID) ≡ void → (h.offset == x) ≡ here → IsVoidIn (behind_voids x (others_of (h ∷ hs))) g
      of further behind ahead inside true void here is_cluster is_void is_here =
          let same : behind_voids x (others_of (h ∷ hs)) ≡ behind_voids x (others_of hs) = ap (λ (b : Bool). behind_voids x (if not b then h ∷ others_of hs else others_of hs)) is_cluster in
          subst (λ n. IsVoidIn n g) (sym same) (not-here further (subst (λ n. g.offset < n) same inside) ahead here is_here)
      of further behind ahead inside false true true is_cluster is_void is_here =
          let same : behind_voids x (others_of (h ∷ hs)) ≡ behind_voids (stated_end h) (others_of hs) =
          ap (λ (b : Bool). behind_voids x (if not b then h ∷ others_of hs else others_of hs)) is_cluster
          ∙ ap (λ (b : Bool). if b && h.offset == x then behind_voids (stated_end h) (others_of hs) else behind_voids x (others_of hs)) is_void
          ∙ ap (λ (b : Bool). if b then behind_voids (stated_end h) (others_of hs) else behind_voids x (others_of hs)) is_here in
          subst (λ n. IsVoidIn n g) (sym same) (void-here ahead (subst (λ n. g.offset < n) same inside))
        where
          end-is : stated_end h ≡ m
          end-is =
              let whole = whole-known bytes size p e m h stands is_cluster in
              let next = next-known bytes size p e m h stands whole.0 in
              let ends = whole.1 in omega arith

          void-here : IsAmong (h ∷ hs) g → g.offset < behind_voids (stated_end h) (others_of hs) → IsVoidIn (behind_voids (stated_end h) (others_of hs)) g
          void-here (inl same) inside =
              let void : h.id ≡ VOID = grind (arith, nat_tests) in
              let least = voids-least (stated_end h) m q (others_of hs) (tiles-stand m q hs rest) in
              subst (IsVoidIn (behind_voids (stated_end h) (others_of hs))) same (void, least)
          void-here (inr ahead) inside =
              let from_it = ahead-later (level bytes size e) m q hs g (advances-level bytes size e) rest ahead in
              let end = end-is in
              behind (omega arith) rest ahead (omega arith) inside
      of further behind ahead inside false true false is_cluster is_void is_here =
          let same : behind_voids x (others_of (h ∷ hs)) ≡ behind_voids x (others_of hs) =
          ap (λ (b : Bool). behind_voids x (if not b then h ∷ others_of hs else others_of hs)) is_cluster
          ∙ ap (λ (b : Bool). if b && h.offset == x then behind_voids (stated_end h) (others_of hs) else behind_voids x (others_of hs)) is_void
          ∙ ap (λ (b : Bool). if b then behind_voids (stated_end h) (others_of hs) else behind_voids x (others_of hs)) is_here in
          subst (λ n. IsVoidIn n g) (sym same) (later further ahead is_here (subst (λ n. g.offset < n) same inside))
      of further behind ahead inside false false here is_cluster is_void is_here =
          let same : behind_voids x (others_of (h ∷ hs)) ≡ behind_voids x (others_of hs) =
          ap (λ (b : Bool). behind_voids x (if not b then h ∷ others_of hs else others_of hs)) is_cluster
          ∙ ap (λ (b : Bool). if b && h.offset == x then behind_voids (stated_end h) (others_of hs) else behind_voids x (others_of hs)) is_void in
          subst (λ n. IsVoidIn n g) (sym same) (not-here further (subst (λ n. g.offset < n) same inside) ahead here is_here)

  -- ---- the first Element with an ID

  -- The first Element with the ID `id` is among them.
  pub record IsThere (id p q : ℕ) (hs : List Header) (g : Header) : Type 0 where
    pub next : ℕ
    pub stands : Stands (level bytes size e) g.offset g next
    pub ahead : IsAmong hs g
    pub own : g.id ≡ id
    pub from : p ≤ g.offset

  pub first-there : (id p q : ℕ) (hs : List Header) (g : Header) → Tiles (level bytes size e) p hs q → first_of id hs ≡ Some g → IsThere id p q hs g
  first-there id p q [] g tiles found = absurd (cc)
  first-there id p q (h ∷ hs) g (m, stands, rest) found = of (first-there id m q hs g rest) (h.id == id) refl found
    where
      of : (first_of id hs ≡ Some g → IsThere id m q hs g) → (test : Bool) → (h.id == id) ≡ test → (if test then Some h else first_of id hs) ≡ Some g → IsThere id p q (h ∷ hs) g
      of further true same is =
          let place = stands-placed (level bytes size e) p m h (advances-level bytes size e) stands in
          let at = place.0 in
          let it : h ≡ g = cc in
          let own : h.id ≡ id = grind (arith, nat_tests) in
          subst (IsThere id p q (h ∷ hs)) it (record { next = m; stands = subst (λ k. Stands (level bytes size e) k h m) (sym at) stands; ahead = inl refl; own = own; from = omega arith })
      of further false same is =
          let place = stands-placed (level bytes size e) p m h (advances-level bytes size e) stands in
          let on = place.1 in
          let r = further is in
          let from = r.from in
          record { next = r.next; stands = r.stands; ahead = inr r.ahead; own = r.own; from = omega arith }

  -- An Element that follows another begins at its end or later.
  pub ahead-behind : (p q : ℕ) (hs : List Header) (g h : Header) → Tiles (level bytes size e) p hs q → IsAmong hs g → IsAmong hs h → (g.id == CLUSTER) ≡ false → g.offset < h.offset → stated_end g ≤ h.offset
  ahead-behind p q [] g h tiles one two other before = absurd one
  ahead-behind p q (k ∷ hs) g h (m, stands, rest) (inl same) (inl also) other before =
      let both : g.offset ≡ h.offset = ap (λ (x : Header). x.offset) (sym same ∙ also) in
      absurd (omega arith)
  ahead-behind p q (k ∷ hs) g h (m, stands, rest) (inl same) (inr two) other before =
      let later = ahead-later (level bytes size e) m q hs h (advances-level bytes size e) rest two in
      let own : (k.id == CLUSTER) ≡ false = ap (λ (x : Header). x.id == CLUSTER) same ∙ other in
      let whole = whole-known bytes size p e m k stands own in
      let next = next-known bytes size p e m k stands whole.0 in
      let ends = whole.1 in
      let end : stated_end k ≡ stated_end g = ap stated_end same in
      omega arith
  ahead-behind p q (k ∷ hs) g h (m, stands, rest) (inr one) (inl also) other before =
      let place = stands-placed (level bytes size e) p m k (advances-level bytes size e) stands in
      let at = place.0 in let on = place.1 in
      let later = ahead-later (level bytes size e) m q hs g (advances-level bytes size e) rest one in
      let both : k.offset ≡ h.offset = ap (λ (x : Header). x.offset) also in
      absurd (omega arith)
  ahead-behind p q (k ∷ hs) g h (m, stands, rest) (inr one) (inr two) other before = ahead-behind m q hs g h rest one two other before

  -- An Element that nothing can follow is the last one.
  pub last-there : (p q : ℕ) (hs : List Header) (h : Header) (m : ℕ) (before : Option Header) → Tiles (level bytes size e) p hs q → IsAmong hs h → Stands (level bytes size e) h.offset h m → e ≤ m → last_or before hs ≡ Some h
  last-there p q [] h m before tiles ahead stands past = absurd ahead
  last-there p q (k ∷ hs) h m before (n, here, rest) (inl same) stands past = alone hs rest
    where
      alone : (gs : List Header) → Tiles (level bytes size e) n gs q → last_or (Some k) gs ≡ Some h
      alone [] rest = ap (λ x. Some x) same
      alone (g ∷ gs) (j, next, rest) =
          let both : Ok n ≡ Ok m = sym here.next ∙ ap (behind_in_segment bytes e) same ∙ stands.next in
          let is : n ≡ m = cc in
          let inside = next.inside in
          absurd (omega arith)
  last-there p q (k ∷ hs) h m before (n, here, rest) (inr ahead) stands past = last-there n q hs h m (Some k) rest ahead stands past
