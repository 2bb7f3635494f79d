-- The content of an edited file at level 1 that is still there.
use Rattle.std.proofs.Common.{inl, inr, ◌≡◌, ◌⊎◌, ℕ, ◌+◌, ◌==◌, Bool, true, false, if◌then◌else◌, List, [], ◌∷◌, ◌++◌, length, All, Some, None, refl, sym, ◌∙◌, ap, subst, arith}
use Rattle.std.proofs.lemmas.Bool.Decides.{nat_tests}
use Rattle.std.proofs.lemmas.List.Elements.{All-head, All-tail, All-cons, All-weaker}
use Rattle.mkv_schema.specs.declared.ids.TheConstants.{CLUSTER, VOID}
use Rattle.mkv_schema.specs.declared.element.Header.{Header}
use Rattle.mkv_schema.specs.Elements.{ends_cluster}
use Rattle.mkv_schema.specs.Value.{first_of}
use Rattle.output_model.specs.Element.{Element, octets_of, header_in_place, headers_in_place}
use Rattle.block_format.specs.Elements.{Rules}
use Rattle.block_format.specs.Events.{found_in, is_closed, events_then, events_among, blocks_of, damages_of}
use Rattle.edit_laws.proofs.AmongLemmas.{IsAmong, all-among}
use Rattle.edit_laws.proofs.BlockLemmas.{IsHeld}
use Rattle.edit_laws.proofs.ClusterLemmas.{blocks-then, undamaged-then}
use Rattle.edit_laws.proofs.LevelLemmas.{Spot, Edit, all_now, IsSpot, IsKept, IsGone, Becomes, Turn, kept, now, gone, cluster-ends, void-goes, goes-other}

-- An ID that differs from an Element's ID.
other-id : (a b id : ℕ) → a ≡ b → (b == id) ≡ false → (a == id) ≡ false
other-id a b id same other = ap (λ n. n == id) same ∙ other

void-other : (id : ℕ) → ends_cluster id ≡ true → (VOID == id) ≡ false
void-other id ends = goes-other VOID id void-goes ends

-- No written Element has the ID.
abbrev HasNot : ℕ → List Element → Type 0
HasNot id ds = All (λ (d : Element). (d.id == id) ≡ false) ds

pub first-skips : (id p : ℕ) (ds : List Element) (ns : List Header) → HasNot id ds → first_of id (headers_in_place p ds ++ ns) ≡ first_of id ns
first-skips id p [] ns none = refl
first-skips id p (d ∷ ds) ns none =
    ap (λ (b : Bool). if b then Some (header_in_place p d) else first_of id (headers_in_place (p + length (octets_of d)) ds ++ ns)) (All-head (λ (d : Element). (d.id == id) ≡ false) d ds none)
    ∙ first-skips id (p + length (octets_of d)) ds ns (All-tail (λ (d : Element). (d.id == id) ≡ false) d ds none)

module _ (t : Edit) where
  -- A rewritten Element has the old ID, or is a Void.
  not-now : (id : ℕ) (s : Spot) → IsSpot t s → (VOID == id) ≡ false → ((s.now.id ≡ VOID) ⊎ ((s.header.id == id) ≡ false)) → HasNot id (all_now s)
  not-now id s spot void other = λ k d below. of k d below
    where
      first : (s.now.id == id) ≡ false
      first = elim other [
        | inl is ↦ other-id s.now.id VOID id is void
        | inr differs ↦ elim spot.stays [
          | inl same ↦ other-id s.now.id s.header.id id same.0 differs
          | inr moved ↦ other-id s.now.id VOID id moved.0 void
        ]
      ]

      of : HasNot id (all_now s)
      of = All-cons (λ (d : Element). (d.id == id) ≡ false) s.now s.voids first (All-weaker (λ (d : Element). d.id ≡ VOID) (λ (d : Element). (d.id == id) ≡ false) (λ d is. other-id d.id VOID id is void) s.voids spot.voids)

  -- ---- blocks

  pub events-skip : (r : Rules) (p : ℕ) (ds : List Element) (ns : List Header) → HasNot CLUSTER ds → events_among r t.new t.now_end (headers_in_place p ds ++ ns) None ≡ events_among r t.new t.now_end ns None
  events-skip r p [] ns none = refl
  events-skip r p (d ∷ ds) ns none =
      ap (λ (b : Bool). if b then events_then (is_closed (length t.new) (header_in_place p d)) (found_in r t.new t.now_end (header_in_place p d)) (events_among r t.new t.now_end (headers_in_place (p + length (octets_of d)) ds ++ ns) None)
      else events_among r t.new t.now_end (headers_in_place (p + length (octets_of d)) ds ++ ns) None) (All-head (λ (d : Element). (d.id == CLUSTER) ≡ false) d ds none)
      ∙ events-skip r (p + length (octets_of d)) ds ns (All-tail (λ (d : Element). (d.id == CLUSTER) ≡ false) d ds none)

  -- No Cluster is rewritten.
  spot-cluster : (s : Spot) → IsSpot t s → HasNot CLUSTER (all_now s)
  spot-cluster s spot = not-now CLUSTER s spot refl (inr spot.cluster)

  gone-other : (id : ℕ) (h : Header) → ends_cluster id ≡ true → All (λ (s : Spot). (s.header.id == id) ≡ false) t.spots → IsGone t h → (h.id == id) ≡ false
  gone-other id h ends others (inl goes) = goes-other h.id id goes ends
  gone-other id h ends others (inr (s, member, spot, own, void)) = other-id h.id s.header.id id (ap (λ (g : Header). g.id) (sym own)) (all-among (λ (s : Spot). (s.header.id == id) ≡ false) t.spots s others member)

  -- Elements that become others give the same blocks.
  pub blocks-stay : (r : Rules) → events_among r t.new t.now_end t.behind None ≡ [] → All (λ (s : Spot). (s.header.id == CLUSTER) ≡ false) t.spots → (hs ns : List Header) → Becomes t hs ns
      → blocks_of (events_among r t.old t.end hs None) ≡ blocks_of (events_among r t.new t.now_end ns None)
  blocks-stay r none spots [] ns is = ap blocks_of (sym (ap (λ l. events_among r t.new t.now_end l None) is ∙ none))
  blocks-stay r none spots (h ∷ hs) ns (ks, turn, rest) = of (blocks-stay r none spots hs ks rest) turn
    where
      -- The Element before gives no blocks.
      none-here : blocks_of (events_among r t.old t.end hs None) ≡ blocks_of (events_among r t.new t.now_end ks None) → (h.id == CLUSTER) ≡ false → blocks_of (events_among r t.old t.end (h ∷ hs) None) ≡ blocks_of (events_among r t.new t.now_end ks None)
      none-here behind other =
          ap (λ (b : Bool). blocks_of (if b then events_then (is_closed (length t.old) h) (found_in r t.old t.end h) (events_among r t.old t.end hs None) else events_among r t.old t.end hs None)) other ∙ behind

      stays : blocks_of (events_among r t.old t.end hs None) ≡ blocks_of (events_among r t.new t.now_end ks None) → IsKept t h → (cluster : Bool) → blocks_of (if cluster then events_then (is_closed (length t.old) h) (found_in r t.old t.end h) (events_among r t.old t.end hs None) else events_among r t.old t.end hs None)
          ≡ blocks_of (if cluster then events_then (is_closed (length t.new) h) (found_in r t.new t.now_end h) (events_among r t.new t.now_end ks None) else events_among r t.new t.now_end ks None)
      stays behind keeps true = subst (λ c. blocks_of (events_then (is_closed (length t.old) h) (found_in r t.old t.end h) (events_among r t.old t.end hs None)) ≡ blocks_of (events_then c (found_in r t.new t.now_end h) (events_among r t.new t.now_end ks None))) (sym keeps.closed)
          (blocks-then (is_closed (length t.old) h) (found_in r t.old t.end h) (found_in r t.new t.now_end h) _ _ (keeps.alike r) behind)
      stays behind keeps false = behind

      of : blocks_of (events_among r t.old t.end hs None) ≡ blocks_of (events_among r t.new t.now_end ks None) → Turn t h ks ns → blocks_of (events_among r t.old t.end (h ∷ hs) None) ≡ blocks_of (events_among r t.new t.now_end ns None)
      of behind (kept keeps is) = stays behind keeps (h.id == CLUSTER) ∙ ap (λ l. blocks_of (events_among r t.new t.now_end l None)) (sym is)
      of behind (now s member spot own is) =
          none-here behind (ap (λ (g : Header). g.id == CLUSTER) (sym own) ∙ spot.cluster)
          ∙ sym (ap (λ l. blocks_of (events_among r t.new t.now_end l None)) is ∙ ap blocks_of (events-skip r s.header.offset (all_now s) ks (spot-cluster s spot)))
      of behind (gone is-gone is) = none-here behind (gone-other CLUSTER h cluster-ends spots is-gone) ∙ ap (λ l. blocks_of (events_among r t.new t.now_end l None)) (sym is)

  -- If the old Elements have no damage, the new ones have none.
  pub damages-stay : (r : Rules) → events_among r t.new t.now_end t.behind None ≡ [] → All (λ (s : Spot). (s.header.id == CLUSTER) ≡ false) t.spots → (hs ns : List Header) → Becomes t hs ns
      → damages_of (events_among r t.old t.end hs None) ≡ [] → damages_of (events_among r t.new t.now_end ns None) ≡ []
  damages-stay r none spots [] ns is old = ap (λ l. damages_of (events_among r t.new t.now_end l None)) is ∙ ap damages_of none
  damages-stay r none spots (h ∷ hs) ns (ks, turn, rest) old = of (damages-stay r none spots hs ks rest) turn
    where
      undamaged : (h.id == CLUSTER) ≡ false → damages_of (events_among r t.old t.end hs None) ≡ []
      undamaged other =
          sym (ap (λ (b : Bool). damages_of (if b then events_then (is_closed (length t.old) h) (found_in r t.old t.end h) (events_among r t.old t.end hs None) else events_among r t.old t.end hs None)) other) ∙ old

      stays : (damages_of (events_among r t.old t.end hs None) ≡ [] → damages_of (events_among r t.new t.now_end ks None) ≡ []) → IsKept t h → (cluster : Bool)
          → damages_of (if cluster then events_then (is_closed (length t.old) h) (found_in r t.old t.end h) (events_among r t.old t.end hs None) else events_among r t.old t.end hs None) ≡ []
          → damages_of (if cluster then events_then (is_closed (length t.new) h) (found_in r t.new t.now_end h) (events_among r t.new t.now_end ks None) else events_among r t.new t.now_end ks None) ≡ []
      stays further keeps true is = undamaged-then (is_closed (length t.old) h) (is_closed (length t.new) h) (found_in r t.old t.end h) (found_in r t.new t.now_end h) _ _ (keeps.alike r) further is
      stays further keeps false is = further is

      of : (damages_of (events_among r t.old t.end hs None) ≡ [] → damages_of (events_among r t.new t.now_end ks None) ≡ []) → Turn t h ks ns → damages_of (events_among r t.new t.now_end ns None) ≡ []
      of further (kept keeps is) = ap (λ l. damages_of (events_among r t.new t.now_end l None)) is ∙ stays further keeps (h.id == CLUSTER) old
      of further (now s member spot own is) =
          ap (λ l. damages_of (events_among r t.new t.now_end l None)) is ∙ ap damages_of (events-skip r s.header.offset (all_now s) ks (spot-cluster s spot))
          ∙ further (undamaged (ap (λ (g : Header). g.id == CLUSTER) (sym own) ∙ spot.cluster))
      of further (gone is-gone is) = ap (λ l. damages_of (events_among r t.new t.now_end l None)) is ∙ further (undamaged (gone-other CLUSTER h cluster-ends spots is-gone))

  -- ---- the first Element with an ID

  -- If no Element with the ID is rewritten, the first one is the same.
  pub first-stays : (id : ℕ) → ends_cluster id ≡ true → All (λ (s : Spot). (s.header.id == id) ≡ false) t.spots → first_of id t.behind ≡ None → (hs ns : List Header) → Becomes t hs ns → first_of id ns ≡ first_of id hs
  first-stays id ends others none [] ns is = ap (first_of id) is ∙ none
  first-stays id ends others none (h ∷ hs) ns (ks, turn, rest) = of (first-stays id ends others none hs ks rest) turn
    where
      skip : first_of id ks ≡ first_of id hs → (h.id == id) ≡ false → first_of id ks ≡ first_of id (h ∷ hs)
      skip behind other = behind ∙ sym (ap (λ (b : Bool). if b then Some h else first_of id hs) other)

      of : first_of id ks ≡ first_of id hs → Turn t h ks ns → first_of id ns ≡ first_of id (h ∷ hs)
      of behind (kept keeps is) = ap (first_of id) is ∙ ap (λ o. if h.id == id then Some h else o) behind
      of behind (now s member spot own is) =
          let other = all-among (λ (s : Spot). (s.header.id == id) ≡ false) t.spots s others member in
          ap (first_of id) is ∙ first-skips id s.header.offset (all_now s) ks (not-now id s spot (void-other id ends) (inr other))
          ∙ skip behind (other-id h.id s.header.id id (ap (λ (g : Header). g.id) (sym own)) other)
      of behind (gone is-gone is) = ap (first_of id) is ∙ skip behind (gone-other id h ends others is-gone)

  -- If there was none, it is the first one after the old end.
  pub first-behind : (id : ℕ) → ends_cluster id ≡ true → All (λ (s : Spot). (s.header.id == id) ≡ false) t.spots → (hs ns : List Header) → Becomes t hs ns → first_of id hs ≡ None → first_of id ns ≡ first_of id t.behind
  first-behind id ends others [] ns is none = ap (first_of id) is
  first-behind id ends others (h ∷ hs) ns (ks, turn, rest) none = of (first-behind id ends others hs ks rest) (h.id == id) refl none turn
    where
      of : (first_of id hs ≡ None → first_of id ks ≡ first_of id t.behind) → (test : Bool) → (h.id == id) ≡ test → (if test then Some h else first_of id hs) ≡ None → Turn t h ks ns → first_of id ns ≡ first_of id t.behind
      of further true same some turn = absurd (cc)
      of further false other nothing (kept keeps is) = ap (first_of id) is ∙ ap (λ (b : Bool). if b then Some h else first_of id ks) other ∙ further nothing
      of further false other nothing (now s member spot own is) =
          let differs = all-among (λ (s : Spot). (s.header.id == id) ≡ false) t.spots s others member in
          ap (first_of id) is ∙ first-skips id s.header.offset (all_now s) ks (not-now id s spot (void-other id ends) (inr differs)) ∙ further nothing
      of further false other nothing (gone is-gone is) = ap (first_of id) is ∙ further nothing

  -- A Cluster stays in its place.
  pub cluster-kept : (h : Header) → (h.id == CLUSTER) ≡ true → (hs ns : List Header) → Becomes t hs ns → IsAmong hs h → IsKept t h
  cluster-kept h cluster [] ns is ahead = absurd ahead
  cluster-kept h cluster (g ∷ hs) ns (ks, turn, rest) ahead = of (cluster-kept h cluster hs ks rest) ahead
    where
      differs : (g.id == CLUSTER) ≡ false → g ≡ h → ⊥
      differs other same = (let wrong : (h.id == CLUSTER) ≡ false = ap (λ (x : Header). x.id == CLUSTER) (sym same) ∙ other in absurd (cc))

      here : Turn t g ks ns → g ≡ h → IsKept t h
      here (kept keeps is) same = subst (IsKept t) same keeps
      here (now s member spot own is) same = absurd (differs (ap (λ (x : Header). x.id == CLUSTER) (sym own) ∙ spot.cluster) same)
      here (gone (inl goes) is) same = absurd (differs (goes-other g.id CLUSTER goes cluster-ends) same)
      here (gone (inr (s, member, spot, own, void)) is) same = absurd (differs (ap (λ (x : Header). x.id == CLUSTER) (sym own) ∙ spot.cluster) same)

      of : (IsAmong hs h → IsKept t h) → (g ≡ h) ⊎ IsAmong hs h → IsKept t h
      of further (inl same) = here turn same
      of further (inr later) = further later

  -- The bytes of the first Element stay, too.
  pub held-stays : (id : ℕ) (g : Header) → ends_cluster id ≡ true → (id == CLUSTER) ≡ false → All (λ (s : Spot). (s.header.id == id) ≡ false) t.spots → (hs ns : List Header) → Becomes t hs ns → first_of id hs ≡ Some g → IsHeld t.old t.new g
  held-stays id g ends other others [] ns is found = absurd (cc)
  held-stays id g ends other others (h ∷ hs) ns (ks, turn, rest) found = of (held-stays id g ends other others hs ks rest) (h.id == id) refl found
    where
      own : (h.id == id) ≡ true → Turn t h ks ns → IsHeld t.old t.new h
      own same (kept keeps is) = keeps.held (let is_it : h.id ≡ id = grind (arith, nat_tests) in ap (λ n. n == CLUSTER) is_it ∙ other)
      own same (now s member spot its is) = absurd (let differs = all-among (λ (s : Spot). (s.header.id == id) ≡ false) t.spots s others member in let other_it : (h.id == id) ≡ false = other-id h.id s.header.id id (ap (λ (g : Header). g.id) (sym its)) differs in cc)
      own same (gone is-gone is) = absurd (let differs = gone-other id h ends others is-gone in cc)

      of : (first_of id hs ≡ Some g → IsHeld t.old t.new g) → (test : Bool) → (h.id == id) ≡ test → (if test then Some h else first_of id hs) ≡ Some g → IsHeld t.old t.new g
      of further true same is = let is_it : h ≡ g = cc in subst (IsHeld t.old t.new) is_it (own same turn)
      of further false same later = further later

  -- ---- rewritten Elements

  module _ (s : Spot) (member : IsAmong t.spots s) (spot : IsSpot t s) (id : ℕ) (is_its : s.header.id ≡ id) (ends : ends_cluster id ≡ true) (single : All (λ (o : Spot). o.header ≡ s.header → o ≡ s) t.spots) where
    -- An Element that stays isn't the rewritten one.
    kept-other : (h : Header) → IsKept t h → h ≡ s.header → ⊥
    kept-other h keeps same =
        let differs : (s.header.offset == h.offset) ≡ false = all-among (λ (o : Spot). (o.header.offset == h.offset) ≡ false) t.spots s keeps.apart member in
        let at : h.offset ≡ s.header.offset = ap (λ (g : Header). g.offset) same in
        let here : (s.header.offset == h.offset) ≡ true = grind (arith, nat_tests) in
        let false_is : true ≡ false = sym here ∙ differs in absurd (cc)

    void-it : (VOID == id) ≡ false
    void-it = void-other id ends

    -- A rewritten Element in its place is the first one with its ID.
    pub first-now : s.now.id ≡ s.header.id → (hs ns : List Header) → Becomes t hs ns → first_of id hs ≡ Some s.header → first_of id ns ≡ Some (header_in_place s.header.offset s.now)
    first-now same [] ns is found = absurd (cc)
    first-now same (h ∷ hs) ns (ks, turn, rest) found = of (first-now same hs ks rest) turn (h.id == id) refl found
      where
        here : (o : Spot) → o ≡ s → first_of id (headers_in_place o.header.offset (all_now o) ++ ks) ≡ Some (header_in_place s.header.offset s.now)
        here o is_s =
            let test : (s.now.id == id) ≡ true = (let all : s.now.id ≡ id = same ∙ is_its in grind (arith, nat_tests)) in
            ap (λ (x : Spot). first_of id (headers_in_place x.header.offset (all_now x) ++ ks)) is_s
            ∙ ap (λ (b : Bool). if b then Some (header_in_place s.header.offset s.now) else first_of id (headers_in_place (s.header.offset + length (octets_of s.now)) s.voids ++ ks)) test

        of : (first_of id hs ≡ Some s.header → first_of id ks ≡ Some (header_in_place s.header.offset s.now)) → Turn t h ks ns → (test : Bool) → (h.id == id) ≡ test → (if test then Some h else first_of id hs) ≡ Some s.header → first_of id ns ≡ Some (header_in_place s.header.offset s.now)
        of further (kept keeps is) true own some = absurd (kept-other h keeps (cc))
        of further (kept keeps is) false own later = ap (first_of id) is ∙ ap (λ (b : Bool). if b then Some h else first_of id ks) own ∙ further later
        of further (now o in_it its own is) true test some =
            let same_h : h ≡ s.header = cc in
            ap (first_of id) is ∙ here o (all-among (λ (o : Spot). o.header ≡ s.header → o ≡ s) t.spots o single in_it (own ∙ same_h))
        of further (now o in_it its own is) false test later =
            ap (first_of id) is ∙ first-skips id o.header.offset (all_now o) ks (not-now id o its void-it (inr (other-id o.header.id h.id id (ap (λ (g : Header). g.id) own) test))) ∙ further later
        of further (gone (inl goes) is) true test some = absurd (let differs = goes-other h.id id goes ends in cc)
        of further (gone (inr (o, in_it, its, own, void)) is) true test some =
            let same_h : h ≡ s.header = cc in
            let is_s : o ≡ s = all-among (λ (o : Spot). o.header ≡ s.header → o ≡ s) t.spots o single in_it (own ∙ same_h) in
            let void_it : s.header.id ≡ VOID = sym same ∙ ap (λ (x : Spot). x.now.id) (sym is_s) ∙ void in
            absurd (let not_void = spot.void in let is_void : (s.header.id == VOID) ≡ true = grind (arith, nat_tests) in cc)
        of further (gone is-gone is) false test later = ap (first_of id) is ∙ further later

    -- A moved Element that is the only one with its ID is the first one after the old end.
    pub first-moved : s.now.id ≡ VOID → (hs ns : List Header) → All (λ (h : Header). (h.id == id) ≡ true → h ≡ s.header) hs → Becomes t hs ns → first_of id ns ≡ first_of id t.behind
    first-moved void [] ns alone is = ap (first_of id) is
    first-moved void (h ∷ hs) ns alone (ks, turn, rest) = of (first-moved void hs ks (All-tail (λ (h : Header). (h.id == id) ≡ true → h ≡ s.header) h hs alone) rest) turn (h.id == id) refl
      where
        own-it : (h.id == id) ≡ true → h ≡ s.header
        own-it = All-head (λ (h : Header). (h.id == id) ≡ true → h ≡ s.header) h hs alone

        of : first_of id ks ≡ first_of id t.behind → Turn t h ks ns → (test : Bool) → (h.id == id) ≡ test → first_of id ns ≡ first_of id t.behind
        of further (kept keeps is) true test = absurd (kept-other h keeps (own-it test))
        of further (kept keeps is) false test = ap (first_of id) is ∙ ap (λ (b : Bool). if b then Some h else first_of id ks) test ∙ further
        of further (now o in_it its own is) true test =
            let is_s : o ≡ s = all-among (λ (o : Spot). o.header ≡ s.header → o ≡ s) t.spots o single in_it (own ∙ own-it test) in
            ap (first_of id) is ∙ first-skips id o.header.offset (all_now o) ks (not-now id o its void-it (inl (ap (λ (x : Spot). x.now.id) is_s ∙ void))) ∙ further
        of further (now o in_it its own is) false test =
            ap (first_of id) is ∙ first-skips id o.header.offset (all_now o) ks (not-now id o its void-it (inr (other-id o.header.id h.id id (ap (λ (g : Header). g.id) own) test))) ∙ further
        of further (gone is-gone is) test same = ap (first_of id) is ∙ further
