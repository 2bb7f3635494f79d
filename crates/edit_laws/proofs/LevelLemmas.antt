-- Level 1 of two contents that differ only in the rooms of some Elements, and after the old end.
use Rattle.std.proofs.Common.{inl, inr, ◌≡◌, ◌⊎◌, ◌<◌, ◌≤◌, ℕ, ◌+◌, nat_lt, min, ◌==◌, Bool, true, false, if◌then◌else◌, List, [], ◌∷◌, ◌++◌, length, length-append, append-nil, find, get_or, All, Option, Some, None, Ok, refl, sym, ◌∙◌, ap, subst, arith}
use Rattle.std.proofs.lemmas.Bool.{cases_lt, le-ltb, cond-false, false_from_ne_true}
use Rattle.std.proofs.lemmas.Bool.Decides.{nat_tests}
use Rattle.std.proofs.lemmas.List.Elements.{All-head, All-tail, All-nil, All-cons}
use Rattle.ebml_numbers.specs.declared.number.Size.{Size}
use Rattle.mkv_schema.specs.declared.ids.TheConstants.{CLUSTER, VOID, TIMESTAMP, SIMPLE_BLOCK, BLOCK_GROUP}
use Rattle.mkv_schema.specs.Schema.{entry_of}
use Rattle.mkv_schema.specs.Table.{table}
use Rattle.mkv_io.specs.declared.damage.Damage.{Damage}
use Rattle.mkv_schema.specs.declared.element.Header.{Header}
use Rattle.mkv_schema.specs.Element.{in_segment, in_master, octets_between, element_at, end_in, is_unknown, stated_end, body_damage}
use Rattle.mkv_schema.specs.Elements.{Run, in_front, ends_at, id_of, ends_segment, ends_cluster, open_cluster, end_of_run, behind_in_segment}
use Rattle.mkv_schema.specs.Placed.{StandsAt}
use Rattle.mkv_schema.proofs.ElementLemmas.{element_at-placed, element_in-whole}
use Rattle.mkv_schema.proofs.ElementsLemmas.{elements-end_of}
use Rattle.output_model.specs.Element.{Element, IsElement, HoldsAt, octets_of, joined, header_in_place, headers_in_place, all_in_front}
use Rattle.output_model.proofs.ReadLemmas.{element_at-read, elements-read, elements-read_one, Lists}
use Rattle.output_model.proofs.HeldLemmas.{held-left}
use Rattle.block_format.specs.Elements.{Rules}
use Rattle.block_format.specs.Events.{found_in, is_closed}
use Rattle.edit_laws.proofs.AmongLemmas.{IsAmong, all-among, first-among}
use Rattle.edit_laws.proofs.SameLemmas.{AreSame, same-part}
use Rattle.edit_laws.proofs.HeaderLemmas.{outside, found-same, id-same}
use Rattle.edit_laws.proofs.BlockLemmas.{AreAlike, IsShared, IsHeld}
use Rattle.edit_laws.proofs.ClusterLemmas.{known-alike, open-alike}
use Rattle.edit_laws.proofs.TileLemmas.{Way, level, inner, run_of, advances-level, advances-inner, Stands, Tiles, whole, run-step, run-stops, run-tiled, tiled, stands-placed, tiles-end, inner-within, ahead-later}
use Rattle.edit_laws.specs.Laws.{IsOutside}

-- ---- rewritten Elements

-- A rewritten Element of level 1: its old header; the new Element or a Void in its place; and the Voids after that.
pub record Spot : Type 0 where
  pub header : Header
  pub now : Element
  pub voids : List Element

abbrev pub all_now : Spot → List Element
all_now s = s.now ∷ s.voids

-- the place after the spot
abbrev pub end_of : Spot → ℕ
end_of s = s.header.offset + length (joined (all_now s))

-- An edit. It has both contents, the sizes of their Segments, and the start and the ends of the bodies. It also has the old Elements of level 1
-- and their end, the rewritten ones, and the new Elements after the old end.
pub record Edit : Type 0 where
  pub old : List ℕ
  pub new : List ℕ
  pub size : Size
  pub now_size : Size
  pub start : ℕ
  pub end : ℕ
  pub now_end : ℕ
  pub list : List Header
  pub spots : List Spot
  pub behind : List Header
  pub last : ℕ

abbrev pub old_level : Edit → Way
old_level t = level t.old t.size t.end

abbrev pub new_level : Edit → Way
new_level t = level t.new t.now_size t.now_end

abbrev pub old_inner : Edit → Way
old_inner t = inner t.old t.end

abbrev pub new_inner : Edit → Way
new_inner t = inner t.new t.now_end

-- The spot `s` is a rewritten Element, in its place or at the end.
pub record IsSpot (t : Edit) (s : Spot) : Type 0 where
  pub inside : s.header.offset < t.end
  pub found : element_at in_segment t.old s.header.offset t.end ≡ Ok s.header
  pub known : is_unknown s.header.size ≡ false
  pub ends : stated_end s.header ≤ t.end
  pub cluster : (s.header.id == CLUSTER) ≡ false
  pub void : (s.header.id == VOID) ≡ false
  pub room : stated_end s.header ≤ end_of s
  pub last : end_of s ≤ t.last
  pub elements : All IsElement (all_now s)
  pub held : HoldsAt t.new s.header.offset (joined (all_now s))
  pub within : end_of s ≤ t.now_end
  pub goes : All (λ (d : Element). ends_segment t.now_size d.id ≡ false) (all_now s)
  pub voids : All (λ (d : Element). d.id ≡ VOID) s.voids
  pub stays : ((s.now.id ≡ s.header.id) × (ends_cluster s.header.id ≡ true)) ⊎ ((s.now.id ≡ VOID) × (s.voids ≡ []))

-- The old Element `h` can stay in its place if it isn't rewritten. In the room of a rewritten one it is a Void.
pub record IsOld (t : Edit) (h : Header) : Type 0 where
  pub sound : body_damage in_segment (length t.new) t.now_end h ≡ None
  pub ends : is_unknown h.size ≡ false → end_in t.now_end h ≡ end_in t.end h
  pub closed : is_closed (length t.new) h ≡ is_closed (length t.old) h
  pub block : ends_cluster h.id ≡ false → IsOutside h
  pub room : (s : Spot) → IsAmong t.spots s → s.header.offset < h.offset → h.offset < end_of s → (h.id ≡ VOID) × (stated_end h ≤ end_of s)

-- No spot reaches in between two places.
abbrev pub IsClear : Edit → ℕ → ℕ → Type 0
IsClear t p q = All (λ (s : Spot). (q ≤ s.header.offset) ⊎ (end_of s ≤ p)) t.spots

-- The new content equals the old one, except for rewritten Elements and Elements after the old end.
pub record IsEdit (t : Edit) : Type 0 where
  pub same : (p q : ℕ) → t.start ≤ p → p ≤ q → q ≤ t.end → IsClear t p q → AreSame t.old t.new p q
  pub longer : t.end ≤ t.now_end
  pub within : t.end ≤ length t.old
  pub now_within : t.now_end ≤ length t.new
  pub stops : (id : ℕ) → ends_segment t.now_size id ≡ ends_segment t.size id
  pub spots : All (IsSpot t) t.spots
  pub single : All (λ (s : Spot). All (λ (other : Spot). s.header ≡ other.header → end_of s ≡ end_of other) t.spots) t.spots
  pub stay : All (IsOld t) t.list
  pub behind : run_of (new_level t) t.last ≡ whole t.behind (run_of (new_level t) t.last).end
  pub closes : run_of (new_inner t) t.last ≡ ends_at t.last

-- ---- what becomes of the Elements

-- The Element `h` stays in its place, with its blocks if it is a Cluster, and otherwise with all its bytes.
pub record IsKept (t : Edit) (h : Header) : Type 0 where
  pub found : element_at in_segment t.new h.offset t.now_end ≡ Ok h
  pub apart : All (λ (s : Spot). (s.header.offset == h.offset) ≡ false) t.spots
  pub alike : (r : Rules) → AreAlike (found_in r t.old t.end h) (found_in r t.new t.now_end h)
  pub closed : is_closed (length t.new) h ≡ is_closed (length t.old) h
  pub held : (h.id == CLUSTER) ≡ false → IsHeld t.old t.new h

-- The Element is no longer listed: a Void in a used room, or an Element that a Cluster of unknown size contains now.
abbrev pub IsGone : Edit → Header → Type 0
IsGone t h = (ends_cluster h.id ≡ false) ⊎ ((s : Spot) × IsAmong t.spots s × IsSpot t s × (s.header ≡ h) × (s.now.id ≡ VOID))

-- The change of an Element before others: it stays, is rewritten, or is gone.
pub data Turn (t : Edit) (h : Header) (ks ns : List Header) : Type 0 where
  kept : IsKept t h → ns ≡ h ∷ ks → Turn t h ks ns
  now : (s : Spot) → IsAmong t.spots s → IsSpot t s → s.header ≡ h → ns ≡ headers_in_place s.header.offset (all_now s) ++ ks → Turn t h ks ns
  gone : IsGone t h → ns ≡ ks → Turn t h ks ns

-- The old Elements become the new ones, and the added Elements follow.
abbrev pub Becomes : Edit → List Header → List Header → Type 0
Becomes t [] ns = ns ≡ t.behind
Becomes t (h ∷ hs) ns = (ks : List Header) × Turn t h ks ns × Becomes t hs ks

-- The Elements from a place on become the Elements that the new content lists from there on.
pub record IsListed (t : Edit) (hs : List Header) (q : ℕ) : Type 0 where
  pub list : List Header
  pub end : ℕ
  pub run : run_of (new_level t) q ≡ whole list end
  pub becomes : Becomes t hs list

-- The Elements after a Cluster of unknown size become the listed ones; the Cluster contains the Elements that no longer end it.
pub record IsInside (t : Edit) (hs : List Header) (q : ℕ) : Type 0 where
  pub more : List Header
  pub end : ℕ
  pub held : run_of (new_inner t) q ≡ whole more end
  pub none : All IsOutside more
  pub rest : IsListed t hs end

-- ---- Elements of known size

pub cluster-ends : ends_cluster CLUSTER ≡ true
unfolding entry_of table
cluster-ends = refl

pub void-goes : ends_cluster VOID ≡ false
unfolding entry_of table
void-goes = refl

-- An ID that a Cluster can contain differs from each ID that ends it.
pub goes-other : (a id : ℕ) → ends_cluster a ≡ false → ends_cluster id ≡ true → (a == id) ≡ false
goes-other a id goes ends = false_from_ne_true (a == id) (λ same. let is : a ≡ id = grind (arith, nat_tests) in let wrong : true ≡ false = sym ends ∙ ap ends_cluster (sym is) ∙ goes in cc)

void-none : (h : Header) → h.id ≡ VOID → IsOutside h
void-none h is = record { timestamp = ap (λ n. n == TIMESTAMP) is; simple = ap (λ n. n == SIMPLE_BLOCK) is; group = ap (λ n. n == BLOCK_GROUP) is }

-- A body of known size that ends with its parent or before has no damage.
sound-known : (may_open : ℕ → Bool) (total e : ℕ) (h : Header) → is_unknown h.size ≡ false → stated_end h ≤ e → e ≤ total → body_damage (outside may_open) total e h ≡ None
sound-known may_open total e h known ends within =
    let short : nat_lt e (stated_end h) ≡ false = le-ltb _ _ ends in
    let inside : nat_lt total (stated_end h) ≡ false = le-ltb _ _ (omega arith) in
    rw (known, short, inside) refl

pub Lists-level : (bytes : List ℕ) (size : Size) (e : ℕ) → Lists in_segment (ends_segment size) (behind_in_segment bytes e) bytes e
Lists-level bytes size e = record { plain = refl; advances = advances-level bytes size e; next_is = λ h known. cond-false (is_unknown h.size) _ (Ok (end_in e h)) known }

Lists-inner : (bytes : List ℕ) (e : ℕ) → Lists in_master ends_cluster (λ h. Ok (end_in e h)) bytes e
Lists-inner bytes e = record { plain = refl; advances = advances-inner bytes e; next_is = λ h known. refl }

-- The start of the next Element.
pub next-known : (bytes : List ℕ) (size : Size) (p e q : ℕ) (h : Header) → Stands (level bytes size e) p h q → is_unknown h.size ≡ false → end_in e h ≡ q
next-known bytes size p e q h stands known =
    let is : Ok (end_in e h) ≡ Ok q = sym (cond-false (is_unknown h.size) _ (Ok (end_in e h)) known) ∙ stands.next in cc

-- An Element that isn't a Cluster has a known size, and ends within its parent.
pub whole-known : (bytes : List ℕ) (size : Size) (p e q : ℕ) (h : Header) → Stands (level bytes size e) p h q → (h.id == CLUSTER) ≡ false → (is_unknown h.size ≡ false) × (stated_end h ≤ e)
whole-known bytes size p e q h stands other =
    let is = element_in-whole in_segment (octets_between bytes p e) (length bytes) p e h stands.found in
    (is.known other, is.inside other)

-- The children of a Cluster of unknown size end without damage.
open-whole : (bytes : List ℕ) (size : Size) (p e q : ℕ) (h : Header) → Stands (level bytes size e) p h q → is_unknown h.size ≡ true → open_cluster bytes h.body e ≡ whole (open_cluster bytes h.body e).list q
open-whole bytes size p e q h stands unknown = with-end (open_cluster bytes h.body e) (open_cluster bytes h.body e).damage refl goes
  where
    goes : end_of_run (open_cluster bytes h.body e) (open_cluster bytes h.body e).damage ≡ Ok q
    goes = sym (ap (λ (u : Bool). if u then end_of_run (open_cluster bytes h.body e) (open_cluster bytes h.body e).damage else Ok (end_in e h)) unknown) ∙ stands.next

    with-end : (run : Run) (found : Option Damage) → run.damage ≡ found → end_of_run run found ≡ Ok q → run ≡ whole run.list q
    with-end run None none goes = let end : run.end ≡ q = cc in ap (λ d. record { list = run.list; damage = d; end = run.end }) none ∙ ap (λ k. whole run.list k) end
    with-end run (Some d) some goes = absurd (cc)

-- Elements of level 1 end within the bound of their Segment.
pub level-within : (bytes : List ℕ) (size : Size) (e p q : ℕ) (hs : List Header) → Tiles (level bytes size e) p hs q → p ≤ e → q ≤ e
level-within bytes size e p q [] tiles inside = omega (arith, tiles)
level-within bytes size e p q (h ∷ hs) (m, stands, rest) inside = level-within bytes size e m q hs rest (of (is_unknown h.size) refl)
  where
    of : (unknown : Bool) → is_unknown h.size ≡ unknown → m ≤ e
    of false known = let next = next-known bytes size p e m h stands known in omega arith
    of true unknown =
        let placed = element_at-placed in_segment bytes p e h (omega (arith, stands.inside)) stands.found in
        let run = open-whole bytes size p e m h stands unknown in
        inner-within bytes e h.body m (open_cluster bytes h.body e).list (tiled (inner bytes e) h.body m (open_cluster bytes h.body e).list (advances-inner bytes e) run).tiles placed.within

module _ (t : Edit) (is : IsEdit t) where
  -- ---- the children of a Cluster of unknown size

  pub record AreHeld (p : ℕ) (hs : List Header) (q : ℕ) : Type 0 where
    pub tiles : Tiles (new_inner t) p hs q
    pub held : All (IsHeld t.old t.new) hs

  -- Children stay in their places if nothing is rewritten there.
  held-children : (p q : ℕ) (hs : List Header) → Tiles (old_inner t) p hs q → AreSame t.old t.new p q → AreHeld p hs q
  held-children p q [] tiles same = record { tiles = tiles; held = All-nil (IsHeld t.old t.new) }
  held-children p q (h ∷ hs) (m, stands, rest) same =
      let whole = element_in-whole in_master (octets_between t.old p t.end) (length t.old) p t.end h stands.found in
      let placed = element_at-placed in_master t.old p t.end h (omega (arith, stands.inside)) stands.found in
      let known = whole.known refl in
      let ends = whole.inside refl in
      let next : min (stated_end h) t.end ≡ m = let goes : Ok (end_in t.end h) ≡ Ok m = stands.next in cc in
      let at = placed.offset in
      let later = placed.later in
      let behind = tiles-end (old_inner t) m q hs (advances-inner t.old t.end) rest in
      let longer = is.longer in
      let old = is.within in
      let new = is.now_within in
      let inside = stands.inside in
      let own : AreSame t.old t.new p (stated_end h) = same-part t.old t.new p q p (stated_end h) (omega arith) (omega arith) (omega arith) same in
      let further = held-children m q hs rest (same-part t.old t.new p q m q (omega arith) behind (omega arith) same) in
      let here : Stands (new_inner t) p h m = record {
        inside = omega arith;
        found = found-same (λ id. false) (λ id. false) t.old t.new p t.end t.now_end h (omega arith) stands.found (omega arith)
            (same-part t.old t.new p (stated_end h) p h.body (omega arith) (omega arith) (omega arith) own)
            (sound-known (λ id. false) (length t.new) t.now_end h known (omega arith) new);
        goes = stands.goes;
        next = ap (λ k. Ok k) (let same_end : min (stated_end h) t.now_end ≡ m = omega arith in same_end);
      } in
      let shared : IsShared t.old t.new h = record { same = subst (λ k. AreSame t.old t.new k (stated_end h)) (sym at) own; header = omega arith; body = omega arith } in
      record {
        tiles = (m, here, further.tiles);
        held = All-cons (IsHeld t.old t.new) h hs (record { shared = shared; left = omega arith; right = omega arith }) further.held;
      }

  -- ---- places in both lists

  -- `IsAt` relates a place of the old list to its place in the new list, which may be after it: Voids of a room are skipped.
  abbrev IsAt : ℕ → ℕ → Type 0
  IsAt p q = (p ≡ q) ⊎ ((s : Spot) × IsAmong t.spots s × IsSpot t s × (s.header.offset < p) × (p ≤ q) × (q ≡ end_of s))

  -- The rewritten Element was passed, or is still to come.
  abbrev Await : ℕ → List Header → Spot → Type 0
  Await q hs s = (end_of s ≤ q) ⊎ IsAmong hs s.header

  abbrev AreAwaited : ℕ → List Header → Type 0
  AreAwaited q hs = All (Await q hs) t.spots

  abbrev Goes : List Header → ℕ → Type 0
  Goes hs q = IsListed t hs q × IsInside t hs q

  -- An Element that is gone changes nothing for the others.
  not-listed : (h : Header) (hs : List Header) (q : ℕ) → IsGone t h → IsListed t hs q → IsListed t (h ∷ hs) q
  not-listed h hs q is-gone rest = record { list = rest.list; end = rest.end; run = rest.run; becomes = (rest.list, gone is-gone refl, rest.becomes) }

  -- ---- an Element of level 1 that a Cluster can contain

  child : (bytes : List ℕ) (p e q : ℕ) (h : Header) → element_at in_segment bytes p e ≡ Ok h → p < e → stated_end h ≤ e → e ≤ length bytes → is_unknown h.size ≡ false → ends_cluster h.id ≡ false → end_in e h ≡ q → Stands (inner bytes e) p h q
  child bytes p e q h there before ends within known goes next =
      let own = element_at-placed in_segment bytes p e h (omega arith) there in
      record {
        inside = before;
        found = found-same ((in_segment).may_open) (λ id. false) bytes bytes p e e h (omega arith) there own.within refl (sound-known (λ id. false) (length bytes) e h known ends within);
        goes = goes;
        next = ap (λ k. Ok k) next;
      }

  -- ---- a rewritten Element

  module _ (s : Spot) (member : IsAmong t.spots s) (spot : IsSpot t s) (h : Header) (own : s.header ≡ h) (hs : List Header) where
    abbrev headers : List Header
    headers = headers_in_place s.header.offset (all_now s)

    listed-now : IsListed t hs (end_of s) → IsListed t (h ∷ hs) s.header.offset
    listed-now rest = record {
      list = headers ++ rest.list;
      end = rest.end;
      run = elements-read in_segment (ends_segment t.now_size) (behind_in_segment t.new t.now_end) t.new (all_now s) s.header.offset t.now_end (Lists-level t.new t.now_size t.now_end) spot.elements spot.goes spot.held spot.within
          ∙ ap (all_in_front headers) rest.run;
      becomes = (rest.list, now s member spot own refl, rest.becomes);
    }

    -- The Element that is there now.
    first-found : element_at in_master t.new s.header.offset t.now_end ≡ Ok (header_in_place s.header.offset s.now)
    first-found =
        let len = length-append (octets_of s.now) (joined s.voids) in
        let within = spot.within in
        element_at-read in_master t.new s.now s.header.offset t.now_end refl (All-head IsElement s.now s.voids spot.elements) (held-left t.new s.header.offset (octets_of s.now) (joined s.voids) spot.held) (omega arith)

    inside-now : IsListed t (h ∷ hs) s.header.offset → IsInside t hs (end_of s) → IsInside t (h ∷ hs) s.header.offset
    inside-now here rest = of spot.stays
      where
        of : ((s.now.id ≡ s.header.id) × (ends_cluster s.header.id ≡ true)) ⊎ ((s.now.id ≡ VOID) × (s.voids ≡ [])) → IsInside t (h ∷ hs) s.header.offset
        of (inl (same, ends)) = record {
          more = [];
          end = s.header.offset;
          held = run-stops (new_inner t) s.header.offset (advances-inner t.new t.now_end)
              (let inside = spot.inside in let longer = is.longer in omega arith)
              (ap (λ f. ends_cluster (id_of f)) first-found ∙ ap ends_cluster same ∙ ends);
          none = All-nil IsOutside;
          rest = here;
        }
        of (inr (void, alone)) =
            let g : Header = header_in_place s.header.offset s.now in
            let nothing : joined s.voids ≡ [] = ap joined alone in
            let len : length (octets_of s.now ++ joined s.voids) ≡ length (octets_of s.now) = ap (λ l. length (octets_of s.now ++ l)) nothing ∙ ap length (append-nil (octets_of s.now)) in
            let end : s.header.offset + length (octets_of s.now) ≡ end_of s = omega arith in
            let within = spot.within in
            let step = elements-read_one in_master ends_cluster (λ c. Ok (end_in t.now_end c)) t.new s.now s.header.offset t.now_end (Lists-inner t.new t.now_end)
            (All-head IsElement s.now s.voids spot.elements) (ap ends_cluster void ∙ void-goes)
            (held-left t.new s.header.offset (octets_of s.now) (joined s.voids) spot.held) (omega arith) in
            record {
              more = g ∷ rest.more;
              end = rest.end;
              held = step ∙ ap (λ k. in_front g (run_of (new_inner t) k)) end ∙ ap (in_front g) rest.held;
              none = All-cons IsOutside g rest.more (void-none g void) rest.none;
              rest = not-listed h hs rest.end (inr (s, member, spot, own, void)) rest.rest;
            }

  -- ---- an Element that stays

  module _ (p m last : ℕ) (from : t.start ≤ p) (h : Header) (hs : List Header) (stands : Stands (old_level t) p h m) (rest : Tiles (old_level t) m hs last) (inside_old : m ≤ t.end) (old : IsOld t h)
      (apart : All (λ (s : Spot). (s.header.offset == h.offset) ≡ false) t.spots) (awaited : AreAwaited p (h ∷ hs)) where
    at : h.offset ≡ p
    at = (stands-placed (old_level t) p m h (advances-level t.old t.size t.end) stands).0

    on : p < m
    on = (stands-placed (old_level t) p m h (advances-level t.old t.size t.end) stands).1

    clear : IsClear t p m
    clear = λ k s below. of (get_or t.spots k s) (apart k s below) (awaited k s below)
      where
        of : (s : Spot) → (s.header.offset == h.offset) ≡ false → Await p (h ∷ hs) s → (m ≤ s.header.offset) ⊎ (end_of s ≤ p)
        of s other (inl past) = inr past
        of s other (inr (inl same)) = let place : h.offset ≡ s.header.offset = ap (λ (g : Header). g.offset) same in absurd (let here : (s.header.offset == h.offset) ≡ true = grind (arith, nat_tests) in cc)
        of s other (inr (inr ahead)) = inl (ahead-later (old_level t) m last hs s.header (advances-level t.old t.size t.end) rest ahead)

    same : AreSame t.old t.new p m
    same = is.same p m from (omega (arith, on)) inside_old clear

    placed : StandsAt p t.end h
    placed = element_at-placed in_segment t.old p t.end h (omega (arith, stands.inside)) stands.found

    -- Its header ends before the next Element begins.
    header-inside : h.body ≤ m
    header-inside = of (is_unknown h.size) refl
      where
        run-end : (run : Run) (found : Option Damage) → end_of_run run found ≡ Ok m → run.end ≡ m
        run-end run None goes = cc
        run-end run (Some d) goes = absurd (cc)

        of : (unknown : Bool) → is_unknown h.size ≡ unknown → h.body ≤ m
        of false known = let next = next-known t.old t.size p t.end m h stands known in let within = placed.within in omega arith
        of true unknown =
            let goes : end_of_run (open_cluster t.old h.body t.end) (open_cluster t.old h.body t.end).damage ≡ Ok m = sym (ap (λ (u : Bool). if u then end_of_run (open_cluster t.old h.body t.end) (open_cluster t.old h.body t.end).damage else Ok (end_in t.end h)) unknown) ∙ stands.next in
            let end = run-end (open_cluster t.old h.body t.end) (open_cluster t.old h.body t.end).damage goes in
            let children = elements-end_of in_master ends_cluster (λ c. Ok (end_in t.end c)) t.old h.body t.end (advances-inner t.old t.end) in
            omega arith

    found : element_at in_segment t.new p t.now_end ≡ Ok h
    found =
        found-same ((in_segment).may_open) ((in_segment).may_open) t.old t.new p t.end t.now_end h (omega (arith, stands.inside)) stands.found
        (let within = placed.within in let longer = is.longer in omega arith)
        (let later = placed.later in let inside = header-inside in same-part t.old t.new p m p h.body (omega arith) (omega arith) (omega arith) same) old.sound

    stays : element_at in_segment t.new h.offset t.now_end ≡ Ok h
    stays = subst (λ k. element_at in_segment t.new k t.now_end ≡ Ok h) (sym at) found

    stands-now : (q : ℕ) → behind_in_segment t.new t.now_end h ≡ Ok q → Stands (new_level t) p h q
    stands-now q next = record { inside = (let inside = stands.inside in let longer = is.longer in omega arith); found = found; goes = is.stops h.id ∙ stands.goes; next = next }

    -- An Element of known size.

    module _ (known : is_unknown h.size ≡ false) where
      next-is : end_in t.end h ≡ m
      next-is = next-known t.old t.size p t.end m h stands known

      listed-known : IsListed t hs m → IsListed t (h ∷ hs) p
      listed-known rest = record {
        list = h ∷ rest.list;
        end = rest.end;
        run = run-step (new_level t) p m h (advances-level t.new t.now_size t.now_end)
            (stands-now m (cond-false (is_unknown h.size) _ (Ok (end_in t.now_end h)) known ∙ ap (λ k. Ok k) (old.ends known ∙ next-is)))
            ∙ ap (in_front h) rest.run;
        becomes = (
          rest.list,
          kept (record {
            found = stays;
            apart = apart;
            alike = λ r. known-alike r t.old t.new t.end t.now_end h known (old.ends known) (within t.old is.within) (within t.new (let now = is.now_within in let longer = is.longer in omega arith))
                (let later = placed.later in let inner = header-inside in subst (λ k. AreSame t.old t.new h.body k) (sym next-is) (same-part t.old t.new p m h.body m (omega arith) inner (omega arith) same));
            closed = old.closed;
            held = held;
          }) refl,
          rest.becomes,
        );
      }
        where
          within : (bytes : List ℕ) → t.end ≤ length bytes → end_in t.end h ≤ length bytes
          within bytes inside = omega arith

          held : (h.id == CLUSTER) ≡ false → IsHeld t.old t.new h
          held other =
              let ends = (whole-known t.old t.size p t.end m h stands other).1 in
              let short : stated_end h ≡ m = (let next = next-is in omega arith) in
              let later = placed.later in let place = at in
              let left = is.within in let right = is.now_within in let longer = is.longer in
              record {
                shared = record { same = subst (λ k. AreSame t.old t.new k (stated_end h)) (sym at) (subst (AreSame t.old t.new p) (sym short) same); header = omega arith; body = omega arith };
                left = omega arith;
                right = omega arith;
              }

    -- A Cluster of unknown size.

    listed-open : is_unknown h.size ≡ true → IsInside t hs m → IsListed t (h ∷ hs) p
    listed-open unknown further =
        let run_is = open-whole t.old t.size p t.end m h stands unknown in
        let children : List Header = (open_cluster t.old h.body t.end).list in
        let tiles = tiled (old_inner t) h.body m children (advances-inner t.old t.end) run_is in
        let later = placed.later in let inner = header-inside in
        let are = held-children h.body m children tiles.tiles (same-part t.old t.new p m h.body m (omega arith) inner (omega arith) same) in
        let now_run : open_cluster t.new h.body t.now_end ≡ whole (children ++ further.more) further.end =
        run-tiled (new_inner t) h.body children m (advances-inner t.new t.now_end) are.tiles ∙ ap (all_in_front children) further.held in
        let next : behind_in_segment t.new t.now_end h ≡ Ok further.end =
        ap (λ (u : Bool). if u then end_of_run (open_cluster t.new h.body t.now_end) (open_cluster t.new h.body t.now_end).damage else Ok (end_in t.now_end h)) unknown
        ∙ ap (λ (x : Run). end_of_run x x.damage) now_run in
        record {
          list = h ∷ further.rest.list;
          end = further.rest.end;
          run = run-step (new_level t) p further.end h (advances-level t.new t.now_size t.now_end) (stands-now further.end next) ∙ ap (in_front h) further.rest.run;
          becomes = (
            further.rest.list,
            kept (record {
              found = stays;
              apart = apart;
              alike = λ r. open-alike r t.old t.new t.end t.now_end m further.end h children further.more unknown run_is now_run are.held further.none;
              closed = old.closed;
              held = λ other. absurd (let known = (whole-known t.old t.size p t.end m h stands other).0 in cc);
            }) refl,
            further.rest.becomes,
          );
        }

    -- A Cluster of unknown size before the Element.

    inside-here : IsListed t (h ∷ hs) p → IsInside t hs m → IsInside t (h ∷ hs) p
    inside-here here more = of (ends_cluster h.id) refl
      where
        stops : ends_cluster h.id ≡ true → IsInside t (h ∷ hs) p
        stops ends = record {
          more = [];
          end = p;
          held = run-stops (new_inner t) p (advances-inner t.new t.now_end) (let inside = stands.inside in let longer = is.longer in omega arith)
              (ap ends_cluster (id-same ((in_segment).may_open) (λ id. false) t.new p t.now_end h found) ∙ ends);
          none = All-nil IsOutside;
          rest = here;
        }

        goes_on : ends_cluster h.id ≡ false → IsInside t (h ∷ hs) p
        goes_on goes =
            let other : (h.id == CLUSTER) ≡ false = goes-other h.id CLUSTER goes cluster-ends in
            let known = (whole-known t.old t.size p t.end m h stands other).0 in
            let ends = (whole-known t.old t.size p t.end m h stands other).1 in
            let next = next-known t.old t.size p t.end m h stands known in
            let longer = is.longer in let left = is.within in let right = is.now_within in let inside = stands.inside in
            record {
              more = h ∷ more.more;
              end = more.end;
              held = run-step (new_inner t) p m h (advances-inner t.new t.now_end) (child t.new p t.now_end m h found (omega arith) (omega arith) right known goes (old.ends known ∙ next)) ∙ ap (in_front h) more.held;
              none = All-cons IsOutside h more.more (old.block goes) more.none;
              rest = not-listed h hs more.end (inl goes) more.rest;
            }

        of : (ends : Bool) → ends_cluster h.id ≡ ends → IsInside t (h ∷ hs) p
        of true ends = stops ends
        of false goes = goes_on goes

  -- ---- all Elements

  -- The spots that are still to come after an Element.
  await-behind : (q m : ℕ) (h : Header) (hs : List Header) → q ≤ m → All (λ (s : Spot). h ≡ s.header → end_of s ≤ m) t.spots → AreAwaited q (h ∷ hs) → AreAwaited m hs
  await-behind q m h hs later own awaited = λ k s below. of (get_or t.spots k s) (own k s below) (awaited k s below)
    where
      of : (s : Spot) → (h ≡ s.header → end_of s ≤ m) → Await q (h ∷ hs) s → Await m hs s
      of s here (inl past) = inl (omega arith)
      of s here (inr (inl same)) = inl (here same)
      of s here (inr (inr ahead)) = inr ahead

  find-none : {X : Type 0} (passes : X → Bool) (xs : List X) → find passes xs ≡ None → All (λ x. passes x ≡ false) xs
  find-none passes [] none = All-nil (λ x. passes x ≡ false)
  find-none passes (x ∷ xs) none = of (find-none passes xs) (passes x) refl none
    where
      of : (find passes xs ≡ None → All (λ x. passes x ≡ false) xs) → (test : Bool) → passes x ≡ test → (if test then Some x else find passes xs) ≡ None → All (λ x. passes x ≡ false) (x ∷ xs)
      of further true same some = absurd (cc)
      of further false same rest = All-cons (λ x. passes x ≡ false) x xs same (further rest)

  -- An Element whose predecessors are all done.
  module _ (p m : ℕ) (from : t.start ≤ p) (h : Header) (hs : List Header) (stands : Stands (old_level t) p h m) (rest : Tiles (old_level t) m hs t.last) (old : IsOld t h) (awaited : AreAwaited p (h ∷ hs))
      (further : (q : ℕ) → IsAt m q → AreAwaited q hs → Goes hs q) where
    place : h.offset ≡ p
    place = (stands-placed (old_level t) p m h (advances-level t.old t.size t.end) stands).0

    step : p < m
    step = (stands-placed (old_level t) p m h (advances-level t.old t.size t.end) stands).1

    -- A rewritten Element.
    at-spot : (s : Spot) → IsAmong t.spots s → IsSpot t s → All (λ (other : Spot). s.header ≡ other.header → end_of s ≡ end_of other) t.spots → s.header.offset ≡ p → Goes (h ∷ hs) p
    at-spot s member spot single same_place =
        let there : element_at in_segment t.old p t.end ≡ Ok s.header = subst (λ k. element_at in_segment t.old k t.end ≡ Ok s.header) same_place spot.found in
        let both : Ok s.header ≡ Ok h = sym there ∙ stands.found in
        let own : s.header ≡ h = cc in
        let known : is_unknown h.size ≡ false = ap (λ (g : Header). is_unknown g.size) (sym own) ∙ spot.known in
        let end_is : stated_end s.header ≡ stated_end h = ap stated_end own in
        let next = next-known t.old t.size p t.end m h stands known in
        let ends = spot.ends in let room = spot.room in
        let behind : m ≡ stated_end s.header = omega arith in
        let on = step in
        let go = further (end_of s) (inr (s, member, spot, omega arith, omega arith, refl))
        (await-behind p (end_of s) h hs (omega arith) (λ k other below same. let end = single k other below (own ∙ same) in omega arith) awaited) in
        let here : IsListed t (h ∷ hs) p = subst (IsListed t (h ∷ hs)) same_place (listed-now s member spot h own hs go.0) in (
          here,
          subst (IsInside t (h ∷ hs)) same_place (inside-now s member spot h own hs (listed-now s member spot h own hs go.0) go.1),
        )

    -- An Element that isn't rewritten.
    at-other : m ≤ t.end → All (λ (s : Spot). (s.header.offset == h.offset) ≡ false) t.spots → Goes (h ∷ hs) p
    at-other inside apart =
        let go = further m (inl refl)
        (await-behind p m h hs (omega (arith, step)) (λ k s below same. let at : h.offset ≡ (get_or t.spots k s).header.offset = ap (λ (g : Header). g.offset) same in let other = apart k s below in absurd (let here : ((get_or t.spots k s).header.offset == h.offset) ≡ true = grind (arith, nat_tests) in cc)) awaited) in
        let here : IsListed t (h ∷ hs) p = of go (is_unknown h.size) refl in
        (here, inside-here p m t.last from h hs stands rest inside old apart awaited here go.1)
      where
        of : Goes hs m → (unknown : Bool) → is_unknown h.size ≡ unknown → IsListed t (h ∷ hs) p
        of go true unknown = listed-open p m t.last from h hs stands rest inside old apart awaited unknown go.1
        of go false known = listed-known p m t.last from h hs stands rest inside old apart awaited known go.0

    goes-here : m ≤ t.end → Goes (h ∷ hs) p
    goes-here inside = of (find (λ (s : Spot). s.header.offset == h.offset) t.spots) refl
      where
        of : (found : Option Spot) → find (λ (s : Spot). s.header.offset == h.offset) t.spots ≡ found → Goes (h ∷ hs) p
        of None none = at-other inside (find-none (λ (s : Spot). s.header.offset == h.offset) t.spots none)
        of (Some s) some =
            let first = first-among (λ (s : Spot). s.header.offset == h.offset) t.spots s some in
            let passes = first.1 in
            let same : s.header.offset ≡ h.offset = grind (arith, nat_tests) in
            at-spot s first.0 (all-among (IsSpot t) t.spots s is.spots first.0)
            (all-among (λ (s : Spot). All (λ (other : Spot). s.header ≡ other.header → end_of s ≡ end_of other) t.spots) t.spots s is.single first.0) (same ∙ place)

  -- The Elements from a place on become the Elements that the new content lists from there on.
  goes-from : (hs : List Header) (p q : ℕ) → t.start ≤ p → t.last ≤ t.end → Tiles (old_level t) p hs t.last → All (IsOld t) hs → IsAt p q → AreAwaited q hs → Goes hs q
  goes-from [] p q from short tiles old at awaited = done (at-end at)
    where
      at-end : IsAt p q → q ≡ t.last
      at-end (inl same) = omega (arith, same, tiles)
      at-end (inr (s, member, spot, after, before, end)) = let last = spot.last in omega (arith, tiles)

      done : q ≡ t.last → Goes [] q
      done there =
          let here : IsListed t [] q = record {
            list = t.behind;
            end = (run_of (new_level t) t.last).end;
            run = ap (run_of (new_level t)) there ∙ is.behind;
            becomes = refl;
          } in
          (here, record { more = []; end = q; held = subst (λ k. run_of (new_inner t) k ≡ ends_at k) (sym there) is.closes; none = All-nil IsOutside; rest = here })
  goes-from (h ∷ hs) p q from short (m, stands, rest) old at awaited =
      of (λ k there awaited. goes-from hs m k (omega (arith, step.1)) short rest (All-tail (IsOld t) h hs old) there awaited) at
    where
      own : IsOld t h
      own = All-head (IsOld t) h hs old

      step : (h.offset ≡ p) × (p < m)
      step = stands-placed (old_level t) p m h (advances-level t.old t.size t.end) stands

      here : ((k : ℕ) → IsAt m k → AreAwaited k hs → Goes hs k) → p ≡ q → Goes (h ∷ hs) q
      here further same =
          let inside : m ≤ t.end = (let last = tiles-end (old_level t) m t.last hs (advances-level t.old t.size t.end) rest in omega arith) in
          subst (Goes (h ∷ hs)) same (goes-here p m from h hs stands rest own (subst (λ k. AreAwaited k (h ∷ hs)) (sym same) awaited) further inside)

      -- A Void in a used room.
      passed : ((k : ℕ) → IsAt m k → AreAwaited k hs → Goes hs k) → (s : Spot) → IsAmong t.spots s → IsSpot t s → s.header.offset < p → p < q → q ≡ end_of s → Goes (h ∷ hs) q
      passed further s member spot after before end =
          let at = step.0 in
          let void = own.room s member (omega arith) (omega arith) in
          let goes : ends_cluster h.id ≡ false = ap ends_cluster void.0 ∙ void-goes in
          let other : (h.id == CLUSTER) ≡ false = goes-other h.id CLUSTER goes cluster-ends in
          let whole = whole-known t.old t.size p t.end m h stands other in
          let next = next-known t.old t.size p t.end m h stands whole.0 in
          let ends = whole.1 in
          let inside = void.1 in
          let on = step.1 in
          let behind : m ≡ stated_end h = omega arith in
          let go = further q (inr (s, member, spot, omega arith, omega arith, end))
          (await-behind q q h hs (omega arith) (λ k other below same. let no_void = (is.spots k other below).void in let same_id : h.id ≡ (get_or t.spots k other).header.id = ap (λ (g : Header). g.id) same in absurd (let void_it : ((get_or t.spots k other).header.id == VOID) ≡ true = ap (λ n. n == VOID) (sym same_id ∙ void.0) in cc)) awaited) in (
            not-listed h hs q (inl goes) go.0,
            (let more = go.1 in record { more = more.more; end = more.end; held = more.held; none = more.none; rest = not-listed h hs more.end (inl goes) more.rest }),
          )

      of : ((k : ℕ) → IsAt m k → AreAwaited k hs → Goes hs k) → IsAt p q → Goes (h ∷ hs) q
      of further (inl same) = here further same
      of further (inr (s, member, spot, after, before, end)) =
          elim (cases_lt p q) [
            | inl less ↦ passed further s member spot after less end
            | inr past ↦ here further (omega arith)
          ]

  -- The old Elements of level 1 become the new ones.
  pub level-becomes : t.last ≤ t.end → run_of (old_level t) t.start ≡ whole t.list t.last → All (λ (s : Spot). IsAmong t.list s.header) t.spots → IsListed t t.list t.start
  level-becomes short run ahead =
      let tiles = tiled (old_level t) t.start t.last t.list (advances-level t.old t.size t.end) run in
      (goes-from t.list t.start t.start (omega arith) short tiles.tiles is.stay (inl refl) (λ k s below. inr (ahead k s below))).0
