-- The number and the length of the Elements of level 1 after some are rewritten.
use Rattle.std.proofs.Common.{inl, inr, ◌≡◌, ◌<◌, ◌≤◌, ℕ, ◌+◌, ◌==◌, nat_le, not, Bool, true, false, ◌||◌, if◌then◌else◌, List, [], ◌∷◌, length, All, refl, sym, ◌∙◌, ap, subst, arith}
use Rattle.std.specs.Prelude.{sum_by}
use Rattle.std.proofs.lemmas.Bool.Decides.{nat_tests}
use Rattle.std.proofs.lemmas.List.Elements.{All-nil, All-cons, All-head, All-tail, All-append, All-weaker}
use Rattle.std.proofs.lemmas.List.Sums.{sum_by-append, sum_by-cons, sum_by-le-sum_by}
use Rattle.mkv_schema.specs.declared.ids.TheConstants.{CHAPTERS, CLUSTER, INFO, TAGS, TRACKS, VOID}
use Rattle.mkv_schema.specs.declared.limits.TheConstants.{MAX_MASTER_LEN}
use Rattle.mkv_schema.specs.declared.element.Header.{Header}
use Rattle.mkv_schema.specs.Outline.{is_described}
use Rattle.element_reader.specs.Collected.{described_octets}
use Rattle.output_model.specs.Element.{Element, octets_of, header_in_place, headers_in_place}
use Rattle.output_model.proofs.ReadLemmas.{length-octets_of}
use Rattle.edit_laws.proofs.AmongLemmas.{IsAmong}
use Rattle.edit_laws.proofs.LimitLemmas.{KeepsMasterLimit, counts}
use Rattle.edit_laws.proofs.TileLemmas.{AdvancesIn, Tiles, Way, stands-placed}
use Rattle.edit_laws.proofs.LevelLemmas.{Becomes, Edit, IsSpot, Spot, Turn, all_now, gone, kept, now}

-- ---- sums over spots

-- the value of a spot at the place `p`, or 0
abbrev pub at_place : (Spot → ℕ) → ℕ → Spot → ℕ
at_place x p s = if s.header.offset == p then x s else 0

-- the value of a spot at the place `p` or after it, or 0
abbrev from_place : (Spot → ℕ) → ℕ → Spot → ℕ
from_place x p s = if nat_le p s.header.offset then x s else 0

-- the values of the spots at the places of the Elements
pub passed : (Spot → ℕ) → List Spot → List Header → ℕ
passed x spots [] = 0
passed x spots (h ∷ hs) = sum_by (at_place x h.offset) spots + passed x spots hs

-- The sum of two sums.
sums-add : {X : Type 0} (f g k : X → ℕ) (xs : List X) → ((x : X) → f x + g x ≤ k x) → sum_by f xs + sum_by g xs ≤ sum_by k xs
sums-add f g k [] each = omega arith
sums-add f g k (x ∷ xs) each =
    let one = sum_by-cons f x xs in let two = sum_by-cons g x xs in let all = sum_by-cons k x xs in
    let here = each x in let rest = sums-add f g k xs each in
    omega arith

-- One value is at most the sum at its place.
here-least : (x : Spot → ℕ) (p : ℕ) (spots : List Spot) (s : Spot) → IsAmong spots s → s.header.offset ≡ p → x s ≤ sum_by (at_place x p) spots
here-least x p [] s member same = absurd member
here-least x p (o ∷ os) s (inl own) same =
    let all = sum_by-cons (at_place x p) o os in
    let offset : o.header.offset ≡ p = ap (λ (k : Spot). k.header.offset) own ∙ same in
    let test : (o.header.offset == p) ≡ true = grind (arith, nat_tests) in
    let here : at_place x p o ≡ x s = ap (λ (b : Bool). if b then x o else 0) test ∙ ap x own in
    omega arith
here-least x p (o ∷ os) s (inr later) same =
    let all = sum_by-cons (at_place x p) o os in let rest = here-least x p os s later same in omega arith

-- A spot counts at most once, since places of Elements ascend.
passed-from : (w : Way) → AdvancesIn w → (x : Spot → ℕ) (spots : List Spot) (p q : ℕ) (hs : List Header) → Tiles w p hs q → passed x spots hs ≤ sum_by (from_place x p) spots
unfolding passed
passed-from w advances x spots p q [] tiles = omega arith
passed-from w advances x spots p q (h ∷ hs) (m, stands, rest) =
    let placed = stands-placed w p m h advances stands in
    let further = passed-from w advances x spots m q hs rest in
    let both = sums-add (at_place x h.offset) (from_place x m) (from_place x p) spots (λ s. of s placed.0 placed.1 (s.header.offset == h.offset) (nat_le m s.header.offset) (nat_le p s.header.offset) refl refl refl) in
    omega arith
  where
    of : (s : Spot) → h.offset ≡ p → p < m → (here later all : Bool) → (s.header.offset == h.offset) ≡ here → nat_le m s.header.offset ≡ later → nat_le p s.header.offset ≡ all
        → (if here then x s else 0) + (if later then x s else 0) ≤ (if all then x s else 0)
    of s at on true true all is_here is_later is_all = absurd (let same : s.header.offset ≡ h.offset = grind (arith, nat_tests) in let less : m ≤ s.header.offset = grind (arith, nat_tests) in omega arith)
    of s at on true false true is_here is_later is_all = omega arith
    of s at on true false false is_here is_later is_all = absurd (let same : s.header.offset ≡ h.offset = grind (arith, nat_tests) in let wrong : nat_le p s.header.offset ≡ true = grind (arith, nat_tests) in cc)
    of s at on false true true is_here is_later is_all = omega arith
    of s at on false true false is_here is_later is_all = absurd (let less : m ≤ s.header.offset = grind (arith, nat_tests) in let wrong : nat_le p s.header.offset ≡ true = grind (arith, nat_tests) in cc)
    of s at on false false all is_here is_later is_all = omega arith

-- The values at the places of listed Elements are at most all values.
pub passed-most : (w : Way) → AdvancesIn w → (x : Spot → ℕ) (spots : List Spot) (p q : ℕ) (hs : List Header) → Tiles w p hs q → passed x spots hs ≤ sum_by x spots
passed-most w advances x spots p q hs tiles =
    let some = passed-from w advances x spots p q hs tiles in
    let all = sum_by-le-sum_by (from_place x p) x spots (λ s. of s (nat_le p s.header.offset)) in
    omega arith
  where
    of : (s : Spot) (test : Bool) → (if test then x s else 0) ≤ x s
    of s true = omega arith
    of s false = omega arith

-- ---- sums over Elements

-- If each rewritten Element adds at most the value of its spot, the new Elements have at most the sum of all.
pub becomes-sum : (t : Edit) (f : Header → ℕ) (x : Spot → ℕ) → ((s : Spot) → IsAmong t.spots s → IsSpot t s → sum_by f (headers_in_place s.header.offset (all_now s)) ≤ f s.header + x s)
    → (hs ns : List Header) → Becomes t hs ns → sum_by f ns ≤ sum_by f hs + passed x t.spots hs + sum_by f t.behind
unfolding passed
becomes-sum t f x most [] ns is = (let same : sum_by f ns ≡ sum_by f t.behind = ap (sum_by f) is in omega arith)
becomes-sum t f x most (h ∷ hs) ns (ks, turn, rest) = of (becomes-sum t f x most hs ks rest) turn
  where
    all : sum_by f (h ∷ hs) ≡ f h + sum_by f hs
    all = sum_by-cons f h hs

    of : sum_by f ks ≤ sum_by f hs + passed x t.spots hs + sum_by f t.behind → Turn t h ks ns
        → sum_by f ns ≤ sum_by f (h ∷ hs) + (sum_by (at_place x h.offset) t.spots + passed x t.spots hs) + sum_by f t.behind
    of further (kept keeps is) = (let same : sum_by f ns ≡ f h + sum_by f ks = ap (sum_by f) is ∙ sum_by-cons f h ks in omega (arith, all))
    of further (now s member spot own is) =
        let same : sum_by f ns ≡ sum_by f (headers_in_place s.header.offset (all_now s)) + sum_by f ks = ap (sum_by f) is ∙ sum_by-append f (headers_in_place s.header.offset (all_now s)) ks in
        let few = most s member spot in
        let here = here-least x h.offset t.spots s member (ap (λ (g : Header). g.offset) own) in
        let old : f s.header ≡ f h = ap f own in
        omega (arith, all)
    of further (gone is-gone is) = (let same : sum_by f ns ≡ sum_by f ks = ap (sum_by f) is in omega (arith, all))

-- A fact about all old Elements, rewritten ones, and those after the old end holds for all new Elements.
pub becomes-all : (t : Edit) (P : Header → Type 0) → ((s : Spot) → IsAmong t.spots s → IsSpot t s → All P (headers_in_place s.header.offset (all_now s))) → All P t.behind
    → (hs ns : List Header) → All P hs → Becomes t hs ns → All P ns
becomes-all t P each behind [] ns old is = subst (All P) (sym is) behind
becomes-all t P each behind (h ∷ hs) ns old (ks, turn, rest) = of (becomes-all t P each behind hs ks (All-tail P h hs old) rest) turn
  where
    of : All P ks → Turn t h ks ns → All P ns
    of further (kept keeps is) = subst (All P) (sym is) (All-cons P h ks (All-head P h hs old) further)
    of further (now s member spot own is) = subst (All P) (sym is) (All-append P (headers_in_place s.header.offset (all_now s)) ks (each s member spot) further)
    of further (gone is-gone is) = subst (All P) (sym is) further

-- ---- Elements in sequence

-- the limited bytes of a written Element
abbrev pub described_len : Element → ℕ
described_len d = if is_described d.id then length d.body else 0

counts-most : (h : Header) → counts h ≤ 1
counts-most h = of (not (h.id == CLUSTER))
  where
    of : (test : Bool) → (if test then 1 else 0) ≤ 1
    of true = omega arith
    of false = omega arith

-- Their number, except Clusters.
pub headers-count : (p : ℕ) (ds : List Element) → sum_by counts (headers_in_place p ds) ≤ length ds
headers-count p [] = omega arith
headers-count p (d ∷ ds) =
    let all = sum_by-cons counts (header_in_place p d) (headers_in_place (p + length (octets_of d)) ds) in
    let one = counts-most (header_in_place p d) in
    let rest = headers-count (p + length (octets_of d)) ds in
    omega arith

-- Their limited bytes.
pub headers-described : (p : ℕ) (ds : List Element) → sum_by described_octets (headers_in_place p ds) ≡ sum_by described_len ds
headers-described p [] = refl
headers-described p (d ∷ ds) =
    let one = sum_by-cons described_octets (header_in_place p d) (headers_in_place (p + length (octets_of d)) ds) in
    let two = sum_by-cons described_len d ds in
    let rest = headers-described (p + length (octets_of d)) ds in
    omega arith

-- Each keeps its limit.
pub headers-short : (p : ℕ) (ds : List Element) → All (λ (d : Element). described_len d ≤ MAX_MASTER_LEN) ds → All KeepsMasterLimit (headers_in_place p ds)
headers-short p [] short = All-nil KeepsMasterLimit
headers-short p (d ∷ ds) short =
    All-cons KeepsMasterLimit (header_in_place p d) (headers_in_place (p + length (octets_of d)) ds) (All-head (λ (d : Element). described_len d ≤ MAX_MASTER_LEN) d ds short)
    (headers-short (p + length (octets_of d)) ds (All-tail (λ (d : Element). described_len d ≤ MAX_MASTER_LEN) d ds short))

-- ---- Elements that have no limited bytes

-- A sum of zeros.
pub sum-none : {X : Type 0} (f : X → ℕ) (xs : List X) → All (λ x. f x ≡ 0) xs → sum_by f xs ≡ 0
sum-none f [] none = refl
sum-none f (x ∷ xs) none =
    let all = sum_by-cons f x xs in
    let here = All-head (λ x. f x ≡ 0) x xs none in
    let rest = sum-none f xs (All-tail (λ x. f x ≡ 0) x xs none) in
    omega arith

-- An Element whose ID isn't that of Info, Tracks, Chapters or Tags has none.
pub undescribed : (d : Element) → (d.id == INFO) ≡ false → (d.id == TRACKS) ≡ false → (d.id == CHAPTERS) ≡ false → (d.id == TAGS) ≡ false → described_len d ≡ 0
undescribed d info tracks chapters tags = ap (λ (b : Bool). if b then length d.body else 0) none
  where
    none : is_described d.id ≡ false
    none =
        ap (λ (b : Bool). b || d.id == TRACKS || d.id == CHAPTERS || d.id == TAGS) info
        ∙ ap (λ (b : Bool). false || b || d.id == CHAPTERS || d.id == TAGS) tracks
        ∙ ap (λ (b : Bool). false || false || b || d.id == TAGS) chapters
        ∙ tags

-- A Void has none.
pub void-undescribed : (d : Element) → d.id ≡ VOID → described_len d ≡ 0
void-undescribed d is = ap (λ n. if is_described n then length d.body else 0) is

-- The limited bytes of a written Element are bytes of it.
pub described-most : (d : Element) → described_len d ≤ length (octets_of d)
described-most d = let all = length-octets_of d in of (is_described d.id) (omega arith)
  where
    of : (test : Bool) → length d.body ≤ length (octets_of d) → (if test then length d.body else 0) ≤ length (octets_of d)
    of true most = most
    of false most = omega arith

-- ---- a spot

-- A spot adds its Voids.
pub spot-count : (t : Edit) (s : Spot) → IsSpot t s → sum_by counts (headers_in_place s.header.offset (all_now s)) ≤ counts s.header + length s.voids
spot-count t s spot =
    let all = headers-count s.header.offset (all_now s) in
    let own : counts s.header ≡ 1 = ap (λ (b : Bool). if not b then 1 else 0) spot.cluster in
    omega arith

-- A spot adds the limited bytes of its new Element.
pub spot-described : (t : Edit) (s : Spot) → IsSpot t s → sum_by described_octets (headers_in_place s.header.offset (all_now s)) ≤ described_octets s.header + described_len s.now
spot-described t s spot =
    let all = headers-described s.header.offset (all_now s) in
    let both = sum_by-cons described_len s.now s.voids in
    let none = sum-none described_len s.voids (All-weaker (λ (d : Element). d.id ≡ VOID) (λ (d : Element). described_len d ≡ 0) void-undescribed s.voids spot.voids) in
    omega arith

-- Its Elements keep the limit of each if the new Element does.
pub spot-short : (t : Edit) (s : Spot) → IsSpot t s → described_len s.now ≤ MAX_MASTER_LEN → All KeepsMasterLimit (headers_in_place s.header.offset (all_now s))
spot-short t s spot short =
    headers-short s.header.offset (all_now s)
    (All-cons (λ (d : Element). described_len d ≤ MAX_MASTER_LEN) s.now s.voids short
    (All-weaker (λ (d : Element). d.id ≡ VOID) (λ (d : Element). described_len d ≤ MAX_MASTER_LEN) (λ d is. let none = void-undescribed d is in omega arith) s.voids spot.voids))
