-- The rooms of Elements in sequence.
use Rattle.std.proofs.Common.{◌≡◌, ◌⊎◌, inl, inr, ℕ, ◌+◌, ◌<◌, ◌≤◌, ◌==◌, Bool, true, false, if◌then◌else◌, ◌&&◌, List, [], ◌∷◌, Some, refl, ◌∙◌, ap, subst, arith}
use Rattle.std.proofs.lemmas.Bool.Decides.{nat_tests}
use Rattle.mkv_schema.specs.declared.ids.TheConstants.{VOID}
use Rattle.mkv_schema.specs.declared.element.Header.{Header}
use Rattle.mkv_schema.specs.Element.{stated_end}
use Rattle.mkv_schema.specs.Value.{first_of}
use Rattle.edit_changes.specs.Span.{behind_voids, span_of}
use Rattle.edit_plan.proofs.LevelLemmas.{Stand}

-- No Void precedes all of them.
voids-none : (p q e : ℕ) (hs : List Header) → p < q → Stand q e hs → behind_voids p hs ≡ p
voids-none p q e [] less stand = refl
voids-none p q e (h ∷ hs) less stand =
    let from = stand.0 in let some = stand.1 in
    split (voids-none p (stated_end h) e hs (omega arith) stand.3) (h.id == VOID) (h.offset == p) refl
  where
    split : behind_voids p hs ≡ p → (void here : Bool) → (h.offset == p) ≡ here → (if void && here then behind_voids (stated_end h) hs else behind_voids p hs) ≡ p
    split rest true true is = let at : h.offset ≡ p = grind (arith, nat_tests) in let from = stand.0 in absurd (omega arith)
    split rest true false is = rest
    split rest false here is = rest

-- A room contains its Element.
pub voids-least : (p q e : ℕ) (hs : List Header) → Stand q e hs → p ≤ behind_voids p hs
voids-least p q e [] stand = omega arith
voids-least p q e (h ∷ hs) stand =
    split (voids-least (stated_end h) (stated_end h) e hs stand.3) (voids-least p (stated_end h) e hs stand.3) (h.id == VOID) (h.offset == p) refl
  where
    split : stated_end h ≤ behind_voids (stated_end h) hs → p ≤ behind_voids p hs → (void here : Bool) → (h.offset == p) ≡ here → p ≤ (if void && here then behind_voids (stated_end h) hs else behind_voids p hs)
    split further rest true true is =
        let at : h.offset ≡ p = grind (arith, nat_tests) in
        let some = stand.1 in
        omega arith
    split further rest true false is = rest
    split further rest false here is = rest

-- A room ends at the end of all or before.
pub voids-most : (p q e : ℕ) (hs : List Header) → p ≤ e → Stand q e hs → behind_voids p hs ≤ e
voids-most p q e [] inside stand = inside
voids-most p q e (h ∷ hs) inside stand =
    split (voids-most (stated_end h) (stated_end h) e hs stand.2 stand.3) (voids-most p (stated_end h) e hs inside stand.3) (h.id == VOID) (h.offset == p)
  where
    split : behind_voids (stated_end h) hs ≤ e → behind_voids p hs ≤ e → (void here : Bool) → (if void && here then behind_voids (stated_end h) hs else behind_voids p hs) ≤ e
    split further rest true true = further
    split further rest true false = rest
    split further rest false here = rest

-- ---- an Element in the list

-- Header `h`, the first with this ID, is between `q` and `e` and has the ID.
pub record IsFound (id q e : ℕ) (h : Header) : Type 0 where
  pub own : h.id ≡ id
  pub from : q ≤ h.offset
  pub some : h.offset + 2 ≤ h.body
  pub inside : stated_end h ≤ e

found-later : (id p q e : ℕ) (h : Header) → p ≤ q → IsFound id q e h → IsFound id p e h
found-later id p q e h later is = let from = is.from in record { own = is.own; from = omega arith; some = is.some; inside = is.inside }

pub first-found : (id q e : ℕ) (hs : List Header) (h : Header) → Stand q e hs → first_of id hs ≡ Some h → IsFound id q e h
first-found id q e [] h stand found = absurd (cc)
first-found id q e (k ∷ ks) h stand found = here (first-found id (stated_end k) e ks h stand.3) (k.id == id) refl found
  where
    here : (first_of id ks ≡ Some h → IsFound id (stated_end k) e h) → (test : Bool) → (k.id == id) ≡ test → (if test then Some k else first_of id ks) ≡ Some h → IsFound id q e h
    here later true is some =
        let same : k ≡ h = cc in
        let P : Header → Type 0 = IsFound id q e in
        subst P same (record { own = grind (arith, nat_tests); from = stand.0; some = stand.1; inside = stand.2 })
    here later false is some = let from = stand.0 in let more = stand.1 in found-later id q (stated_end k) e h (omega arith) (later some)

-- No room overlaps an Element other than a Void.
pub voids-before : (p q id e : ℕ) (hs : List Header) (h : Header) → Stand q e hs → first_of id hs ≡ Some h → (id == VOID) ≡ false → p ≤ h.offset → behind_voids p hs ≤ h.offset
voids-before p q id e [] h stand found other before = absurd (cc)
voids-before p q id e (k ∷ ks) h stand found other before =
    here (λ some from. voids-before (stated_end k) (stated_end k) id e ks h stand.3 some other from)
    (λ some. voids-before p (stated_end k) id e ks h stand.3 some other before) (k.id == id) refl found
  where
    here : (first_of id ks ≡ Some h → stated_end k ≤ h.offset → behind_voids (stated_end k) ks ≤ h.offset) → (first_of id ks ≡ Some h → behind_voids p ks ≤ h.offset)
        → (test : Bool) → (k.id == id) ≡ test → (if test then Some k else first_of id ks) ≡ Some h → behind_voids p (k ∷ ks) ≤ h.offset
    here further rest true is some =
        let same : k ≡ h = cc in
        let named : k.id ≡ id = grind (arith, nat_tests) in
        let offset : k.offset ≡ h.offset = ap (λ (x : Header). x.offset) same in
        let more = stand.1 in
        let no_void : (k.id == VOID) ≡ false = ap (λ n. n == VOID) named ∙ other in
        let none = voids-none p (stated_end k) e ks (omega arith) stand.3 in
        let all : behind_voids p (k ∷ ks) ≡ p = ap (λ (b : Bool). if b && k.offset == p then behind_voids (stated_end k) ks else behind_voids p ks) no_void ∙ none in
        omega arith
    here further rest false is some = split (k.id == VOID) (k.offset == p)
      where
        split : (void at : Bool) → (if void && at then behind_voids (stated_end k) ks else behind_voids p ks) ≤ h.offset
        split true true = further some (first-found id (stated_end k) e ks h stand.3 some).from
        split true false = rest some
        split false at = rest some

-- Two Elements with different IDs are in sequence.
pub first-apart : (a b q e : ℕ) (hs : List Header) (g h : Header) → Stand q e hs → first_of a hs ≡ Some g → first_of b hs ≡ Some h → (a == b) ≡ false
    → (stated_end g ≤ h.offset) ⊎ (stated_end h ≤ g.offset)
first-apart a b q e [] g h stand first second other = absurd (cc)
first-apart a b q e (k ∷ ks) g h stand first second other = here (λ one two. first-apart a b (stated_end k) e ks g h stand.3 one two other) (k.id == a) (k.id == b) refl refl first second
  where
    here : (first_of a ks ≡ Some g → first_of b ks ≡ Some h → (stated_end g ≤ h.offset) ⊎ (stated_end h ≤ g.offset)) → (one two : Bool) → (k.id == a) ≡ one → (k.id == b) ≡ two
        → (if one then Some k else first_of a ks) ≡ Some g → (if two then Some k else first_of b ks) ≡ Some h → (stated_end g ≤ h.offset) ⊎ (stated_end h ≤ g.offset)
    here rest true true is_one is_two first second =
        let left : k.id ≡ a = grind (arith, nat_tests) in
        let right : k.id ≡ b = grind (arith, nat_tests) in
        let both : (a == b) ≡ true = grind (arith, nat_tests) in
        absurd (cc)
    here rest true false is_one is_two first second =
        let same : k ≡ g = cc in
        let later = first-found b (stated_end k) e ks h stand.3 second in
        let P : Header → Type 0 = λ x. stated_end x ≤ h.offset in
        inl (subst P same later.from)
    here rest false true is_one is_two first second =
        let same : k ≡ h = cc in
        let later = first-found a (stated_end k) e ks g stand.3 first in
        let P : Header → Type 0 = λ x. stated_end x ≤ g.offset in
        inr (subst P same later.from)
    here rest false false is_one is_two first second = rest first second

-- ---- the same for their rooms

-- The room ends at the end of the Voids after the Element.
pub span-end : (id q e : ℕ) (hs : List Header) (h : Header) → Stand q e hs → first_of id hs ≡ Some h → h.offset + span_of h hs ≡ behind_voids (stated_end h) hs
span-end id q e hs h stand found =
    let is = first-found id q e hs h stand found in
    let some = is.some in
    let least = voids-least (stated_end h) q e hs stand in
    omega arith

-- The room has at least two bytes and is between `q` and `e`.
pub record IsRoom (q e : ℕ) (hs : List Header) (h : Header) : Type 0 where
  pub from : q ≤ h.offset
  pub least : 2 ≤ span_of h hs
  pub inside : h.offset + span_of h hs ≤ e

pub first-room : (id q e : ℕ) (hs : List Header) (h : Header) → Stand q e hs → first_of id hs ≡ Some h → IsRoom q e hs h
first-room id q e hs h stand found =
    let is = first-found id q e hs h stand found in
    let from = is.from in
    let some = is.some in
    let inside = is.inside in
    let least = voids-least (stated_end h) q e hs stand in
    let most = voids-most (stated_end h) q e hs inside stand in
    record { from = from; least = omega arith; inside = omega arith }

pub rooms-apart : (a b q e : ℕ) (hs : List Header) (g h : Header) → Stand q e hs → first_of a hs ≡ Some g → first_of b hs ≡ Some h
    → (a == VOID) ≡ false → (b == VOID) ≡ false → (a == b) ≡ false
    → (g.offset + span_of g hs ≤ h.offset) ⊎ (h.offset + span_of h hs ≤ g.offset)
rooms-apart a b q e hs g h stand first second a_other b_other other =
    elim (first-apart a b q e hs g h stand first second other) [
      | inl before ↦ inl (let end = span-end a q e hs g stand first in let most = voids-before (stated_end g) q b e hs h stand second b_other before in omega arith)
      | inr behind ↦ inr (let end = span-end b q e hs h stand second in let most = voids-before (stated_end h) q a e hs g stand first a_other behind in omega arith)
    ]
