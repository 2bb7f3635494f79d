-- The blocks of a Cluster whose bytes two contents share.
use Rattle.std.proofs.Common.{◌≡◌, ◌≤◌, ℕ, Bool, true, false, if◌then◌else◌, List, [], ◌∷◌, ◌++◌, length, All, Option, Some, None, Ok, Err, refl, sym, ◌∙◌, ap, subst, arith}
use Rattle.std.specs.Option.{is_some}
use Rattle.std.proofs.lemmas.List.Elements.{All-head, All-tail, All-weaker}
use Rattle.mkv_io.specs.declared.damage.Damage.{Damage}
use Rattle.mkv_schema.specs.declared.element.Header.{Header}
use Rattle.mkv_schema.specs.Element.{in_master, is_unknown, end_in}
use Rattle.mkv_schema.specs.Elements.{never, children_in, open_cluster}
use Rattle.block_format.specs.Elements.{Rules}
use Rattle.block_format.specs.Events.{Found, Event, found_at, timestamp_behind, found_among, found_behind, found_in_run, found_in, events_then, blocks_of, damages_of}
use Rattle.edit_laws.proofs.SameLemmas.{AreSame}
use Rattle.edit_laws.proofs.RunLemmas.{runs-alike, run-inside, StandsInside}
use Rattle.edit_laws.proofs.BlockLemmas.{AreAlike, alike-append, IsHeld, shared-inside, among-alike, at-alike, behind-same}
use Rattle.edit_laws.specs.Laws.{IsOutside}

-- ---- a Cluster of known size

behind-alike : (one two : Option Damage) → is_some one ≡ is_some two → AreAlike (found_behind one) (found_behind two)
behind-alike None None same = tt
behind-alike None (Some d) same = absurd (cc)
behind-alike (Some c) None same = absurd (cc)
behind-alike (Some c) (Some d) same = tt

pub held-inside : (a b : List ℕ) (p e : ℕ) (h : Header) → e ≤ length a → e ≤ length b → AreSame a b p e → StandsInside p e h → IsHeld a b h
held-inside a b p e h within within' same inside = let to = inside.to in record { shared = shared-inside a b p e h same inside; left = omega arith; right = omega arith }

known-run : (r : Rules) (a b : List ℕ) (p e : ℕ) → e ≤ length a → e ≤ length b → AreSame a b p e → AreAlike (found_in_run r a None (children_in in_master a p e)) (found_in_run r b None (children_in in_master b p e))
known-run r a b p e within within' same =
    let alike = runs-alike never a b p e within within' same in
    let inside = run-inside in_master (λ id. refl) never a e p in
    let held : All (IsHeld a b) (children_in in_master a p e).list = All-weaker (StandsInside p e) (IsHeld a b) (λ c is. held-inside a b p e c within within' same is) _ inside in
    alike-append (found_among r a None (children_in in_master a p e).list) (found_among r b None (children_in in_master b p e).list) _ _
    (subst (λ l. AreAlike (found_among r a None (children_in in_master a p e).list) (found_among r b None l)) alike.list (among-alike r a b None (children_in in_master a p e).list held))
    (behind-alike (children_in in_master a p e).damage (children_in in_master b p e).damage alike.damage)

pub known-alike : (r : Rules) (a b : List ℕ) (e e' : ℕ) (h : Header) → is_unknown h.size ≡ false → end_in e' h ≡ end_in e h → end_in e h ≤ length a → end_in e h ≤ length b → AreSame a b h.body (end_in e h) → AreAlike (found_in r a e h) (found_in r b e' h)
known-alike r a b e e' h known ends within within' same =
    subst (λ (u : Bool). AreAlike (found_in_run r a None (if u then open_cluster a h.body e else children_in in_master a h.body (end_in e h))) (found_in_run r b None (if u then open_cluster b h.body e' else children_in in_master b h.body (end_in e' h)))) (sym known)
    (subst (λ x. AreAlike (found_in_run r a None (children_in in_master a h.body (end_in e h))) (found_in_run r b None (children_in in_master b h.body x))) (sym ends)
    (known-run r a b h.body (end_in e h) within within' same))

-- ---- a Cluster of unknown size that contains more Elements

none-found : (r : Rules) (bytes : List ℕ) (timestamp : Option ℕ) (hs : List Header) → All IsOutside hs → found_among r bytes timestamp hs ≡ []
none-found r bytes timestamp [] none = refl
none-found r bytes timestamp (h ∷ hs) none =
    let own = All-head IsOutside h hs none in
    let here : found_at r bytes timestamp h ≡ [] = rw (own.timestamp, own.simple, own.group) refl in
    ap (λ xs. xs ++ found_among r bytes (timestamp_behind bytes timestamp h) hs) here ∙ none-found r bytes (timestamp_behind bytes timestamp h) hs (All-tail IsOutside h hs none)

more-alike : (r : Rules) (a b : List ℕ) (timestamp : Option ℕ) (hs more : List Header) → All (IsHeld a b) hs → All IsOutside more → AreAlike (found_among r a timestamp hs) (found_among r b timestamp (hs ++ more))
more-alike r a b timestamp [] more held none = subst (AreAlike []) (sym (none-found r b timestamp more none)) tt
more-alike r a b timestamp (h ∷ hs) more held none =
    let own = All-head (IsHeld a b) h hs held in
    alike-append (found_at r a timestamp h) (found_at r b timestamp h) (found_among r a (timestamp_behind a timestamp h) hs) (found_among r b (timestamp_behind b timestamp h) (hs ++ more))
    (at-alike r a b timestamp h own)
    (subst (λ t. AreAlike (found_among r a (timestamp_behind a timestamp h) hs) (found_among r b t (hs ++ more))) (sym (behind-same a b timestamp h own))
    (more-alike r a b (timestamp_behind a timestamp h) hs more (All-tail (IsHeld a b) h hs held) none))

pub open-alike : (r : Rules) (a b : List ℕ) (e e' p q : ℕ) (h : Header) (hs more : List Header) → is_unknown h.size ≡ true
    → open_cluster a h.body e ≡ record { list = hs; damage = None; end = p } → open_cluster b h.body e' ≡ record { list = hs ++ more; damage = None; end = q }
    → All (IsHeld a b) hs → All IsOutside more → AreAlike (found_in r a e h) (found_in r b e' h)
open-alike r a b e e' p q h hs more unknown left right held none =
    subst (λ (u : Bool). AreAlike (found_in_run r a None (if u then open_cluster a h.body e else children_in in_master a h.body (end_in e h))) (found_in_run r b None (if u then open_cluster b h.body e' else children_in in_master b h.body (end_in e' h)))) (sym unknown)
    (subst (λ x. AreAlike (found_in_run r a None (open_cluster a h.body e)) (found_in_run r b None x)) (sym right)
    (subst (λ x. AreAlike (found_in_run r a None x) (found_in_run r b None (record { list = hs ++ more; damage = None; end = q }))) (sym left)
    (alike-append (found_among r a None hs) (found_among r b None (hs ++ more)) [] [] (more-alike r a b None hs more held none) tt)))

-- ---- the blocks among events

pub blocks-then : (closed : Bool) (xs ys : List Found) (us vs : List Event) → AreAlike xs ys → blocks_of us ≡ blocks_of vs → blocks_of (events_then closed xs us) ≡ blocks_of (events_then closed ys vs)
blocks-then closed [] [] us vs alike rest = rest
blocks-then closed [] (y ∷ ys) us vs alike rest = absurd alike
blocks-then closed (x ∷ xs) [] us vs alike rest = of x alike
  where
    of : (x : Found) → AreAlike (x ∷ xs) [] → blocks_of (events_then closed (x ∷ xs) us) ≡ blocks_of (events_then closed [] vs)
    of (Ok x) none = absurd none
    of (Err d) none = absurd none
blocks-then closed (Ok x ∷ xs) (Ok y ∷ ys) us vs alike rest =
    subst (λ z. x ∷ blocks_of (events_then closed xs us) ≡ z ∷ blocks_of (events_then closed ys vs)) alike.0 (ap (λ l. x ∷ l) (blocks-then closed xs ys us vs alike.1 rest))
blocks-then closed (Ok x ∷ xs) (Err d ∷ ys) us vs alike rest = absurd alike
blocks-then closed (Err c ∷ xs) (Ok y ∷ ys) us vs alike rest = absurd alike
blocks-then true (Err c ∷ xs) (Err d ∷ ys) us vs alike rest = rest
blocks-then false (Err c ∷ xs) (Err d ∷ ys) us vs alike rest = refl

-- There is no damage if there was none before.
pub undamaged-then : (closed closed' : Bool) (xs ys : List Found) (us vs : List Event) → AreAlike xs ys → (damages_of us ≡ [] → damages_of vs ≡ []) → damages_of (events_then closed xs us) ≡ [] → damages_of (events_then closed' ys vs) ≡ []
undamaged-then closed closed' [] [] us vs alike rest none = rest none
undamaged-then closed closed' [] (y ∷ ys) us vs alike rest none = absurd alike
undamaged-then closed closed' (Ok x ∷ xs) [] us vs alike rest none = absurd alike
undamaged-then closed closed' (Ok x ∷ xs) (Ok y ∷ ys) us vs alike rest none = undamaged-then closed closed' xs ys us vs alike.1 rest none
undamaged-then closed closed' (Ok x ∷ xs) (Err d ∷ ys) us vs alike rest none = absurd alike
undamaged-then true closed' (Err c ∷ xs) ys us vs alike rest none = absurd (cc)
undamaged-then false closed' (Err c ∷ xs) ys us vs alike rest none = absurd (cc)
