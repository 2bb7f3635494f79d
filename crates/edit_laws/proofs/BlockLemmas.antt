-- The blocks of a child of a Cluster, if two contents share its bytes.
use Rattle.std.proofs.Common.{◌≡◌, ◌≤◌, ℕ, ◌*◌, ◌==◌, not, Bool, true, false, if◌then◌else◌, List, [], ◌∷◌, ◌++◌, length, map, filter, find, flat_map, All, Option, Some, None, Result, Ok, Err, refl, sym, ◌∙◌, ap, ap₂, subst, arith}
use Rattle.std.specs.Bool.{⊤}
use Rattle.std.specs.Option.{is_some, option_map}
use Rattle.std.proofs.lemmas.List.Elements.{All-head, All-tail, All-filter, All-weaker}
use Rattle.ebml_numbers.specs.Number.{uint_of, int_of}
use Rattle.mkv_schema.specs.declared.ids.TheConstants.{BLOCK_GROUP, BLOCK, BLOCK_DURATION, REFERENCE_BLOCK, SIMPLE_BLOCK, TIMESTAMP}
use Rattle.mkv_io.specs.declared.damage.Damage.{Damage}
use Rattle.mkv_io.specs.declared.damage.Kind.TheVariants.{BadValue}
use Rattle.mkv_schema.specs.declared.element.Header.{Header}
use Rattle.mkv_schema.specs.Element.{stated_end, damage, in_master}
use Rattle.mkv_schema.specs.Elements.{Run, never}
use Rattle.mkv_schema.specs.Value.{body_of, is_known_value, first_of}
use Rattle.mkv_schema.specs.Outline.{first_damage, bad_value}
use Rattle.mkv_io.specs.Results.{and_then, unless}
use Rattle.block_format.specs.Block.{nanoseconds, simple_block_with}
use Rattle.block_format.specs.Content.{Content, content_in}
use Rattle.block_format.specs.Elements.{Rules, timestamp_for, at_place, in_time, simple_block, group_run, group_refusal, group_children, block_or, references_among, too_many_references, duration_of, references_of, is_kept, element_octets, kept_of, group_with, group_among, block_group}
use Rattle.block_format.specs.Events.{Found, found_in_timestamp, found_at, timestamp_behind, found_among}
use Rattle.edit_laws.proofs.AmongLemmas.{all-among, first-among}
use Rattle.edit_laws.proofs.SameLemmas.{AreSame, same-part}
use Rattle.edit_laws.proofs.RunLemmas.{AreAlikeRuns, runs-alike, run-inside, StandsInside}

-- ---- two functions that agree on a list

pub find-same : {X : Type 0} (p q : X → Bool) (xs : List X) → All (λ x. p x ≡ q x) xs → find p xs ≡ find q xs
find-same p q [] same = refl
find-same p q (x ∷ xs) same =
    ap (λ (b : Bool). if b then Some x else find p xs) (All-head (λ x. p x ≡ q x) x xs same)
    ∙ ap (λ o. if q x then Some x else o) (find-same p q xs (All-tail (λ x. p x ≡ q x) x xs same))

first-same : {X A : Type 0} (f g : X → A) (passes : X → Bool) (xs : List X) → All (λ x. f x ≡ g x) xs → option_map f (find passes xs) ≡ option_map g (find passes xs)
first-same f g passes [] same = refl
first-same f g passes (x ∷ xs) same = of (first-same f g passes xs (All-tail (λ x. f x ≡ g x) x xs same)) (passes x)
  where
    of : option_map f (find passes xs) ≡ option_map g (find passes xs) → (test : Bool) → option_map f (if test then Some x else find passes xs) ≡ option_map g (if test then Some x else find passes xs)
    of rest true = ap (λ y. Some y) (All-head (λ x. f x ≡ g x) x xs same)
    of rest false = rest

pub map-same : {X A : Type 0} (f g : X → A) (xs : List X) → All (λ x. f x ≡ g x) xs → map f xs ≡ map g xs
map-same f g [] same = refl
map-same f g (x ∷ xs) same = ap₂ (λ y ys. y ∷ ys) (All-head (λ x. f x ≡ g x) x xs same) (map-same f g xs (All-tail (λ x. f x ≡ g x) x xs same))

flat_map-same : {X A : Type 0} (f g : X → List A) (xs : List X) → All (λ x. f x ≡ g x) xs → flat_map f xs ≡ flat_map g xs
flat_map-same f g [] same = refl
flat_map-same f g (x ∷ xs) same = ap₂ (λ y ys. y ++ ys) (All-head (λ x. f x ≡ g x) x xs same) (flat_map-same f g xs (All-tail (λ x. f x ≡ g x) x xs same))

-- ---- results

-- The lists are equal up to the first damage.
abbrev pub AreAlike : {X : Type 0} → List (Result X Damage) → List (Result X Damage) → Type 0
AreAlike [] [] = ⊤
AreAlike [] (y ∷ ys) = ⊥
AreAlike (x ∷ xs) [] = ⊥
AreAlike (Ok x ∷ xs) (Ok y ∷ ys) = (x ≡ y) × AreAlike xs ys
AreAlike (Ok x ∷ xs) (Err d ∷ ys) = ⊥
AreAlike (Err c ∷ xs) (Ok y ∷ ys) = ⊥
AreAlike (Err c ∷ xs) (Err d ∷ ys) = ⊤

-- Both are the same block, or both are damage.
abbrev IsAlike : Found → Found → Type 0
IsAlike x y = AreAlike (x ∷ []) (y ∷ [])

alike-self : (xs : List Found) → AreAlike xs xs
alike-self [] = tt
alike-self (Ok x ∷ xs) = (refl, alike-self xs)
alike-self (Err d ∷ xs) = tt

pub alike-append : {X : Type 0} (xs ys us vs : List (Result X Damage)) → AreAlike xs ys → AreAlike us vs → AreAlike (xs ++ us) (ys ++ vs)
alike-append [] [] us vs one two = two
alike-append [] (y ∷ ys) us vs one two = absurd one
alike-append {X = X} (x ∷ xs) [] us vs one two = of x one
  where
    of : (x : Result X Damage) → AreAlike (x ∷ xs) [] → AreAlike (x ∷ xs ++ us) vs
    of (Ok x) none = absurd none
    of (Err d) none = absurd none
alike-append (Ok x ∷ xs) (Ok y ∷ ys) us vs one two = (one.0, alike-append xs ys us vs one.1 two)
alike-append (Ok x ∷ xs) (Err d ∷ ys) us vs one two = absurd one
alike-append (Err c ∷ xs) (Ok y ∷ ys) us vs one two = absurd one
alike-append (Err c ∷ xs) (Err d ∷ ys) us vs one two = tt

-- ---- an Element that two contents share

-- The header and the body of `h` are the same in `a` and `b`.
pub record IsShared (a b : List ℕ) (h : Header) : Type 0 where
  pub same : AreSame a b h.offset (stated_end h)
  pub header : h.offset ≤ h.body
  pub body : h.body ≤ stated_end h

pub shared-inside : (a b : List ℕ) (p e : ℕ) (h : Header) → AreSame a b p e → StandsInside p e h → IsShared a b h
shared-inside a b p e h same inside =
    let from = inside.from in let header = inside.header in let to = inside.to in
    let ends : h.body ≤ stated_end h = omega arith in
    record { same = same-part a b p e h.offset (stated_end h) from (omega arith) to same; header = omega arith; body = ends }

pub shared-body : (a b : List ℕ) (h : Header) → IsShared a b h → body_of b h ≡ body_of a h
shared-body a b h shared = same-part a b h.offset (stated_end h) h.body (stated_end h) shared.header shared.body (omega arith) shared.same

-- ---- a SimpleBlock

simple-same : (r : Rules) (a b : List ℕ) (timestamp : Option ℕ) (h : Header) → IsShared a b h → simple_block r b timestamp h ≡ simple_block r a timestamp h
unfolding simple_block
simple-same r a b timestamp h shared =
    ap (λ (o : List ℕ). and_then (timestamp_for r timestamp h) (λ time.
    and_then (at_place h.id h.offset (content_in o)) (λ content. in_time r h.id (simple_block_with r.scale time h.offset content))))
    (shared-body a b h shared)

-- ---- a BlockGroup

module _ (a b : List ℕ) (children : List Header) (shared : All (IsShared a b) children) where
  same-bodies : {A : Type 0} (f : List ℕ → A) → All (λ h. f (body_of b h) ≡ f (body_of a h)) children
  same-bodies f = All-weaker (IsShared a b) (λ h. f (body_of b h) ≡ f (body_of a h)) (λ h is. ap f (shared-body a b h is)) children shared

  duration-same : (scale : ℕ) → duration_of scale b children ≡ duration_of scale a children
  duration-same scale = first-same _ _ (λ c. c.id == BLOCK_DURATION) children (same-bodies (λ o. uint_of o * scale))

  references-same : (scale : ℕ) → references_of scale b children ≡ references_of scale a children
  references-same scale =
      map-same (λ (c : Header). nanoseconds scale (int_of (body_of b c))) (λ (c : Header). nanoseconds scale (int_of (body_of a c))) (references_among children)
      (All-filter (λ c. c.id == REFERENCE_BLOCK) (λ c. nanoseconds scale (int_of (body_of b c)) ≡ nanoseconds scale (int_of (body_of a c))) children (same-bodies (λ o. nanoseconds scale (int_of o))))

  kept-same : kept_of b children ≡ kept_of a children
  kept-same =
      flat_map-same (λ (c : Header). element_octets b c) (λ (c : Header). element_octets a c) (filter (λ (c : Header). is_kept c.id) children)
      (All-filter (λ c. is_kept c.id) (λ c. element_octets b c ≡ element_octets a c) children
      (All-weaker (IsShared a b) (λ c. element_octets b c ≡ element_octets a c) (λ c is. is.same) children shared))

  with-same : (scale timestamp offset : ℕ) (content : Content) → group_with scale b timestamp offset children content ≡ group_with scale a timestamp offset children content
  with-same scale timestamp offset content =
      ap (λ d. record (group_with scale b timestamp offset children content) { duration = d }) (duration-same scale)
      ∙ ap (λ rs. record (group_with scale b timestamp offset children content) { duration = duration_of scale a children; references = rs }) (references-same scale)
      ∙ ap (λ k. record (group_with scale b timestamp offset children content) { duration = duration_of scale a children; references = references_of scale a children; kept = k }) kept-same

  among-same : (r : Rules) (timestamp offset : ℕ) (block : Header) → IsShared a b block → group_among r b timestamp offset children block ≡ group_among r a timestamp offset children block
  among-same r timestamp offset block is =
      ap (λ (o : List ℕ). and_then (at_place BLOCK offset (content_in o)) (λ content. and_then (unless (too_many_references r children) content) (λ content. in_time r BLOCK (group_with r.scale b timestamp offset children content))))
      (shared-body a b block is)
      ∙ of (at_place BLOCK offset (content_in (body_of a block)))
    where
      last : (content : Result Content Damage) → and_then content (λ content. in_time r BLOCK (group_with r.scale b timestamp offset children content)) ≡ and_then content (λ content. in_time r BLOCK (group_with r.scale a timestamp offset children content))
      last (Ok content) = ap (in_time r BLOCK) (with-same r.scale timestamp offset content)
      last (Err d) = refl

      of : (content : Result Content Damage)
          → and_then content (λ content. and_then (unless (too_many_references r children) content) (λ content. in_time r BLOCK (group_with r.scale b timestamp offset children content)))
          ≡ and_then content (λ content. and_then (unless (too_many_references r children) content) (λ content. in_time r BLOCK (group_with r.scale a timestamp offset children content)))
      of (Ok content) = last (unless (too_many_references r children) content)
      of (Err d) = refl

  bad-same : (parent : ℕ) → bad_value b parent children ≡ bad_value a parent children
  bad-same parent =
      ap (option_map (λ (h : Header). damage BadValue h.id h.offset))
      (find-same (λ h. not (is_known_value parent h.id (body_of b h))) (λ h. not (is_known_value parent h.id (body_of a h))) children
      (All-weaker (IsShared a b) (λ h. not (is_known_value parent h.id (body_of b h)) ≡ not (is_known_value parent h.id (body_of a h)))
      (λ h is. ap (λ o. not (is_known_value parent h.id o)) (shared-body a b h is)) children shared))

-- The block of the children, and the Block among them.
behind-children : (r : Rules) (a b : List ℕ) (timestamp : ℕ) (h : Header) (children : List Header) → All (IsShared a b) children
    → and_then (block_or h (first_of BLOCK children)) (group_among r b timestamp h.offset children) ≡ and_then (block_or h (first_of BLOCK children)) (group_among r a timestamp h.offset children)
behind-children r a b timestamp h children shared = of (first_of BLOCK children) refl
  where
    of : (first : Option Header) → first_of BLOCK children ≡ first
        → and_then (block_or h first) (group_among r b timestamp h.offset children) ≡ and_then (block_or h first) (group_among r a timestamp h.offset children)
    of None is = refl
    of (Some block) is = among-same a b children shared r timestamp h.offset block (all-among (IsShared a b) children block shared (first-among (λ c. c.id == BLOCK) children block is).0)

-- The block of a group depends only on the children of a run, or on its damage.
children-alike : (r : Rules) (a b : List ℕ) (timestamp : ℕ) (h : Header) (x y : Run) → AreAlikeRuns x y → All (IsShared a b) x.list
    → IsAlike (and_then (unless (group_refusal a x) x.list) (λ children. and_then (block_or h (first_of BLOCK children)) (group_among r a timestamp h.offset children)))
    (and_then (unless (group_refusal b y) y.list) (λ children. and_then (block_or h (first_of BLOCK children)) (group_among r b timestamp h.offset children)))
children-alike r a b timestamp h x y alike shared =
    subst (λ (l : List Header). IsAlike (and_then (unless (group_refusal a x) x.list) (rest a)) (and_then (unless (first_damage (bad_value b BLOCK_GROUP l ∷ y.damage ∷ [])) l) (rest b))) alike.list
    (subst (λ (bad : Option Damage). IsAlike (and_then (unless (group_refusal a x) x.list) (rest a)) (and_then (unless (first_damage (bad ∷ y.damage ∷ [])) x.list) (rest b))) (sym (bad-same a b x.list shared BLOCK_GROUP))
    (of (bad_value a BLOCK_GROUP x.list) x.damage y.damage alike.damage))
  where
    rest : List ℕ → List Header → Found
    rest bytes children = and_then (block_or h (first_of BLOCK children)) (group_among r bytes timestamp h.offset children)

    of : (bad one two : Option Damage) → is_some one ≡ is_some two
        → IsAlike (and_then (unless (first_damage (bad ∷ one ∷ [])) x.list) (rest a)) (and_then (unless (first_damage (bad ∷ two ∷ [])) x.list) (rest b))
    of (Some d) one two same = tt
    of None (Some c) (Some d) same = tt
    of None (Some c) None same = absurd (cc)
    of None None (Some d) same = absurd (cc)
    of None None None same = subst (IsAlike (rest a x.list)) (sym (behind-children r a b timestamp h x.list shared)) (alike-self (rest a x.list ∷ []))

group-alike : (r : Rules) (a b : List ℕ) (timestamp : Option ℕ) (h : Header) → stated_end h ≤ length a → stated_end h ≤ length b → IsShared a b h → IsAlike (block_group r a timestamp h) (block_group r b timestamp h)
unfolding block_group
group-alike r a b timestamp h within within' shared = of (timestamp_for r timestamp h)
  where
    inside : AreSame a b h.body (stated_end h)
    inside = shared-body a b h shared

    of : (time : Result ℕ Damage)
        → IsAlike (and_then time (λ time. and_then (group_children a h) (λ children. and_then (block_or h (first_of BLOCK children)) (group_among r a time h.offset children))))
        (and_then time (λ time. and_then (group_children b h) (λ children. and_then (block_or h (first_of BLOCK children)) (group_among r b time h.offset children))))
    of (Err d) = tt
    of (Ok time) =
        children-alike r a b time h (group_run a h) (group_run b h) (runs-alike never a b h.body (stated_end h) within within' inside)
        (All-weaker (StandsInside h.body (stated_end h)) (IsShared a b) (λ c is. shared-inside a b h.body (stated_end h) c inside is) (group_run a h).list (run-inside in_master (λ id. refl) never a (stated_end h) h.body))

-- ---- the children of a Cluster

-- Two contents share the Element `h`, which ends within both.
pub record IsHeld (a b : List ℕ) (h : Header) : Type 0 where
  pub shared : IsShared a b h
  pub left : stated_end h ≤ length a
  pub right : stated_end h ≤ length b

pub at-alike : (r : Rules) (a b : List ℕ) (timestamp : Option ℕ) (h : Header) → IsHeld a b h → AreAlike (found_at r a timestamp h) (found_at r b timestamp h)
at-alike r a b timestamp h held = of (h.id == TIMESTAMP) (h.id == SIMPLE_BLOCK) (h.id == BLOCK_GROUP)
  where
    of : (time simple group : Bool)
        → AreAlike (if time then found_in_timestamp h else if simple then simple_block r a timestamp h ∷ [] else if group then block_group r a timestamp h ∷ [] else [])
        (if time then found_in_timestamp h else if simple then simple_block r b timestamp h ∷ [] else if group then block_group r b timestamp h ∷ [] else [])
    of true simple group = alike-self (found_in_timestamp h)
    of false true group = subst (IsAlike (simple_block r a timestamp h)) (sym (simple-same r a b timestamp h held.shared)) (alike-self (simple_block r a timestamp h ∷ []))
    of false false true = group-alike r a b timestamp h held.left held.right held.shared
    of false false false = tt

pub behind-same : (a b : List ℕ) (timestamp : Option ℕ) (h : Header) → IsHeld a b h → timestamp_behind b timestamp h ≡ timestamp_behind a timestamp h
behind-same a b (Some timestamp) h held = refl
behind-same a b None h held = ap (λ (o : List ℕ). if h.id == TIMESTAMP then Some (uint_of o) else None) (shared-body a b h held.shared)

-- Children that two contents share give the same blocks in both.
pub among-alike : (r : Rules) (a b : List ℕ) (timestamp : Option ℕ) (hs : List Header) → All (IsHeld a b) hs → AreAlike (found_among r a timestamp hs) (found_among r b timestamp hs)
among-alike r a b timestamp [] held = tt
among-alike r a b timestamp (h ∷ hs) held =
    let own = All-head (IsHeld a b) h hs held in
    alike-append (found_at r a timestamp h) (found_at r b timestamp h) (found_among r a (timestamp_behind a timestamp h) hs) (found_among r b (timestamp_behind b timestamp h) hs)
    (at-alike r a b timestamp h own)
    (subst (λ t. AreAlike (found_among r a (timestamp_behind a timestamp h) hs) (found_among r b t hs)) (sym (behind-same a b timestamp h own))
    (among-alike r a b (timestamp_behind a timestamp h) hs (All-tail (IsHeld a b) h hs held)))
