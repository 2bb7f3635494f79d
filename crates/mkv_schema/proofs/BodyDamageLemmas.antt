-- Laws on the damage of a body, by the place of its Element.
use Rattle.std.proofs.Common.{◌≡◌, ◌==◌, ◌&&◌, ◌||◌, nat_lt, not, Bool, true, false, if◌then◌else◌, ℕ, Option, Some, None, refl, sym, ap, ◌∙◌, arith}
use Rattle.std.proofs.lemmas.Bool.Decides.{nat_tests}
use Rattle.mkv_schema.specs.declared.ids.TheConstants.{SEGMENT, CLUSTER}
use Rattle.mkv_io.specs.declared.damage.Kind.{Kind}
use Rattle.mkv_io.specs.declared.damage.Kind.TheVariants.{TooLong, Truncated, UnknownSize}
use Rattle.mkv_schema.specs.declared.element.Header.{Header}
use Rattle.mkv_schema.specs.Element.{Setting, at_level_0, in_segment, in_master, in_tree, anywhere, may_be_open, is_unknown, stated_end, body_damage}
use Rattle.mkv_schema.specs.BodyDamage.{IsByPlace, DamagesAreByPlace}

-- Both definitions agree for all values of their seven tests. These are: an unknown size, an Element that may be open, a parent that is read
-- whole, a Segment or a Cluster. Then: the end of the file is passed, the parent's end is passed, both ends are the same.
by_tests : (unknown opens whole kind file parent same : Bool) → (opens ≡ true → kind ≡ true) → (opens ≡ true → whole ≡ false) → (same ≡ true → file ≡ parent)
    → (if unknown && not opens then Some UnknownSize else if not whole && file && (not kind || (not opens && same)) then Some Truncated else if parent && not (opens && same) then Some TooLong else None)
    ≡ (if opens then (if parent && not same then Some TooLong else None) else
    if whole then (if unknown then Some UnknownSize else if parent then Some TooLong else None) else
    if kind then (if unknown then Some UnknownSize else if parent then Some (if same then Truncated else TooLong) else None) else
    if unknown then Some UnknownSize else if file then Some Truncated else if parent then Some TooLong else None)
by_tests unknown true whole false file parent same kinds wholes ends = absurd (let e = kinds refl in cc)
by_tests unknown true true kind file parent same kinds wholes ends = absurd (let e = wholes refl in cc)
by_tests true true false true true parent same kinds wholes ends = refl
by_tests true true false true false parent same kinds wholes ends = refl
by_tests false true false true true parent same kinds wholes ends = refl
by_tests false true false true false parent same kinds wholes ends = refl
by_tests true false whole kind file parent same kinds wholes ends = by_whole whole kind
  where
    by_whole : (whole kind : Bool) → Some UnknownSize ≡ (if whole then Some UnknownSize else if kind then Some UnknownSize else Some UnknownSize)
    by_whole true kind = refl
    by_whole false true = refl
    by_whole false false = refl
by_tests false false true kind file true same kinds wholes ends = refl
by_tests false false true kind file false same kinds wholes ends = refl
by_tests false false false true true true true kinds wholes ends = refl
by_tests false false false true true true false kinds wholes ends = refl
by_tests false false false true true false true kinds wholes ends = absurd (let e = ends refl in cc)
by_tests false false false true true false false kinds wholes ends = refl
by_tests false false false true false true true kinds wholes ends = absurd (let e = ends refl in cc)
by_tests false false false true false true false kinds wholes ends = refl
by_tests false false false true false false same kinds wholes ends = refl
by_tests false false false false true parent same kinds wholes ends = refl
by_tests false false false false false true same kinds wholes ends = refl
by_tests false false false false false false same kinds wholes ends = refl

-- They agree in a setting that lets only a Segment or a Cluster be open, and none in a master that is read whole.
by_place : (s : Setting) → ((id : ℕ) → s.may_open id ≡ true → may_be_open id ≡ true) → ((id : ℕ) → s.may_open id ≡ true → s.read_whole ≡ false) → IsByPlace s
by_place s kinds wholes total e h =
    by_tests (is_unknown h.size) (s.may_open h.id) s.read_whole (may_be_open h.id) (nat_lt total (stated_end h)) (nat_lt e (stated_end h)) (e == total)
    (kinds h.id) (wholes h.id) (λ same. let is : e ≡ total = grind (arith, nat_tests) in ap (λ n. nat_lt n (stated_end h)) (sym is))

or_left : (a b : Bool) → a ≡ true → (a || b) ≡ true
or_left true b is = refl
or_left false b is = absurd (cc)

or_right : (a b : Bool) → b ≡ true → (a || b) ≡ true
or_right true b is = refl
or_right false b is = is

-- If the parent ends with the file, a Segment's body isn't too long.
none : (segment passes same : Bool) (other : Option Kind) → segment ≡ true → same ≡ true → (if segment then (if passes && not same then Some TooLong else None) else other) ≡ None
none true true true other is ends = refl
none true false true other is ends = refl
none true passes false other is ends = absurd (cc)
none false passes same other is ends = absurd (cc)

pub damages-by_place : DamagesAreByPlace
damages-by_place = record {
  level_0 = level_0;
  segment = by_place in_segment (λ id is. or_right (id == SEGMENT) (id == CLUSTER) is) (λ id is. refl);
  master = by_place in_master (λ id is. absurd (let e : false ≡ true = is in cc)) (λ id is. refl);
  tree = λ parent. by_place (in_tree parent) (λ id is. absurd (let e : false ≡ true = is in cc)) (λ id is. absurd (let e : false ≡ true = is in cc));
  any = by_place anywhere (λ id is. is) (λ id is. refl);
  whole_file = whole;
}
  where
    level_0 : IsByPlace at_level_0
    level_0 = by_place at_level_0 (λ id is. or_left (id == SEGMENT) (id == CLUSTER) is) (λ id is. refl)

    whole : (total : ℕ) (h : Header) → h.id ≡ SEGMENT → body_damage at_level_0 total total h ≡ None
    whole total h is = level_0 total total h ∙ none (h.id == SEGMENT) (nat_lt total (stated_end h)) (total == total) _ (grind (arith, nat_tests)) (grind (arith, nat_tests))
