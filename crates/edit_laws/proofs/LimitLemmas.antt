-- The limits of level 1, and lists of Elements within them.
use Rattle.std.proofs.Common.{◌≡◌, ◌≤◌, ℕ, ◌+◌, ◌==◌, nat_lt, not, Bool, true, false, ◌&&◌, ◌||◌, if◌then◌else◌, List, [], ◌∷◌, ◌++◌, append_assoc, append-nil, filter, All, Option, Some, None, Ok, refl, sym, ◌∙◌, ap, subst, le-ltb, arith}
use Rattle.std.specs.Prelude.{sum_by}
use Rattle.std.proofs.lemmas.Bool.Decides.{nat_tests}
use Rattle.std.proofs.lemmas.List.Elements.{All-nil, All-cons, All-head, All-tail}
use Rattle.std.proofs.lemmas.List.Sums.{sum_by-append, sum_by-cons, sum_by_push}
use Rattle.mkv_schema.specs.declared.limits.TheConstants.{MAX_ELEMENTS, MAX_MASTER_LEN, MAX_MASTERS_LEN}
use Rattle.mkv_schema.specs.declared.ids.TheConstants.{CLUSTER}
use Rattle.mkv_io.specs.declared.damage.Damage.{Damage}
use Rattle.mkv_io.specs.declared.damage.Kind.TheVariants.{HeaderTooLarge, TooMany}
use Rattle.mkv_schema.specs.declared.element.Header.{Header}
use Rattle.mkv_schema.specs.Element.{damage, known}
use Rattle.mkv_schema.specs.Outline.{described, ebml_header, first_damage, first_refusal, is_described, limit_causes, limits_from, others, outline_of, outlined, passes_count, passes_size, segment_of, segment_run, where_it, within_limits}
use Rattle.mkv_io.specs.Results.{and_then, unless}
use Rattle.element_reader.specs.Collected.{described_octets}
use Rattle.element_reader.specs.Outline.{outline_in, shown}

-- 1, or 0 for a Cluster
abbrev pub counts : Header → ℕ
counts h = if not (h.id == CLUSTER) then 1 else 0

-- The Element keeps the limit of an Info, Tracks, Chapters or Tags, if it is one.
abbrev pub KeepsMasterLimit : Header → Type 0
KeepsMasterLimit h = described_octets h ≤ MAX_MASTER_LEN

-- The Elements of level 1 in `list` are within a reader's limits. Counted are all but Clusters, the bytes of each Info, Tracks, Chapters and Tags,
-- and their sum.
pub record AreWithinLimits (list : List Header) : Type 0 where
  pub count : others list ≤ MAX_ELEMENTS
  pub each : All KeepsMasterLimit list
  pub all : described list ≤ MAX_MASTERS_LEN

-- The limited bytes of a list are the sum of its Elements' limited bytes.
pub described-sum : (list : List Header) → described list ≡ sum_by described_octets list
described-sum [] = refl
described-sum (h ∷ hs) = of (described-sum hs) (is_described h.id) refl
  where
    of : described hs ≡ sum_by described_octets hs → (test : Bool) → is_described h.id ≡ test
        → sum_by (λ (k : Header). known k.size) (if test then h ∷ filter (λ (k : Header). is_described k.id) hs else filter (λ (k : Header). is_described k.id) hs) ≡ sum_by described_octets (h ∷ hs)
    of rest true is =
        let here : described_octets h ≡ known h.size = ap (λ (b : Bool). if b then known h.size else 0) is in
        let one = sum_by-cons (λ (k : Header). known k.size) h (filter (λ (k : Header). is_described k.id) hs) in
        let two = sum_by-cons described_octets h hs in
        one ∙ (let all : known h.size + described hs ≡ described_octets h + sum_by described_octets hs = omega arith in all) ∙ sym two
    of rest false is =
        let here : described_octets h ≡ 0 = ap (λ (b : Bool). if b then known h.size else 0) is in
        let two = sum_by-cons described_octets h hs in
        rest ∙ (let all : sum_by described_octets hs ≡ described_octets h + sum_by described_octets hs = omega arith in all) ∙ sym two

-- ---- a list within the limits isn't refused

size-kept : (before : List Header) (h : Header) → KeepsMasterLimit h → described (before ++ h ∷ []) ≤ MAX_MASTERS_LEN → passes_size 0 before h ≡ false
size-kept before h short all = of (is_described h.id) refl
  where
    of : (test : Bool) → is_described h.id ≡ test → (test && (nat_lt MAX_MASTER_LEN (known h.size) || nat_lt MAX_MASTERS_LEN (0 + described (before ++ h ∷ [])))) ≡ false
    of false is = refl
    of true is =
        let here : described_octets h ≡ known h.size = ap (λ (b : Bool). if b then known h.size else 0) is in
        let one : nat_lt MAX_MASTER_LEN (known h.size) ≡ false = le-ltb MAX_MASTER_LEN (known h.size) (omega arith) in
        let two : nat_lt MAX_MASTERS_LEN (0 + described (before ++ h ∷ [])) ≡ false = le-ltb MAX_MASTERS_LEN (0 + described (before ++ h ∷ [])) (omega arith) in
        ap (λ (b : Bool). b || nat_lt MAX_MASTERS_LEN (0 + described (before ++ h ∷ []))) one ∙ two

count-kept : (before : List Header) (h : Header) → others (before ++ h ∷ []) ≤ MAX_ELEMENTS → passes_count before h ≡ false
count-kept before h few = of (not (h.id == CLUSTER))
  where
    of : (test : Bool) → (test && nat_lt MAX_ELEMENTS (others (before ++ h ∷ []))) ≡ false
    of false = refl
    of true = le-ltb MAX_ELEMENTS (others (before ++ h ∷ [])) few

limits-kept : (before hs : List Header) → others (before ++ hs) ≤ MAX_ELEMENTS → All KeepsMasterLimit hs → described (before ++ hs) ≤ MAX_MASTERS_LEN → limits_from 0 before hs ≡ None
limits-kept before [] few each all = refl
limits-kept before (h ∷ hs) few each all =
    let join : (before ++ h ∷ []) ++ hs ≡ before ++ h ∷ hs = append_assoc before (h ∷ []) hs in
    let number : others (before ++ h ∷ hs) ≡ others (before ++ h ∷ []) + others hs = ap others (sym join) ∙ sum_by-append counts (before ++ h ∷ []) hs in
    let sum : described (before ++ h ∷ hs) ≡ sum_by described_octets (before ++ h ∷ []) + sum_by described_octets hs = ap described (sym join) ∙ described-sum ((before ++ h ∷ []) ++ hs) ∙ sum_by-append described_octets (before ++ h ∷ []) hs in
    let front = described-sum (before ++ h ∷ []) in
    let size = size-kept before h (All-head KeepsMasterLimit h hs each) (omega arith) in
    let count = count-kept before h (omega arith) in
    let rest = limits-kept (before ++ h ∷ []) hs (subst (λ l. others l ≤ MAX_ELEMENTS) (sym join) few) (All-tail KeepsMasterLimit h hs each) (subst (λ l. described l ≤ MAX_MASTERS_LEN) (sym join) all) in
    ap (λ (b : Bool). first_refusal (first_damage (where_it b (damage HeaderTooLarge h.id h.offset) ∷ where_it (passes_count before h) (damage TooMany h.id h.offset) ∷ [])) (limits_from 0 (before ++ h ∷ []) hs)) size
    ∙ ap (λ (b : Bool). first_refusal (first_damage (where_it false (damage HeaderTooLarge h.id h.offset) ∷ where_it b (damage TooMany h.id h.offset) ∷ [])) (limits_from 0 (before ++ h ∷ []) hs)) count
    ∙ rest

-- Elements within the limits aren't refused.
pub within-kept : (list : List Header) → AreWithinLimits list → limits_from 0 [] list ≡ None
within-kept list is = limits-kept [] list is.count is.each is.all

-- ---- a list that isn't refused is within the limits

refusal-none : (first later : Option Damage) → first_refusal first later ≡ None → (first ≡ None) × (later ≡ None)
refusal-none None later none = (refl, none)
refusal-none (Some d) later none = absurd (cc)

causes-none : (one two : Bool) (c d : Damage) → first_damage (where_it one c ∷ where_it two d ∷ []) ≡ None → (one ≡ false) × (two ≡ false)
causes-none true two c d none = absurd (cc)
causes-none false true c d none = absurd (cc)
causes-none false false c d none = (refl, refl)

size-within : (before : List Header) (h : Header) → passes_size 0 before h ≡ false → described before ≤ MAX_MASTERS_LEN → KeepsMasterLimit h × (described (before ++ h ∷ []) ≤ MAX_MASTERS_LEN)
size-within before h passes all = of (is_described h.id) refl passes
  where
    more : described (before ++ h ∷ []) ≡ described before + described_octets h
    more =
        let one = described-sum before in
        described-sum (before ++ h ∷ []) ∙ sum_by_push described_octets before h ∙ (let is : sum_by described_octets before + described_octets h ≡ described before + described_octets h = omega arith in is)

    of : (test : Bool) → is_described h.id ≡ test → (test && (nat_lt MAX_MASTER_LEN (known h.size) || nat_lt MAX_MASTERS_LEN (0 + described (before ++ h ∷ [])))) ≡ false → KeepsMasterLimit h × (described (before ++ h ∷ []) ≤ MAX_MASTERS_LEN)
    of false is none =
        let here : described_octets h ≡ 0 = ap (λ (b : Bool). if b then known h.size else 0) is in
        (omega arith, omega (arith, more))
    of true is none =
        let here : described_octets h ≡ known h.size = ap (λ (b : Bool). if b then known h.size else 0) is in
        let both = neither (nat_lt MAX_MASTER_LEN (known h.size)) (nat_lt MAX_MASTERS_LEN (0 + described (before ++ h ∷ []))) none in
        let one : known h.size ≤ MAX_MASTER_LEN = below MAX_MASTER_LEN (known h.size) both.0 in
        let two : 0 + described (before ++ h ∷ []) ≤ MAX_MASTERS_LEN = below MAX_MASTERS_LEN (0 + described (before ++ h ∷ [])) both.1 in
        (omega arith, omega arith)
      where
        neither : (a b : Bool) → (a || b) ≡ false → (a ≡ false) × (b ≡ false)
        neither true b none = absurd (cc)
        neither false b none = (refl, none)

        below : (a b : ℕ) → nat_lt a b ≡ false → b ≤ a
        below a b none = grind (arith, nat_tests)

count-within : (before : List Header) (h : Header) → passes_count before h ≡ false → others before ≤ MAX_ELEMENTS → others (before ++ h ∷ []) ≤ MAX_ELEMENTS
count-within before h passes few = of (not (h.id == CLUSTER)) refl passes
  where
    of : (test : Bool) → not (h.id == CLUSTER) ≡ test → (test && nat_lt MAX_ELEMENTS (others (before ++ h ∷ []))) ≡ false → others (before ++ h ∷ []) ≤ MAX_ELEMENTS
    of false is none =
        let here : counts h ≡ 0 = ap (λ (b : Bool). if b then 1 else 0) is in
        let more : others (before ++ h ∷ []) ≡ others before + counts h = sum_by_push counts before h in
        omega arith
    of true is none = grind (arith, nat_tests)

limits-within : (before hs : List Header) → limits_from 0 before hs ≡ None → others before ≤ MAX_ELEMENTS → described before ≤ MAX_MASTERS_LEN
    → (others (before ++ hs) ≤ MAX_ELEMENTS) × All KeepsMasterLimit hs × (described (before ++ hs) ≤ MAX_MASTERS_LEN)
limits-within before [] none few all = (subst (λ l. others l ≤ MAX_ELEMENTS) (sym (append-nil before)) few, All-nil KeepsMasterLimit, subst (λ l. described l ≤ MAX_MASTERS_LEN) (sym (append-nil before)) all)
limits-within before (h ∷ hs) none few all =
    let join : (before ++ h ∷ []) ++ hs ≡ before ++ h ∷ hs = append_assoc before (h ∷ []) hs in
    let both = refusal-none (first_damage (limit_causes 0 before h)) (limits_from 0 (before ++ h ∷ []) hs) none in
    let passes = causes-none (passes_size 0 before h) (passes_count before h) (damage HeaderTooLarge h.id h.offset) (damage TooMany h.id h.offset) both.0 in
    let size = size-within before h passes.0 all in
    let rest = limits-within (before ++ h ∷ []) hs both.1 (count-within before h passes.1 few) size.1 in
    (subst (λ l. others l ≤ MAX_ELEMENTS) join rest.0, All-cons KeepsMasterLimit h hs size.0 rest.1, subst (λ l. described l ≤ MAX_MASTERS_LEN) join rest.2)

-- Elements that aren't refused are within the limits.
pub kept-within : (list : List Header) → limits_from 0 [] list ≡ None → AreWithinLimits list
kept-within list none =
    let is = limits-within [] list none (omega arith) (omega arith) in
    record { count = is.0; each = is.1; all = is.2 }

-- ---- the outline

-- A file whose level 1 is within the limits has an outline.
pub outline-there : (bytes : List ℕ) (ebml segment : Header) → ebml_header bytes ≡ Ok ebml → segment_of bytes ebml ≡ Ok segment → AreWithinLimits (segment_run bytes segment).list
    → outline_in 0 bytes ≡ Ok (shown bytes (outlined bytes ebml segment (segment_run bytes segment)))
unfolding outline_of
outline-there bytes ebml segment first second within =
    ap (λ found. and_then (and_then found (λ e. and_then (segment_of bytes e) (λ s. within_limits 0 bytes e s))) (λ o. Ok (shown bytes o))) first
    ∙ ap (λ found. and_then (and_then found (λ s. within_limits 0 bytes ebml s)) (λ o. Ok (shown bytes o))) second
    ∙ ap (λ (refusal : Option Damage). and_then (unless refusal (outlined bytes ebml segment (segment_run bytes segment))) (λ o. Ok (shown bytes o))) (within-kept (segment_run bytes segment).list within)
