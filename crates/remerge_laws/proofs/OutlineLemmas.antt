-- An outline that keeps a reader's limits is read with them.
use Rattle.std.proofs.Common.{◌≡◌, ℕ, ◌+◌, ◌≤◌, ◌==◌, nat_lt, not, Bool, true, false, if◌then◌else◌, List, [], ◌∷◌, ◌++◌, append_assoc, filter, All, None, Ok, refl, sym, ap, ap₂, ◌∙◌, subst, arith, sum_by}
use Rattle.std.proofs.lemmas.Bool.{le-ltb, and_right}
use Rattle.std.proofs.lemmas.List.Elements.{All-head, All-tail, filter-append}
use Rattle.std.proofs.lemmas.List.Sums.{sum_by-append}
use Rattle.mkv_io.specs.declared.damage.Kind.TheVariants.{HeaderTooLarge, TooMany}
use Rattle.mkv_schema.specs.declared.ids.TheConstants.{CLUSTER}
use Rattle.mkv_schema.specs.declared.element.Header.{Header}
use Rattle.mkv_schema.specs.declared.limits.TheConstants.{MAX_HEADER_LEN, MAX_MASTER_LEN, MAX_MASTERS_LEN, MAX_ELEMENTS}
use Rattle.mkv_schema.specs.Element.{known, damage}
use Rattle.mkv_schema.specs.Outline.{Outlined, first_damage, first_refusal, where_it, header_causes, children_causes, header_children, first_element, ebml_header, segment_of, segment_run, is_described, described, others, passes_size, passes_count, limits_from, outlined, within_limits, outline_of}
use Rattle.mkv_io.specs.Results.{and_then, unless}
use Rattle.mkv_schema.specs.WithoutLimits.{header_without_limit, outline_without_limits}
use Rattle.mkv_schema.proofs.OutlineLemmas.{and_then-ok, unless-ok}

-- ---- an outline

-- A header that isn't too long is read with the limit.
header-with_limit : (bytes : List ℕ) (h : Header) → header_without_limit bytes ≡ Ok h → known h.size ≤ MAX_HEADER_LEN → ebml_header bytes ≡ Ok h
unfolding ebml_header
header-with_limit bytes h is short =
    let first = and_then-ok (first_element bytes) (λ x. unless (first_damage (children_causes bytes (header_children bytes x))) x) h is in
    let good = unless-ok (first_damage (children_causes bytes (header_children bytes first.0))) first.0 h first.1.1 in
    let within : nat_lt MAX_HEADER_LEN (known first.0.size) ≡ false = le-ltb MAX_HEADER_LEN (known first.0.size) (subst (λ (x : Header). known x.size ≤ MAX_HEADER_LEN) (sym good.1) short) in
    ap (λ r. and_then r (λ x. unless (first_damage (header_causes bytes x (header_children bytes x))) x)) first.1.0
    ∙ ap (λ (b : Bool). unless (first_damage (where_it b (damage HeaderTooLarge first.0.id first.0.offset) ∷ children_causes bytes (header_children bytes first.0))) first.0) within
    ∙ ap (λ c. unless c first.0) good.0 ∙ ap (λ x. Ok x) good.1

-- The Elements of level 1 are the Segment's.
pub outline-run : (bytes : List ℕ) (o : Outlined) → outline_without_limits bytes ≡ Ok o → (segment_run bytes o.segment).list ≡ o.list
unfolding outline_without_limits
outline-run bytes o is =
    let ebml = and_then-ok (header_without_limit bytes) (λ h. and_then (segment_of bytes h) (λ s. Ok (outlined bytes h s (segment_run bytes s)))) o is in
    let segment = and_then-ok (segment_of bytes ebml.0) (λ s. Ok (outlined bytes ebml.0 s (segment_run bytes s))) o ebml.1.1 in
    let same : outlined bytes ebml.0 segment.0 (segment_run bytes segment.0) ≡ o = cc in
    ap (λ (x : Header). (segment_run bytes x).list) (sym (ap (λ (x : Outlined). x.segment) same)) ∙ ap (λ (x : Outlined). x.list) same

-- An outline that is read without limits, and keeps them, is read with them.
pub outline-within : (held : ℕ) (bytes : List ℕ) (o : Outlined) → outline_without_limits bytes ≡ Ok o → known o.ebml.size ≤ MAX_HEADER_LEN → limits_from held [] o.list ≡ None
    → outline_of held bytes ≡ Ok o
unfolding outline_of outline_without_limits
outline-within held bytes o is short keeps =
    let ebml = and_then-ok (header_without_limit bytes) (λ h. and_then (segment_of bytes h) (λ s. Ok (outlined bytes h s (segment_run bytes s)))) o is in
    let segment = and_then-ok (segment_of bytes ebml.0) (λ s. Ok (outlined bytes ebml.0 s (segment_run bytes s))) o ebml.1.1 in
    let same : outlined bytes ebml.0 segment.0 (segment_run bytes segment.0) ≡ o = cc in
    let header : ebml_header bytes ≡ Ok ebml.0 = header-with_limit bytes ebml.0 ebml.1.0 (subst (λ (x : Outlined). known x.ebml.size ≤ MAX_HEADER_LEN) (sym same) short) in
    let none_passed : limits_from held [] (segment_run bytes segment.0).list ≡ None = ap (λ (x : Outlined). limits_from held [] x.list) same ∙ keeps in
    ap (λ r. and_then r (λ h. and_then (segment_of bytes h) (λ s. within_limits held bytes h s))) header
    ∙ ap (λ r. and_then r (λ s. within_limits held bytes ebml.0 s)) segment.1.0
    ∙ ap (λ c. unless c (outlined bytes ebml.0 segment.0 (segment_run bytes segment.0))) none_passed
    ∙ ap (λ x. Ok x) same

-- ---- the limits of level 1

-- The Element has at most 16 MiB if it is an Info, Tracks, Chapters or Tags.
abbrev pub IsShortHeader : Header → Type 0
IsShortHeader h = is_described h.id ≡ true → known h.size ≤ MAX_MASTER_LEN

pub described-append : (a b : List Header) → described (a ++ b) ≡ described a + described b
described-append a b =
    ap (sum_by (λ (h : Header). known h.size)) (filter-append (λ (h : Header). is_described h.id) a b)
    ∙ sum_by-append (λ (h : Header). known h.size) (filter (λ (h : Header). is_described h.id) a) (filter (λ (h : Header). is_described h.id) b)

pub others-append : (a b : List Header) → others (a ++ b) ≡ others a + others b
others-append a b = sum_by-append (λ (h : Header). if not (h.id == CLUSTER) then 1 else 0) a b

no-size : (held : ℕ) (before : List Header) (h : Header) (t : Bool) → is_described h.id ≡ t → IsShortHeader h → held + described (before ++ h ∷ []) ≤ MAX_MASTERS_LEN → passes_size held before h ≡ false
no-size held before h false is short fits = rw is refl
no-size held before h true is short fits =
    let one : nat_lt MAX_MASTER_LEN (known h.size) ≡ false = le-ltb MAX_MASTER_LEN (known h.size) (short is) in
    let all : nat_lt MAX_MASTERS_LEN (held + described (before ++ h ∷ [])) ≡ false = le-ltb MAX_MASTERS_LEN (held + described (before ++ h ∷ [])) fits in
    rw (is, one, all) refl

no-count : (before : List Header) (h : Header) → others (before ++ h ∷ []) ≤ MAX_ELEMENTS → passes_count before h ≡ false
no-count before h few = and_right (not (h.id == CLUSTER)) _ (le-ltb MAX_ELEMENTS (others (before ++ h ∷ [])) few)

-- The list keeps the limits.
pub none-passed : (held : ℕ) (before hs : List Header) → All IsShortHeader hs → held + described (before ++ hs) ≤ MAX_MASTERS_LEN → others (before ++ hs) ≤ MAX_ELEMENTS
    → limits_from held before hs ≡ None
none-passed held before [] short fits few = refl
none-passed held before (h ∷ hs) short fits few =
    let apart : (before ++ h ∷ []) ++ hs ≡ before ++ h ∷ hs = append_assoc before (h ∷ []) hs in
    let size : described ((before ++ h ∷ []) ++ hs) ≡ described (before ++ h ∷ hs) = ap described apart in
    let many : others ((before ++ h ∷ []) ++ hs) ≡ others (before ++ h ∷ hs) = ap others apart in
    let one = no-size held before h (is_described h.id) refl (All-head IsShortHeader h hs short) (omega (arith, described-append (before ++ h ∷ []) hs)) in
    let number = no-count before h (omega (arith, others-append (before ++ h ∷ []) hs)) in
    ap₂ (λ (s t : Bool). first_refusal (first_damage (where_it s (damage HeaderTooLarge h.id h.offset) ∷ where_it t (damage TooMany h.id h.offset) ∷ [])) (limits_from held (before ++ h ∷ []) hs)) one number
    ∙ none-passed held (before ++ h ∷ []) hs (All-tail IsShortHeader h hs short) (omega arith) (omega arith)
