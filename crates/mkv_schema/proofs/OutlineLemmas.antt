-- Laws on results in sequence, and on the limits of an outline.
use Rattle.std.proofs.Common.{◌≡◌, ℕ, List, Option, Some, None, [], ◌∷◌, Result, Ok, Err, refl, ◌∙◌, ap}
use Rattle.mkv_io.specs.declared.damage.Damage.{Damage}
use Rattle.mkv_schema.specs.declared.element.Header.{Header}
use Rattle.mkv_schema.specs.declared.limits.TheConstants.{MAX_HEADER_LEN}
use Rattle.mkv_schema.specs.Outline.{first_damage, over, header_causes, children_causes, header_children, first_element, ebml_header, segment_of, segment_run, limits_from, outlined, within_limits, outline_of}
use Rattle.mkv_io.specs.Results.{and_then, unless}
use Rattle.mkv_schema.specs.WithoutLimits.{header_without_limit, outline_without_limits, LimitsOnlyRefuse}

-- A value of `and_then` was made of a value that was found.
pub and_then-ok : {A B : Type 0} (found : Result A Damage) (more : A → Result B Damage) (y : B) → and_then found more ≡ Ok y → (x : A) × ((found ≡ Ok x) × (more x ≡ Ok y))
and_then-ok (Ok x) more y is = (x, (refl, is))
and_then-ok (Err d) more y is = absurd (cc)

-- If `unless` returns a value, there was no refusal.
pub unless-ok : {A : Type 0} (refusal : Option Damage) (x y : A) → unless refusal x ≡ Ok y → (refusal ≡ None) × (x ≡ y)
unless-ok None x y is = (refl, cc)
unless-ok (Some d) x y is = absurd (cc)

-- If a list of causes has none, neither has its rest.
pub first_damage-rest : (cause : Option Damage) (causes : List (Option Damage)) → first_damage (cause ∷ causes) ≡ None → first_damage causes ≡ None
first_damage-rest None causes none = none
first_damage-rest (Some d) causes none = absurd (cc)

-- A header that is read with a limit is read without one.
header-without_limit : (bytes : List ℕ) (h : Header) → ebml_header bytes ≡ Ok h → header_without_limit bytes ≡ Ok h
unfolding ebml_header
header-without_limit bytes h is =
    let first = and_then-ok (first_element bytes) (λ x. unless (first_damage (header_causes bytes x (header_children bytes x))) x) h is in
    let good = unless-ok (first_damage (header_causes bytes first.0 (header_children bytes first.0))) first.0 h first.1.1 in
    let none = first_damage-rest (over MAX_HEADER_LEN first.0) (children_causes bytes (header_children bytes first.0)) good.0 in
    ap (λ r. and_then r (λ x. unless (first_damage (children_causes bytes (header_children bytes x))) x)) first.1.0
    ∙ ap (λ c. unless c first.0) none ∙ ap (λ x. Ok x) good.1

-- The limits of a reader only refuse files.
pub limits-only_refuse : LimitsOnlyRefuse
unfolding outline_of outline_without_limits
limits-only_refuse held bytes o is =
    let ebml = and_then-ok (ebml_header bytes) (λ h. and_then (segment_of bytes h) (λ s. within_limits held bytes h s)) o is in
    let segment = and_then-ok (segment_of bytes ebml.0) (λ s. within_limits held bytes ebml.0 s) o ebml.1.1 in
    let run = segment_run bytes segment.0 in
    let good = unless-ok (limits_from held [] run.list) (outlined bytes ebml.0 segment.0 run) o segment.1.1 in
    ap (λ r. and_then r (λ h. and_then (segment_of bytes h) (λ s. Ok (outlined bytes h s (segment_run bytes s))))) (header-without_limit bytes ebml.0 ebml.1.0)
    ∙ ap (λ r. and_then r (λ s. Ok (outlined bytes ebml.0 s (segment_run bytes s)))) segment.1.0
    ∙ ap (λ x. Ok x) good.1
