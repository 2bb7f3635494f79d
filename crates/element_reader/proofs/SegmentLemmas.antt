-- The search for the Segment, one step at a time.
use Rattle.std.proofs.lemmas.Bool.Decides.{nat_tests}
use Rattle.std.proofs.Common.{eq-eqb, ◌≡◌, ℕ, ◌<◌, ◌≤◌, ◌==◌, nat_lt, Bool, true, false, if◌then◌else◌, List, ◌∷◌, length, Option, Some, None, Result, Ok, Err, refl, sym, ◌∙◌, ap, arith}
use Rattle.mkv_schema.specs.declared.ids.TheConstants.{SEGMENT}
use Rattle.mkv_io.specs.declared.damage.Damage.{Damage}
use Rattle.mkv_io.specs.declared.damage.Kind.TheVariants.{NoSegment}
use Rattle.mkv_schema.specs.declared.element.Header.{Header}
use Rattle.mkv_schema.specs.Element.{at_level_0, element_at, damage, end_in}
use Rattle.mkv_schema.specs.Elements.{Run, ends_at, step, id_of}
use Rattle.mkv_schema.specs.Outline.{before_segment}
use Rattle.mkv_schema.proofs.ElementsLemmas.{elements-end, elements-more, Advances-known}
use Rattle.element_reader.specs.Segment.{segment_or_damage, segment_from}

-- At the end of the file there is none.
pub segment_from-end : (bytes : List ℕ) (p : ℕ) → length bytes ≤ p → segment_from bytes p ≡ Err (damage NoSegment 0 (length bytes))
segment_from-end bytes p past =
    ap (segment_or_damage bytes) (elements-end at_level_0 (λ id. id == SEGMENT) (λ h. Ok (end_in (length bytes) h)) bytes p (length bytes) past)
    ∙ nothing (nat_lt p (length bytes)) (grind arith)
  where
    nothing : (test : Bool) → test ≡ false → (if test then element_at at_level_0 bytes p (length bytes) else Err (damage NoSegment 0 (length bytes))) ≡ Err (damage NoSegment 0 (length bytes))
    nothing true is = absurd (cc)
    nothing false is = refl

-- Before it, the Element or damage that is found decides.
at_place : List ℕ → ℕ → Result Header Damage → Run
at_place bytes p found = if id_of found == SEGMENT then ends_at p else step p (λ h. Ok (end_in (length bytes) h)) found (λ q. before_segment bytes q)

segment_from-step : (bytes : List ℕ) (p : ℕ) (found : Result Header Damage) → p < length bytes → found ≡ element_at at_level_0 bytes p (length bytes) → segment_from bytes p ≡ segment_or_damage bytes (at_place bytes p found)
unfolding at_place
segment_from-step bytes p found inside is =
    ap (segment_or_damage bytes)
    (elements-more at_level_0 (λ id. id == SEGMENT) (λ h. Ok (end_in (length bytes) h)) bytes p (length bytes) (Advances-known at_level_0 bytes (length bytes)) inside
    ∙ ap (at_place bytes p) (sym is))

-- The Segment itself, or its damage.
pub segment_from-found : (bytes : List ℕ) (p : ℕ) (found : Result Header Damage) → p < length bytes → found ≡ element_at at_level_0 bytes p (length bytes) → id_of found ≡ SEGMENT → segment_from bytes p ≡ found
unfolding at_place
segment_from-found bytes p found inside is segment =
    let test : (id_of found == SEGMENT) ≡ true = eq-eqb (id_of found) SEGMENT segment in
    segment_from-step bytes p found inside is ∙ rw test (here (nat_lt p (length bytes)) (grind arith)) ∙ sym is
  where
    here : (test : Bool) → test ≡ true → (if test then element_at at_level_0 bytes p (length bytes) else Err (damage NoSegment 0 (length bytes))) ≡ element_at at_level_0 bytes p (length bytes)
    here true is = refl
    here false is = absurd (cc)

-- A damage before it.
pub segment_from-breaks : (bytes : List ℕ) (p : ℕ) (d : Damage) → p < length bytes → Err d ≡ element_at at_level_0 bytes p (length bytes) → (id_of (Err d) ≡ SEGMENT → ⊥) → segment_from bytes p ≡ Err d
unfolding at_place
segment_from-breaks bytes p d inside is other =
    let test : (d.id == SEGMENT) ≡ false = grind (arith, nat_tests) in
    segment_from-step bytes p (Err d) inside is ∙ rw test refl

-- Another Element, which is skipped.
pub segment_from-goes_on : (bytes : List ℕ) (p : ℕ) (h : Header) → p < length bytes → Ok h ≡ element_at at_level_0 bytes p (length bytes) → (id_of (Ok h) ≡ SEGMENT → ⊥) → segment_from bytes p ≡ segment_from bytes (end_in (length bytes) h)
unfolding at_place
segment_from-goes_on bytes p h inside is other =
    let test : (h.id == SEGMENT) ≡ false = grind (arith, nat_tests) in
    segment_from-step bytes p (Ok h) inside is ∙ rw test (skipped (before_segment bytes (end_in (length bytes) h)))
  where
    skipped : (run : Run) → segment_or_damage bytes (record { list = h ∷ run.list; damage = run.damage; end = run.end }) ≡ segment_or_damage bytes run
    skipped run = by_damage run.damage
      where
        by_damage : (d : Option Damage) → segment_or_damage bytes (record { list = h ∷ run.list; damage = d; end = run.end }) ≡ segment_or_damage bytes (record { list = run.list; damage = d; end = run.end })
        by_damage None = refl
        by_damage (Some d) = refl

-- The laws on a step at level 0, by the Element or damage that is found.
pub ruleset ways = (segment_from-end, segment_from-found, segment_from-breaks, segment_from-goes_on)
