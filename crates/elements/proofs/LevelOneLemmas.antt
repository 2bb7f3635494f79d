-- The Elements of level 1, one step at a time.
use Rattle.std.proofs.Common.{◌≡◌, ℕ, ◌<◌, ◌≤◌, true, false, if◌then◌else◌, List, Result, Ok, Err, refl, sym, ◌∙◌, ap}
use Rattle.ebml_numbers.specs.declared.number.Size.{Size}
use Rattle.mkv_io.specs.declared.damage.Damage.{Damage}
use Rattle.mkv_schema.specs.declared.element.Header.{Header}
use Rattle.mkv_schema.specs.Element.{in_segment, element_at}
use Rattle.mkv_schema.specs.Elements.{Run, ends_at, breaks_at, behind, step, id_of, ends_segment, behind_in_segment, level_1}
use Rattle.mkv_schema.proofs.ElementsLemmas.{elements-end, elements-more, Advances-segment}
use Rattle.elements.specs.Steps.{StepsOn}
use Rattle.elements.specs.declared.level_one.Level1Step.TheVariants.{Element}

-- At the end of the Segment there are no more Elements.
pub level_1-end : (bytes : List ℕ) (size : Size) (p e : ℕ) → e ≤ p → level_1 bytes size p e ≡ ends_at p
level_1-end bytes size p e past = elements-end in_segment (ends_segment size) (behind_in_segment bytes e) bytes p e past

-- Before the end, the Element or the damage that is found decides.
at_place : List ℕ → Size → ℕ → ℕ → Result Header Damage → Run
at_place bytes size p e found = if ends_segment size (id_of found) then ends_at p else step p (behind_in_segment bytes e) found (λ q. level_1 bytes size q e)

level_1-step : (bytes : List ℕ) (size : Size) (p e : ℕ) (found : Result Header Damage) → p < e → found ≡ element_at in_segment bytes p e → level_1 bytes size p e ≡ at_place bytes size p e found
unfolding at_place
level_1-step bytes size p e found inside is =
    elements-more in_segment (ends_segment size) (behind_in_segment bytes e) bytes p e (Advances-segment bytes e) inside
    ∙ ap (at_place bytes size p e) (sym is)

-- an ID of level 0 ends a Segment of unknown size
pub level_1-stops : (bytes : List ℕ) (size : Size) (p e : ℕ) (found : Result Header Damage) → p < e → found ≡ element_at in_segment bytes p e → ends_segment size (id_of found) ≡ true → level_1 bytes size p e ≡ ends_at p
unfolding at_place
level_1-stops bytes size p e found inside is stops = level_1-step bytes size p e found inside is ∙ rw stops refl

-- A damage ends the Segment's Elements.
pub level_1-breaks : (bytes : List ℕ) (size : Size) (p e : ℕ) (found : Result Header Damage) (d : Damage) → found ≡ Err d → p < e → found ≡ element_at in_segment bytes p e → ends_segment size (id_of found) ≡ false → level_1 bytes size p e ≡ breaks_at p d
unfolding at_place
level_1-breaks bytes size p e found d damaged inside is goes =
    level_1-step bytes size p e found inside is ∙ rw (goes, damaged) refl

-- If an Element is found, the Elements after it follow.
pub level_1-goes_on : (bytes : List ℕ) (size : Size) (p e : ℕ) (found : Result Header Damage) (h : Header) (next : Result ℕ Damage) → found ≡ Ok h → p < e → found ≡ element_at in_segment bytes p e → ends_segment size (id_of found) ≡ false → next ≡ behind_in_segment bytes e h → StepsOn (Element h next) (level_1 bytes size p e) p (λ q. level_1 bytes size q e)
unfolding at_place
level_1-goes_on bytes size p e found h next whole inside is goes behind_it =
    by_next next
    (level_1-step bytes size p e found inside is ∙ rw (goes, whole) (ap (λ q. behind p h q (λ k. level_1 bytes size k e)) (sym behind_it)))
  where
    by_next : (next : Result ℕ Damage) → level_1 bytes size p e ≡ behind p h next (λ k. level_1 bytes size k e) → StepsOn (Element h next) (level_1 bytes size p e) p (λ q. level_1 bytes size q e)
    by_next (Ok q) same = same
    by_next (Err d) same = same

-- The laws on a step, by the Element or damage that is found.
pub ruleset steps = (level_1-end, level_1-stops, level_1-breaks, level_1-goes_on)
