-- Laws on a text that is divided into lines: one more line, and the line at an index.
use Rattle.std.proofs.Common.{◌≡◌, ◌⊎◌, inl, inr, ℕ, zero, suc, ◌+◌, ◌-◌, ◌<◌, ◌≤◌, List, [], ◌∷◌, ◌++◌, length, length-append, get_or, Some, None, slice_get, refl, sym, ◌∙◌, ap, subst, arith, add-one}
use Rattle.std.proofs.lemmas.Grind.{common_steps}
use Rattle.std.proofs.lemmas.List.{get_or_append_left}
use Rattle.std.proofs.Math.Seq.{get_or-append_seam}
use Rattle.std.specs.List.{slice_range}
use Rattle.std.specs.Str.{IsCharBoundary, IsUtf8}
use Rattle.std.proofs.lemmas.Str.{IsCharBoundary-at_seam, IsCharBoundary-end}
use Rattle.mkv_memory.specs.Cuts.{AreBoundaries, AreOrdered, EndAt, lines_between, lines_from}

-- ---- the line at an index

lines_from-past : (text : List ℕ) (start : ℕ) (ends : List ℕ) (k : ℕ) → length ends ≤ k → slice_get (lines_from text start ends) k ≡ None
lines_from-past text start [] k past = refl
lines_from-past text start (end ∷ ends) zero past = absurd (omega arith)
lines_from-past text start (end ∷ ends) (suc k) past = lines_from-past text end ends k (omega arith)

lines_from-at : (text : List ℕ) (start : ℕ) (ends : List ℕ) (k : ℕ) → k < length ends → slice_get (lines_from text start ends) k ≡ Some (slice_range text (get_or (start ∷ ends) k 0) (get_or ends k 0))
lines_from-at text start [] k within = absurd (omega arith)
lines_from-at text start (end ∷ ends) zero within = refl
lines_from-at text start (end ∷ ends) (suc k) within = lines_from-at text end ends k (omega arith)

-- There are fewer lines than offsets.
pub line-past : (text cuts : List ℕ) (k : ℕ) → 0 < length cuts → length cuts - 1 ≤ k → slice_get (lines_between text cuts) k ≡ None
line-past text [] k some past = refl
line-past text (start ∷ ends) k some past = lines_from-past text start ends k (omega arith)

-- A line reaches from its offset to the next.
pub line-at : (text cuts : List ℕ) (k : ℕ) → k + 1 < length cuts → slice_get (lines_between text cuts) k ≡ Some (slice_range text (get_or cuts k 0) (get_or cuts (k + 1) 0))
line-at text [] k within = absurd (omega arith)
line-at text (start ∷ ends) k within = rw add-one (lines_from-at text start ends k (omega arith))

-- ---- one more line

-- A part of a text stays if more text follows.
slice_range-append : (text more : List ℕ) (start end : ℕ) → end ≤ length text → slice_range (text ++ more) start end ≡ slice_range text start end
slice_range-append text more start end within = grind (arith, common_steps)

-- The part after the end of a text is what was appended.
slice_range-rest : (text more : List ℕ) → slice_range (text ++ more) (length text) (length text + length more) ≡ more
slice_range-rest text more = grind (arith, common_steps)

lines_from-pushed : (text more : List ℕ) (start : ℕ) (ends : List ℕ) → get_or (start ∷ ends) (length ends) 0 ≡ length text → ((k : ℕ) → k < length ends → get_or ends k 0 ≤ length text) → lines_from (text ++ more) start (ends ++ (length text + length more) ∷ []) ≡ lines_from text start ends ++ more ∷ []
lines_from-pushed text more start [] last within =
    ap (λ line. line ∷ []) (ap (λ from. slice_range (text ++ more) from (length text + length more)) last ∙ slice_range-rest text more)
lines_from-pushed text more start (end ∷ ends) last within =
    ap (λ line. line ∷ lines_from (text ++ more) end (ends ++ (length text + length more) ∷ [])) (slice_range-append text more start end (within zero (omega arith)))
    ∙ ap (λ rest. slice_range text start end ∷ rest) (lines_from-pushed text more end ends last (λ k below. within (suc k) (omega arith)))

-- A text and its offsets with a line appended have one more line.
pub lines_between-pushed : (text more cuts : List ℕ) → EndAt cuts (length text) → AreBoundaries text cuts → lines_between (text ++ more) (cuts ++ (length text + length more) ∷ []) ≡ lines_between text cuts ++ more ∷ []
lines_between-pushed text more [] end boundaries = absurd (let some = end.0 in omega arith)
lines_between-pushed text more (start ∷ ends) end boundaries =
    let count : length (start ∷ ends) - 1 ≡ length ends = omega arith in
    lines_from-pushed text more start ends (rw count at end.1) (λ k below. (boundaries (suc k) (omega arith)).0)

-- ---- properties that the offsets keep

-- An offset is before the end, or at the end.
before_or_at : (i n : ℕ) → i ≤ n → (i < n) ⊎ (i ≡ n)
before_or_at i n within = grind arith

-- A character boundary stays one if text follows.
IsCharBoundary-append : (text more : List ℕ) (i : ℕ) → IsUtf8 more → IsCharBoundary text i → IsCharBoundary (text ++ more) i
IsCharBoundary-append text more i utf8 here =
    elim (before_or_at i (length text) here.0) [
      | inl before ↦ (omega (arith, length-append text more), λ _ high. rw (get_or_append_left text more 0 i before) (here.1 before (rw (get_or_append_left text more 0 i before) at high)))
      | inr at ↦ subst (λ place. IsCharBoundary (text ++ more) place) (sym at) (IsCharBoundary-at_seam (text ++ more) text more refl utf8)
    ]

-- One more offset is before the last, or is the last.
within_or_last : (cuts : List ℕ) (end k : ℕ) → k < length (cuts ++ end ∷ []) → ((k < length cuts) × (get_or (cuts ++ end ∷ []) k 0 ≡ get_or cuts k 0)) ⊎ ((k ≡ length cuts) × (get_or (cuts ++ end ∷ []) k 0 ≡ end))
within_or_last cuts end k below =
    let count : k ≤ length cuts = omega (arith, length-append cuts (end ∷ [])) in
    elim (before_or_at k (length cuts) count) [
      | inl before ↦ inl (before, get_or_append_left cuts (end ∷ []) 0 k before)
      | inr at ↦ inr (at, ap (λ place. get_or (cuts ++ end ∷ []) place 0) at ∙ get_or-append_seam cuts end [] 0)
    ]

pub AreBoundaries-pushed : (text more cuts : List ℕ) → IsUtf8 more → AreBoundaries text cuts → AreBoundaries (text ++ more) (cuts ++ (length text + length more) ∷ [])
AreBoundaries-pushed text more cuts utf8 boundaries k below =
    let P : ℕ → Type 0 = λ place. IsCharBoundary (text ++ more) place in
    elim (within_or_last cuts (length text + length more) k below) [
      | inl before ↦ subst P (sym before.1) (IsCharBoundary-append text more (get_or cuts k 0) utf8 (boundaries k before.0))
      | inr last ↦ subst P (sym (last.1 ∙ sym (length-append text more))) (IsCharBoundary-end (text ++ more))
    ]

pub AreOrdered-pushed : (text cuts : List ℕ) (n : ℕ) → AreBoundaries text cuts → AreOrdered cuts → AreOrdered (cuts ++ (length text + n) ∷ [])
AreOrdered-pushed text cuts n boundaries ordered k below =
    let here = get_or_append_left cuts ((length text + n) ∷ []) 0 k (omega (arith, length-append cuts ((length text + n) ∷ []))) in
    elim (within_or_last cuts (length text + n) (k + 1) below) [
      | inl before ↦ rw here (rw before.1 (ordered k before.0))
      | inr last ↦ let within = (boundaries k (let at = last.0 in omega arith)).0 in rw here (rw last.1 (omega arith))
    ]

pub EndAt-pushed : (cuts : List ℕ) (end : ℕ) → EndAt (cuts ++ end ∷ []) end
EndAt-pushed cuts end =
    let count : length (cuts ++ end ∷ []) - 1 ≡ length cuts = omega (arith, length-append cuts (end ∷ [])) in
    (omega (arith, length-append cuts (end ∷ [])), ap (λ k. get_or (cuts ++ end ∷ []) k 0) count ∙ get_or-append_seam cuts end [] 0)

-- The offsets divide the text into lines.
pub record IsCut (text cuts : List ℕ) : Type 0 where
  pub boundaries : AreBoundaries text cuts
  pub ordered : AreOrdered cuts
  pub end : EndAt cuts (length text)

-- The text and its offsets have one more line.
pub record GrowsBy (text now cuts places line : List ℕ) : Type 0 where
  pub text_is : now ≡ text ++ line
  pub cuts_are : places ≡ cuts ++ (length text + length line) ∷ []

pub IsCut-grown : (text now cuts places line : List ℕ) → GrowsBy text now cuts places line → IsUtf8 line → IsCut text cuts → IsCut now places
IsCut-grown text now cuts places line grows utf8 cut =
    let P : List ℕ → Type 0 = λ each. IsCut each places in
    let Q : List ℕ → Type 0 = λ each. IsCut (text ++ line) each in
    subst P (sym grows.text_is) (subst Q (sym grows.cuts_are) (record {
      boundaries = AreBoundaries-pushed text line cuts utf8 cut.boundaries;
      ordered = AreOrdered-pushed text cuts (length line) cut.boundaries cut.ordered;
      end = rw (length-append text line) (EndAt-pushed cuts (length text + length line));
    }))

pub lines_between-grown : (text now cuts places line : List ℕ) → GrowsBy text now cuts places line → IsCut text cuts → lines_between now places ≡ lines_between text cuts ++ line ∷ []
lines_between-grown text now cuts places line grows cut =
    ap (λ each. lines_between each places) grows.text_is ∙ ap (lines_between (text ++ line)) grows.cuts_are
    ∙ lines_between-pushed text line cuts cut.end cut.boundaries
