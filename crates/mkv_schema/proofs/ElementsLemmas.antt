-- The Elements from an offset on, one step at a time.
use Rattle.std.proofs.Common.{◌≡◌, ℕ, zero, suc, ◌+◌, ◌-◌, ◌<◌, ◌≤◌, nat_lt, Bool, true, false, if◌then◌else◌, List, [], ◌∷◌, Option, Some, None, Result, Ok, Err, refl, sym, ◌∙◌, ap, arith}
use Rattle.mkv_io.specs.declared.damage.Damage.{Damage}
use Rattle.mkv_schema.specs.declared.element.Header.{Header}
use Rattle.mkv_schema.specs.Element.{Setting, in_segment, in_master, element_at, end_in, is_unknown}
use Rattle.mkv_schema.specs.Elements.{Run, Next, ends_at, in_front, behind, step, id_of, elements, elements_within}
use Rattle.mkv_schema.specs.Elements.{open_cluster, ends_cluster, end_of_run, behind_in_segment}
use Rattle.mkv_schema.specs.Elements.{ends_segment}
use Rattle.mkv_schema.specs.Order.{AscendFrom, Level1Ascends}
use Rattle.mkv_schema.proofs.ElementLemmas.{element_at-placed}

-- The function `next` gives an offset after the Element's first byte.
pub record Advances (s : Setting) (next : Next) (bytes : List ℕ) (e : ℕ) : Type 0 where
  pub on : (p : ℕ) (h : Header) (q : ℕ) → p < e → element_at s bytes p e ≡ Ok h → next h ≡ Ok q → p < q

-- ---- a larger bound changes nothing

-- The run after an Element is the same if all runs from later offsets are.
behind-same : (p : ℕ) (h : Header) (q : Result ℕ Damage) (f g : ℕ → Run) → ((k : ℕ) → q ≡ Ok k → f k ≡ g k) → behind p h q f ≡ behind p h q g
behind-same p h (Ok k) f g same = ap (in_front h) (same k refl)
behind-same p h (Err d) f g same = refl

step-same : (p : ℕ) (next : Next) (found : Result Header Damage) (f g : ℕ → Run) → ((h : Header) (k : ℕ) → found ≡ Ok h → next h ≡ Ok k → f k ≡ g k) → step p next found f ≡ step p next found g
step-same p next (Err d) f g same = refl
step-same p next (Ok h) f g same = behind-same p h (next h) f g (λ k is. same h k refl is)

if-same : {A : Type 0} (test : Bool) (a b c : A) → b ≡ c → (if test then a else b) ≡ (if test then a else c)
if-same true a b c same = refl
if-same false a b c same = same

-- At the end there are no more Elements.
within-end : (n : ℕ) (s : Setting) (stops : ℕ → Bool) (next : Next) (bytes : List ℕ) (p e : ℕ) → nat_lt p e ≡ false → elements_within n s stops next bytes p e ≡ ends_at p
unfolding elements_within
within-end zero s stops next bytes p e past = refl
within-end (suc n) s stops next bytes p e past = rw past refl

-- A bound of zero lists nothing.
within-zero : (s : Setting) (stops : ℕ → Bool) (next : Next) (bytes : List ℕ) (p e : ℕ) → elements_within zero s stops next bytes p e ≡ ends_at p
unfolding elements_within
within-zero s stops next bytes p e = refl

-- Before the end there is an Element or a damage.
within-more : (n : ℕ) (s : Setting) (stops : ℕ → Bool) (next : Next) (bytes : List ℕ) (p e : ℕ) → nat_lt p e ≡ true → elements_within (suc n) s stops next bytes p e ≡ (if stops (id_of (element_at s bytes p e)) then ends_at p else step p next (element_at s bytes p e) (λ q. elements_within n s stops next bytes q e))
unfolding elements_within
within-more n s stops next bytes p e before_end = rw before_end refl

-- Any two bounds of at least `e - p` give the same run.
within-same : (n m : ℕ) (s : Setting) (stops : ℕ → Bool) (next : Next) (bytes : List ℕ) (p e : ℕ) → Advances s next bytes e → e - p ≤ n → e - p ≤ m → elements_within n s stops next bytes p e ≡ elements_within m s stops next bytes p e
within-same zero m s stops next bytes p e advances few enough =
    within-end zero s stops next bytes p e (grind arith) ∙ sym (within-end m s stops next bytes p e (grind arith))
within-same (suc n) zero s stops next bytes p e advances few enough =
    within-end (suc n) s stops next bytes p e (grind arith) ∙ sym (within-end zero s stops next bytes p e (grind arith))
within-same (suc n) (suc m) s stops next bytes p e advances few enough =
    split (λ k fewer more. within-same n m s stops next bytes k e advances fewer more) (nat_lt p e) refl
  where
    Same : Type 0
    Same = (k : ℕ) → e - k ≤ n → e - k ≤ m → elements_within n s stops next bytes k e ≡ elements_within m s stops next bytes k e

    split : Same → (test : Bool) → nat_lt p e ≡ test → elements_within (suc n) s stops next bytes p e ≡ elements_within (suc m) s stops next bytes p e
    split same false past = within-end (suc n) s stops next bytes p e past ∙ sym (within-end (suc m) s stops next bytes p e past)
    split same true inside =
        let below : p < e = grind arith in
        within-more n s stops next bytes p e inside
        ∙ if-same (stops (id_of (element_at s bytes p e))) (ends_at p) _ _
        (step-same p next (element_at s bytes p e) _ _
        (λ h k found goes. let later = advances.on p h k below found goes in same k (omega arith) (omega arith)))
        ∙ sym (within-more m s stops next bytes p e inside)

-- ---- the two laws of a list of Elements

-- At the end there are no more Elements.
pub elements-end : (s : Setting) (stops : ℕ → Bool) (next : Next) (bytes : List ℕ) (p e : ℕ) → e ≤ p → elements s stops next bytes p e ≡ ends_at p
unfolding elements
elements-end s stops next bytes p e past = within-end (e - p) s stops next bytes p e (grind arith)

-- Before the end there is an Element and a run after it, or a damage, or an ID that ends the list.
pub elements-more : (s : Setting) (stops : ℕ → Bool) (next : Next) (bytes : List ℕ) (p e : ℕ) → Advances s next bytes e → p < e → elements s stops next bytes p e ≡ (if stops (id_of (element_at s bytes p e)) then ends_at p else step p next (element_at s bytes p e) (λ q. elements s stops next bytes q e))
unfolding elements
elements-more s stops next bytes p e advances inside =
    within-same (e - p) (suc (e - p)) s stops next bytes p e advances (omega arith) (omega arith)
    ∙ within-more (e - p) s stops next bytes p e (grind arith)
    ∙ if-same (stops (id_of (element_at s bytes p e))) (ends_at p) _ _
    (step-same p next (element_at s bytes p e) _ _
    (λ h k found goes. let later = advances.on p h k inside found goes in within-same (e - p) (e - k) s stops next bytes k e advances (omega arith) (omega arith)))

-- ---- the end of the Elements

-- If each run with the bound `n` ends at its start or after it, so does each run with the bound `n + 1`.
end_of_more : (n : ℕ) (s : Setting) (stops : ℕ → Bool) (next : Next) (bytes : List ℕ) (p e : ℕ) → Advances s next bytes e → ((k : ℕ) → k ≤ (elements_within n s stops next bytes k e).end) → p ≤ (elements_within (suc n) s stops next bytes p e).end
end_of_more n s stops next bytes p e advances further = split (nat_lt p e) refl
  where
    behind_it : (h : Header) (q : Result ℕ Damage) → element_at s bytes p e ≡ Ok h → p < e → next h ≡ q → p ≤ (behind p h q (λ k. elements_within n s stops next bytes k e)).end
    behind_it h (Err d) found inside goes = omega arith
    behind_it h (Ok k) found inside goes =
        let later = advances.on p h k inside found goes in
        let end = further k in
        omega arith

    goes_on : (found : Result Header Damage) → element_at s bytes p e ≡ found → p < e → p ≤ (step p next found (λ q. elements_within n s stops next bytes q e)).end
    goes_on (Err d) is inside = omega arith
    goes_on (Ok h) is inside = behind_it h (next h) is inside refl

    stopped : (stop : Bool) → p < e → p ≤ (if stop then ends_at p else step p next (element_at s bytes p e) (λ q. elements_within n s stops next bytes q e)).end
    stopped true inside = omega arith
    stopped false inside = goes_on (element_at s bytes p e) refl inside

    split : (test : Bool) → nat_lt p e ≡ test → p ≤ (elements_within (suc n) s stops next bytes p e).end
    split false past = rw (within-end (suc n) s stops next bytes p e past) (omega arith)
    split true inside = rw (within-more n s stops next bytes p e inside) (stopped (stops (id_of (element_at s bytes p e))) (grind arith))

-- A run with any bound ends at or after its start.
end-within : (n : ℕ) (s : Setting) (stops : ℕ → Bool) (next : Next) (bytes : List ℕ) (p e : ℕ) → Advances s next bytes e → p ≤ (elements_within n s stops next bytes p e).end
end-within zero s stops next bytes p e advances = rw (within-zero s stops next bytes p e) (omega arith)
end-within (suc n) s stops next bytes p e advances =
    end_of_more n s stops next bytes p e advances (λ k. end-within n s stops next bytes k e advances)

-- A run of Elements ends at its start or after it.
pub elements-end_of : (s : Setting) (stops : ℕ → Bool) (next : Next) (bytes : List ℕ) (p e : ℕ) → Advances s next bytes e → p ≤ (elements s stops next bytes p e).end
unfolding elements
elements-end_of s stops next bytes p e advances = end-within (e - p) s stops next bytes p e advances

-- ---- the order of the Elements

-- Elements that ascend from `q` ascend from an earlier offset `p` too.
pub AscendFrom-later : (p q : ℕ) (list : List Header) → p ≤ q → AscendFrom q list → AscendFrom p list
AscendFrom-later p q [] later ascends = tt
AscendFrom-later p q (h ∷ hs) later ascends = (omega (arith, ascends.0), ascends.1)

-- If each run with the bound `n` ascends from its start, so does each run with the bound `n + 1`.
ascend_of_more : (n : ℕ) (s : Setting) (stops : ℕ → Bool) (next : Next) (bytes : List ℕ) (p e : ℕ) → Advances s next bytes e → ((k : ℕ) → AscendFrom k (elements_within n s stops next bytes k e).list) → AscendFrom p (elements_within (suc n) s stops next bytes p e).list
ascend_of_more n s stops next bytes p e advances further = split (nat_lt p e) refl
  where
    behind_it : (h : Header) (q : Result ℕ Damage) → element_at s bytes p e ≡ Ok h → p < e → next h ≡ q → AscendFrom p (behind p h q (λ k. elements_within n s stops next bytes k e)).list
    behind_it h (Err d) found inside goes =
        let placed = element_at-placed s bytes p e h (omega arith) found in
        let offset = placed.offset in
        (omega arith, tt)
    behind_it h (Ok k) found inside goes =
        let placed = element_at-placed s bytes p e h (omega arith) found in
        let offset = placed.offset in
        let later = advances.on p h k inside found goes in
        (omega arith, AscendFrom-later (h.offset + 1) k _ (omega arith) (further k))

    goes_on : (found : Result Header Damage) → element_at s bytes p e ≡ found → p < e → AscendFrom p (step p next found (λ q. elements_within n s stops next bytes q e)).list
    goes_on (Err d) is inside = tt
    goes_on (Ok h) is inside = behind_it h (next h) is inside refl

    stopped : (stop : Bool) → p < e → AscendFrom p (if stop then ends_at p else step p next (element_at s bytes p e) (λ q. elements_within n s stops next bytes q e)).list
    stopped true inside = tt
    stopped false inside = goes_on (element_at s bytes p e) refl inside

    split : (test : Bool) → nat_lt p e ≡ test → AscendFrom p (elements_within (suc n) s stops next bytes p e).list
    split false past = rw (within-end (suc n) s stops next bytes p e past) tt
    split true inside = rw (within-more n s stops next bytes p e inside) (stopped (stops (id_of (element_at s bytes p e))) (grind arith))

-- A run with any bound has its Elements in ascending order.
ascend-within : (n : ℕ) (s : Setting) (stops : ℕ → Bool) (next : Next) (bytes : List ℕ) (p e : ℕ) → Advances s next bytes e → AscendFrom p (elements_within n s stops next bytes p e).list
ascend-within zero s stops next bytes p e advances = rw (within-zero s stops next bytes p e) tt
ascend-within (suc n) s stops next bytes p e advances =
    ascend_of_more n s stops next bytes p e advances (λ k. ascend-within n s stops next bytes k e advances)

-- The offsets of the Elements ascend.
pub elements-ascend : (s : Setting) (stops : ℕ → Bool) (next : Next) (bytes : List ℕ) (p e : ℕ) → Advances s next bytes e → AscendFrom p (elements s stops next bytes p e).list
unfolding elements
elements-ascend s stops next bytes p e advances = ascend-within (e - p) s stops next bytes p e advances

-- ---- the lists of this crate advance

-- An Element of known size ends after its first byte.
pub Advances-known : (s : Setting) (bytes : List ℕ) (e : ℕ) → Advances s (λ h. Ok (end_in e h)) bytes e
Advances-known s bytes e = record {
  on = λ p h q before_end found goes.
      let placed = element_at-placed s bytes p e h (omega arith) found in
      let later = placed.later in
      let is : end_in e h ≡ q = cc in
      grind arith;
}

-- The end of an Element of a Segment is after its start, also for a Cluster of unknown size.
pub Advances-segment : (bytes : List ℕ) (e : ℕ) → Advances in_segment (behind_in_segment bytes e) bytes e
Advances-segment bytes e = record {
  on = λ p h q before_end found goes.
      let placed = element_at-placed in_segment bytes p e h (omega arith) found in
      let children = elements-end_of in_master ends_cluster (λ c. Ok (end_in e c)) bytes h.body e (Advances-known in_master bytes e) in
      split h (is_unknown h.size) p q before_end placed.later children goes;
}
  where
    of_run : (run : Run) (found : Option Damage) (q : ℕ) → end_of_run run found ≡ Ok q → run.end ≡ q
    of_run run None q goes = cc
    of_run run (Some d) q goes = absurd (cc)

    split : (h : Header) (unknown : Bool) (p q : ℕ) → p < e → p < h.body → h.body ≤ (open_cluster bytes h.body e).end → (if unknown then end_of_run (open_cluster bytes h.body e) (open_cluster bytes h.body e).damage else Ok (end_in e h)) ≡ Ok q → p < q
    split h true p q before_end later children goes =
        let is = of_run (open_cluster bytes h.body e) (open_cluster bytes h.body e).damage q goes in
        omega arith
    split h false p q before_end later children goes =
        let is : end_in e h ≡ q = cc in
        grind arith

-- So the offsets of the Elements of level 1 ascend.
pub level_1-ascends : Level1Ascends
level_1-ascends bytes size p e =
    elements-ascend in_segment (ends_segment size) (behind_in_segment bytes e) bytes p e (Advances-segment bytes e)
