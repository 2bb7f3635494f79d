-- The children of a master whose bytes two contents share.
use Rattle.std.proofs.Common.{inl, inr, ◌≡◌, ◌<◌, ◌≤◌, ℕ, zero, suc, ◌+◌, ◌-◌, nat_lt, ◌==◌, not, Bool, true, false, ◌&&◌, ◌||◌, if◌then◌else◌, List, [], ◌∷◌, length, All, Option, Some, None, Result, Ok, Err, refl, sym, ◌∙◌, ap, subst, arith}
use Rattle.std.specs.Option.{is_some}
use Rattle.std.proofs.lemmas.Bool.{cases_lt, le-ltb}
use Rattle.std.proofs.lemmas.Bool.Decides.{nat_tests}
use Rattle.std.proofs.lemmas.List.Elements.{All-nil, All-cons, All-weaker}
use Rattle.ebml_numbers.specs.declared.number.IdRead.{IdRead}
use Rattle.ebml_numbers.specs.declared.number.NumFault.{NumFault}
use Rattle.ebml_numbers.specs.declared.number.NumFault.TheVariants as fault
use Rattle.ebml_numbers.specs.declared.number.SizeRead.{SizeRead}
use Rattle.ebml_numbers.specs.Number.{size_at}
use Rattle.mkv_io.specs.declared.damage.Damage.{Damage}
use Rattle.mkv_io.specs.declared.damage.Kind.{Kind}
use Rattle.mkv_io.specs.declared.damage.Kind.TheVariants.{TooLong, Truncated, UnknownSize}
use Rattle.mkv_schema.specs.declared.element.Header.{Header}
use Rattle.mkv_schema.specs.Element.{Setting, in_master, octets_between, id_in, cut_header, with_body, with_size, with_id, body_damage, element_in, element_at, is_unknown, stated_end, end_in, may_be_open}
use Rattle.mkv_schema.specs.Elements.{Run, ends_at, in_front, id_of, step, elements}
use Rattle.mkv_schema.proofs.ElementLemmas.{element_at-placed, element_in-whole}
use Rattle.mkv_schema.proofs.ElementsLemmas.{Advances-known, elements-end, elements-more}
use Rattle.edit_laws.proofs.SameLemmas.{AreSame, same-part}

-- ---- one Element

-- Both are the same Element, or damage with the same ID.
abbrev pub AreAlike : Result Header Damage → Result Header Damage → Type 0
AreAlike (Ok g) (Ok h) = g ≡ h
AreAlike (Ok g) (Err d) = ⊥
AreAlike (Err c) (Ok h) = ⊥
AreAlike (Err c) (Err d) = c.id ≡ d.id

cut-id : (total id p end : ℕ) → (cut_header in_master total id p end).id ≡ id
cut-id total id p end = of (nat_lt total end)
  where
    of : (past : Bool) → (λ (d : Damage). d.id) (if not false && past then record { kind = Truncated; id = id; offset = p } else record { kind = TooLong; id = id; offset = p }) ≡ id
    of true = refl
    of false = refl

-- the damage of a body, by five tests. `unknown`: its size is unknown. `past`: it passes the file's end. `may`: its ID may be open somewhere.
-- `last`: its parent ends with the file. `over`: it passes its parent's end.
abbrev judged : Bool → Bool → Bool → Bool → Bool → Option Kind
judged unknown past may last over =
    if unknown && not false then Some UnknownSize else
    if not false && past && (not may || (not false && last)) then Some Truncated else
    if over && not (false && last) then Some TooLong else
    None

wrong-alike : (h : Header) (x y : Bool) → AreAlike (with_body h (if x then Some Truncated else Some TooLong)) (with_body h (if y then Some Truncated else Some TooLong))
wrong-alike h true true = refl
wrong-alike h true false = refl
wrong-alike h false true = refl
wrong-alike h false false = refl

judged-alike : (h : Header) (unknown past past' may last last' over : Bool) → (over ≡ false → past ≡ false) → (over ≡ false → past' ≡ false) → AreAlike (with_body h (judged unknown past may last over)) (with_body h (judged unknown past' may last' over))
judged-alike h true past past' may last last' over one two = refl
judged-alike h false past past' may last last' true one two = wrong-alike h (past && (not may || last)) (past' && (not may || last'))
judged-alike h false true past' may last last' false one two = absurd (let wrong : true ≡ false = one refl in cc)
judged-alike h false false true may last last' false one two = absurd (let wrong : true ≡ false = two refl in cc)
judged-alike h false false false may last last' false one two = refl

body-alike : (total total' e : ℕ) (h : Header) → e ≤ total → e ≤ total' → AreAlike (with_body h (body_damage in_master total e h)) (with_body h (body_damage in_master total' e h))
body-alike total total' e h within within' =
    judged-alike h (is_unknown h.size) (nat_lt total (stated_end h)) (nat_lt total' (stated_end h)) (may_be_open h.id) (e == total) (e == total') (nat_lt e (stated_end h))
    (λ is. let inside : stated_end h ≤ e = grind (arith, nat_tests) in le-ltb _ _ (omega arith))
    (λ is. let inside : stated_end h ≤ e = grind (arith, nat_tests) in le-ltb _ _ (omega arith))

size-alike : (total total' p e id at : ℕ) (read : Result SizeRead NumFault) → e ≤ total → e ≤ total' → AreAlike (with_size in_master total p e id at read) (with_size in_master total' p e id at read)
size-alike total total' p e id at (Err (fault.More n)) within within' = cut-id total id p (at + n) ∙ sym (cut-id total' id p (at + n))
size-alike total total' p e id at (Err fault.Bad) within within' = refl
size-alike total total' p e id at (Ok size) within within' = body-alike total total' e (record { id = id; offset = p; body = at + size.len; size = size.size }) within within'

id-alike : (o : List ℕ) (total total' p e : ℕ) (read : Result IdRead NumFault) → e ≤ total → e ≤ total' → AreAlike (with_id in_master o total p e read) (with_id in_master o total' p e read)
id-alike o total total' p e (Err fault.Bad) within within' = refl
id-alike o total total' p e (Err (fault.More n)) within within' = cut-id total 0 p (p + n + 1) ∙ sym (cut-id total' 0 p (p + n + 1))
id-alike o total total' p e (Ok id) within within' = size-alike total total' p e id.id (p + id.len) (size_at _) within within'

in-alike : (o : List ℕ) (total total' p e : ℕ) → e ≤ total → e ≤ total' → AreAlike (element_in in_master o total p e) (element_in in_master o total' p e)
unfolding element_in
in-alike o total total' p e within within' = id-alike o total total' p e (id_in in_master o) within within'

-- A child of a master that ends within both contents.
pub element-alike : (a b : List ℕ) (p e : ℕ) → e ≤ length a → e ≤ length b → AreSame a b p e → AreAlike (element_at in_master a p e) (element_at in_master b p e)
element-alike a b p e within within' same =
    subst (λ o. AreAlike (element_at in_master a p e) (element_in in_master o (length b) p e)) (sym same)
    (in-alike (octets_between a p e) (length a) (length b) p e within within')

-- ---- a run of Elements

-- Both runs have the same Elements and the same end, and both have damage or none.
pub record AreAlikeRuns (x y : Run) : Type 0 where
  pub list : x.list ≡ y.list
  pub damage : is_some x.damage ≡ is_some y.damage
  pub end : x.end ≡ y.end

abbrev children : (ℕ → Bool) → List ℕ → ℕ → ℕ → Run
children stops bytes p e = elements in_master stops (λ h. Ok (end_in e h)) bytes p e

front-alike : (h : Header) (x y : Run) → AreAlikeRuns x y → AreAlikeRuns (in_front h x) (in_front h y)
front-alike h x y alike = record { list = ap (λ l. h ∷ l) alike.list; damage = alike.damage; end = alike.end }

step-alike : (stops : ℕ → Bool) (a b : List ℕ) (p e : ℕ) (f g : ℕ → Run) (x y : Result Header Damage) → AreAlike x y → ((h : Header) → x ≡ Ok h → AreAlikeRuns (f (end_in e h)) (g (end_in e h)))
    → AreAlikeRuns (if stops (id_of x) then ends_at p else step p (λ h. Ok (end_in e h)) x f) (if stops (id_of y) then ends_at p else step p (λ h. Ok (end_in e h)) y g)
step-alike stops a b p e f g (Ok h) (Ok k) alike further = subst (λ x. AreAlikeRuns (if stops h.id then ends_at p else in_front h (f (end_in e h))) (if stops x.id then ends_at p else in_front x (g (end_in e x)))) alike (of (stops h.id))
  where
    of : (stop : Bool) → AreAlikeRuns (if stop then ends_at p else in_front h (f (end_in e h))) (if stop then ends_at p else in_front h (g (end_in e h)))
    of true = record { list = refl; damage = refl; end = refl }
    of false = front-alike h (f (end_in e h)) (g (end_in e h)) (further h refl)
step-alike stops a b p e f g (Ok h) (Err d) alike further = absurd alike
step-alike stops a b p e f g (Err c) (Ok k) alike further = absurd alike
step-alike stops a b p e f g (Err c) (Err d) alike further = of (stops c.id) (stops d.id) (ap stops alike)
  where
    of : (s t : Bool) → s ≡ t → AreAlikeRuns (if s then ends_at p else record { list = []; damage = Some c; end = p }) (if t then ends_at p else record { list = []; damage = Some d; end = p })
    of true true same = record { list = refl; damage = refl; end = refl }
    of true false same = absurd (cc)
    of false true same = absurd (cc)
    of false false same = record { list = refl; damage = refl; end = refl }

alike-past : (stops : ℕ → Bool) (a b : List ℕ) (p e : ℕ) → e ≤ p → AreAlikeRuns (children stops a p e) (children stops b p e)
alike-past stops a b p e past =
    rw (elements-end in_master stops (λ h. Ok (end_in e h)) a p e past, elements-end in_master stops (λ h. Ok (end_in e h)) b p e past)
    (record { list = refl; damage = refl; end = refl })

alike-within : (n : ℕ) (stops : ℕ → Bool) (a b : List ℕ) (p e : ℕ) → e - p ≤ n → e ≤ length a → e ≤ length b → AreSame a b p e → AreAlikeRuns (children stops a p e) (children stops b p e)
alike-within zero stops a b p e few within within' same = alike-past stops a b p e (omega arith)
alike-within (suc n) stops a b p e few within within' same =
    elim (cases_lt p e) [
      | inl inside ↦
          rw (
            elements-more in_master stops (λ h. Ok (end_in e h)) a p e (Advances-known in_master a e) inside,
            elements-more in_master stops (λ h. Ok (end_in e h)) b p e (Advances-known in_master b e) inside,
          )
          (step-alike stops a b p e (λ q. children stops a q e) (λ q. children stops b q e) (element_at in_master a p e) (element_at in_master b p e)
          (element-alike a b p e within within' same)
          (λ h found. let placed = element_at-placed in_master a p e h (omega arith) found in
          let later = placed.later in
          let end : p < end_in e h = grind arith in
          alike-within n stops a b (end_in e h) e (omega arith) within within' (same-part a b p e (end_in e h) e (omega arith) (omega arith) (omega arith) same)))
      | inr past ↦ alike-past stops a b p e past
    ]

-- The children of a body that two contents share are the same in both.
pub runs-alike : (stops : ℕ → Bool) (a b : List ℕ) (p e : ℕ) → e ≤ length a → e ≤ length b → AreSame a b p e → AreAlikeRuns (children stops a p e) (children stops b p e)
runs-alike stops a b p e within within' same = alike-within (e - p) stops a b p e (omega arith) within within' same

-- ---- Elements inside a body

-- The header and the body of `h` are between `p` and `e`.
pub record StandsInside (p e : ℕ) (h : Header) : Type 0 where
  pub from : p ≤ h.offset
  pub header : h.offset < h.body
  pub to : stated_end h ≤ e

inside-later : (p q e : ℕ) (h : Header) → p ≤ q → StandsInside q e h → StandsInside p e h
inside-later p q e h later inside = let from = inside.from in record { from = omega arith; header = inside.header; to = inside.to }

-- No Element may be open.
module _ (s : Setting) (shut : (id : ℕ) → s.may_open id ≡ false) (stops : ℕ → Bool) (bytes : List ℕ) (e : ℕ) where
  inside-past : (p : ℕ) → e ≤ p → All (StandsInside p e) (elements s stops (λ h. Ok (end_in e h)) bytes p e).list
  inside-past p past = rw (elements-end s stops (λ h. Ok (end_in e h)) bytes p e past) (All-nil (StandsInside p e))

  inside-within : (n p : ℕ) → e - p ≤ n → All (StandsInside p e) (elements s stops (λ h. Ok (end_in e h)) bytes p e).list
  inside-within zero p few = inside-past p (omega arith)
  inside-within (suc n) p few =
      elim (cases_lt p e) [
        | inl inside ↦ rw (elements-more s stops (λ h. Ok (end_in e h)) bytes p e (Advances-known s bytes e) inside) (stopped inside (λ k later. inside-within n k (omega arith)) (stops (id_of (element_at s bytes p e))))
        | inr past ↦ inside-past p past
      ]
    where
      goes_on : p < e → ((k : ℕ) → p < k → All (StandsInside k e) (elements s stops (λ h. Ok (end_in e h)) bytes k e).list) → (found : Result Header Damage) → element_at s bytes p e ≡ found
          → All (StandsInside p e) (step p (λ h. Ok (end_in e h)) found (λ q. elements s stops (λ h. Ok (end_in e h)) bytes q e)).list
      goes_on inside further (Err d) is = All-nil (StandsInside p e)
      goes_on inside further (Ok h) is =
          let placed = element_at-placed s bytes p e h (omega arith) is in
          let whole = element_in-whole s (octets_between bytes p e) (length bytes) p e h is in
          let at = placed.offset in let later = placed.later in let ends = whole.inside (shut h.id) in
          let end : p < end_in e h = grind arith in
          All-cons (StandsInside p e) h _ (record { from = omega arith; header = omega arith; to = ends })
          (All-weaker (StandsInside (end_in e h) e) (StandsInside p e) (λ k is. inside-later p (end_in e h) e k (omega arith) is) _ (further (end_in e h) end))

      stopped : p < e → ((k : ℕ) → p < k → All (StandsInside k e) (elements s stops (λ h. Ok (end_in e h)) bytes k e).list) → (stop : Bool)
          → All (StandsInside p e) (if stop then ends_at p else step p (λ h. Ok (end_in e h)) (element_at s bytes p e) (λ q. elements s stops (λ h. Ok (end_in e h)) bytes q e)).list
      stopped inside further true = All-nil (StandsInside p e)
      stopped inside further false = goes_on inside further (element_at s bytes p e) refl

  -- Each child is inside its master's body.
  pub run-inside : (p : ℕ) → All (StandsInside p e) (elements s stops (λ h. Ok (end_in e h)) bytes p e).list
  run-inside p = inside-within (e - p) p (omega arith)
