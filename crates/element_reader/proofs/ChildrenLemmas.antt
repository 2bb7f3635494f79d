-- The children of the EBML header, one step at a time.
use Rattle.std.proofs.Common.{eq-eqb, ◌≡◌, ℕ, ◌<◌, ◌≤◌, ◌==◌, true, false, List, Some, None, Result, Ok, Err, refl, sym, ◌∙◌, ap, arith}
use Rattle.std.proofs.lemmas.Bool.Decides.{nat_tests}
use Rattle.mkv_schema.specs.declared.ids.TheConstants.{EBML}
use Rattle.mkv_io.specs.declared.damage.Damage.{Damage}
use Rattle.mkv_io.specs.declared.damage.Kind.TheVariants.{BadValue}
use Rattle.mkv_schema.specs.declared.element.Header.{Header}
use Rattle.mkv_schema.specs.Element.{in_tree, element_at, damage, end_in}
use Rattle.mkv_schema.specs.Elements.{Run, step, ends_at, never}
use Rattle.mkv_schema.specs.Value.{body_of, is_known_value, first_of}
use Rattle.mkv_schema.proofs.ElementsLemmas.{elements-end, elements-more, Advances-known}
use Rattle.element_reader.specs.EbmlChildren.{children, child_refusal}

-- At the body's end there are no more children.
children-end : (bytes : List ℕ) (p e : ℕ) → e ≤ p → children bytes p e ≡ ends_at p
children-end bytes p e past = elements-end (in_tree EBML) never (λ h. Ok (end_in e h)) bytes p e past

-- Before it, the Element or damage that is found decides.
children-step : (bytes : List ℕ) (p e : ℕ) (found : Result Header Damage) → p < e → found ≡ element_at (in_tree EBML) bytes p e → children bytes p e ≡ step p (λ h. Ok (end_in e h)) found (λ q. children bytes q e)
children-step bytes p e found inside is =
    elements-more (in_tree EBML) never (λ h. Ok (end_in e h)) bytes p e (Advances-known (in_tree EBML) bytes e) inside
    ∙ ap (λ (r : Result Header Damage). step p (λ h. Ok (end_in e h)) r (λ q. children bytes q e)) (sym is)

-- ---- the damage that refuses them

pub child_refusal-end : (bytes : List ℕ) (p e : ℕ) → e ≤ p → child_refusal bytes (children bytes p e) ≡ None
child_refusal-end bytes p e past = ap (child_refusal bytes) (children-end bytes p e past)

pub child_refusal-breaks : (bytes : List ℕ) (p e : ℕ) (d : Damage) → p < e → Err d ≡ element_at (in_tree EBML) bytes p e → child_refusal bytes (children bytes p e) ≡ Some d
child_refusal-breaks bytes p e d inside is = ap (child_refusal bytes) (children-step bytes p e (Err d) inside is)

pub child_refusal-bad : (bytes : List ℕ) (p e : ℕ) (h : Header) → p < e → Ok h ≡ element_at (in_tree EBML) bytes p e → is_known_value EBML h.id (body_of bytes h) ≡ false → child_refusal bytes (children bytes p e) ≡ Some (damage BadValue h.id h.offset)
child_refusal-bad bytes p e h inside is bad =
    ap (child_refusal bytes) (children-step bytes p e (Ok h) inside is) ∙ rw bad refl

pub child_refusal-goes_on : (bytes : List ℕ) (p e : ℕ) (h : Header) → p < e → Ok h ≡ element_at (in_tree EBML) bytes p e → is_known_value EBML h.id (body_of bytes h) ≡ true → child_refusal bytes (children bytes p e) ≡ child_refusal bytes (children bytes (end_in e h) e)
child_refusal-goes_on bytes p e h inside is good =
    ap (child_refusal bytes) (children-step bytes p e (Ok h) inside is) ∙ rw good refl

-- ---- the first with an ID

pub first_child-end : (bytes : List ℕ) (id p e : ℕ) → e ≤ p → first_of id (children bytes p e).list ≡ None
first_child-end bytes id p e past = ap (λ (r : Run). first_of id r.list) (children-end bytes p e past)

pub first_child-breaks : (bytes : List ℕ) (id p e : ℕ) (d : Damage) → p < e → Err d ≡ element_at (in_tree EBML) bytes p e → first_of id (children bytes p e).list ≡ None
first_child-breaks bytes id p e d inside is = ap (λ (r : Run). first_of id r.list) (children-step bytes p e (Err d) inside is)

pub first_child-found : (bytes : List ℕ) (id p e : ℕ) (h : Header) → p < e → Ok h ≡ element_at (in_tree EBML) bytes p e → h.id ≡ id → first_of id (children bytes p e).list ≡ Some h
first_child-found bytes id p e h inside is same =
    let test : (h.id == id) ≡ true = eq-eqb h.id id same in
    ap (λ (r : Run). first_of id r.list) (children-step bytes p e (Ok h) inside is) ∙ rw test refl

pub first_child-goes_on : (bytes : List ℕ) (id p e : ℕ) (h : Header) → p < e → Ok h ≡ element_at (in_tree EBML) bytes p e → (h.id ≡ id → ⊥) → first_of id (children bytes p e).list ≡ first_of id (children bytes (end_in e h) e).list
first_child-goes_on bytes id p e h inside is other =
    let test : (h.id == id) ≡ false = grind (arith, nat_tests) in
    ap (λ (r : Run). first_of id r.list) (children-step bytes p e (Ok h) inside is) ∙ rw test refl
