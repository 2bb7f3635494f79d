-- A written BlockGroup is read as its parts.
use Rattle.std.proofs.Common.{◌≡◌, ℕ, ◌*◌, ◌^◌, ◌<◌, ◌==◌, Bool, true, false, not, ◌||◌, cond, ℤ, List, [], ◌∷◌, ◌++◌, length, map, filter, find, All, IfSome, append-nil, Option, Some, None, refl, ap, ap₂, ◌∙◌, arith}
use Rattle.std.specs.Option.{option_map}
use Rattle.std.proofs.lemmas.Bool.{le-leb}
use Rattle.std.proofs.lemmas.List.Elements.{All-nil, All-cons, All-head, All-tail, All-append, All-map, All-weaker, filter-append}
use Rattle.ebml_numbers.specs.Number.{all_ones, uint_of, uint_octets, int_of, int_octets, magnitude, is_id}
use Rattle.ebml_numbers.proofs.NumberLemmas.{length-uint_octets, uint_of-octets, length-int_octets, int_of-octets}
use Rattle.ebml_numbers.proofs.WidthLemmas.{least_size_width-IsLeast, uint_width-IsLeast, int_width-IsLeast}
use Rattle.mkv_schema.specs.Table.{table}
use Rattle.mkv_schema.specs.Schema.{entry_of}
use Rattle.mkv_schema.specs.declared.ids.TheConstants.{BLOCK_GROUP, BLOCK, BLOCK_DURATION, REFERENCE_BLOCK}
use Rattle.mkv_schema.specs.Value.{is_known_value}
use Rattle.block_format.specs.Block.{nanoseconds}
use Rattle.block_format.specs.Elements.{is_kept}
use Rattle.output_model.specs.Element.{Element, IsElement, element}
use Rattle.output_model.specs.Block.{duration_elements, reference_element}
use Rattle.output_model.specs.Sound.{IsKeptElement}

-- ---- Elements with short headers

pub IsElement-element : (id : ℕ) (body : List ℕ) → is_id id ≡ true → length body < all_ones 8 → IsElement (element id body)
IsElement-element id body valid short =
    let least = least_size_width-IsLeast (length body) short in
    record { id_stands = valid; some = least.some; most = least.most; fits = least.fits }

-- ---- the parts of a group

-- the children of a group; the kept children are Elements
abbrev pub parts : List ℕ → Option ℕ → List ℤ → List Element → List Element
parts content duration references kept = element BLOCK content ∷ (duration_elements duration ++ map reference_element references) ++ kept

-- An ID that is kept is none of the IDs of the other parts.
none-of : (a b c : Bool) (rest : Bool) → not (a || (b || (c || rest))) ≡ true → (a ≡ false) × (b ≡ false) × (c ≡ false)
none-of true b c rest is = absurd (cc)
none-of false true c rest is = absurd (cc)
none-of false false true rest is = absurd (cc)
none-of false false false rest is = (refl, refl, refl)

pub kept-other : (id : ℕ) → is_kept id ≡ true → ((id == BLOCK) ≡ false) × ((id == BLOCK_DURATION) ≡ false) × ((id == REFERENCE_BLOCK) ≡ false)
kept-other id is = none-of (id == BLOCK) (id == BLOCK_DURATION) (id == REFERENCE_BLOCK) _ is

-- ---- lists that pass a test, or don't

filter-all : {X : Type 0} (test : X → Bool) (xs : List X) → All (λ x. test x ≡ true) xs → filter test xs ≡ xs
filter-all test [] pass = refl
filter-all {X = X} test (x ∷ xs) pass =
    ap (λ (b : Bool). cond b (x ∷ filter test xs) (filter test xs)) (All-head (λ (y : X). test y ≡ true) x xs pass)
    ∙ ap (λ ys. x ∷ ys) (filter-all test xs (All-tail (λ (y : X). test y ≡ true) x xs pass))

filter-none : {X : Type 0} (test : X → Bool) (xs : List X) → All (λ x. test x ≡ false) xs → filter test xs ≡ []
filter-none test [] pass = refl
filter-none {X = X} test (x ∷ xs) pass =
    ap (λ (b : Bool). cond b (x ∷ filter test xs) (filter test xs)) (All-head (λ (y : X). test y ≡ false) x xs pass)
    ∙ filter-none test xs (All-tail (λ (y : X). test y ≡ false) x xs pass)

find-none : {X : Type 0} (test : X → Bool) (xs : List X) → All (λ x. test x ≡ false) xs → find test xs ≡ None
find-none test [] pass = refl
find-none {X = X} test (x ∷ xs) pass =
    ap (λ (b : Bool). cond b (Some x) (find test xs)) (All-head (λ (y : X). test y ≡ false) x xs pass)
    ∙ find-none test xs (All-tail (λ (y : X). test y ≡ false) x xs pass)

-- All references have their own ID.
references-pass : (test : ℕ → Bool) (t : Bool) (rs : List ℤ) → test REFERENCE_BLOCK ≡ t → All (λ (d : Element). test d.id ≡ t) (map reference_element rs)
references-pass test t rs is = All-map (λ (d : Element). test d.id ≡ t) reference_element rs (λ k d below. is)

-- ---- the references

pub references-parts : (content : List ℕ) (duration : Option ℕ) (rs : List ℤ) (kept : List Element) → All (λ (d : Element). is_kept d.id ≡ true) kept
    → filter (λ (d : Element). d.id == REFERENCE_BLOCK) (parts content duration rs kept) ≡ map reference_element rs
references-parts content duration rs kept are = front duration ∙ behind
  where
    test : Element → Bool
    test d = d.id == REFERENCE_BLOCK

    behind : filter (λ (d : Element). d.id == REFERENCE_BLOCK) (map reference_element rs ++ kept) ≡ map reference_element rs
    behind =
        filter-append (λ (d : Element). d.id == REFERENCE_BLOCK) (map reference_element rs) kept
        ∙ ap₂ (λ a b. a ++ b) (filter-all (λ (d : Element). d.id == REFERENCE_BLOCK) (map reference_element rs) (references-pass (λ id. id == REFERENCE_BLOCK) true rs refl))
        (filter-none (λ (d : Element). d.id == REFERENCE_BLOCK) kept (All-weaker (λ (d : Element). is_kept d.id ≡ true) (λ (d : Element). (d.id == REFERENCE_BLOCK) ≡ false) (λ d is. (kept-other d.id is).2) kept are))
        ∙ append-nil (map reference_element rs)

    front : (dur : Option ℕ) → filter (λ (d : Element). d.id == REFERENCE_BLOCK) (parts content dur rs kept) ≡ filter (λ (d : Element). d.id == REFERENCE_BLOCK) (map reference_element rs ++ kept)
    front None = refl
    front (Some ticks) = refl

pub references-values : (scale : ℕ) (rs : List ℤ) → All (λ ticks. magnitude ticks < 2 ^ 63) rs
    → map (λ (d : Element). nanoseconds scale (int_of d.body)) (map reference_element rs) ≡ map (nanoseconds scale) rs
references-values scale [] small = refl
references-values scale (r ∷ rs) small =
    ap₂ (λ v vs. v ∷ vs) (ap (nanoseconds scale) (int_of-octets r (All-head (λ ticks. magnitude ticks < 2 ^ 63) r rs small)))
    (references-values scale rs (All-tail (λ ticks. magnitude ticks < 2 ^ 63) r rs small))

-- ---- the duration

pub duration-parts : (scale : ℕ) (content : List ℕ) (duration : Option ℕ) (rs : List ℤ) (kept : List Element) → IfSome duration (λ ticks. ticks < 2 ^ 63) → All (λ (d : Element). is_kept d.id ≡ true) kept
    → option_map (λ (d : Element). uint_of d.body * scale) (find (λ (d : Element). d.id == BLOCK_DURATION) (parts content duration rs kept)) ≡ option_map (λ ticks. ticks * scale) duration
duration-parts scale content None rs kept small are =
    ap (option_map (λ (d : Element). uint_of d.body * scale))
    (find-none (λ (d : Element). d.id == BLOCK_DURATION) (map reference_element rs ++ kept)
    (All-append (λ (d : Element). (d.id == BLOCK_DURATION) ≡ false) (map reference_element rs) kept (references-pass (λ id. id == BLOCK_DURATION) false rs refl)
    (All-weaker (λ (d : Element). is_kept d.id ≡ true) (λ (d : Element). (d.id == BLOCK_DURATION) ≡ false) (λ d is. (kept-other d.id is).1) kept are)))
duration-parts scale content (Some ticks) rs kept small are = ap (λ n. Some (n * scale)) (uint_of-octets ticks (omega arith))

-- ---- kept children

pub kept-parts : (content : List ℕ) (duration : Option ℕ) (rs : List ℤ) (kept : List Element) → All (λ (d : Element). is_kept d.id ≡ true) kept
    → filter (λ (d : Element). is_kept d.id) (parts content duration rs kept) ≡ kept
kept-parts content duration rs kept are = front duration ∙ behind
  where
    behind : filter (λ (d : Element). is_kept d.id) (map reference_element rs ++ kept) ≡ kept
    behind =
        filter-append (λ (d : Element). is_kept d.id) (map reference_element rs) kept
        ∙ ap₂ (λ a b. a ++ b) (filter-none (λ (d : Element). is_kept d.id) (map reference_element rs) (references-pass is_kept false rs refl))
        (filter-all (λ (d : Element). is_kept d.id) kept are)

    front : (dur : Option ℕ) → filter (λ (d : Element). is_kept d.id) (parts content dur rs kept) ≡ filter (λ (d : Element). is_kept d.id) (map reference_element rs ++ kept)
    front None = refl
    front (Some ticks) = refl

-- ---- each part is a valid value

value-duration : (ticks : ℕ) → ticks < 2 ^ 63 → is_known_value BLOCK_GROUP BLOCK_DURATION (uint_octets ticks) ≡ true
unfolding entry_of table
value-duration ticks small = le-leb _ _ (omega (arith, length-uint_octets ticks, (uint_width-IsLeast ticks (omega arith)).most))

value-reference : (ticks : ℤ) → magnitude ticks < 2 ^ 63 → is_known_value BLOCK_GROUP REFERENCE_BLOCK (int_octets ticks) ≡ true
unfolding entry_of table
value-reference ticks small = le-leb _ _ (omega (arith, length-int_octets ticks, (int_width-IsLeast ticks small).most))

value-content : (content : List ℕ) → is_known_value BLOCK_GROUP BLOCK content ≡ true
unfolding entry_of table
value-content content = refl

-- `d` is an Element of a group that is read, and a valid value.
pub record IsPart (d : Element) : Type 0 where
  pub is_element : IsElement d
  pub value : is_known_value BLOCK_GROUP d.id d.body ≡ true

parts-duration : (duration : Option ℕ) → IfSome duration (λ ticks. ticks < 2 ^ 63) → All IsPart (duration_elements duration)
unfolding is_id
parts-duration None small = All-nil IsPart
parts-duration (Some ticks) small =
    let width = (uint_width-IsLeast ticks (omega arith)).most in
    All-cons IsPart (element BLOCK_DURATION (uint_octets ticks)) [] (record {
      is_element = IsElement-element BLOCK_DURATION (uint_octets ticks) refl (omega (arith, length-uint_octets ticks));
      value = value-duration ticks small;
    }) (All-nil IsPart)

parts-references : (rs : List ℤ) → All (λ ticks. magnitude ticks < 2 ^ 63) rs → All IsPart (map reference_element rs)
unfolding is_id
parts-references [] small = All-nil IsPart
parts-references (r ∷ rs) small =
    let low = All-head (λ ticks. magnitude ticks < 2 ^ 63) r rs small in
    let width = (int_width-IsLeast r low).most in
    All-cons IsPart (element REFERENCE_BLOCK (int_octets r)) (map reference_element rs) (record {
      is_element = IsElement-element REFERENCE_BLOCK (int_octets r) refl (omega (arith, length-int_octets r));
      value = value-reference r low;
    }) (parts-references rs (All-tail (λ ticks. magnitude ticks < 2 ^ 63) r rs small))

pub parts-are : (content : List ℕ) (duration : Option ℕ) (rs : List ℤ) (kept : List Element) → length content < all_ones 8 → IfSome duration (λ ticks. ticks < 2 ^ 63) → All (λ ticks. magnitude ticks < 2 ^ 63) rs → All IsKeptElement kept
    → All IsPart (parts content duration rs kept)
unfolding is_id
parts-are content duration rs kept short low small are =
    All-cons IsPart (element BLOCK content) ((duration_elements duration ++ map reference_element rs) ++ kept) (record { is_element = IsElement-element BLOCK content refl short; value = value-content content })
    (All-append IsPart (duration_elements duration ++ map reference_element rs) kept
    (All-append IsPart (duration_elements duration) (map reference_element rs) (parts-duration duration low) (parts-references rs small))
    (All-weaker IsKeptElement IsPart (λ d is. record { is_element = is.element; value = is.value }) kept are))
