-- The values of an EBML header.
use Rattle.std.proofs.Common.{◌≡◌, ℕ, ◌≤◌, ◌==◌, min, nat_le, nat_lt, Bool, true, false, not, cond, List, [], ◌∷◌, length, take, Option, Some, None, refl, ◌∙◌, ap, subst, arith}
use Rattle.std.specs.Option.{option_map, option_map_or}
use Rattle.std.specs.List.{find}
use Rattle.std.proofs.lemmas.Grind.{common_steps}
use Rattle.std.proofs.lemmas.Bool.Decides.{nat_tests}
use Rattle.ebml_numbers.specs.Number.{uint_of}
use Rattle.mkv_schema.specs.declared.ids.TheConstants.{EBML, EBML_READ_VERSION, EBML_MAX_ID_LENGTH, EBML_MAX_SIZE_LENGTH, DOC_TYPE_READ_VERSION}
use Rattle.mkv_schema.specs.Table.{table}
use Rattle.mkv_schema.specs.Schema.{entry_of}
use Rattle.mkv_io.specs.declared.damage.Damage.{Damage}
use Rattle.mkv_io.specs.declared.damage.Kind.TheVariants.{BadValue, HeaderTooLarge}
use Rattle.mkv_schema.specs.declared.element.Header.{Header}
use Rattle.mkv_schema.specs.Element.{damage, known}
use Rattle.mkv_schema.specs.Elements.{Run}
use Rattle.mkv_schema.specs.Value.{body_of, is_known_value, first_of, uint_value, uint_in}
use Rattle.mkv_schema.specs.declared.limits.TheConstants.{MAX_HEADER_LEN}
use Rattle.mkv_schema.specs.Outline.{first_damage, bad_value, over, where_it}
use Rattle.element_reader.specs.EbmlChildren.{IsShortValue, child_refusal}

-- If nothing refuses the children, none has a bad value.
no_bad : (bytes : List ℕ) (run : Run) → child_refusal bytes run ≡ None → bad_value bytes EBML run.list ≡ None
no_bad bytes run none = split (bad_value bytes EBML run.list) none
  where
    split : (bad : Option Damage) → first_damage (bad ∷ run.damage ∷ []) ≡ None → bad ≡ None
    split None is = refl
    split (Some d) is = absurd (cc)

-- The first child with an ID is a value of its kind.
known_of : (bytes : List ℕ) (id : ℕ) (list : List Header) (h : Header) → bad_value bytes EBML list ≡ None → first_of id list ≡ Some h → is_known_value EBML id (body_of bytes h) ≡ true
known_of bytes id [] h none first = absurd (cc)
known_of bytes id (k ∷ ks) h none first = split (λ bad is. known_of bytes id ks h bad is) (is_known_value EBML k.id (body_of bytes k)) (k.id == id) refl refl none first
  where
    split : (bad_value bytes EBML ks ≡ None → first_of id ks ≡ Some h → is_known_value EBML id (body_of bytes h) ≡ true) → (known same : Bool) → is_known_value EBML k.id (body_of bytes k) ≡ known → (k.id == id) ≡ same → option_map (λ (x : Header). damage BadValue x.id x.offset) (cond (not known) (Some k) (find (λ x. not (is_known_value EBML x.id (body_of bytes x))) ks)) ≡ None → cond same (Some k) (first_of id ks) ≡ Some h → is_known_value EBML id (body_of bytes h) ≡ true
    split later false same known_is same_is bad is = absurd (cc)
    split later true false known_is same_is bad is = later bad is
    split later true true known_is same_is bad is =
        let this : k ≡ h = cc in
        let its : k.id ≡ id = grind (arith, nat_tests) in
        subst (λ (x : Header). is_known_value EBML id (body_of bytes x) ≡ true) this (subst (λ (n : ℕ). is_known_value EBML n (body_of bytes k) ≡ true) its known_is)

-- So it is short, if its values are.
pub short_of : (bytes : List ℕ) (run : Run) (id : ℕ) (h : Header) → IsShortValue id → child_refusal bytes run ≡ None → first_of id run.list ≡ Some h → length (body_of bytes h) ≤ 8
short_of bytes run id h short none first = short (body_of bytes h) (known_of bytes id run.list h (no_bad bytes run none) first)

-- An integer that isn't empty is the number of its bytes.
pub uint_value-some : (id : ℕ) (octets : List ℕ) → (length octets ≡ 0 → ⊥) → uint_value id octets ≡ uint_of octets
uint_value-some id [] some = absurd (some refl)
uint_value-some id (o ∷ os) some = refl

pub uint_value-none : (id : ℕ) (octets : List ℕ) → length octets ≡ 0 → uint_value id octets ≡ uint_value id []
uint_value-none id [] none = refl
uint_value-none id (o ∷ os) none = absurd (omega arith)

pub take-short : (octets : List ℕ) (n : ℕ) → n ≡ min (length octets) 8 → length octets ≤ 8 → take n octets ≡ octets
take-short octets n is short = grind (arith, common_steps)

-- The integer of an ID is the value of its first Element.
pub uint_in-is : (bytes : List ℕ) (id : ℕ) (list : List Header) (h : Header) (value : ℕ) → Some h ≡ first_of id list → value ≡ uint_value id (body_of bytes h) → value ≡ uint_in bytes id list
uint_in-is bytes id list h value first is =
    is ∙ ap (λ found. option_map_or (λ (k : Header). uint_value id (body_of bytes k)) found (uint_value id [])) first

-- ---- the damage that refuses an EBML header

-- The children refuse it.
pub refused-by_child : (large bad found : Option Damage) (values : List (Option Damage)) (refusal : Damage) → large ≡ None → first_damage (bad ∷ found ∷ []) ≡ Some refusal → first_damage (large ∷ bad ∷ found ∷ values) ≡ Some refusal
refused-by_child (Some x) bad found values refusal few is = absurd (cc)
refused-by_child None (Some x) found values refusal few is = is
refused-by_child None None (Some x) values refusal few is = is
refused-by_child None None None values refusal few is = absurd (cc)

-- Their values refuse it.
pub refused-by_value : (large bad found : Option Damage) (values : List (Option Damage)) → large ≡ None → first_damage (bad ∷ found ∷ []) ≡ None → first_damage (large ∷ bad ∷ found ∷ values) ≡ first_damage values
refused-by_value (Some x) bad found values few is = absurd (cc)
refused-by_value None (Some x) found values few is = absurd (cc)
refused-by_value None None (Some x) values few is = absurd (cc)
refused-by_value None None None values few is = refl

-- A header within the limit isn't refused for its length.
pub over-none : (h : Header) → known h.size ≤ MAX_HEADER_LEN → over MAX_HEADER_LEN h ≡ None
over-none h few = split (nat_lt MAX_HEADER_LEN (known h.size)) (grind (arith, nat_tests))
  where
    split : (test : Bool) → test ≡ false → where_it test (damage HeaderTooLarge h.id h.offset) ≡ None
    split false is = refl
    split true is = absurd (cc)

-- ---- the integers of the EBML header

pub IsShortValue-read_version : IsShortValue EBML_READ_VERSION
unfolding entry_of table
IsShortValue-read_version body is = let most : nat_le (length body) 8 ≡ true = is in grind (arith, nat_tests)

pub IsShortValue-doc_type_read_version : IsShortValue DOC_TYPE_READ_VERSION
unfolding entry_of table
IsShortValue-doc_type_read_version body is = let most : nat_le (length body) 8 ≡ true = is in grind (arith, nat_tests)

pub IsShortValue-max_id_length : IsShortValue EBML_MAX_ID_LENGTH
unfolding entry_of table
IsShortValue-max_id_length body is = let most : nat_le (length body) 8 ≡ true = is in grind (arith, nat_tests)

pub IsShortValue-max_size_length : IsShortValue EBML_MAX_SIZE_LENGTH
unfolding entry_of table
IsShortValue-max_size_length body is = let most : nat_le (length body) 8 ≡ true = is in grind (arith, nat_tests)
