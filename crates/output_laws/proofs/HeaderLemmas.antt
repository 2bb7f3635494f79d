-- The EBML header of an output is read.
use Rattle.std.proofs.Common.{◌≡◌, ℕ, ◌+◌, ◌==◌, nat_eq, nat_lt, not, Bool, true, false, if◌then◌else◌, List, [], ◌∷◌, ◌++◌, length, length-append, find, All, Option, Some, None, Ok, Err, refl, sym, ap, ◌∙◌, arith}
use Rattle.std.specs.Prelude.{unwrap_or}
use Rattle.std.specs.List.{AllZip, starts_with}
use Rattle.std.specs.Option.{option_map, option_map_or}
use Rattle.std.specs.Str.{is_utf8, chars}
use lib.Utf8.{encode}
use Rattle.std.proofs.lemmas.List.Elements.{All-from_recursion}
use Rattle.ebml_numbers.specs.Number.{is_id, uint_width, least_size_width}
use Rattle.mkv_schema.specs.Table.{table}
use Rattle.mkv_schema.specs.Schema.{entry_of, uint_default, text_default}
use Rattle.mkv_io.specs.declared.damage.Damage.{Damage}
use Rattle.mkv_io.specs.declared.damage.Kind.TheVariants.{NotEbml}
use Rattle.mkv_schema.specs.declared.ids.TheConstants.{EBML, EBML_VERSION, DOC_TYPE, DOC_TYPE_VERSION, EBML_READ_VERSION, DOC_TYPE_READ_VERSION, EBML_MAX_ID_LENGTH, EBML_MAX_SIZE_LENGTH}
use Rattle.mkv_schema.specs.declared.element.Header.{Header}
use Rattle.mkv_schema.specs.Element.{at_level_0, in_tree, element_at, damage}
use Rattle.mkv_schema.specs.Elements.{Run}
use Rattle.mkv_schema.specs.Value.{body_of, is_known_value, first_of, uint_value, text_of}
use Rattle.mkv_schema.specs.Outline.{first_damage, where_it, bad_value, is_doc_type, ebml_mark, children_causes, header_children, first_element}
use Rattle.mkv_io.specs.Results.{unless, and_then}
use Rattle.mkv_schema.specs.WithoutLimits.{header_without_limit}
use Rattle.output_model.specs.Element.{Element, IsElement, HoldsAt, element, uint_element, header_of, octets_of, joined, header_in_place, headers_in_place}
use Rattle.output_model.proofs.HeldLemmas.{held-between}
use Rattle.output_model.proofs.ReadLemmas.{element_at-read, stands-body, children-all}
use Rattle.output_model.proofs.AskedLemmas.{IsRead, headers-read, first_of-read, find-none}
use Rattle.output_laws.proofs.GroupLemmas.{IsElement-element}
use Rattle.output_model.specs.Document.{doc_type, ebml_element}
use Rattle.lemmas.proofs.PlainLemmas.{map-or as map_or-is}

-- ---- both headers, computed

abbrev ebml_children : Bool → List Element
ebml_children webm =
    uint_element EBML_VERSION 1 ∷ uint_element EBML_READ_VERSION 1
    ∷ uint_element EBML_MAX_ID_LENGTH 4 ∷ uint_element EBML_MAX_SIZE_LENGTH 8
    ∷ element DOC_TYPE (doc_type webm) ∷ uint_element DOC_TYPE_VERSION 4 ∷ uint_element DOC_TYPE_READ_VERSION 2 ∷ []

record Computes (webm : Bool) : Type 0 where
  starts : (tail : List ℕ) → starts_with nat_eq (octets_of (ebml_element webm) ++ tail) ebml_mark ≡ true
  is_element : IsElement (ebml_element webm)
  are : All IsElement (ebml_children webm)
  values : All (λ (d : Element). is_known_value EBML d.id d.body ≡ true) (ebml_children webm)
  type_known : is_doc_type (option_map_or (λ (d : Element). Some (text_of d.body)) (find (λ (d : Element). d.id == DOC_TYPE) (ebml_children webm)) (text_default DOC_TYPE)) ≡ true
  read_version : nat_lt 1 (option_map_or (λ (d : Element). uint_value EBML_READ_VERSION d.body) (find (λ (d : Element). d.id == EBML_READ_VERSION) (ebml_children webm)) (unwrap_or (uint_default EBML_READ_VERSION) 0)) ≡ false
  type_version : nat_lt 4 (option_map_or (λ (d : Element). uint_value DOC_TYPE_READ_VERSION d.body) (find (λ (d : Element). d.id == DOC_TYPE_READ_VERSION) (ebml_children webm)) (unwrap_or (uint_default DOC_TYPE_READ_VERSION) 0)) ≡ false
  id_length : nat_lt 4 (option_map_or (λ (d : Element). uint_value EBML_MAX_ID_LENGTH d.body) (find (λ (d : Element). d.id == EBML_MAX_ID_LENGTH) (ebml_children webm)) (unwrap_or (uint_default EBML_MAX_ID_LENGTH) 0)) ≡ false
  size_length : nat_lt 8 (option_map_or (λ (d : Element). uint_value EBML_MAX_SIZE_LENGTH d.body) (find (λ (d : Element). d.id == EBML_MAX_SIZE_LENGTH) (ebml_children webm)) (unwrap_or (uint_default EBML_MAX_SIZE_LENGTH) 0)) ≡ false

computes : (webm : Bool) → Computes webm
unfolding is_utf8 chars encode is_id uint_width least_size_width entry_of table
computes true = record {
  starts = λ tail. refl;
  is_element = IsElement-element EBML _ refl (omega arith);
  are = All-from_recursion IsElement (ebml_children true) (IsElement-element _ _ refl (omega arith), (IsElement-element _ _ refl (omega arith), (IsElement-element _ _ refl (omega arith), (IsElement-element _ _ refl (omega arith), (IsElement-element _ _ refl (omega arith), (IsElement-element _ _ refl (omega arith), (IsElement-element _ _ refl (omega arith), tt)))))));
  values = All-from_recursion (λ (d : Element). is_known_value EBML d.id d.body ≡ true) (ebml_children true) (refl, (refl, (refl, (refl, (refl, (refl, (refl, tt)))))));
  type_known = refl;
  read_version = refl;
  type_version = refl;
  id_length = refl;
  size_length = refl;
}
computes false = record {
  starts = λ tail. refl;
  is_element = IsElement-element EBML _ refl (omega arith);
  are = All-from_recursion IsElement (ebml_children false) (IsElement-element _ _ refl (omega arith), (IsElement-element _ _ refl (omega arith), (IsElement-element _ _ refl (omega arith), (IsElement-element _ _ refl (omega arith), (IsElement-element _ _ refl (omega arith), (IsElement-element _ _ refl (omega arith), (IsElement-element _ _ refl (omega arith), tt)))))));
  values = All-from_recursion (λ (d : Element). is_known_value EBML d.id d.body ≡ true) (ebml_children false) (refl, (refl, (refl, (refl, (refl, (refl, (refl, tt)))))));
  type_known = refl;
  read_version = refl;
  type_version = refl;
  id_length = refl;
  size_length = refl;
}

-- ---- results of reading

first_of-or : {A : Type 0} (bytes : List ℕ) (value : List ℕ → A) (id : ℕ) (other : A) (hs : List Header) (ds : List Element) → AllZip (IsRead bytes) hs ds
    → option_map_or (λ (h : Header). value (body_of bytes h)) (first_of id hs) other ≡ option_map_or (λ (d : Element). value d.body) (find (λ (d : Element). d.id == id) ds) other
first_of-or bytes value id other hs ds are =
    map_or-is (λ (h : Header). value (body_of bytes h)) (first_of id hs) other
    ∙ ap (λ o. unwrap_or o other) (first_of-read bytes value id hs ds are)
    ∙ sym (map_or-is (λ (d : Element). value d.body) (find (λ (d : Element). d.id == id) ds) other)

-- There is no damage if no cause of damage holds.
causes-none : (b : Option Damage) (t v w m n : Bool) (d₀ d₁ d₂ d₃ d₄ : Damage) → b ≡ None → t ≡ false → v ≡ false → w ≡ false → m ≡ false → n ≡ false
    → first_damage (b ∷ None ∷ where_it t d₀ ∷ where_it v d₁ ∷ where_it w d₂ ∷ where_it m d₃ ∷ where_it n d₄ ∷ []) ≡ None
causes-none b t v w m n d₀ d₁ d₂ d₃ d₄ eb et ev ew em en = rw (eb, et, ev, ew, em, en) refl

-- A written EBML header is read as that header.
pub ebml-read : (webm : Bool) (tail : List ℕ) → header_without_limit (octets_of (ebml_element webm) ++ tail) ≡ Ok (header_in_place 0 (ebml_element webm))
ebml-read webm tail =
    let facts = computes webm in
    let d : Element = ebml_element webm in
    let ds : List Element = ebml_children webm in
    let bytes : List ℕ = octets_of d ++ tail in
    let h : Header = header_in_place 0 d in
    let q : ℕ = 0 + length (header_of d) in
    let stands : HoldsAt bytes 0 (octets_of d) = held-between [] (octets_of d) tail 0 refl in
    let long = length-append (octets_of d) tail in
    let first : first_element bytes ≡ Ok h =
    ap (λ (t : Bool). if t then element_at at_level_0 bytes 0 (length bytes) else Err (damage NotEbml 0 0)) (facts.starts tail)
    ∙ element_at-read at_level_0 bytes d 0 (length bytes) refl facts.is_element stands (omega arith) in
    let stand : HoldsAt bytes q (joined ds) = stands-body bytes 0 d stands in
    let read = headers-read bytes ds q stand in
    let made : Run = record { list = headers_in_place q ds; damage = None; end = q + length (joined ds) } in
    let run : header_children bytes h ≡ made = children-all (in_tree EBML) bytes ds q refl facts.are stand in
    let none : first_damage (children_causes bytes made) ≡ None =
    causes-none (bad_value bytes EBML (headers_in_place q ds)) _ _ _ _ _ _ _ _ _ _
    (ap (option_map _) (find-none bytes (is_known_value EBML) (headers_in_place q ds) ds read facts.values))
    (ap not (ap is_doc_type (first_of-or bytes (λ o. Some (text_of o)) DOC_TYPE (text_default DOC_TYPE) (headers_in_place q ds) ds read) ∙ facts.type_known))
    (ap (nat_lt 1) (first_of-or bytes (uint_value EBML_READ_VERSION) EBML_READ_VERSION (unwrap_or (uint_default EBML_READ_VERSION) 0) (headers_in_place q ds) ds read) ∙ facts.read_version)
    (ap (nat_lt 4) (first_of-or bytes (uint_value DOC_TYPE_READ_VERSION) DOC_TYPE_READ_VERSION (unwrap_or (uint_default DOC_TYPE_READ_VERSION) 0) (headers_in_place q ds) ds read) ∙ facts.type_version)
    (ap (nat_lt 4) (first_of-or bytes (uint_value EBML_MAX_ID_LENGTH) EBML_MAX_ID_LENGTH (unwrap_or (uint_default EBML_MAX_ID_LENGTH) 0) (headers_in_place q ds) ds read) ∙ facts.id_length)
    (ap (nat_lt 8) (first_of-or bytes (uint_value EBML_MAX_SIZE_LENGTH) EBML_MAX_SIZE_LENGTH (unwrap_or (uint_default EBML_MAX_SIZE_LENGTH) 0) (headers_in_place q ds) ds read) ∙ facts.size_length) in
    ap (λ r. and_then r (λ e. unless (first_damage (children_causes bytes (header_children bytes e))) e)) first
    ∙ ap (λ r. unless (first_damage (children_causes bytes r)) h) run
    ∙ ap (λ r. unless r h) none
