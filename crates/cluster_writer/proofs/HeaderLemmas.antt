-- Headers of two bytes.
use Rattle.std.proofs.Common.{◌≡◌, ◌<◌, ℕ, ◌+◌, ◌^◌, ◌%◌, nat_lt, Bool, ◌&&◌, true, cond, List, [], ◌∷◌, ◌++◌, find, unwrap_or, Some, ap, ap₂, ◌∙◌, arith}
use Rattle.std.proofs.lemmas.Bool.Decides.{nat_tests}
use Rattle.byteorder.specs.Endian.{big_bytes}
use Rattle.ebml_numbers.specs.Number.{all_ones, id_octets, least_size_width, least_width, size_octets, uint_octets, uint_width}
use Rattle.tree_format.specs.NormalForm.{header_octets}
use Rattle.output_model.specs.Element.{element, octets_of, uint_element}

-- One byte is the least width if it is enough.
width-one : (p : ℕ → Bool) → p 1 ≡ true → least_width p ≡ 1
width-one p enough = ap (λ t. unwrap_or (cond t (Some 1) (find p (2 ∷ 3 ∷ 4 ∷ 5 ∷ 6 ∷ 7 ∷ 8 ∷ []))) 8) enough

uint_width-one : (v : ℕ) → v < 256 → uint_width v ≡ 1
unfolding uint_width
uint_width-one v small =
    let enough : nat_lt v 256 ≡ true = grind (arith, nat_tests) in
    width-one (λ w. nat_lt v (256 ^ w)) enough

size_width-one : (v : ℕ) → v < 127 → least_size_width v ≡ 1
unfolding least_size_width
size_width-one v small =
    let enough : nat_lt v 127 ≡ true = grind (arith, nat_tests) in
    width-one (λ w. nat_lt v (all_ones w)) enough

one-octet : (v : ℕ) → v < 256 → big_bytes 1 v ≡ v ∷ []
one-octet v small =
    let same : v % 256 ≡ v = omega arith in
    ap (λ b. b ∷ []) same

-- The header of an element has two bytes.
abbrev pub is_short : ℕ → ℕ → Bool
is_short id len = nat_lt id 256 && nat_lt len 127

pub short-header : (id len : ℕ) → is_short id len ≡ true → header_octets id len ≡ id ∷ (128 + len) ∷ []
short-header id len short =
    let one : id < 256 = grind (arith, nat_tests, short) in
    let few : len < 127 = grind (arith, nat_tests, short) in
    let first : id_octets id ≡ id ∷ [] = ap (λ w. big_bytes w id) (uint_width-one id one) ∙ one-octet id one in
    let size : size_octets len (least_size_width len) ≡ (128 + len) ∷ [] =
    ap (λ w. size_octets len w) (size_width-one len few) ∙ one-octet (128 + len) (omega arith) in
    ap₂ (λ (a : List ℕ) (b : List ℕ). a ++ b) first size

-- The element of an unsigned integer has three bytes.
abbrev pub is_small : ℕ → ℕ → Bool
is_small id value = nat_lt id 256 && nat_lt value 256

pub small-uint : (id value : ℕ) → is_small id value ≡ true → octets_of (uint_element id value) ≡ id ∷ 129 ∷ value ∷ []
small-uint id value small =
    let one : id < 256 = grind (arith, nat_tests, small) in
    let low : value < 256 = grind (arith, nat_tests, small) in
    let short : is_short id 1 ≡ true = grind (arith, nat_tests) in
    let body : uint_octets value ≡ value ∷ [] = ap (λ w. big_bytes w value) (uint_width-one value low) ∙ one-octet value low in
    ap (λ (octets : List ℕ). octets_of (element id octets)) body ∙ ap (λ (header : List ℕ). header ++ value ∷ []) (short-header id 1 short)
