-- Values that are put into a leaf are read back.
use Rattle.std.proofs.Common.{◌≡◌, ℕ, suc, ◌+◌, ◌<◌, ◌^◌, ◌==◌, Bool, true, false, not, ◌&&◌, cond, List, [], ◌∷◌, length, take, ℤ, refl, ap, ◌∙◌, arith}
use Rattle.std.specs.List.{list_all, prefix_len}
use Rattle.ebml_numbers.specs.Number.{uint_of, uint_octets, int_of, int_octets, magnitude}
use Rattle.ebml_numbers.proofs.NumberLemmas.{uint_of-octets, int_of-octets, length-uint_octets}
use Rattle.ebml_numbers.proofs.WidthLemmas.{uint_width-IsLeast}
use Rattle.mkv_schema.specs.Value.{uint_value, text_of}
use Rattle.tree_format.specs.Text.{HasNoZero}

uint_value-some : (id : ℕ) (body : List ℕ) → 0 < length body → uint_value id body ≡ uint_of body
uint_value-some id [] some = absurd (omega arith)
uint_value-some id (o ∷ body) some = refl

-- A number that is written to a leaf is its value.
pub uint_value-octets : (id value : ℕ) (body : List ℕ) → value < 2 ^ 64 → body ≡ uint_octets value → uint_value id body ≡ value
uint_value-octets id value body small is =
    let least = (uint_width-IsLeast value small).some in
    let long = length-uint_octets value in
    ap (uint_value id) is ∙ uint_value-some id (uint_octets value) (omega arith) ∙ uint_of-octets value small

pub int_of-body : (value : ℤ) (body : List ℕ) → magnitude value < 2 ^ 63 → body ≡ int_octets value → int_of body ≡ value
int_of-body value body small is = ap int_of is ∙ int_of-octets value small

-- A text without a zero byte has all of its bytes.
pub text_of-whole : (body : List ℕ) → HasNoZero body → text_of body ≡ body
text_of-whole [] whole = refl
text_of-whole (o ∷ body) whole = split (not (o == 0)) (text_of-whole body) whole
  where
    split : (passes : Bool) → (HasNoZero body → text_of body ≡ body) → (passes && list_all (λ octet. not (octet == 0)) body) ≡ true
        → take (cond passes (1 + prefix_len (λ octet. not (octet == 0)) body) 0) (o ∷ body) ≡ o ∷ body
    split true rest whole =
        let more : 1 + prefix_len (λ octet. not (octet == 0)) body ≡ suc (prefix_len (λ octet. not (octet == 0)) body) = omega arith in
        ap (λ n. take n (o ∷ body)) more ∙ ap (λ l. o ∷ l) (rest whole)
    split false rest whole = absurd (cc)

pub ruleset values = (uint_value-octets, int_of-body, text_of-whole)
