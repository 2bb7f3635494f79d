-- The bytes that are written into a span.
use Rattle.std.proofs.Common.{pow_mono, ◌≡◌, ◌<◌, ◌≤◌, ℕ, ◌+◌, ◌-◌, ◌*◌, ◌^◌, ◌==◌, nat_lt, nat_le, Bool, true, false, if◌then◌else◌, List, ◌++◌, length, replicate, Some, None, refl, sym, ◌∙◌, ap, arith}
use Rattle.std.proofs.lemmas.List.{length-append, length-replicate}
use Rattle.std.proofs.lemmas.Bool.Decides.{nat_tests}
use Rattle.ebml_numbers.specs.Number.{id_octets, size_octets, least_size_width, uint_width, all_ones, IsLeastWidth}
use Rattle.ebml_numbers.proofs.NumberLemmas.{length-size_octets, length-uint_octets, is_id-bounds}
use Rattle.mkv_schema.specs.declared.ids.TheConstants.{VOID}
use Rattle.output_model.specs.Element.{Element, element, octets_of, header_of}
use Rattle.edit_changes.specs.Span.{fitted, void_header, wider}

-- Seven bytes are enough for the size of any Element in a file.
pub width-most : (len w : ℕ) → len ≤ 2 ^ 48 → IsLeastWidth (λ k. len < all_ones k) w → w ≤ 7
width-most len w short least = least.least 7 (omega arith) (omega arith)

pub width-wider : (len w : ℕ) → IsLeastWidth (λ k. len < all_ones k) w → len < all_ones (w + 1)
width-wider len w least =
    let more : 2 ^ (7 * w) ≤ 2 ^ (7 * (w + 1)) = pow_mono {j = 7 * (w + 1)} (omega arith) in
    omega (arith, least.fits)

pub length-element : (id : ℕ) (body : List ℕ) → length (octets_of (element id body)) ≡ uint_width id + least_size_width (length body) + length body
length-element id body =
    length-append (id_octets id ++ size_octets (length body) (least_size_width (length body))) body
    ∙ ap (λ n. n + length body) (length-append (id_octets id) _
    ∙ ap (λ n. n + length (size_octets (length body) (least_size_width (length body)))) (length-uint_octets id)
    ∙ ap (λ n. uint_width id + n) (length-size_octets (length body) (least_size_width (length body))))

pub ruleset lengths = (length-element, is_id-bounds)

-- This is the header of a Void; its body isn't written.
pub short-void : (total : ℕ) → total ≤ 128 → id_octets VOID ++ size_octets (total - 2) 1 ≡ void_header total
short-void total short =
    let test : nat_le total 128 ≡ true = grind (arith, nat_tests) in
    ap (λ n. id_octets VOID ++ size_octets n 1) (sym (length-replicate (total - 2) 0)) ∙ ap (λ (b : Bool). header_of (if b then record { id = VOID; width = 1; body = replicate (total - 2) 0 } else record { id = VOID; width = 8; body = replicate (total - 9) 0 })) (sym test)

pub long-void : (total : ℕ) → 128 < total → id_octets VOID ++ size_octets (total - 9) 8 ≡ void_header total
long-void total long =
    let test : nat_le total 128 ≡ false = grind (arith, nat_tests) in
    ap (λ n. id_octets VOID ++ size_octets n 8) (sym (length-replicate (total - 9) 0)) ∙ ap (λ (b : Bool). header_of (if b then record { id = VOID; width = 1; body = replicate (total - 2) 0 } else record { id = VOID; width = 8; body = replicate (total - 9) 0 })) (sym test)

pub ruleset voids = (short-void, long-void)

-- the four cases of a span
pub fitted-none : (e : Element) (room : ℕ) → room < length (octets_of e) → None ≡ fitted e room
fitted-none e room long =
    let test : nat_lt room (length (octets_of e)) ≡ true = grind arith in
    rw test refl

pub fitted-just : (e : Element) (room : ℕ) → room ≡ length (octets_of e) → Some (octets_of e) ≡ fitted e room
fitted-just e room same =
    let long : nat_lt room (length (octets_of e)) ≡ false = grind arith in
    let just : (room == length (octets_of e)) ≡ true = grind arith in
    rw (long, just) refl

pub fitted-wider : (e : Element) (room : ℕ) → room ≡ length (octets_of e) + 1 → Some (octets_of (wider e)) ≡ fitted e room
fitted-wider e room same =
    let long : nat_lt room (length (octets_of e)) ≡ false = grind arith in
    let just : (room == length (octets_of e)) ≡ false = grind arith in
    let more : (room == length (octets_of e) + 1) ≡ true = grind arith in
    rw (long, just, more) refl

pub fitted-void : (e : Element) (room : ℕ) → length (octets_of e) + 1 < room → Some (octets_of e ++ void_header (room - length (octets_of e))) ≡ fitted e room
fitted-void e room many =
    let long : nat_lt room (length (octets_of e)) ≡ false = grind arith in
    let just : (room == length (octets_of e)) ≡ false = grind arith in
    let more : (room == length (octets_of e) + 1) ≡ false = grind arith in
    rw (long, just, more) refl

pub ruleset fits = (fitted-none, fitted-just, fitted-wider, fitted-void)

pub ruleset ids = (length-uint_octets, is_id-bounds)
