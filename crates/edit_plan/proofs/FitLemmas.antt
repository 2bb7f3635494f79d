-- The bytes written into a room aren't longer than it.
use Rattle.std.proofs.Common.{◌≡◌, ◌≢◌, ℕ, ◌+◌, ◌-◌, ◌<◌, ◌≤◌, ◌==◌, nat_lt, nat_le, Bool, true, false, if◌then◌else◌, List, [], ◌++◌, length, replicate, Option, Some, None, refl, arith}
use Rattle.std.specs.Option.{unwrap_or}
use Rattle.std.specs.Int.Count.{count_leading_zeros}
use Rattle.std.proofs.lemmas.List.{length-append}
use Rattle.std.proofs.lemmas.Bool.Decides.{nat_tests}
use Rattle.ebml_numbers.specs.Number.{uint_width}
use Rattle.mkv_schema.specs.declared.ids.TheConstants.{VOID}
use Rattle.output_model.specs.Element.{Element, octets_of, header_of}
use Rattle.output_model.proofs.ReadLemmas.{length-header_of, length-octets_of}
use Rattle.edit_changes.specs.Span.{fitted, void_header, wider}

void-width : uint_width VOID ≡ 1
unfolding uint_width count_leading_zeros
void-width = refl

void-length : (total : ℕ) → 2 ≤ total → (1 ≤ length (void_header total)) × (length (void_header total) ≤ total)
void-length total some = split (nat_le total 128) refl
  where
    split : (short : Bool) → nat_le total 128 ≡ short
        → (1 ≤ length (header_of (if short then record { id = VOID; width = 1; body = replicate (total - 2) 0 } else record { id = VOID; width = 8; body = replicate (total - 9) 0 })))
        × (length (header_of (if short then record { id = VOID; width = 1; body = replicate (total - 2) 0 } else record { id = VOID; width = 8; body = replicate (total - 9) 0 })) ≤ total)
    split true is =
        let all = length-header_of (record { id = VOID; width = 1; body = replicate (total - 2) 0 }) in
        let one : uint_width VOID ≡ 1 = void-width in
        (omega arith, omega arith)
    split false is =
        let long : 128 < total = grind (arith, nat_tests) in
        let all = length-header_of (record { id = VOID; width = 8; body = replicate (total - 9) 0 }) in
        let one : uint_width VOID ≡ 1 = void-width in
        (omega arith, omega arith)

pub wider-length : (e : Element) → length (octets_of (wider e)) ≡ length (octets_of e) + 1
wider-length e =
    let one = length-octets_of (wider e) in let head = length-header_of (wider e) in
    let two = length-octets_of e in let old = length-header_of e in
    omega arith

-- There is at least one byte, and at most `room`.
pub record Fills (room : ℕ) (octets : List ℕ) : Type 0 where
  pub some : 1 ≤ length octets
  pub most : length octets ≤ room

fills-just : (e : Element) (room : ℕ) → room ≡ length (octets_of e) → 1 ≤ length (octets_of e) → Fills room (octets_of e)
fills-just e room same some = record { some = some; most = omega arith }

fills-wider : (e : Element) (room : ℕ) → room ≡ length (octets_of e) + 1 → Fills room (octets_of (wider e))
fills-wider e room same = let all = wider-length e in record { some = omega arith; most = omega arith }

fills-more : (e : Element) (room : ℕ) → length (octets_of e) + 2 ≤ room → Fills room (octets_of e ++ void_header (room - length (octets_of e)))
fills-more e room less =
    let both = length-append (octets_of e) (void_header (room - length (octets_of e))) in
    let void = void-length (room - length (octets_of e)) (omega arith) in
    record { some = omega (arith, void.0, void.1); most = omega (arith, void.0, void.1) }

pub fills-void : (room : ℕ) → 2 ≤ room → Fills room (void_header room)
fills-void room some = let void = void-length room some in record { some = void.0; most = void.1 }

module _ (P : Option (List ℕ) → Type 0) (e : Element) (room : ℕ) (none : room < length (octets_of e) → P None) (fills : (octets : List ℕ) → Fills room octets → P (Some octets)) (some : 1 ≤ length (octets_of e)) where
  pub fitted-cases : P (fitted e room)
  fitted-cases = split (nat_lt room (length (octets_of e))) (room == length (octets_of e)) (room == length (octets_of e) + 1) refl refl refl
    where
      split : (long just more : Bool) → nat_lt room (length (octets_of e)) ≡ long → (room == length (octets_of e)) ≡ just → (room == length (octets_of e) + 1) ≡ more
          → P (if long then None else if just then Some (octets_of e) else if more then Some (octets_of (wider e)) else Some (octets_of e ++ void_header (room - length (octets_of e))))
      split true just more is_long is_just is_more = none (grind (arith, nat_tests))
      split false true more is_long is_just is_more = fills _ (fills-just e room (grind (arith, nat_tests)) some)
      split false false true is_long is_just is_more = fills _ (fills-wider e room (grind (arith, nat_tests)))
      split false false false is_long is_just is_more =
          let reaches : length (octets_of e) ≤ room = grind (arith, nat_tests) in
          let other : room ≢ length (octets_of e) = grind (arith, nat_tests) in
          let another : room ≢ length (octets_of e) + 1 = grind (arith, nat_tests) in
          fills _ (fills-more e room (omega arith))

-- The Element or a Void's header fills its place.
pub fills-place : (e : Element) (room : ℕ) → 2 ≤ room → 1 ≤ length (octets_of e) → Fills room (unwrap_or (fitted e room) (void_header room))
fills-place e room least some =
    fitted-cases (λ found. Fills room (unwrap_or found (void_header room))) e room (λ long. fills-void room least) (λ octets fills. fills) some

-- An Element that isn't longer than the room fills it.
pub fills-fitted : (e : Element) (room : ℕ) → length (octets_of e) ≤ room → 1 ≤ length (octets_of e)
    → Fills room (unwrap_or (fitted e room) [])
fills-fitted e room reaches some =
    fitted-cases (λ found. Fills room (unwrap_or found [])) e room (λ long. absurd (omega arith)) (λ octets fills. fills) some

-- If there is room, the bytes don't depend on the alternative.
pub fitted-same : (e : Element) (room : ℕ) (one two : List ℕ) → length (octets_of e) ≤ room → 1 ≤ length (octets_of e)
    → unwrap_or (fitted e room) one ≡ unwrap_or (fitted e room) two
fitted-same e room one two reaches some =
    fitted-cases (λ found. unwrap_or found one ≡ unwrap_or found two) e room (λ long. absurd (omega arith)) (λ octets fills. refl) some
