-- Elements that are appended with their places.
use Rattle.std.proofs.Common.{◌≡◌, ◌≤◌, ℕ, ◌+◌, ◌-◌, Bool, List, [], ◌∷◌, ◌++◌, length, replicate, refl, sym, ap, append_assoc, ◌∙◌, arith, true, false, if◌then◌else◌, nat_le}
use Rattle.std.proofs.lemmas.List.{length-append, length-replicate}
use Rattle.std.proofs.lemmas.List.Concat.{flat_map-append}
use Rattle.ebml_numbers.specs.Number.{uint_width, size_octets}
use Rattle.ebml_numbers.proofs.NumberLemmas.{length-size_octets}
use Rattle.mkv_schema.specs.declared.ids.TheConstants.{VOID}
use Rattle.output_model.specs.Element.{Element, joined, octets_of, void_element}
use Rattle.output_model.specs.declared.places.Seek.{Seek}
use Rattle.output_model.specs.SeekHead.{seeks_from}
use Rattle.cues_seekhead.specs.Places.{Adds}

-- The places of the elements and of the next ones are computed in sequence.
pub seeks_from-append : (p : ℕ) (xs ys : List Element) → seeks_from p (xs ++ ys) ≡ seeks_from p xs ++ seeks_from (p + length (joined xs)) ys
seeks_from-append p [] ys = let same : p ≡ p + 0 = omega arith in ap (λ q. seeks_from q ys) same
seeks_from-append p (e ∷ es) ys =
    let same : p + length (octets_of e) + length (joined es) ≡ p + length (joined (e ∷ es)) = omega (arith, length-append (octets_of e) (joined es)) in
    ap (λ ss. record { id = e.id; position = p } ∷ ss)
    (seeks_from-append (p + length (octets_of e)) es ys ∙ ap (λ q. seeks_from (p + length (octets_of e)) es ++ seeks_from q ys) same)

-- Two groups of elements are appended.
pub Adds-then : (at : ℕ) (xs ys : List Element) (a b c : List ℕ) (r s t : List Seek) → Adds at xs a b r s → Adds at ys b c s t → Adds at (xs ++ ys) a c r t
Adds-then at xs ys a b c r s t first next =
    let place : at + length b ≡ at + length a + length (joined xs) = omega (arith, ap length first.octets, length-append a (joined xs)) in
    record {
      octets = next.octets ∙ ap (λ w. w ++ joined ys) first.octets ∙ append_assoc a (joined xs) (joined ys) ∙ ap (λ w. a ++ w) (sym (flat_map-append octets_of xs ys));
      places = next.places ∙ ap (λ w. w ++ seeks_from (at + length b) ys) first.places
          ∙ append_assoc r (seeks_from (at + length a) xs) (seeks_from (at + length b) ys)
          ∙ ap (λ q. r ++ (seeks_from (at + length a) xs ++ seeks_from q ys)) place
          ∙ ap (λ w. r ++ w) (sym (seeks_from-append (at + length a) xs ys));
    }

-- A Void has the requested length.
pub length-void : (total : ℕ) → 2 ≤ total → total ≤ 256 → length (octets_of (void_element total)) ≡ total
unfolding uint_width
length-void total some most = step (nat_le total 128) refl
  where
    step : (small : Bool) → nat_le total 128 ≡ small → length (octets_of (if small then record { id = VOID; width = 1; body = replicate (total - 2) 0 } else record { id = VOID; width = 8; body = replicate (total - 9) 0 })) ≡ total
    step true is = let body : List ℕ = replicate (total - 2) 0 in
        omega (arith, length-append (size_octets (length body) 1) body, length-size_octets (length body) 1, length-replicate (total - 2) (let z : ℕ = 0 in z))
    step false is = let large : 129 ≤ total = grind (arith, is) in let body : List ℕ = replicate (total - 9) 0 in
        omega (arith, length-append (size_octets (length body) 8) body, length-size_octets (length body) 8, length-replicate (total - 9) (let z : ℕ = 0 in z))
