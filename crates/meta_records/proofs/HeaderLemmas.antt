-- The header of a child.
use Rattle.std.proofs.Common.{◌≡◌, ℕ, ◌+◌, ◌-◌, ◌≤◌, min, true, List, length, drop, Option, Some, None, Result, Ok, Err, refl, ◌∙◌, ap, arith}
use Rattle.mkv_io.specs.Contents.{octets_from}
use Rattle.ebml_numbers.specs.declared.number.IdRead.{IdRead}
use Rattle.ebml_numbers.specs.declared.number.NumFault.{NumFault}
use Rattle.ebml_numbers.specs.declared.number.NumFault.TheVariants as fault
use Rattle.ebml_numbers.specs.declared.number.SizeRead.{SizeRead}
use Rattle.ebml_numbers.specs.Number.{AreOctets, is_id, size_at}
use Rattle.ebml_numbers.proofs.NumberLemmas.{id_at-within}
use Rattle.mkv_io.specs.declared.damage.Kind.{Kind}
use Rattle.mkv_schema.specs.declared.element.Header.{Header}
use Rattle.mkv_schema.specs.declared.limits.TheConstants.{MAX_ELEMENT_HEADER_LEN}
use Rattle.mkv_schema.specs.Element.{Setting, in_master, id_in, with_body, with_size, with_id, body_damage, element_in, element_at}
use Rattle.mkv_schema.proofs.ElementLemmas.{element_at-front, element_in-placed, element_in-whole}
use Rattle.meta_records.specs.Walk.{IsChild}

-- ---- valid ID

id-of-body : (made h : Header) (found : Option Kind) → with_body made found ≡ Ok h → made.id ≡ h.id
id-of-body made h None is = let same : made ≡ h = cc in ap (λ (x : Header). x.id) same
id-of-body made h (Some kind) is = absurd (cc)

id-of-size : (s : Setting) (total p e id at : ℕ) (h : Header) (read : Result SizeRead NumFault) → with_size s total p e id at read ≡ Ok h → id ≡ h.id
id-of-size s total p e id at h (Err (fault.More n)) is = absurd (cc)
id-of-size s total p e id at h (Err fault.Bad) is = absurd (cc)
id-of-size s total p e id at h (Ok size) is =
    let made : Header = record { id = id; offset = p; body = at + size.len; size = size.size } in
    id-of-body made h (body_damage s total e made) is

id-of-id : (octets : List ℕ) (total p e : ℕ) (h : Header) (read : Result IdRead NumFault) → AreOctets octets → id_in in_master octets ≡ read → with_id in_master octets total p e read ≡ Ok h → is_id h.id ≡ true
id-of-id octets total p e h (Err fault.Bad) bytes found is = absurd (cc)
id-of-id octets total p e h (Err (fault.More n)) bytes found is = absurd (cc)
id-of-id octets total p e h (Ok id) bytes found is =
    let same = id-of-size in_master total p e id.id (p + id.len) h (size_at (drop id.len octets)) is in
    rw (← same) ((id_at-within octets id bytes found).valid)

pub element_in-id : (octets : List ℕ) (total p e : ℕ) (h : Header) → AreOctets octets → element_in in_master octets total p e ≡ Ok h → is_id h.id ≡ true
unfolding element_in
element_in-id octets total p e h bytes is = id-of-id octets total p e h (id_in in_master octets) bytes refl is

-- ---- enough bytes were read

pub header-read : (bytes octets : List ℕ) (total at end len n : ℕ) → octets ≡ octets_from bytes at n → n ≡ len → total ≡ length bytes → at ≤ end → len ≡ min (end - at) MAX_ELEMENT_HEADER_LEN → element_in in_master octets total at end ≡ element_at in_master bytes at end
header-read bytes octets total at end len n read count is place most =
    ap (λ o. element_in in_master o total at end) (read ∙ ap (octets_from bytes at) count)
    ∙ ap (λ t. element_in in_master (octets_from bytes at len) t at end) is
    ∙ element_at-front in_master bytes at end len place most

-- The header is at the offset `at`.
pub IsChild-found : (octets : List ℕ) (total at end : ℕ) (h : Header) → AreOctets octets → at + length octets ≤ end → element_in in_master octets total at end ≡ Ok h → IsChild at end h
IsChild-found octets total at end h bytes inside is =
    let whole = element_in-whole in_master octets total at end h is in
    record {
      placed = element_in-placed in_master octets total at end h inside is;
      sized = whole.known refl;
      inside = whole.inside refl;
      valid = element_in-id octets total at end h bytes is;
    }

-- The header is also valid in a longer parent.
pub IsChild-longer : (at end total : ℕ) (h : Header) → IsChild at end h → end ≤ total → IsChild h.offset total h
IsChild-longer at end total h is longer =
    let placed = is.placed in
    let inside = is.inside in
    record {
      placed = record { offset = refl; later = omega arith; within = omega arith };
      sized = is.sized;
      inside = omega arith;
      valid = is.valid;
    }
