-- The Elements of level 1 other than Clusters are in sequence.
use Rattle.std.proofs.Common.{inl, inr, ◌≡◌, ℕ, zero, suc, ◌+◌, ◌-◌, ◌<◌, ◌≤◌, ◌==◌, ◌^◌, ◌&&◌, slice_index, not, Bool, true, false, if◌then◌else◌, List, [], ◌∷◌, length, Option, Some, None, Result, Ok, Err, refl, sym, ap, ◌∙◌, subst, arith}
use Rattle.std.specs.Bool.{⊤}
use Rattle.std.proofs.lemmas.Bool.{cases_lt}
use Rattle.ebml_numbers.specs.declared.number.IdRead.{IdRead}
use Rattle.ebml_numbers.specs.declared.number.NumFault.{NumFault}
use Rattle.ebml_numbers.specs.declared.number.NumFault.TheVariants as fault
use Rattle.ebml_numbers.specs.declared.number.Size.{Size}
use Rattle.ebml_numbers.specs.declared.number.Size.TheVariants.{Known, Unknown}
use Rattle.ebml_numbers.specs.declared.number.SizeRead.{SizeRead}
use Rattle.ebml_numbers.specs.Number.{IsKnownBelow, id_at, size_at}
use Rattle.ebml_numbers.proofs.NumberLemmas.{size_at-within, id_at-reads, announced-pos}
use Rattle.mkv_schema.specs.declared.ids.TheConstants.{CHAPTER_DISPLAY, CLUSTER}
use Rattle.mkv_io.specs.declared.damage.Damage.{Damage}
use Rattle.mkv_io.specs.declared.damage.Kind.{Kind}
use Rattle.mkv_schema.specs.declared.element.Header.{Header}
use Rattle.mkv_schema.specs.Element.{Setting, display_read, in_segment, known, octets_between, element_at, element_in, with_id, with_size, with_body, body_damage, end_in, is_unknown, stated_end}
use Rattle.mkv_schema.specs.Elements.{id_of, step, behind, ends_at, ends_segment, behind_in_segment, level_1, open_cluster, end_of_run}
use Rattle.mkv_schema.proofs.ElementLemmas.{element_at-placed, element_in-whole}
use Rattle.mkv_schema.proofs.ElementsLemmas.{Advances, Advances-segment, elements-end, elements-more}
use Rattle.element_reader.specs.Collected.{others_of}

-- ---- a header has at least two bytes

-- The header with offset `p` has at least two bytes, and at most the bytes of the longest ID and size.
pub record HasHeader (p : ℕ) (h : Header) : Type 0 where
  pub least : p + 2 ≤ h.body
  pub most : h.body ≤ p + 12
  pub size : known h.size < 2 ^ 56

header_body : (p : ℕ) (made h : Header) (found : Option Kind) → HasHeader p made → with_body made found ≡ Ok h → HasHeader p h
header_body p made h None has is = let same : made ≡ h = cc in let P : Header → Type 0 = HasHeader p in subst P same has
header_body p made h (Some kind) has is = absurd (cc)

header_size : (s : Setting) (octets : List ℕ) (total p e id at : ℕ) (h : Header) (read : Result SizeRead NumFault) → p + 1 ≤ at → at ≤ p + 4 → size_at octets ≡ read → with_size s total p e id at read ≡ Ok h → HasHeader p h
header_size s octets total p e id at h (Err (fault.More n)) some few is found = absurd (cc)
header_size s octets total p e id at h (Err fault.Bad) some few is found = absurd (cc)
header_size s octets total p e id at h (Ok size) some few is found =
    let within = size_at-within octets size is in
    let one = within.some in
    let most = within.most in
    let made : Header = record { id = id; offset = p; body = at + size.len; size = size.size } in
    header_body p made h (body_damage s total e made) (record { least = omega arith; most = omega arith; size = below size.size within.known }) found
  where
    below : (size : Size) → IsKnownBelow (2 ^ 56 - 1) size → known size < 2 ^ 56
    below (Known n) is = omega arith
    below Unknown is = omega arith

header_id : (s : Setting) (octets : List ℕ) (total p e : ℕ) (h : Header) (read : Result IdRead NumFault) → id_at octets ≡ read → with_id s octets total p e read ≡ Ok h → HasHeader p h
header_id s octets total p e h (Err fault.Bad) is found = absurd (cc)
header_id s octets total p e h (Err (fault.More n)) is found = absurd (cc)
header_id s octets total p e h (Ok id) is found =
    let reads = id_at-reads octets id is in
    let announced = reads.announced in
    let few = reads.few in
    let some = announced-pos octets in
    header_size s _ total p e id.id (p + id.len) h _ (omega arith) (omega arith) refl found

pub header-at : (s : Setting) (bytes : List ℕ) (p e : ℕ) (h : Header) → s.display ≡ false → element_at s bytes p e ≡ Ok h → HasHeader p h
unfolding element_in
header-at s bytes p e h plain found =
    header_id s (octets_between bytes p e) (length bytes) p e h (id_at (octets_between bytes p e)) refl
    (sym (ap (with_id s (octets_between bytes p e) (length bytes) p e) (read s.display plain)) ∙ found)
  where
    read : (display : Bool) → display ≡ false → (if display && slice_index (octets_between bytes p e) 0 == CHAPTER_DISPLAY then display_read else id_at (octets_between bytes p e)) ≡ id_at (octets_between bytes p e)
    read true is = absurd (cc)
    read false is = refl

pub element_at-header : (bytes : List ℕ) (p e : ℕ) (h : Header) → element_at in_segment bytes p e ≡ Ok h → HasHeader p h
element_at-header bytes p e h found = header-at in_segment bytes p e h refl found

-- ---- in sequence

-- Each Element begins at the end of the previous one or after it; all are between `p` and `e`.
abbrev pub Stand : ℕ → ℕ → List Header → Type 0
Stand p e [] = ⊤
Stand p e (h ∷ hs) = (p ≤ h.offset) × (h.offset + 2 ≤ h.body) × (stated_end h ≤ e) × Stand (stated_end h) e hs

pub Stand-later : (p q e : ℕ) (hs : List Header) → p ≤ q → Stand q e hs → Stand p e hs
Stand-later p q e [] later stand = tt
Stand-later p q e (h ∷ hs) later stand = (omega (arith, stand.0), stand.1, stand.2, stand.3)

level-more : (bytes : List ℕ) (size : Size) (p e : ℕ) → p < e
    → ((k : ℕ) → p < k → Stand k e (others_of (level_1 bytes size k e).list)) → Stand p e (others_of (level_1 bytes size p e).list)
level-more bytes size p e inside further =
    rw (elements-more in_segment (ends_segment size) (behind_in_segment bytes e) bytes p e advances inside)
    (stopped (ends_segment size (id_of (element_at in_segment bytes p e))))
  where
    advances : Advances in_segment (behind_in_segment bytes e) bytes e
    advances = Advances-segment bytes e

    kept : (h : Header) (list : List Header) (cluster : Bool) → (h.id == CLUSTER) ≡ cluster → h.offset ≡ p → HasHeader p h
        → (cluster ≡ false → stated_end h ≤ e) → (cluster ≡ true → Stand p e (others_of list)) → (cluster ≡ false → Stand (stated_end h) e (others_of list))
        → Stand p e (if not cluster then h ∷ others_of list else others_of list)
    kept h list true is at has ends passed stays = passed refl
    kept h list false is at has ends passed stays = let least = has.least in (omega arith, omega arith, ends refl, stays refl)

    goes : (h : Header) (k : ℕ) → is_unknown h.size ≡ false → stated_end h ≤ e → behind_in_segment bytes e h ≡ Ok k → k ≡ stated_end h
    goes h k known ends is = step_on (is_unknown h.size) known is
      where
        step_on : (unknown : Bool) → unknown ≡ false
            → (if unknown then end_of_run (open_cluster bytes h.body e) (open_cluster bytes h.body e).damage else Ok (end_in e h)) ≡ Ok k → k ≡ stated_end h
        step_on true known is = absurd (cc)
        step_on false known is = let same : end_in e h ≡ k = cc in omega arith

    behind_it : (h : Header) (q : Result ℕ Damage) → element_at in_segment bytes p e ≡ Ok h → behind_in_segment bytes e h ≡ q
        → Stand p e (others_of (behind p h q (λ k. level_1 bytes size k e)).list)
    behind_it h (Err d) found next =
        let placed = element_at-placed in_segment bytes p e h (omega arith) found in
        let whole = element_in-whole in_segment (octets_between bytes p e) (length bytes) p e h found in
        kept h [] (h.id == CLUSTER) refl placed.offset (element_at-header bytes p e h found) whole.inside (λ is. tt) (λ is. tt)
    behind_it h (Ok k) found next =
        let placed = element_at-placed in_segment bytes p e h (omega arith) found in
        let whole = element_in-whole in_segment (octets_between bytes p e) (length bytes) p e h found in
        let on = advances.on p h k inside found next in
        let rest = further k on in
        kept h (level_1 bytes size k e).list (h.id == CLUSTER) refl placed.offset (element_at-header bytes p e h found) whole.inside
        (λ is. Stand-later p k e _ (omega arith) rest)
        (λ is. let same = goes h k (whole.known is) (whole.inside is) next in
        let P : ℕ → Type 0 = λ q. Stand q e (others_of (level_1 bytes size k e).list) in subst P same rest)

    goes_on : (found : Result Header Damage) → element_at in_segment bytes p e ≡ found
        → Stand p e (others_of (step p (behind_in_segment bytes e) found (λ q. level_1 bytes size q e)).list)
    goes_on (Err d) is = tt
    goes_on (Ok h) is = behind_it h (behind_in_segment bytes e h) is refl

    stopped : (stop : Bool) → Stand p e (others_of (if stop then ends_at p else step p (behind_in_segment bytes e) (element_at in_segment bytes p e) (λ q. level_1 bytes size q e)).list)
    stopped true = tt
    stopped false = goes_on (element_at in_segment bytes p e) refl

level-ended : (bytes : List ℕ) (size : Size) (p e : ℕ) → e ≤ p → Stand p e (others_of (level_1 bytes size p e).list)
level-ended bytes size p e past = rw (elements-end in_segment (ends_segment size) (behind_in_segment bytes e) bytes p e past) tt

level-within : (n : ℕ) (bytes : List ℕ) (size : Size) (p e : ℕ) → e - p ≤ n → Stand p e (others_of (level_1 bytes size p e).list)
level-within zero bytes size p e few = level-ended bytes size p e (omega arith)
level-within (suc n) bytes size p e few =
    elim (cases_lt p e) [
      | inl inside ↦ level-more bytes size p e inside (λ k later. level-within n bytes size k e (omega arith))
      | inr past ↦ level-ended bytes size p e past
    ]

pub level-stands : (bytes : List ℕ) (size : Size) (p e : ℕ) → Stand p e (others_of (level_1 bytes size p e).list)
level-stands bytes size p e = level-within (e - p) bytes size p e (omega arith)
