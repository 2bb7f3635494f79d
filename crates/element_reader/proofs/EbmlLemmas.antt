-- The Element at the start of a file that begins with the EBML header's ID.
use Rattle.std.proofs.Common.{◌≡◌, ℕ, ◌+◌, ◌≤◌, nat_eq, nat_lt, Bool, true, false, ◌&&◌, if◌then◌else◌, List, ◌∷◌, length, min, take, drop, Option, Some, None, Result, Ok, Err, refl, sym, ◌∙◌, ap, subst, arith}
use Rattle.std.proofs.lemmas.Grind.{common_steps}
use Rattle.std.proofs.lemmas.Bool.Decides.{Decides-eqb}
use Rattle.std.proofs.lemmas.Slice.Eq.{starts_is}
use Rattle.ebml_numbers.proofs.NumberLemmas.{id_at-take}
use Rattle.std.specs.Int.Count.{count_leading_zeros}
use Rattle.std.specs.Cmp.Lexicographic.{pointwise}
use Rattle.std.specs.List.{starts_with}
use Rattle.ebml_numbers.specs.declared.number.IdRead.{IdRead}
use Rattle.ebml_numbers.specs.declared.number.NumFault.{NumFault}
use Rattle.ebml_numbers.specs.declared.number.NumFault.TheVariants as fault
use Rattle.ebml_numbers.specs.declared.number.SizeRead.{SizeRead}
use Rattle.ebml_numbers.specs.Number.{id_at, size_at}
use Rattle.mkv_io.specs.declared.damage.Damage.{Damage}
use Rattle.mkv_io.specs.declared.damage.Kind.TheVariants.{NotEbml, TooLong, Truncated, UnknownSize}
use Rattle.mkv_schema.specs.declared.element.Header.{Header}
use Rattle.mkv_schema.specs.Element.{at_level_0, has_unknown_size, is_truncated, is_too_long, with_body, with_size, with_id, element_at, element_in, damage, stated_end}
use Rattle.mkv_schema.specs.declared.limits.TheConstants.{MAX_HEADER_LEN}
use Rattle.mkv_schema.specs.Outline.{ebml_mark, first_element, ebml_header, over, first_damage, header_causes, header_children, children_causes}
use Rattle.mkv_io.specs.Results.{and_then, unless}
use Rattle.mkv_schema.specs.declared.ids.TheConstants.{EBML}
use Rattle.std.proofs.lemmas.List.{drop-take}
use Rattle.elements.specs.Body.{IsBody}

-- the result of reading this ID
abbrev pub mark_read : Result IdRead NumFault
mark_read = Ok (record { id = EBML; len = 4 })

pub id_at-mark : id_at ebml_mark ≡ mark_read
unfolding id_at count_leading_zeros
id_at-mark = refl

-- An EBML header without damage ends in the file.
ebml_body : (made h : Header) (total : ℕ) (unknown truncated long : Bool) → (nat_lt total (stated_end made) && true) ≡ truncated → with_body made (if unknown then Some UnknownSize else if truncated then Some Truncated else if long then Some TooLong else None) ≡ Ok h → stated_end h ≤ total
ebml_body made h total true truncated long is found = absurd (cc)
ebml_body made h total false true long is found = absurd (cc)
ebml_body made h total false false true is found = absurd (cc)
ebml_body made h total false false false is found =
    let same : made ≡ h = cc in
    let below : stated_end made ≤ total = grind arith in
    subst (λ (k : Header). stated_end k ≤ total) same below

pub ebml_size : (total p e at : ℕ) (h : Header) (read : Result SizeRead NumFault) → with_size at_level_0 total p e EBML at read ≡ Ok h → stated_end h ≤ total
ebml_size total p e at h (Err (fault.More n)) found = absurd (cc)
ebml_size total p e at h (Err fault.Bad) found = absurd (cc)
ebml_size total p e at h (Ok size) found =
    let made : Header = record { id = EBML; offset = p; body = at + size.len; size = size.size } in
    ebml_body made h total (has_unknown_size at_level_0 made) (is_truncated at_level_0 total e made) (is_too_long at_level_0 total e made) refl found

-- Bytes that pass the test begin with the EBML header's ID.
pub begins : (octets : List ℕ) (test : Bool) → test ≡ starts_with nat_eq octets ebml_mark → test ≡ true → take 4 octets ≡ ebml_mark
begins octets test is holds = ap (take 4) ((starts_is Decides-eqb octets ebml_mark test is).0 holds)

-- The bytes that are read for a header begin with it if and only if the content does.
pub starts_with-front : (bytes : List ℕ) (n : ℕ) → n ≡ min (length bytes) 12 → starts_with nat_eq (take n bytes) ebml_mark ≡ starts_with nat_eq bytes ebml_mark
starts_with-front bytes n most = ap (pointwise nat_eq ebml_mark) (front bytes n most)
  where
    front : (l : List ℕ) (m : ℕ) → m ≡ min (length l) 12 → take 4 (take m l) ≡ take 4 l
    front l m is = grind (arith, common_steps)

-- The Element in bytes that begin with it ends in the file.
pub ebml_inside : (octets : List ℕ) (total : ℕ) (h : Header) → take 4 octets ≡ ebml_mark → element_in at_level_0 octets total 0 total ≡ Ok h → stated_end h ≤ total
unfolding element_in
ebml_inside octets total h mark found =
    let read : id_at octets ≡ mark_read = sym (id_at-take 4 octets (omega arith)) ∙ ap id_at mark ∙ id_at-mark in
    let made = subst (λ (r : Result IdRead NumFault). with_id at_level_0 octets total 0 total r ≡ Ok h) read found in
    ebml_size total 0 total (0 + 4) h (size_at (drop 4 octets)) made

-- The file begins with it, or isn't an EBML document.
pub first_element-begins : (bytes : List ℕ) (test : Bool) (found : Result Header Damage) → test ≡ starts_with nat_eq bytes ebml_mark → test ≡ true → found ≡ element_at at_level_0 bytes 0 (length bytes) → found ≡ first_element bytes
first_element-begins bytes test found is holds same = rw (sym is ∙ holds) same

pub first_element-other : (bytes : List ℕ) (test : Bool) → test ≡ starts_with nat_eq bytes ebml_mark → test ≡ false → Err (damage NotEbml 0 0) ≡ first_element bytes
first_element-other bytes test is fails = rw (sym is ∙ fails) refl

-- ---- the EBML header, from the Element at the start

-- There is no Element.
pub ebml_header-none : (bytes : List ℕ) (d : Damage) → Err d ≡ first_element bytes → Err d ≡ ebml_header bytes
unfolding ebml_header
ebml_header-none bytes d first = ap (λ (found : Result Header Damage). and_then found (λ h. unless (first_damage (header_causes bytes h (header_children bytes h))) h)) first

-- Its causes refuse it, or nothing does.
pub ebml_header-is : (bytes : List ℕ) (h : Header) (refusal : Option Damage) → Ok h ≡ first_element bytes → refusal ≡ first_damage (header_causes bytes h (header_children bytes h)) → unless refusal h ≡ ebml_header bytes
unfolding ebml_header
ebml_header-is bytes h refusal first causes =
    ap (λ (r : Option Damage). unless r h) causes
    ∙ ap (λ (found : Result Header Damage). and_then found (λ k. unless (first_damage (header_causes bytes k (header_children bytes k))) k)) first

-- Its size refuses it.
pub ebml_header-over : (bytes : List ℕ) (h : Header) (d : Damage) → Ok h ≡ first_element bytes → Some d ≡ over MAX_HEADER_LEN h → Err d ≡ ebml_header bytes
ebml_header-over bytes h d first over_is = ebml_header-is bytes h (Some d) first (rest (over MAX_HEADER_LEN h) over_is)
  where
    rest : (cause : Option Damage) → Some d ≡ cause → Some d ≡ first_damage (cause ∷ children_causes bytes (header_children bytes h))
    rest None is = absurd (cc)
    rest (Some e) is = is

-- The bytes that were read from the file are its body.
pub IsBody-read : (bytes : List ℕ) (base total n : ℕ) (body : List ℕ) → length bytes ≡ total → base + n ≤ total → length body ≡ n → body ≡ take n (drop base bytes) → IsBody bytes base total body
IsBody-read bytes base total n body whole within count read = record {
  whole = whole;
  within = omega (arith, count, within);
  octets = read ∙ sym (drop-take base n bytes) ∙ ap (λ k. drop base (take (base + k) bytes)) (sym count);
}
