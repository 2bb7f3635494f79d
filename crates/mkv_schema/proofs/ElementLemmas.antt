-- Laws on the Element at a place.
use Rattle.std.proofs.Common.{zero, suc, ap₂, IfOk, ◌≡◌, ◌==◌, ◌&&◌, ◌∷◌, [], slice_index, nat_lt, not, Bool, true, false, if◌then◌else◌, ℕ, ◌+◌, ◌-◌, ◌≤◌, min, List, length, take, drop, Option, Some, None, Result, Ok, Err, refl, sym, ◌∙◌, ap, subst, arith}
use Rattle.std.proofs.Math.Nat.{min_comm}
use Rattle.std.proofs.lemmas.List.{length-take, length-drop, drop-take}
use Rattle.std.proofs.lemmas.Bool.Decides.{nat_tests}
use Rattle.ebml_numbers.specs.declared.number.IdRead.{IdRead}
use Rattle.ebml_numbers.specs.declared.number.NumFault.{NumFault}
use Rattle.ebml_numbers.specs.declared.number.NumFault.TheVariants as fault
use Rattle.ebml_numbers.specs.declared.number.SizeRead.{SizeRead}
use Rattle.ebml_numbers.specs.Number.{id_at, size_at}
use Rattle.ebml_numbers.proofs.NumberLemmas.{IfOk-each, size_at-within, size_at-take, id_at-reads, id_at-take}
use Rattle.mkv_schema.specs.declared.ids.TheConstants.{CHAPTER_DISPLAY}
use Rattle.mkv_io.specs.declared.damage.Kind.{Kind}
use Rattle.mkv_io.specs.declared.damage.Kind.TheVariants.{TooLong, Truncated, UnknownSize}
use Rattle.mkv_schema.specs.declared.element.Header.{Header}
use Rattle.mkv_schema.specs.Placed.{StandsAt, IsWhole}
use Rattle.mkv_schema.specs.Element.{Setting, octets_between, display_read, id_in, with_body, with_size, with_id, body_damage, element_in, element_at, has_unknown_size, is_truncated, is_too_long, is_unknown, stated_end}

-- The bytes between `p` and `e` are `e - p` if the file reaches to `e`.
pub length-octets_between : (bytes : List ℕ) (p e : ℕ) → length (octets_between bytes p e) ≡ min e (length bytes) - p
length-octets_between bytes p e = simp (length-drop, length-take)

placed_body : (p e : ℕ) (made h : Header) (found : Option Kind) → StandsAt p e made → with_body made found ≡ Ok h → StandsAt p e h
placed_body p e made h None placed is =
    let same : made ≡ h = cc in
    let P : Header → Type 0 = StandsAt p e in
    subst P same placed
placed_body p e made h (Some kind) placed is = cc

placed_size : (s : Setting) (octets : List ℕ) (total p e id at : ℕ) (h : Header) (read : Result SizeRead NumFault) → p ≤ at → at + length octets ≤ e → size_at octets ≡ read → with_size s total p e id at read ≡ Ok h → StandsAt p e h
placed_size s octets total p e id at h (Err (fault.More n)) behind inside is found = cc
placed_size s octets total p e id at h (Err fault.Bad) behind inside is found = cc
placed_size s octets total p e id at h (Ok size) behind inside is found =
    let within = size_at-within octets size is in
    let some = within.some in
    let most = within.inside in
    let made : Header = record { id = id; offset = p; body = at + size.len; size = size.size } in
    placed_body p e made h (body_damage s total e made) (record { offset = refl; later = omega arith; within = omega arith }) found

-- An ID that was read has at most the bytes that are here.
id_in-within : (s : Setting) (octets : List ℕ) (read : IdRead) → id_in s octets ≡ Ok read → read.len ≤ length octets
id_in-within s octets read is = split (s.display && slice_index octets 0 == CHAPTER_DISPLAY) refl is
  where
    display_within : (o : List ℕ) → slice_index o 0 ≡ CHAPTER_DISPLAY → display_read ≡ Ok read → read.len ≤ length o
    display_within [] first found = cc
    display_within (octet ∷ rest) first found = let len : 1 ≡ read.len = cc in omega arith

    split : (display : Bool) → (s.display && slice_index octets 0 == CHAPTER_DISPLAY) ≡ display → (if display then display_read else id_at octets) ≡ Ok read → read.len ≤ length octets
    split true test found = display_within octets (grind (arith, nat_tests)) found
    split false test found = (id_at-reads octets read found).inside

placed_id : (s : Setting) (octets : List ℕ) (total p e : ℕ) (h : Header) (read : Result IdRead NumFault) → p + length octets ≤ e → id_in s octets ≡ read → with_id s octets total p e read ≡ Ok h → StandsAt p e h
placed_id s octets total p e h (Err fault.Bad) inside is found = cc
placed_id s octets total p e h (Err (fault.More n)) inside is found = cc
placed_id s octets total p e h (Ok id) inside is found =
    let within = id_in-within s octets id is in
    let rest = length-drop id.len octets in
    placed_size s (drop id.len octets) total p e id.id (p + id.len) h _ (omega arith) (omega arith) refl found

pub element_in-placed : (s : Setting) (octets : List ℕ) (total p e : ℕ) (h : Header) → p + length octets ≤ e → element_in s octets total p e ≡ Ok h → StandsAt p e h
unfolding element_in
element_in-placed s octets total p e h inside found = placed_id s octets total p e h (id_in s octets) inside refl found

pub element_at-placed : (s : Setting) (bytes : List ℕ) (p e : ℕ) (h : Header) → p ≤ e → element_at s bytes p e ≡ Ok h → StandsAt p e h
element_at-placed s bytes p e h before_end found =
    let octets = length-octets_between bytes p e in
    element_in-placed s (octets_between bytes p e) (length bytes) p e h (omega arith) found

-- The Element that is read, if any, is at its place, in its parent.
pub element_in-is_placed : (s : Setting) (octets : List ℕ) (total p e : ℕ) → p + length octets ≤ e → IfOk (element_in s octets total p e) (StandsAt p e)
element_in-is_placed s octets total p e inside =
    IfOk-each (StandsAt p e) (element_in s octets total p e) (λ h found. element_in-placed s octets total p e h inside found)

-- ---- an Element that may not be open is whole

and_not : (a b : Bool) → (a && not b) ≡ false → b ≡ false → a ≡ false
and_not true true is other = cc
and_not true false is other = cc
and_not false b is other = refl

and_neither : (a b c : Bool) → (a && not (b && c)) ≡ false → b ≡ false → a ≡ false
and_neither true true c is other = cc
and_neither true false c is other = cc
and_neither false b c is other = refl

whole_body : (s : Setting) (total e : ℕ) (made h : Header) (unknown truncated long : Bool) → has_unknown_size s made ≡ unknown → is_too_long s total e made ≡ long → with_body made (if unknown then Some UnknownSize else if truncated then Some Truncated else if long then Some TooLong else None) ≡ Ok h → IsWhole s e h
whole_body s total e made h true truncated long unknown_is long_is found = absurd (cc)
whole_body s total e made h false true long unknown_is long_is found = absurd (cc)
whole_body s total e made h false false true unknown_is long_is found = absurd (cc)
whole_body s total e made h false false false unknown_is long_is found =
    let same : made ≡ h = cc in
    let P : Header → Type 0 = IsWhole s e in
    subst P same (record {
      known = and_not (is_unknown made.size) (s.may_open made.id) unknown_is;
      inside = λ closed. below (stated_end made) (and_neither (nat_lt e (stated_end made)) (s.may_open made.id) (e == total) long_is closed);
    })
  where
    below : (end : ℕ) → nat_lt e end ≡ false → end ≤ e
    below end is = grind arith

whole_size : (s : Setting) (total p e id at : ℕ) (h : Header) (read : Result SizeRead NumFault) → with_size s total p e id at read ≡ Ok h → IsWhole s e h
whole_size s total p e id at h (Err (fault.More n)) found = absurd (cc)
whole_size s total p e id at h (Err fault.Bad) found = absurd (cc)
whole_size s total p e id at h (Ok size) found =
    let made : Header = record { id = id; offset = p; body = at + size.len; size = size.size } in
    whole_body s total e made h (has_unknown_size s made) (is_truncated s total e made) (is_too_long s total e made) refl refl found

whole_id : (s : Setting) (octets : List ℕ) (total p e : ℕ) (h : Header) (read : Result IdRead NumFault) → with_id s octets total p e read ≡ Ok h → IsWhole s e h
whole_id s octets total p e h (Err fault.Bad) found = absurd (cc)
whole_id s octets total p e h (Err (fault.More n)) found = absurd (cc)
whole_id s octets total p e h (Ok id) found = whole_size s total p e id.id (p + id.len) h (size_at (drop id.len octets)) found

pub element_in-whole : (s : Setting) (octets : List ℕ) (total p e : ℕ) (h : Header) → element_in s octets total p e ≡ Ok h → IsWhole s e h
unfolding element_in
element_in-whole s octets total p e h found = whole_id s octets total p e h (id_in s octets) found

-- The Element that is read, if any, is whole in its setting.
pub element_in-is_whole : (s : Setting) (octets : List ℕ) (total p e : ℕ) → IfOk (element_in s octets total p e) (IsWhole s e)
element_in-is_whole s octets total p e = IfOk-each (IsWhole s e) (element_in s octets total p e) (λ h found. element_in-whole s octets total p e h found)

-- ---- twelve bytes settle a header

-- The first byte is the same in a nonempty prefix.
slice_index-take : (n : ℕ) (o : List ℕ) → slice_index (take (suc n) o) 0 ≡ slice_index o 0
slice_index-take n [] = refl
slice_index-take n (octet ∷ rest) = refl

-- Four bytes settle an ID.
id_in-take : (s : Setting) (n : ℕ) (o : List ℕ) → id_in s (take (4 + n) o) ≡ id_in s o
id_in-take s n o =
    let four : 4 + n ≡ suc (3 + n) = omega arith in
    let first : slice_index (take (4 + n) o) 0 ≡ slice_index o 0 = ap (λ m. slice_index (take m o) 0) four ∙ slice_index-take (3 + n) o in
    ap₂ (λ octet read. if s.display && octet == CHAPTER_DISPLAY then display_read else read) first (id_at-take (4 + n) o (omega arith))

-- An ID has at most four bytes.
id_in-few : (s : Setting) (octets : List ℕ) (read : IdRead) → id_in s octets ≡ Ok read → read.len ≤ 4
id_in-few s octets read is = split (s.display && slice_index octets 0 == CHAPTER_DISPLAY) is
  where
    split : (display : Bool) → (if display then display_read else id_at octets) ≡ Ok read → read.len ≤ 4
    split true found = let len : 1 ≡ read.len = cc in omega arith
    split false found = (id_at-reads octets read found).few

-- Eight bytes after an ID settle the size.
with_id-take : (s : Setting) (n : ℕ) (o : List ℕ) (total p e : ℕ) (read : Result IdRead NumFault) → id_in s o ≡ read → with_id s (take (12 + n) o) total p e read ≡ with_id s o total p e read
with_id-take s n o total p e (Err fault.Bad) is = refl
with_id-take s n o total p e (Err (fault.More count)) is = refl
with_id-take s n o total p e (Ok id) is =
    let few = id_in-few s o id is in
    let rest : 12 + n ≡ id.len + (12 + n - id.len) = omega arith in
    ap (with_size s total p e id.id (p + id.len))
    (ap (λ m. size_at (drop id.len (take m o))) rest
    ∙ ap size_at (drop-take id.len (12 + n - id.len) o) ∙ size_at-take (12 + n - id.len) (drop id.len o) (omega arith))

-- So twelve or more bytes give the same Element as all.
pub element_in-take : (s : Setting) (n : ℕ) (o : List ℕ) (total p e : ℕ) → 12 ≤ n → element_in s (take n o) total p e ≡ element_in s o total p e
unfolding element_in
element_in-take s n o total p e enough =
    let more : n ≡ 12 + (n - 12) = omega arith in
    let less : n ≡ 4 + (8 + (n - 12)) = omega arith in
    ap (λ m. with_id s (take m o) total p e (id_in s (take n o))) more
    ∙ ap (with_id s (take (12 + (n - 12)) o) total p e) (ap (λ m. id_in s (take m o)) less ∙ id_in-take s (8 + (n - 12)) o)
    ∙ with_id-take s (n - 12) o total p e (id_in s o) refl

-- A prefix of a prefix is a prefix of the list.
pub take-take_min : (m n : ℕ) (l : List ℕ) → take m (take n l) ≡ take (min m n) l
take-take_min zero n l = ap (λ k. take k l) (sym (min-zero n))
  where
    min-zero : (n : ℕ) → min 0 n ≡ 0
    min-zero n = omega arith
take-take_min (suc m) zero l = ap (λ k. take k l) (sym (min-of_zero (suc m)))
  where
    min-of_zero : (n : ℕ) → min n 0 ≡ 0
    min-of_zero n = omega arith
take-take_min (suc m) (suc n) [] = sym (take-nil (min (suc m) (suc n)))
  where
    take-nil : (k : ℕ) → take {A = ℕ} k [] ≡ []
    take-nil zero = refl
    take-nil (suc k) = refl
take-take_min (suc m) (suc n) (x ∷ l) =
    let step : min (suc m) (suc n) ≡ suc (min m n) = omega arith in
    ap (λ rest. x ∷ rest) (take-take_min m n l) ∙ ap (λ k. take k (x ∷ l)) (sym step)

-- The bytes that a header needs, up to the parent's end, settle the Element at a place.
pub element_at-front : (s : Setting) (bytes : List ℕ) (p e n : ℕ) → p ≤ e → n ≡ min (e - p) 12 → element_in s (take n (drop p bytes)) (length bytes) p e ≡ element_at s bytes p e
element_at-front s bytes p e n before_end is =
    ap (λ o. element_in s o (length bytes) p e) front ∙ element_in-take s 12 (octets_between bytes p e) (length bytes) p e (omega arith)
  where
    between : octets_between bytes p e ≡ take (e - p) (drop p bytes)
    between = ap (λ m. drop p (take m bytes)) (omega arith) ∙ drop-take p (e - p) bytes

    front : take n (drop p bytes) ≡ take 12 (octets_between bytes p e)
    front = ap (λ m. take m (drop p bytes)) (is ∙ min_comm (e - p) 12) ∙ sym (take-take_min 12 (e - p) (drop p bytes)) ∙ ap (take 12) (sym between)
