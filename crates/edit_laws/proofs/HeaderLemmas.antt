-- An Element depends on the bytes of its header, and on the ends of its parent and the file.
use Rattle.std.proofs.Common.{◌≡◌, ◌≤◌, ℕ, ◌+◌, ◌-◌, Bool, false, List, length, take, drop, Option, Some, None, Result, Ok, Err, refl, sym, ◌∙◌, ap, arith}
use Rattle.std.proofs.lemmas.List.{drop-take, take-take}
use Rattle.ebml_numbers.specs.declared.number.IdRead.{IdRead}
use Rattle.ebml_numbers.specs.declared.number.NumFault.{NumFault}
use Rattle.ebml_numbers.specs.declared.number.NumFault.TheVariants as fault
use Rattle.ebml_numbers.specs.declared.number.SizeRead.{SizeRead}
use Rattle.ebml_numbers.specs.Number.{announced, id_at, size_at}
use Rattle.ebml_numbers.proofs.NumberLemmas.{id_at-front, id_at-reads, size_at-front}
use Rattle.mkv_io.specs.declared.damage.Kind.{Kind}
use Rattle.mkv_schema.specs.declared.element.Header.{Header}
use Rattle.mkv_schema.specs.Element.{Setting, octets_between, with_body, with_size, with_id, body_damage, element_in, element_at}
use Rattle.mkv_schema.specs.Elements.{id_of}
use Rattle.mkv_schema.proofs.ElementLemmas.{element_at-placed}
use Rattle.output_model.proofs.HeldLemmas.{between-take}
use Rattle.edit_laws.proofs.SameLemmas.{AreSame}

-- a place outside the masters that are read whole; `may_open` has the IDs that may be open
abbrev pub outside : (ℕ → Bool) → Setting
outside may_open = record { may_open = may_open; display = false; read_whole = false }

-- ---- a header that was read

record Read (octets : List ℕ) (p : ℕ) (h : Header) : Type 0 where
  pub id : IdRead
  pub size : SizeRead
  pub id_is : id_at octets ≡ Ok id
  pub size_is : size_at (drop id.len octets) ≡ Ok size
  pub made : h ≡ record { id = id.id; offset = p; body = p + id.len + size.len; size = size.size }

sound-body : (made h : Header) (found : Option Kind) → with_body made found ≡ Ok h → (made ≡ h) × (found ≡ None)
sound-body made h None is = (cc, refl)
sound-body made h (Some kind) is = absurd (cc)

read_size : (may_open : ℕ → Bool) (octets : List ℕ) (total p e : ℕ) (h : Header) (id : IdRead) (read : Result SizeRead NumFault) → id_at octets ≡ Ok id → size_at (drop id.len octets) ≡ read → with_size (outside may_open) total p e id.id (p + id.len) read ≡ Ok h → Read octets p h × (body_damage (outside may_open) total e h ≡ None)
read_size may_open octets total p e h id (Err (fault.More n)) id_is is found = absurd (cc)
read_size may_open octets total p e h id (Err fault.Bad) id_is is found = absurd (cc)
read_size may_open octets total p e h id (Ok size) id_is is found =
    let made : Header = record { id = id.id; offset = p; body = p + id.len + size.len; size = size.size } in
    let sound = sound-body made h (body_damage (outside may_open) total e made) found in (
      record { id = id; size = size; id_is = id_is; size_is = is; made = sym sound.0 },
      ap (λ k. body_damage (outside may_open) total e k) (sym sound.0) ∙ sound.1,
    )

read_id : (may_open : ℕ → Bool) (octets : List ℕ) (total p e : ℕ) (h : Header) (read : Result IdRead NumFault) → id_at octets ≡ read → with_id (outside may_open) octets total p e read ≡ Ok h → Read octets p h × (body_damage (outside may_open) total e h ≡ None)
read_id may_open octets total p e h (Err fault.Bad) is found = absurd (cc)
read_id may_open octets total p e h (Err (fault.More n)) is found = absurd (cc)
read_id may_open octets total p e h (Ok id) is found = read_size may_open octets total p e h id (size_at (drop id.len octets)) is refl found

read_of : (may_open : ℕ → Bool) (octets : List ℕ) (total p e : ℕ) (h : Header) → element_in (outside may_open) octets total p e ≡ Ok h → Read octets p h × (body_damage (outside may_open) total e h ≡ None)
unfolding element_in
read_of may_open octets total p e h found = read_id may_open octets total p e h (id_at octets) refl found

-- The body of an Element that was found has no damage.
pub found-sound : (may_open : ℕ → Bool) (bytes : List ℕ) (p e : ℕ) (h : Header) → element_at (outside may_open) bytes p e ≡ Ok h → body_damage (outside may_open) (length bytes) e h ≡ None
found-sound may_open bytes p e h found = (read_of may_open (octets_between bytes p e) (length bytes) p e h found).1

-- The first of equal bytes are equal.
take-fewer : (m n : ℕ) (a b : List ℕ) → m ≤ n → take n a ≡ take n b → take m a ≡ take m b
take-fewer m n a b few same = sym (take-take m n a few) ∙ ap (take m) same ∙ take-take m n b few

-- The bytes after them are equal, too.
drop-same : (m n : ℕ) (a b : List ℕ) → take (m + n) a ≡ take (m + n) b → take n (drop m a) ≡ take n (drop m b)
drop-same m n a b same = sym (drop-take m n a) ∙ ap (drop m) same ∙ drop-take m n b

-- If the bytes of a header are the same, the Element is the same, unless its body is damaged there.
element_in-same : (may_open may_open' : ℕ → Bool) (o o' : List ℕ) (total total' p e e' : ℕ) (h : Header) → element_in (outside may_open) o total p e ≡ Ok h → take (h.body - p) o' ≡ take (h.body - p) o → body_damage (outside may_open') total' e' h ≡ None → element_in (outside may_open') o' total' p e' ≡ Ok h
unfolding element_in
element_in-same may_open may_open' o o' total total' p e e' h found same sound =
    let r = (read_of may_open o total p e h found).0 in
    let body : h.body ≡ p + r.id.len + r.size.len = ap (λ (k : Header). k.body) r.made in
    let both : take (r.id.len + r.size.len) o' ≡ take (r.id.len + r.size.len) o = take-fewer (r.id.len + r.size.len) (h.body - p) o' o (omega arith) same in
    let id : id_at o' ≡ Ok r.id = id_at-front o o' r.id r.id_is (take-fewer r.id.len (r.id.len + r.size.len) o' o (omega arith) both) in
    let size : size_at (drop r.id.len o') ≡ Ok r.size = size_at-front (drop r.id.len o) (drop r.id.len o') r.size r.size_is (drop-same r.id.len r.size.len o' o both) in
    let made : Header = record { id = r.id.id; offset = p; body = p + r.id.len + r.size.len; size = r.size.size } in
    ap (with_id (outside may_open') o' total' p e') id
    ∙ ap (with_size (outside may_open') total' p e' r.id.id (p + r.id.len)) size
    ∙ ap (λ k. with_body made k) (ap (λ k. body_damage (outside may_open') total' e' k) (sym r.made) ∙ sound)
    ∙ ap (λ k. Ok k) (sym r.made)

-- The bytes of a header are the first bytes up to an end.
header-octets : (bytes : List ℕ) (p q e : ℕ) → p ≤ q → q ≤ e → take (q - p) (octets_between bytes p e) ≡ octets_between bytes p q
header-octets bytes p q e before inside =
    let near : q ≡ p + (q - p) = omega arith in
    let far : e ≡ p + (e - p) = omega arith in
    ap (λ k. take (q - p) (octets_between bytes p k)) far
    ∙ sym (between-take bytes p (q - p) (e - p) (omega arith))
    ∙ ap (octets_between bytes p) (sym near)

-- If the bytes of its header are the same, the other content has the Element, too, unless its body is damaged there. The end of its parent and
-- the IDs that may be open don't matter.
pub found-same : (may_open may_open' : ℕ → Bool) (a b : List ℕ) (p e e' : ℕ) (h : Header) → p ≤ e → element_at (outside may_open) a p e ≡ Ok h → h.body ≤ e' → AreSame a b p h.body → body_damage (outside may_open') (length b) e' h ≡ None → element_at (outside may_open') b p e' ≡ Ok h
found-same may_open may_open' a b p e e' h before found inside same sound =
    let placed = element_at-placed (outside may_open) a p e h before found in
    let later : p ≤ h.body = omega (arith, placed.later) in
    element_in-same may_open may_open' (octets_between a p e) (octets_between b p e') (length a) (length b) p e e' h found
    (header-octets b p h.body e' later inside ∙ same ∙ sym (header-octets a p h.body e later placed.within)) sound

-- ---- an ID is found for any end of a body

id-of_body : (h : Header) (found : Option Kind) → id_of (with_body h found) ≡ h.id
id-of_body h None = refl
id-of_body h (Some kind) = refl

id_in-same : (may_open may_open' : ℕ → Bool) (o : List ℕ) (total p e : ℕ) (h : Header) → element_in (outside may_open) o total p e ≡ Ok h → id_of (element_in (outside may_open') o total p e) ≡ h.id
unfolding element_in
id_in-same may_open may_open' o total p e h found =
    let r = (read_of may_open o total p e h found).0 in
    let made : Header = record { id = r.id.id; offset = p; body = p + r.id.len + r.size.len; size = r.size.size } in
    ap (λ k. id_of (with_id (outside may_open') o total p e k)) r.id_is
    ∙ ap (λ k. id_of (with_size (outside may_open') total p e r.id.id (p + r.id.len) k)) r.size_is
    ∙ id-of_body made (body_damage (outside may_open') total e made)
    ∙ ap (λ (k : Header). k.id) (sym r.made)

-- The ID of an Element doesn't depend on the IDs that may be open.
pub id-same : (may_open may_open' : ℕ → Bool) (bytes : List ℕ) (p e : ℕ) (h : Header) → element_at (outside may_open) bytes p e ≡ Ok h → id_of (element_at (outside may_open') bytes p e) ≡ h.id
id-same may_open may_open' bytes p e h found = id_in-same may_open may_open' (octets_between bytes p e) (length bytes) p e h found

-- The ID at a place doesn't depend on the IDs that may be open, even if the place is damaged.
id_in-either : (may_open may_open' : ℕ → Bool) (o : List ℕ) (total p e : ℕ) → id_of (element_in (outside may_open') o total p e) ≡ id_of (element_in (outside may_open) o total p e)
unfolding element_in
id_in-either may_open may_open' o total p e = of-id (id_at o)
  where
    of-size : (id at : ℕ) (read : Result SizeRead NumFault) → id_of (with_size (outside may_open') total p e id at read) ≡ id_of (with_size (outside may_open) total p e id at read)
    of-size id at (Err (fault.More n)) = refl
    of-size id at (Err fault.Bad) = refl
    of-size id at (Ok size) =
        let made : Header = record { id = id; offset = p; body = at + size.len; size = size.size } in
        id-of_body made (body_damage (outside may_open') total e made) ∙ sym (id-of_body made (body_damage (outside may_open) total e made))

    of-id : (read : Result IdRead NumFault) → id_of (with_id (outside may_open') o total p e read) ≡ id_of (with_id (outside may_open) o total p e read)
    of-id (Err fault.Bad) = refl
    of-id (Err (fault.More n)) = refl
    of-id (Ok id) = of-size id.id (p + id.len) (size_at (drop id.len o))

pub id-either : (may_open may_open' : ℕ → Bool) (bytes : List ℕ) (p e : ℕ) → id_of (element_at (outside may_open') bytes p e) ≡ id_of (element_at (outside may_open) bytes p e)
id-either may_open may_open' bytes p e = id_in-either may_open may_open' (octets_between bytes p e) (length bytes) p e

-- A header has the bytes that its ID announces.
pub announced-inside : (may_open : ℕ → Bool) (bytes : List ℕ) (p e : ℕ) (h : Header) → element_at (outside may_open) bytes p e ≡ Ok h → p + announced (octets_between bytes p e) ≤ h.body
announced-inside may_open bytes p e h found =
    let r = (read_of may_open (octets_between bytes p e) (length bytes) p e h found).0 in
    let body : h.body ≡ p + r.id.len + r.size.len = ap (λ (k : Header). k.body) r.made in
    let reads = id_at-reads (octets_between bytes p e) r.id r.id_is in
    let announced = reads.announced in
    omega arith
