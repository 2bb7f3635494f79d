-- Written Elements are read back at their offsets.
use Rattle.std.proofs.Common.{◌≡◌, ℕ, ◌+◌, ◌≤◌, ◌==◌, nat_lt, not, min, Bool, true, false, ◌&&◌, if◌then◌else◌, List, [], ◌∷◌, ◌++◌, slice_index, append-nil, append_assoc, length, length-append, drop, All, Some, None, Ok, refl, sym, ◌∙◌, ap, ap₂, arith}
use Rattle.std.proofs.lemmas.Bool.{le-ltb, cond-false}
use Rattle.std.proofs.lemmas.List.Elements.{All-head, All-tail}
use Rattle.std.proofs.Math.Seq.{drop-append_seam}
use Rattle.ebml_numbers.specs.declared.number.Size.TheVariants.{Known}
use Rattle.ebml_numbers.specs.Number.{is_id, id_at, id_octets, uint_width, size_at, size_octets}
use Rattle.ebml_numbers.proofs.NumberLemmas.{id_at-octets, size_at-octets, length-uint_octets, length-size_octets}
use Rattle.mkv_schema.specs.declared.ids.TheConstants.{CHAPTER_DISPLAY}
use Rattle.mkv_io.specs.declared.damage.Kind.TheVariants.{TooLong, Truncated, UnknownSize}
use Rattle.mkv_schema.specs.declared.element.Header.{Header}
use Rattle.mkv_schema.specs.Element.{Setting, octets_between, display_read, id_in, is_unknown, stated_end, end_in, has_unknown_size, is_truncated, is_too_long, body_damage, with_body, with_size, with_id, element_in, element_at}
use Rattle.mkv_schema.specs.Elements.{Next, ends_at, in_front, behind, step, id_of, never, elements, children_in}
use Rattle.mkv_schema.specs.Value.{body_of}
use Rattle.mkv_schema.proofs.ElementsLemmas.{Advances, Advances-known, elements-more, elements-end}
use Rattle.output_model.specs.Element.{Element, IsElement, HoldsAt, header_of, octets_of, joined, header_in_place, headers_in_place, all_in_front}
use Rattle.output_model.proofs.HeldLemmas.{held-left, held-right, held-front, held-within}

-- ---- lengths

pub length-header_of : (d : Element) → length (header_of d) ≡ uint_width d.id + d.width
length-header_of d =
    length-append (id_octets d.id) (size_octets (length d.body) d.width)
    ∙ ap₂ (λ m n. m + n) (length-uint_octets d.id) (length-size_octets (length d.body) d.width)

pub length-octets_of : (d : Element) → length (octets_of d) ≡ length (header_of d) + length d.body
length-octets_of d = length-append (header_of d) d.body

-- An Element has at least one byte.
pub octets_of-some : (d : Element) → IsElement d → 1 ≤ length (octets_of d)
octets_of-some d is =
    let some = is.some in
    omega (arith, length-octets_of d, length-header_of d)

-- ---- one Element

and-middle : (a b c : Bool) → b ≡ false → (a && b && c) ≡ false
and-middle true true c is = absurd (cc)
and-middle true false c is = refl
and-middle false b c is = refl

and-first : (a b : Bool) → a ≡ false → (a && b) ≡ false
and-first true b is = absurd (cc)
and-first false b is = refl

-- A body of known size that passes no end has no damage.
pub body-stands : (s : Setting) (total e : ℕ) (h : Header) → is_unknown h.size ≡ false → stated_end h ≤ e → stated_end h ≤ total → with_body h (body_damage s total e h) ≡ Ok h
body-stands s total e h known ends within =
    ap (with_body h)
    (cond-false (has_unknown_size s h) (Some UnknownSize) _ (and-first (is_unknown h.size) (not (s.may_open h.id)) known)
    ∙ cond-false (is_truncated s total e h) (Some Truncated) _ (and-middle (not s.read_whole) (nat_lt total (stated_end h)) _ (le-ltb _ _ within))
    ∙ cond-false (is_too_long s total e h) (Some TooLong) _ (and-first (nat_lt e (stated_end h)) _ (le-ltb _ _ ends)))

-- A valid ID is read, in a setting that doesn't read the byte `80` as an ID.
id_in-read : (s : Setting) (id : ℕ) (rest : List ℕ) → s.display ≡ false → is_id id ≡ true → id_in s (id_octets id ++ rest) ≡ Ok (record { id = id; len = uint_width id })
id_in-read s id rest plain valid =
    ap (λ (b : Bool). if b && slice_index (id_octets id ++ rest) 0 == CHAPTER_DISPLAY then display_read else id_at (id_octets id ++ rest)) plain
    ∙ id_at-octets id rest valid

pub element_in-read : (s : Setting) (d : Element) (rest : List ℕ) (total p e : ℕ) → s.display ≡ false → IsElement d → p + length (octets_of d) ≤ e → p + length (octets_of d) ≤ total
    → element_in s (octets_of d ++ rest) total p e ≡ Ok (header_in_place p d)
unfolding element_in
element_in-read s d rest total p e plain is ends within =
    let sized : List ℕ = size_octets (length d.body) d.width ++ (d.body ++ rest) in
    let apart : octets_of d ++ rest ≡ id_octets d.id ++ sized =
    append_assoc (header_of d) d.body rest ∙ append_assoc (id_octets d.id) (size_octets (length d.body) d.width) (d.body ++ rest) in
    let tail : drop (uint_width d.id) (id_octets d.id ++ sized) ≡ sized =
    ap (λ k. drop k (id_octets d.id ++ sized)) (sym (length-uint_octets d.id)) ∙ drop-append_seam (id_octets d.id) sized in
    let place : p + uint_width d.id + d.width ≡ p + length (header_of d) = omega (arith, length-header_of d) in
    let whole = length-octets_of d in
    ap (λ o. with_id s o total p e (id_in s o)) apart
    ∙ ap (with_id s (id_octets d.id ++ sized) total p e) (id_in-read s d.id sized plain is.id_stands)
    ∙ ap (with_size s total p e d.id (p + uint_width d.id)) (ap size_at tail ∙ size_at-octets (length d.body) d.width (d.body ++ rest) is.some is.most is.fits)
    ∙ ap (λ b. with_body (record { id = d.id; offset = p; body = b; size = Known (length d.body) }) (body_damage s total e (record { id = d.id; offset = p; body = b; size = Known (length d.body) }))) place
    ∙ body-stands s total e (header_in_place p d) refl (omega arith) (omega arith)

-- An Element at an offset is read there.
pub element_at-read : (s : Setting) (bytes : List ℕ) (d : Element) (p e : ℕ) → s.display ≡ false → IsElement d → HoldsAt bytes p (octets_of d) → p + length (octets_of d) ≤ e
    → element_at s bytes p e ≡ Ok (header_in_place p d)
element_at-read s bytes d p e plain is stands ends =
    ap (λ o. element_in s o (length bytes) p e) (held-front bytes p e (octets_of d) stands ends)
    ∙ element_in-read s d (octets_between bytes (p + length (octets_of d)) e) (length bytes) p e plain is ends (held-within bytes p (octets_of d) stands (octets_of-some d is))

-- Its body follows its header.
pub stands-body : (bytes : List ℕ) (p : ℕ) (d : Element) → HoldsAt bytes p (octets_of d) → HoldsAt bytes (p + length (header_of d)) d.body
stands-body bytes p d stands = held-right bytes p (header_of d) d.body stands

pub body_of-read : (bytes : List ℕ) (p : ℕ) (d : Element) → HoldsAt bytes p (octets_of d) → body_of bytes (header_in_place p d) ≡ d.body
body_of-read bytes p d stands = stands-body bytes p d stands

-- The bytes of an Element are its header and body.
pub octets-read : (bytes : List ℕ) (p : ℕ) (d : Element) → HoldsAt bytes p (octets_of d) → octets_between bytes p (stated_end (header_in_place p d)) ≡ octets_of d
octets-read bytes p d stands =
    let end : p + length (header_of d) + length d.body ≡ p + length (octets_of d) = omega (arith, length-octets_of d) in
    ap (octets_between bytes p) end ∙ stands

-- ---- Elements in sequence

-- No Element of known size ends this list, and the next one follows at its end.
pub record Lists (s : Setting) (stops : ℕ → Bool) (next : Next) (bytes : List ℕ) (e : ℕ) : Type 0 where
  pub plain : s.display ≡ false
  pub advances : Advances s next bytes e
  pub next_is : (h : Header) → is_unknown h.size ≡ false → next h ≡ Ok (end_in e h)

-- An Element, then the Elements after it.
pub elements-read_one : (s : Setting) (stops : ℕ → Bool) (next : Next) (bytes : List ℕ) (d : Element) (p e : ℕ) → Lists s stops next bytes e → IsElement d → stops d.id ≡ false → HoldsAt bytes p (octets_of d) → p + length (octets_of d) ≤ e
    → elements s stops next bytes p e ≡ in_front (header_in_place p d) (elements s stops next bytes (p + length (octets_of d)) e)
elements-read_one s stops next bytes d p e lists is goes stands ends =
    let some = octets_of-some d is in
    let found = element_at-read s bytes d p e lists.plain is stands ends in
    let whole = length-octets_of d in
    let end : min (p + length (header_of d) + length d.body) e ≡ p + length (octets_of d) = omega arith in
    elements-more s stops next bytes p e lists.advances (omega arith)
    ∙ ap (λ r. if stops (id_of r) then ends_at p else step p next r (λ q. elements s stops next bytes q e)) found
    ∙ cond-false (stops d.id) (ends_at p) _ goes
    ∙ ap (λ q. behind p (header_in_place p d) q (λ q. elements s stops next bytes q e)) (lists.next_is (header_in_place p d) refl)
    ∙ ap (λ q. in_front (header_in_place p d) (elements s stops next bytes q e)) end

pub elements-read : (s : Setting) (stops : ℕ → Bool) (next : Next) (bytes : List ℕ) (ds : List Element) (p e : ℕ) → Lists s stops next bytes e → All IsElement ds → All (λ d. stops d.id ≡ false) ds → HoldsAt bytes p (joined ds) → p + length (joined ds) ≤ e
    → elements s stops next bytes p e ≡ all_in_front (headers_in_place p ds) (elements s stops next bytes (p + length (joined ds)) e)
elements-read s stops next bytes [] p e lists are go stand ends =
    let same : p ≡ p + 0 = omega arith in
    ap (λ q. elements s stops next bytes q e) same
elements-read s stops next bytes (d ∷ ds) p e lists are go stand ends =
    let len = length-append (octets_of d) (joined ds) in
    let q : ℕ = p + length (octets_of d) in
    let end : q + length (joined ds) ≡ p + length (joined (d ∷ ds)) = omega arith in
    elements-read_one s stops next bytes d p e lists (All-head IsElement d ds are) (All-head (λ (x : Element). stops x.id ≡ false) d ds go) (held-left bytes p (octets_of d) (joined ds) stand) (omega arith)
    ∙ ap (in_front (header_in_place p d)) (elements-read s stops next bytes ds q e lists (All-tail IsElement d ds are) (All-tail (λ (x : Element). stops x.id ≡ false) d ds go) (held-right bytes p (octets_of d) (joined ds) stand) (omega arith))
    ∙ ap (λ k. all_in_front (headers_in_place p (d ∷ ds)) (elements s stops next bytes k e)) end

-- ---- the children of a master

pub Lists-children : (s : Setting) (bytes : List ℕ) (e : ℕ) → s.display ≡ false → Lists s never (λ h. Ok (end_in e h)) bytes e
Lists-children s bytes e plain = record { plain = plain; advances = Advances-known s bytes e; next_is = λ h known. refl }

-- If a body begins with Elements, its children are these, then the Elements after them.
pub children-read : (s : Setting) (bytes : List ℕ) (ds : List Element) (p e : ℕ) → s.display ≡ false → All IsElement ds → HoldsAt bytes p (joined ds) → p + length (joined ds) ≤ e
    → children_in s bytes p e ≡ all_in_front (headers_in_place p ds) (children_in s bytes (p + length (joined ds)) e)
children-read s bytes ds p e plain are stand ends =
    elements-read s never (λ h. Ok (end_in e h)) bytes ds p e (Lists-children s bytes e plain) are (λ k d below. refl) stand ends

-- If a body consists of Elements, its children are exactly these.
pub children-all : (s : Setting) (bytes : List ℕ) (ds : List Element) (p : ℕ) → s.display ≡ false → All IsElement ds → HoldsAt bytes p (joined ds)
    → children_in s bytes p (p + length (joined ds)) ≡ record { list = headers_in_place p ds; damage = None; end = p + length (joined ds) }
children-all s bytes ds p plain are stand =
    let e : ℕ = p + length (joined ds) in
    children-read s bytes ds p e plain are stand (omega arith)
    ∙ ap (all_in_front (headers_in_place p ds)) (elements-end s never (λ h. Ok (end_in e h)) bytes e e (omega arith))
    ∙ ap (λ hs. record { list = hs; damage = None; end = e }) (append-nil (headers_in_place p ds))
