-- Elements that were read are Elements at their offsets.
use Rattle.std.proofs.Common.{◌≡◌, inl, inr, ℕ, zero, suc, ◌+◌, ◌-◌, ◌<◌, ◌≤◌, ◌==◌, min, Bool, true, false, ◌&&◌, if◌then◌else◌, List, [], ◌∷◌, ◌++◌, slice_index, length, length-append, take, drop, Option, Some, None, Result, Ok, Err, refl, sym, ◌∙◌, ap, ap₂, subst, arith}
use Rattle.std.proofs.lemmas.Bool.{cases_lt}
use Rattle.std.proofs.lemmas.List.{length-drop}
use Rattle.std.proofs.lemmas.List.Elements.{All-nil, All-cons}
use Rattle.ebml_numbers.specs.declared.number.IdRead.{IdRead}
use Rattle.ebml_numbers.specs.declared.number.NumFault.{NumFault}
use Rattle.ebml_numbers.specs.declared.number.NumFault.TheVariants as fault
use Rattle.ebml_numbers.specs.declared.number.Size.{Size}
use Rattle.ebml_numbers.specs.declared.number.Size.TheVariants.{Known, Unknown}
use Rattle.ebml_numbers.specs.declared.number.SizeRead.{SizeRead}
use Rattle.ebml_numbers.specs.Number.{AreOctets, all_ones, id_at, is_id, id_octets, uint_width, size_at, size_octets}
use Rattle.ebml_numbers.proofs.NumberLemmas.{id_at-within, length-uint_octets}
use Rattle.ebml_numbers.proofs.SpelledLemmas.{AreOctets-take, AreOctets-drop, id-spelled, size-spelled}
use Rattle.mkv_schema.specs.declared.element.Header.{Header}
use Rattle.mkv_schema.specs.declared.ids.TheConstants.{CHAPTER_DISPLAY}
use Rattle.mkv_io.specs.declared.damage.Damage.{Damage}
use Rattle.mkv_io.specs.declared.damage.Kind.{Kind}
use Rattle.mkv_schema.specs.Element.{Setting, in_master, display_read, octets_between, is_unknown, stated_end, end_in, body_damage, with_body, with_size, with_id, element_in, element_at}
use Rattle.mkv_schema.specs.Elements.{Run, ends_at, in_front, step, never, children_in}
use Rattle.mkv_schema.proofs.ElementLemmas.{length-octets_between, element_at-placed, element_in-whole}
use Rattle.mkv_schema.proofs.ElementsLemmas.{Advances-known, elements-more, elements-end}
use Rattle.output_model.specs.Element.{Element, IsElement, HoldsAt, header_of, octets_of, joined, header_in_place}
use Rattle.output_model.specs.Laws.{AreWritten}
use Rattle.output_model.proofs.HeldLemmas.{between-take, between-drop, between-split}
use Rattle.output_model.proofs.ReadLemmas.{length-header_of, length-octets_of}

-- ---- an Element

-- The Element `d` is at the offset `p` as it is written, and has the header `h`.
pub record IsWritten (bytes : List ℕ) (p : ℕ) (h : Header) (d : Element) : Type 0 where
  pub piece : IsElement d
  pub stands : HoldsAt bytes p (octets_of d)
  pub header : h ≡ header_in_place p d

-- An ID, a size and a body in sequence are an Element.
written-parts : (bytes : List ℕ) (p id len v w : ℕ) → is_id id ≡ true → id_octets id ≡ octets_between bytes p (p + len) → 1 ≤ w → w ≤ 8 → v < all_ones w → size_octets v w ≡ octets_between bytes (p + len) (p + len + w) → p + len + w + v ≤ length bytes
    → IsWritten bytes p (record { id = id; offset = p; body = p + len + w; size = Known v }) (record { id = id; width = w; body = octets_between bytes (p + len + w) (p + len + w + v) })
written-parts bytes p id len v w valid id_is some most fits size_is within =
    let body : List ℕ = octets_between bytes (p + len + w) (p + len + w + v) in
    let d : Element = record { id = id; width = w; body = body } in
    let id_len : uint_width id ≡ len = sym (length-uint_octets id) ∙ ap (λ (o : List ℕ). length o) id_is ∙ length-octets_between bytes p (p + len) ∙ omega arith in
    let long : length body ≡ v = length-octets_between bytes (p + len + w) (p + len + w + v) ∙ omega arith in
    let size_here : size_octets (length body) w ≡ octets_between bytes (p + len) (p + len + w) = ap (λ k. size_octets k w) long ∙ size_is in
    let head_len : length (header_of d) ≡ len + w = length-header_of d ∙ omega arith in
    let all_len : length (octets_of d) ≡ len + w + v = length-octets_of d ∙ omega arith in
    let end : p + length (octets_of d) ≡ p + len + w + v = omega arith in
    record {
      piece = record { id_stands = valid; some = some; most = most; fits = rw long fits };
      stands = ap (octets_between bytes p) end
          ∙ between-split bytes p (p + len + w) (p + len + w + v) (omega arith) (omega arith)
          ∙ ap (λ l. l ++ body) (between-split bytes p (p + len) (p + len + w) (omega arith) (omega arith) ∙ ap₂ (λ a b. a ++ b) (sym id_is) (sym size_here));
      header = λ i. record { id = id; offset = p; body = sym (places p len w (length (header_of d)) head_len) i; size = Known (sym long i) };
    }
  where
    places : (p len w n : ℕ) → n ≡ len + w → p + n ≡ p + len + w
    places p len w n is = omega arith

-- an Element that was read, with its place in the content
abbrev pub Written : List ℕ → ℕ → Header → Type 0
Written bytes p h = (d : Element) × IsWritten bytes p h d

body-same : (made h : Header) (found : Option Kind) → with_body made found ≡ Ok h → made ≡ h
body-same made h None is = cc
body-same made h (Some kind) is = absurd (cc)

-- The bytes between two offsets are a prefix of the bytes up to a later end.
between-front : (bytes : List ℕ) (p e n : ℕ) → p + n ≤ e → take n (octets_between bytes p e) ≡ octets_between bytes p (p + n)
between-front bytes p e n before_end =
    let end : e ≡ p + (e - p) = omega arith in
    ap (λ k. take n (octets_between bytes p k)) end ∙ sym (between-take bytes p n (e - p) (omega arith))

written-size : (bytes : List ℕ) (p e : ℕ) (r : IdRead) (z : SizeRead) (h : Header) → AreOctets bytes → p ≤ e → id_at (octets_between bytes p e) ≡ Ok r → size_at (drop r.len (octets_between bytes p e)) ≡ Ok z
    → record { id = r.id; offset = p; body = p + r.len + z.len; size = z.size } ≡ h → is_unknown h.size ≡ false → stated_end h ≤ length bytes → Written bytes p h
written-size bytes p e r z h octets before_end is_r is_z same known within = by_size z.size refl
  where
    by_size : (size : Size) → z.size ≡ size → Written bytes p h
    by_size Unknown is =
        let never : true ≡ false = ap is_unknown (sym is) ∙ ap (λ (x : Header). is_unknown x.size) same ∙ known in
        absurd (cc)
    by_size (Known v) is =
        let o : List ℕ = octets_between bytes p e in
        let oo : AreOctets o = AreOctets-drop p (take e bytes) (AreOctets-take e bytes octets) in
        let reads = id_at-within o r oo is_r in
        let size = size-spelled (drop r.len o) z v (AreOctets-drop r.len o oo) is_z is in
        let long = length-octets_between bytes p e in
        let rest = length-drop r.len o in
        let id_inside = reads.inside in
        let size_inside = size.inside in
        let made : record { id = r.id; offset = p; body = p + r.len + z.len; size = Known v } ≡ h = ap (λ (s : Size). record { id = r.id; offset = p; body = p + r.len + z.len; size = s }) (sym is) ∙ same in
        let end : p + r.len + z.len + v ≤ length bytes = subst (λ (x : Header). stated_end x ≤ length bytes) (sym made) within in
        let found = written-parts bytes p r.id r.len v z.len reads.valid
        (id-spelled o r oo is_r ∙ between-front bytes p e r.len (omega arith))
        size.some size.most size.fits
        (size.front ∙ ap (take z.len) (sym (between-drop bytes p r.len e)) ∙ between-front bytes (p + r.len) e z.len (omega arith))
        end in
        let d : Element = record { id = r.id; width = z.len; body = octets_between bytes (p + r.len + z.len) (p + r.len + z.len + v) } in
        (d, record { piece = found.piece; stands = found.stands; header = sym made ∙ found.header })

-- An Element of known size that was read is an Element at its offset.
pub element-written : (s : Setting) (bytes : List ℕ) (p e : ℕ) (h : Header) → AreOctets bytes → p ≤ e → s.display ≡ false → element_at s bytes p e ≡ Ok h → is_unknown h.size ≡ false → stated_end h ≤ length bytes → Written bytes p h
unfolding element_in
element-written s bytes p e h octets before_end plain found known within =
    of_id (id_at o) refl (ap (with_id s o (length bytes) p e) (sym (ap (λ (b : Bool). if b && slice_index o 0 == CHAPTER_DISPLAY then display_read else id_at o) plain)) ∙ found)
  where
    o : List ℕ
    o = octets_between bytes p e

    of_size : (r : IdRead) → id_at (octets_between bytes p e) ≡ Ok r → (z : Result SizeRead NumFault) → size_at (drop r.len (octets_between bytes p e)) ≡ z → with_size s (length bytes) p e r.id (p + r.len) z ≡ Ok h → Written bytes p h
    of_size r is_r (Err (fault.More n)) is_z is = absurd (cc)
    of_size r is_r (Err fault.Bad) is_z is = absurd (cc)
    of_size r is_r (Ok z) is_z is =
        written-size bytes p e r z h octets before_end is_r is_z (body-same (record { id = r.id; offset = p; body = p + r.len + z.len; size = z.size }) h (body_damage s (length bytes) e (record { id = r.id; offset = p; body = p + r.len + z.len; size = z.size })) is) known within

    of_id : (r : Result IdRead NumFault) → id_at (octets_between bytes p e) ≡ r → with_id s (octets_between bytes p e) (length bytes) p e r ≡ Ok h → Written bytes p h
    of_id (Err fault.Bad) is_r is = absurd (cc)
    of_id (Err (fault.More n)) is_r is = absurd (cc)
    of_id (Ok r) is_r is = of_size r is_r (size_at (drop r.len (octets_between bytes p e))) refl is

-- ---- the children of a master

nothing-between : (bytes : List ℕ) (p : ℕ) → octets_between bytes p (p + 0) ≡ []
nothing-between bytes p = of_length (octets_between bytes p (p + 0)) (length-octets_between bytes p (p + 0) ∙ omega arith)
  where
    of_length : (l : List ℕ) → length l ≡ 0 → l ≡ []
    of_length [] none = refl
    of_length (x ∷ l) none = absurd (omega arith)

children-end : (bytes : List ℕ) (p e : ℕ) → p ≡ e → AreWritten bytes p e (children_in in_master bytes p e).list
children-end bytes p e is =
    let run : children_in in_master bytes p e ≡ ends_at p = elements-end in_master never (λ h. Ok (end_in e h)) bytes p e (omega arith) in
    record {
      elements = [];
      headers = ap (λ (r : Run). r.list) run;
      are = All-nil IsElement;
      held = nothing-between bytes p;
      whole = omega arith;
    }

-- An Element before others.
children-more : (bytes : List ℕ) (p e : ℕ) → AreOctets bytes → p < e → e ≤ length bytes
    → ((q : ℕ) → p < q → q ≤ e → (children_in in_master bytes q e).damage ≡ None → AreWritten bytes q e (children_in in_master bytes q e).list)
    → (children_in in_master bytes p e).damage ≡ None → AreWritten bytes p e (children_in in_master bytes p e).list
children-more bytes p e octets inside within rest none = by_found (element_at in_master bytes p e) refl
  where
    unrolled : children_in in_master bytes p e ≡ step p (λ h. Ok (end_in e h)) (element_at in_master bytes p e) (λ q. children_in in_master bytes q e)
    unrolled = elements-more in_master never (λ h. Ok (end_in e h)) bytes p e (Advances-known in_master bytes e) inside

    by_found : (r : Result Header Damage) → element_at in_master bytes p e ≡ r → AreWritten bytes p e (children_in in_master bytes p e).list
    by_found (Err d) is =
        let broken : children_in in_master bytes p e ≡ record { list = []; damage = Some d; end = p } =
        unrolled ∙ ap (λ r. step p (λ h. Ok (end_in e h)) r (λ q. children_in in_master bytes q e)) is in
        let never_is : Some d ≡ None = sym (ap (λ (r : Run). r.damage) broken) ∙ none in
        absurd (cc)
    by_found (Ok h) is =
        let run : children_in in_master bytes p e ≡ in_front h (children_in in_master bytes (end_in e h) e) =
        unrolled ∙ ap (λ r. step p (λ x. Ok (end_in e x)) r (λ q. children_in in_master bytes q e)) is in
        let whole = element_in-whole in_master (octets_between bytes p e) (length bytes) p e h is in
        let placed = element_at-placed in_master bytes p e h (omega arith) is in
        let later = placed.later in
        let ends : stated_end h ≤ e = whole.inside refl in
        let known : is_unknown h.size ≡ false = whole.known refl in
        let at : end_in e h ≡ stated_end h = least (stated_end h) ends in
        let here = element-written in_master bytes p e h octets (omega arith) refl is known (omega arith) in
        let d : Element = here.0 in
        let written = here.1 in
        let len = length-octets_of d in
        let end : stated_end h ≡ p + length (octets_of d) = ap stated_end written.header ∙ omega arith in
        let next : end_in e h ≡ p + length (octets_of d) = at ∙ end in
        let q : ℕ = p + length (octets_of d) in
        let behind : children_in in_master bytes p e ≡ in_front h (children_in in_master bytes q e) = run ∙ ap (λ k. in_front h (children_in in_master bytes k e)) next in
        let unbroken : (children_in in_master bytes q e).damage ≡ None = sym (ap (λ (r : Run). r.damage) behind) ∙ none in
        let others = rest q (omega arith) (omega arith) unbroken in
        let ds : List Element = others.elements in
        let total = length-append (octets_of d) (joined ds) in
        let all : p + length (joined (d ∷ ds)) ≡ q + length (joined ds) = omega arith in
        record {
          elements = d ∷ ds;
          headers = ap (λ (r : Run). r.list) behind ∙ ap₂ (λ x xs. x ∷ xs) written.header others.headers;
          are = All-cons IsElement d ds written.piece others.are;
          held = ap (octets_between bytes p) all ∙ between-split bytes p q (q + length (joined ds)) (omega arith) (omega arith) ∙ ap₂ (λ a b. a ++ b) written.stands others.held;
          whole = all ∙ others.whole;
        }
      where
        least : (n : ℕ) → n ≤ e → min n e ≡ n
        least n less = omega arith

-- If no damage ends the children of a master, they are Elements at their offsets, up to its end.
pub children-written : (n : ℕ) (bytes : List ℕ) (p e : ℕ) → AreOctets bytes → p ≤ e → e ≤ length bytes → e - p ≤ n → (children_in in_master bytes p e).damage ≡ None → AreWritten bytes p e (children_in in_master bytes p e).list
children-written zero bytes p e octets before_end within few none = children-end bytes p e (omega arith)
children-written (suc n) bytes p e octets before_end within few none = elim (cases_lt p e) [
  | inl inside ↦ children-more bytes p e octets inside within (λ q later less unbroken. children-written n bytes q e octets less within (omega arith) unbroken) none
  | inr past ↦ children-end bytes p e (omega arith)
]
