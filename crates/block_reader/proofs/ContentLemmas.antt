-- Content of a block's bytes.
use Rattle.std.proofs.Common.{◌≡◌, ℕ, ℤ, ◌+◌, ◌-◌, ◌<◌, ◌≤◌, Bool, true, false, if◌then◌else◌, ◌%◌, List, [], ◌∷◌, length, take, drop, slice_index, Some, None, Ok, Err, refl, sym, ◌∙◌, ap, subst, arith}
use Rattle.std.proofs.lemmas.Bool.{cond-true, cond-false}
use Rattle.std.proofs.lemmas.List.{length-drop, length-take, drop-drop, drop-take, take-take, get_or-take}
use Rattle.std.proofs.lemmas.Bool.Decides.{nat_tests}
use Rattle.ebml_numbers.specs.declared.number.NumFault.{NumFault}
use Rattle.ebml_numbers.specs.declared.number.NumFault.TheVariants as fault
use Rattle.ebml_numbers.specs.declared.number.Size.{Size}
use Rattle.ebml_numbers.specs.declared.number.SizeRead.{SizeRead}
use Rattle.byteorder.specs.Endian.{big_number}
use Rattle.byteorder.specs.Numbers.{big_from-take}
use Rattle.ebml_numbers.specs.Number.{announced, marker, vint_data, width, size_at, int_of}
use Rattle.ebml_numbers.proofs.NumberLemmas.{size_at-more, size_at-zero, size_at-is_zero, size_at-reads}
use Rattle.mkv_io.specs.declared.damage.Kind.{Kind}
use Rattle.mkv_io.specs.declared.damage.Kind.TheVariants.{ShortBlock}
use Rattle.lacing.specs.declared.kind.Lace.{Lace}
use Rattle.lacing.specs.Reading.{data_of}
use Rattle.lacing.proofs.LaceLemmas.{data_of-size}
use Rattle.block_format.specs.Content.{has_no_header, header_len, lace_of, frames_in, frames_cut, content_with, content_in}
use Rattle.block_reader.specs.declared.content.BlockHeader.{BlockHeader}
use Rattle.block_reader.specs.Spelled.{header_of, header_in, AreFrames, Cuts, IsFront, SpellsContent}

-- ---- the header

no_header : (o : List ℕ) → has_no_header o ≡ true → header_in o ≡ None
no_header o none = cond-true (has_no_header o) None _ none

-- Bytes that begin with zero have no header.
starts_with_zero : (o : List ℕ) → slice_index o 0 ≡ 0 → has_no_header o ≡ true
starts_with_zero o first = grind (arith, nat_tests)

ends_inside : (o : List ℕ) → length o < header_len o → has_no_header o ≡ true
ends_inside o short = grind (arith, nat_tests)

-- A header needs a complete number.
pub header_in-cut : (o : List ℕ) (f : NumFault) → size_at o ≡ Err f → header_in o ≡ None
header_in-cut o (fault.More n) is =
    let cut = size_at-more n o is in
    let announces = cut.announced in
    let short = cut.short in
    no_header o (ends_inside o (omega arith))
header_in-cut o fault.Bad is = no_header o (starts_with_zero o (size_at-zero o is).1)

-- A header needs three bytes after its number.
pub header_in-short : (o : List ℕ) (r : SizeRead) → size_at o ≡ Ok r → length o < r.len + 3 → header_in o ≡ None
header_in-short o r is short =
    let reads = size_at-reads o r is in
    let announces = reads.announced in
    no_header o (ends_inside o (omega arith))

-- The first byte of a number isn't zero.
first_octet : (o : List ℕ) (r : SizeRead) → size_at o ≡ Ok r → slice_index o 0 ≡ 0 → ⊥
first_octet [] r is first = let cut = (size_at-reads [] r is).inside in let announces = (size_at-reads [] r is).announced in absurd (omega arith)
first_octet (octet ∷ rest) r is first = let bad = size_at-is_zero (octet ∷ rest) (omega arith, first) in absurd (cc)

-- Otherwise the header is complete.
header_in-whole : (o : List ℕ) (r : SizeRead) → size_at o ≡ Ok r → r.len + 3 ≤ length o → header_in o ≡ Some (record { track = data_of r.size r.len; relative = int_of (take 2 (drop r.len o)); flags = slice_index o (r.len + 2); len = r.len + 3 })
header_in-whole o r is whole =
    let reads = size_at-reads o r is in
    let announces : announced o ≡ r.len = reads.announced in
    let never = first_octet o r is in
    let track : vint_data r.len o ≡ data_of r.size r.len = sym (data_of-size r.len (vint_data r.len o)) ∙ ap (λ (s : Size). data_of s r.len) reads.size in
    let none : has_no_header o ≡ false = has_header o (omega arith) never in
    cond-false (has_no_header o) None _ none
    ∙ ap (λ (n : ℕ). Some (record { track = vint_data n o; relative = int_of (take 2 (drop n o)); flags = slice_index o (n + 2); len = n + 3 })) announces
    ∙ ap (λ (t : ℕ). Some (record { track = t; relative = int_of (take 2 (drop r.len o)); flags = slice_index o (r.len + 2); len = r.len + 3 })) track
  where
    has_header : (o : List ℕ) → header_len o ≤ length o → (slice_index o 0 ≡ 0 → ⊥) → has_no_header o ≡ false
    has_header o whole never = grind (arith, nat_tests)

-- The header in a reader's terms.
pub header_in-found : (o : List ℕ) (r : SizeRead) (w t : ℕ) (z : ℤ) → size_at o ≡ Ok r → w ≡ r.len → w + 3 ≤ length o → t ≡ data_of r.size r.len → z ≡ int_of (take (w + 2 - w) (drop w o)) → header_in o ≡ Some (record { track = t; relative = z; flags = slice_index o (w + 2); len = w + 3 })
header_in-found o r w t z is width whole track relative =
    let two : w + 2 - w ≡ 2 = omega arith in
    let time : z ≡ int_of (take 2 (drop w o)) = relative ∙ ap (λ (n : ℕ). int_of (take n (drop w o))) two in
    header_in-whole o r is (omega arith)
    ∙ ap (λ (x : ℕ). Some (record { track = x; relative = int_of (take 2 (drop r.len o)); flags = slice_index o (r.len + 2); len = r.len + 3 })) (sym track)
    ∙ ap (λ (n : ℕ). Some (record { track = t; relative = int_of (take 2 (drop n o)); flags = slice_index o (n + 2); len = n + 3 })) (sym width)
    ∙ ap (λ (x : ℤ). Some (record { track = t; relative = x; flags = slice_index o (w + 2); len = w + 3 })) (sym time)

-- ---- header and frames

-- `h` is the header at the start of `o`.
record HasHeader (o : List ℕ) (h : BlockHeader) : Type 0 where
  found : has_no_header o ≡ false
  is : header_of o ≡ h
  inside : h.len ≤ length o

has_header : (o : List ℕ) → has_no_header o ≡ false → header_len o ≤ length o
has_header o test = grind (arith, nat_tests)

HasHeader-from : (o : List ℕ) (h : BlockHeader) → Some h ≡ header_in o → HasHeader o h
HasHeader-from o h found = split (has_no_header o) refl found
  where
    split : (none : Bool) → has_no_header o ≡ none → Some h ≡ (if none then None else Some (header_of o)) → HasHeader o h
    split true test is = absurd (cc)
    split false test is =
        let same : header_of o ≡ h = cc in
        let len : header_len o ≡ h.len = ap (λ (x : BlockHeader). x.len) same in
        let whole = has_header o test in
        record { found = test; is = same; inside = omega arith }

-- Bytes without a header aren't a block.
pub content_in-none : (o : List ℕ) → None ≡ header_in o → content_in o ≡ Err ShortBlock
unfolding content_in
content_in-none o none = split (has_no_header o) refl none
  where
    split : (test : Bool) → has_no_header o ≡ test → None ≡ (if test then None else Some (header_of o)) → content_in o ≡ Err ShortBlock
    split true test is = cond-true (has_no_header o) (Err ShortBlock) _ test
    split false test is = absurd (cc)

-- After a header, the frames decide.
content_in-frames : (o : List ℕ) (h : BlockHeader) → HasHeader o h → content_in o ≡ content_with o (frames_in (lace_of h.flags) (drop h.len o))
unfolding content_in
content_in-frames o h has =
    cond-false (has_no_header o) (Err ShortBlock) _ has.found
    ∙ ap (λ (x : BlockHeader). content_with o (frames_in (lace_of x.flags) (drop x.len o))) has.is

-- An error in the frames is an error in the block.
pub SpellsContent-err : (o : List ℕ) (h : BlockHeader) (kind : Lace) (rest : List ℕ) (wrong : Kind) → Some h ≡ header_in o → kind ≡ lace_of h.flags → rest ≡ drop h.len o → frames_in kind rest ≡ Err wrong → content_in o ≡ Err wrong
SpellsContent-err o h kind rest wrong found lace behind is =
    content_in-frames o h (HasHeader-from o h found)
    ∙ ap (content_with o) (sym (ap (λ (l : Lace). frames_in l rest) lace ∙ ap (frames_in (lace_of h.flags)) behind) ∙ is)

-- The frames begin `n` bytes later if `n` bytes are put before.
AreFrames-behind : (kind : Lace) (o sizes : List ℕ) (n start : ℕ) → n ≤ length o → AreFrames kind (drop n o) sizes start → AreFrames kind o sizes (n + start)
AreFrames-behind kind o sizes n start within frames =
    let rest = length-drop n o in
    let inside = frames.inside in
    let whole = frames.whole in
    record { inside = omega arith; whole = omega arith; some = frames.some; most = frames.most; fits = frames.fits }

-- A header and its frames are a block.
pub SpellsContent-ok : (o sizes : List ℕ) (h : BlockHeader) (kind : Lace) (rest : List ℕ) (start : ℕ) (z : ℤ) → Some h ≡ header_in o → kind ≡ lace_of h.flags → rest ≡ drop h.len o → z ≡ h.relative → Cuts kind rest sizes (frames_in kind rest) (Ok start) → SpellsContent o sizes (Ok (record { track = h.track; relative = z; flags = h.flags; start = h.len + start }))
SpellsContent-ok o sizes h kind rest start z found lace behind relative cuts =
    let has = HasHeader-from o h found in
    let all : frames_in (lace_of h.flags) (drop h.len o) ≡ Ok (frames_cut sizes (drop (h.len + start) o)) =
    sym (ap (λ (l : Lace). frames_in l rest) lace ∙ ap (frames_in (lace_of h.flags)) behind) ∙ cuts.0
    ∙ ap (λ (l : List ℕ). Ok (frames_cut sizes (drop start l))) behind
    ∙ ap (λ (l : List ℕ). Ok (frames_cut sizes l)) (drop-drop start h.len o) in (
      content_in-frames o h has ∙ ap (content_with o) all
          ∙ ap (λ (x : BlockHeader). Ok (record { track = x.track; relative = x.relative; flags = x.flags; frames = frames_cut sizes (drop (h.len + start) o) })) has.is
          ∙ ap (λ (x : ℤ). Ok (record { track = h.track; relative = x; flags = h.flags; frames = frames_cut sizes (drop (h.len + start) o) })) (sym relative),
      AreFrames-behind (lace_of h.flags) o sizes h.len start has.inside (subst (λ (l : Lace). AreFrames l (drop h.len o) sizes start) lace (subst (λ (l : List ℕ). AreFrames kind l sizes start) behind cuts.1)),
    )

-- ---- the first bytes

-- The header depends only on its own bytes.
header_of-front : (front octets : List ℕ) → IsFront front octets → has_no_header front ≡ false → (header_of front ≡ header_of octets) × (has_no_header octets ≡ false)
header_of-front front octets is found = (same, whole)
  where
    long : header_len front ≤ length front
    long = has_header front found

    some : slice_index front 0 ≡ 0 → ⊥
    some zero = let none = starts_with_zero front zero in absurd (cc)

    within : length front ≤ length octets
    within = let count : length front ≡ length (take (length front) octets) = ap length is in let most = length-take (length front) octets in omega arith

    takes : (k : ℕ) → k ≤ length front → take k front ≡ take k octets
    takes k few = ap (take k) is ∙ take-take k (length front) octets few

    at : (k : ℕ) → k < length front → slice_index front k ≡ slice_index octets k
    at k inside = ap (λ (o : List ℕ). slice_index o k) is ∙ get_or-take (length front) octets k 0 inside

    announces : announced front ≡ announced octets
    announces = first front octets (takes 1 (omega (arith, long))) (omega (arith, long))
      where
        first : (o p : List ℕ) → take 1 o ≡ take 1 p → 1 ≤ length o → announced o ≡ announced p
        first [] p same some = absurd (omega arith)
        first (x ∷ xs) [] same some = absurd (cc)
        first (x ∷ xs) (y ∷ ys) same some = let one : x ≡ y = cc in ap width one

    number : (w : ℕ) → w ≤ length front → vint_data w front ≡ vint_data w octets
    number w few = ap (λ (n : ℕ). n % marker w) (sym (big_from-take 0 w w front (omega arith)) ∙ ap (big_number w) (takes w few) ∙ big_from-take 0 w w octets (omega arith))

    time : (w : ℕ) → w + 2 ≤ length front → int_of (take 2 (drop w front)) ≡ int_of (take 2 (drop w octets))
    time w few = ap int_of (sym (drop-take w 2 front) ∙ ap (drop w) (takes (w + 2) few) ∙ drop-take w 2 octets)

    w : ℕ
    w = announced front

    same : header_of front ≡ header_of octets
    same =
        ap (λ (t : ℕ). record { track = t; relative = int_of (take 2 (drop w front)); flags = slice_index front (w + 2); len = w + 3 }) (number w (omega (arith, long)))
        ∙ ap (λ (z : ℤ). record { track = vint_data w octets; relative = z; flags = slice_index front (w + 2); len = w + 3 }) (time w (omega (arith, long)))
        ∙ ap (λ (n : ℕ). record { track = vint_data w octets; relative = int_of (take 2 (drop w octets)); flags = n; len = w + 3 }) (at (w + 2) (omega (arith, long)))
        ∙ ap (λ (n : ℕ). header_at n) announces
      where
        header_at : ℕ → BlockHeader
        header_at n = record { track = vint_data n octets; relative = int_of (take 2 (drop n octets)); flags = slice_index octets (n + 2); len = n + 3 }

    whole : has_no_header octets ≡ false
    whole =
        let first = at 0 (omega (arith, long)) in
        let inside : header_len octets ≤ length octets = omega (arith, long, within, announces) in
        grind (arith, nat_tests, first, inside, some)

-- The header in `front`, with the frames after it, is the block's content.
pub content_in-front : (front octets : List ℕ) (h : BlockHeader) (frames : List (List ℕ)) → IsFront front octets → Some h ≡ header_in front → frames_in (lace_of h.flags) (drop h.len octets) ≡ Ok frames
    → content_in octets ≡ Ok (record { track = h.track; relative = h.relative; flags = h.flags; frames = frames })
content_in-front front octets h frames is found frames_are =
    let had = HasHeader-from front h found in
    let front_is = header_of-front front octets is had.found in
    let has : HasHeader octets h = record {
      found = front_is.1;
      is = sym front_is.0 ∙ had.is;
      inside = let whole = has_header octets front_is.1 in let len : header_len octets ≡ h.len = ap (λ (x : BlockHeader). x.len) (sym front_is.0 ∙ had.is) in omega arith;
    } in
    content_in-frames octets h has
    ∙ ap (content_with octets) frames_are
    ∙ ap (λ (x : BlockHeader). Ok (record { track = x.track; relative = x.relative; flags = x.flags; frames = frames })) has.is

-- The header in `front` ends within `front`.
pub header_in-front : (front : List ℕ) (h : BlockHeader) → Some h ≡ header_in front → (has_no_header front ≡ false) × (header_of front ≡ h) × (h.len ≤ length front)
header_in-front front h found = let has = HasHeader-from front h found in (has.found, has.is, has.inside)
