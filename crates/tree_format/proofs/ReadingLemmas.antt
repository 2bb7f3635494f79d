-- The Elements of a body, one step at a time.
use Rattle.std.proofs.Common.{◌≡◌, ℕ, zero, suc, ◌+◌, ◌-◌, ◌<◌, ◌≤◌, ◌==◌, nat_lt, Bool, true, false, ◌&&◌, if◌then◌else◌, List, [], ◌∷◌, ◌++◌, slice_index, append-nil, append_assoc, length, drop, Option, Some, None, Result, Ok, Err, refl, sym, ◌∙◌, ap, subst, arith}
use Rattle.std.proofs.lemmas.List.{length-take, length-drop}
use Rattle.std.proofs.lemmas.Bool.Decides.{nat_tests}
use Rattle.ebml_numbers.specs.declared.number.IdRead.{IdRead}
use Rattle.ebml_numbers.specs.declared.number.NumFault.{NumFault}
use Rattle.ebml_numbers.specs.declared.number.NumFault.TheVariants as fault
use Rattle.ebml_numbers.specs.declared.number.SizeRead.{SizeRead}
use Rattle.ebml_numbers.specs.declared.number.Size.TheVariants.{Unknown}
use Rattle.ebml_numbers.specs.Number.{AreOctets, is_id, is_written_id, id_at}
use Rattle.ebml_numbers.proofs.NumberLemmas.{id_at-within}
use Rattle.mkv_schema.specs.declared.ids.TheConstants.{CHAPTER_ATOM, CHAPTER_DISPLAY}
use Rattle.mkv_io.specs.declared.damage.Damage.{Damage}
use Rattle.mkv_io.specs.declared.damage.Kind.{Kind}
use Rattle.mkv_io.specs.declared.damage.Kind.TheVariants.{TooMany, BadValue, TooLong, UnknownSize}
use Rattle.mkv_schema.specs.declared.element.Header.{Header}
use Rattle.mkv_schema.specs.Element.{in_tree, element_in, id_in, with_id, with_size, with_body, body_damage, display_read, is_unknown, known, stated_end}
use Rattle.mkv_schema.specs.Value.{is_known_value}
use Rattle.mkv_schema.proofs.ElementLemmas.{element_in-placed}
use Rattle.mkv_io.specs.Results.{and_then}
use Rattle.tree_format.specs.Node.{Node, leaf, nodes_of, depth, depth_all}
use Rattle.tree_format.proofs.NodeLemmas.{depth_all-append}
use Rattle.tree_format.specs.Fits.{Fits}
use Rattle.tree_format.specs.Reading.{Reader, Grove, Grown, header_at, inside, behind, is_master_in, refused, as_master, grown, with_first, first_then, grove_within, grove}
use Rattle.lemmas.proofs.PlainLemmas.{or-true}

-- ---- the place of a header

-- An Element without damage has a known size, and ends in its parent.
pub record IsWhole (e : ℕ) (h : Header) : Type 0 where
  pub known : is_unknown h.size ≡ false
  pub ends : stated_end h ≤ e

whole-body : (parent total e : ℕ) (made h : Header) → with_body made (body_damage (in_tree parent) total e made) ≡ Ok h → IsWhole e h
whole-body parent total e made h is = split (is_unknown made.size) (nat_lt e (stated_end made)) refl refl is
  where
    split : (unknown passes : Bool) → is_unknown made.size ≡ unknown → nat_lt e (stated_end made) ≡ passes
        → with_body made (if unknown && true then Some UnknownSize else if passes && true then Some TooLong else None) ≡ Ok h → IsWhole e h
    split true passes u t is = absurd (cc)
    split false true u t is = absurd (cc)
    split false false u t is =
        let same : made ≡ h = cc in
        let P : Header → Type 0 = IsWhole e in
        subst P same (record { known = u; ends = grind (arith, nat_tests) })

whole-size : (parent total p e id at : ℕ) (h : Header) (read : Result SizeRead NumFault) → with_size (in_tree parent) total p e id at read ≡ Ok h → IsWhole e h
whole-size parent total p e id at h (Err (fault.More n)) is = absurd (cc)
whole-size parent total p e id at h (Err fault.Bad) is = absurd (cc)
whole-size parent total p e id at h (Ok size) is =
    whole-body parent total e (record { id = id; offset = p; body = at + size.len; size = size.size }) h is

whole-id : (parent : ℕ) (octets : List ℕ) (total p e : ℕ) (h : Header) (read : Result IdRead NumFault) → with_id (in_tree parent) octets total p e read ≡ Ok h → IsWhole e h
whole-id parent octets total p e h (Err fault.Bad) is = absurd (cc)
whole-id parent octets total p e h (Err (fault.More n)) is = absurd (cc)
whole-id parent octets total p e h (Ok id) is = whole-size parent total p e id.id (p + id.len) h _ is

pub header_at-fits : (parent p : ℕ) (octets : List ℕ) (h : Header) → header_at parent p octets ≡ Ok h → Fits p (p + length octets) h
unfolding element_in
header_at-fits parent p octets h is =
    let placed = element_in-placed (in_tree parent) octets (p + length octets) p (p + length octets) h (omega arith) is in
    let whole = whole-id parent octets (p + length octets) p (p + length octets) h _ is in
    record { offset = placed.offset; later = placed.later; known = whole.known; ends = whole.ends }

-- Its body, and the bytes after it, are shorter than all bytes.
pub length-inside : (p : ℕ) (octets : List ℕ) (h : Header) → Fits p (p + length octets) h → length (inside p h octets) < length octets
length-inside p octets h fits =
    let later = fits.later in let ends = fits.ends in
    simp (length-take, length-drop) (omega arith)

pub length-behind : (p : ℕ) (octets : List ℕ) (h : Header) → Fits p (p + length octets) h → length (behind p h octets) < length octets
length-behind p octets h fits =
    let later = fits.later in let ends = fits.ends in
    simp length-drop (omega arith)

-- ---- a larger bound changes nothing

pub and_then-same : {A B : Type 0} (r : Result A Damage) (f g : A → Result B Damage) → ((x : A) → r ≡ Ok x → f x ≡ g x) → and_then r f ≡ and_then r g
and_then-same (Ok x) f g same = same x refl
and_then-same (Err d) f g same = refl

grown-same : (f g : Reader) (room left parent : ℕ) (h : Header) (body : List ℕ) → f (room - 1) (left - 1) h.id h.body body ≡ g (room - 1) (left - 1) h.id h.body body → grown f room left parent h body ≡ grown g room left parent h body
grown-same f g room left parent h body same =
    ap (λ (r : Result Grove Damage). if left == 0 then refused TooMany h.id h.offset else
    if is_master_in parent h.id then
    (if room == 0 then refused TooMany h.id h.offset else and_then r (as_master h))
    else if is_known_value parent h.id body then Ok (record { tree = leaf h.id h.offset body; left = left - 1 })
    else refused BadValue h.id h.offset) same

-- The readers `f` and `g` give the same for every list of fewer than `n` bytes.
SameBelow : ℕ → Reader → Reader → Type 0
SameBelow n f g = (room left parent p : ℕ) (octets : List ℕ) → length octets < n → f room left parent p octets ≡ g room left parent p octets

first_then-same : (f g : Reader) (room left parent p : ℕ) (octets : List ℕ) (h : Header) → Fits p (p + length octets) h → SameBelow (length octets) f g → first_then f room left parent p octets h ≡ first_then g room left parent p octets h
unfolding SameBelow
first_then-same f g room left parent p octets h fits same =
    ap (λ (r : Result Grown Damage). and_then r (λ x. and_then (f room x.left parent (stated_end h) (behind p h octets)) (with_first x.tree)))
    (grown-same f g room left parent h (inside p h octets) (same (room - 1) (left - 1) h.id h.body (inside p h octets) (length-inside p octets h fits)))
    ∙ and_then-same (grown g room left parent h (inside p h octets)) _ _
    (λ x is. ap (λ r. and_then r (with_first x.tree)) (same room x.left parent (stated_end h) (behind p h octets) (length-behind p octets h fits)))

within-same : (n m : ℕ) (room left parent p : ℕ) (octets : List ℕ) → length octets ≤ n → length octets ≤ m → grove_within n room left parent p octets ≡ grove_within m room left parent p octets
unfolding grove_within SameBelow
within-same n m room left parent p [] few enough = refl
within-same zero m room left parent p (o ∷ octets) few enough = absurd (omega arith)
within-same (suc n) zero room left parent p (o ∷ octets) few enough = absurd (omega arith)
within-same (suc n) (suc m) room left parent p (o ∷ octets) few enough =
    and_then-same (header_at parent p (o ∷ octets)) _ _
    (λ h is. first_then-same (grove_within n) (grove_within m) room left parent p (o ∷ octets) h (header_at-fits parent p (o ∷ octets) h is)
    (λ r l q k body shorter. within-same n m r l q k body (omega arith) (omega arith)))

-- ---- the two laws of a body

-- If no byte is left, there is no Element.
pub grove-end : (room left parent p : ℕ) → grove room left parent p [] ≡ Ok (record { trees = []; left = left })
unfolding grove grove_within
grove-end room left parent p = refl

-- Otherwise there is an Element and the Elements after it, or a damage.
pub grove-more : (room left parent p : ℕ) (octets : List ℕ) → 0 < length octets → grove room left parent p octets ≡ and_then (header_at parent p octets) (first_then grove room left parent p octets)
unfolding grove grove_within SameBelow
grove-more room left parent p [] some = absurd (omega arith)
grove-more room left parent p (o ∷ octets) some =
    and_then-same (header_at parent p (o ∷ octets)) _ _
    (λ h is. first_then-same (grove_within (length octets)) grove room left parent p (o ∷ octets) h (header_at-fits parent p (o ∷ octets) h is)
    (λ r l q k body shorter. within-same (length octets) (length body) r l q k body (omega arith) (omega arith)))

-- ---- the ID that is read

id-of-body : (made h : Header) (found : Option Kind) → with_body made found ≡ Ok h → made.id ≡ h.id
id-of-body made h None is = let same : made ≡ h = cc in ap (λ (x : Header). x.id) same
id-of-body made h (Some kind) is = absurd (cc)

pub id-of-size : (parent total p e id at : ℕ) (h : Header) (read : Result SizeRead NumFault) → with_size (in_tree parent) total p e id at read ≡ Ok h → id ≡ h.id
id-of-size parent total p e id at h (Err (fault.More n)) is = absurd (cc)
id-of-size parent total p e id at h (Err fault.Bad) is = absurd (cc)
id-of-size parent total p e id at h (Ok size) is =
    let made : Header = record { id = id; offset = p; body = at + size.len; size = size.size } in
    id-of-body made h (body_damage (in_tree parent) total e made) is

-- an ID that is read is a valid one, or ChapterDisplay's
id_in-written : (parent : ℕ) (octets : List ℕ) (read : IdRead) → AreOctets octets → id_in (in_tree parent) octets ≡ Ok read → is_written_id read.id ≡ true
id_in-written parent octets read bytes is = split (parent == CHAPTER_ATOM && slice_index octets 0 == CHAPTER_DISPLAY) is
  where
    split : (display : Bool) → (if display then display_read else id_at octets) ≡ Ok read → is_written_id read.id ≡ true
    split true found =
        let id : CHAPTER_DISPLAY ≡ read.id = cc in
        rw (← id) (or-true (is_id CHAPTER_DISPLAY))
    split false found =
        let valid = (id_at-within octets read bytes found).valid in
        rw valid refl

id-of-id : (parent : ℕ) (octets : List ℕ) (total p e : ℕ) (h : Header) (read : Result IdRead NumFault) → AreOctets octets → id_in (in_tree parent) octets ≡ read → with_id (in_tree parent) octets total p e read ≡ Ok h → is_written_id h.id ≡ true
id-of-id parent octets total p e h (Err fault.Bad) bytes found is = absurd (cc)
id-of-id parent octets total p e h (Err (fault.More n)) bytes found is = absurd (cc)
id-of-id parent octets total p e h (Ok id) bytes found is =
    let same = id-of-size parent total p e id.id (p + id.len) h _ is in
    rw (← same) (id_in-written parent octets id bytes found)

pub header_at-id : (parent p : ℕ) (octets : List ℕ) (h : Header) → AreOctets octets → header_at parent p octets ≡ Ok h → is_written_id h.id ≡ true
unfolding element_in
header_at-id parent p octets h bytes is = id-of-id parent octets (p + length octets) p (p + length octets) h (id_in (in_tree parent) octets) bytes refl is

-- The size of an Element that is read is known.
pub header_at-known : (parent p : ℕ) (octets : List ℕ) (h : Header) → header_at parent p octets ≡ Ok h → h.size ≡ Unknown → ⊥
header_at-known parent p octets h is open_ =
    let known : is_unknown h.size ≡ false = (header_at-fits parent p octets h is).known in
    let never : is_unknown Unknown ≡ false = rw open_ at known in
    cc

-- ---- reading in steps

-- the trees `ns` that were read, then the trees of `g`
abbrev pub all_in_front : List Node → Grove → Result Grove Damage
all_in_front ns g = Ok (record { trees = ns ++ g.trees; left = g.left })

-- The trees `trees` were read from the start of a body, and `rest` is still unread.
pub record ReadOn (room before left parent place at : ℕ) (body rest : List ℕ) (trees : List Node) : Type 0 where
  pub ends : at + length rest ≡ place + length body
  pub shallow : depth_all (nodes_of trees) ≤ room
  pub same : grove room before parent place body ≡ and_then (grove room left parent at rest) (all_in_front trees)

module _ (room before left parent place at : ℕ) (body rest : List ℕ) (trees : List Node) (on : ReadOn room before left parent place at body rest trees) where
  -- At the end the trees are all.
  pub read-all : rest ≡ [] → grove room before parent place body ≡ Ok (record { trees = trees; left = left })
  read-all none =
      on.same ∙ ap (λ r. and_then (grove room left parent at r) (all_in_front trees)) none
      ∙ ap (λ r. and_then r (all_in_front trees)) (grove-end room left parent at)
      ∙ ap (λ ns. Ok (record { trees = ns; left = left })) (append-nil trees)

  -- A damage is the damage of the whole body.
  pub read-damaged : (d : Damage) → 0 < length rest → header_at parent at rest ≡ Err d → grove room before parent place body ≡ Err d
  read-damaged d some is =
      on.same ∙ ap (λ r. and_then r (all_in_front trees)) (grove-more room left parent at rest some ∙ ap (λ r. and_then r (first_then grove room left parent at rest)) is)

  pub read-damaged_inside : (d : Damage) (h : Header) → 0 < length rest → header_at parent at rest ≡ Ok h → grown grove room left parent h (inside at h rest) ≡ Err d → grove room before parent place body ≡ Err d
  read-damaged_inside d h some is inner =
      on.same ∙ ap (λ r. and_then r (all_in_front trees)) (grove-more room left parent at rest some ∙ ap (λ r. and_then r (first_then grove room left parent at rest)) is
      ∙ ap (λ r. and_then r (λ g. and_then (grove room g.left parent (stated_end h) (behind at h rest)) (with_first g.tree))) inner)

  move : (n : Node) (r : Result Grove Damage) → and_then (and_then r (with_first n)) (all_in_front trees) ≡ and_then r (all_in_front (trees ++ n ∷ []))
  move n (Ok g) = ap (λ ns. Ok (record { trees = ns; left = g.left })) (sym (append_assoc trees (n ∷ []) g.trees))
  move n (Err d) = refl

  -- An Element that was read is appended to the trees.
  pub read-more : (n : Node) (now : ℕ) (h : Header) → 0 < length rest → depth n ≤ room → header_at parent at rest ≡ Ok h → grown grove room left parent h (inside at h rest) ≡ Ok (record { tree = n; left = now })
      → ReadOn room before now parent place (stated_end h) body (behind at h rest) (trees ++ n ∷ [])
  read-more n now h some low is inner =
      let fits = header_at-fits parent at rest h is in
      let later = fits.later in
      let fit = fits.ends in
      let ends = on.ends in
      let low_all = on.shallow in
      let left_behind : length (behind at h rest) ≡ length rest - (stated_end h - at) = length-drop (stated_end h - at) rest in
      record {
        ends = omega arith;
        shallow = omega (arith, depth_all-append trees (n ∷ []));
        same =
            on.same ∙ ap (λ r. and_then r (all_in_front trees)) (grove-more room left parent at rest some ∙ ap (λ r. and_then r (first_then grove room left parent at rest)) is
            ∙ ap (λ r. and_then r (λ g. and_then (grove room g.left parent (stated_end h) (behind at h rest)) (with_first g.tree))) inner)
            ∙ move n (grove room now parent (stated_end h) (behind at h rest));
      }
