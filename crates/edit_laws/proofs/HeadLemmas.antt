-- The EBML header of contents with the same bytes up to the Segment.
use Rattle.std.proofs.Common.{inl, inr, ◌≡◌, ◌<◌, ◌≤◌, ℕ, zero, suc, ◌+◌, ◌-◌, nat_lt, nat_eq, ◌==◌, not, Bool, true, false, ◌&&◌, ◌||◌, if◌then◌else◌, List, [], ◌∷◌, length, take, drop, All, Option, Some, None, Result, Ok, Err, refl, sym, ◌∙◌, ap, ap₂, arith}
use Rattle.std.specs.List.{starts_with}
use Rattle.std.specs.Option.{option_map, option_map_or}
use Rattle.std.proofs.lemmas.Bool.{cases_lt, le-ltb}
use Rattle.std.proofs.lemmas.List.Elements.{All-head, All-tail, All-weaker}
use Rattle.ebml_numbers.specs.declared.number.IdRead.{IdRead}
use Rattle.ebml_numbers.specs.declared.number.NumFault.{NumFault}
use Rattle.ebml_numbers.specs.declared.number.NumFault.TheVariants as fault
use Rattle.ebml_numbers.specs.declared.number.SizeRead.{SizeRead}
use Rattle.ebml_numbers.specs.Number.{announced, size_at, width}
use Rattle.std.specs.Int.Count.{count_leading_zeros}
use Rattle.std.proofs.lemmas.Bool.Decides.{nat_tests}
use Rattle.std.proofs.lemmas.List.{take_all}
use Rattle.mkv_schema.specs.declared.ids.TheConstants.{EBML, EBML_READ_VERSION, EBML_MAX_ID_LENGTH, EBML_MAX_SIZE_LENGTH, DOC_TYPE, DOC_TYPE_READ_VERSION}
use Rattle.mkv_schema.specs.Schema.{text_default}
use Rattle.mkv_io.specs.declared.damage.Damage.{Damage}
use Rattle.mkv_io.specs.declared.damage.Kind.{Kind}
use Rattle.mkv_io.specs.declared.damage.Kind.TheVariants.{BadValue, DocType, NotEbml, ReadVersion, MaxLengths, TooLong, Truncated, UnknownSize}
use Rattle.mkv_schema.specs.declared.element.Header.{Header}
use Rattle.mkv_schema.specs.declared.limits.TheConstants.{MAX_HEADER_LEN}
use Rattle.mkv_schema.specs.Element.{at_level_0, in_tree, octets_between, id_in, with_size, with_id, body_damage, element_in, element_at, is_unknown, may_be_open, stated_end, end_in, damage}
use Rattle.mkv_schema.specs.Elements.{Run, never, in_front, step, children_in}
use Rattle.mkv_schema.specs.Outline.{first_damage, where_it, ebml_mark, header_children, header_causes, over, bad_value, wrong_doc_type, is_doc_type, above, place_of, ebml_header}
use Rattle.mkv_io.specs.Results.{and_then, unless}
use Rattle.mkv_schema.specs.Value.{body_of, is_known_value, uint_value, text_of, first_of}
use Rattle.mkv_schema.proofs.ElementLemmas.{element_at-placed}
use Rattle.mkv_schema.proofs.OutlineLemmas.{unless-ok}
use Rattle.mkv_schema.proofs.ElementsLemmas.{Advances-known, elements-end, elements-more}
use Rattle.edit_laws.proofs.SameLemmas.{AreSame, same-part}
use Rattle.edit_laws.proofs.HeaderLemmas.{announced-inside, outside, found-sound, found-same}
use Rattle.edit_laws.proofs.RunLemmas.{StandsInside, run-inside}
use Rattle.edit_laws.proofs.BlockLemmas.{find-same}

-- ---- a master that is read whole depends only on its own bytes

size-tree : (parent total total' p e id at : ℕ) (read : Result SizeRead NumFault) → with_size (in_tree parent) total p e id at read ≡ with_size (in_tree parent) total' p e id at read
size-tree parent total total' p e id at (Err (fault.More n)) = refl
size-tree parent total total' p e id at (Err fault.Bad) = refl
size-tree parent total total' p e id at (Ok size) = refl

id-tree : (parent : ℕ) (o : List ℕ) (total total' p e : ℕ) (read : Result IdRead NumFault) → with_id (in_tree parent) o total p e read ≡ with_id (in_tree parent) o total' p e read
id-tree parent o total total' p e (Err fault.Bad) = refl
id-tree parent o total total' p e (Err (fault.More n)) = refl
id-tree parent o total total' p e (Ok id) = size-tree parent total total' p e id.id (p + id.len) (size_at (drop id.len o))

element-tree : (parent : ℕ) (a b : List ℕ) (p e : ℕ) → AreSame a b p e → element_at (in_tree parent) b p e ≡ element_at (in_tree parent) a p e
unfolding element_in
element-tree parent a b p e same =
    ap (λ o. element_in (in_tree parent) o (length b) p e) same
    ∙ id-tree parent (octets_between a p e) (length b) (length a) p e (id_in (in_tree parent) (octets_between a p e))

abbrev tree-run : ℕ → List ℕ → ℕ → ℕ → Run
tree-run parent bytes p e = children_in (in_tree parent) bytes p e

tree-past : (parent : ℕ) (a b : List ℕ) (p e : ℕ) → e ≤ p → tree-run parent b p e ≡ tree-run parent a p e
tree-past parent a b p e past =
    elements-end (in_tree parent) never (λ h. Ok (end_in e h)) b p e past ∙ sym (elements-end (in_tree parent) never (λ h. Ok (end_in e h)) a p e past)

tree-within : (n : ℕ) (parent : ℕ) (a b : List ℕ) (p e : ℕ) → e - p ≤ n → AreSame a b p e → tree-run parent b p e ≡ tree-run parent a p e
tree-within zero parent a b p e few same = tree-past parent a b p e (omega arith)
tree-within (suc n) parent a b p e few same =
    elim (cases_lt p e) [
      | inl inside ↦
          elements-more (in_tree parent) never (λ h. Ok (end_in e h)) b p e (Advances-known (in_tree parent) b e) inside
          ∙ ap (λ f. step p (λ h. Ok (end_in e h)) f (λ q. tree-run parent b q e)) (element-tree parent a b p e same)
          ∙ goes inside (λ k later within. tree-within n parent a b k e (omega arith) (same-part a b p e k e (omega arith) within (omega arith) same)) (element_at (in_tree parent) a p e) refl
          ∙ sym (elements-more (in_tree parent) never (λ h. Ok (end_in e h)) a p e (Advances-known (in_tree parent) a e) inside)
      | inr past ↦ tree-past parent a b p e past
    ]
  where
    goes : p < e → ((k : ℕ) → p < k → k ≤ e → tree-run parent b k e ≡ tree-run parent a k e) → (found : Result Header Damage) → element_at (in_tree parent) a p e ≡ found → step p (λ h. Ok (end_in e h)) found (λ q. tree-run parent b q e) ≡ step p (λ h. Ok (end_in e h)) found (λ q. tree-run parent a q e)
    goes inside further (Err d) is = refl
    goes inside further (Ok h) is =
        let placed = element_at-placed (in_tree parent) a p e h (omega arith) is in
        let later = placed.later in
        let end : p < end_in e h = grind arith in
        ap (in_front h) (further (end_in e h) end (omega arith))

-- Its children depend only on them, too.
tree-same : (parent : ℕ) (a b : List ℕ) (p e : ℕ) → AreSame a b p e → tree-run parent b p e ≡ tree-run parent a p e
tree-same parent a b p e same = tree-within (e - p) parent a b p e (omega arith) same

-- ---- conditions on the children

module _ (a b : List ℕ) (list : List Header) (same : All (λ h. body_of b h ≡ body_of a h) list) where
  value-same : {A : Type 0} (id : ℕ) (f : List ℕ → A) (none : A) → option_map_or (λ h. f (body_of b h)) (first_of id list) none ≡ option_map_or (λ h. f (body_of a h)) (first_of id list) none
  value-same id f none = go list same
    where
      go : (hs : List Header) → All (λ h. body_of b h ≡ body_of a h) hs → option_map_or (λ h. f (body_of b h)) (first_of id hs) none ≡ option_map_or (λ h. f (body_of a h)) (first_of id hs) none
      go [] all = refl
      go (h ∷ hs) all = of (go hs (All-tail (λ h. body_of b h ≡ body_of a h) h hs all)) (h.id == id)
        where
          of : option_map_or (λ h. f (body_of b h)) (first_of id hs) none ≡ option_map_or (λ h. f (body_of a h)) (first_of id hs) none → (test : Bool)
              → option_map_or (λ h. f (body_of b h)) (if test then Some h else first_of id hs) none ≡ option_map_or (λ h. f (body_of a h)) (if test then Some h else first_of id hs) none
          of rest true = ap f (All-head (λ h. body_of b h ≡ body_of a h) h hs all)
          of rest false = rest

  above-same : (id limit : ℕ) (kind : Kind) → above b id limit kind list ≡ above a id limit kind list
  above-same id limit kind =
      ap (λ (v : ℕ). where_it (nat_lt limit v) (damage kind id (place_of id list))) (value-same id (uint_value id) _)

  type-same : wrong_doc_type b list ≡ wrong_doc_type a list
  type-same =
      ap (λ (v : Option (List ℕ)). where_it (not (is_doc_type v)) (damage DocType DOC_TYPE (place_of DOC_TYPE list))) (value-same DOC_TYPE (λ o. Some (text_of o)) (text_default DOC_TYPE))

  bad-same : bad_value b EBML list ≡ bad_value a EBML list
  bad-same =
      ap (option_map (λ (h : Header). damage BadValue h.id h.offset))
      (find-same (λ h. not (is_known_value EBML h.id (body_of b h))) (λ h. not (is_known_value EBML h.id (body_of a h))) list
      (All-weaker (λ h. body_of b h ≡ body_of a h) (λ h. not (is_known_value EBML h.id (body_of b h)) ≡ not (is_known_value EBML h.id (body_of a h))) (λ h is. ap (λ o. not (is_known_value EBML h.id o)) is) list same))

  causes-same : (h : Header) (damaged : Option Damage) (end : ℕ) → header_causes b h (record { list = list; damage = damaged; end = end }) ≡ header_causes a h (record { list = list; damage = damaged; end = end })
  causes-same h damaged end =
      ap₂ (λ bad rest. over MAX_HEADER_LEN h ∷ bad ∷ damaged ∷ rest) bad-same
      (ap₂ (λ x xs. x ∷ xs) type-same
      (ap₂ (λ x xs. x ∷ xs) (above-same EBML_READ_VERSION 1 ReadVersion)
      (ap₂ (λ x xs. x ∷ xs) (above-same DOC_TYPE_READ_VERSION 4 ReadVersion)
      (ap₂ (λ x xs. x ∷ xs) (above-same EBML_MAX_ID_LENGTH 4 MaxLengths)
      (ap₂ (λ x xs. x ∷ xs) (above-same EBML_MAX_SIZE_LENGTH 8 MaxLengths) refl)))))

children-causes : (a b : List ℕ) (h : Header) → AreSame a b h.body (stated_end h) → header_causes b h (header_children b h) ≡ header_causes a h (header_children a h)
children-causes a b h same =
    ap (header_causes b h) (tree-same EBML a b h.body (stated_end h) same)
    ∙ causes-same a b (header_children a h).list
    (All-weaker (StandsInside h.body (stated_end h)) (λ c. body_of b c ≡ body_of a c)
    (λ c inside. let from = inside.from in let header = inside.header in let to = inside.to in let body : c.body ≤ stated_end c = omega arith in same-part a b h.body (stated_end h) c.body (stated_end c) (omega arith) body to same)
    (header_children a h).list (run-inside (in_tree EBML) (λ id. refl) never a (stated_end h) h.body))
    h (header_children a h).damage (header_children a h).end

-- ---- the header itself

-- A body that ends within its parent and the file does so, too, if both are longer.
pub sound-longer : (may_open : ℕ → Bool) (total total' e e' : ℕ) (h : Header) → body_damage (outside may_open) total e h ≡ None → stated_end h ≤ e' → e' ≤ total' → body_damage (outside may_open) total' e' h ≡ None
sound-longer may_open total total' e e' h sound ends within =
    of (is_unknown h.size) (may_open h.id) (nat_lt total' (stated_end h)) (nat_lt e' (stated_end h)) (le-ltb _ _ (omega arith)) (le-ltb _ _ ends) sound
  where
    of : (unknown may past over : Bool) → past ≡ false → over ≡ false
        → (if unknown && not may then Some UnknownSize else if not false && nat_lt total (stated_end h) && (not (may_be_open h.id) || (not may && e == total)) then Some Truncated else if nat_lt e (stated_end h) && not (may && e == total) then Some TooLong else None) ≡ None
        → (if unknown && not may then Some UnknownSize else if not false && past && (not (may_be_open h.id) || (not may && e' == total')) then Some Truncated else if over && not (may && e' == total') then Some TooLong else None) ≡ None
    of true false past over no_past no_over sound = absurd (cc)
    of true true true over no_past no_over sound = absurd (cc)
    of true true false true no_past no_over sound = absurd (cc)
    of true true false false no_past no_over sound = refl
    of false may true over no_past no_over sound = absurd (cc)
    of false may false true no_past no_over sound = absurd (cc)
    of false may false false no_past no_over sound = refl

-- The first bytes of a content.
starts-same : (a b : List ℕ) → take 4 b ≡ take 4 a → starts_with nat_eq b ebml_mark ≡ starts_with nat_eq a ebml_mark
starts-same a b same = sym (starts-take b) ∙ ap (λ l. starts_with nat_eq l ebml_mark) same ∙ starts-take a
  where
    starts-take : (l : List ℕ) → starts_with nat_eq (take 4 l) ebml_mark ≡ starts_with nat_eq l ebml_mark
    starts-take [] = refl
    starts-take (x ∷ []) = refl
    starts-take (x ∷ y ∷ []) = refl
    starts-take (x ∷ y ∷ z ∷ []) = refl
    starts-take (x ∷ y ∷ z ∷ u ∷ l) = refl

-- The EBML header is the same in contents with the same bytes up to a place after it.
pub header-same : (a b : List ℕ) (h : Header) (x : ℕ) → AreSame a b 0 x → 4 ≤ x → stated_end h ≤ x → x ≤ length a → length a ≤ length b → ebml_header a ≡ Ok h → ebml_header b ≡ Ok h
unfolding ebml_header
header-same a b h x same some ends within longer is = of (starts_with nat_eq a ebml_mark) refl is
  where
    first : take 4 b ≡ take 4 a
    first = same-part a b 0 x 0 4 (omega arith) (omega arith) some same

    behind : starts_with nat_eq a ebml_mark ≡ true → (g : Header) → element_at at_level_0 a 0 (length a) ≡ Ok g → unless (first_damage (header_causes a g (header_children a g))) g ≡ Ok h → ebml_header b ≡ Ok h
    behind starts g found sound =
        let both = unless-ok (first_damage (header_causes a g (header_children a g))) g h sound in
        let same_h : g ≡ h = both.1 in
        let here : element_at at_level_0 a 0 (length a) ≡ Ok h = found ∙ ap (λ k. Ok k) same_h in
        let placed = element_at-placed at_level_0 a 0 (length a) h (omega arith) here in
        let later = placed.later in
        let body : h.body ≤ stated_end h = omega arith in
        let there : element_at at_level_0 b 0 (length b) ≡ Ok h =
        found-same ((at_level_0).may_open) ((at_level_0).may_open) a b 0 (length a) (length b) h (omega arith) here (omega arith) (same-part a b 0 x 0 h.body (omega arith) (omega arith) (omega arith) same)
        (sound-longer ((at_level_0).may_open) (length a) (length b) (length a) (length b) h (found-sound ((at_level_0).may_open) a 0 (length a) h here) (omega arith) (omega arith)) in
        let causes : first_damage (header_causes b h (header_children b h)) ≡ None =
        ap first_damage (children-causes a b h (same-part a b 0 x h.body (stated_end h) (omega arith) body ends same)) ∙ ap (λ (k : Header). first_damage (header_causes a k (header_children a k))) (sym same_h) ∙ both.0 in
        ap (λ (t : Bool). and_then (if t then element_at at_level_0 b 0 (length b) else Err (damage NotEbml 0 0)) (λ h. unless (first_damage (header_causes b h (header_children b h))) h)) (starts-same a b first ∙ starts)
        ∙ ap (λ f. and_then f (λ h. unless (first_damage (header_causes b h (header_children b h))) h)) there
        ∙ ap (λ c. unless c h) causes

    of : (starts : Bool) → starts_with nat_eq a ebml_mark ≡ starts → and_then (if starts then element_at at_level_0 a 0 (length a) else Err (damage NotEbml 0 0)) (λ h. unless (first_damage (header_causes a h (header_children a h))) h) ≡ Ok h → ebml_header b ≡ Ok h
    of false not_ebml is = absurd (cc)
    of true starts is = found (element_at at_level_0 a 0 (length a)) refl is
      where
        found : (f : Result Header Damage) → element_at at_level_0 a 0 (length a) ≡ f → and_then f (λ h. unless (first_damage (header_causes a h (header_children a h))) h) ≡ Ok h → ebml_header b ≡ Ok h
        found (Err d) is_it refused = absurd (cc)
        found (Ok g) is_it sound = behind starts g is_it sound

-- The ID of the EBML header has four bytes.
mark-width : width 0x1A ≡ 4
unfolding count_leading_zeros
mark-width = refl

mark-announced : (bytes : List ℕ) → starts_with nat_eq bytes ebml_mark ≡ true → announced bytes ≡ 4
mark-announced [] starts = absurd (cc)
mark-announced (x ∷ bytes) starts = of (nat_eq 0x1A x) refl starts
  where
    of : (test : Bool) → nat_eq 0x1A x ≡ test → (test && starts_with nat_eq bytes (0x45 ∷ 0xDF ∷ 0xA3 ∷ [])) ≡ true → width x ≡ 4
    of true same rest = let is : x ≡ 0x1A = grind (arith, nat_tests) in ap width is ∙ mark-width
    of false same rest = absurd (cc)

pub header-long : (bytes : List ℕ) (h : Header) → ebml_header bytes ≡ Ok h → 4 ≤ h.body
unfolding ebml_header
header-long bytes h is = of (starts_with nat_eq bytes ebml_mark) refl is
  where
    whole : octets_between bytes 0 (length bytes) ≡ bytes
    whole = take_all (length bytes) bytes (omega arith)

    found : starts_with nat_eq bytes ebml_mark ≡ true → (f : Result Header Damage) → element_at at_level_0 bytes 0 (length bytes) ≡ f → and_then f (λ h. unless (first_damage (header_causes bytes h (header_children bytes h))) h) ≡ Ok h → 4 ≤ h.body
    found starts (Err d) is_it refused = absurd (cc)
    found starts (Ok g) is_it sound =
        let same = (unless-ok (first_damage (header_causes bytes g (header_children bytes g))) g h sound).1 in
        let inside = announced-inside ((at_level_0).may_open) bytes 0 (length bytes) g is_it in
        let four : announced (octets_between bytes 0 (length bytes)) ≡ 4 = ap announced whole ∙ mark-announced bytes starts in
        let body : g.body ≡ h.body = ap (λ (x : Header). x.body) same in
        omega arith

    of : (starts : Bool) → starts_with nat_eq bytes ebml_mark ≡ starts → and_then (if starts then element_at at_level_0 bytes 0 (length bytes) else Err (damage NotEbml 0 0)) (λ h. unless (first_damage (header_causes bytes h (header_children bytes h))) h) ≡ Ok h → 4 ≤ h.body
    of false not_ebml is = absurd (cc)
    of true starts is = found starts (element_at at_level_0 bytes 0 (length bytes)) refl is
