-- Laws on trees that were read: they are valid, so they can be written and read back.
use Rattle.std.proofs.Common.{◌≡◌, inl, inr, ℕ, zero, suc, ◌+◌, ◌-◌, ◌<◌, ◌≤◌, ◌==◌, Bool, true, false, ◌&&◌, if◌then◌else◌, List, [], ◌∷◌, slice_index, length, Result, Ok, Err, refl, sym, ◌∙◌, ap, subst, arith}
use Rattle.std.proofs.lemmas.Bool.Decides.{nat_tests}
use Rattle.ebml_numbers.specs.declared.number.IdRead.{IdRead}
use Rattle.ebml_numbers.specs.declared.number.NumFault.{NumFault}
use Rattle.ebml_numbers.specs.declared.number.NumFault.TheVariants as fault
use Rattle.ebml_numbers.specs.Number.{AreOctets, is_id, id_at}
use Rattle.ebml_numbers.proofs.NumberLemmas.{id_at-within}
use Rattle.mkv_schema.specs.declared.ids.TheConstants.{CHAPTER_ATOM, CHAPTER_DISPLAY}
use Rattle.mkv_io.specs.declared.damage.Kind.TheVariants.{TooMany, BadValue}
use Rattle.mkv_schema.specs.declared.element.Header.{Header}
use Rattle.mkv_schema.specs.Element.{in_tree, element_in, id_in, with_id, display_read, stated_end}
use Rattle.mkv_schema.specs.Value.{is_known_value}
use Rattle.mkv_io.specs.Results.{and_then}
use Rattle.tree_format.specs.Node.{Node, leaf, master, nodes_of, id_of, IsMaster, count, count_all, deepest}
use Rattle.tree_format.specs.Reading.{Grove, Grown, header_at, inside, behind, is_master_in, refused, as_master, grown, with_first, first_then, grove, as_root, tree_of}
use Rattle.tree_format.specs.Standing.{StandsIn, AllStandIn, IsSound, KeepsLimits, IsReadAgain}
use Rattle.tree_format.proofs.ReadingLemmas.{grove-more, grove-end, header_at-fits, length-inside, length-behind, id-of-size}
use Rattle.tree_format.proofs.AgainLemmas.{IsReadIn, display-parent, sound-again, kept-le}
use Rattle.mkv_schema.proofs.OutlineLemmas.{and_then-ok}
use Rattle.ebml_numbers.proofs.SpelledLemmas.{AreOctets-take, AreOctets-drop}
use Rattle.lemmas.proofs.PlainLemmas.{both-true as both}

-- ---- an ID

id_in-reads : (parent : ℕ) (octets : List ℕ) (read : IdRead) → AreOctets octets → id_in (in_tree parent) octets ≡ Ok read → IsReadIn parent read.id
id_in-reads parent octets read bytes is = split (parent == CHAPTER_ATOM && slice_index octets 0 == CHAPTER_DISPLAY) refl is
  where
    split : (display : Bool) → (parent == CHAPTER_ATOM && slice_index octets 0 == CHAPTER_DISPLAY) ≡ display → (if display then display_read else id_at octets) ≡ Ok read → IsReadIn parent read.id
    split true test found =
        let id : CHAPTER_DISPLAY ≡ read.id = cc in
        let atom = (both (parent == CHAPTER_ATOM) (slice_index octets 0 == CHAPTER_DISPLAY) test).0 in
        inr (sym id, grind (arith, nat_tests))
    split false test found = inl ((id_at-within octets read bytes found).valid)

of_id : (parent : ℕ) (octets : List ℕ) (total p e : ℕ) (h : Header) (read : Result IdRead NumFault) → AreOctets octets → id_in (in_tree parent) octets ≡ read → with_id (in_tree parent) octets total p e read ≡ Ok h → IsReadIn parent h.id
of_id parent octets total p e h (Err fault.Bad) bytes found is = absurd (cc)
of_id parent octets total p e h (Err (fault.More n)) bytes found is = absurd (cc)
of_id parent octets total p e h (Ok id) bytes found is =
    let same = id-of-size parent total p e id.id (p + id.len) h _ is in
    let P : ℕ → Type 0 = IsReadIn parent in
    subst P same (id_in-reads parent octets id bytes found)

header_at-reads : (parent p : ℕ) (octets : List ℕ) (h : Header) → AreOctets octets → header_at parent p octets ≡ Ok h → IsReadIn parent h.id
unfolding element_in
header_at-reads parent p octets h bytes is = of_id parent octets (p + length octets) p (p + length octets) h (id_in (in_tree parent) octets) bytes refl is

-- An Element that isn't a master in the table here has a valid ID.
leaf-id : (parent id : ℕ) → IsReadIn parent id → is_master_in parent id ≡ false → is_id id ≡ true
leaf-id parent id (inl valid) leaf_here = valid
leaf-id parent id (inr (display, atom)) leaf_here =
    let never : true ≡ false = sym (display-parent CHAPTER_ATOM) ∙ ap (λ a. is_master_in a CHAPTER_DISPLAY) (sym atom) ∙ ap (is_master_in parent) (sym display) ∙ leaf_here in
    absurd (cc)

-- ---- trees

-- An Element that was read may be a child of its parent.
grown-stands : (room left parent : ℕ) (h : Header) (body : List ℕ) (g : Grown) → IsReadIn parent h.id → ((inner : Grove) → grove (room - 1) (left - 1) h.id h.body body ≡ Ok inner → AllStandIn h.id (nodes_of inner.trees))
    → grown grove room left parent h body ≡ Ok g → StandsIn parent g.tree
grown-stands room left parent h body g reads inside_stands is = split (left == 0) (is_master_in parent h.id) (room == 0) (is_known_value parent h.id body) refl refl is
  where
    of_tree : (n : Node) (k : ℕ) → record { tree = n; left = k } ≡ g → StandsIn parent n → StandsIn parent g.tree
    of_tree n k same stands = let P : Grown → Type 0 = λ x. StandsIn parent x.tree in subst P same stands

    of_master : (inner : Grove) → grove (room - 1) (left - 1) h.id h.body body ≡ Ok inner → as_master h inner ≡ Ok g → is_master_in parent h.id ≡ true → StandsIn parent g.tree
    of_master inner found made here = of_tree (master h.id h.offset (nodes_of inner.trees)) inner.left (cc) (here, inside_stands inner found)

    split : (full is_master no_room value : Bool) → is_master_in parent h.id ≡ is_master → is_known_value parent h.id body ≡ value
        → (if full then refused TooMany h.id h.offset else if is_master then
        (if no_room then refused TooMany h.id h.offset else and_then (grove (room - 1) (left - 1) h.id h.body body) (as_master h))
        else if value then Ok (record { tree = leaf h.id h.offset body; left = left - 1 }) else refused BadValue h.id h.offset) ≡ Ok g → StandsIn parent g.tree
    split true m r v mis vis is = absurd (cc)
    split false true true v mis vis is = absurd (cc)
    split false true false v mis vis is =
        let found = and_then-ok (grove (room - 1) (left - 1) h.id h.body body) (as_master h) g is in
        of_master found.0 found.1.0 found.1.1 mis
    split false false r true mis vis is =
        of_tree (leaf h.id h.offset body) (left - 1) (cc) (record { id_stands = leaf-id parent h.id reads mis; no_master = mis; value = vis })
    split false false r false mis vis is = absurd (cc)

-- So may all Elements that are read from a body.
grove-stands_within : (n : ℕ) (room left parent p : ℕ) (octets : List ℕ) (g : Grove) → length octets ≤ n → AreOctets octets → grove room left parent p octets ≡ Ok g → AllStandIn parent (nodes_of g.trees)
grove-stands_within n room left parent p [] g few bytes is =
    let same : record { trees = []; left = left } ≡ g = (let end = grove-end room left parent p in cc) in
    let P : Grove → Type 0 = λ x. AllStandIn parent (nodes_of x.trees) in
    subst P same tt
grove-stands_within zero room left parent p (o ∷ octets) g few bytes is = absurd (omega arith)
grove-stands_within (suc n) room left parent p (o ∷ octets) g few bytes is =
    let more = sym (grove-more room left parent p (o ∷ octets) (omega arith)) ∙ is in
    let head = and_then-ok (header_at parent p (o ∷ octets)) (first_then grove room left parent p (o ∷ octets)) g more in
    let h : Header = head.0 in
    let fits = header_at-fits parent p (o ∷ octets) h head.1.0 in
    let element = and_then-ok (grown grove room left parent h (inside p h (o ∷ octets))) (λ x. and_then (grove room x.left parent (stated_end h) (behind p h (o ∷ octets))) (with_first x.tree)) g head.1.1 in
    let others = and_then-ok (grove room element.0.left parent (stated_end h) (behind p h (o ∷ octets))) (with_first element.0.tree) g element.1.1 in
    let within = length-inside p (o ∷ octets) h fits in
    let after = length-behind p (o ∷ octets) h fits in
    let first : StandsIn parent element.0.tree =
    grown-stands room left parent h (inside p h (o ∷ octets)) element.0 (header_at-reads parent p (o ∷ octets) h bytes head.1.0)
    (λ inner found. grove-stands_within n (room - 1) (left - 1) h.id h.body (inside p h (o ∷ octets)) inner (omega arith)
    (AreOctets-take _ _ (AreOctets-drop _ (o ∷ octets) bytes)) found) element.1.0 in
    let rest : AllStandIn parent (nodes_of others.0.trees) =
    grove-stands_within n room element.0.left parent (stated_end h) (behind p h (o ∷ octets)) others.0 (omega arith) (AreOctets-drop _ (o ∷ octets) bytes) others.1.0 in
    let same : record { trees = element.0.tree ∷ others.0.trees; left = others.0.left } ≡ g = (let made = others.1.1 in cc) in
    let P : Grove → Type 0 = λ x. AllStandIn parent (nodes_of x.trees) in
    subst P same (first, rest)

pub grove-stands : (room left parent p : ℕ) (octets : List ℕ) (g : Grove) → AreOctets octets → grove room left parent p octets ≡ Ok g → AllStandIn parent (nodes_of g.trees)
grove-stands room left parent p octets g bytes is = grove-stands_within (length octets) room left parent p octets g (omega arith) bytes is

pub tree_of-sound : (id offset base nodes : ℕ) (body : List ℕ) (n : Node) → AreOctets body → tree_of id offset body base nodes ≡ Ok n → IsSound n
tree_of-sound id offset base nodes body n bytes is = split (nodes == 0) is
  where
    of_grove : (g : Grove) → grove (deepest - 1) (nodes - 1) id base body ≡ Ok g → as_root id offset g ≡ Ok n → IsSound n
    of_grove g found made =
        let same : master id offset (nodes_of g.trees) ≡ n = cc in
        subst IsSound same (grove-stands (deepest - 1) (nodes - 1) id base body g bytes found)

    split : (full : Bool) → (if full then refused TooMany id offset else and_then (grove (deepest - 1) (nodes - 1) id base body) (as_root id offset)) ≡ Ok n → IsSound n
    split true is = absurd (cc)
    split false is =
        let found = and_then-ok (grove (deepest - 1) (nodes - 1) id base body) (as_root id offset) n is in
        of_grove found.0 found.1.0 found.1.1

-- ---- the number of Elements

grown-count : (room left parent : ℕ) (h : Header) (body : List ℕ) (g : Grown) → ((inner : Grove) → grove (room - 1) (left - 1) h.id h.body body ≡ Ok inner → count_all (nodes_of inner.trees) + inner.left ≡ left - 1)
    → grown grove room left parent h body ≡ Ok g → count g.tree + g.left ≡ left
grown-count room left parent h body g inside_count is = split (left == 0) (is_master_in parent h.id) (room == 0) (is_known_value parent h.id body) refl is
  where
    of_tree : (n : Node) (k : ℕ) → record { tree = n; left = k } ≡ g → count n + k ≡ left → count g.tree + g.left ≡ left
    of_tree n k same counts = let P : Grown → Type 0 = λ x. count x.tree + x.left ≡ left in subst P same counts

    of_master : (inner : Grove) → (left == 0) ≡ false → grove (room - 1) (left - 1) h.id h.body body ≡ Ok inner → as_master h inner ≡ Ok g → count g.tree + g.left ≡ left
    of_master inner some found made =
        let counts = inside_count inner found in
        let one : 0 < left = grind (arith, nat_tests) in
        of_tree (master h.id h.offset (nodes_of inner.trees)) inner.left (cc) (omega arith)

    split : (full is_master no_room value : Bool) → (left == 0) ≡ full
        → (if full then refused TooMany h.id h.offset else if is_master then
        (if no_room then refused TooMany h.id h.offset else and_then (grove (room - 1) (left - 1) h.id h.body body) (as_master h))
        else if value then Ok (record { tree = leaf h.id h.offset body; left = left - 1 }) else refused BadValue h.id h.offset) ≡ Ok g → count g.tree + g.left ≡ left
    split true m r v full is = absurd (cc)
    split false true true v full is = absurd (cc)
    split false true false v full is =
        let found = and_then-ok (grove (room - 1) (left - 1) h.id h.body body) (as_master h) g is in
        of_master found.0 full found.1.0 found.1.1
    split false false r true full is = let one : 0 < left = grind (arith, nat_tests) in of_tree (leaf h.id h.offset body) (left - 1) (cc) (omega arith)
    split false false r false full is = absurd (cc)

grove-count_within : (n : ℕ) (room left parent p : ℕ) (octets : List ℕ) (g : Grove) → length octets ≤ n → grove room left parent p octets ≡ Ok g → count_all (nodes_of g.trees) + g.left ≡ left
grove-count_within n room left parent p [] g few is =
    let same : record { trees = []; left = left } ≡ g = (let end = grove-end room left parent p in cc) in
    let P : Grove → Type 0 = λ x. count_all (nodes_of x.trees) + x.left ≡ left in
    subst P same (omega arith)
grove-count_within zero room left parent p (o ∷ octets) g few is = absurd (omega arith)
grove-count_within (suc n) room left parent p (o ∷ octets) g few is =
    let more = sym (grove-more room left parent p (o ∷ octets) (omega arith)) ∙ is in
    let head = and_then-ok (header_at parent p (o ∷ octets)) (first_then grove room left parent p (o ∷ octets)) g more in
    let h : Header = head.0 in
    let fits = header_at-fits parent p (o ∷ octets) h head.1.0 in
    let element = and_then-ok (grown grove room left parent h (inside p h (o ∷ octets))) (λ x. and_then (grove room x.left parent (stated_end h) (behind p h (o ∷ octets))) (with_first x.tree)) g head.1.1 in
    let others = and_then-ok (grove room element.0.left parent (stated_end h) (behind p h (o ∷ octets))) (with_first element.0.tree) g element.1.1 in
    let within = length-inside p (o ∷ octets) h fits in
    let after = length-behind p (o ∷ octets) h fits in
    let first : count element.0.tree + element.0.left ≡ left =
    grown-count room left parent h (inside p h (o ∷ octets)) element.0
    (λ inner found. grove-count_within n (room - 1) (left - 1) h.id h.body (inside p h (o ∷ octets)) inner (omega arith) found) element.1.0 in
    let rest : count_all (nodes_of others.0.trees) + others.0.left ≡ element.0.left =
    grove-count_within n room element.0.left parent (stated_end h) (behind p h (o ∷ octets)) others.0 (omega arith) others.1.0 in
    let same : record { trees = element.0.tree ∷ others.0.trees; left = others.0.left } ≡ g = (let made = others.1.1 in cc) in
    let P : Grove → Type 0 = λ x. count_all (nodes_of x.trees) + x.left ≡ left in
    subst P same (omega arith)

-- A tree that was read has at most the allowed number of Elements.
pub tree_of-count : (id offset base nodes : ℕ) (body : List ℕ) (n : Node) → tree_of id offset body base nodes ≡ Ok n → count n ≤ nodes
tree_of-count id offset base nodes body n is = split (nodes == 0) refl is
  where
    of_grove : (g : Grove) → (nodes == 0) ≡ false → grove (deepest - 1) (nodes - 1) id base body ≡ Ok g → as_root id offset g ≡ Ok n → count n ≤ nodes
    of_grove g some found made =
        let same : master id offset (nodes_of g.trees) ≡ n = cc in
        let counts = grove-count_within (length body) (deepest - 1) (nodes - 1) id base body g (omega arith) found in
        let one : 0 < nodes = grind (arith, nat_tests) in
        let P : Node → Type 0 = λ x. count x ≤ nodes in
        subst P same (omega arith)

    split : (full : Bool) → (nodes == 0) ≡ full → (if full then refused TooMany id offset else and_then (grove (deepest - 1) (nodes - 1) id base body) (as_root id offset)) ≡ Ok n → count n ≤ nodes
    split true full is = absurd (cc)
    split false full is =
        let found = and_then-ok (grove (deepest - 1) (nodes - 1) id base body) (as_root id offset) n is in
        of_grove found.0 full found.1.0 found.1.1

-- It is a master with the given ID.
pub tree_of-root : (id offset base nodes : ℕ) (body : List ℕ) (n : Node) → tree_of id offset body base nodes ≡ Ok n → IsMaster n × (id_of n ≡ id)
tree_of-root id offset base nodes body n is = split (nodes == 0) is
  where
    of_grove : (g : Grove) → as_root id offset g ≡ Ok n → IsMaster n × (id_of n ≡ id)
    of_grove g made =
        let same : master id offset (nodes_of g.trees) ≡ n = cc in
        let P : Node → Type 0 = λ x. IsMaster x × (id_of x ≡ id) in
        subst P same (refl, refl)

    split : (full : Bool) → (if full then refused TooMany id offset else and_then (grove (deepest - 1) (nodes - 1) id base body) (as_root id offset)) ≡ Ok n → IsMaster n × (id_of n ≡ id)
    split true is = absurd (cc)
    split false is =
        let found = and_then-ok (grove (deepest - 1) (nodes - 1) id base body) (as_root id offset) n is in
        of_grove found.0 found.1.1

-- A tree that was read, and keeps the limits, is read back from its written bytes.
pub tree_of-again : (id offset base nodes more : ℕ) (body : List ℕ) (n : Node) → AreOctets body → tree_of id offset body base nodes ≡ Ok n → KeepsLimits n → nodes ≤ more → IsReadAgain more n
tree_of-again id offset base nodes more body n octets is limits enough =
    let few = tree_of-count id offset base nodes body n is in
    let kept_few = kept-le n in
    sound-again n more (tree_of-root id offset base nodes body n is).0 (tree_of-sound id offset base nodes body n octets is) limits (omega arith)
