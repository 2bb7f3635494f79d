-- A tree that was read isn't too deep, and the bodies of its Elements are bytes.
use Rattle.std.proofs.Common.{◌≡◌, ℕ, zero, suc, ◌-◌, ◌<◌, ◌≤◌, ◌^◌, ◌==◌, Bool, true, false, cond, if◌then◌else◌, List, [], ◌∷◌, length, find, Option, Some, None, Ok, refl, sym, ap, subst, ◌∙◌, arith, unwrap_or}
use Rattle.std.specs.List.{All}
use Rattle.std.specs.Option.{option_map}
use Rattle.std.proofs.Math.Nat.{pow-le-pow_right}
use Rattle.std.proofs.lemmas.Bool.Decides.{nat_tests}
use Rattle.std.proofs.lemmas.List.Elements.{All-nil, All-cons, All-filter}
use Rattle.byteorder.specs.Numbers.{big_from-lt}
use Rattle.ebml_numbers.specs.Number.{AreOctets, uint_of}
use Rattle.ebml_numbers.proofs.SpelledLemmas.{AreOctets-take, AreOctets-drop}
use Rattle.mkv_schema.specs.Schema.{entry_of, uint_default}
use Rattle.mkv_schema.specs.Table.{table}
use Rattle.mkv_schema.specs.declared.ids.TheConstants.{TRACK_ENTRY, TRACK_UID}
use Rattle.mkv_io.specs.declared.damage.Kind.TheVariants.{TooMany, BadValue}
use Rattle.mkv_schema.specs.declared.element.Header.{Header}
use Rattle.mkv_schema.specs.Element.{stated_end}
use Rattle.mkv_io.specs.Results.{and_then}
use Rattle.mkv_schema.specs.Value.{is_known_value, uint_value}
use Rattle.mkv_schema.proofs.OutlineLemmas.{and_then-ok}
use Rattle.tree_format.specs.Node.{Node, Nodes, leaf, master, none, node, nodes_of, list_of, id_of, body_of, children, depth, depth_all, deepest}
use Rattle.tree_format.specs.Reading.{Grove, Grown, header_at, inside, behind, is_master_in, refused, as_master, grown, with_first, first_then, grove, as_root, tree_of}
use Rattle.tree_format.specs.Values.{first_child, integer_of, HasUint}
use Rattle.tree_format.specs.Standing.{IsSound}
use Rattle.tree_format.proofs.NodeLemmas.{nodes-list, list-nodes}
use Rattle.tree_format.proofs.ReadingLemmas.{grove-more, grove-end, header_at-fits, length-inside, length-behind}
use Rattle.tree_format.proofs.ChildLemmas.{first_child-short, first_child-sound}
use Rattle.file_format.specs.Entry.{entries_of, uid_of}

-- ---- bytes

-- The bodies of an Element and of the Elements inside are bytes.
abbrev mutual
  pub IsOfOctets : Node → Type 0
  IsOfOctets (leaf id at body) = AreOctets body
  IsOfOctets (master id at kids) = AreOfOctets kids

  pub AreOfOctets : Nodes → Type 0
  AreOfOctets none = Unit {0}
  AreOfOctets (node n ns) = IsOfOctets n × AreOfOctets ns

-- ---- results of reading

-- The Element `n` is at most as deep as `room`.
record IsRead (room : ℕ) (n : Node) : Type 0 where
  shallow : depth n ≤ room
  octets : IsOfOctets n

record AreRead (room : ℕ) (ns : Nodes) : Type 0 where
  shallow : depth_all ns ≤ room
  octets : AreOfOctets ns

grown-read : (room left parent : ℕ) (h : Header) (body : List ℕ) (g : Grown) → AreOctets body → ((inner : Grove) → grove (room - 1) (left - 1) h.id h.body body ≡ Ok inner → AreRead (room - 1) (nodes_of inner.trees))
    → grown grove room left parent h body ≡ Ok g → IsRead room g.tree
grown-read room left parent h body g bytes inside_read is = split (left == 0) (is_master_in parent h.id) (room == 0) (is_known_value parent h.id body) refl is
  where
    of_tree : (n : Node) (k : ℕ) → record { tree = n; left = k } ≡ g → IsRead room n → IsRead room g.tree
    of_tree n k same read = let P : Grown → Type 0 = λ x. IsRead room x.tree in subst P same read

    of_master : (inner : Grove) → (room == 0) ≡ false → grove (room - 1) (left - 1) h.id h.body body ≡ Ok inner → as_master h inner ≡ Ok g → IsRead room g.tree
    of_master inner some found made =
        let read = inside_read inner found in
        let low = read.shallow in
        let one : 0 < room = grind (arith, nat_tests) in
        of_tree (master h.id h.offset (nodes_of inner.trees)) inner.left (cc) (record { shallow = omega arith; octets = read.octets })

    split : (full is_master no_room value : Bool) → (room == 0) ≡ no_room
        → (if full then refused TooMany h.id h.offset else if is_master then
        (if no_room then refused TooMany h.id h.offset else and_then (grove (room - 1) (left - 1) h.id h.body body) (as_master h))
        else if value then Ok (record { tree = leaf h.id h.offset body; left = left - 1 }) else refused BadValue h.id h.offset) ≡ Ok g → IsRead room g.tree
    split true m r v some is = absurd (cc)
    split false true true v some is = absurd (cc)
    split false true false v some is =
        let found = and_then-ok (grove (room - 1) (left - 1) h.id h.body body) (as_master h) g is in
        of_master found.0 some found.1.0 found.1.1
    split false false r true some is = of_tree (leaf h.id h.offset body) (left - 1) (cc) (record { shallow = omega arith; octets = bytes })
    split false false r false some is = absurd (cc)

grove-read : (n : ℕ) (room left parent p : ℕ) (octets : List ℕ) (g : Grove) → length octets ≤ n → AreOctets octets → grove room left parent p octets ≡ Ok g → AreRead room (nodes_of g.trees)
grove-read n room left parent p [] g few bytes is =
    let same : record { trees = []; left = left } ≡ g = (let end = grove-end room left parent p in cc) in
    let P : Grove → Type 0 = λ x. AreRead room (nodes_of x.trees) in
    subst P same (record { shallow = omega arith; octets = tt })
grove-read zero room left parent p (o ∷ octets) g few bytes is = absurd (omega arith)
grove-read (suc n) room left parent p (o ∷ octets) g few bytes is =
    let more = sym (grove-more room left parent p (o ∷ octets) (omega arith)) ∙ is in
    let head = and_then-ok (header_at parent p (o ∷ octets)) (first_then grove room left parent p (o ∷ octets)) g more in
    let h : Header = head.0 in
    let fits = header_at-fits parent p (o ∷ octets) h head.1.0 in
    let element = and_then-ok (grown grove room left parent h (inside p h (o ∷ octets))) (λ x. and_then (grove room x.left parent (stated_end h) (behind p h (o ∷ octets))) (with_first x.tree)) g head.1.1 in
    let others = and_then-ok (grove room element.0.left parent (stated_end h) (behind p h (o ∷ octets))) (with_first element.0.tree) g element.1.1 in
    let within = length-inside p (o ∷ octets) h fits in
    let after = length-behind p (o ∷ octets) h fits in
    let body : AreOctets (inside p h (o ∷ octets)) = AreOctets-take _ _ (AreOctets-drop _ (o ∷ octets) bytes) in
    let first : IsRead room element.0.tree =
    grown-read room left parent h (inside p h (o ∷ octets)) element.0 body
    (λ inner found. grove-read n (room - 1) (left - 1) h.id h.body (inside p h (o ∷ octets)) inner (omega arith) body found) element.1.0 in
    let rest : AreRead room (nodes_of others.0.trees) =
    grove-read n room element.0.left parent (stated_end h) (behind p h (o ∷ octets)) others.0 (omega arith) (AreOctets-drop _ (o ∷ octets) bytes) others.1.0 in
    let low = first.shallow in
    let lower = rest.shallow in
    let same : record { trees = element.0.tree ∷ others.0.trees; left = others.0.left } ≡ g = (let made = others.1.1 in cc) in
    let P : Grove → Type 0 = λ x. AreRead room (nodes_of x.trees) in
    subst P same (record { shallow = omega arith; octets = (first.octets, rest.octets) })

-- The children of the tree `n` leave room for it, and their bodies are bytes.
pub record HasChildrenRead (n : Node) : Type 0 where
  pub shallow : depth_all (nodes_of (children n)) < deepest
  pub octets : AreOfOctets (nodes_of (children n))

pub tree_of-children : (id offset base nodes : ℕ) (body : List ℕ) (n : Node) → AreOctets body → tree_of id offset body base nodes ≡ Ok n → HasChildrenRead n
tree_of-children id offset base nodes body n bytes is = split (nodes == 0) is
  where
    of_grove : (g : Grove) → grove (deepest - 1) (nodes - 1) id base body ≡ Ok g → as_root id offset g ≡ Ok n → HasChildrenRead n
    of_grove g found made =
        let same : master id offset (nodes_of g.trees) ≡ n = cc in
        let read = grove-read (length body) (deepest - 1) (nodes - 1) id base body g (omega arith) bytes found in
        let list : g.trees ≡ list_of (nodes_of g.trees) = sym (list-nodes g.trees) in
        let low : depth_all (nodes_of g.trees) ≤ deepest - 1 = read.shallow in
        let P : List Node → Type 0 = λ l. depth_all (nodes_of l) < deepest in
        let Q : List Node → Type 0 = λ l. AreOfOctets (nodes_of l) in
        subst HasChildrenRead same (record { shallow = subst P list (omega arith); octets = subst Q list read.octets })

    split : (full : Bool) → (if full then refused TooMany id offset else and_then (grove (deepest - 1) (nodes - 1) id base body) (as_root id offset)) ≡ Ok n → HasChildrenRead n
    split true is = absurd (cc)
    split false is =
        let found = and_then-ok (grove (deepest - 1) (nodes - 1) id base body) (as_root id offset) n is in
        of_grove found.0 found.1.0 found.1.1

-- ---- integers among them

-- Each child.
each-octets : (ns : List Node) → AreOfOctets (nodes_of ns) → All IsOfOctets ns
each-octets [] hold = All-nil IsOfOctets
each-octets (n ∷ ns) hold = All-cons IsOfOctets n ns hold.0 (each-octets ns hold.1)

pub entries-octets : (tracks : Node) → HasChildrenRead tracks → All IsOfOctets (entries_of tracks)
entries-octets tracks read = All-filter (λ n. id_of n == TRACK_ENTRY) IsOfOctets (children tracks) (each-octets (children tracks) read.octets)

-- The first child that passes a test.
find-octets : (p : Node → Bool) (ns : List Node) (m : Node) → AreOfOctets (nodes_of ns) → find p ns ≡ Some m → IsOfOctets m
find-octets p [] m hold found = absurd (cc)
find-octets p (n ∷ ns) m hold found = split (p n) (find-octets p ns m hold.1) found
  where
    split : (b : Bool) → (find p ns ≡ Some m → IsOfOctets m) → cond b (Some n) (find p ns) ≡ Some m → IsOfOctets m
    split true rest found = let same : n ≡ m = cc in subst IsOfOctets same hold.0
    split false rest found = rest found

children-octets : (n : Node) → IsOfOctets n → AreOfOctets (nodes_of (children n))
children-octets (leaf id at body) hold = tt
children-octets (master id at kids) hold = subst AreOfOctets (sym (nodes-list kids)) hold

body-octets : (n : Node) → IsOfOctets n → AreOctets (body_of n)
body-octets (leaf id at body) hold = hold
body-octets (master id at kids) hold = λ i. omega arith

-- A number of eight bytes is below 2^64.
uint-small : (body : List ℕ) → AreOctets body → length body ≤ 8 → uint_of body < 2 ^ 64
uint-small body bytes short =
    let below : uint_of body < 256 ^ length body = big_from-lt 0 (length body) body bytes in
    let most : 256 ^ length body ≤ 256 ^ 8 = pow-le-pow_right {n = 256} (omega arith) {i = length body} {j = 8} short in
    omega arith

uid-none : uint_default TRACK_UID ≡ None
unfolding entry_of table
uid-none = refl

value-small : (body : List ℕ) → AreOctets body → length body ≤ 8 → uint_value TRACK_UID body < 2 ^ 64
value-small [] bytes short = let none : unwrap_or (uint_default TRACK_UID) 0 ≡ 0 = ap (λ o. unwrap_or o 0) uid-none in omega arith
value-small (o ∷ octets) bytes short = uint-small (o ∷ octets) bytes short

-- The identifier of an entry that was read has 64 bits.
pub uid-small : (entry : Node) → IsSound entry → HasUint (id_of entry) TRACK_UID → IsOfOctets entry → uid_of entry < 2 ^ 64
uid-small entry sound has hold = split (first_child TRACK_UID entry) refl
  where
    split : (o : Option Node) → first_child TRACK_UID entry ≡ o → unwrap_or (option_map integer_of o) (unwrap_or (uint_default TRACK_UID) 0) < 2 ^ 64
    split None found = let none : unwrap_or (uint_default TRACK_UID) 0 ≡ 0 = ap (λ o. unwrap_or o 0) uid-none in omega arith
    split (Some n) found =
        let short = first_child-short entry n TRACK_UID sound has found in
        let bytes = body-octets n (find-octets (λ m. id_of m == TRACK_UID) (children entry) n (children-octets entry hold) found) in
        let own : id_of n ≡ TRACK_UID = (first_child-sound entry n TRACK_UID sound found).id in
        subst (λ (id : ℕ). uint_value id (body_of n) < 2 ^ 64) (sym own) (value-small (body_of n) bytes short)
