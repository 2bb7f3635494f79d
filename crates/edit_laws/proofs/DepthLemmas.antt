-- The depth of a master that is read is at most the maximum.
use Rattle.std.proofs.Common.{◌≡◌, ◌≤◌, ℕ, zero, suc, ◌-◌, ◌==◌, Bool, true, false, if◌then◌else◌, List, [], ◌∷◌, length, Ok, refl, sym, ◌∙◌, subst, arith}
use Rattle.mkv_io.specs.declared.damage.Kind.TheVariants.{BadValue, TooMany}
use Rattle.mkv_schema.specs.declared.element.Header.{Header}
use Rattle.mkv_schema.specs.Element.{stated_end}
use Rattle.mkv_io.specs.Results.{and_then}
use Rattle.mkv_schema.specs.Value.{is_known_value}
use Rattle.mkv_schema.proofs.OutlineLemmas.{and_then-ok}
use Rattle.std.proofs.lemmas.Bool.Decides.{nat_tests}
use Rattle.tree_format.specs.Node.{Node, leaf, master, nodes_of, id_of, depth, depth_all, deepest, IsMaster}
use Rattle.tree_format.specs.Reading.{Grove, Grown, header_at, inside, behind, is_master_in, refused, as_master, grown, with_first, first_then, grove, as_root, tree_of}
use Rattle.tree_format.proofs.ReadingLemmas.{grove-end, grove-more, header_at-fits, length-inside, length-behind}

grown-deep : (room left parent : ℕ) (h : Header) (body : List ℕ) (g : Grown) → ((inner : Grove) → grove (room - 1) (left - 1) h.id h.body body ≡ Ok inner → depth_all (nodes_of inner.trees) ≤ room - 1)
    → grown grove room left parent h body ≡ Ok g → depth g.tree ≤ room
grown-deep room left parent h body g inner_is is = split (left == 0) (is_master_in parent h.id) (room == 0) (is_known_value parent h.id body) refl is
  where
    of_tree : (n : Node) (k : ℕ) → record { tree = n; left = k } ≡ g → depth n ≤ room → depth g.tree ≤ room
    of_tree n k same deep = let P : Grown → Type 0 = λ x. depth x.tree ≤ room in subst P same deep

    split : (full is_master no_room value : Bool) → (room == 0) ≡ no_room
        → (if full then refused TooMany h.id h.offset else if is_master then
        (if no_room then refused TooMany h.id h.offset else and_then (grove (room - 1) (left - 1) h.id h.body body) (as_master h))
        else if value then Ok (record { tree = leaf h.id h.offset body; left = left - 1 }) else refused BadValue h.id h.offset) ≡ Ok g → depth g.tree ≤ room
    split true m r v ris is = absurd (cc)
    split false true true v ris is = absurd (cc)
    split false true false v ris is =
        let found = and_then-ok (grove (room - 1) (left - 1) h.id h.body body) (as_master h) g is in
        let made : as_master h found.0 ≡ Ok g = found.1.1 in
        let deep = inner_is found.0 found.1.0 in
        let some : 1 ≤ room = grind (arith, nat_tests) in
        of_tree (master h.id h.offset (nodes_of found.0.trees)) found.0.left (cc) (omega arith)
    split false false r true ris is = of_tree (leaf h.id h.offset body) (left - 1) (cc) (omega arith)
    split false false r false ris is = absurd (cc)

grove-within : (n : ℕ) (room left parent p : ℕ) (octets : List ℕ) (g : Grove) → length octets ≤ n → grove room left parent p octets ≡ Ok g → depth_all (nodes_of g.trees) ≤ room
grove-within n room left parent p [] g few is =
    let same : record { trees = []; left = left } ≡ g = (let end = grove-end room left parent p in cc) in
    let P : Grove → Type 0 = λ x. depth_all (nodes_of x.trees) ≤ room in
    subst P same (omega arith)
grove-within zero room left parent p (o ∷ octets) g few is = absurd (omega arith)
grove-within (suc n) room left parent p (o ∷ octets) g few is =
    let more = sym (grove-more room left parent p (o ∷ octets) (omega arith)) ∙ is in
    let head = and_then-ok (header_at parent p (o ∷ octets)) (first_then grove room left parent p (o ∷ octets)) g more in
    let h : Header = head.0 in
    let fits = header_at-fits parent p (o ∷ octets) h head.1.0 in
    let element = and_then-ok (grown grove room left parent h (inside p h (o ∷ octets))) (λ x. and_then (grove room x.left parent (stated_end h) (behind p h (o ∷ octets))) (with_first x.tree)) g head.1.1 in
    let others = and_then-ok (grove room element.0.left parent (stated_end h) (behind p h (o ∷ octets))) (with_first element.0.tree) g element.1.1 in
    let within = length-inside p (o ∷ octets) h fits in
    let after = length-behind p (o ∷ octets) h fits in
    let first = grown-deep room left parent h (inside p h (o ∷ octets)) element.0
    (λ inner found. grove-within n (room - 1) (left - 1) h.id h.body (inside p h (o ∷ octets)) inner (omega arith) found) element.1.0 in
    let rest = grove-within n room element.0.left parent (stated_end h) (behind p h (o ∷ octets)) others.0 (omega arith) others.1.0 in
    let same : record { trees = element.0.tree ∷ others.0.trees; left = others.0.left } ≡ g = (let made = others.1.1 in cc) in
    let P : Grove → Type 0 = λ x. depth_all (nodes_of x.trees) ≤ room in
    subst P same (omega arith)

-- `n` is a tree with the ID `id` that was read.
pub record IsOfTree (id : ℕ) (n : Node) : Type 0 where
  pub own : id_of n ≡ id
  pub master : IsMaster n
  pub deep : depth n ≤ deepest

pub tree_of-deep : (id offset base nodes : ℕ) (body : List ℕ) (n : Node) → tree_of id offset body base nodes ≡ Ok n → IsOfTree id n
tree_of-deep id offset base nodes body n is = split (nodes == 0) is
  where
    split : (none : Bool) → (if none then refused TooMany id offset else and_then (grove (deepest - 1) (nodes - 1) id base body) (as_root id offset)) ≡ Ok n → IsOfTree id n
    split true is = absurd (cc)
    split false is =
        let found = and_then-ok (grove (deepest - 1) (nodes - 1) id base body) (as_root id offset) n is in
        let same : master id offset (nodes_of found.0.trees) ≡ n = (let made = found.1.1 in cc) in
        let deep = grove-within (length body) (deepest - 1) (nodes - 1) id base body found.0 (omega arith) found.1.0 in
        subst (IsOfTree id) same (record { own = refl; master = refl; deep = omega arith })
