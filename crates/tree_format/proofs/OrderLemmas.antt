-- Reading step by step gives the tree that is defined over all Elements at once.
use Rattle.std.proofs.Common.{◌≡◌, ℕ, zero, suc, ◌+◌, ◌-◌, ◌<◌, ◌≤◌, ◌==◌, nat_le, Bool, true, false, not, if◌then◌else◌, List, [], ◌∷◌, ◌++◌, map, length, length-append, Option, Some, None, Result, Ok, Err, refl, sym, ◌∙◌, ap, arith}
use Rattle.std.proofs.lemmas.Bool.Decides.{nat_tests}
use Rattle.mkv_io.specs.declared.damage.Damage.{Damage}
use Rattle.mkv_io.specs.declared.damage.Kind.TheVariants.{BadValue, TooMany}
use Rattle.mkv_schema.specs.declared.element.Header.{Header}
use Rattle.mkv_schema.specs.Element.{stated_end, damage}
use Rattle.mkv_schema.specs.Outline.{first_damage, first_refusal, where_it}
use Rattle.mkv_io.specs.Results.{and_then, unless}
use Rattle.mkv_schema.specs.Value.{is_known_value}
use Rattle.tree_format.specs.Node.{Node, Nodes, leaf, master, none, node, nodes_of, id_of, IsMaster, count, count_all, deepest}
use Rattle.tree_format.specs.Reading.{Reader, Grove, Grown, header_at, inside, behind, is_master_in, as_master, grown, with_first, first_then, grove_within, grove, as_root, tree_of}
use Rattle.tree_format.specs.Standing.{IsSound, KeepsLimits, IsReadWithoutLimits, kept, placed_in}
use Rattle.tree_format.specs.NormalForm.{content}
use Rattle.tree_format.proofs.ReadingLemmas.{header_at-fits, length-inside, length-behind}
use Rattle.tree_format.proofs.AgainLemmas.{sound-again}
use Rattle.tree_format.specs.Order.{Listed, Found, Listing, found, followed, listed_from, elements_within, elements_in, NodeContext, in_order, all_in_order, told_at, too_deep, no_value, one_too_many, causes, first_refused, tree_in_order, tree_without_limits}
use Rattle.mkv_schema.proofs.OutlineLemmas.{unless-ok}

-- ---- the first refusal of concatenated lists

first_damage-first : (o : Option Damage) (os : List (Option Damage)) → first_damage (o ∷ os) ≡ first_refusal o (first_damage os)
first_damage-first None os = refl
first_damage-first (Some d) os = refl

refusal-assoc : (a b c : Option Damage) → first_refusal a (first_refusal b c) ≡ first_refusal (first_refusal a b) c
refusal-assoc None b c = refl
refusal-assoc (Some d) b c = refl

first_refused-first : (nodes before : ℕ) (s : NodeContext) (spots : List NodeContext)
    → first_refused nodes before (s ∷ spots) ≡ first_refusal (first_damage (causes nodes before s)) (first_refused nodes (before + 1) spots)
first_refused-first nodes before s spots = first_damage-first (first_damage (causes nodes before s)) _

first_refused-append : (nodes before : ℕ) (a b : List NodeContext)
    → first_refused nodes before (a ++ b) ≡ first_refusal (first_refused nodes before a) (first_refused nodes (before + length a) b)
first_refused-append nodes before [] b = let same : before ≡ before + 0 = omega arith in ap (λ k. first_refused nodes k b) same
first_refused-append nodes before (s ∷ a) b =
    let same : before + 1 + length a ≡ before + suc (length a) = omega arith in
    first_refused-first nodes before s (a ++ b)
    ∙ ap (first_refusal (first_damage (causes nodes before s))) (first_refused-append nodes (before + 1) a b ∙ ap (λ k. first_refusal (first_refused nodes (before + 1) a) (first_refused nodes k b)) same)
    ∙ refusal-assoc (first_damage (causes nodes before s)) (first_refused nodes (before + 1) a) _
    ∙ ap (λ r. first_refusal r (first_refused nodes (before + suc (length a)) b)) (sym (first_refused-first nodes before s a))

-- ---- the number of Elements

mutual
  length-in_order : (parent around : ℕ) (n : Node) → length (in_order parent around n) ≡ count n
  length-in_order parent around (leaf id at body) = refl
  length-in_order parent around (master id at kids) = let rest = length-all_in_order id (around + 1) kids in omega arith

  length-all_in_order : (parent around : ℕ) (ns : Nodes) → length (all_in_order parent around ns) ≡ count_all ns
  length-all_in_order parent around none = refl
  length-all_in_order parent around (node n ns) =
      omega (arith, length-append (in_order parent around n) (all_in_order parent around ns), length-in_order parent around n, length-all_in_order parent around ns)

none-first : (a b : Option Damage) → first_refusal a b ≡ None → a ≡ None
none-first None b is = refl
none-first (Some d) b is = absurd (cc)

none-later : (a b : Option Damage) → first_refusal a b ≡ None → b ≡ None
none-later None b is = is
none-later (Some d) b is = absurd (cc)

where-not : (b : Bool) (d : Damage) → where_it b d ≡ None → b ≡ false
where-not true d is = absurd (cc)
where-not false d is = refl

-- An Element that isn't refused is within the allowed number.
few-nodes : (nodes before : ℕ) (s : NodeContext) → first_damage (causes nodes before s) ≡ None → before < nodes
few-nodes nodes before s is =
    let first : where_it (nat_le nodes before) (told_at TooMany s) ≡ None =
    none-first (one_too_many nodes before s) _ (sym (first_damage-first (one_too_many nodes before s) (too_deep s ∷ no_value s ∷ [])) ∙ is) in
    let under : nat_le nodes before ≡ false = where-not (nat_le nodes before) (told_at TooMany s) first in
    grind (arith, nat_tests)

none-few : (nodes before : ℕ) (spots : List NodeContext) → before ≤ nodes → first_refused nodes before spots ≡ None → before + length spots ≤ nodes
none-few nodes before [] enough is = omega arith
none-few nodes before (s ∷ spots) enough is =
    let both : first_refusal (first_damage (causes nodes before s)) (first_refused nodes (before + 1) spots) ≡ None = sym (first_refused-first nodes before s spots) ∙ is in
    let under = few-nodes nodes before s (none-first _ _ both) in
    let rest = none-few nodes (before + 1) spots (omega arith) (none-later _ _ both) in
    omega arith

-- ---- causes that refuse one Element

full-cause : (nodes before : ℕ) (s : NodeContext) → nat_le nodes before ≡ true → first_damage (causes nodes before s) ≡ Some (told_at TooMany s)
full-cause nodes before s full = rw full refl

leaf-cause : (nodes before parent around id at : ℕ) (body : List ℕ) → nat_le nodes before ≡ false
    → first_damage (causes nodes before (record { parent = parent; around = around; node = leaf id at body })) ≡ (if is_known_value parent id body then None else Some (damage BadValue id at))
leaf-cause nodes before parent around id at body few = rw few (split (is_known_value parent id body))
  where
    split : (v : Bool) → first_damage (None ∷ None ∷ where_it (not v) (damage BadValue id at) ∷ []) ≡ (if v then None else Some (damage BadValue id at))
    split true = refl
    split false = refl

master-cause : (nodes before parent around id at : ℕ) (kids : Nodes) → nat_le nodes before ≡ false
    → first_damage (causes nodes before (record { parent = parent; around = around; node = master id at kids })) ≡ (if nat_le deepest around then Some (damage TooMany id at) else None)
master-cause nodes before parent around id at kids few = rw few (split (nat_le deepest around))
  where
    split : (v : Bool) → first_damage (None ∷ where_it v (damage TooMany id at) ∷ None ∷ []) ≡ (if v then Some (damage TooMany id at) else None)
    split true = refl
    split false = refl

-- ---- a body

-- the first refusal of the Elements of a list, or the damage that ends them
abbrev refusal : ℕ → ℕ → ℕ → ℕ → Listed → Option Damage
refusal nodes before parent around all = first_refusal (first_refused nodes before (all_in_order parent around (nodes_of all.trees))) all.damage

-- the Elements and the number of nodes that may follow, unless something refuses them
abbrev answer : ℕ → ℕ → ℕ → ℕ → ℕ → Listed → Result Grove Damage
answer nodes before parent around left all =
    unless (refusal nodes before parent around all) (record { trees = all.trees; left = left - count_all (nodes_of all.trees) })

-- The reader `read` and the listing `listing` give the same results.
Agrees : Reader → Listing → Type 0
Agrees read listing =
    (room left nodes before around parent p : ℕ) (octets : List ℕ) → room + around ≡ deepest → left + before ≡ nodes
    → read room left parent p octets ≡ answer nodes before parent around left (listing parent p octets)

-- the first refusal of an Element, or the damage inside it
abbrev refusal_of : ℕ → ℕ → ℕ → ℕ → Found → Option Damage
refusal_of nodes before parent around one = first_refusal (first_refused nodes before (in_order parent around one.tree)) one.damage

-- an Element that is read, unless something refuses it
abbrev answer_of : ℕ → ℕ → ℕ → ℕ → ℕ → Found → Result Grown Damage
answer_of nodes before parent around left one =
    unless (refusal_of nodes before parent around one) (record { tree = one.tree; left = left - count one.tree })

empty-full : (left before nodes : ℕ) → left + before ≡ nodes → (left == 0) ≡ nat_le nodes before
empty-full left before nodes same = split (left == 0) (nat_le nodes before) refl refl
  where
    split : (a b : Bool) → (left == 0) ≡ a → nat_le nodes before ≡ b → a ≡ b
    split true true p q = refl
    split false false p q = refl
    split true false p q = absurd (grind (arith, nat_tests))
    split false true p q = absurd (grind (arith, nat_tests))

no-room : (room around : ℕ) → room + around ≡ deepest → (room == 0) ≡ nat_le deepest around
no-room room around same = empty-full room around deepest same

then-unless : {A B : Type 0} (o : Option Damage) (x : A) (f : A → B) → and_then (unless o x) (λ y. Ok (f y)) ≡ unless o (f x)
then-unless None x f = refl
then-unless (Some d) x f = refl

-- An Element that is refused ends the list.
stops : {A : Type 0} (nodes before : ℕ) (s : NodeContext) (more : List NodeContext) (inner : Option Damage) (x : A) (d : Damage) → first_damage (causes nodes before s) ≡ Some d
    → unless (first_refusal (first_refused nodes before (s ∷ more)) inner) x ≡ Err d
stops nodes before s more inner x d is =
    ap (λ r. unless (first_refusal r inner) x) (first_refused-first nodes before s more ∙ ap (λ c. first_refusal c (first_refused nodes (before + 1) more)) is)

-- An Element that isn't refused leaves the Elements after it.
goes : {A : Type 0} (nodes before : ℕ) (s : NodeContext) (more : List NodeContext) (inner : Option Damage) (x : A) → first_damage (causes nodes before s) ≡ None
    → unless (first_refusal (first_refused nodes before (s ∷ more)) inner) x ≡ unless (first_refusal (first_refused nodes (before + 1) more) inner) x
goes nodes before s more inner x is =
    ap (λ r. unless (first_refusal r inner) x) (first_refused-first nodes before s more ∙ ap (λ c. first_refusal c (first_refused nodes (before + 1) more)) is)

-- an Element with its body
grown-answer : (read : Reader) (listing : Listing) → Agrees read listing → (room left nodes before around parent : ℕ) (h : Header) (body : List ℕ) → room + around ≡ deepest → left + before ≡ nodes
    → grown read room left parent h body ≡ answer_of nodes before parent around left (found listing parent h body)
unfolding Agrees
grown-answer read listing agrees room left nodes before around parent h body low few =
    split (left == 0) (is_master_in parent h.id) (room == 0) (is_known_value parent h.id body) refl refl refl refl
  where
    kids : Listed
    kids = listing h.id h.body body

    as_leaf : Found
    as_leaf = record { tree = leaf h.id h.offset body; damage = None }

    as_kids : Found
    as_kids = record { tree = master h.id h.offset (nodes_of kids.trees); damage = kids.damage }

    leaf_spot : NodeContext
    leaf_spot = record { parent = parent; around = around; node = as_leaf.tree }

    spot : NodeContext
    spot = record { parent = parent; around = around; node = as_kids.tree }

    inner : List NodeContext
    inner = all_in_order h.id (around + 1) (nodes_of kids.trees)

    found-leaf : is_master_in parent h.id ≡ false → found listing parent h body ≡ as_leaf
    found-leaf is = rw is refl

    found-master : is_master_in parent h.id ≡ true → found listing parent h body ≡ as_kids
    found-master is = rw is refl

    split : (full is_master no_room value : Bool) → (left == 0) ≡ full → is_master_in parent h.id ≡ is_master → (room == 0) ≡ no_room → is_known_value parent h.id body ≡ value
        → grown read room left parent h body ≡ answer_of nodes before parent around left (found listing parent h body)
    split true true r v fis mis ris vis =
        let full : nat_le nodes before ≡ true = sym (empty-full left before nodes few) ∙ fis in
        let first : grown read room left parent h body ≡ Err (damage TooMany h.id h.offset) = rw fis refl in
        first ∙ sym (ap (answer_of nodes before parent around left) (found-master mis)
        ∙ stops nodes before spot inner kids.damage _ (damage TooMany h.id h.offset) (full-cause nodes before spot full))
    split true false r v fis mis ris vis =
        let full : nat_le nodes before ≡ true = sym (empty-full left before nodes few) ∙ fis in
        let first : grown read room left parent h body ≡ Err (damage TooMany h.id h.offset) = rw fis refl in
        first ∙ sym (ap (answer_of nodes before parent around left) (found-leaf mis)
        ∙ stops nodes before leaf_spot [] None _ (damage TooMany h.id h.offset) (full-cause nodes before leaf_spot full))
    split false true true v fis mis ris vis =
        let full : nat_le nodes before ≡ false = sym (empty-full left before nodes few) ∙ fis in
        let deep : nat_le deepest around ≡ true = sym (no-room room around low) ∙ ris in
        let first : grown read room left parent h body ≡ Err (damage TooMany h.id h.offset) = rw (fis, mis, ris) refl in
        let cause : first_damage (causes nodes before spot) ≡ Some (damage TooMany h.id h.offset) =
        master-cause nodes before parent around h.id h.offset (nodes_of kids.trees) full ∙ ap (λ b. if b then Some (damage TooMany h.id h.offset) else None) deep in
        first ∙ sym (ap (answer_of nodes before parent around left) (found-master mis) ∙ stops nodes before spot inner kids.damage _ (damage TooMany h.id h.offset) cause)
    split false true false v fis mis ris vis =
        let full : nat_le nodes before ≡ false = sym (empty-full left before nodes few) ∙ fis in
        let deep : nat_le deepest around ≡ false = sym (no-room room around low) ∙ ris in
        let some : 0 < left = grind (arith, nat_tests) in
        let more : 0 < room = grind (arith, nat_tests) in
        let first : grown read room left parent h body ≡ and_then (read (room - 1) (left - 1) h.id h.body body) (as_master h) = rw (fis, mis, ris) refl in
        let cause : first_damage (causes nodes before spot) ≡ None =
        master-cause nodes before parent around h.id h.offset (nodes_of kids.trees) full ∙ ap (λ b. if b then Some (damage TooMany h.id h.offset) else None) deep in
        let rest : left - 1 - count_all (nodes_of kids.trees) ≡ left - count as_kids.tree = omega arith in
        first
        ∙ ap (λ r. and_then r (as_master h)) (agrees (room - 1) (left - 1) nodes (before + 1) (around + 1) h.id h.body body (omega arith) (omega arith))
        ∙ then-unless (refusal nodes (before + 1) h.id (around + 1) kids) _ (λ (g : Grove). let x : Grown = record { tree = master h.id h.offset (nodes_of g.trees); left = g.left } in x)
        ∙ ap (λ k. let x : Grown = record { tree = as_kids.tree; left = k } in unless (refusal nodes (before + 1) h.id (around + 1) kids) x) rest
        ∙ sym (ap (answer_of nodes before parent around left) (found-master mis) ∙ goes nodes before spot inner kids.damage _ cause)
    split false false r true fis mis ris vis =
        let full : nat_le nodes before ≡ false = sym (empty-full left before nodes few) ∙ fis in
        let first : grown read room left parent h body ≡ Ok (record { tree = as_leaf.tree; left = left - 1 }) = rw (fis, mis, vis) refl in
        let cause : first_damage (causes nodes before leaf_spot) ≡ None =
        leaf-cause nodes before parent around h.id h.offset body full ∙ ap (λ b. if b then None else Some (damage BadValue h.id h.offset)) vis in
        first ∙ sym (ap (answer_of nodes before parent around left) (found-leaf mis) ∙ goes nodes before leaf_spot [] None _ cause)
    split false false r false fis mis ris vis =
        let full : nat_le nodes before ≡ false = sym (empty-full left before nodes few) ∙ fis in
        let first : grown read room left parent h body ≡ Err (damage BadValue h.id h.offset) = rw (fis, mis, vis) refl in
        let cause : first_damage (causes nodes before leaf_spot) ≡ Some (damage BadValue h.id h.offset) =
        leaf-cause nodes before parent around h.id h.offset body full ∙ ap (λ b. if b then None else Some (damage BadValue h.id h.offset)) vis in
        first ∙ sym (ap (answer_of nodes before parent around left) (found-leaf mis) ∙ stops nodes before leaf_spot [] None _ (damage BadValue h.id h.offset) cause)

-- An Element, then the Elements after it.
behind-answer : (read : Reader) (listing : Listing) → Agrees read listing → (room left nodes before around parent p : ℕ) (octets : List ℕ) (one : Found) → room + around ≡ deepest → left + before ≡ nodes
    → and_then (answer_of nodes before parent around left one) (λ g. and_then (read room g.left parent p octets) (with_first g.tree))
    ≡ answer nodes before parent around left (followed one.tree one.damage (listing parent p octets))
unfolding Agrees
behind-answer read listing agrees room left nodes before around parent p octets one low few = split (first_refused nodes before mine) one.damage refl
  where
    mine : List NodeContext
    mine = in_order parent around one.tree

    rest : Listed
    rest = listing parent p octets

    others : List NodeContext
    others = all_in_order parent around (nodes_of rest.trees)

    onward : Grown → Result Grove Damage
    onward g = and_then (read room g.left parent p octets) (with_first g.tree)

    Goal : Option Damage → Type 0
    Goal d = and_then (unless (first_refusal (first_refused nodes before mine) d) (record { tree = one.tree; left = left - count one.tree })) onward ≡ answer nodes before parent around left (followed one.tree d rest)

    mine_read : Grown
    mine_read = record { tree = one.tree; left = left - count one.tree }

    all_read : Grove
    all_read = record { trees = one.tree ∷ rest.trees; left = left - count_all (nodes_of (one.tree ∷ rest.trees)) }

    one_read : Grove
    one_read = record { trees = one.tree ∷ []; left = left - count_all (nodes_of (one.tree ∷ [])) }

    in_all : (more : List NodeContext) (r : Option Damage) → first_refused nodes before mine ≡ r → first_refused nodes before (mine ++ more) ≡ first_refusal r (first_refused nodes (before + length mine) more)
    in_all more r is = first_refused-append nodes before mine more ∙ ap (λ o. first_refusal o (first_refused nodes (before + length mine) more)) is

    front : (r d : Option Damage) → first_refused nodes before mine ≡ r → and_then (unless (first_refusal (first_refused nodes before mine) d) mine_read) onward ≡ and_then (unless (first_refusal r d) mine_read) onward
    front r d is = ap (λ o. and_then (unless (first_refusal o d) mine_read) onward) is

    split : (r d : Option Damage) → first_refused nodes before mine ≡ r → Goal d
    split (Some x) None is = front (Some x) None is ∙ sym (ap (λ o. unless (first_refusal o rest.damage) all_read) (in_all others (Some x) is))
    split (Some x) (Some d) is = front (Some x) (Some d) is ∙ sym (ap (λ o. unless (first_refusal o (Some d)) one_read) (in_all [] (Some x) is))
    split None (Some d) is = front None (Some d) is ∙ sym (ap (λ o. unless (first_refusal o (Some d)) one_read) (in_all [] None is))
    split None None is =
        let enough = none-few nodes before mine (omega arith) is in
        let many : length mine ≡ count one.tree = length-in_order parent around one.tree in
        let fewer : left - count one.tree - count_all (nodes_of rest.trees) ≡ left - count_all (nodes_of (one.tree ∷ rest.trees)) = omega arith in
        let verdict : Option Damage = first_refusal (first_refused nodes (before + length mine) others) rest.damage in
        front None None is
        ∙ ap (λ o. and_then o (with_first one.tree)) (agrees room (left - count one.tree) nodes (before + length mine) around parent p octets low (omega arith))
        ∙ then-unless verdict _ (λ (g : Grove). let x : Grove = record { trees = one.tree ∷ g.trees; left = g.left } in x)
        ∙ ap (λ k. let x : Grove = record { trees = one.tree ∷ rest.trees; left = k } in unless verdict x) fewer
        ∙ sym (ap (λ o. unless (first_refusal o rest.damage) all_read) (in_all others None is))

-- A body is read as it is listed.
within-answer : (n : ℕ) → Agrees (grove_within n) (elements_within n)
unfolding Agrees grove_within elements_within
within-answer n room left nodes before around parent p [] low few =
    let all : left ≡ left - 0 = omega arith in ap (λ k. let x : Grove = record { trees = []; left = k } in let r : Result Grove Damage = Ok x in r) all
within-answer zero room left nodes before around parent p (o ∷ octets) low few =
    let all : left ≡ left - 0 = omega arith in ap (λ k. let x : Grove = record { trees = []; left = k } in let r : Result Grove Damage = Ok x in r) all
within-answer (suc n) room left nodes before around parent p (o ∷ octets) low few = split (within-answer n) (header_at parent p (o ∷ octets))
  where
    split : Agrees (grove_within n) (elements_within n) → (r : Result Header Damage)
        → and_then r (first_then (grove_within n) room left parent p (o ∷ octets)) ≡ answer nodes before parent around left (listed_from (elements_within n) parent p (o ∷ octets) r)
    split agrees (Err d) = refl
    split agrees (Ok h) =
        ap (λ r. and_then r (λ g. and_then (grove_within n room g.left parent (stated_end h) (behind p h (o ∷ octets))) (with_first g.tree)))
        (grown-answer (grove_within n) (elements_within n) agrees room left nodes before around parent h (inside p h (o ∷ octets)) low few)
        ∙ behind-answer (grove_within n) (elements_within n) agrees room left nodes before around parent (stated_end h) (behind p h (o ∷ octets)) (found (elements_within n) parent h (inside p h (o ∷ octets))) low few

-- Reading step by step gives the tree that is defined over all Elements at once.
pub tree_of-in_order : (id offset : ℕ) (body : List ℕ) (base nodes : ℕ) → tree_of id offset body base nodes ≡ tree_in_order id offset body base nodes
unfolding grove elements_in Agrees
tree_of-in_order id offset body base nodes = split (nodes == 0) refl
  where
    all : Listed
    all = elements_within (length body) id base body

    tree : Node
    tree = master id offset (nodes_of all.trees)

    root : NodeContext
    root = record { parent = 0; around = 0; node = tree }

    inner : List NodeContext
    inner = all_in_order id 1 (nodes_of all.trees)

    split : (full : Bool) → (nodes == 0) ≡ full → tree_of id offset body base nodes ≡ unless (first_refusal (first_refused nodes 0 (root ∷ inner)) all.damage) tree
    split true is =
        let full : nat_le nodes 0 ≡ true = grind (arith, nat_tests) in
        let first : tree_of id offset body base nodes ≡ Err (damage TooMany id offset) = rw is refl in
        first ∙ sym (stops nodes 0 root inner all.damage tree (damage TooMany id offset) (full-cause nodes 0 root full))
    split false is =
        let full : nat_le nodes 0 ≡ false = grind (arith, nat_tests) in
        let some : 0 < nodes = grind (arith, nat_tests) in
        let first : tree_of id offset body base nodes ≡ and_then (grove (deepest - 1) (nodes - 1) id base body) (as_root id offset) = rw is refl in
        let cause : first_damage (causes nodes 0 root) ≡ None = master-cause nodes 0 0 0 id offset (nodes_of all.trees) full in
        first
        ∙ ap (λ r. and_then r (as_root id offset)) (within-answer (length body) (deepest - 1) (nodes - 1) nodes 1 1 id base body refl (omega arith))
        ∙ then-unless (refusal nodes 1 id 1 all) _ (λ (g : Grove). master id offset (nodes_of g.trees))
        ∙ sym (goes nodes 0 root inner all.damage tree cause)

-- ---- without a reader's limits

-- A leaf that nothing refuses is a value of its kind.
value-stands : (nodes before : ℕ) (s : NodeContext) → first_damage (causes nodes before s) ≡ None → no_value s ≡ None
value-stands nodes before s is =
    let later : first_damage (too_deep s ∷ no_value s ∷ []) ≡ None = none-later (one_too_many nodes before s) _ (sym (first_damage-first (one_too_many nodes before s) (too_deep s ∷ no_value s ∷ [])) ∙ is) in
    let last : first_damage (no_value s ∷ []) ≡ None = none-later (too_deep s) _ (sym (first_damage-first (too_deep s) (no_value s ∷ [])) ∙ later) in
    none-first (no_value s) None (sym (first_damage-first (no_value s) []) ∙ last)

values-stand : (nodes before : ℕ) (spots : List NodeContext) → first_refused nodes before spots ≡ None → first_damage (map no_value spots) ≡ None
values-stand nodes before [] is = refl
values-stand nodes before (s ∷ spots) is =
    let both : first_refusal (first_damage (causes nodes before s)) (first_refused nodes (before + 1) spots) ≡ None = sym (first_refused-first nodes before s spots) ∙ is in
    let rest = values-stand nodes (before + 1) spots (none-later _ _ both) in
    first_damage-first (no_value s) (map no_value spots)
    ∙ ap (λ o. first_refusal o (first_damage (map no_value spots))) (value-stands nodes before s (none-first _ _ both)) ∙ rest

-- A tree that is read with limits is the tree without limits.
pub tree_of-without_limits : (id offset : ℕ) (body : List ℕ) (base nodes : ℕ) (n : Node) → tree_of id offset body base nodes ≡ Ok n → tree_without_limits id offset body base ≡ Ok n
tree_of-without_limits id offset body base nodes n is =
    let parts = unless-ok _ _ n (sym (tree_of-in_order id offset body base nodes) ∙ is) in
    let all : Listed = elements_in id base body in
    let tree : Node = master id offset (nodes_of all.trees) in
    let refused_none : first_refused nodes 0 (in_order 0 0 tree) ≡ None = none-first (first_refused nodes 0 (in_order 0 0 tree)) all.damage parts.0 in
    let damage_none : all.damage ≡ None = none-later (first_refused nodes 0 (in_order 0 0 tree)) all.damage parts.0 in
    ap (λ o. unless (first_refusal o all.damage) tree) (values-stand nodes 0 (in_order 0 0 tree) refused_none)
    ∙ ap (λ o. unless o tree) damage_none ∙ ap (λ t. let r : Result Node Damage = Ok t in r) parts.1

-- The written bytes of a valid master's body are read back without limits too.
pub sound-without_limits : (n : Node) → IsMaster n → IsSound n → KeepsLimits n → IsReadWithoutLimits n
sound-without_limits n is sound within =
    let again = sound-again n (kept n) is sound within (omega arith) in
    record { read = λ offset base. tree_of-without_limits (id_of n) offset (content n) base (kept n) (placed_in offset base n) (again.read offset base) }

-- ---- one Element at a time

-- The listings `f` and `g` give the same for every list of fewer than `n` bytes.
AlikeBelow : ℕ → Listing → Listing → Type 0
AlikeBelow n f g = (parent p : ℕ) (octets : List ℕ) → length octets < n → f parent p octets ≡ g parent p octets

found-same : (f g : Listing) (parent : ℕ) (h : Header) (body : List ℕ) → f h.id h.body body ≡ g h.id h.body body → found f parent h body ≡ found g parent h body
found-same f g parent h body same =
    ap (λ (kids : Listed). if is_master_in parent h.id then (let x : Found = record { tree = master h.id h.offset (nodes_of kids.trees); damage = kids.damage } in x) else record { tree = leaf h.id h.offset body; damage = None }) same

listed-same : (f g : Listing) (parent p : ℕ) (octets : List ℕ) (r : Result Header Damage) → header_at parent p octets ≡ r → AlikeBelow (length octets) f g → listed_from f parent p octets r ≡ listed_from g parent p octets r
unfolding AlikeBelow
listed-same f g parent p octets (Err d) is same = refl
listed-same f g parent p octets (Ok h) is same =
    let fits = header_at-fits parent p octets h is in
    ap (λ (first : Found). followed first.tree first.damage (f parent (stated_end h) (behind p h octets)))
    (found-same f g parent h (inside p h octets) (same h.id h.body (inside p h octets) (length-inside p octets h fits)))
    ∙ ap (followed (found g parent h (inside p h octets)).tree (found g parent h (inside p h octets)).damage) (same parent (stated_end h) (behind p h octets) (length-behind p octets h fits))

within-alike : (n m : ℕ) (parent p : ℕ) (octets : List ℕ) → length octets ≤ n → length octets ≤ m → elements_within n parent p octets ≡ elements_within m parent p octets
unfolding elements_within AlikeBelow
within-alike n m parent p [] few enough = refl
within-alike zero m parent p (o ∷ octets) few enough = absurd (omega arith)
within-alike (suc n) zero parent p (o ∷ octets) few enough = absurd (omega arith)
within-alike (suc n) (suc m) parent p (o ∷ octets) few enough =
    listed-same (elements_within n) (elements_within m) parent p (o ∷ octets) (header_at parent p (o ∷ octets)) refl
    (λ q k body shorter. within-alike n m q k body (omega arith) (omega arith))

pub elements_in-end : (parent p : ℕ) → elements_in parent p [] ≡ record { trees = []; damage = None }
unfolding elements_in elements_within
elements_in-end parent p = refl

pub elements_in-more : (parent p : ℕ) (octets : List ℕ) → 0 < length octets → elements_in parent p octets ≡ listed_from elements_in parent p octets (header_at parent p octets)
unfolding elements_in elements_within AlikeBelow
elements_in-more parent p [] some = absurd (omega arith)
elements_in-more parent p (o ∷ octets) some =
    listed-same (elements_within (length octets)) elements_in parent p (o ∷ octets) (header_at parent p (o ∷ octets)) refl
    (λ q k body shorter. within-alike (length octets) (length body) q k body (omega arith) (omega arith))
