-- Children that were read one by one and changed are written like the written children with the same change.
use Rattle.std.proofs.Common.{◌≡◌, ◌⊎◌, inl, inr, ℕ, ◌==◌, Bool, true, false, not, cond, if◌then◌else◌, List, [], ◌∷◌, ◌++◌, map, filter, find, flat_map, All, Some, refl, sym, ap, ap₂, ◌∙◌, arith, option_map}
use Rattle.std.proofs.lemmas.Bool.Decides.{nat_tests}
use Rattle.std.proofs.lemmas.List.Elements.{All-nil, All-cons, All-head, All-tail}
use Rattle.std.proofs.lemmas.Bool.{cases_Bool}
use Rattle.mkv_schema.specs.declared.ids.TheConstants.{FILE_DATA, FILE_UID}
use Rattle.mkv_schema.specs.Value.{uint_value}
use Rattle.tree_format.specs.Node.{Node, Nodes, leaf, master, none, node, list_of, id_of, is_leaf}
use Rattle.tree_format.specs.NormalForm.{is_filler, kept_octets, octets, content}
use Rattle.tree_format.specs.Changes.{without, with_child, part, HasNone}
use Rattle.tree_format.specs.Children.{uint_leaf}
use Rattle.tree_format.specs.Values.{integer_of}
use Rattle.tree_format.proofs.PartLemmas.{SplitAt, split-first, with_child-at, with_child-none, part-other}
use Rattle.tree_format.proofs.WrittenLemmas.{octets-kept}
use Rattle.output_model.specs.Element.{Element}
use Rattle.output_model.specs.Document.{tree_element}
use Rattle.record_laws.proofs.SameLemmas.{filler-other}
use Rattle.record_laws.proofs.StayLemmas.{octets-filler}

-- the children that are written
abbrev pub written : List Node → List Node
written ns = filter (λ n. not (is_filler (id_of n))) ns

-- a child of an AttachedFile as it is read: with its bytes, except FileData
abbrev pub as_read : Node → Node
as_read n = leaf (id_of n) 0 (if id_of n == FILE_DATA then [] else content n)

-- ---- a child is set, one child at a time

with-first : (n m : Node) (ms : List Node) → with_child n (m ∷ ms) ≡ cond (id_of m == id_of n) (n ∷ without (id_of n) ms) (m ∷ with_child n ms)
with-first n m ms = split (id_of m == id_of n) refl
  where
    later : (id_of m == id_of n) ≡ false → HasNone (id_of n) ms ⊎ SplitAt (id_of n) ms → with_child n (m ∷ ms) ≡ m ∷ with_child n ms
    later is (inl lacks) =
        with_child-none n (m ∷ ms) (All-cons (λ k. (id_of k == id_of n) ≡ false) m ms is lacks) ∙ ap (λ l. m ∷ l) (sym (with_child-none n ms lacks))
    later is (inr s) =
        ap (λ l. with_child n (m ∷ l)) s.whole
        ∙ with_child-at n s.first (m ∷ s.front) s.back s.is (All-cons (λ k. (id_of k == id_of n) ≡ false) m s.front is s.none_before)
        ∙ ap (λ l. m ∷ l) (sym (ap (with_child n) s.whole ∙ with_child-at n s.first s.front s.back s.is s.none_before))

    split : (t : Bool) → (id_of m == id_of n) ≡ t → with_child n (m ∷ ms) ≡ cond t (n ∷ without (id_of n) ms) (m ∷ with_child n ms)
    split true is = with_child-at n m [] ms is (All-nil (λ k. (id_of k == id_of n) ≡ false))
    split false is = later is (split-first (id_of n) ms)

with-alone : (n : Node) → with_child n [] ≡ n ∷ []
with-alone n = with_child-none n [] (All-nil (λ k. (id_of k == id_of n) ≡ false))

-- ---- Elements that are left out don't count

without-written : (id : ℕ) (ns : List Node) → flat_map octets (without id (written ns)) ≡ flat_map octets (without id ns)
without-written id [] = refl
without-written id (n ∷ ns) =
    let rest = without-written id ns in
    elim (cases_Bool (is_filler (id_of n))) [
      | inl filler ↦ elim (cases_Bool (id_of n == id)) [ inl is ↦ rw (filler, is) rest | inr is ↦ rw (filler, is, octets-filler n filler) rest ]
      | inr kept ↦ elim (cases_Bool (id_of n == id)) [ inl is ↦ rw (kept, is) rest | inr is ↦ rw (kept, is) (ap (λ (o : List ℕ). octets n ++ o) rest) ]
    ]

with-written : (c : Node) (ns : List Node) → is_filler (id_of c) ≡ false → flat_map octets (with_child c (written ns)) ≡ flat_map octets (with_child c ns)
with-written c [] keeps = refl
with-written c (n ∷ ns) keeps =
    let rest = with-written c ns keeps in
    let own = with-first c n ns in
    elim (cases_Bool (is_filler (id_of n))) [
      | inl filler ↦ rw (filler, own, filler-other (id_of n) (id_of c) filler keeps, octets-filler n filler) rest
      | inr kept ↦ elim (cases_Bool (id_of n == id_of c)) [
        | inl is ↦ rw (kept, with-first c n (written ns), own, is) (ap (λ (o : List ℕ). octets c ++ o) (without-written (id_of c) ns))
        | inr is ↦ rw (kept, with-first c n (written ns), own, is) (ap (λ (o : List ℕ). octets n ++ o) rest)
      ]
    ]

-- The children with an ID that is kept.
pub part-written : (id : ℕ) (ns : List Node) → is_filler id ≡ false → part id (written ns) ≡ part id ns
part-written id [] keeps = refl
part-written id (n ∷ ns) keeps =
    let rest = part-written id ns keeps in
    elim (cases_Bool (is_filler (id_of n))) [
      | inl filler ↦ rw (filler, filler-other (id_of n) id filler keeps) rest
      | inr kept ↦ rw kept (ap (λ (l : List Node). cond (id_of n == id) (n ∷ l) l) rest)
    ]

-- ---- a child as it is read

as_read-octets : (n : Node) → (id_of n == FILE_DATA) ≡ false → octets (as_read n) ≡ octets n
as_read-octets n other = ap (λ (t : Bool). kept_octets (id_of n) (cond t [] (content n))) other ∙ sym (octets-kept n)

as_read-data : (n : Node) → (id_of n == FILE_DATA) ≡ true → as_read n ≡ leaf FILE_DATA 0 []
as_read-data n is =
    let same : id_of n ≡ FILE_DATA = grind (arith, nat_tests) in
    ap₂ (λ (i : ℕ) (t : Bool). leaf i 0 (cond t [] (content n))) same is

without-map : (id : ℕ) (ns : List Node) → without id (map as_read ns) ≡ map as_read (without id ns)
without-map id [] = refl
without-map id (n ∷ ns) =
    let rest = without-map id ns in
    elim (cases_Bool (id_of n == id)) [ inl is ↦ rw is rest | inr is ↦ rw is (ap (λ l. as_read n ∷ l) rest) ]

-- A child that is read as itself may be set before or after.
with-map : (c : Node) (ns : List Node) → as_read c ≡ c → with_child c (map as_read ns) ≡ map as_read (with_child c ns)
with-map c [] same = with-alone c ∙ ap (λ k. k ∷ []) (sym same) ∙ sym (ap (map as_read) (with-alone c))
with-map c (n ∷ ns) same = elim (cases_Bool (id_of n == id_of c)) [
  | inl is ↦ rw (with-first c (as_read n) (map as_read ns), with-first c n ns, is) (ap₂ (λ (k : Node) l. k ∷ l) (sym same) (without-map (id_of c) ns))
  | inr is ↦ rw (with-first c (as_read n) (map as_read ns), with-first c n ns, is) (ap (λ l. as_read n ∷ l) (with-map c ns same))
]

-- ---- children with one FileData

-- There is no FileData.
none-data : (n : Node) (ns : List Node) → part FILE_DATA (n ∷ ns) ≡ [] → ((id_of n == FILE_DATA) ≡ false) × (part FILE_DATA ns ≡ [])
none-data n ns is =
    elim (cases_Bool (id_of n == FILE_DATA)) [ inl test ↦ absurd (let some = rw test at is in cc) | inr test ↦ (test, rw test at is) ]

without-data : (ns : List Node) → part FILE_DATA ns ≡ [] → without FILE_DATA (map as_read ns) ≡ map as_read ns
without-data [] lacks = refl
without-data (n ∷ ns) lacks =
    let both = none-data n ns lacks in
    ap (λ (t : Bool). cond (not t) (as_read n ∷ without FILE_DATA (map as_read ns)) (without FILE_DATA (map as_read ns))) both.0
    ∙ ap (λ l. as_read n ∷ l) (without-data ns both.1)

octets-data : (ns : List Node) → part FILE_DATA ns ≡ [] → flat_map octets (map as_read ns) ≡ flat_map octets ns
octets-data [] lacks = refl
octets-data (n ∷ ns) lacks = let both = none-data n ns lacks in ap₂ (λ (a b : List ℕ). a ++ b) (as_read-octets n both.0) (octets-data ns both.1)

-- An empty FileData that replaces the first is the one that is read.
empty-again : (m : Node) (ns : List Node) → part FILE_DATA ns ≡ m ∷ [] → with_child (leaf FILE_DATA 0 []) (map as_read ns) ≡ map as_read ns
empty-again m [] one = absurd (cc)
empty-again m (n ∷ ns) one = with-first (leaf FILE_DATA 0 []) (as_read n) (map as_read ns) ∙ split (id_of n == FILE_DATA) refl one (λ rest. empty-again m ns rest)
  where
    split : (t : Bool) → (id_of n == FILE_DATA) ≡ t → cond t (n ∷ part FILE_DATA ns) (part FILE_DATA ns) ≡ m ∷ [] → (part FILE_DATA ns ≡ m ∷ [] → with_child (leaf FILE_DATA 0 []) (map as_read ns) ≡ map as_read ns)
        → cond t (leaf FILE_DATA 0 [] ∷ without FILE_DATA (map as_read ns)) (as_read n ∷ with_child (leaf FILE_DATA 0 []) (map as_read ns)) ≡ as_read n ∷ map as_read ns
    split true is one rest =
        let none_left : part FILE_DATA ns ≡ [] = cc in
        ap₂ (λ (k : Node) l. k ∷ l) (sym (as_read-data n is)) (without-data ns none_left)
    split false is one rest = ap (λ l. as_read n ∷ l) (rest one)

-- With its bytes the children are written as they were.
data-again : (m : Node) (data_octets : List ℕ) (ns : List Node) → part FILE_DATA ns ≡ m ∷ [] → data_octets ≡ content m → flat_map octets (with_child (leaf FILE_DATA 0 data_octets) (map as_read ns)) ≡ flat_map octets ns
data-again m data_octets [] one same = absurd (cc)
data-again m data_octets (n ∷ ns) one same =
    ap (flat_map octets) (with-first (leaf FILE_DATA 0 data_octets) (as_read n) (map as_read ns)) ∙ split (id_of n == FILE_DATA) refl one (λ rest. data-again m data_octets ns rest same)
  where
    split : (t : Bool) → (id_of n == FILE_DATA) ≡ t → cond t (n ∷ part FILE_DATA ns) (part FILE_DATA ns) ≡ m ∷ []
        → (part FILE_DATA ns ≡ m ∷ [] → flat_map octets (with_child (leaf FILE_DATA 0 data_octets) (map as_read ns)) ≡ flat_map octets ns)
        → flat_map octets (cond t (leaf FILE_DATA 0 data_octets ∷ without FILE_DATA (map as_read ns)) (as_read n ∷ with_child (leaf FILE_DATA 0 data_octets) (map as_read ns))) ≡ octets n ++ flat_map octets ns
    split true is one rest =
        let none_left : part FILE_DATA ns ≡ [] = cc in
        let it : n ≡ m = cc in
        let id : FILE_DATA ≡ id_of n = sym (grind (arith, nat_tests)) in
        let body : data_octets ≡ content n = same ∙ ap content (sym it) in
        let here : kept_octets FILE_DATA data_octets ≡ octets n = ap₂ kept_octets id body ∙ sym (octets-kept n) in
        ap₂ (λ (a b : List ℕ). a ++ b) here (ap (flat_map octets) (without-data ns none_left) ∙ octets-data ns none_left)
    split false is one rest = ap₂ (λ (a b : List ℕ). a ++ b) (as_read-octets n is) (rest one)

-- ---- the whole change

-- Children were read, their FileData was emptied, and they got a FileUID and then the data again. They are written as the children with this
-- FileUID.
pub changed-again : (u : ℕ) (m : Node) (data_octets : List ℕ) (ns : List Node) → part FILE_DATA ns ≡ m ∷ [] → data_octets ≡ content m
    → flat_map octets (with_child (leaf FILE_DATA 0 data_octets) (with_child (uint_leaf FILE_UID u) (with_child (leaf FILE_DATA 0 []) (map as_read (written ns)))))
    ≡ flat_map octets (with_child (uint_leaf FILE_UID u) ns)
changed-again u m data_octets ns one same =
    let c : Node = uint_leaf FILE_UID u in
    let all : List Node = written ns in
    let only : part FILE_DATA all ≡ m ∷ [] = part-written FILE_DATA ns refl ∙ one in
    let still : part FILE_DATA (with_child c all) ≡ m ∷ [] = part-other FILE_DATA c all refl ∙ only in
    ap (λ l. flat_map octets (with_child (leaf FILE_DATA 0 data_octets) (with_child c l))) (empty-again m all only)
    ∙ ap (λ l. flat_map octets (with_child (leaf FILE_DATA 0 data_octets) l)) (with-map c all refl)
    ∙ data-again m data_octets (with_child c all) still same
    ∙ with-written c ns refl

-- The list that is read with an empty FileData is itself.
pub emptied : (m : Node) (ns : List Node) → part FILE_DATA ns ≡ m ∷ [] → with_child (leaf FILE_DATA 0 []) (map as_read (written ns)) ≡ map as_read (written ns)
emptied m ns one = empty-again m (written ns) (part-written FILE_DATA ns refl ∙ one)

-- ---- Elements in the list

-- The integer of an ID that is kept, among leaves.
pub integer-read : (id : ℕ) (ns : Nodes) → is_filler id ≡ false → (id == FILE_DATA) ≡ false → All (λ (n : Node). is_leaf n ≡ true) (list_of ns)
    → option_map integer_of (find (λ n. id_of n == id) (map as_read (written (list_of ns)))) ≡ option_map integer_of (find (λ n. id_of n == id) (list_of ns))
integer-read id none keeps other leaves = refl
integer-read id (node (master i at kids) ns) keeps other leaves =
    let never : false ≡ true = All-head (λ (n : Node). is_leaf n ≡ true) (master i at kids) (list_of ns) leaves in
    absurd (cc)
integer-read id (node (leaf i at body) ns) keeps other leaves =
    split (is_filler i) refl (integer-read id ns keeps other (All-tail (λ (n : Node). is_leaf n ≡ true) (leaf i at body) (list_of ns) leaves))
  where
    n : Node
    n = leaf i at body

    rest_read : List Node
    rest_read = map as_read (written (list_of ns))

    here : (t : Bool) → (i == id) ≡ t → option_map integer_of (find (λ k. id_of k == id) rest_read) ≡ option_map integer_of (find (λ k. id_of k == id) (list_of ns))
        → option_map integer_of (cond t (Some (as_read n)) (find (λ k. id_of k == id) rest_read)) ≡ option_map integer_of (cond t (Some n) (find (λ k. id_of k == id) (list_of ns)))
    here true is rest =
        let same : i ≡ id = grind (arith, nat_tests) in
        let test : (i == FILE_DATA) ≡ false = ap (λ x. x == FILE_DATA) same ∙ other in
        ap (λ (t : Bool). Some (uint_value i (cond t [] body))) test
    here false is rest = rest

    split : (f : Bool) → is_filler i ≡ f → option_map integer_of (find (λ k. id_of k == id) rest_read) ≡ option_map integer_of (find (λ k. id_of k == id) (list_of ns))
        → option_map integer_of (find (λ k. id_of k == id) (map as_read (cond (not f) (n ∷ written (list_of ns)) (written (list_of ns))))) ≡ option_map integer_of (cond (i == id) (Some n) (find (λ k. id_of k == id) (list_of ns)))
    split true is rest = rest ∙ sym (ap (λ (t : Bool). option_map integer_of (cond t (Some n) (find (λ k. id_of k == id) (list_of ns)))) (filler-other i id is keeps))
    split false is rest = here (i == id) refl rest

-- The first Element with an ID.
pub element-found : (id : ℕ) (m : Node) (ns ms : List Node) → part id ns ≡ m ∷ ms → find (λ (e : Element). e.id == id) (map tree_element ns) ≡ Some (tree_element m)
element-found id m [] ms is = absurd (cc)
element-found id m (n ∷ ns) ms is = elim (cases_Bool (id_of n == id)) [
  | inl test ↦
      let first : n ∷ part id ns ≡ m ∷ ms = rw test at is in
      let it : n ≡ m = cc in
      rw test (ap (λ (k : Node). Some (tree_element k)) it)
  | inr test ↦ rw test (element-found id m ns ms (rw test at is))
]
