-- Tags without their statistics.
use Rattle.std.proofs.Common.{◌≡◌, ℕ, ◌==◌, Bool, true, false, not, ◌&&◌, ◌||◌, if◌then◌else◌, List, [], ◌∷◌, ◌++◌, codes, flat_map, Option, Some, None, refl, sym, ap, subst, ◌∙◌, append-nil, All}
use Rattle.std.specs.List.{list_any}
use Rattle.std.specs.Str.{bytes_eq}
use Rattle.std.proofs.lemmas.Bool.{or_parts}
use Rattle.std.proofs.lemmas.Slice.Eq.{bytes_eq-Decides}
use Rattle.std.proofs.lemmas.List.Elements.{All-nil, All-cons, All-head, All-tail, All-append}
use Rattle.std.proofs.lemmas.List.Folds.{list_any-append, list_any_none}
use Rattle.mkv_schema.specs.declared.ids.TheConstants.{TAG, SIMPLE_TAG, TAG_NAME}
use Rattle.tree_format.specs.Node.{Node, leaf, master, id_of, children, with_children}
use Rattle.tree_format.proofs.NodeLemmas.{list-nodes, nodes-list}
use Rattle.record_changes.specs.Statistics.{bare, bare_part, bare_tag, has_nothing_else, is_named, is_one_of, is_other, is_statistic, names_listed, statistics_names, stem, usual_names, value_in, without_its_statistics, without_statistics}
use Rattle.record_laws.specs.Statistics.{HasNoUsualName, StatisticsAreLeftOut, has_usual_name}

-- ---- trees

same-children : (n : Node) → with_children n (children n) ≡ n
same-children (leaf id at body) = refl
same-children (master id at kids) = ap (master id at) (nodes-list kids)

-- A list of children that are made of the children of a node.
children-made : (f : Node → List Node) (n : Node) → children (with_children n (flat_map f (children n))) ≡ flat_map f (children n)
children-made f (leaf id at body) = refl
children-made f (master id at kids) = list-nodes (flat_map f (children (master id at kids)))

-- ---- the names in a Tag

usual-among : (more : List (List ℕ)) (name : List ℕ) → is_one_of usual_names name ≡ true → is_one_of (usual_names ++ more) name ≡ true
usual-among more name is = list_any-append (λ n. bytes_eq name n) usual_names more ∙ ap (λ b. b || is_one_of more name) is

not-among : (more : List (List ℕ)) (name : List ℕ) → is_one_of (usual_names ++ more) name ≡ false → is_one_of usual_names name ≡ false
not-among more name not_is = (or_parts (is_one_of usual_names name) (is_one_of more name) (sym (list_any-append (λ n. bytes_eq name n) usual_names more) ∙ not_is)).0

-- A name that isn't among more names isn't among the usual ones, nor is its stem.
not-named : (more : List (List ℕ)) (name : List ℕ) → is_named (usual_names ++ more) name ≡ false → (is_one_of usual_names name ≡ false) × (is_one_of usual_names (stem name) ≡ false)
not-named more name not_is =
    let parts = or_parts (is_one_of (usual_names ++ more) name) (is_one_of (usual_names ++ more) (stem name)) not_is in
    (not-among more name parts.0, not-among more (stem name) parts.1)

-- ---- a child of a Tag

module _ (more : List (List ℕ)) (n : Node) (left : is_statistic (usual_names ++ more) n ≡ false) where
  usual-none : has_usual_name n ≡ false
  usual-none = of (id_of n == SIMPLE_TAG) refl (value_in TAG_NAME n) refl
    where
      of : (simple : Bool) → (id_of n == SIMPLE_TAG) ≡ simple → (o : Option (List ℕ)) → value_in TAG_NAME n ≡ o → has_usual_name n ≡ false
      of false other o is = rw other refl
      of true same None is = rw same (rw is refl)
      of true same (Some name) is =
          let named : is_named (usual_names ++ more) name ≡ false = sym (rw same (rw is refl)) ∙ left in
          rw same (rw is (not-named more name named).1)

-- A SimpleTag without a usual name lists no names.
none-listed : (n : Node) → has_usual_name n ≡ false → names_listed n ≡ []
none-listed n none = of (id_of n == SIMPLE_TAG) refl (value_in TAG_NAME n) refl
  where
    of : (simple : Bool) → (id_of n == SIMPLE_TAG) ≡ simple → (o : Option (List ℕ)) → value_in TAG_NAME n ≡ o → names_listed n ≡ []
    of false other o is = rw other refl
    of true same None is = rw same (rw is refl)
    of true same (Some name) is =
        let usual : is_one_of usual_names (stem name) ≡ false = sym (rw same (rw is refl)) ∙ none in
        let first = (or_parts (bytes_eq (stem name) (codes "_STATISTICS_TAGS")) _ usual).0 in
        rw same (rw is (rw first refl))

-- A usual name has no language at its end.
usual-stem : (name : List ℕ) → is_one_of usual_names name ≡ true → is_one_of usual_names (stem name) ≡ true
usual-stem name is = of (bytes_eq name first) refl (bytes_eq name second) refl (bytes_eq name third) refl is
  where
    first : List ℕ
    first = codes "_STATISTICS_TAGS"

    second : List ℕ
    second = codes "_STATISTICS_WRITING_APP"

    third : List ℕ
    third = codes "_STATISTICS_WRITING_DATE_UTC"

    of : (a : Bool) → bytes_eq name first ≡ a → (b : Bool) → bytes_eq name second ≡ b → (c : Bool) → bytes_eq name third ≡ c → (a || (b || (c || false))) ≡ true → is_one_of usual_names (stem name) ≡ true
    of true same b is_b c is_c is = ap (λ l. is_one_of usual_names (stem l)) ((bytes_eq-Decides name first).0 same)
    of false not_a true same c is_c is = ap (λ l. is_one_of usual_names (stem l)) ((bytes_eq-Decides name second).0 same)
    of false not_a false not_b true same is = ap (λ l. is_one_of usual_names (stem l)) ((bytes_eq-Decides name third).0 same)
    of false not_a false not_b false not_c is = absurd (cc)

-- It is no statistic by the usual names.
none-statistic : (n : Node) → has_usual_name n ≡ false → is_statistic usual_names n ≡ false
none-statistic n none = of (id_of n == SIMPLE_TAG) refl (value_in TAG_NAME n) refl
  where
    of : (simple : Bool) → (id_of n == SIMPLE_TAG) ≡ simple → (o : Option (List ℕ)) → value_in TAG_NAME n ≡ o → is_statistic usual_names n ≡ false
    of false other o is = rw other refl
    of true same None is = rw same (rw is refl)
    of true same (Some name) is =
        let usual : is_one_of usual_names (stem name) ≡ false = sym (rw same (rw is refl)) ∙ none in
        rw same (rw is (by (is_one_of usual_names name) refl usual))
      where
        by : (b : Bool) → is_one_of usual_names name ≡ b → is_one_of usual_names (stem name) ≡ false → (is_one_of usual_names name || is_one_of usual_names (stem name)) ≡ false
        by true one other = let both = usual-stem name one in absurd (cc)
        by false one other = rw one other

-- ---- all children of a Tag

abbrev IsLeft : List (List ℕ) → Node → Type 0
IsLeft names n = is_statistic names n ≡ false

parts-left : (names : List (List ℕ)) (ns : List Node) → All (IsLeft names) (flat_map (bare_part names) ns)
parts-left names [] = All-nil (IsLeft names)
parts-left names (n ∷ ns) = All-append (IsLeft names) (bare_part names n) (flat_map (bare_part names) ns) (of (is_statistic names n) refl) (parts-left names ns)
  where
    of : (b : Bool) → is_statistic names n ≡ b → All (IsLeft names) (if b then [] else n ∷ [])
    of true is = All-nil (IsLeft names)
    of false is = All-cons (IsLeft names) n [] is (All-nil (IsLeft names))

all-listed : (ns : List Node) → list_any has_usual_name ns ≡ false → flat_map names_listed ns ≡ []
all-listed [] none = refl
all-listed (n ∷ ns) none =
    let parts = or_parts (has_usual_name n) (list_any has_usual_name ns) none in
    rw (none-listed n parts.0) (all-listed ns parts.1)

all-kept : (names : List (List ℕ)) (ns : List Node) → All (IsLeft names) ns → flat_map (bare_part names) ns ≡ ns
all-kept names [] left = refl
all-kept names (n ∷ ns) left =
    rw (All-head (IsLeft names) n ns left) (ap (λ l. n ∷ l) (all-kept names ns (All-tail (IsLeft names) n ns left)))

any-left : (names : List (List ℕ)) (ns : List Node) → All (IsLeft names) ns → list_any (is_statistic names) ns ≡ false
any-left names ns left = list_any_none (is_statistic names) ns left

any-usual : (more : List (List ℕ)) (ns : List Node) → All (IsLeft (usual_names ++ more)) ns → list_any has_usual_name ns ≡ false
any-usual more [] left = refl
any-usual more (n ∷ ns) left =
    rw (usual-none more n (All-head (IsLeft (usual_names ++ more)) n ns left)) (any-usual more ns (All-tail (IsLeft (usual_names ++ more)) n ns left))

all-usual : (ns : List Node) → list_any has_usual_name ns ≡ false → All (IsLeft usual_names) ns
all-usual [] none = All-nil (IsLeft usual_names)
all-usual (n ∷ ns) none =
    let parts = or_parts (has_usual_name n) (list_any has_usual_name ns) none in
    All-cons (IsLeft usual_names) n ns (none-statistic n parts.0) (all-usual ns parts.1)

-- ---- a Tag

-- A Tag without a usual name of statistics is unchanged.
tag-others : (n : Node) → list_any has_usual_name (children n) ≡ false → bare_tag (statistics_names n) n ≡ n ∷ []
tag-others n none =
    let names : statistics_names n ≡ usual_names = ap (λ l. usual_names ++ l) (all-listed (children n) none) ∙ append-nil usual_names in
    let left = all-usual (children n) none in
    let more : has_nothing_else usual_names n ≡ false = ap (λ b. b && not (list_any (is_other usual_names) (children n))) (any-left usual_names (children n) left) in
    let same : bare usual_names n ≡ n = ap (with_children n) (all-kept usual_names (children n) left) ∙ same-children n in
    ap (λ l. bare_tag l n) names ∙ ap (λ b. if b then [] else bare usual_names n ∷ []) more ∙ ap (λ t. t ∷ []) same

bare-none : (n : Node) → list_any has_usual_name (children (bare (statistics_names n) n)) ≡ false
bare-none n =
    let names : List (List ℕ) = statistics_names n in
    ap (list_any has_usual_name) (children-made (bare_part names) n)
    ∙ any-usual (flat_map names_listed (children n)) (flat_map (bare_part names) (children n)) (parts-left names (children n))

-- ---- all Tags

one-none : (n : Node) → All HasNoUsualName (without_its_statistics n)
one-none n = of (id_of n == TAG) refl
  where
    tag : (b : Bool) → All HasNoUsualName (if b then [] else bare (statistics_names n) n ∷ [])
    tag true = All-nil HasNoUsualName
    tag false = All-cons HasNoUsualName (bare (statistics_names n) n) [] (λ is. bare-none n) (All-nil HasNoUsualName)

    of : (b : Bool) → (id_of n == TAG) ≡ b → All HasNoUsualName (if b then bare_tag (statistics_names n) n else n ∷ [])
    of true is = tag (has_nothing_else (statistics_names n) n)
    of false other = All-cons HasNoUsualName n [] (λ is. absurd (cc)) (All-nil HasNoUsualName)

each-none : (ns : List Node) → All HasNoUsualName (flat_map without_its_statistics ns)
each-none [] = All-nil HasNoUsualName
each-none (n ∷ ns) = All-append HasNoUsualName (without_its_statistics n) (flat_map without_its_statistics ns) (one-none n) (each-none ns)

one-same : (n : Node) → HasNoUsualName n → without_its_statistics n ≡ n ∷ []
one-same n none = of (id_of n == TAG) refl
  where
    of : (b : Bool) → (id_of n == TAG) ≡ b → (if b then bare_tag (statistics_names n) n else n ∷ []) ≡ n ∷ []
    of true is = tag-others n (none is)
    of false other = refl

each-same : (ns : List Node) → All HasNoUsualName ns → flat_map without_its_statistics ns ≡ ns
each-same [] none = refl
each-same (n ∷ ns) none =
    ap (λ l. l ++ flat_map without_its_statistics ns) (one-same n (All-head HasNoUsualName n ns none)) ∙ ap (λ l. n ∷ l) (each-same ns (All-tail HasNoUsualName n ns none))

tags-none : (tags : Node) → All HasNoUsualName (children (without_statistics tags))
tags-none tags = let P : List Node → Type 0 = All HasNoUsualName in subst P (sym (children-made without_its_statistics tags)) (each-none (children tags))

tags-same : (tags : Node) → All HasNoUsualName (children tags) → without_statistics tags ≡ tags
tags-same tags none = ap (with_children tags) (each-same (children tags) none) ∙ same-children tags

pub statistics-left-out : StatisticsAreLeftOut
statistics-left-out = record {
  none = tags-none;
  others = tags-same;
  once = λ tags. tags-same (without_statistics tags) (tags-none tags);
}
