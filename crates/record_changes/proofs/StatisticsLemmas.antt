-- Sets of names, and Tags without the statistics that they name.
use Rattle.std.proofs.Common.{◌≡◌, ℕ, ◌==◌, Bool, true, false, not, ◌&&◌, ◌||◌, if◌then◌else◌, List, [], ◌∷◌, ◌++◌, flat_map, Option, Some, None, refl, sym, ap, ◌∙◌, Bor, append_assoc, append-nil}
use Rattle.std.specs.List.{list_any}
use Rattle.std.specs.Option.{option_map_or}
use Rattle.std.specs.Str.{bytes_eq}
use Rattle.std.proofs.lemmas.List.{map-append}
use Rattle.std.proofs.lemmas.List.Folds.{list_any-append}
use Rattle.std.proofs.lemmas.Slice.Eq.{bytes_eq-Decides}
use Rattle.indexmap.specs.IndexSet.{insert_key}
use Rattle.mkv_schema.specs.declared.ids.TheConstants.{SIMPLE_TAG, TAG_NAME, TAG_STRING}
use Rattle.tree_format.specs.Node.{Node, id_of, children, with_children}
use Rattle.record_changes.specs.Statistics.{AddsNames, HasSame, bare, bare_part, bare_tag, bytes_of, has_nothing_else, is_named, is_one_of, is_other, is_statistic, lists_names, names_in, names_listed, stem, value_in}

-- ---- names

pub same-then : (a b c : List (List ℕ)) → HasSame a b → HasSame b c → HasSame a c
same-then a b c first second name = first name ∙ second name

one-append : (a b : List (List ℕ)) (name : List ℕ) → is_one_of (a ++ b) name ≡ (is_one_of a name || is_one_of b name)
one-append a b name = list_any-append (λ n. bytes_eq name n) a b

same-append : (a b c : List (List ℕ)) → HasSame a b → HasSame (a ++ c) (b ++ c)
same-append a b c same name = one-append a c name ∙ ap (λ x. x || is_one_of c name) (same name) ∙ sym (one-append b c name)

-- Names are added after others.
pub adds-then : (old mid new : List (Bor (List ℕ))) (first second : List (List ℕ)) → AddsNames old mid first → AddsNames mid new second → AddsNames old new (first ++ second)
adds-then old mid new first second one two name =
    two name ∙ same-append (bytes_of mid) (bytes_of old ++ first) second one name ∙ ap (λ l. is_one_of l name) (append_assoc (bytes_of old) first second)

pub adds-none : (old : List (Bor (List ℕ))) → AddsNames old old []
adds-none old name = ap (λ l. is_one_of l name) (sym (append-nil (bytes_of old)))

-- A name that equals one of `names` is one of them.
one-of-equal : (names : List (List ℕ)) (a b : List ℕ) → bytes_eq a b ≡ true → is_one_of names b ≡ true → is_one_of names a ≡ true
one-of-equal names a b equal is = let same : a ≡ b = (bytes_eq-Decides a b).0 equal in ap (is_one_of names) same ∙ is

any-bytes : (keys : List (Bor (List ℕ))) (name : List ℕ) → list_any (λ (k : Bor (List ℕ)). bytes_eq name k.now) keys ≡ is_one_of (bytes_of keys) name
any-bytes [] name = refl
any-bytes (k ∷ ks) name = ap (λ b. bytes_eq name k.now || b) (any-bytes ks name)

pub one-of-keys : (keys : List (Bor (List ℕ))) (name : List ℕ) → list_any (λ (k : Bor (List ℕ)). bytes_eq name k.now) keys ≡ is_one_of (bytes_of keys) name
one-of-keys = any-bytes

or-false : (b : Bool) → b ≡ (b || (false || false))
or-false true = refl
or-false false = refl

-- A name that is inserted is added, whether it was there or not.
pub name-inserted : (old new : List (Bor (List ℕ))) (name : Bor (List ℕ)) → new ≡ insert_key (λ (x y : Bor (List ℕ)). bytes_eq x.now y.now) old name → AddsNames old new (name.now ∷ [])
name-inserted old new name keys = by (list_any (λ (k : Bor (List ℕ)). bytes_eq name.now k.now) old) refl
  where
    by : (among : Bool) → list_any (λ (k : Bor (List ℕ)). bytes_eq name.now k.now) old ≡ among → AddsNames old new (name.now ∷ [])
    by true is = λ each.
        let same : new ≡ old = keys ∙ ap (λ b. if b then old else old ++ name ∷ []) is in
        ap (λ l. is_one_of (bytes_of l) each) same ∙ there each (bytes_eq each name.now) refl ∙ sym (one-append (bytes_of old) (name.now ∷ []) each)
      where
        there : (each : List ℕ) (b : Bool) → bytes_eq each name.now ≡ b → is_one_of (bytes_of old) each ≡ (is_one_of (bytes_of old) each || is_one_of (name.now ∷ []) each)
        there each true equal = let found = one-of-equal (bytes_of old) each name.now equal (sym (any-bytes old name.now) ∙ is) in rw found refl
        there each false other = rw other (or-false (is_one_of (bytes_of old) each))
    by false is = λ each.
        let same : new ≡ old ++ name ∷ [] = keys ∙ ap (λ b. if b then old else old ++ name ∷ []) is in
        ap (λ l. is_one_of (bytes_of l) each) same ∙ ap (λ l. is_one_of l each) (map-append (λ (n : Bor (List ℕ)). n.now) old (name ∷ []))

-- ---- a Tag without the statistics that a set of names has

module _ (a b : List (List ℕ)) (same : HasSame a b) where
  named-same : (name : List ℕ) → is_named a name ≡ is_named b name
  named-same name = ap (λ x. x || is_one_of a (stem name)) (same name) ∙ ap (λ x. is_one_of b name || x) (same (stem name))

  value-same : (o : Option (List ℕ)) → option_map_or (is_named a) o false ≡ option_map_or (is_named b) o false
  value-same None = refl
  value-same (Some name) = named-same name

  pub statistic-same : (n : Node) → is_statistic a n ≡ is_statistic b n
  statistic-same n = ap (λ x. id_of n == SIMPLE_TAG && x) (value-same (value_in TAG_NAME n))

  other-same : (n : Node) → is_other a n ≡ is_other b n
  other-same n = ap (λ x. id_of n == SIMPLE_TAG && not x) (statistic-same n)

  any-same : (f g : Node → Bool) → ((n : Node) → f n ≡ g n) → (ns : List Node) → list_any f ns ≡ list_any g ns
  any-same f g each [] = refl
  any-same f g each (n ∷ ns) = ap (λ x. x || list_any f ns) (each n) ∙ ap (λ x. g n || x) (any-same f g each ns)

  parts-same : (ns : List Node) → flat_map (bare_part a) ns ≡ flat_map (bare_part b) ns
  parts-same [] = refl
  parts-same (n ∷ ns) = ap (λ x. (if x then [] else n ∷ []) ++ flat_map (bare_part a) ns) (statistic-same n) ∙ ap (λ l. bare_part b n ++ l) (parts-same ns)

  pub nothing-same : (tag : Node) → has_nothing_else a tag ≡ has_nothing_else b tag
  nothing-same tag =
      ap (λ x. x && not (list_any (is_other a) (children tag))) (any-same (is_statistic a) (is_statistic b) statistic-same (children tag))
      ∙ ap (λ x. list_any (is_statistic b) (children tag) && not x) (any-same (is_other a) (is_other b) other-same (children tag))

  pub bare-same : (tag : Node) → bare a tag ≡ bare b tag
  bare-same tag = ap (with_children tag) (parts-same (children tag))

  pub tag-same : (tag : Node) → bare_tag a tag ≡ bare_tag b tag
  tag-same tag = ap (λ x. if x then [] else bare a tag ∷ []) (nothing-same tag) ∙ ap (λ t. if has_nothing_else b tag then [] else t ∷ []) (bare-same tag)

-- A Tag that has nothing but statistics is left out; of another one the bare Tag is left.
pub tag-none : (a b : List (List ℕ)) (tag : Node) → HasSame a b → has_nothing_else a tag ≡ true → [] ≡ bare_tag b tag
tag-none a b tag same is = sym (ap (λ x. if x then [] else bare a tag ∷ []) is) ∙ tag-same a b same tag

pub tag-left : (a b : List (List ℕ)) (tag t : Node) → HasSame a b → has_nothing_else a tag ≡ false → t ≡ bare a tag → t ∷ [] ≡ bare_tag b tag
tag-left a b tag t same is exact = ap (λ x. x ∷ []) exact ∙ sym (ap (λ x. if x then [] else bare a tag ∷ []) is) ∙ tag-same a b same tag

-- ---- the names that a child lists

pub listed-some : (n : Node) (list : List ℕ) → (id_of n == SIMPLE_TAG) ≡ true → lists_names n ≡ true → value_in TAG_STRING n ≡ Some list → names_listed n ≡ names_in list
listed-some n list simple lists is = rw simple (rw lists (rw is refl))
