-- Edited trees are valid in their places, and not too deep.
use Rattle.std.proofs.Common.{◌≡◌, ◌<◌, ◌≤◌, ℕ, zero, suc, ◌+◌, ◌-◌, ◌==◌, ◌^◌, nat_le, not, Bool, true, false, ◌&&◌, if◌then◌else◌, List, [], ◌∷◌, ◌++◌, length, Option, Some, None, IfSome, Result, Ok, Err, slice_get, slice_set, slice_index, slice_index_or, refl, sym, ◌∙◌, ap, subst, arith}
use Rattle.std.specs.List.{All, list_all}
use Rattle.std.specs.Str.{is_utf8, IsUtf8, IsAscii}
use Rattle.std.proofs.lemmas.Str.{IsUtf8-from_is_utf8, IsUtf8-from_ascii}
use Rattle.ebml_numbers.specs.Number.{uint_octets}
use Rattle.std.proofs.lemmas.Bool.{and_parts, not-false, or_parts}
use Rattle.std.proofs.lemmas.Bool.Decides.{nat_tests}
use Rattle.std.proofs.lemmas.Option.{slice_get_within}
use Rattle.std.proofs.lemmas.List.Elements.{All-set}
use Rattle.mkv_schema.specs.declared.ids.TheConstants.{INFO, TRACKS, TRACK_ENTRY}
use Rattle.requests.specs.declared.edit.Edit.{Edit}
use Rattle.requests.specs.declared.edit.Change.{Change}
use Rattle.requests.specs.declared.edit.Change.TheVariants.{Set, Add, Delete}
use Rattle.requests.specs.Decimal.{number}
use Rattle.tree_format.specs.Node.{Node, leaf, master, nodes_of, list_of, id_of, children, with_children, depth, depth_all, deepest, IsMaster}
use Rattle.tree_format.specs.Changes.{with_child, without}
use Rattle.tree_format.specs.Standing.{IsSound, StandsIn}
use Rattle.tree_format.proofs.ChangeLemmas.{deep-with_child, deep-without, deep-push}
use Rattle.tree_format.proofs.NodeLemmas.{nodes-list}
use Rattle.tree_format.proofs.StandingLemmas.{sound-set, sound-push, sound-remove}
use Rattle.ebml_tree.specs.Leaves.{IsTextIn, IsUintIn}
use Rattle.ebml_tree.proofs.LeafLemmas.{text-stands, uint-stands}
use Rattle.edit_changes.specs.declared.property.Property.{Property}
use Rattle.edit_changes.specs.declared.property.ValueKind.{ValueKind}
use Rattle.edit_changes.specs.declared.property.ValueKind.TheVariants.{Words, Language, LanguageTag, Codec, Duration, Flag}
use Rattle.edit_changes.specs.declared.refusal.EditRefusal.{EditRefusal}
use Rattle.edit_changes.specs.declared.refusal.EditRefusal.TheVariants as why
use Rattle.edit_changes.specs.declared.trees.Trees.{Trees}
use Rattle.requests.specs.Language.{is_in_tag, is_language_tag}
use Rattle.edit_changes.specs.Property.{is_between, is_codec, is_info, is_language, is_lower, is_not_zero, is_printable, is_words, property_of, value_of, where_text, where_number}
use Rattle.edit_changes.specs.Change.{are_of_info, are_of_tracks, added, added_to, changed, edited_from, edited_node, edited_once, has, in_entry, in_info, in_tracks, named, numbered, place_of, set}
use Rattle.mkv_io.specs.Results.{and_then}
use Rattle.edit_changes.specs.Properties.{IsOfKind, IsPropertyOf, section_of}
use Rattle.edit_changes.proofs.PropertyLemmas.{property-stands}
use Rattle.edit_changes.proofs.SelectLemmas.{entry-sound, entry-master, entry-stands, place-entry}

-- ---- values

list-ascii : (passes : ℕ → Bool) (bs : List ℕ) → ((c : ℕ) → passes c ≡ true → c < 128) → list_all passes bs ≡ true → IsAscii bs
list-ascii passes [] small all i = omega arith
list-ascii passes (b ∷ bs) small all i = of (passes b) refl all i (list-ascii passes bs small)
  where
    of : (test : Bool) → passes b ≡ test → (test && list_all passes bs) ≡ true → (k : ℕ) → (list_all passes bs ≡ true → IsAscii bs) → slice_index (b ∷ bs) k < 128
    of true is rest zero further = small b is
    of true is rest (suc k) further = further rest k
    of false is rest k further = absurd (cc)

where-is : (test : Bool) (value octets : List ℕ) → where_text test value ≡ Some octets → (test ≡ true) × (value ≡ octets)
where-is true value octets is = (refl, cc)
where-is false value octets is = absurd (cc)

pub number-is : (least most : ℕ) (n : Option ℕ) (octets : List ℕ) → where_number least most n ≡ Some octets → (k : ℕ) × (k ≤ most) × (uint_octets k ≡ octets)
number-is least most None octets is = absurd (cc)
number-is least most (Some n) octets is = of (is_between least most n) refl is
  where
    of : (test : Bool) → is_between least most n ≡ test → (if test then Some (uint_octets n) else None) ≡ Some octets → (k : ℕ) × (k ≤ most) × (uint_octets k ≡ octets)
    of true inside same = (n, grind (arith, nat_tests), cc)
    of false inside same = absurd (cc)

text-leaf : (parent id : ℕ) (value octets : List ℕ) (test : Bool) → IsTextIn parent id → where_text test value ≡ Some octets → (test ≡ true → IsUtf8 value) → StandsIn parent (leaf id 0 octets)
text-leaf parent id value octets test stands is utf8 =
    let w = where-is test value octets is in
    subst (λ o. StandsIn parent (leaf id 0 o)) w.1 (text-stands parent id value stands (utf8 w.0))

uint-leaf : (parent id least most : ℕ) (n : Option ℕ) (octets : List ℕ) → most < 2 ^ 64 → IsUintIn parent id → where_number least most n ≡ Some octets → StandsIn parent (leaf id 0 octets)
uint-leaf parent id least most n octets small stands is =
    let w = number-is least most n octets is in
    let most_is = w.1 in
    subst (λ o. StandsIn parent (leaf id 0 o)) w.2 (uint-stands parent id w.0 stands (omega arith))

-- The bytes of a value are valid in a leaf of its property.
leaf-stands : (parent id : ℕ) (kind : ValueKind) (value octets : List ℕ) → IsOfKind parent id kind → value_of kind value ≡ Some octets → StandsIn parent (leaf id 0 octets)
leaf-stands parent id Words value octets stands is =
    text-leaf parent id value octets (is_words value) stands is (λ words. IsUtf8-from_is_utf8 value (and_parts (is_utf8 value) (list_all is_not_zero value) words).0)
leaf-stands parent id Language value octets stands is =
    text-leaf parent id value octets (is_language value) stands is (λ three. IsUtf8-from_ascii value (list-ascii is_lower value (λ c is. grind (arith, nat_tests)) (and_parts (length value == 3) (list_all is_lower value) three).1))
leaf-stands parent id LanguageTag value octets stands is =
    text-leaf parent id value octets (is_language_tag value) stands is (λ tag. IsUtf8-from_ascii value (list-ascii is_in_tag value (λ c is. grind (arith, nat_tests)) (and_parts (nat_le 1 (length value) && nat_le (length value) 63) (list_all is_in_tag value) tag).1))
leaf-stands parent id Codec value octets stands is =
    text-leaf parent id value octets (is_codec value) stands is (λ few. IsUtf8-from_ascii value (list-ascii is_printable value (λ c is. grind (arith, nat_tests)) (and_parts (is_between 1 63 (length value)) (list_all is_printable value) few).1))
leaf-stands parent id Duration value octets stands is = uint-leaf parent id 1 (2 ^ 48 - 1) (number value) octets (omega arith) stands is
leaf-stands parent id Flag value octets stands is = uint-leaf parent id 0 1 (number value) octets (omega arith) stands is

-- ---- one Info or TrackEntry

-- `n` is a valid master with the ID `id` that was read or edited, and its depth is at most `most`.
pub record IsFit (id most : ℕ) (n : Node) : Type 0 where
  pub own : id_of n ≡ id
  pub master : IsMaster n
  pub sound : IsSound n
  pub deep : depth n ≤ most

with-id : (n : Node) (ns : List Node) → id_of (with_children n ns) ≡ id_of n
with-id (leaf id at body) ns = refl
with-id (master id at kids) ns = refl

with-master : (n : Node) (ns : List Node) → IsMaster n → IsMaster (with_children n ns)
with-master (leaf id at body) ns is = is
with-master (master id at kids) ns is = refl

with-deep : (n : Node) (ns : List Node) (most : ℕ) → IsMaster n → depth n ≤ most → depth_all (nodes_of ns) ≤ depth_all (nodes_of (children n)) → depth (with_children n ns) ≤ most
with-deep (leaf id at body) ns most is deep less = deep
with-deep (master id at kids) ns most is deep less =
    let same : depth_all (nodes_of (list_of kids)) ≡ depth_all kids = ap depth_all (nodes-list kids) in
    omega arith

fit-with : (id most : ℕ) (n : Node) (ns : List Node) → IsFit id most n → IsSound (with_children n ns) → depth_all (nodes_of ns) ≤ depth_all (nodes_of (children n)) → IsFit id most (with_children n ns)
fit-with id most n ns fit sound less = record {
  own = with-id n ns ∙ fit.own;
  master = with-master n ns fit.master;
  sound = sound;
  deep = with-deep n ns most fit.master fit.deep less;
}

fit-changed : (id most : ℕ) (change : Change) (value : List ℕ) (n m : Node) (p : Property) → IsPropertyOf id p → IsFit id most n → changed change value n p ≡ Ok m → IsFit id most m
fit-changed id most Set value n m p stands fit is = of (value_of p.kind value) refl is
  where
    of : (octets : Option (List ℕ)) → value_of p.kind value ≡ octets → set p.id n octets ≡ Ok m → IsFit id most m
    of None none is = absurd (cc)
    of (Some octets) some is =
        let same : with_children n (with_child (leaf p.id 0 octets) (children n)) ≡ m = cc in
        let leaf_is : StandsIn (id_of n) (leaf p.id 0 octets) = subst (λ k. StandsIn k (leaf p.id 0 octets)) (sym fit.own) (leaf-stands id p.id p.kind value octets stands.kind some) in
        let deep = deep-with_child (leaf p.id 0 octets) (children n) in
        subst (IsFit id most) same (fit-with id most n _ fit (sound-set n (leaf p.id 0 octets) fit.master fit.sound leaf_is) (omega arith))
fit-changed id most Add value n m p stands fit is = of (value_of p.kind value) refl is
  where
    put : (octets : List ℕ) → value_of p.kind value ≡ Some octets → (there : Bool) → (if there then Err why.AlreadyThere else Ok (added_to p.id octets n)) ≡ Ok m → IsFit id most m
    put octets some true is = absurd (cc)
    put octets some false is =
        let same : with_children n (children n ++ leaf p.id 0 octets ∷ []) ≡ m = cc in
        let leaf_is : StandsIn (id_of n) (leaf p.id 0 octets) = subst (λ k. StandsIn k (leaf p.id 0 octets)) (sym fit.own) (leaf-stands id p.id p.kind value octets stands.kind some) in
        let deep = deep-push (leaf p.id 0 octets) (children n) in
        subst (IsFit id most) same (fit-with id most n _ fit (sound-push n (leaf p.id 0 octets) fit.master fit.sound leaf_is) (omega arith))

    of : (octets : Option (List ℕ)) → value_of p.kind value ≡ octets → added p.id n octets ≡ Ok m → IsFit id most m
    of None none is = absurd (cc)
    of (Some octets) some is = put octets some (has p.id n) is
fit-changed id most Delete value n m p stands fit is = of p.deletable is
  where
    of : (may : Bool) → (if may then Ok (with_children n (without p.id (children n))) else Err why.Mandatory) ≡ Ok m → IsFit id most m
    of true is =
        let same : with_children n (without p.id (children n)) ≡ m = cc in
        subst (IsFit id most) same (fit-with id most n _ fit (sound-remove n p.id fit.master fit.sound) (deep-without p.id (children n)))
    of false is = absurd (cc)

fit-edited : (e : Edit) (most : ℕ) (n m : Node) → IsFit (section_of (is_info e.place)) most n → edited_node e n ≡ Ok m → IsFit (section_of (is_info e.place)) most m
fit-edited e most n m fit is = of (property_of (is_info e.place) e.name) (property-stands (is_info e.place) e.name) is
  where
    of : (p : Option Property) → IfSome p (IsPropertyOf (section_of (is_info e.place))) → named e.change e.value n p ≡ Ok m → IsFit (section_of (is_info e.place)) most m
    of None stands is = absurd (cc)
    of (Some p) stands is = fit-changed (section_of (is_info e.place)) most e.change e.value n m p stands fit is

-- ---- all trees

-- The Info is valid, and the children of Tracks are valid there and not too deep.
pub record AreFit (t : Trees) : Type 0 where
  pub info : IfSome t.info (IsFit INFO deepest)
  pub tracks : All (λ (n : Node). StandsIn TRACKS n × (depth n < deepest)) t.tracks

pub then-ok : {A B E : Type 0} (r : Result A E) (more : A → Result B E) (y : B) → and_then r more ≡ Ok y → (x : A) × ((r ≡ Ok x) × (more x ≡ Ok y))
then-ok (Ok x) more y is = (x, (refl, is))
then-ok (Err e) more y is = absurd (cc)

get-all : (P : Node → Type 0) (ns : List Node) (k : ℕ) (n : Node) → All P ns → slice_get ns k ≡ Some n → P n
get-all P ns k n all at = subst P (own-get ns k n at) (all k n (slice_get_within ns k n at))
  where
    own-get : (ns : List Node) (k : ℕ) (n : Node) → slice_get ns k ≡ Some n → slice_index_or ns k n ≡ n
    own-get [] k n at = absurd (cc at)
    own-get (m ∷ ns) zero n at = cc at
    own-get (m ∷ ns) (suc k) n at = own-get ns k n at

-- The result of one edit of trees: another Info, or another entry of Tracks.
pub data Once (e : Edit) (t u : Trees) : Type 0 where
  of_info : is_info e.place ≡ true → (n m : Node) → t.info ≡ Some n → edited_node e n ≡ Ok m → record { info = Some m; tracks = t.tracks } ≡ u → Once e t u
  of_tracks : is_info e.place ≡ false → (k : ℕ) (n m : Node) → place_of e.place t.tracks ≡ Some k → slice_get t.tracks k ≡ Some n → edited_node e n ≡ Ok m
      → record { info = t.info; tracks = slice_set t.tracks k m } ≡ u → Once e t u

pub once-is : (e : Edit) (t u : Trees) → edited_once e t ≡ Ok u → Once e t u
once-is e t u is = of (is_info e.place) refl is
  where
    info : is_info e.place ≡ true → (n : Option Node) → t.info ≡ n → in_info e t n ≡ Ok u → Once e t u
    info own None at is = absurd (cc)
    info own (Some n) at is =
        let made = then-ok (edited_node e n) (λ m. Ok (record { info = Some m; tracks = t.tracks })) u is in
        of_info own n made.0 at made.1.0 (let last = made.1.1 in cc)

    entry : is_info e.place ≡ false → (k : ℕ) → place_of e.place t.tracks ≡ Some k → (n : Option Node) → slice_get t.tracks k ≡ n → in_entry e t k n ≡ Ok u → Once e t u
    entry other k place None at is = absurd (cc)
    entry other k place (Some n) at is =
        let made = then-ok (edited_node e n) (λ m. Ok (record { info = t.info; tracks = slice_set t.tracks k m })) u is in
        of_tracks other k n made.0 place at made.1.0 (let last = made.1.1 in cc)

    tracks : is_info e.place ≡ false → (k : Option ℕ) → place_of e.place t.tracks ≡ k → in_tracks e t k ≡ Ok u → Once e t u
    tracks other None place is = absurd (cc)
    tracks other (Some k) place is = entry other k place (slice_get t.tracks k) refl is

    of : (own : Bool) → is_info e.place ≡ own → (if own then in_info e t t.info else in_tracks e t (place_of e.place t.tracks)) ≡ Ok u → Once e t u
    of true own is = info own t.info refl is
    of false other is = tracks other (place_of e.place t.tracks) refl is

fit-once : (e : Edit) (t u : Trees) → AreFit t → Once e t u → AreFit u
fit-once e t u fit (of_info is n m at made same) =
    let own : INFO ≡ section_of (is_info e.place) = sym (ap section_of is) in
    let fits : IsFit INFO deepest n = subst (λ (x : Option Node). IfSome x (IsFit INFO deepest)) at fit.info in
    let after = fit-edited e deepest n m (subst (λ k. IsFit k deepest n) own fits) made in
    subst AreFit same (record { info = subst (λ k. IsFit k deepest m) (sym own) after; tracks = fit.tracks })
fit-once e t u fit (of_tracks other k n m place at made same) =
    let here = place-entry e.place t.tracks k place in
    let own : TRACK_ENTRY ≡ section_of (is_info e.place) = sym (ap section_of other) in
    let same_n : here.entry ≡ n = (let there = here.at in cc) in
    let id : id_of n ≡ TRACK_ENTRY = ap id_of (sym same_n) ∙ here.id in
    let both = get-all (λ (n : Node). StandsIn TRACKS n × (depth n < deepest)) t.tracks k n fit.tracks at in
    let room = both.1 in
    let before : IsFit TRACK_ENTRY (deepest - 1) n = record { own = id; master = entry-master n both.0 id; sound = (entry-sound n both.0 id).sound; deep = omega arith } in
    let after = fit-edited e (deepest - 1) n m (subst (λ k. IsFit k (deepest - 1) n) own before) made in
    let deep = after.deep in
    subst AreFit same (record {
      info = fit.info;
      tracks = All-set (λ (n : Node). StandsIn TRACKS n × (depth n < deepest)) t.tracks k m (entry-stands m after.master (after.own ∙ sym own) after.sound, omega arith) fit.tracks;
    })

pub numbered-ok : {A : Type 0} (k : ℕ) (r : Result A EditRefusal) (x : A) → numbered k r ≡ Ok x → r ≡ Ok x
numbered-ok k (Ok y) x is = let same : y ≡ x = cc in ap (λ z. Ok z) same
numbered-ok k (Err w) x is = absurd (cc)

-- Edited trees are valid in their places.
pub fit-all : (k : ℕ) (es : List Edit) (t u : Trees) → AreFit t → edited_from k es t ≡ Ok u → AreFit u
fit-all k [] t u fit is = subst AreFit (cc) fit
fit-all k (e ∷ es) t u fit is =
    let made = then-ok (numbered (k + 1) (edited_once e t)) (edited_from (k + 1) es) u is in
    fit-all (k + 1) es made.0 u (fit-once e t made.0 fit (once-is e t made.0 (numbered-ok (k + 1) (edited_once e t) made.0 made.1.0))) made.1.1

-- ---- trees without edits

-- Info stays without an edit of it.
pub info-stays : (k : ℕ) (es : List Edit) (t u : Trees) → are_of_info es ≡ false → edited_from k es t ≡ Ok u → u.info ≡ t.info
info-stays k [] t u none is = let same : t ≡ u = cc in ap (λ (x : Trees). x.info) (sym same)
info-stays k (e ∷ es) t u none is =
    let made = then-ok (numbered (k + 1) (edited_once e t)) (edited_from (k + 1) es) u is in
    let own = or_parts (is_info e.place) (are_of_info es) none in
    info-stays (k + 1) es made.0 u own.1 made.1.1 ∙ once made.0 own.0 (once-is e t made.0 (numbered-ok (k + 1) (edited_once e t) made.0 made.1.0))
  where
    once : (x : Trees) → is_info e.place ≡ false → Once e t x → x.info ≡ t.info
    once x other (of_info own n m at made same) = absurd (cc)
    once x other (of_tracks own k n m place at made same) = sym (ap (λ (y : Trees). y.info) same)

-- Tracks stay without an edit of them.
pub tracks-stay : (k : ℕ) (es : List Edit) (t u : Trees) → are_of_tracks es ≡ false → edited_from k es t ≡ Ok u → u.tracks ≡ t.tracks
tracks-stay k [] t u none is = let same : t ≡ u = cc in ap (λ (x : Trees). x.tracks) (sym same)
tracks-stay k (e ∷ es) t u none is =
    let made = then-ok (numbered (k + 1) (edited_once e t)) (edited_from (k + 1) es) u is in
    let own = or_parts (not (is_info e.place)) (are_of_tracks es) none in
    tracks-stay (k + 1) es made.0 u own.1 made.1.1 ∙ once made.0 (not-false (is_info e.place) own.0) (once-is e t made.0 (numbered-ok (k + 1) (edited_once e t) made.0 made.1.0))
  where
    once : (x : Trees) → is_info e.place ≡ true → Once e t x → x.tracks ≡ t.tracks
    once x info (of_info own n m at made same) = sym (ap (λ (y : Trees). y.tracks) same)
    once x info (of_tracks own k n m place at made same) = absurd (cc)
