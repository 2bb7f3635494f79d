-- An entry that was written and read is written as it was.
use Rattle.std.proofs.Common.{◌≡◌, ℕ, ◌+◌, ◌==◌, Bool, true, false, ◌||◌, if◌then◌else◌, List, [], ◌∷◌, ◌++◌, length, map, flat_map, Option, Some, None, refl, sym, ap, ◌∙◌}
use Rattle.std.specs.List.{list_any}
use Rattle.std.proofs.lemmas.Bool.{or_parts}
use Rattle.std.proofs.lemmas.List.Elements.{All-nil, All-cons, All-head, All-tail, All-append}
use Rattle.mkv_schema.specs.declared.ids.TheConstants.{TRACK_NUMBER, TRACK_UID, NAME, LANGUAGE, LANGUAGE_BCP47, FLAG_DEFAULT, FLAG_FORCED, CONTENT_ENCODINGS, FLAG_ENABLED, FLAG_HEARING_IMPAIRED, FLAG_VISUAL_IMPAIRED, FLAG_TEXT_DESCRIPTIONS, FLAG_ORIGINAL, FLAG_COMMENTARY}
use Rattle.tree_format.specs.Node.{Node, Nodes, leaf, master, nodes_of, list_of, id_of, children}
use Rattle.tree_format.specs.NormalForm.{header_octets, kept_octets, octets, octets_all}
use Rattle.tree_format.specs.Changes.{without, with_child, part, HasNone}
use Rattle.tree_format.specs.Standing.{placed, placed_all}
use Rattle.tree_format.proofs.NodeLemmas.{list-nodes, nodes-list, octets_all-flat}
use Rattle.tree_format.proofs.PartLemmas.{without-none, part-none, part-without, none-without, part-other, part-set}
use Rattle.track_records.specs.declared.track_change.TrackChange.{TrackChange}
use Rattle.tree_format.specs.Children.{uint_leaf, set_each, removed_each, given}
use Rattle.track_records.specs.Entry.{flag_leaf, flags_set, children_set, ids_removed, written_entry}
use Rattle.record_laws.specs.Again.{plain, read_of, EntriesStay, EncodingsStay}
use Rattle.record_laws.proofs.SameLemmas.{HasOnly, none-part, same-only, part-read, octets-read}

-- ---- changes as lists of children

abbrev with_each : List Node → List Node → List Node
with_each [] ns = ns
with_each (c ∷ cs) ns = with_each cs (with_child c ns)

abbrev without_each : List ℕ → List Node → List Node
without_each [] ns = ns
without_each (id ∷ ids) ns = without_each ids (without id ns)

-- the children of the entry that are written
abbrev pub entry_list : TrackChange → Bool → List Node → List Node
entry_list c stored ns = with_each (children_set c) (without_each (ids_removed stored c.language) ns)

set-master : (cs : List Node) (id at : ℕ) (ns : List Node) → set_each cs (master id at (nodes_of ns)) ≡ master id at (nodes_of (with_each cs ns))
set-master [] id at ns = refl
set-master (c ∷ cs) id at ns = ap (λ ms. set_each cs (master id at (nodes_of (with_child c ms)))) (list-nodes ns) ∙ set-master cs id at (with_child c ns)

removed-master : (ids : List ℕ) (id at : ℕ) (ns : List Node) → removed_each ids (master id at (nodes_of ns)) ≡ master id at (nodes_of (without_each ids ns))
removed-master [] id at ns = refl
removed-master (i ∷ ids) id at ns = ap (λ ms. removed_each ids (master id at (nodes_of (without i ms)))) (list-nodes ns) ∙ removed-master ids id at (without i ns)

pub written-master : (c : TrackChange) (stored : Bool) (id at : ℕ) (kids : Nodes) → written_entry c stored (master id at kids) ≡ master id at (nodes_of (entry_list c stored (list_of kids)))
written-master c stored id at kids =
    ap (λ ns. written_entry c stored (master id at ns)) (sym (nodes-list kids))
    ∙ ap (set_each (children_set c)) (removed-master (ids_removed stored c.language) id at (list_of kids))
    ∙ set-master (children_set c) id at (without_each (ids_removed stored c.language) (list_of kids))

-- ---- children with an ID after a change

part-with_each : (id : ℕ) (cs ns : List Node) → HasNone id cs → part id (with_each cs ns) ≡ part id ns
part-with_each id [] ns others = refl
part-with_each id (c ∷ cs) ns others =
    part-with_each id cs (with_child c ns) (All-tail (λ n. (id_of n == id) ≡ false) c cs others) ∙ part-other id c ns (All-head (λ n. (id_of n == id) ≡ false) c cs others)

none-given : {A : Type 0} (id : ℕ) (make : A → Node) (o : Option A) → ((a : A) → (id_of (make a) == id) ≡ false) → HasNone id (given make o)
none-given id make None other = All-nil (λ n. (id_of n == id) ≡ false)
none-given id make (Some a) other = All-cons (λ n. (id_of n == id) ≡ false) (make a) [] (other a) (All-nil (λ n. (id_of n == id) ≡ false))

flag-id : (own id : ℕ) → (own == id) ≡ false → (b : Bool) → (id_of (flag_leaf own b) == id) ≡ false
flag-id own id other true = other
flag-id own id other false = other

-- the children that the user's options give
abbrev options : TrackChange → List Node
options c =
    given (leaf NAME 0) c.name ++ given (leaf LANGUAGE 0) c.language ++ given (leaf LANGUAGE_BCP47 0) c.language_tag
    ++ given (flag_leaf FLAG_DEFAULT) c.flag_default ++ given (flag_leaf FLAG_FORCED) c.flag_forced ++ flags_set c.flags

-- the IDs of these children
abbrev option_ids : List ℕ
option_ids =
    NAME ∷ LANGUAGE ∷ LANGUAGE_BCP47 ∷ FLAG_DEFAULT ∷ FLAG_FORCED ∷ FLAG_ENABLED ∷ FLAG_HEARING_IMPAIRED ∷ FLAG_VISUAL_IMPAIRED ∷ FLAG_TEXT_DESCRIPTIONS ∷ FLAG_ORIGINAL ∷ FLAG_COMMENTARY ∷ []

-- No option of the user gives a child with the ID `id`.
abbrev pub IsNoOption : ℕ → Type 0
IsNoOption id = list_any (λ own. own == id) option_ids ≡ false

none-options : (id : ℕ) (c : TrackChange) → IsNoOption id → HasNone id (options c)
none-options id c apart =
    let P : Node → Type 0 = λ n. (id_of n == id) ≡ false in
    let o0 = or_parts (NAME == id) (list_any (λ own. own == id) (LANGUAGE ∷ LANGUAGE_BCP47 ∷ FLAG_DEFAULT ∷ FLAG_FORCED ∷ FLAG_ENABLED ∷ FLAG_HEARING_IMPAIRED ∷ FLAG_VISUAL_IMPAIRED ∷ FLAG_TEXT_DESCRIPTIONS ∷ FLAG_ORIGINAL ∷ FLAG_COMMENTARY ∷ [])) apart in
    let o1 = or_parts (LANGUAGE == id) (list_any (λ own. own == id) (LANGUAGE_BCP47 ∷ FLAG_DEFAULT ∷ FLAG_FORCED ∷ FLAG_ENABLED ∷ FLAG_HEARING_IMPAIRED ∷ FLAG_VISUAL_IMPAIRED ∷ FLAG_TEXT_DESCRIPTIONS ∷ FLAG_ORIGINAL ∷ FLAG_COMMENTARY ∷ [])) o0.1 in
    let o2 = or_parts (LANGUAGE_BCP47 == id) (list_any (λ own. own == id) (FLAG_DEFAULT ∷ FLAG_FORCED ∷ FLAG_ENABLED ∷ FLAG_HEARING_IMPAIRED ∷ FLAG_VISUAL_IMPAIRED ∷ FLAG_TEXT_DESCRIPTIONS ∷ FLAG_ORIGINAL ∷ FLAG_COMMENTARY ∷ [])) o1.1 in
    let o3 = or_parts (FLAG_DEFAULT == id) (list_any (λ own. own == id) (FLAG_FORCED ∷ FLAG_ENABLED ∷ FLAG_HEARING_IMPAIRED ∷ FLAG_VISUAL_IMPAIRED ∷ FLAG_TEXT_DESCRIPTIONS ∷ FLAG_ORIGINAL ∷ FLAG_COMMENTARY ∷ [])) o2.1 in
    let o4 = or_parts (FLAG_FORCED == id) (list_any (λ own. own == id) (FLAG_ENABLED ∷ FLAG_HEARING_IMPAIRED ∷ FLAG_VISUAL_IMPAIRED ∷ FLAG_TEXT_DESCRIPTIONS ∷ FLAG_ORIGINAL ∷ FLAG_COMMENTARY ∷ [])) o3.1 in
    let o5 = or_parts (FLAG_ENABLED == id) (list_any (λ own. own == id) (FLAG_HEARING_IMPAIRED ∷ FLAG_VISUAL_IMPAIRED ∷ FLAG_TEXT_DESCRIPTIONS ∷ FLAG_ORIGINAL ∷ FLAG_COMMENTARY ∷ [])) o4.1 in
    let o6 = or_parts (FLAG_HEARING_IMPAIRED == id) (list_any (λ own. own == id) (FLAG_VISUAL_IMPAIRED ∷ FLAG_TEXT_DESCRIPTIONS ∷ FLAG_ORIGINAL ∷ FLAG_COMMENTARY ∷ [])) o5.1 in
    let o7 = or_parts (FLAG_VISUAL_IMPAIRED == id) (list_any (λ own. own == id) (FLAG_TEXT_DESCRIPTIONS ∷ FLAG_ORIGINAL ∷ FLAG_COMMENTARY ∷ [])) o6.1 in
    let o8 = or_parts (FLAG_TEXT_DESCRIPTIONS == id) (list_any (λ own. own == id) (FLAG_ORIGINAL ∷ FLAG_COMMENTARY ∷ [])) o7.1 in
    let o9 = or_parts (FLAG_ORIGINAL == id) (list_any (λ own. own == id) (FLAG_COMMENTARY ∷ [])) o8.1 in
    let o10 = or_parts (FLAG_COMMENTARY == id) (list_any (λ own. own == id) ([])) o9.1 in
    (All-append P _ _ (All-append P _ _ (All-append P _ _ (All-append P _ _ (All-append P _ _ (none-given id (leaf NAME 0) c.name (λ t. o0.0))
    (none-given id (leaf LANGUAGE 0) c.language (λ t. o1.0)))
    (none-given id (leaf LANGUAGE_BCP47 0) c.language_tag (λ t. o2.0)))
    (none-given id (flag_leaf FLAG_DEFAULT) c.flag_default (flag-id FLAG_DEFAULT id o3.0)))
    (none-given id (flag_leaf FLAG_FORCED) c.flag_forced (flag-id FLAG_FORCED id o4.0)))
    (All-append P _ _ (All-append P _ _ (All-append P _ _ (All-append P _ _ (All-append P _ _ (none-given id (flag_leaf FLAG_ENABLED) c.flags.enabled (flag-id FLAG_ENABLED id o5.0))
    (none-given id (flag_leaf FLAG_HEARING_IMPAIRED) c.flags.hearing_impaired (flag-id FLAG_HEARING_IMPAIRED id o6.0)))
    (none-given id (flag_leaf FLAG_VISUAL_IMPAIRED) c.flags.visual_impaired (flag-id FLAG_VISUAL_IMPAIRED id o7.0)))
    (none-given id (flag_leaf FLAG_TEXT_DESCRIPTIONS) c.flags.text_descriptions (flag-id FLAG_TEXT_DESCRIPTIONS id o8.0)))
    (none-given id (flag_leaf FLAG_ORIGINAL) c.flags.original (flag-id FLAG_ORIGINAL id o9.0)))
    (none-given id (flag_leaf FLAG_COMMENTARY) c.flags.commentary (flag-id FLAG_COMMENTARY id o10.0))))

any-third : (a b c d : Bool) → (a || (b || (c || d))) ≡ false → c ≡ false
any-third a b c d apart = (or_parts c d (or_parts b (c || d) (or_parts a (b || (c || d)) apart).1).1).0

-- Number and identifier come first, and then the children that the user's options give.
entry_list-is : (c : TrackChange) (stored : Bool) (ns : List Node)
    → entry_list c stored ns ≡ with_each (options c) (with_child (uint_leaf TRACK_UID c.uid) (with_child (uint_leaf TRACK_NUMBER c.number) (without_each (ids_removed stored c.language) ns)))
entry_list-is c stored ns = refl

module _ (c : TrackChange) (stored : Bool) (ns : List Node) where
  bare : List Node
  bare = without_each (ids_removed stored c.language) ns

  pub part-uid : part TRACK_UID (entry_list c stored ns) ≡ uint_leaf TRACK_UID c.uid ∷ []
  unfolding bare
  part-uid =
      ap (part TRACK_UID) (entry_list-is c stored ns)
      ∙ part-with_each TRACK_UID (options c) (with_child (uint_leaf TRACK_UID c.uid) (with_child (uint_leaf TRACK_NUMBER c.number) bare)) (none-options TRACK_UID c refl)
      ∙ part-set (uint_leaf TRACK_UID c.uid) (with_child (uint_leaf TRACK_NUMBER c.number) bare)

  pub part-number : part TRACK_NUMBER (entry_list c stored ns) ≡ uint_leaf TRACK_NUMBER c.number ∷ []
  unfolding bare
  part-number =
      ap (part TRACK_NUMBER) (entry_list-is c stored ns)
      ∙ part-with_each TRACK_NUMBER (options c) (with_child (uint_leaf TRACK_UID c.uid) (with_child (uint_leaf TRACK_NUMBER c.number) bare)) (none-options TRACK_NUMBER c refl)
      ∙ part-other TRACK_NUMBER (uint_leaf TRACK_UID c.uid) (with_child (uint_leaf TRACK_NUMBER c.number) bare) refl
      ∙ part-set (uint_leaf TRACK_NUMBER c.number) bare

  -- Children with another ID stay.
  pub part-others : (id : ℕ) → (TRACK_NUMBER == id) ≡ false → (TRACK_UID == id) ≡ false → IsNoOption id → (CONTENT_ENCODINGS == id) ≡ false → part id (entry_list c stored ns) ≡ part id ns
  unfolding bare
  part-others id number own apart encodings =
      ap (part id) (entry_list-is c stored ns)
      ∙ part-with_each id (options c) (with_child (uint_leaf TRACK_UID c.uid) (with_child (uint_leaf TRACK_NUMBER c.number) bare)) (none-options id c apart)
      ∙ part-other id (uint_leaf TRACK_UID c.uid) (with_child (uint_leaf TRACK_NUMBER c.number) bare) own
      ∙ part-other id (uint_leaf TRACK_NUMBER c.number) bare number
      ∙ left stored c.language
    where
      bcp47 : (LANGUAGE_BCP47 == id) ≡ false
      bcp47 = any-third (NAME == id) (LANGUAGE == id) (LANGUAGE_BCP47 == id) _ apart

      left : (s : Bool) (o : Option (List ℕ)) → part id (without_each (ids_removed s o) ns) ≡ part id ns
      left true None = refl
      left true (Some text) = part-without id LANGUAGE_BCP47 ns bcp47
      left false None = part-without id CONTENT_ENCODINGS ns encodings
      left false (Some text) = part-without id LANGUAGE_BCP47 (without CONTENT_ENCODINGS ns) bcp47 ∙ part-without id CONTENT_ENCODINGS ns encodings

  -- ContentEncodings stay if the frames are taken as they are stored, and go otherwise.
  pub part-encodings : part CONTENT_ENCODINGS (entry_list c stored ns) ≡ (if stored then part CONTENT_ENCODINGS ns else [])
  unfolding bare
  part-encodings =
      ap (part CONTENT_ENCODINGS) (entry_list-is c stored ns)
      ∙ part-with_each CONTENT_ENCODINGS (options c) (with_child (uint_leaf TRACK_UID c.uid) (with_child (uint_leaf TRACK_NUMBER c.number) bare)) (none-options CONTENT_ENCODINGS c refl)
      ∙ part-other CONTENT_ENCODINGS (uint_leaf TRACK_UID c.uid) (with_child (uint_leaf TRACK_NUMBER c.number) bare) refl
      ∙ part-other CONTENT_ENCODINGS (uint_leaf TRACK_NUMBER c.number) bare refl
      ∙ left stored c.language
    where
      left : (s : Bool) (o : Option (List ℕ)) → part CONTENT_ENCODINGS (without_each (ids_removed s o) ns) ≡ (if s then part CONTENT_ENCODINGS ns else [])
      left true None = refl
      left true (Some language) = part-without CONTENT_ENCODINGS LANGUAGE_BCP47 ns refl
      left false None = part-none CONTENT_ENCODINGS (without CONTENT_ENCODINGS ns) (none-without CONTENT_ENCODINGS ns)
      left false (Some language) =
          part-without CONTENT_ENCODINGS LANGUAGE_BCP47 (without CONTENT_ENCODINGS ns) refl ∙ part-none CONTENT_ENCODINGS (without CONTENT_ENCODINGS ns) (none-without CONTENT_ENCODINGS ns)

  -- ---- the second time

  -- Nothing is removed from what was read.
  kept : (s : Bool) (read : List Node) → map octets (part CONTENT_ENCODINGS read) ≡ map octets (if s then part CONTENT_ENCODINGS ns else []) → without_each (ids_removed s None) read ≡ read
  kept true read is = refl
  kept false read is = without-none CONTENT_ENCODINGS read (none-part CONTENT_ENCODINGS read is)

  list-again : (q : ℕ) → flat_map octets (entry_list (plain c.number c.uid) stored (read_of q (entry_list c stored ns))) ≡ flat_map octets (entry_list c stored ns)
  list-again q =
      let number : Node = uint_leaf TRACK_NUMBER c.number in
      let own : Node = uint_leaf TRACK_UID c.uid in
      let first : List Node = entry_list c stored ns in
      let read : List Node = read_of q first in
      let same : without_each (ids_removed stored None) read ≡ read = kept stored read (part-read CONTENT_ENCODINGS q first refl ∙ ap (map octets) part-encodings) in
      let one_number : HasOnly number read = part-read TRACK_NUMBER q first refl ∙ ap (map octets) part-number in
      let one_own : HasOnly own read = part-read TRACK_UID q first refl ∙ ap (map octets) part-uid in
      let still : HasOnly own (with_child number read) = ap (map octets) (part-other TRACK_UID number read refl) ∙ one_own in
      ap (λ l. flat_map octets (with_child own (with_child number l))) same
      ∙ same-only own (with_child number read) still
      ∙ same-only number read one_number
      ∙ octets-read q first

pub entries-stay : EntriesStay
entries-stay c stored (leaf id at body) place is = absurd (cc)
entries-stay c stored (master id at kids) place is =
    let first : List Node = entry_list c stored (list_of kids) in
    let q : ℕ = place + length (header_octets id (length (octets_all (nodes_of first)))) in
    let again : List Node = entry_list (plain c.number c.uid) stored (read_of q first) in
    let flat : octets_all (nodes_of again) ≡ octets_all (nodes_of first) = octets_all-flat again ∙ list-again c stored (list_of kids) q ∙ sym (octets_all-flat first) in
    ap (λ n. octets (written_entry (plain c.number c.uid) stored (placed place n))) (written-master c stored id at kids)
    ∙ ap octets (written-master (plain c.number c.uid) stored id place (placed_all q (nodes_of first)))
    ∙ ap (kept_octets id) flat
    ∙ sym (ap octets (written-master c stored id at kids))

-- ---- frames that are taken as they are stored

pub encodings-stay : EncodingsStay
encodings-stay c (leaf id at body) is = absurd (cc)
encodings-stay c (master id at kids) is =
    let all : List Node = entry_list c true (list_of kids) in
    ap (λ n. part CONTENT_ENCODINGS (children n)) (written-master c true id at kids) ∙ ap (part CONTENT_ENCODINGS) (list-nodes all) ∙ part-encodings c true (list_of kids)
