-- Numbers that are appended, and files and attached files with the items before them.
use Rattle.std.proofs.Common.{◌≡◌, ℕ, suc, ◌+◌, ◌-◌, ◌<◌, ◌≤◌, Bool, true, false, not, ◌||◌, ◌==◌, if◌then◌else◌, List, [], ◌∷◌, ◌++◌, length, map, take, drop, get_or, refl, sym, ap, ◌∙◌, arith, drop-cons, append_assoc, append-nil, add-one, length-drop}
use Rattle.std.proofs.lemmas.Bool.Decides.{nat_tests}
use Rattle.std.proofs.lemmas.Grind.{common_steps}
use Rattle.std.proofs.lemmas.List.Elements.{filter-append}
use Rattle.std.proofs.lemmas.Map.Views.{any-filter_same}
use Rattle.std.specs.List.{filter, flat_map, list_any, onto_first, slice_split, zip}
use Rattle.merge_words.specs.declared.item.Item.{Item}
use Rattle.word_values.specs.declared.values.Value.{Value}
use Rattle.merge_words.specs.declared.options.Subject.{Subject}
use Rattle.merge_words.specs.declared.options.Subject.TheVariants as subject
use Rattle.merge_words.proofs.ItemsLemmas.{is_of}
use Rattle.merge_words.specs.Files.{ids_of, once, with_new, without, file, files}
use Rattle.merge_words.specs.Attached.{attached_file, attached}
use Rattle.requests.specs.declared.merge.FileWords.{FileWords}
use Rattle.requests.specs.declared.merge.AttachedWords.{AttachedWords}
use Rattle.std.proofs.Math.Seq.{take-suc}

-- ---- numbers that occur once
without_same : (x id : ℕ) (ids : List ℕ) → (x == id) ≡ true → without x (ids ++ id ∷ []) ≡ without x ids
without_same x id ids is =
    let out : (id == x) ≡ true = grind (arith, nat_tests) in
    filter-append (λ k. not (k == x)) ids (id ∷ []) ∙ rw out (append-nil (without x ids))

without_other : (x id : ℕ) (ids : List ℕ) → (x == id) ≡ false → without x (ids ++ id ∷ []) ≡ without x ids ++ id ∷ []
without_other x id ids is =
    let stays : (id == x) ≡ false = grind (arith, nat_tests) in
    filter-append (λ k. not (k == x)) ids (id ∷ []) ∙ rw stays refl

stands_still : (x id : ℕ) (ids : List ℕ) → (x == id) ≡ false → list_any (λ k. k == id) (without x ids) ≡ list_any (λ k. k == id) ids
stands_still x id ids is = any-filter_same (λ k. k == id) (λ k. not (k == x)) true (λ k same. let other : (k == x) ≡ false = grind (arith, nat_tests) in rw other refl) ids

-- A number joins the others unless it is among them.
once_more : (ids : List ℕ) (id : ℕ) → once (ids ++ id ∷ []) ≡ (if list_any (λ k. k == id) (once ids) then once ids else once ids ++ id ∷ [])
once_more [] id = refl
once_more (x ∷ xs) id = ap (λ l. x ∷ without x l) (once_more xs id) ∙ choose (x == id) (list_any (λ k. k == id) (once xs)) refl refl
  where
    choose : (b a : Bool) → (x == id) ≡ b → list_any (λ k. k == id) (once xs) ≡ a
        → x ∷ without x (if a then once xs else once xs ++ id ∷ []) ≡ (if b || list_any (λ k. k == id) (without x (once xs)) then x ∷ without x (once xs) else (x ∷ without x (once xs)) ++ id ∷ [])
    choose true true is there = refl
    choose true false is there = ap (λ l. x ∷ l) (without_same x id (once xs) is)
    choose false true is there = rw (stands_still x id (once xs) is ∙ there) refl
    choose false false is there = rw (stands_still x id (once xs) is ∙ there) (ap (λ l. x ∷ l) (without_other x id (once xs) is))

onto_once : (xs ids : List ℕ) → with_new (once xs) ids ≡ once (xs ++ ids)
onto_once xs [] = ap once (sym (append-nil xs))
onto_once xs (id ∷ ids) = ap (λ l. with_new l ids) (sym (once_more xs id)) ∙ (onto_once (xs ++ id ∷ []) ids ∙ ap once (append_assoc xs (id ∷ []) ids))

-- Numbers that are appended one by one occur once.
pub once_is : (ids : List ℕ) → with_new [] ids ≡ once ids
once_is ids = onto_once [] ids

-- Numbers may be appended in two steps.
with_new_append : (list a b : List ℕ) → with_new list (a ++ b) ≡ with_new (with_new list a) b
with_new_append list [] b = refl
with_new_append list (id ∷ ids) b = with_new_append (if list_any (λ k. k == id) list then list else list ++ id ∷ []) ids b

here : (items : List Item) (k : ℕ) (i : Item) → k < length items → i ≡ get_or items k i → drop k items ≡ i ∷ drop (k + 1) items
here items k i within is =
    let first : drop k items ≡ get_or items k i ∷ drop (suc k) items = drop-cons items k i within in
    rw add-one (first ∙ ap (λ j. j ∷ drop (suc k) items) (sym is))

-- The numbers that an item names are appended.
pub named_next : (list : List ℕ) (items : List Item) (k : ℕ) (i : Item) → k < length items → i ≡ get_or items k i →
    with_new (with_new list (ids_of i.value)) (flat_map (λ (j : Item). ids_of j.value) (drop (k + 1) items)) ≡ with_new list (flat_map (λ (j : Item). ids_of j.value) (drop k items))
named_next list items k i within is = rw (here items k i within is) (sym (with_new_append list (ids_of i.value) (flat_map (λ (j : Item). ids_of j.value) (drop (k + 1) items))))

-- a group before the first part
abbrev behind : List Item → List (List Item) → List (List Item)
behind group [] = group ∷ []
behind group (part ∷ parts) = (group ++ part) ∷ parts

behind_more : (group : List Item) (i : Item) (parts : List (List Item)) → behind group (onto_first i parts) ≡ behind (group ++ i ∷ []) parts
behind_more group i [] = refl
behind_more group i (part ∷ parts) = ap (λ l. l ∷ parts) (sym (append_assoc group (i ∷ []) part))

none_behind : (i : Item) (parts : List (List Item)) → behind [] (onto_first i parts) ≡ onto_first i parts
none_behind i [] = refl
none_behind i (part ∷ parts) = refl

-- An item joins the group.
group_more : (items : List Item) (start k : ℕ) (i : Item) → start ≤ k → k < length items → i ≡ get_or items k i →
    take (k + 1 - start) (drop start items) ≡ take (k - start) (drop start items) ++ i ∷ []
group_more items start k i low within is =
    let one_more : k + 1 - start ≡ suc (k - start) = omega arith in
    let inside : k - start < length (drop start items) = omega (arith, length-drop start items) in
    let last : get_or (drop start items) (k - start) i ≡ i = grind (arith, common_steps) in
    rw (one_more, take-suc (drop start items) (k - start) i inside, last)

-- ---- files, and attached files
-- Each item with the subject `t` takes the items between the previous one and itself, its group. `make` gives what they make.
module _ {X : Type 0} (t : Subject) (make : List Item → Value → X) where
  -- what the items make, after a group of items before the first
  abbrev pub made_from : List Item → List Item → List X
  made_from group [] = []
  made_from group (i ∷ is) = if is_of t i then make group i.value ∷ made_from [] is else made_from (group ++ i ∷ []) is

  abbrev with_groups : List (List Item) → List Item → List X
  with_groups parts named = map (λ (f : List Item × Item). make f.0 f.1.value) (zip parts named)

  parts_behind : (items : List Item) → behind [] (slice_split (is_of t) items) ≡ slice_split (is_of t) items
  parts_behind [] = refl
  parts_behind (i ∷ is) = choose (is_of t i) refl
    where
      choose : (b : Bool) → is_of t i ≡ b → behind [] (slice_split (is_of t) (i ∷ is)) ≡ slice_split (is_of t) (i ∷ is)
      choose true named = rw named refl
      choose false other = rw other (none_behind i (slice_split (is_of t) is))

  parted : (group items : List Item) → with_groups (behind group (slice_split (is_of t) items)) (filter (is_of t) items) ≡ made_from group items
  parted group [] = refl
  parted group (i ∷ is) = choose (is_of t i) refl (ap (λ parts. with_groups parts (filter (is_of t) is)) (sym (parts_behind is)) ∙ parted [] is) (parted (group ++ i ∷ []) is)
    where
      choose : (b : Bool) → is_of t i ≡ b → with_groups (slice_split (is_of t) is) (filter (is_of t) is) ≡ made_from [] is
          → with_groups (behind (group ++ i ∷ []) (slice_split (is_of t) is)) (filter (is_of t) is) ≡ made_from (group ++ i ∷ []) is
          → with_groups (behind group (slice_split (is_of t) (i ∷ is))) (filter (is_of t) (i ∷ is)) ≡ made_from group (i ∷ is)
      choose true named behind_it joined = rw named (rw (append-nil group) (ap (λ l. make group i.value ∷ l) behind_it))
      choose false other behind_it joined = rw other (rw (behind_more group i (slice_split (is_of t) is)) joined)

  -- Both definitions of what the items make agree.
  pub parted_made : (items : List Item) → map (λ (f : List Item × Item). make f.0 f.1.value) (zip (slice_split (is_of t) items) (filter (is_of t) items)) ≡ made_from [] items
  parted_made items = ap (λ parts. with_groups parts (filter (is_of t) items)) (sym (parts_behind items)) ∙ parted [] items

  -- An item with another subject joins the group.
  pub made_join : (all : List X) (items : List Item) (start k : ℕ) (i : Item) → start ≤ k → k < length items → i ≡ get_or items k i → is_of t i ≡ false →
      all ++ made_from (take (k + 1 - start) (drop start items)) (drop (k + 1) items) ≡ all ++ made_from (take (k - start) (drop start items)) (drop k items)
  made_join all items start k i low within is other =
      rw (group_more items start k i low within is, here items k i within is, other)

  -- An item with the subject takes the group.
  pub made_take : (all : List X) (items : List Item) (start k : ℕ) (i : Item) → k < length items → i ≡ get_or items k i → is_of t i ≡ true →
      (all ++ make (take (k - start) (drop start items)) i.value ∷ []) ++ made_from (take (k + 1 - (k + 1)) (drop (k + 1) items)) (drop (k + 1) items) ≡ all ++ made_from (take (k - start) (drop start items)) (drop k items)
  made_take all items start k i within is named =
      let none : k + 1 - (k + 1) ≡ 0 = omega arith in
      rw (none, here items k i within is, named) (append_assoc all (make (take (k - start) (drop start items)) i.value ∷ []) (made_from [] (drop (k + 1) items)))

-- the files of the items, after a group of items before the first
abbrev pub files_from : List Item → List Item → List FileWords
files_from group items = made_from subject.File file group items

-- the attached files of the items, after a group of items before the first
abbrev pub attached_from : List Item → List Item → List AttachedWords
attached_from group items = made_from subject.AttachedFile attached_file group items

-- Both definitions of the files agree.
pub parted_files : (items : List Item) → files items ≡ files_from [] items
parted_files items = parted_made subject.File file items

-- Both definitions of the attached files agree.
pub parted_attached : (items : List Item) → attached items ≡ attached_from [] items
parted_attached items = parted_made subject.AttachedFile attached_file items
