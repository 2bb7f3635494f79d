-- The items after the last one with a subject, found from the start and from the end.
use Rattle.std.proofs.Common.{◌≡◌, ℕ, suc, ◌+◌, ◌-◌, ◌<◌, Bool, true, false, not, cond, if◌then◌else◌, List, [], ◌∷◌, ◌++◌, length, length-append, take, drop, get_or, refl, sym, ap, ◌∙◌, subst, arith, append_assoc, append-nil, drop-cons}
use Rattle.std.proofs.Math.Seq.{drop-length, take-suc}
use Rattle.std.proofs.lemmas.List.{drop-append-le, reverse-append}
use Rattle.std.specs.List.{after_last, prefix_len, suffix_len}
use Rattle.merge_words.specs.declared.item.Item.{Item}
use Rattle.merge_words.specs.declared.options.Subject.{Subject}
use Rattle.merge_words.specs.Options.{same}
use Rattle.merge_words.specs.Items.{since}

-- The item has the subject.
abbrev pub is_of : Subject → Item → Bool
is_of t i = same i.subject t

-- the items after the last one with the subject, found from the start, after a group of items
abbrev pub latest : Subject → List Item → List Item → List Item
latest t group [] = group
latest t group (i ∷ is) = if is_of t i then latest t [] is else latest t (group ++ i ∷ []) is

-- An item with another subject that comes last is after the last one with the subject.
pub latest_other : (t : Subject) (group items : List Item) (i : Item) → is_of t i ≡ false → latest t group (items ++ i ∷ []) ≡ latest t group items ++ i ∷ []
latest_other t group [] i other = rw other
latest_other t group (x ∷ xs) i other =
    elim (is_of t x) as (λ b. cond b (latest t [] (xs ++ i ∷ [])) (latest t (group ++ x ∷ []) (xs ++ i ∷ [])) ≡ cond b (latest t [] xs) (latest t (group ++ x ∷ []) xs) ++ i ∷ []) [
      | true ↦ latest_other t [] xs i other
      | false ↦ latest_other t (group ++ x ∷ []) xs i other
    ]

-- No item is after one with the subject that comes last.
pub latest_end : (t : Subject) (group items : List Item) (i : Item) → is_of t i ≡ true → latest t group (items ++ i ∷ []) ≡ []
latest_end t group [] i file = rw file
latest_end t group (x ∷ xs) i file =
    elim (is_of t x) as (λ b. cond b (latest t [] (xs ++ i ∷ [])) (latest t (group ++ x ∷ []) (xs ++ i ∷ [])) ≡ []) [
      | true ↦ latest_end t [] xs i file
      | false ↦ latest_end t (group ++ x ∷ []) xs i file
    ]

-- A property of the empty list that each appended item keeps holds for every list.
by_end : (P : List Item → Type 0) → P [] → ((front : List Item) (i : Item) → P front → P (front ++ i ∷ [])) → (items : List Item) → P items
by_end P none more items = onto [] items none
  where
    onto : (front back : List Item) → P front → P (front ++ back)
    onto front [] holds = subst P (sym (append-nil front)) holds
    onto front (i ∷ is) holds = subst P (append_assoc front (i ∷ []) is) (onto (front ++ i ∷ []) is (more front i holds))

abbrev others_at_end : Subject → List Item → ℕ
others_at_end t items = suffix_len (λ x. not (is_of t x)) items

counted_end : (t : Subject) (front : List Item) (i : Item) → others_at_end t (front ++ i ∷ []) ≡ cond (not (is_of t i)) (1 + others_at_end t front) 0
counted_end t front i = ap (prefix_len (λ x. not (is_of t x))) (reverse-append front (i ∷ []))

end_other : (t : Subject) (front : List Item) (i : Item) → is_of t i ≡ false → after_last (is_of t) (front ++ i ∷ []) ≡ after_last (is_of t) front ++ i ∷ []
end_other t front i other =
    let counted : others_at_end t (front ++ i ∷ []) ≡ 1 + others_at_end t front = counted_end t front i ∙ rw other refl in
    let same : length (front ++ i ∷ []) - others_at_end t (front ++ i ∷ []) ≡ length front - others_at_end t front = omega (arith, counted, length-append front (i ∷ [])) in
    rw same (drop-append-le (length front - others_at_end t front) front (i ∷ []) (omega arith))

end_own : (t : Subject) (front : List Item) (i : Item) → is_of t i ≡ true → after_last (is_of t) (front ++ i ∷ []) ≡ []
end_own t front i named =
    let counted : others_at_end t (front ++ i ∷ []) ≡ 0 = counted_end t front i ∙ rw named refl in
    let all : length (front ++ i ∷ []) - others_at_end t (front ++ i ∷ []) ≡ length (front ++ i ∷ []) = omega (arith, counted) in
    rw all (drop-length (front ++ i ∷ []))

-- Both definitions of the last items agree.
pub since_latest : (t : Subject) (items : List Item) → since t items ≡ latest t [] items
unfolding since
since_latest t items = by_end (λ l. after_last (is_of t) l ≡ latest t [] l) refl (λ front i same. choose front i (is_of t i) refl same) items
  where
    choose : (front : List Item) (i : Item) (b : Bool) → is_of t i ≡ b → after_last (is_of t) front ≡ latest t [] front → after_last (is_of t) (front ++ i ∷ []) ≡ latest t [] (front ++ i ∷ [])
    choose front i true named same = end_own t front i named ∙ sym (latest_end t [] front i named)
    choose front i false other same = end_other t front i other ∙ (ap (λ l. l ++ i ∷ []) same ∙ sym (latest_other t [] front i other))

one_more : (items : List Item) (k : ℕ) (i : Item) → k < length items → i ≡ get_or items k i → take (suc k) items ≡ take k items ++ i ∷ []
one_more items k i within is = take-suc items k i within ∙ ap (λ j. take k items ++ j ∷ []) (sym is)

here : (items : List Item) (k : ℕ) (i : Item) → k < length items → i ≡ get_or items k i → drop k items ≡ i ∷ drop (suc k) items
here items k i within is = drop-cons items k i within ∙ ap (λ j. j ∷ drop (suc k) items) (sym is)

-- The walk from the end passes an item with another subject.
pub latest_back : (t : Subject) (items : List Item) (n k : ℕ) (i : Item) → suc k ≡ n → k < length items → i ≡ get_or items k i → is_of t i ≡ false →
    latest t [] (take k items) ++ drop k items ≡ latest t [] (take n items) ++ drop n items
latest_back t items n k i next within is other =
    rw (← next) (rw (one_more items k i within is, latest_other t [] (take k items) i other, here items k i within is) (sym (append_assoc (latest t [] (take k items)) (i ∷ []) (drop (suc k) items))))

-- The walk from the end finds the last item with the subject.
pub latest_found : (t : Subject) (items : List Item) (n k : ℕ) (i : Item) → suc k ≡ n → k < length items → i ≡ get_or items k i → is_of t i ≡ true →
    latest t [] (take n items) ++ drop n items ≡ drop n items
latest_found t items n k i next within is file = rw (← next) (rw (one_more items k i within is, latest_end t [] (take k items) i file))
