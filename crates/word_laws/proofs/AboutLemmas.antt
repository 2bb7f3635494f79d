-- The items of pieces, by their subjects.
use Rattle.std.proofs.Common.{◌≡◌, ℕ, ◌+◌, Bool, true, false, ◌||◌, if◌then◌else◌, List, [], ◌∷◌, ◌++◌, Option, Some, None, refl, sym, ◌∙◌, append_assoc, option_map, option_and_then, inl, inr}
use Rattle.std.proofs.lemmas.List.Folds.{list_any-append}
use Rattle.std.proofs.lemmas.List.Elements.{filter_map-append}
use Rattle.std.proofs.lemmas.List.Concat.{flat_map-append}
use Rattle.std.specs.List.{AllZip, flat_map, filter_map, find}
use Rattle.std.proofs.lemmas.Bool.{cases_Bool}
use Rattle.word_values.specs.declared.values.Value.{Value}
use Rattle.merge_words.specs.declared.options.Subject.{Subject}
use Rattle.merge_words.specs.declared.options.Scope.{Scope}
use Rattle.merge_words.specs.Options.{same}
use Rattle.merge_words.specs.Items.{stands}
use Rattle.merge_words.specs.Said.{value_in, value_about, said_about}
use Rattle.merge_words.specs.Files.{ids_of}
use Rattle.word_laws.proofs.SayingLemmas.{said_stands, Item, Said, Piece, takes, said_items, after_said, piece_items, after_pieces}

-- the values of the pieces with the subject
abbrev pub about : Subject → List Piece → List Said
about t [] = []
about t (p ∷ ps) = if same p.subject t then p.said ++ about t ps else about t ps

abbrev pub is_said : List Said → Bool
is_said [] = false
is_said (x ∷ xs) = true

abbrev pub first_said : List Said → Option Value
first_said [] = None
first_said (x ∷ xs) = Some x.says

abbrev pub all_said : {Y : Type 0} → (Value → Option Y) → List Said → List Y
all_said k list = filter_map (λ (x : Said). k x.says) list

-- ---- items of one piece
said_stands_is : (at : ℕ) (s t : Subject) (c : Scope) (list : List Said) → same s t ≡ true → stands t (said_items at s c list) ≡ is_said list
said_stands_is at s t c [] is = refl
said_stands_is at s t c (x ∷ xs) is = rw is refl

is_said-append : (a b : List Said) → (is_said a || is_said b) ≡ is_said (a ++ b)
is_said-append [] b = refl
is_said-append (x ∷ xs) b = refl

pub stands_about : (t : Subject) (ps : List Piece) (at : ℕ) → stands t (piece_items at ps) ≡ is_said (about t ps)
stands_about t [] at = refl
stands_about t (p ∷ ps) at =
    let rest = stands_about t ps (after_said at p.said) in
    list_any-append (λ (i : Item). same i.subject t) (said_items at p.subject p.scope p.said) (piece_items (after_said at p.said) ps)
    ∙ rw rest (elim (cases_Bool (same p.subject t)) [
      | inl is ↦ rw (said_stands_is at p.subject t p.scope p.said is, is) (is_said-append p.said (about t ps))
      | inr is ↦ rw (said_stands at p.subject t p.scope p.said is, is) refl
    ])

-- the first value
abbrev pub or_else : Option Value → Option Value → Option Value
or_else (Some v) other = Some v
or_else None other = other

pub value_either : (t : Subject) (a b : List Item) → value_in t (a ++ b) ≡ or_else (value_in t a) (value_in t b)
value_either t [] b = refl
value_either t (i ∷ is) b =
    elim (same i.subject t) as (λ c. option_map (λ (j : Item). j.value) (if c then Some i else find (λ (j : Item). same j.subject t) (is ++ b)) ≡ or_else (option_map (λ (j : Item). j.value) (if c then Some i else find (λ (j : Item). same j.subject t) is)) (value_in t b)) [
      | true ↦ refl
      | false ↦ value_either t is b
    ]

said_value_is : (at : ℕ) (s t : Subject) (c : Scope) (list : List Said) → same s t ≡ true → value_in t (said_items at s c list) ≡ first_said list
said_value_is at s t c [] is = refl
said_value_is at s t c (x ∷ xs) is = rw is refl

said_value_not : (at : ℕ) (s t : Subject) (c : Scope) (list : List Said) → same s t ≡ false → value_in t (said_items at s c list) ≡ None
said_value_not at s t c [] other = refl
said_value_not at s t c (x ∷ xs) other = rw other (said_value_not (at + takes x.value) s t c xs other)

first_said-append : (a b : List Said) → or_else (first_said a) (first_said b) ≡ first_said (a ++ b)
first_said-append [] b = refl
first_said-append (x ∷ xs) b = refl

pub value_of_about : (t : Subject) (ps : List Piece) (at : ℕ) → value_in t (piece_items at ps) ≡ first_said (about t ps)
value_of_about t [] at = refl
value_of_about t (p ∷ ps) at =
    let rest = value_of_about t ps (after_said at p.said) in
    value_either t (said_items at p.subject p.scope p.said) (piece_items (after_said at p.said) ps)
    ∙ rw rest (elim (cases_Bool (same p.subject t)) [
      | inl is ↦ rw (said_value_is at p.subject t p.scope p.said is, is) (first_said-append p.said (about t ps))
      | inr is ↦ rw (said_value_not at p.subject t p.scope p.said is, is) refl
    ])

-- All values with the subject.
module _ {Y : Type 0} (k : Value → Option Y) where
  said_all_is : (at : ℕ) (s t : Subject) (c : Scope) (list : List Said) → same s t ≡ true → said_about k t (said_items at s c list) ≡ all_said k list
  said_all_is at s t c [] is = refl
  said_all_is at s t c (x ∷ xs) is = rw is (rw (said_all_is (at + takes x.value) s t c xs is) refl)

  said_all_not : (at : ℕ) (s t : Subject) (c : Scope) (list : List Said) → same s t ≡ false → said_about k t (said_items at s c list) ≡ []
  said_all_not at s t c [] other = refl
  said_all_not at s t c (x ∷ xs) other = rw other (said_all_not (at + takes x.value) s t c xs other)

  pub all_about : (t : Subject) (ps : List Piece) (at : ℕ) → said_about k t (piece_items at ps) ≡ all_said k (about t ps)
  all_about t [] at = refl
  all_about t (p ∷ ps) at =
      let rest = all_about t ps (after_said at p.said) in
      filter_map-append (λ (i : Item). option_and_then k (value_about t i)) (said_items at p.subject p.scope p.said) (piece_items (after_said at p.said) ps)
      ∙ rw rest (elim (cases_Bool (same p.subject t)) [
        | inl is ↦ rw (said_all_is at p.subject t p.scope p.said is, is) (sym (filter_map-append (λ (x : Said). k x.says) p.said (about t ps)))
        | inr is ↦ rw (said_all_not at p.subject t p.scope p.said is, is) refl
      ])

-- the named tracks
abbrev pub ids_said : List Said → List ℕ
ids_said list = flat_map (λ (x : Said). ids_of x.says) list

said_ids : (at : ℕ) (s : Subject) (c : Scope) (list : List Said) → flat_map (λ (i : Item). ids_of i.value) (said_items at s c list) ≡ ids_said list
said_ids at s c [] = refl
said_ids at s c (x ∷ xs) = rw (said_ids (at + takes x.value) s c xs) refl

abbrev pub AreIdsOf : List Piece → List (List ℕ) → Type 0
AreIdsOf ps parts = AllZip (λ (p : Piece) ids. ids_said p.said ≡ ids) ps parts

pub ids_part : (ps : List Piece) (parts : List (List ℕ)) (at : ℕ) → AreIdsOf ps parts → flat_map (λ (i : Item). ids_of i.value) (piece_items at ps) ≡ flat_map (λ part. part) parts
ids_part [] [] at are = refl
ids_part (p ∷ ps) (y ∷ ys) at are =
    flat_map-append (λ (i : Item). ids_of i.value) (said_items at p.subject p.scope p.said) (piece_items (after_said at p.said) ps)
    ∙ rw (said_ids at p.subject p.scope p.said) (rw are.0 (rw (ids_part ps ys (after_said at p.said) are.1) refl))
ids_part _ _ _ are = absurd are

-- ---- pieces in sequence
pub piece_items-append : (ps qs : List Piece) (at : ℕ) → piece_items at (ps ++ qs) ≡ piece_items at ps ++ piece_items (after_pieces at ps) qs
piece_items-append [] qs at = refl
piece_items-append (p ∷ ps) qs at = rw (piece_items-append ps qs (after_said at p.said)) (sym (append_assoc (said_items at p.subject p.scope p.said) (piece_items (after_said at p.said) ps) (piece_items (after_pieces (after_said at p.said) ps) qs)))

pub after_pieces-append : (ps qs : List Piece) (at : ℕ) → after_pieces at (ps ++ qs) ≡ after_pieces (after_pieces at ps) qs
after_pieces-append [] qs at = refl
after_pieces-append (p ∷ ps) qs at = after_pieces-append ps qs (after_said at p.said)

pub about-append : (t : Subject) (ps qs : List Piece) → about t (ps ++ qs) ≡ about t ps ++ about t qs
about-append t [] qs = refl
about-append t (p ∷ ps) qs =
    let rest = about-append t ps qs in
    elim (cases_Bool (same p.subject t)) [
      | inl is ↦ rw is (rw rest (sym (append_assoc p.said (about t ps) (about t qs))))
      | inr is ↦ rw is rest
    ]
