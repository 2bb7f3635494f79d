-- Options in sequence are read as items.
use Rattle.std.proofs.Common.{◌≡◌, ℕ, ◌+◌, Bool, true, false, not, ◌&&◌, ◌||◌, List, [], ◌∷◌, ◌++◌, codes, Option, Some, None, Ok, refl, ap, ◌∙◌, slice_get, is_some, inl, inr, flat_map}
use Rattle.std.proofs.lemmas.Bool.{and_parts, or_parts, not-true, cases_Bool}
use Rattle.std.proofs.lemmas.List.Folds.{list_any-append}
use Rattle.std.specs.Str.{bytes_eq}
use Rattle.word_values.specs.declared.values.Value.{Value}
use Rattle.word_values.specs.Place.{is_option}
use Rattle.word_values.specs.Values.{flag_of, value_of}
use Rattle.merge_words.specs.declared.options.Subject.{Subject}
use Rattle.merge_words.specs.declared.options.Subject.TheVariants as subject
use Rattle.merge_words.specs.declared.options.Scope.{Scope}
use Rattle.merge_words.specs.declared.options.Meaning.{Meaning}
use Rattle.merge_words.specs.Options.{same, meaning_of}
use Rattle.merge_words.specs.Items.{item_at, option_at, stands, track_in, overfull, repeats, repeats_for, since_file}
use Rattle.merge_words.specs.Merge.{start, starts, read_all, takes_next}
use Rattle.word_laws.proofs.SimpleLemmas.{other_word}

-- One fact, and then the others.
infixr 20 ◌&◌
abbrev pub ◌&◌ : {P Q : Type 0} → P → Q → P × Q
p & q = (p, q)

-- ---- options and pieces

abbrev pub member : {A : Type 0} → List A → Type 0
member {A} list = A

-- the type of items
abbrev pub Item : Type 0
Item = member (since_file [])

-- An option and its value, with their meaning.
pub record Said : Type 0 where
  pub word : List ℕ
  pub value : Option (List ℕ)
  pub says : Value

-- The options with one subject.
pub record Piece : Type 0 where
  pub subject : Subject
  pub scope : Scope
  pub said : List Said

abbrev pub words_said : List ℕ → Option (List ℕ) → List (List ℕ)
words_said word None = word ∷ []
words_said word (Some value) = word ∷ value ∷ []

abbrev pub said_words : List Said → List (List ℕ)
said_words list = flat_map (λ (s : Said). words_said s.word s.value) list

abbrev pub piece_words : List Piece → List (List ℕ)
piece_words pieces = flat_map (λ (p : Piece). said_words p.said) pieces

-- the number of its arguments
abbrev pub takes : Option (List ℕ) → ℕ
takes None = 1
takes (Some value) = 2

abbrev pub item : ℕ → Subject → Scope → Value → Item
item at subject scope value = record { at = at; subject = subject; scope = scope; value = value }

-- the items of the options with one subject, numbered from a number on
abbrev pub said_items : ℕ → Subject → Scope → List Said → List Item
said_items at subject scope [] = []
said_items at subject scope (s ∷ ss) = item at subject scope s.says ∷ said_items (at + takes s.value) subject scope ss

abbrev pub after_said : ℕ → List Said → ℕ
after_said at [] = at
after_said at (s ∷ ss) = after_said (at + takes s.value) ss

abbrev pub piece_items : ℕ → List Piece → List Item
piece_items at [] = []
piece_items at (p ∷ ps) = said_items at p.subject p.scope p.said ++ piece_items (after_said at p.said) ps

abbrev pub after_pieces : ℕ → List Piece → ℕ
after_pieces at [] = at
after_pieces at (p ∷ ps) = after_pieces (after_said at p.said) ps

-- ---- one item is read
abbrev pub next_of : Option (List ℕ) → List (List ℕ) → Option (List ℕ)
next_of None rest = slice_get rest 0
next_of (Some value) rest = Some value

starts_one : (at : ℕ) (word : List ℕ) (value : Option (List ℕ)) (rest : List (List ℕ)) → takes_next (meaning_of word) ≡ is_some value
    → starts at (words_said word value ++ rest) ≡ start at word (next_of value rest) ∷ starts (at + takes value) rest
starts_one at word None [] is = refl
starts_one at word None (r ∷ rs) is = rw is refl
starts_one at word (Some value) rest is = rw is refl

pub read_one : (count : ℕ) (before : List Item) (at : ℕ) (word : List ℕ) (value : Option (List ℕ)) (i : Item) (rest : List (List ℕ)) → takes_next (meaning_of word) ≡ is_some value
    → item_at before (start at word (next_of value rest)) count ≡ Ok i
    → read_all count before (starts at (words_said word value ++ rest)) ≡ read_all count (before ++ i ∷ []) (starts (at + takes value) rest)
read_one count before at word value i rest is reads = rw (starts_one at word value rest is) (rw reads refl)

-- ---- an option
abbrev pub IsOption : List ℕ → Meaning → Type 0
IsOption word means = (meaning_of word ≡ Some means) × ((same means.subject subject.Identify || same means.subject subject.AttachedFile) ≡ false)

looks_known : (word : List ℕ) (means : Meaning) → meaning_of word ≡ Some means → is_option word ≡ true
unfolding meaning_of
looks_known word means known = elim (cases_Bool (is_option word)) [ inl is ↦ is | inr is ↦ absurd (let none = rw is at known in cc) ]

no_join : (word : List ℕ) → is_option word ≡ true → bytes_eq word (codes "+") ≡ false
no_join word looks = other_word word (codes "+") (λ is. let e : is_option word ≡ false = ap is_option is in cc)

-- An option of another subject attaches no file.
not_overfull : (about : Subject) (before : List Item) → same about subject.AttachedFile ≡ false → overfull about before ≡ false
not_overfull about before other = rw other refl

-- The option with a value.
pub value_item : (word : List ℕ) (means : Meaning) (before : List Item) (at count : ℕ) (text : List ℕ) (value : Value) → IsOption word means
    → flag_of means.form ≡ None → value_of means.form text ≡ Some value → repeats means before ≡ false → repeats_for means.subject (track_in value) before ≡ false
    → item_at before (start at word (Some text)) count ≡ Ok (item at means.subject means.scope value)
unfolding item_at option_at
value_item word means before at count text value is due reads once free =
    let parts = or_parts (same means.subject subject.Identify) (same means.subject subject.AttachedFile) is.1 in
    rw (no_join word (looks_known word means is.0)) (rw (looks_known word means is.0) (rw is.0 (rw parts.0 (rw once (rw due (rw reads (rw (not_overfull means.subject before parts.1) (rw free refl))))))))

-- The option without a value.
pub flag_item : (word : List ℕ) (means : Meaning) (before : List Item) (at count : ℕ) (next : Option (List ℕ)) (value : Value) → IsOption word means
    → flag_of means.form ≡ Some value → repeats means before ≡ false → repeats_for means.subject (track_in value) before ≡ false
    → item_at before (start at word next) count ≡ Ok (item at means.subject means.scope value)
unfolding item_at option_at
flag_item word means before at count next value is says once free =
    let parts = or_parts (same means.subject subject.Identify) (same means.subject subject.AttachedFile) is.1 in
    rw (no_join word (looks_known word means is.0)) (rw (looks_known word means is.0) (rw is.0 (rw parts.0 (rw once (rw says (rw (not_overfull means.subject before parts.1) (rw free refl)))))))

pub value_width : (word : List ℕ) (means : Meaning) → IsOption word means → flag_of means.form ≡ None → takes_next (meaning_of word) ≡ true
value_width word means is due = rw is.0 (rw due refl)

pub flag_width : (word : List ℕ) (means : Meaning) (value : Value) → IsOption word means → flag_of means.form ≡ Some value → takes_next (meaning_of word) ≡ false
flag_width word means value is says = rw is.0 (rw says refl)

-- ---- items of pieces with another subject
abbrev pub none_about : Subject → List Piece → Bool
none_about subject [] = true
none_about subject (p ∷ ps) = not (same p.subject subject) && none_about subject ps

pub said_stands : (at : ℕ) (s t : Subject) (c : Scope) (list : List Said) → same s t ≡ false → stands t (said_items at s c list) ≡ false
said_stands at s t c [] other = refl
said_stands at s t c (x ∷ xs) other = rw other (said_stands (at + takes x.value) s t c xs other)

pub not_and : (a b : Bool) → (not a && b) ≡ true → (a ≡ false) × (b ≡ true)
not_and a b is = let parts = and_parts (not a) b is in (not-true a parts.0, parts.1)

pub stands_both : (t : Subject) (a b : List Item) → stands t a ≡ false → stands t b ≡ false → stands t (a ++ b) ≡ false
stands_both t a b p q = list_any-append (λ (i : Item). same i.subject t) a b ∙ rw p q

pub other_stands : (at : ℕ) (t : Subject) (ps : List Piece) → none_about t ps ≡ true → stands t (piece_items at ps) ≡ false
other_stands at t [] none = refl
other_stands at t (p ∷ ps) none =
    let parts = not_and (same p.subject t) (none_about t ps) none in
    stands_both t (said_items at p.subject p.scope p.said) (piece_items (after_said at p.said) ps) (said_stands at p.subject t p.scope p.said parts.0) (other_stands (after_said at p.said) t ps parts.1)
