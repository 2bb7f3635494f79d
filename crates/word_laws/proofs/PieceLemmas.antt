-- The pieces of a file: the arguments of each, and that they are read back.
use Rattle.std.proofs.Common.{◌≡◌, ℕ, Bool, true, false, not, List, [], ◌∷◌, ◌++◌, map, codes, Option, Some, None, refl, All, option_map}
use Rattle.std.proofs.lemmas.List.{append-nil}
use Rattle.std.proofs.lemmas.List.Elements.{All-nil, All-cons, All-head, All-tail}
use Rattle.requests.specs.declared.track.Select.{Select}
use Rattle.requests.specs.declared.track.Select.TheVariants as select
use Rattle.word_values.specs.declared.values.Value.{Value}
use Rattle.word_values.specs.declared.values.Value.TheVariants.{Flag, Tracks}
use Rattle.word_values.specs.declared.values.ValueForm.{ValueForm}
use Rattle.word_values.specs.declared.values.ValueForm.TheVariants as form
use Rattle.word_values.specs.Values.{flag_of, value_of}
use Rattle.merge_words.specs.declared.options.Subject.{Subject}
use Rattle.merge_words.specs.declared.options.Subject.TheVariants as subject
use Rattle.merge_words.specs.declared.options.Scope.{Scope}
use Rattle.merge_words.specs.declared.options.Scope.TheVariants as scope
use Rattle.merge_words.specs.declared.options.Meaning.{Meaning}
use Rattle.merge_words.specs.Options.{same}
use Rattle.merge_words.specs.Items.{track_in}
use Rattle.merge_words.specs.Files.{ids_of, ids_of_select}
use Rattle.word_laws.specs.Values.{HasFewDigits, with_number, numbers_word}
use Rattle.word_laws.specs.SpelledMerge.{flag, with_value, select_words, for_tracks}
use Rattle.word_laws.specs.SpellableMerge.{IsSelect, AreOfTracks, tracks_spoken_of as ids_in}
use Rattle.word_laws.proofs.ValueLemmas.{these_read, others_read}
use Rattle.word_laws.proofs.SayingLemmas.{Said, said_words, IsOption}
use Rattle.word_laws.proofs.GroupLemmas.{IsSaid, value_said, flag_said, IsReadable, once_read, tracks_read}
use Rattle.word_laws.proofs.AboutLemmas.{is_said, first_said, all_said, ids_said}

abbrev pub means : Subject → Scope → ValueForm → Meaning
means subject scope form = record { subject = subject; scope = scope; form = form }

-- ---- a flag
abbrev pub said_flag : List ℕ → Value → Bool → List Said
said_flag word value true = record { word = word; value = None; says = value } ∷ []
said_flag word value false = []

pub flag_words : (word : List ℕ) (value : Value) (b : Bool) → said_words (said_flag word value b) ≡ flag word b
flag_words word value true = refl
flag_words word value false = refl

pub flag_readable : (s : Subject) (c : Scope) (word : List ℕ) (b : Bool) → IsOption word (means s c form.Flag) → IsReadable (record { subject = s; scope = c; said = said_flag word Flag b })
flag_readable s c word true is = once_read s c (said_flag word Flag true) (flag_said word (means s c form.Flag) Flag is refl, refl)
flag_readable s c word false is = once_read s c [] tt

pub flag_stands : (word : List ℕ) (value : Value) (b : Bool) → is_said (said_flag word value b ++ []) ≡ b
flag_stands word value true = refl
flag_stands word value false = refl

-- The flag is given if the value isn't kept.
pub flag_kept : (word : List ℕ) (value : Value) (b : Bool) → not (is_said (said_flag word value (not b) ++ [])) ≡ b
flag_kept word value true = refl
flag_kept word value false = refl

pub flag_ids : (word : List ℕ) (b : Bool) → ids_said (said_flag word Flag b) ≡ []
flag_ids word true = refl
flag_ids word false = refl

-- ---- a value, if there is one
abbrev pub said_value : {X : Type 0} → List ℕ → (X → List ℕ) → (X → Value) → Option X → List Said
said_value word text value None = []
said_value word text value (Some x) = record { word = word; value = Some (text x); says = value x } ∷ []

pub value_words : {X : Type 0} (word : List ℕ) (text : X → List ℕ) (value : X → Value) (o : Option X) → said_words (said_value word text value o) ≡ with_value word (option_map text o)
value_words word text value None = refl
value_words word text value (Some x) = refl

pub text_words : (word : List ℕ) (value : List ℕ → Value) (o : Option (List ℕ)) → said_words (said_value word (λ t. t) value o) ≡ with_value word o
text_words word value None = refl
text_words word value (Some x) = refl

pub value_first : {X : Type 0} (word : List ℕ) (text : X → List ℕ) (value : X → Value) (o : Option X) → first_said (said_value word text value o ++ []) ≡ option_map value o
value_first word text value None = refl
value_first word text value (Some x) = refl

pub value_ids : {X : Type 0} (word : List ℕ) (text : X → List ℕ) (value : X → Value) (o : Option X) → ((x : X) → ids_of (value x) ≡ []) → ids_said (said_value word text value o) ≡ []
value_ids word text value None none = refl
value_ids word text value (Some x) none = rw (none x) refl

-- ---- selected tracks of one type
abbrev pub said_select : List ℕ → List ℕ → Select → List Said
said_select taken none select.All = []
said_select taken none (select.These ids) = record { word = taken; value = Some (numbers_word ids); says = Tracks (select.These ids) } ∷ []
said_select taken none (select.AllBut ids) = record { word = taken; value = Some (codes "!" ++ numbers_word ids); says = Tracks (select.AllBut ids) } ∷ []
said_select taken none select.Off = record { word = none; value = None; says = Tracks select.Off } ∷ []

pub select_spelled : (taken none : List ℕ) (s : Select) → said_words (said_select taken none s) ≡ select_words taken none s
select_spelled taken none select.All = refl
select_spelled taken none (select.These ids) = refl
select_spelled taken none (select.AllBut ids) = refl
select_spelled taken none select.Off = refl

pub select_readable : (s : Subject) (taken none : List ℕ) (sel : Select) → IsOption taken (means s scope.File form.Ids) → IsOption none (means s scope.File form.Exclusion) → IsSelect sel
    → IsReadable (record { subject = s; scope = scope.File; said = said_select taken none sel })
select_readable s taken none select.All is excludes sel = once_read s scope.File [] tt
select_readable s taken none (select.These ids) is excludes sel =
    once_read s scope.File (said_select taken none (select.These ids)) (value_said taken (means s scope.File form.Ids) (numbers_word ids) (Tracks (select.These ids)) is refl (these_read ids sel.some sel.short), refl)
select_readable s taken none (select.AllBut ids) is excludes sel =
    once_read s scope.File (said_select taken none (select.AllBut ids)) (value_said taken (means s scope.File form.Ids) (codes "!" ++ numbers_word ids) (Tracks (select.AllBut ids)) is refl (others_read ids sel.some sel.short), refl)
select_readable s taken none select.Off is excludes sel =
    once_read s scope.File (said_select taken none select.Off) (flag_said none (means s scope.File form.Exclusion) (Tracks select.Off) excludes refl, refl)

pub select_ids : (taken none : List ℕ) (sel : Select) → ids_said (said_select taken none sel) ≡ ids_of_select sel
select_ids taken none select.All = refl
select_ids taken none (select.These ids) = append-nil ids
select_ids taken none (select.AllBut ids) = append-nil ids
select_ids taken none select.Off = refl

-- ---- a value for each track
module _ {X : Type 0} (word : List ℕ) (text : X → List ℕ) (value : ℕ → X → Value) where
  abbrev pub said_track : ℕ × X → Said
  said_track p = record { word = word; value = Some (with_number p.0 (text p.1)); says = value p.0 p.1 }

  pub tracks_spelled : (list : List (ℕ × X)) → said_words (map said_track list) ≡ for_tracks word text list
  tracks_spelled [] = refl
  tracks_spelled (p ∷ ps) = rw (tracks_spelled ps) refl

  pub tracks_said : (k : Value → Option (ℕ × X)) (list : List (ℕ × X)) → ((id : ℕ) (x : X) → k (value id x) ≡ Some (id, x)) → all_said k (map said_track list) ≡ list
  tracks_said k [] some = refl
  tracks_said k (p ∷ ps) some = rw (some p.0 p.1) (rw (tracks_said k ps some) refl)

  pub tracks_ids : (list : List (ℕ × X)) → ((id : ℕ) (x : X) → ids_of (value id x) ≡ id ∷ []) → ids_said (map said_track list) ≡ ids_in list
  tracks_ids [] one = refl
  tracks_ids (p ∷ ps) one = rw (one p.0 p.1) (rw (tracks_ids ps one) refl)

  said_each : (s : Subject) (f : ValueForm) (Is : X → Type 0) (list : List (ℕ × X)) → IsOption word (means s scope.Track f) → flag_of f ≡ None
      → ((id : ℕ) (x : X) → HasFewDigits id → Is x → value_of f (with_number id (text x)) ≡ Some (value id x)) → All (λ (p : ℕ × X). HasFewDigits p.0) list → All (λ (p : ℕ × X). Is p.1) list
      → All (λ (p : ℕ × X). IsSaid s scope.Track (said_track p)) list
  said_each s f Is [] is due reads short each = All-nil (λ (p : ℕ × X). IsSaid s scope.Track (said_track p))
  said_each s f Is (p ∷ ps) is due reads short each =
      let read = reads p.0 p.1 (All-head (λ (q : ℕ × X). HasFewDigits q.0) p ps short) (All-head (λ (q : ℕ × X). Is q.1) p ps each) in
      All-cons (λ (q : ℕ × X). IsSaid s scope.Track (said_track q)) p ps (value_said word (means s scope.Track f) (with_number p.0 (text p.1)) (value p.0 p.1) is due read)
      (said_each s f Is ps is due reads (All-tail (λ (q : ℕ × X). HasFewDigits q.0) p ps short) (All-tail (λ (q : ℕ × X). Is q.1) p ps each))

  pub tracks_readable : (s : Subject) (f : ValueForm) (Is : X → Type 0) (list : List (ℕ × X)) → IsOption word (means s scope.Track f) → flag_of f ≡ None → same s subject.File ≡ false
      → ((id : ℕ) (x : X) → track_in (value id x) ≡ Some id) → ((id : ℕ) (x : X) → HasFewDigits id → Is x → value_of f (with_number id (text x)) ≡ Some (value id x)) → AreOfTracks Is list
      → IsReadable (record { subject = s; scope = scope.Track; said = map said_track list })
  tracks_readable s f Is list is due file names reads are =
      tracks_read s said_track (λ p. names p.0 p.1) list file are.apart (said_each s f Is list is due reads are.short are.each)
