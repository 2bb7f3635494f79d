-- Options that are given once, or once for each track, are read in sequence.
use Rattle.std.proofs.Common.{◌≡◌, ℕ, ◌+◌, Bool, true, false, not, ◌&&◌, if◌then◌else◌, List, [], ◌∷◌, ◌++◌, map, Some, None, Ok, refl, sym, ap, ◌∙◌, arith, append_assoc, All, ◌==◌, is_some}
use Rattle.std.proofs.lemmas.Bool.{and_parts, and_right, or_parts}
use Rattle.std.proofs.lemmas.Bool.Decides.{nat_tests}
use Rattle.std.proofs.lemmas.List.{append-nil}
use Rattle.std.proofs.lemmas.List.Folds.{list_any-append}
use Rattle.std.proofs.lemmas.List.Elements.{All-nil, All-cons, All-head, All-tail}
use Rattle.std.specs.List.{list_any}
use Rattle.word_values.specs.declared.values.Value.{Value}
use Rattle.requests.specs.Lists.{differ}
use Rattle.merge_words.specs.declared.options.Subject.{Subject}
use Rattle.merge_words.specs.declared.options.Subject.TheVariants as subject
use Rattle.merge_words.specs.declared.options.Scope.{Scope}
use Rattle.merge_words.specs.declared.options.Scope.TheVariants as scope
use Rattle.merge_words.specs.declared.options.Meaning.{Meaning}
use Rattle.merge_words.specs.Options.{meaning_of, same}
use Rattle.word_values.specs.Values.{flag_of, value_of}
use Rattle.merge_words.specs.Items.{item_at, stands, stands_for, track_in, is_track, repeats_in, repeats_for, since, since_file, since_attached}
use Rattle.merge_words.specs.Merge.{start, starts, read_all, takes_next}
use Rattle.merge_words.proofs.ItemsLemmas.{latest, since_latest}
use Rattle.word_laws.proofs.SayingLemmas.{Item, Said, Piece, words_said, said_words, piece_words, takes, next_of, item, said_items, after_said, piece_items, after_pieces, read_one, IsOption, value_item, flag_item, value_width, flag_width, none_about, not_and, said_stands, stands_both}

-- ---- the items since the last file grow with each option
latest_none : (t : Subject) (group ys : List Item) → stands t ys ≡ false → latest t group ys ≡ group ++ ys
latest_none t group [] none = sym (append-nil group)
latest_none t group (y ∷ ys) none =
    let parts = or_parts (same y.subject t) (stands t ys) none in
    rw parts.0 (latest_none t (group ++ y ∷ []) ys parts.1 ∙ append_assoc group (y ∷ []) ys)

latest_grows : (t : Subject) (group xs ys : List Item) → stands t ys ≡ false → latest t group (xs ++ ys) ≡ latest t group xs ++ ys
latest_grows t group [] ys none = latest_none t group ys none
latest_grows t group (x ∷ xs) ys none =
    elim (same x.subject t) as (λ b. (if b then latest t [] (xs ++ ys) else latest t (group ++ x ∷ []) (xs ++ ys)) ≡ (if b then latest t [] xs else latest t (group ++ x ∷ []) xs) ++ ys) [
      | true ↦ latest_grows t [] xs ys none
      | false ↦ latest_grows t (group ++ x ∷ []) xs ys none
    ]

pub since_grows : (t : Subject) (before ys : List Item) → stands t ys ≡ false → since t (before ++ ys) ≡ since t before ++ ys
since_grows t before ys none = since_latest t (before ++ ys) ∙ (latest_grows t [] before ys none ∙ ap (λ l. l ++ ys) (sym (since_latest t before)))

-- the items among which an option of this scope may be given once
abbrev pub among : Scope → List Item → List Item
among scope.Output before = before
among scope.Attached before = since_attached before
among scope.File before = since_file before
among scope.Track before = since_file before

pub among_grows : (c : Scope) (before ys : List Item) → stands subject.File ys ≡ false → stands subject.AttachedFile ys ≡ false → among c (before ++ ys) ≡ among c before ++ ys
among_grows scope.Output before ys none alone = refl
among_grows scope.Attached before ys none alone = since_grows subject.AttachedFile before ys alone
among_grows scope.File before ys none alone = since_grows subject.File before ys none
among_grows scope.Track before ys none alone = since_grows subject.File before ys none

-- ---- options
pub record IsSaid (s : Subject) (c : Scope) (x : Said) : Type 0 where
  pub width : takes_next (meaning_of x.word) ≡ is_some x.value
  pub reads : (before : List Item) (at count : ℕ) (rest : List (List ℕ)) → repeats_in c s before ≡ false → repeats_for s (track_in x.says) before ≡ false
      → item_at before (start at x.word (next_of x.value rest)) count ≡ Ok (item at s c x.says)

pub value_said : (word : List ℕ) (means : Meaning) (text : List ℕ) (value : Value) → IsOption word means → flag_of means.form ≡ None → value_of means.form text ≡ Some value
    → IsSaid means.subject means.scope (record { word = word; value = Some text; says = value })
value_said word means text value is due reads = record {
  width = value_width word means is due;
  reads = λ before at count rest once free. value_item word means before at count text value is due reads once free;
}

pub flag_said : (word : List ℕ) (means : Meaning) (value : Value) → IsOption word means → flag_of means.form ≡ Some value
    → IsSaid means.subject means.scope (record { word = word; value = None; says = value })
flag_said word means value is says = record {
  width = flag_width word means value is says;
  reads = λ before at count rest once free. flag_item word means before at count _ value is says once free;
}

once_free : (s : Subject) (c : Scope) (before : List Item) → stands s (among c before) ≡ false → repeats_in c s before ≡ false
once_free s scope.Output before free = free
once_free s scope.Attached before free = free
once_free s scope.File before free = free
once_free s scope.Track before free = refl

-- ---- an option that may be given once
abbrev pub IsOnce : Subject → Scope → List Said → Type 0
IsOnce s c [] = Unit {0}
IsOnce s c (x ∷ []) = IsSaid s c x × (track_in x.says ≡ None)
IsOnce s c (x ∷ y ∷ ys) = ⊥

abbrev pub IsReadable : Piece → Type 0
IsReadable p = (count : ℕ) (before : List Item) (at : ℕ) (rest : List (List ℕ)) → stands p.subject (among p.scope before) ≡ false
    → read_all count before (starts at (said_words p.said ++ rest)) ≡ read_all count (before ++ said_items at p.subject p.scope p.said) (starts (after_said at p.said) rest)

pub once_read : (s : Subject) (c : Scope) (list : List Said) → IsOnce s c list → IsReadable (record { subject = s; scope = c; said = list })
once_read s c [] is count before at rest free = rw (append-nil before) refl
once_read s c (x ∷ []) is count before at rest free =
    let none : repeats_for s (track_in x.says) before ≡ false = rw is.1 refl in
    rw (append-nil (words_said x.word x.value)) (read_one count before at x.word x.value (item at s c x.says) rest is.0.width (is.0.reads before at count rest (once_free s c before free) none))
once_read s c (x ∷ y ∷ ys) is count before at rest free = absurd is

-- ---- an option that may be given once for each track
none_for : (s : Subject) (id : ℕ) (items : List Item) → stands s items ≡ false → stands_for s id items ≡ false
none_for s id [] none = refl
none_for s id (i ∷ is) none = let parts = or_parts (same i.subject s) (stands s is) none in rw parts.0 (none_for s id is parts.1)

not_among : (n m : ℕ) (ns : List ℕ) → list_any (λ k. k == n) (m ∷ ns) ≡ false → ((n == m) ≡ false) × (list_any (λ k. k == n) ns ≡ false)
not_among n m ns none = let parts = or_parts (m == n) (list_any (λ k. k == n) ns) none in (let other = parts.0 in grind (arith, nat_tests), parts.1)

module _ {X : Type 0} (s : Subject) (make : ℕ × X → Said) (names : (p : ℕ × X) → track_in (make p).says ≡ Some p.0) where
  free_next : (p q : ℕ × X) (before : List Item) (at : ℕ) → same s subject.File ≡ false → (p.0 == q.0) ≡ false → stands_for s q.0 (since_file before) ≡ false
      → stands_for s q.0 (since_file (before ++ item at s scope.Track (make p).says ∷ [])) ≡ false
  free_next p q before at file other free =
      let none : stands subject.File (item at s scope.Track (make p).says ∷ []) ≡ false = rw file refl in
      rw (since_grows subject.File before (item at s scope.Track (make p).says ∷ []) none)
      (rw (list_any-append (λ (i : Item). same i.subject s && is_track q.0 (track_in i.value)) (since_file before) (item at s scope.Track (make p).says ∷ []))
      (rw free (rw (names p) (rw other (rw (and_right (same s s) false refl) refl)))))

  free_rest : (p : ℕ × X) (list : List (ℕ × X)) (before : List Item) (at : ℕ) → same s subject.File ≡ false → list_any (λ k. k == p.0) (map (λ (q : ℕ × X). q.0) list) ≡ false
      → All (λ (q : ℕ × X). stands_for s q.0 (since_file before) ≡ false) list → All (λ (q : ℕ × X). stands_for s q.0 (since_file (before ++ item at s scope.Track (make p).says ∷ [])) ≡ false) list
  free_rest p [] before at file other free = All-nil (λ (q : ℕ × X). stands_for s q.0 (since_file (before ++ item at s scope.Track (make p).says ∷ [])) ≡ false)
  free_rest p (q ∷ qs) before at file other free =
      let apart = not_among p.0 q.0 (map (λ (r : ℕ × X). r.0) qs) other in
      All-cons (λ (r : ℕ × X). stands_for s r.0 (since_file (before ++ item at s scope.Track (make p).says ∷ [])) ≡ false) q qs
      (free_next p q before at file apart.0 (All-head (λ (r : ℕ × X). stands_for s r.0 (since_file before) ≡ false) q qs free))
      (free_rest p qs before at file apart.1 (All-tail (λ (r : ℕ × X). stands_for s r.0 (since_file before) ≡ false) q qs free))

  tracks_from : (list : List (ℕ × X)) (count : ℕ) (before : List Item) (at : ℕ) (rest : List (List ℕ)) → same s subject.File ≡ false → differ (map (λ (q : ℕ × X). q.0) list) ≡ true
      → All (λ (q : ℕ × X). IsSaid s scope.Track (make q)) list → All (λ (q : ℕ × X). stands_for s q.0 (since_file before) ≡ false) list
      → read_all count before (starts at (said_words (map make list) ++ rest)) ≡ read_all count (before ++ said_items at s scope.Track (map make list)) (starts (after_said at (map make list)) rest)
  tracks_from [] count before at rest file apart are free = rw (append-nil before) refl
  tracks_from (p ∷ ps) count before at rest file apart are free =
      let x = make p in
      let parts = not_and (list_any (λ k. k == p.0) (map (λ (q : ℕ × X). q.0) ps)) (differ (map (λ (q : ℕ × X). q.0) ps)) apart in
      let here = All-head (λ (q : ℕ × X). IsSaid s scope.Track (make q)) p ps are in
      let own = All-head (λ (q : ℕ × X). stands_for s q.0 (since_file before) ≡ false) p ps free in
      let new : repeats_for s (track_in x.says) before ≡ false = rw (names p) own in
      let more = said_words (map make ps) ++ rest in
      let first = read_one count before at x.word x.value (item at s scope.Track x.says) more here.width (here.reads before at count more refl new) in
      let next = tracks_from ps count (before ++ item at s scope.Track x.says ∷ []) (at + takes x.value) rest file parts.1 (All-tail (λ (q : ℕ × X). IsSaid s scope.Track (make q)) p ps are)
      (free_rest p ps before at file parts.0 (All-tail (λ (q : ℕ × X). stands_for s q.0 (since_file before) ≡ false) p ps free)) in
      rw (append_assoc (words_said x.word x.value) (said_words (map make ps)) rest) (first ∙ (next ∙ rw (append_assoc before (item at s scope.Track x.says ∷ []) (said_items (at + takes x.value) s scope.Track (map make ps))) refl))

  all_free : (list : List (ℕ × X)) (before : List Item) → stands s (since_file before) ≡ false → All (λ (q : ℕ × X). stands_for s q.0 (since_file before) ≡ false) list
  all_free list before none = λ k d less. none_for s _ (since_file before) none

  pub tracks_read : (list : List (ℕ × X)) → same s subject.File ≡ false → differ (map (λ (q : ℕ × X). q.0) list) ≡ true → All (λ (q : ℕ × X). IsSaid s scope.Track (make q)) list
      → IsReadable (record { subject = s; scope = scope.Track; said = map make list })
  tracks_read list file apart are count before at rest free = tracks_from list count before at rest file apart are (all_free list before free)

-- ---- options with different subjects
abbrev pub none_like : Subject → List Piece → Bool
none_like s [] = true
none_like s (p ∷ ps) = not (same s p.subject) && none_like s ps

abbrev pub are_apart : List Piece → Bool
are_apart [] = true
are_apart (p ∷ ps) = none_like p.subject ps && are_apart ps

abbrev pub AreReadable : List Piece → Type 0
AreReadable [] = Unit {0}
AreReadable (p ∷ ps) = IsReadable p × AreReadable ps

-- No earlier item has their subjects.
abbrev pub AreFree : List Item → List Piece → Type 0
AreFree before [] = Unit {0}
AreFree before (p ∷ ps) = (stands p.subject (among p.scope before) ≡ false) × AreFree before ps

pub still_free : (before : List Item) (at : ℕ) (s : Subject) (c : Scope) (list : List Said) (ps : List Piece) → same s subject.File ≡ false → same s subject.AttachedFile ≡ false → none_like s ps ≡ true → AreFree before ps
    → AreFree (before ++ said_items at s c list) ps
still_free before at s c list [] file alone other free = tt
still_free before at s c list (p ∷ ps) file alone other free =
    let parts = not_and (same s p.subject) (none_like s ps) other in
    let no_file = said_stands at s subject.File c list file in
    let no_attached = said_stands at s subject.AttachedFile c list alone in
    let own = said_stands at s p.subject c list parts.0 in
    (rw (among_grows p.scope before (said_items at s c list) no_file no_attached) (stands_both p.subject (among p.scope before) (said_items at s c list) free.0 own), still_free before at s c list ps file alone parts.1 free.1)

pub pieces_read : (ps : List Piece) (count : ℕ) (before : List Item) (at : ℕ) (rest : List (List ℕ)) → are_apart ps ≡ true → none_about subject.File ps ≡ true → none_about subject.AttachedFile ps ≡ true → AreReadable ps → AreFree before ps
    → read_all count before (starts at (piece_words ps ++ rest)) ≡ read_all count (before ++ piece_items at ps) (starts (after_pieces at ps) rest)
pieces_read [] count before at rest apart files others are free = rw (append-nil before) refl
pieces_read (p ∷ ps) count before at rest apart files others are free =
    let parts = and_parts (none_like p.subject ps) (are_apart ps) apart in
    let file = not_and (same p.subject subject.File) (none_about subject.File ps) files in
    let other = not_and (same p.subject subject.AttachedFile) (none_about subject.AttachedFile ps) others in
    let items = said_items at p.subject p.scope p.said in
    let first = are.0 count before at (piece_words ps ++ rest) free.0 in
    let next = pieces_read ps count (before ++ items) (after_said at p.said) rest parts.1 file.1 other.1 are.1 (still_free before at p.subject p.scope p.said ps file.0 other.0 parts.0 free.1) in
    rw (append_assoc (said_words p.said) (piece_words ps) rest) (first ∙ (next ∙ rw (append_assoc before items (piece_items (after_said at p.said) ps)) refl))
