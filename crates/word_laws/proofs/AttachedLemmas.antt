-- Attached files are read back, in sequence.
use Rattle.std.proofs.Common.{◌≡◌, ◌<◌, ◌≤◌, ℕ, ◌+◌, Bool, true, false, not, ◌&&◌, ◌==◌, nat_le, if◌then◌else◌, List, [], ◌∷◌, ◌++◌, length, codes, Some, refl, sym, ap, ap₂, ◌∙◌, subst, arith, append_assoc, All, flat_map}
use Rattle.std.proofs.lemmas.Bool.{and_parts, not-true}
use Rattle.std.proofs.lemmas.Bool.Decides.{nat_tests}
use Rattle.std.proofs.lemmas.List.{append-nil}
use Rattle.std.proofs.lemmas.List.Folds.{list_any-append}
use Rattle.std.specs.List.{list_any}
use denote.Enum.Bare.{sameb}
use Rattle.merge_words.specs.contracts.options.Scope.{the_type}
use Rattle.std.proofs.lemmas.List.Sums.{sum_by-append}
use Rattle.std.proofs.lemmas.List.Elements.{All-head, All-tail}
use Rattle.requests.specs.declared.merge.AttachedWords.{AttachedWords}
use Rattle.word_values.specs.declared.values.Value.TheVariants.{File, Text}
use Rattle.word_values.specs.declared.values.ValueForm.TheVariants as form
use Rattle.word_values.specs.Values.{full_text, is_media_type, media_type, value_of}
use Rattle.mkv_io.specs.Octets.{lacks}
use Rattle.merge_words.specs.declared.options.Subject.{Subject}
use Rattle.merge_words.specs.declared.options.Subject.TheVariants as subject
use Rattle.merge_words.specs.declared.options.Scope.{Scope}
use Rattle.merge_words.specs.declared.options.Scope.TheVariants as scope
use Rattle.merge_words.specs.Options.{meaning_of, table, same}
use Rattle.merge_words.specs.Items.{item_at, option_at, counted, stands, since_attached}
use Rattle.merge_words.specs.Files.{ids_of}
use Rattle.merge_words.specs.Attached.{attached_file}
use Rattle.merge_words.specs.Merge.{starts, read_all}
use Rattle.merge_words.proofs.ItemsLemmas.{latest_end, since_latest}
use Rattle.merge_words.proofs.FilesLemmas.{attached_from}
use Rattle.word_laws.specs.SpelledMerge.{attached_words}
use Rattle.word_laws.specs.SpellableMerge.{IsAttachable}
use Rattle.word_laws.proofs.ValueLemmas.{text_read}
use Rattle.word_laws.proofs.SayingLemmas.{◌&◌, Item, Said, Piece, takes, item, said_items, after_said, piece_items, after_pieces, read_one, not_and, stands_both}
use Rattle.word_laws.proofs.GroupLemmas.{since_grows, AreReadable, AreFree, pieces_read}
use Rattle.word_laws.proofs.AboutLemmas.{about, value_of_about}
use Rattle.word_laws.proofs.PieceLemmas.{said_value}
use Rattle.word_laws.proofs.OutputLemmas.{value_readable}

-- ---- the options of an attached file
abbrev pub attached_pieces : AttachedWords → List Piece
attached_pieces a =
    record { subject = subject.AttachedName; scope = scope.Attached; said = said_value (codes "--attachment-name") (λ t. t) Text (Some a.name) } ∷
    record { subject = subject.AttachedType; scope = scope.Attached; said = said_value (codes "--attachment-mime-type") (λ t. t) Text (Some a.media_type) } ∷
    record { subject = subject.AttachedNote; scope = scope.Attached; said = said_value (codes "--attachment-description") (λ t. t) Text (Some a.description) } ∷ []

-- the options, and the file
abbrev pub attached_group : AttachedWords → List Piece
attached_group a = attached_pieces a ++ record { subject = subject.AttachedFile; scope = scope.Attached; said = said_value (codes "--attach-file") (λ t. t) File (Some a.file) } ∷ []

-- all attached files
abbrev pub attached_all : List AttachedWords → List Piece
attached_all all = flat_map attached_group all

name_read : (word : List ℕ) → 0 < length word → lacks 0 word ≡ true → value_of form.FullText word ≡ Some (Text word)
unfolding value_of full_text
name_read word some none = let filled : (length word == 0) ≡ false = grind (arith, nat_tests) in rw filled (rw (text_read word none) refl)

type_read : (word : List ℕ) → is_media_type word ≡ true → value_of form.MediaType word ≡ Some (Text word)
unfolding value_of media_type
type_read word is = rw is refl

note_read : (word : List ℕ) → lacks 0 word ≡ true → value_of form.Text word ≡ Some (Text word)
unfolding value_of
note_read word none = rw (text_read word none) refl

attached_readable : (a : AttachedWords) → IsAttachable a → AreReadable (attached_pieces a)
unfolding meaning_of table
attached_readable a is = (
    value_readable scope.Attached subject.AttachedName form.FullText (codes "--attachment-name") (λ t. t) Text (Some a.name) (refl, refl) refl (λ x. refl)
    (λ x same. let e : a.name ≡ x = cc in subst (λ y. value_of form.FullText y ≡ Some (Text y)) e (name_read a.name is.some is.name)) &
    value_readable scope.Attached subject.AttachedType form.MediaType (codes "--attachment-mime-type") (λ t. t) Text (Some a.media_type) (refl, refl) refl (λ x. refl)
    (λ x same. let e : a.media_type ≡ x = cc in subst (λ y. value_of form.MediaType y ≡ Some (Text y)) e (type_read a.media_type is.media_type)) &
    value_readable scope.Attached subject.AttachedNote form.Text (codes "--attachment-description") (λ t. t) Text (Some a.description) (refl, refl) refl (λ x. refl)
    (λ x same. let e : a.description ≡ x = cc in subst (λ y. value_of form.Text y ≡ Some (Text y)) e (note_read a.description is.description)) &
    tt)

-- ---- the file
own_read : (count : ℕ) (before : List Item) (at : ℕ) (file : List ℕ) (rest : List (List ℕ)) → stands subject.AttachedFile (since_attached before) ≡ false
    → nat_le 256 (counted subject.AttachedFile before) ≡ false
    → read_all count before (starts at (codes "--attach-file" ∷ file ∷ rest)) ≡ read_all count (before ++ item at subject.AttachedFile scope.Attached (File file) ∷ []) (starts (at + 2) rest)
unfolding item_at option_at meaning_of table value_of
own_read count before at file rest free few =
    read_one count before at (codes "--attach-file") (Some file) (item at subject.AttachedFile scope.Attached (File file)) rest refl (rw free (rw few refl))

own_counted : (a b : List Item) → counted subject.AttachedFile (a ++ b) ≡ counted subject.AttachedFile a + counted subject.AttachedFile b
own_counted a b = sum_by-append (λ (i : Item). if same i.subject subject.AttachedFile then 1 else 0) a b

-- No option for an attached file is given since the last one.
abbrev pub IsFresh : List Item → Type 0
IsFresh before =
    (stands subject.AttachedName (since_attached before) ≡ false) × ((stands subject.AttachedType (since_attached before) ≡ false)
    × ((stands subject.AttachedNote (since_attached before) ≡ false) × (stands subject.AttachedFile (since_attached before) ≡ false)))

pub fresh_none : (before : List Item) → since_attached before ≡ [] → IsFresh before
fresh_none before none = (rw none refl, (rw none refl, (rw none refl, rw none refl)))

fresh_free : (before : List Item) (a : AttachedWords) → IsFresh before → AreFree before (attached_pieces a)
fresh_free before a fresh = (fresh.0, (fresh.1.0, (fresh.1.1.0, tt)))

module _ (before : List Item) (at : ℕ) (a : AttachedWords) where
  options : List Item
  options = piece_items at (attached_pieces a)

  own : Item
  own = item (after_pieces at (attached_pieces a)) subject.AttachedFile scope.Attached (File a.file)

  no_own : IsFresh before → stands subject.AttachedFile (since_attached (before ++ options)) ≡ false
  unfolding options
  no_own fresh =
      rw (since_grows subject.AttachedFile before (piece_items at (attached_pieces a)) refl)
      (stands_both subject.AttachedFile (since_attached before) (piece_items at (attached_pieces a)) fresh.1.1.1 refl)

  few_own : counted subject.AttachedFile before < 256 → nat_le 256 (counted subject.AttachedFile (before ++ options)) ≡ false
  unfolding options
  few_own few =
      let both = own_counted before (piece_items at (attached_pieces a)) in
      let none : counted subject.AttachedFile (piece_items at (attached_pieces a)) ≡ 0 = refl in
      grind (arith, nat_tests)

  -- One attached file is read.
  attached_read : (count : ℕ) (rest : List (List ℕ)) → IsAttachable a → IsFresh before → counted subject.AttachedFile before < 256
      → read_all count before (starts at (attached_words a ++ rest)) ≡ read_all count (before ++ piece_items at (attached_group a)) (starts (after_pieces at (attached_group a)) rest)
  unfolding options own
  attached_read count rest is fresh few =
      let first = pieces_read (attached_pieces a) count before at (codes "--attach-file" ∷ a.file ∷ rest) refl refl refl (attached_readable a is) (fresh_free before a fresh) in
      let last = own_read count (before ++ piece_items at (attached_pieces a)) (after_pieces at (attached_pieces a)) a.file rest (no_own fresh) (few_own few) in
      let joined = append_assoc before (piece_items at (attached_pieces a)) (own ∷ []) in
      first ∙ (last ∙ ap (λ l. read_all count l (starts (after_pieces at (attached_group a)) rest)) joined)

  -- No option is given after it.
  attached_end : since_attached (before ++ piece_items at (attached_group a)) ≡ []
  unfolding options own
  attached_end =
      ap since_attached (sym (append_assoc before (piece_items at (attached_pieces a)) (own ∷ [])))
      ∙ (since_latest subject.AttachedFile ((before ++ piece_items at (attached_pieces a)) ++ own ∷ []) ∙ latest_end subject.AttachedFile [] (before ++ piece_items at (attached_pieces a)) own refl)

  one_more : counted subject.AttachedFile (before ++ piece_items at (attached_group a)) ≡ counted subject.AttachedFile before + 1
  one_more = own_counted before (piece_items at (attached_group a))

-- All attached files are read.
pub attached_all_read : (all : List AttachedWords) (count : ℕ) (before : List Item) (at : ℕ) (rest : List (List ℕ)) → All IsAttachable all → IsFresh before
    → counted subject.AttachedFile before + length all ≤ 256
    → read_all count before (starts at (flat_map attached_words all ++ rest)) ≡ read_all count (before ++ piece_items at (attached_all all)) (starts (after_pieces at (attached_all all)) rest)
attached_all_read [] count before at rest are fresh few = rw (append-nil before) refl
attached_all_read (a ∷ more) count before at rest are fresh few =
    let here = attached_read before at a count (flat_map attached_words more ++ rest) (All-head IsAttachable a more are) fresh (omega arith) in
    let added = one_more before at a in
    let next = attached_all_read more count (before ++ piece_items at (attached_group a)) (after_pieces at (attached_group a)) rest (All-tail IsAttachable a more are)
    (fresh_none (before ++ piece_items at (attached_group a)) (attached_end before at a)) (omega arith) in
    let joined = append_assoc before (piece_items at (attached_group a)) (piece_items (after_pieces at (attached_group a)) (attached_all more)) in
    here ∙ (next ∙ ap (λ l. read_all count l (starts (after_pieces (after_pieces at (attached_group a)) (attached_all more)) rest)) joined)

-- No option is given after the last one.
pub since_last : (a : AttachedWords) (all : List AttachedWords) (before : List Item) (at : ℕ) → since_attached (before ++ piece_items at (attached_all (a ∷ all))) ≡ []
since_last a [] before at = attached_end before at a
since_last a (b ∷ bs) before at =
    ap since_attached (sym (append_assoc before (piece_items at (attached_group a)) (piece_items (after_pieces at (attached_group a)) (attached_all (b ∷ bs)))))
    ∙ since_last b bs (before ++ piece_items at (attached_group a)) (after_pieces at (attached_group a))

-- ---- the items are about attached files alone
-- The subject isn't of attached files.
abbrev pub is_other : Subject → Bool
is_other t = not (same subject.AttachedName t) && (not (same subject.AttachedType t) && (not (same subject.AttachedNote t) && not (same subject.AttachedFile t)))

pub attached_about : (t : Subject) (all : List AttachedWords) → is_other t ≡ true → about t (attached_all all) ≡ []
attached_about t [] other = refl
attached_about t (a ∷ more) other =
    let one = and_parts (not (same subject.AttachedName t)) (not (same subject.AttachedType t) && (not (same subject.AttachedNote t) && not (same subject.AttachedFile t))) other in
    let two = and_parts (not (same subject.AttachedType t)) (not (same subject.AttachedNote t) && not (same subject.AttachedFile t)) one.1 in
    let three = and_parts (not (same subject.AttachedNote t)) (not (same subject.AttachedFile t)) two.1 in
    let rest = attached_about t more other in
    rw (not-true (same subject.AttachedName t) one.0) (rw (not-true (same subject.AttachedType t) two.0)
    (rw (not-true (same subject.AttachedNote t) three.0) (rw (not-true (same subject.AttachedFile t) three.1) rest)))

pub attached_ids : (all : List AttachedWords) (at : ℕ) → flat_map (λ (i : Item). ids_of i.value) (piece_items at (attached_all all)) ≡ []
attached_ids [] at = refl
attached_ids (a ∷ more) at = attached_ids more (after_pieces at (attached_group a))

-- ---- options for attached files
-- One of the items is an option for an attached file.
abbrev pub of_attached : List Item → Bool
of_attached items = list_any (λ (i : Item). sameb the_type i.scope scope.Attached) items

abbrev unscoped : List Piece → Bool
unscoped [] = true
unscoped (p ∷ ps) = not (sameb the_type p.scope scope.Attached) && unscoped ps

pub unscoped_both : (a b : List Item) → of_attached a ≡ false → of_attached b ≡ false → of_attached (a ++ b) ≡ false
unscoped_both a b p q = list_any-append (λ (i : Item). sameb the_type i.scope scope.Attached) a b ∙ rw p q

said_unscoped : (at : ℕ) (s : Subject) (c : Scope) (list : List Said) → sameb the_type c scope.Attached ≡ false → of_attached (said_items at s c list) ≡ false
said_unscoped at s c [] other = refl
said_unscoped at s c (x ∷ xs) other = rw other (said_unscoped (at + takes x.value) s c xs other)

pub unscoped_items : (at : ℕ) (ps : List Piece) → unscoped ps ≡ true → of_attached (piece_items at ps) ≡ false
unscoped_items at [] none = refl
unscoped_items at (p ∷ ps) none =
    let parts = not_and (sameb the_type p.scope scope.Attached) (unscoped ps) none in
    unscoped_both (said_items at p.subject p.scope p.said) (piece_items (after_said at p.said) ps) (said_unscoped at p.subject p.scope p.said parts.0) (unscoped_items (after_said at p.said) ps parts.1)

-- ---- the attached files that are read are the given ones
pub attached_is : (a : AttachedWords) (ps : List Piece) (at : ℕ)
    → about subject.AttachedName ps ≡ said_value (codes "--attachment-name") (λ t. t) Text (Some a.name) ++ []
    → about subject.AttachedType ps ≡ said_value (codes "--attachment-mime-type") (λ t. t) Text (Some a.media_type) ++ []
    → about subject.AttachedNote ps ≡ said_value (codes "--attachment-description") (λ t. t) Text (Some a.description) ++ []
    → attached_file (piece_items at ps) (File a.file) ≡ a
unfolding attached_file
attached_is a ps at names types notes =
    rw (value_of_about subject.AttachedName ps at) (rw (value_of_about subject.AttachedType ps at) (rw (value_of_about subject.AttachedNote ps at)
    (rw names (rw types (rw notes refl)))))

pub attached_are : (all : List AttachedWords) (at : ℕ) → attached_from [] (piece_items at (attached_all all)) ≡ all
attached_are [] at = refl
attached_are (a ∷ more) at =
    ap₂ (λ (x : AttachedWords) (xs : List AttachedWords). x ∷ xs) (attached_is a (attached_pieces a) at refl refl refl) (attached_are more (after_pieces at (attached_group a)))
