-- The inputs of a merge are read back, in sequence.
use Rattle.std.proofs.Common.{◌≡◌, ◌<◌, ◌≤◌, ℕ, ◌+◌, Bool, true, false, ◌&&◌, if◌then◌else◌, List, [], ◌∷◌, ◌++◌, length, Ok, refl, ap, ◌∙◌, arith, append_assoc, All, ◌==◌, flat_map}
use Rattle.std.proofs.lemmas.Bool.{and_parts, or_parts}
use Rattle.std.proofs.lemmas.Bool.Decides.{nat_tests}
use Rattle.std.proofs.lemmas.List.{append-nil}
use Rattle.std.proofs.lemmas.List.Elements.{All-head, All-tail}
use Rattle.word_values.specs.declared.values.Value.{Value}
use Rattle.word_values.specs.declared.values.Value.TheVariants.{File}
use Rattle.requests.specs.declared.merge.FileWords.{FileWords}
use Rattle.merge_words.specs.declared.options.Subject.{Subject}
use Rattle.merge_words.specs.declared.options.Subject.TheVariants as subject
use Rattle.merge_words.specs.Options.{same}
use Rattle.merge_words.specs.declared.options.Scope.{Scope}
use Rattle.merge_words.specs.declared.options.Scope.TheVariants as scope
use Rattle.merge_words.specs.Items.{files_in, stands, since_file}
use Rattle.merge_words.specs.Files.{file}
use Rattle.merge_words.specs.Merge.{starts, read_all}
use Rattle.requests.specs.Sound.{IsSoundFile}
use Rattle.merge_words.proofs.ItemsLemmas.{latest_end, since_latest}
use Rattle.merge_words.proofs.FilesLemmas.{made_from, files_from}
use Rattle.word_laws.specs.SpelledMerge.{file_words}
use Rattle.word_laws.specs.SpellableMerge.{IsMergeFile}
use Rattle.word_laws.proofs.SayingLemmas.{Item, Piece, item, piece_items, after_pieces, other_stands}
use Rattle.word_laws.proofs.GroupLemmas.{among, AreFree}
use Rattle.word_laws.proofs.FileLemmas.{group, file_items, after_file, file_read, counted_both, same_count}
use Rattle.word_laws.proofs.OwnLemmas.{group_says, file_is}

-- ---- no option was given after a file yet
pub none_since : (before : List Item) (at : ℕ) (f : FileWords) → since_file (before ++ file_items at f) ≡ []
none_since before at f =
    let last = item (after_pieces at (group f)) subject.File scope.Output (File f.name) in
    since_latest subject.File (before ++ file_items at f) ∙ rw (← append_assoc before (piece_items at (group f)) (last ∷ [])) (latest_end subject.File [] (before ++ piece_items at (group f)) last refl)

abbrev in_file : Scope → Bool
in_file scope.Output = false
in_file scope.Attached = false
in_file scope.File = true
in_file scope.Track = true

abbrev in_files : List Piece → Bool
in_files [] = true
in_files (p ∷ ps) = in_file p.scope && in_files ps

none_among : (before : List Item) (c : Scope) → since_file before ≡ [] → in_file c ≡ true → among c before ≡ []
none_among before scope.Output none is = absurd (cc)
none_among before scope.Attached none is = absurd (cc)
none_among before scope.File none is = none
none_among before scope.Track none is = none

all_free : (before : List Item) (ps : List Piece) → since_file before ≡ [] → in_files ps ≡ true → AreFree before ps
all_free before [] none are = tt
all_free before (p ∷ ps) none are =
    let parts = and_parts (in_file p.scope) (in_files ps) are in
    (rw (none_among before p.scope none parts.0) refl, all_free before ps none parts.1)

-- ---- all files are read
abbrev pub files_items : ℕ → List FileWords → List Item
files_items at [] = []
files_items at (f ∷ fs) = file_items at f ++ files_items (after_file at f) fs

pub one_counted : (before : List Item) (at : ℕ) (f : FileWords) → files_in (before ++ file_items at f) ≡ files_in before + 1
one_counted before at f =
    let last = item (after_pieces at (group f)) subject.File scope.Output (File f.name) in
    let first = same_count before (piece_items at (group f)) (other_stands at subject.File (group f) refl) in
    let both = counted_both (before ++ piece_items at (group f)) (last ∷ []) in
    rw (← append_assoc before (piece_items at (group f)) (last ∷ [])) (both ∙ rw first refl)

pub files_read : (fs : List FileWords) (count : ℕ) (before : List Item) (at : ℕ) → All IsSoundFile fs → All IsMergeFile fs → 0 < files_in before → files_in before + length fs ≤ 64 → since_file before ≡ []
    → read_all count before (starts at (flat_map file_words fs)) ≡ Ok (before ++ files_items at fs)
files_read [] count before at sound are some few none = rw (append-nil before) refl
files_read (f ∷ fs) count before at sound are some few none =
    let joins : (files_in before == 0) ≡ false = grind (arith, nat_tests) in
    let here = file_read count before at f (flat_map file_words fs) (All-head IsSoundFile f fs sound) (All-head IsMergeFile f fs are) (λ is. joins) (omega arith) (all_free before (group f) none refl) in
    let one = one_counted before at f in
    let next = files_read fs count (before ++ file_items at f) (after_file at f) (All-tail IsSoundFile f fs sound) (All-tail IsMergeFile f fs are) (omega arith) (omega arith) (none_since before at f) in
    here ∙ (next ∙ rw (append_assoc before (file_items at f) (files_items (after_file at f) fs)) refl)

-- ---- the files that are read are the given ones
-- Items with another subject join the group.
pub made_behind : {X : Type 0} (t : Subject) (make : List Item → Value → X) (front own rest : List Item) → stands t own ≡ false → made_from t make front (own ++ rest) ≡ made_from t make (front ++ own) rest
made_behind t make front [] rest none = rw (append-nil front) refl
made_behind t make front (i ∷ is) rest none =
    let parts = or_parts (same i.subject t) (stands t is) none in
    rw parts.0 (made_behind t make (front ++ i ∷ []) is rest parts.1 ∙ rw (append_assoc front (i ∷ []) is) refl)

made_none : {X : Type 0} (t : Subject) (make : List Item → Value → X) (group ys : List Item) → stands t ys ≡ false → made_from t make group ys ≡ []
made_none t make group [] none = refl
made_none t make group (y ∷ ys) none = let parts = or_parts (same y.subject t) (stands t ys) none in rw parts.0 (made_none t make (group ++ y ∷ []) ys parts.1)

-- Items with another subject at the end make nothing.
pub made_end : {X : Type 0} (t : Subject) (make : List Item → Value → X) (group xs ys : List Item) → stands t ys ≡ false → made_from t make group (xs ++ ys) ≡ made_from t make group xs
made_end t make group [] ys none = made_none t make group ys none
made_end t make group (x ∷ xs) ys none =
    elim (same x.subject t) as (λ b. (if b then make group x.value ∷ made_from t make [] (xs ++ ys) else made_from t make (group ++ x ∷ []) (xs ++ ys)) ≡ (if b then make group x.value ∷ made_from t make [] xs else made_from t make (group ++ x ∷ []) xs)) [
      | true ↦ ap (λ l. make group x.value ∷ l) (made_end t make [] xs ys none)
      | false ↦ made_end t make (group ++ x ∷ []) xs ys none
    ]

pub files_behind : (front own rest : List Item) → stands subject.File own ≡ false → files_from front (own ++ rest) ≡ files_from (front ++ own) rest
files_behind front own rest none = made_behind subject.File file front own rest none

pub files_first : (front : List Item) (at : ℕ) (f : FileWords) (rest : List Item) → files_from front (file_items at f ++ rest) ≡ file (front ++ piece_items at (group f)) (File f.name) ∷ files_from [] rest
files_first front at f rest =
    let own = piece_items at (group f) in
    let last = item (after_pieces at (group f)) subject.File scope.Output (File f.name) in
    rw (append_assoc own (last ∷ []) rest) (files_behind front own (last ∷ rest) (other_stands at subject.File (group f) refl))

pub files_are : (fs : List FileWords) (at : ℕ) → All IsMergeFile fs → files_from [] (files_items at fs) ≡ fs
files_are [] at are = refl
files_are (f ∷ fs) at are =
    let is = All-head IsMergeFile f fs are in
    files_first [] at f (files_items (after_file at f) fs) ∙ rw (file_is f (group f) at (group_says f) is.named) (rw (files_are fs (after_file at f) (All-tail IsMergeFile f fs are)) refl)
