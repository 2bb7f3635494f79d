-- Every request that is read keeps its limits, and its texts are UTF-8.
use Rattle.std.proofs.Common.{◌≡◌, ◌<◌, ◌≤◌, ℕ, ◌+◌, ◌^◌, ℤ, Bool, true, false, not, ◌&&◌, ◌==◌, nat_le, cond, if◌then◌else◌, List, [], ◌∷◌, ◌++◌, length, length-append, Option, Some, None, IfSome, option_map, Ok, refl, sym, ap, ◌∙◌, subst, arith, unwrap_or, append-nil, drop}
use Rattle.std.specs.Prelude.{nat_abs, slice_get, All, codes, option_and_then}
use Rattle.std.specs.List.{find, cons_option, list_all}
use Rattle.std.specs.Str.{IsUtf8, bytes_eq}
use Rattle.std.proofs.lemmas.Bool.{or_from}
use Rattle.std.proofs.lemmas.Bool.Decides.{nat_tests}
use Rattle.std.proofs.lemmas.List.Sums.{sum_by-append}
use Rattle.std.proofs.lemmas.List.Folds.{list_any-append}
use Rattle.std.proofs.lemmas.List.Elements.{All-nil, All-cons, All-head, All-tail, All-drop, All-push, All-weaker}
use Rattle.word_values.specs.declared.usage.Why.TheVariants.{MissingValue}
use Rattle.word_values.specs.declared.values.ValueForm.{ValueForm}
use Rattle.word_values.specs.declared.values.Value.{Value}
use Rattle.word_values.specs.declared.values.Value.TheVariants.{Flag, File, Text, Scale, Blocks, Span, Split, Uuids, TrackDelay, TrackText, TrackLanguage, TrackLanguageTag}
use Rattle.word_values.specs.Place.{is_option}
use Rattle.word_values.specs.Values.{flag_of, text, value_of}
use Rattle.requests.specs.Sound.{IsWithin, AreUuids, IsSoundSplit}
use Rattle.word_values.proofs.AnswerLemmas.{ok-then, ok-else, ok-made}
use Rattle.word_values.proofs.SoundLemmas.{IsRead, value_of-read, flag_of-is}
use Rattle.merge_words.specs.declared.options.Subject.{Subject}
use Rattle.merge_words.specs.declared.options.Subject.TheVariants as subject
use Rattle.merge_words.specs.declared.options.Scope.TheVariants as scope
use Rattle.merge_words.specs.declared.options.Meaning.{Meaning}
use Rattle.merge_words.specs.declared.item.Item.{Item}
use Rattle.merge_words.specs.Options.{Row, table, meaning, meaning_among, spelled, meaning_of, same}
use Rattle.word_values.specs.declared.usage.Why.{Why}
use Rattle.word_values.specs.declared.usage.Why.TheVariants.{NoOutput, NoInput, DanglingOption, NoSuchFile}
use Rattle.requests.specs.declared.merge.FileWords.{FileWords}
use Rattle.requests.specs.declared.merge.MergeWords.{MergeWords}
use Rattle.merge_words.specs.Said.{value_in, said_about, text_of, scale_of, blocks_of, span_of, split_of, uuids_of, delay_of, track_text_of, track_language_of, track_language_tag_of}
use Rattle.merge_words.specs.Files.{file, files}
use Rattle.merge_words.specs.Output.{merge_words}
use Rattle.merge_words.specs.Merge.{starts, read_all, items, wrong_if, wrong_at, dangling, complete, misplaced, merged}
use Rattle.requests.specs.Sound.{IsSoundFile, IsSoundMerge}
use Rattle.requests.specs.Texts.{AreTexts, HasTexts}
use Rattle.merge_words.proofs.ItemsLemmas.{latest, latest_other}
use Rattle.merge_words.proofs.FilesLemmas.{files_from, parted_files}
use Rattle.merge_words.proofs.MergeLemmas.{IsStart, starts-keep}
use Rattle.merge_words.specs.Items.{Start, is_file, files_in, since_file, stands, track_in, overfull, repeats, repeats_for, read_value, value_at, said, option_at, append_at, file_at, known, item_at}

-- ---- options

-- No row of the table has this subject.
row-other : (about : Subject) (word : List ℕ) (rows : List Row) (m : Meaning) → list_all (λ r. not (same r.subject about)) rows ≡ true → meaning_among rows word ≡ Some m → same m.subject about ≡ false
row-other about word [] m all is = absurd (cc)
row-other about word (r ∷ rs) m all is = split (same r.subject about) (spelled word r) refl all is (row-other about word rs m)
  where
    split : (s t : Bool) → same r.subject about ≡ s → (not s && list_all (λ r. not (same r.subject about)) rs) ≡ true → option_map meaning (cond t (Some r) (find (spelled word) rs)) ≡ Some m
        → (list_all (λ r. not (same r.subject about)) rs ≡ true → option_map meaning (find (spelled word) rs) ≡ Some m → same m.subject about ≡ false) → same m.subject about ≡ false
    split true t sis passes found rest = absurd (cc)
    split false true sis passes found rest =
        let here : meaning r ≡ m = cc in
        let P : Meaning → Type 0 = λ k. same k.subject about ≡ false in
        subst P here sis
    split false false sis passes found rest = rest passes found

option-other : (about : Subject) (word : List ℕ) (m : Meaning) → list_all (λ r. not (same r.subject about)) table ≡ true → meaning_of word ≡ Some m → same m.subject about ≡ false
unfolding meaning_of
option-other about word m all is = split (is_option word) is
  where
    split : (b : Bool) → (if b then meaning_among table word else None) ≡ Some m → same m.subject about ≡ false
    split true found = row-other about word table m all found
    split false found = absurd (cc)

no-file : list_all (λ r. not (same r.subject subject.File)) table ≡ true
unfolding table
no-file = refl

no-append : list_all (λ r. not (same r.subject subject.Append)) table ≡ true
unfolding table
no-append = refl

-- ---- one item

-- The item's value keeps its limits, and its texts are UTF-8 if `given` holds.
abbrev IsReadItem : Type 0 → Item → Type 0
IsReadItem given item = IsRead given item.value

-- The item may follow `before`: its value keeps its limits. Fewer than 64 files precede one that names a file, and one precedes `+`.
record Joins (given : Type 0) (before : List Item) (item : Item) : Type 0 where
  value : IsReadItem given item
  few : is_file item ≡ true → files_in before < 64
  behind : same item.subject subject.Append ≡ true → (files_in before == 0) ≡ false

pub read_value-is : {X : Type 0} (at : ℕ) (o : Option X) (x : X) → read_value at o ≡ Ok x → o ≡ Some x
read_value-is at None x is = absurd (cc)
read_value-is at (Some y) x is = cc

module _ (given : Type 0) (before : List Item) where
  append-joins : (at : ℕ) (item : Item) → append_at before at ≡ Ok item → Joins given before item
  unfolding append_at
  append-joins at item is =
      let some = ok-else (files_in before == 0) _ _ item is in
      let once = ok-else (stands subject.Append (since_file before)) _ _ item some.1 in
      ok-made (Joins given before) (record { at = at; subject = subject.Append; scope = scope.File; value = Flag }) item once.1
      (record { value = (tt, tt); few = λ never. absurd (cc); behind = λ _. some.0 })

  file-joins : (at : ℕ) (word : List ℕ) (item : Item) → file_at before at word ≡ Ok item → Joins given before item
  unfolding file_at
  file-joins at word item is =
      let room = ok-else (nat_le 64 (files_in before)) _ _ item is in
      let under = room.0 in
      ok-made (Joins given before) (record { at = at; subject = subject.File; scope = scope.Output; value = File word }) item room.1
      (record { value = (tt, tt); few = λ _. grind (arith, nat_tests); behind = λ never. absurd (cc) })

  value_at-read : (at count : ℕ) (f : ValueForm) (next : Option (List ℕ)) (v : Value) → IfSome next (λ word. given → IsUtf8 word) → value_at at f next count ≡ Ok v → IsRead given v
  value_at-read at count f None v texts is = absurd (cc)
  value_at-read at count f (Some word) v texts is = value_of-read given f word v texts (read_value-is at (value_of f word) v is)

  said-read : (at count : ℕ) (f : ValueForm) (next : Option (List ℕ)) (v : Value) → IfSome next (λ word. given → IsUtf8 word) → said at f next count ≡ Ok v → IsRead given v
  said-read at count f next v texts is = split (flag_of f) refl is
    where
      split : (o : Option Value) → flag_of f ≡ o → unwrap_or (option_map (λ (w : Value). Ok w) o) (value_at (at + 1) f next count) ≡ Ok v → IsRead given v
      split None none read = value_at-read (at + 1) count f next v texts read
      split (Some w) some read = ok-made (IsRead given) w v read (flag_of-is (IsRead given) f w some (tt, tt) (tt, tt))

  option-joins : (at : ℕ) (word : List ℕ) (means : Meaning) (next : Option (List ℕ)) (count : ℕ) (item : Item)
      → IfSome next (λ w. given → IsUtf8 w) → meaning_of word ≡ Some means → option_at before at means next count ≡ Ok item → Joins given before item
  unfolding option_at
  option-joins at word means next count item texts named is =
      let other = ok-else (same means.subject subject.Identify) _ _ item is in
      let once = ok-else (repeats means before) _ _ item other.1 in
      ok-then (Joins given before item) (said at means.form next count) _ item once.1 (λ v here more.
      let made : Item = record { at = at; subject = means.subject; scope = means.scope; value = v } in
      let room = ok-else (overfull means.subject before) _ _ item more in
      let last = ok-else (repeats_for means.subject (track_in v) before) _ (Ok made) item room.1 in
      let file_not = option-other subject.File word means no-file named in
      let append_not = option-other subject.Append word means no-append named in
      ok-made (Joins given before) made item last.1 (record {
        value = said-read at count means.form next v texts here;
        few = λ never. absurd (let both : true ≡ false = sym never ∙ file_not in cc);
        behind = λ never. absurd (let both : true ≡ false = sym never ∙ append_not in cc);
      }))

  -- An item that is read after others may follow them.
  item-joins : (s : Start) (count : ℕ) (item : Item) → IsStart (λ word. given → IsUtf8 word) s → item_at before s count ≡ Ok item → Joins given before item
  unfolding item_at
  item-joins s count item begins is = split (bytes_eq s.word (codes "+")) (is_option s.word) is
    where
      of-option : (o : Option Meaning) → meaning_of s.word ≡ o → known before s.at o s.next count ≡ Ok item → Joins given before item
      of-option None none found = absurd (cc)
      of-option (Some means) named found = option-joins s.at s.word means s.next count item begins.next named found

      split : (a b : Bool) → (if a then append_at before s.at else if b then known before s.at s.means s.next count else file_at before s.at s.word) ≡ Ok item → Joins given before item
      split true b found = append-joins s.at item found
      split false true found = of-option s.means begins.meant found
      split false false found = file-joins s.at s.word item found

-- ---- the files

files_in-more : (items : List Item) (i : Item) → files_in (items ++ i ∷ []) ≡ files_in items + cond (is_file i) 1 0
files_in-more items i = sum_by-append (λ x. cond (is_file x) 1 0) items (i ∷ []) ∙ omega arith

files_in-first : (i : Item) (items : List Item) → files_in (i ∷ items) ≡ cond (is_file i) 1 0 + files_in items
files_in-first i items = let apart = sum_by-append (λ x. cond (is_file x) 1 0) (i ∷ []) items in apart ∙ omega arith

-- A file that comes last takes the items after the previous file.
files-more : (group items : List Item) (i : Item) → files_from group (items ++ i ∷ []) ≡ files_from group items ++ cond (is_file i) (file (latest subject.File group items) i.value ∷ []) []
files-more group [] i = refl
files-more group (x ∷ xs) i = split (is_file x) (files-more [] xs i) (files-more (group ++ x ∷ []) xs i)
  where
    split : (b : Bool) → files_from [] (xs ++ i ∷ []) ≡ files_from [] xs ++ cond (is_file i) (file (latest subject.File [] xs) i.value ∷ []) []
        → files_from (group ++ x ∷ []) (xs ++ i ∷ []) ≡ files_from (group ++ x ∷ []) xs ++ cond (is_file i) (file (latest subject.File (group ++ x ∷ []) xs) i.value ∷ []) []
        → (if b then file group x.value ∷ files_from [] (xs ++ i ∷ []) else files_from (group ++ x ∷ []) (xs ++ i ∷ []))
        ≡ (if b then file group x.value ∷ files_from [] xs else files_from (group ++ x ∷ []) xs) ++ cond (is_file i) (file (cond b (latest subject.File [] xs) (latest subject.File (group ++ x ∷ []) xs)) i.value ∷ []) []
    split true named other = ap (λ l. file group x.value ∷ l) named
    split false named other = other

length-files : (group items : List Item) → length (files_from group items) ≡ files_in items
length-files group [] = refl
length-files group (x ∷ xs) = split (is_file x) (length-files [] xs) (length-files (group ++ x ∷ []) xs) ∙ sym (files_in-first x xs)
  where
    split : (b : Bool) → length (files_from [] xs) ≡ files_in xs → length (files_from (group ++ x ∷ []) xs) ≡ files_in xs
        → length (if b then file group x.value ∷ files_from [] xs else files_from (group ++ x ∷ []) xs) ≡ cond b 1 0 + files_in xs
    split true named other = omega arith
    split false named other = omega arith

-- ---- values of items

one-said : {X : Type 0} (P : X → Type 0) (o : Option X) (rest : List X) → ((x : X) → o ≡ Some x → P x) → All P rest → All P (cons_option o rest)
one-said P None rest keeps all = all
one-said P (Some x) rest keeps all = All-cons P x rest (keeps x refl) all

-- If values satisfy `P`, so do all values with this subject.
all-said : {X : Type 0} (given : Type 0) (P : X → Type 0) (read : Value → Option X) (about : Subject) (items : List Item)
    → ((v : Value) (x : X) → IsRead given v → read v ≡ Some x → P x) → All (IsReadItem given) items → All P (said_about read about items)
all-said given P read about [] keeps are = All-nil P
all-said given P read about (i ∷ is) keeps are = split (same i.subject about) (all-said given P read about is keeps (All-tail (IsReadItem given) i is are))
  where
    split : (b : Bool) → All P (said_about read about is) → All P (cons_option (option_and_then read (if b then Some i.value else None)) (said_about read about is))
    split true rest = one-said P (read i.value) (said_about read about is) (λ x some. keeps i.value x (All-head (IsReadItem given) i is are) some) rest
    split false rest = rest

value-found : (given : Type 0) (about : Subject) (items : List Item) → All (IsReadItem given) items → IfSome (value_in about items) (IsRead given)
value-found given about [] are = tt
value-found given about (i ∷ is) are = split (same i.subject about) (value-found given about is (All-tail (IsReadItem given) i is are))
  where
    split : (b : Bool) → IfSome (value_in about is) (IsRead given)
        → IfSome (option_map (λ (j : Item). j.value) (cond b (Some i) (find (λ j. same j.subject about) is))) (IsRead given)
    split true rest = All-head (IsReadItem given) i is are
    split false rest = rest

abbrev IsSmall : ℕ × ℤ → Type 0
IsSmall sync = nat_abs sync.1 < 2 ^ 55

delay-small : (given : Type 0) (v : Value) (sync : ℕ × ℤ) → IsRead given v → delay_of v ≡ Some sync → IsSmall sync
delay-small given (TrackDelay id d) sync own is = let same : (id, d) ≡ sync = cc in subst IsSmall same own.0
delay-small given _ sync own is = absurd (cc)

-- The text of a pair is UTF-8.
abbrev IsTextPair : ℕ × List ℕ → Type 0
IsTextPair pair = IsUtf8 pair.1

name-text : (given : Type 0) → given → (v : Value) (name : ℕ × List ℕ) → IsRead given v → track_text_of v ≡ Some name → IsTextPair name
name-text given texts (TrackText id t) name own is = let same : (id, t) ≡ name = cc in subst IsTextPair same (own.1 texts)
name-text given texts _ name own is = absurd (cc)

language-text : (given : Type 0) → given → (v : Value) (language : ℕ × List ℕ) → IsRead given v → track_language_of v ≡ Some language → IsTextPair language
language-text given texts (TrackLanguage id t) language own is = let same : (id, t) ≡ language = cc in subst IsTextPair same (own.1 texts)
language-text given texts _ language own is = absurd (cc)

tag-text : (given : Type 0) → given → (v : Value) (tag : ℕ × List ℕ) → IsRead given v → track_language_tag_of v ≡ Some tag → IsTextPair tag
tag-text given texts (TrackLanguageTag id t) tag own is = let same : (id, t) ≡ tag = cc in subst IsTextPair same (own.1 texts)
tag-text given texts _ tag own is = absurd (cc)

-- The file's options keep their limits, and its texts are UTF-8 if `given` holds.
abbrev IsReadFile : Type 0 → FileWords → Type 0
IsReadFile given f = IsSoundFile f × (given → HasTexts f)

file-read : (given : Type 0) (group : List Item) (name : Value) → All (IsReadItem given) group → IsReadFile given (file group name)
unfolding file
file-read given group name are = (
  record { delays = all-said given IsSmall delay_of subject.Sync group (delay-small given) are },
  λ texts. record {
    names = all-said given IsTextPair track_text_of subject.TrackName group (name-text given texts) are;
    languages = all-said given IsTextPair track_language_of subject.Language group (language-text given texts) are;
    language_tags = all-said given IsTextPair track_language_tag_of subject.LanguageTag group (tag-text given texts) are;
  },
)

files-read : (given : Type 0) (group items : List Item) → All (IsReadItem given) group → All (IsReadItem given) items → All (IsReadFile given) (files_from group items)
files-read given group [] front are = All-nil (IsReadFile given)
files-read given group (x ∷ xs) front are =
    split (is_file x) (files-read given [] xs (All-nil (IsReadItem given)) behind)
    (files-read given (group ++ x ∷ []) xs (All-push (IsReadItem given) group x front (All-head (IsReadItem given) x xs are)) behind)
  where
    behind : All (IsReadItem given) xs
    behind = All-tail (IsReadItem given) x xs are

    split : (b : Bool) → All (IsReadFile given) (files_from [] xs) → All (IsReadFile given) (files_from (group ++ x ∷ []) xs)
        → All (IsReadFile given) (if b then file group x.value ∷ files_from [] xs else files_from (group ++ x ∷ []) xs)
    split true named other = All-cons (IsReadFile given) (file group x.value) (files_from [] xs) (file-read given group x.value front) named
    split false named other = other

-- ---- all items

-- Items that were read in sequence keep their limits.
record Kept (given : Type 0) (items : List Item) : Type 0 where
  values : All (IsReadItem given) items
  few : files_in items ≤ 64
  alone : length (files_from [] items) ≡ 0 → stands subject.Append (latest subject.File [] items) ≡ false
  first : IfSome (slice_get (files_from [] items) 0) (λ (f : FileWords). f.appended ≡ false)

kept-none : (given : Type 0) → Kept given []
kept-none given = record { values = All-nil (IsReadItem given); few = omega arith; alone = λ _. refl; first = tt }

first-appended : (fs : List FileWords) (f : FileWords) → IfSome (slice_get fs 0) (λ (g : FileWords). g.appended ≡ false) → (length fs ≡ 0 → f.appended ≡ false) → IfSome (slice_get (fs ++ f ∷ []) 0) (λ (g : FileWords). g.appended ≡ false)
first-appended [] f kept alone = alone refl
first-appended (g ∷ gs) f kept alone = kept

file-appended : (group : List Item) (name : Value) → (file group name).appended ≡ stands subject.Append group
unfolding file
file-appended group name = refl

module _ (given : Type 0) (before : List Item) (item : Item) (kept : Kept given before) (joins : Joins given before item) where
  few-more : (b : Bool) → is_file item ≡ b → files_in before + cond b 1 0 ≤ 64
  few-more true is = let under = joins.few is in omega arith
  few-more false is = let few = kept.few in omega arith

  more_files : (b : Bool) → is_file item ≡ b → files_from [] (before ++ item ∷ []) ≡ files_from [] before ++ cond b (file (latest subject.File [] before) item.value ∷ []) []
  more_files b is = files-more [] before item ∙ ap (λ t. files_from [] before ++ cond t (file (latest subject.File [] before) item.value ∷ []) []) is

  first-more : (b : Bool) → is_file item ≡ b → IfSome (slice_get (files_from [] (before ++ item ∷ [])) 0) (λ (f : FileWords). f.appended ≡ false)
  first-more true is =
      rw (more_files true is) (first-appended (files_from [] before) (file (latest subject.File [] before) item.value) kept.first (λ empty. file-appended (latest subject.File [] before) item.value ∙ kept.alone empty))
  first-more false is = rw (more_files false is) (rw (append-nil (files_from [] before)) kept.first)

  append_not : (b : Bool) → same item.subject subject.Append ≡ b → length (files_from [] before) ≡ 0 → b ≡ false
  append_not false is empty = refl
  append_not true is empty =
      let some = joins.behind is in
      let zero_files : files_in before ≡ 0 = sym (length-files [] before) ∙ empty in
      absurd (grind (arith, nat_tests))

  alone-more : (b : Bool) → is_file item ≡ b → length (files_from [] (before ++ item ∷ [])) ≡ 0 → stands subject.Append (latest subject.File [] (before ++ item ∷ [])) ≡ false
  alone-more true is empty = absurd (omega (arith, ap length (more_files true is), length-append (files_from [] before) (file (latest subject.File [] before) item.value ∷ [])))
  alone-more false is empty =
      let none_before : length (files_from [] before) ≡ 0 = sym (ap length (more_files false is ∙ append-nil (files_from [] before))) ∙ empty in
      let behind_it : latest subject.File [] (before ++ item ∷ []) ≡ latest subject.File [] before ++ item ∷ [] = latest_other subject.File [] before item is in
      ap (stands subject.Append) behind_it ∙ list_any-append (λ (i : Item). same i.subject subject.Append) (latest subject.File [] before) (item ∷ [])
      ∙ or_from _ _ (kept.alone none_before) (or_from _ _ (append_not (same item.subject subject.Append) refl none_before) refl)

  kept-more : Kept given (before ++ item ∷ [])
  kept-more = record {
    values = All-push (IsReadItem given) before item kept.values joins.value;
    few = let more = few-more (is_file item) refl in omega (arith, files_in-more before item);
    alone = alone-more (is_file item) refl;
    first = first-more (is_file item) refl;
  }

abbrev Begins : Type 0 → Start → Type 0
Begins given s = IsStart (λ word. given → IsUtf8 word) s

read_all-kept : (given : Type 0) (count : ℕ) (before : List Item) (ss : List Start) (items : List Item) → Kept given before → All (Begins given) ss → read_all count before ss ≡ Ok items → Kept given items
read_all-kept given count before [] items kept begin is = ok-made (Kept given) before items is kept
read_all-kept given count before (s ∷ ss) items kept begin is =
    ok-then (Kept given items) (item_at before s count) _ items is (λ item here more.
    read_all-kept given count (before ++ item ∷ []) ss items
    (kept-more given before item kept (item-joins given before s count item (All-head (Begins given) s ss begin) here)) (All-tail (Begins given) s ss begin) more)

-- ---- options of the whole output

default-scale : IsWithin 1000 10000000 1000000
default-scale = record { least = omega arith; most = omega arith }

scale-within : (given : Type 0) (o : Option Value) → IfSome o (IsRead given) → IsWithin 1000 10000000 (unwrap_or (option_and_then scale_of o) 1000000)
scale-within given None own = default-scale
scale-within given (Some (Scale n)) own = own.0
scale-within given (Some _) own = default-scale

default-blocks : IsWithin 1 65535 65535
default-blocks = record { least = omega arith; most = omega arith }

blocks-within : (given : Type 0) (o : Option Value) → IfSome o (IsRead given) → IsWithin 1 65535 (unwrap_or (option_and_then blocks_of o) 65535)
blocks-within given None own = default-blocks
blocks-within given (Some (Blocks n)) own = own.0
blocks-within given (Some _) own = default-blocks

default-span : IsWithin 100000000 32000000000 5000000000
default-span = record { least = omega arith; most = omega arith }

span-within : (given : Type 0) (o : Option Value) → IfSome o (IsRead given) → IsWithin 100000000 32000000000 (unwrap_or (option_and_then span_of o) 5000000000)
span-within given None own = default-span
span-within given (Some (Span n)) own = own.0
span-within given (Some _) own = default-span

split-kept : (given : Type 0) (o : Option Value) → IfSome o (IsRead given) → IfSome (option_and_then split_of o) IsSoundSplit
split-kept given None own = tt
split-kept given (Some (Split w)) own = own.0
split-kept given (Some _) own = tt

no-uuids : AreUuids []
no-uuids = record { few = omega arith; differ = refl }

uuids-kept : (given : Type 0) (o : Option Value) → IfSome o (IsRead given) → AreUuids (unwrap_or (option_and_then uuids_of o) [])
uuids-kept given None own = no-uuids
uuids-kept given (Some (Uuids us)) own = own.0
uuids-kept given (Some _) own = no-uuids

title-kept : (given : Type 0) (P : List ℕ → Type 0) (o : Option Value) → ((t : List ℕ) → (text t ≡ Some t) × (given → IsUtf8 t) → P t) → IfSome o (IsRead given) → IfSome (option_and_then text_of o) P
title-kept given P None keeps own = tt
title-kept given P (Some (Text t)) keeps own = keeps t own.1
title-kept given P (Some _) keeps own = tt

-- The request keeps its limits, and its texts are UTF-8 if `given` holds.
record IsReadMerge (given : Type 0) (words : MergeWords) : Type 0 where
  sound : IsSoundMerge words
  title : IfSome words.title (λ t. text t ≡ Some t)
  texts : given → AreTexts words

merge_words-read : (given : Type 0) (items : List Item) → Kept given items → (files_in items == 0) ≡ false → IsReadMerge given (merge_words items)
unfolding merge_words
merge_words-read given items kept some =
    let all = parted_files items in
    let many : length (files items) ≡ files_in items = ap length all ∙ length-files [] items in
    let few = kept.few in
    let each : All (IsReadFile given) (files items) = rw all (files-read given [] items (All-nil (IsReadItem given)) kept.values) in
    let title = value-found given subject.Title items kept.values in
    record {
      sound = record {
        scale = scale-within given (value_in subject.Scale items) (value-found given subject.Scale items kept.values);
        blocks = blocks-within given (value_in subject.ClusterLength items) (value-found given subject.ClusterLength items kept.values);
        span = span-within given (value_in subject.ClusterLength items) (value-found given subject.ClusterLength items kept.values);
        split = split-kept given (value_in subject.Split items) (value-found given subject.Split items kept.values);
        uuids = uuids-kept given (value_in subject.Uuids items) (value-found given subject.Uuids items kept.values);
        files = record { least = grind (arith, nat_tests); most = omega arith };
        first = rw all kept.first;
        each = All-weaker (IsReadFile given) IsSoundFile (λ f own. own.0) (files items) each;
      };
      title = title-kept given (λ t. text t ≡ Some t) (value_in subject.Title items) (λ t own. own.0) title;
      texts = λ words. record {
        title = title-kept given IsUtf8 (value_in subject.Title items) (λ t own. own.1 words) title;
        files = All-weaker (IsReadFile given) HasTexts (λ f own. own.1 words) (files items) each;
      };
    }

wrong_if-ok : (b : Bool) (word : ℕ) (why : Why) (t : Unit {0}) → wrong_if b word why ≡ Ok t → b ≡ false
wrong_if-ok true word why t is = absurd (cc)
wrong_if-ok false word why t is = refl

complete-files : (count : ℕ) (items : List Item) (t : Unit {0}) → complete count items ≡ Ok t → (files_in items == 0) ≡ false
unfolding complete
complete-files count items t is =
    ok-then ((files_in items == 0) ≡ false) (wrong_if (stands subject.Append (since_file items)) count MissingValue) _ t is (λ a here more.
    ok-then ((files_in items == 0) ≡ false) (wrong_at (dangling items) DanglingOption) _ t more (λ b there others.
    ok-then ((files_in items == 0) ≡ false) (wrong_if (not (stands subject.Output items)) count NoOutput) _ t others (λ c output rest.
    ok-then ((files_in items == 0) ≡ false) (wrong_if (files_in items == 0) count NoInput) _ t rest (λ d input last.
    wrong_if-ok (files_in items == 0) count NoInput d input))))

merged-read : (words : List (List ℕ)) (w : MergeWords) → merged words ≡ Ok w → IsReadMerge (All IsUtf8 words) w
unfolding merged items
merged-read words w is =
    let given = All IsUtf8 words in
    ok-then (IsReadMerge given w) (items words) _ w is (λ said here more.
    ok-then (IsReadMerge given w) (complete (length words) said) _ w more (λ t whole last.
    let begin : All (Begins given) (starts 1 (drop 1 words)) = starts-keep (λ word. given → IsUtf8 word) 1 (drop 1 words) (All-drop (λ word. given → IsUtf8 word) 1 words (λ k d within all. all k d within)) in
    ok-then (IsReadMerge given w) (wrong_at (misplaced (merge_words said) said) NoSuchFile) _ w last (λ u placed end.
    ok-made (IsReadMerge given) (merge_words said) w end
    (merge_words-read given said (read_all-kept given (length words) [] (starts 1 (drop 1 words)) said (kept-none given) begin here) (complete-files (length words) said t whole)))))

-- A request that is read keeps its limits.
pub merged-sound : (words : List (List ℕ)) (w : MergeWords) → merged words ≡ Ok w → IsSoundMerge w
merged-sound words w is = (merged-read words w is).sound

-- Its title has no zero byte.
pub merged-title : (words : List (List ℕ)) (w : MergeWords) → merged words ≡ Ok w → IfSome w.title (λ title. text title ≡ Some title)
merged-title words w is = (merged-read words w is).title

-- Its texts are UTF-8 if the arguments are.
pub merged-texts : (words : List (List ℕ)) (w : MergeWords) → All IsUtf8 words → merged words ≡ Ok w → AreTexts w
merged-texts words w utf8 is = (merged-read words w is).texts utf8
