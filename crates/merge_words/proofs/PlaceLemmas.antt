-- Each item begins at an argument of the command line.
use Rattle.std.proofs.Common.{◌≡◌, ◌<◌, ◌≤◌, ℕ, ◌+◌, Bool, true, false, nat_le, if◌then◌else◌, List, [], ◌∷◌, ◌++◌, length, Option, Some, None, Ok, All, refl, sym, subst, arith}
use Rattle.std.specs.Prelude.{◌==◌, codes}
use Rattle.std.specs.Str.{bytes_eq}
use Rattle.std.proofs.lemmas.List.Elements.{All-nil, All-cons, All-head, All-tail, All-push}
use Rattle.word_values.specs.Place.{is_option}
use Rattle.word_values.proofs.AnswerLemmas.{ok-then, ok-else, ok-made}
use Rattle.merge_words.specs.declared.options.Subject.TheVariants as subject
use Rattle.merge_words.specs.declared.options.Meaning.{Meaning}
use Rattle.merge_words.specs.declared.item.Item.{Item}
use Rattle.merge_words.specs.Options.{same, meaning_of}
use Rattle.merge_words.specs.Items.{Start, files_in, since_file, stands, track_in, overfull, repeats, repeats_for, said, option_at, append_at, file_at, known, item_at}
use Rattle.merge_words.specs.Merge.{start, starts, read_all, takes_next, items, AreWithin}

-- The item begins at the argument with this number.
abbrev BeginsAt : ℕ → Item → Type 0
BeginsAt at item = item.at ≡ at

module _ (before : List Item) (at : ℕ) (item : Item) where
  append-begins : append_at before at ≡ Ok item → BeginsAt at item
  unfolding append_at
  append-begins is =
      let some = ok-else (files_in before == 0) _ _ item is in
      let once = ok-else (stands subject.Append (since_file before)) _ _ item some.1 in
      ok-made (BeginsAt at) _ item once.1 refl

  file-begins : (word : List ℕ) → file_at before at word ≡ Ok item → BeginsAt at item
  unfolding file_at
  file-begins word is =
      let room = ok-else (nat_le 64 (files_in before)) _ _ item is in
      ok-made (BeginsAt at) _ item room.1 refl

  option-begins : (means : Meaning) (next : Option (List ℕ)) (count : ℕ) → option_at before at means next count ≡ Ok item → BeginsAt at item
  unfolding option_at
  option-begins means next count is =
      let other = ok-else (same means.subject subject.Identify) _ _ item is in
      let once = ok-else (repeats means before) _ _ item other.1 in
      ok-then (BeginsAt at item) (said at means.form next count) _ item once.1 (λ v here more.
      let room = ok-else (overfull means.subject before) _ _ item more in
      let last = ok-else (repeats_for means.subject (track_in v) before) _ _ item room.1 in
      ok-made (BeginsAt at) _ item last.1 refl)

  known-begins : (means : Option Meaning) (next : Option (List ℕ)) (count : ℕ) → known before at means next count ≡ Ok item → BeginsAt at item
  known-begins None next count is = absurd (cc)
  known-begins (Some means) next count is = option-begins means next count is

item-begins : (before : List Item) (s : Start) (count : ℕ) (item : Item) → item_at before s count ≡ Ok item → BeginsAt s.at item
unfolding item_at
item-begins before s count item is = split (bytes_eq s.word (codes "+")) (is_option s.word) is
  where
    split : (a b : Bool) → (if a then append_at before s.at else if b then known before s.at s.means s.next count else file_at before s.at s.word) ≡ Ok item → BeginsAt s.at item
    split true b found = append-begins before s.at item found
    split false true found = known-begins before s.at item s.means s.next count found
    split false false found = file-begins before s.at item s.word found

-- The item begins below a number.
abbrev IsBelow : ℕ → Item → Type 0
IsBelow count item = item.at < count

abbrev StartsBelow : ℕ → Start → Type 0
StartsBelow count s = s.at < count

starts-within : (count at : ℕ) (words : List (List ℕ)) → at + length words ≤ count → All (StartsBelow count) (starts at words)
starts-within count at [] room = All-nil (StartsBelow count)
starts-within count at (w ∷ []) room = All-cons (StartsBelow count) (start at w None) [] (omega arith) (All-nil (StartsBelow count))
starts-within count at (w ∷ v ∷ ws) room =
    All-cons (StartsBelow count) (start at w (Some v)) (if takes_next (meaning_of w) then starts (at + 2) ws else starts (at + 1) (v ∷ ws)) (omega arith)
    (choose (takes_next (meaning_of w)) (starts-within count (at + 2) ws (omega arith)) (starts-within count (at + 1) (v ∷ ws) (omega arith)))
  where
    choose : (b : Bool) → All (StartsBelow count) (starts (at + 2) ws) → All (StartsBelow count) (starts (at + 1) (v ∷ ws))
        → All (StartsBelow count) (if b then starts (at + 2) ws else starts (at + 1) (v ∷ ws))
    choose true far near = far
    choose false far near = near

read_all-within : (below count : ℕ) (before : List Item) (ss : List Start) (said : List Item) → All (IsBelow below) before → All (StartsBelow below) ss → read_all count before ss ≡ Ok said
    → All (IsBelow below) said
read_all-within below count before [] said all begin is = ok-made (All (IsBelow below)) before said is all
read_all-within below count before (s ∷ ss) said all begin is =
    ok-then (All (IsBelow below) said) (item_at before s count) _ said is (λ item here more.
    let P : ℕ → Type 0 = λ n. n < below in
    let low = subst P (sym (item-begins before s count item here)) (All-head (StartsBelow below) s ss begin) in
    read_all-within below count (before ++ item ∷ []) ss said (All-push (IsBelow below) before item all low) (All-tail (StartsBelow below) s ss begin) more)

-- All items begin at arguments of the command line.
pub items_within : (words : List (List ℕ)) (said : List Item) → items words ≡ Ok said → AreWithin (length words) said
unfolding items
items_within [] said is = ok-made (All (IsBelow 0)) [] said is (All-nil (IsBelow 0))
items_within (w ∷ ws) said is =
    read_all-within (length (w ∷ ws)) (length (w ∷ ws)) [] (starts 1 ws) said (All-nil (IsBelow (length (w ∷ ws)))) (starts-within (length (w ∷ ws)) 1 ws (omega arith)) is
