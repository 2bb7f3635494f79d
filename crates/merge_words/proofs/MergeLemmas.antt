-- The items of a merge, read one at a time.
use Rattle.std.proofs.Common.{◌≡◌, ℕ, ◌+◌, Bool, true, false, if◌then◌else◌, List, [], ◌∷◌, ◌++◌, drop, Option, Some, None, IfSome, Ok, Err, All, refl, sym}
use Rattle.std.proofs.lemmas.List.{drop-drop}
use Rattle.std.proofs.lemmas.List.Elements.{All-nil, All-cons, All-head, All-tail}
use Rattle.std.specs.Prelude.{slice_get}
use Rattle.word_values.specs.declared.usage.Usage.{Usage}
use Rattle.word_values.specs.declared.usage.ArgsEnd.{ArgsEnd}
use Rattle.word_values.specs.declared.usage.ArgsEnd.TheVariants as args_end
use Rattle.merge_words.specs.declared.item.Item.{Item}
use Rattle.merge_words.specs.declared.options.Meaning.{Meaning}
use Rattle.word_values.specs.Answers.{Tells}
use Rattle.merge_words.specs.Options.{meaning_of}
use Rattle.merge_words.specs.Items.{Start, item_at}
use Rattle.merge_words.specs.Merge.{start, starts, read_all, takes_next}
use Rattle.word_values.proofs.PlaceLemmas.{next_is}

-- the number of arguments of an item
abbrev pub width : Option Meaning → ℕ
width means = if takes_next means then 2 else 1

starts_by : (b : Bool) (at : ℕ) (w : List ℕ) (rest : List (List ℕ)) → takes_next (meaning_of w) ≡ b → starts at (w ∷ rest) ≡ start at w (slice_get rest 0) ∷ starts (at + (if b then 2 else 1)) (drop (if b then 2 else 1) (w ∷ rest))
starts_by true at w [] is = refl
starts_by false at w [] is = refl
starts_by true at w (v ∷ vs) is = rw is refl
starts_by false at w (v ∷ vs) is = rw is refl

-- An item takes its argument, and the next one if that is its value.
starts_more : (at : ℕ) (w : List ℕ) (rest : List (List ℕ)) → starts at (w ∷ rest) ≡ start at w (slice_get rest 0) ∷ starts (at + width (meaning_of w)) (drop (width (meaning_of w)) (w ∷ rest))
starts_more at w rest = starts_by (takes_next (meaning_of w)) at w rest refl

on : (at k : ℕ) (w : List ℕ) (ws : List (List ℕ)) → drop at ws ≡ w ∷ drop (at + 1) ws → drop k (w ∷ drop (at + 1) ws) ≡ drop (at + k) ws
on at k w ws here = rw (← here) (drop-drop k at ws)

next_back : (at : ℕ) (ws : List (List ℕ)) → slice_get (drop (at + 1) ws) 0 ≡ slice_get ws (at + 1)
next_back at ws = sym (next_is ws at)

-- The item is accepted.
pub items_next : (count : ℕ) (before : List Item) (item : Item) (at : ℕ) (w : List ℕ) (ws : List (List ℕ)) →
    drop at ws ≡ w ∷ drop (at + 1) ws → item_at before (start at w (slice_get ws (at + 1))) count ≡ Ok item →
    read_all count before (starts at (drop at ws)) ≡ read_all count (before ++ item ∷ []) (starts (at + width (meaning_of w)) (drop (at + width (meaning_of w)) ws))
items_next count before item at w ws here is =
    rw (here, starts_more at w (drop (at + 1) ws), next_back at ws, is, on at (width (meaning_of w)) w ws here) refl

items_stop : (count : ℕ) (before : List Item) (at : ℕ) (w : List ℕ) (ws : List (List ℕ)) (usage : Usage) →
    drop at ws ≡ w ∷ drop (at + 1) ws → item_at before (start at w (slice_get ws (at + 1))) count ≡ Err usage →
    read_all count before (starts at (drop at ws)) ≡ Err usage
items_stop count before at w ws usage here is = rw (here, starts_more at w (drop (at + 1) ws), next_back at ws, is) refl

-- The item is refused.
pub items_fail : (end : ArgsEnd) (count : ℕ) (before : List Item) (at : ℕ) (w : List ℕ) (ws : List (List ℕ)) →
    drop at ws ≡ w ∷ drop (at + 1) ws → Tells {X = Item} (Err end) (item_at before (start at w (slice_get ws (at + 1))) count) →
    Tells {X = List Item} (Err end) (read_all count before (starts at (drop at ws)))
items_fail (args_end.Usage usage) count before at w ws here is = items_stop count before at w ws usage here is
items_fail args_end.Memory count before at w ws here is = tt

-- `s` has the meaning of its argument, and its arguments satisfy `Keeps`.
pub record IsStart (Keeps : List ℕ → Type 0) (s : Start) : Type 0 where
  pub meant : meaning_of s.word ≡ s.means
  pub word : Keeps s.word
  pub next : IfSome s.next Keeps

pub starts-keep : (Keeps : List ℕ → Type 0) (at : ℕ) (words : List (List ℕ)) → All Keeps words → All (IsStart Keeps) (starts at words)
starts-keep Keeps at [] all = All-nil (IsStart Keeps)
starts-keep Keeps at (w ∷ []) all =
    All-cons (IsStart Keeps) (start at w None) [] (record { meant = refl; word = All-head Keeps w [] all; next = tt }) (All-nil (IsStart Keeps))
starts-keep Keeps at (w ∷ v ∷ ws) all =
    let others : All Keeps (v ∷ ws) = All-tail Keeps w (v ∷ ws) all in
    All-cons (IsStart Keeps) (start at w (Some v)) (if takes_next (meaning_of w) then starts (at + 2) ws else starts (at + 1) (v ∷ ws))
    (record { meant = refl; word = All-head Keeps w (v ∷ ws) all; next = All-head Keeps v ws others })
    (choose (takes_next (meaning_of w)) (starts-keep Keeps (at + 2) ws (All-tail Keeps v ws others)) (starts-keep Keeps (at + 1) (v ∷ ws) others))
  where
    choose : (b : Bool) → All (IsStart Keeps) (starts (at + 2) ws) → All (IsStart Keeps) (starts (at + 1) (v ∷ ws))
        → All (IsStart Keeps) (if b then starts (at + 2) ws else starts (at + 1) (v ∷ ws))
    choose true far near = far
    choose false far near = near
