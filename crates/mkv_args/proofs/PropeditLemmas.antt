-- Sections and edits, read one option and its value at a time.
use Rattle.std.proofs.Common.{◌≡◌, ℕ, ◌+◌, Bool, true, false, List, [], ◌∷◌, ◌++◌, drop, Option, Result, Ok, Err, refl, sym, ap, ◌∙◌, arith, append_assoc}
use Rattle.std.proofs.lemmas.List.{drop-drop}
use Rattle.std.specs.Prelude.{slice_get}
use Rattle.requests.specs.declared.edit.Edit.{Edit}
use Rattle.requests.specs.declared.edit.Change.{Change}
use Rattle.requests.specs.declared.edit.Selector.{Selector}
use Rattle.word_values.specs.declared.usage.Usage.{Usage}
use Rattle.mkv_args.specs.declared.propedit.EditOption.{EditOption}
use Rattle.mkv_args.specs.declared.propedit.EditOption.TheVariants as says
use Rattle.word_values.specs.declared.usage.ArgsEnd.{ArgsEnd}
use Rattle.word_values.specs.declared.usage.ArgsEnd.TheVariants as args_end
use Rattle.word_values.specs.Answers.{Tells, ◌>>=◌}
use Rattle.mkv_args.specs.Propedit.{Pair, pairs, said, all_said, edits_in}
use Rattle.word_values.proofs.PlaceLemmas.{next_is}

-- option `w` at argument `at`, with its value
abbrev pair : ℕ → List ℕ → Option (List ℕ) → Pair
pair at w value = record { at = at; option = w; value = value }

-- the edits `list`, and those in the arguments from number `at` on
abbrev pub edits_from : ℕ → List Edit → Selector → Bool → ℕ → List (List ℕ) → Result (List Edit) Usage
edits_from count list place edited at ws = all_said count edited (pairs at (drop at ws)) >>= (λ all. Ok (list ++ edits_in place all))

pairs_more : (at : ℕ) (w : List ℕ) (rest : List (List ℕ)) → pairs at (w ∷ rest) ≡ pair at w (slice_get rest 0) ∷ pairs (at + 2) (drop 1 rest)
pairs_more at w [] = refl
pairs_more at w (v ∷ vs) = refl

two_on : (at : ℕ) (ws : List (List ℕ)) → drop 1 (drop (at + 1) ws) ≡ drop (at + 2) ws
two_on at ws = drop-drop 1 (at + 1) ws ∙ (let e : at + 1 + 1 ≡ at + 2 = omega arith in ap (λ k. drop k ws) e)

-- The pairs from argument `at` on begin with that argument and the next one.
pairs_at : (at : ℕ) (w : List ℕ) (ws : List (List ℕ)) → drop at ws ≡ w ∷ drop (at + 1) ws → pairs at (drop at ws) ≡ pair at w (slice_get ws (at + 1)) ∷ pairs (at + 2) (drop (at + 2) ws)
pairs_at at w ws here = rw (here, pairs_more at w (drop (at + 1) ws), two_on at ws, next_is ws at) refl

section_first : (list : List Edit) (place next : Selector) (r : Result (List EditOption) Usage) →
    ((r >>= (λ more. Ok (says.Section next ∷ more))) >>= (λ all. Ok (list ++ edits_in place all))) ≡ (r >>= (λ all. Ok (list ++ edits_in next all)))
section_first list place next (Ok more) = refl
section_first list place next (Err e) = refl

change_first : (list : List Edit) (place : Selector) (change : Change) (name value : List ℕ) (r : Result (List EditOption) Usage) →
    ((r >>= (λ more. Ok (says.Change change name value ∷ more))) >>= (λ all. Ok (list ++ edits_in place all)))
    ≡ (r >>= (λ all. Ok ((list ++ record { place = place; change = change; name = name; value = value } ∷ []) ++ edits_in place all)))
change_first list place change name value (Ok more) = ap Ok (sym (append_assoc list (record { place = place; change = change; name = name; value = value } ∷ []) (edits_in place more)))
change_first list place change name value (Err e) = refl

module _ (count : ℕ) (list : List Edit) (place : Selector) (edited : Bool) (at : ℕ) (w : List ℕ) (ws : List (List ℕ)) (here : drop at ws ≡ w ∷ drop (at + 1) ws) where
  -- An allowed section becomes the current one.
  pub section_next : (next : Selector) → said count edited (pair at w (slice_get ws (at + 1))) ≡ Ok (says.Section next) → edits_from count list place edited at ws ≡ edits_from count list next false (at + 2) ws
  section_next next is = rw (pairs_at at w ws here, is) (section_first list place next (all_said count false (pairs (at + 2) (drop (at + 2) ws))))

  -- An allowed edit joins the list.
  pub change_next : (change : Change) (name value : List ℕ) → said count edited (pair at w (slice_get ws (at + 1))) ≡ Ok (says.Change change name value)
      → edits_from count list place edited at ws ≡ edits_from count (list ++ record { place = place; change = change; name = name; value = value } ∷ []) place true (at + 2) ws
  change_next change name value is = rw (pairs_at at w ws here, is) (change_first list place change name value (all_said count true (pairs (at + 2) (drop (at + 2) ws))))

  -- The first error is the result.
  pub edits_fail : (end : ArgsEnd) → Tells {X = EditOption} (Err end) (said count edited (pair at w (slice_get ws (at + 1)))) → Tells {X = List Edit} (Err end) (edits_from count list place edited at ws)
  edits_fail (args_end.Usage usage) is = rw (pairs_at at w ws here, is) refl
  edits_fail args_end.Memory is = tt
