-- The command line of `propedit` is read back.
use Rattle.std.proofs.Common.{◌≡◌, ◌≤◌, inl, inr, ℕ, ◌+◌, Bool, true, false, List, [], ◌∷◌, length, codes, Some, Ok, refl, sym, ap, ◌∙◌, subst, arith, All, slice_index, ◌==◌, le-leb, flat_map}
use Rattle.std.proofs.lemmas.Bool.Decides.{nat_tests}
use Rattle.std.proofs.lemmas.Fmt.{decimal_nonempty}
use Rattle.std.proofs.lemmas.List.{append-nil}
use Rattle.std.proofs.lemmas.List.Elements.{All-head, All-tail}
use Rattle.std.specs.Char.{is_ascii_digit}
use Rattle.std.specs.Fmt.{decimal}
use Rattle.requests.specs.declared.edit.Edit.{Edit}
use Rattle.requests.specs.declared.edit.Change.{Change}
use Rattle.requests.specs.declared.edit.Change.TheVariants as change
use Rattle.requests.specs.declared.edit.Selector.{Selector}
use Rattle.requests.specs.declared.edit.Selector.TheVariants as spot
use Rattle.mkv_args.specs.declared.command.Command.TheVariants as commands
use Rattle.mkv_args.specs.declared.commands.Verb.TheVariants as verb
use Rattle.mkv_args.specs.declared.propedit.EditOptionKind.TheVariants as step
use Rattle.mkv_args.specs.declared.propedit.EditOption.{EditOption}
use Rattle.mkv_args.specs.declared.propedit.EditOption.TheVariants as says
use Rattle.mkv_args.specs.Propedit.{place, typed, begins, track, selector, steps, step_of, pairs, meaning, all_said, edits_in, first_section, edits, propedit}
use Rattle.mkv_args.specs.Sound.{IsSoundPlace, AreEdits}
use Rattle.mkv_args.specs.Words.{command, command_named}
use Rattle.word_laws.specs.Values.{HasFewDigits}
use Rattle.word_laws.specs.Spelled.{section_word, change_word, property_word, edit_words}
use Rattle.word_laws.specs.Names.{IsFileName}
use Rattle.word_laws.specs.Spellable.{IsNamedType, IsSection, IsProperty, IsSpellableEdit}
use Rattle.mkv_io.proofs.OctetsLemmas.{decimal_all, first_other, cut_behind}
use Rattle.word_laws.proofs.NumberLemmas.{short_fits, number_read}
use Rattle.word_laws.proofs.SimpleLemmas.{by_verb, more_help_none}

-- ---- sections
place_read : (n : ℕ) → 1 ≤ n → HasFewDigits n → place (decimal n) ≡ Some n
unfolding place
place_read n some short = rw (number_read n short) (rw (le-leb 1 n some) refl)

not_begun : (o : ℕ) (word : List ℕ) → (slice_index word 0 == o) ≡ false → begins (o ∷ []) word ≡ false
not_begun o [] other = refl
not_begun o (x ∷ xs) other = let apart : (o == x) ≡ false = grind (arith, nat_tests) in rw apart refl

-- The first byte of a number is a digit.
digit_first : (o n : ℕ) → is_ascii_digit o ≡ false → HasFewDigits n → begins (o ∷ []) (decimal n) ≡ false
digit_first o n other short =
    let fits = short_fits n short in
    let first = first_other o (decimal n) [] other (decimal_nonempty n fits) (decimal_all n fits) in
    not_begun o (decimal n) (rw append-nil at first)

nth_read : (n : ℕ) → 1 ≤ n → HasFewDigits n → track (decimal n) ≡ Some (spot.Nth n)
unfolding track
nth_read n some short =
    rw (digit_first 118 n refl short) (rw (digit_first 97 n refl short) (rw (digit_first 115 n refl short) (rw (digit_first 61 n refl short) (rw (digit_first 64 n refl short) (rw (place_read n some short) refl)))))

video_read : (n : ℕ) → 1 ≤ n → HasFewDigits n → selector (section_word (spot.Typed 1 n)) ≡ Some (spot.Typed 1 n)
unfolding selector track typed
video_read n some short = rw (place_read n some short) refl

audio_read : (n : ℕ) → 1 ≤ n → HasFewDigits n → selector (section_word (spot.Typed 2 n)) ≡ Some (spot.Typed 2 n)
unfolding selector track typed
audio_read n some short = rw (place_read n some short) refl

subtitle_read : (n : ℕ) → 1 ≤ n → HasFewDigits n → selector (section_word (spot.Typed 17 n)) ≡ Some (spot.Typed 17 n)
unfolding selector track typed
subtitle_read n some short = rw (place_read n some short) refl

typed_read : (kind n : ℕ) → IsNamedType kind → 1 ≤ n → HasFewDigits n → selector (section_word (spot.Typed kind n)) ≡ Some (spot.Typed kind n)
typed_read kind n (inl video) some short = subst (λ k. selector (section_word (spot.Typed k n)) ≡ Some (spot.Typed k n)) (sym video) (video_read n some short)
typed_read kind n (inr (inl audio)) some short = subst (λ k. selector (section_word (spot.Typed k n)) ≡ Some (spot.Typed k n)) (sym audio) (audio_read n some short)
typed_read kind n (inr (inr subtitle)) some short = subst (λ k. selector (section_word (spot.Typed k n)) ≡ Some (spot.Typed k n)) (sym subtitle) (subtitle_read n some short)

section_read : (p : Selector) → IsSoundPlace p → IsSection p → selector (section_word p) ≡ Some p
unfolding selector track
section_read spot.Info sound is = refl
section_read (spot.Nth n) sound is = nth_read n sound is
section_read (spot.Typed kind n) sound is = typed_read kind n is.0 sound is.1
section_read (spot.Uid uid) sound is = rw (number_read uid is) refl
section_read (spot.Number n) sound is = rw (number_read n is) refl

-- ---- edits
-- the edits that the arguments give
abbrev sayings : List Edit → List EditOption
sayings [] = []
sayings (e ∷ es) = says.Section e.place ∷ says.Change e.change e.name e.value ∷ sayings es

sayings_back : (place : Selector) (es : List Edit) → edits_in place (sayings es) ≡ es
sayings_back place [] = refl
sayings_back place (e ∷ es) = ap (λ l. e ∷ l) (sayings_back e.place es)

section_step : step_of (codes "--edit") ≡ Some step.Section
unfolding step_of steps
section_step = refl

change_step : (c : Change) → step_of (change_word c) ≡ Some (step.Edit c)
unfolding step_of steps
change_step change.Set = refl
change_step change.Add = refl
change_step change.Delete = refl

property_read : (c : Change) (name value : List ℕ) → IsProperty c name value → meaning (step.Edit c) (property_word c name value) ≡ Some (says.Change c name value)
property_read change.Set name value is = rw (cut_behind 61 name value is) refl
property_read change.Add name value is = rw (cut_behind 61 name value is) refl
property_read change.Delete name value is = rw is refl

-- An edit after a section or another edit.
change_read : (count : ℕ) (edited : Bool) (at : ℕ) (e : Edit) (words : List (List ℕ)) (more : List EditOption) → IsSpellableEdit e → all_said count true (pairs (at + 2) words) ≡ Ok more
    → all_said count edited (pairs at (change_word e.change ∷ property_word e.change e.name e.value ∷ words)) ≡ Ok (says.Change e.change e.name e.value ∷ more)
change_read count edited at e words more is rest = rw (change_step e.change, property_read e.change e.name e.value is.property, rest) refl

edits_from_read : (count at : ℕ) (es : List Edit) → All (λ (e : Edit). IsSoundPlace e.place) es → All IsSpellableEdit es → all_said count true (pairs at (flat_map edit_words es)) ≡ Ok (sayings es)
edits_from_read count at [] sound are = refl
edits_from_read count at (e ∷ es) sound are =
    let is = All-head IsSpellableEdit e es are in
    let rest = edits_from_read count (at + 2 + 2) es (All-tail (λ (x : Edit). IsSoundPlace x.place) e es sound) (All-tail IsSpellableEdit e es are) in
    rw (section_step, section_read e.place (All-head (λ (x : Edit). IsSoundPlace x.place) e es sound) is.place, change_read count false (at + 2) e (flat_map edit_words es) (sayings es) is rest) refl

edits_read : (file : List ℕ) (es : List Edit) → AreEdits es → All IsSpellableEdit es → edits (codes "propedit" ∷ file ∷ flat_map edit_words es) ≡ Ok es
unfolding edits first_section
edits_read file [] sound are = let some = sound.some in absurd (omega arith)
edits_read file (e ∷ es) sound are =
    let count = length (codes "propedit" ∷ file ∷ flat_map edit_words (e ∷ es)) in
    let each = sound.each in
    let is = All-head IsSpellableEdit e es are in
    let rest = edits_from_read count 6 es (All-tail (λ (x : Edit). IsSoundPlace x.place) e es each) (All-tail IsSpellableEdit e es are) in
    let all = change_read count false 4 e (flat_map edit_words es) (sayings es) is rest in
    rw (section_step, section_read e.place (All-head (λ (x : Edit). IsSoundPlace x.place) e es each) is.place, all) (ap (λ l. Ok (e ∷ l)) (sayings_back e.place es))

pub propedit_read : (file : List ℕ) (es : List Edit) → IsFileName file → AreEdits es → All IsSpellableEdit es → command (codes "propedit" ∷ file ∷ flat_map edit_words es) ≡ Ok (commands.Propedit file es)
unfolding command_named propedit
propedit_read file [] plain sound are = let some = sound.some in absurd (omega arith)
propedit_read file (e ∷ es) plain sound are =
    let rest : List (List ℕ) = section_word e.place ∷ change_word e.change ∷ property_word e.change e.name e.value ∷ flat_map edit_words es in
    by_verb verb.Propedit (file ∷ codes "--edit" ∷ rest) (more_help_none (codes "propedit") file (codes "--edit") rest) ∙ rw plain (rw (edits_read file (e ∷ es) sound are) refl)
