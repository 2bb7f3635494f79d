-- The names of outputs of `extract`, kept while its targets are read, so that none is used twice.
use Rattle.std.specs.Prelude.{◌≡◌, ℕ, Bool, true, false, List, [], ◌∷◌, ◌++◌, map, Result, IfOk}
use Rattle.std.specs.List.{list_any}
use Rattle.std.specs.Str.{bytes_eq}
use denote.Ref.{Bor}
use Rattle.requests.specs.declared.job.Target.{Target}
use Rattle.word_values.specs.declared.usage.Usage.{Usage}
use Rattle.word_values.specs.declared.usage.ArgsEnd.{ArgsEnd}
use Rattle.word_values.specs.Answers.{Tells}
use Rattle.mkv_args.specs.Sound.{names_of}

-- the borrowed texts `names`, names of outputs of `extract`, as plain values
abbrev pub bytes_of : List (Bor (List ℕ)) → List (List ℕ)
bytes_of names = map (λ (n : Bor (List ℕ)). n.now) names

-- `name` is one of the borrowed texts `names`, names of earlier outputs of `extract`.
abbrev pub is_one_of : List (Bor (List ℕ)) → List ℕ → Bool
is_one_of names name = list_any (λ (n : Bor (List ℕ)). bytes_eq name n.now) names

-- The borrowed texts `names` are the outputs of `targets` of `extract`, in their order.
abbrev pub AreNamesOf : List (Bor (List ℕ)) → List Target → Type 0
AreNamesOf names targets = bytes_of names ≡ names_of targets

-- One target of `extract` was read with the result `result`; the contract of `target`. `old` and `new` are the outputs before and after it, and
-- `meant` gives the expected result for each list of targets before it.
abbrev pub ReadsAfter : List (Bor (List ℕ)) → List (Bor (List ℕ)) → (List Target → Result Target Usage) → Result Target ArgsEnd → Type 0
ReadsAfter old new meant result =
    (before : List Target) → AreNamesOf old before → (Tells result (meant before)) × (IfOk result (λ t. AreNamesOf new (before ++ t ∷ [])))

-- If the result of `add`, the last argument, is true, the name `name` was added to the names `old`, which are `new` then. Otherwise it is one of
-- `old`.
abbrev pub AddsName : List (Bor (List ℕ)) → List (Bor (List ℕ)) → List ℕ → Bool → Type 0
AddsName old new name true = (is_one_of old name ≡ false) × (bytes_of new ≡ bytes_of old ++ name ∷ [])
AddsName old new name false = is_one_of old name ≡ true
