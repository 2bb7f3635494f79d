-- The names of the targets of `extract`.
use Rattle.std.proofs.Common.{◌≡◌, ◌≤◌, ℕ, Bool, true, false, ◌||◌, not, if◌then◌else◌, List, [], ◌∷◌, ◌++◌, Some, Ok, refl, sym, ◌∙◌, ap, arith, Bor}
use Rattle.std.specs.Str.{bytes_eq}
use Rattle.std.proofs.lemmas.Bool.Decides.{nat_tests}
use Rattle.std.proofs.lemmas.List.{map-append}
use Rattle.std.proofs.lemmas.Slice.Eq.{bytes_eq-Decides}
use Rattle.indexmap.specs.IndexSet.{insert_key}
use Rattle.requests.specs.declared.job.Target.{Target}
use Rattle.word_values.specs.declared.usage.Why.TheVariants.{RepeatedOutput}
use Rattle.word_values.specs.Answers.{wrong}
use Rattle.mkv_args.specs.Extract.{is_taken, target_of}
use Rattle.mkv_args.specs.Sound.{names_of}
use Rattle.mkv_args.specs.TargetNames.{bytes_of, is_one_of, AreNamesOf, AddsName}

-- The comparison of two texts is the same both ways.
same-both : (a b : List ℕ) → bytes_eq a b ≡ bytes_eq b a
same-both a b = by (bytes_eq a b) (bytes_eq b a) refl refl
  where
    by : (x y : Bool) → bytes_eq a b ≡ x → bytes_eq b a ≡ y → x ≡ y
    by true true there back = refl
    by false false there back = refl
    by true false there back = let other : bytes_eq b a ≡ true = (bytes_eq-Decides b a).1 (sym ((bytes_eq-Decides a b).0 there)) in cc
    by false true there back = let other : bytes_eq a b ≡ true = (bytes_eq-Decides a b).1 (sym ((bytes_eq-Decides b a).0 back)) in cc

-- A target has a name exactly if the name is one of theirs.
taken-is : (names : List (Bor (List ℕ))) (before : List Target) (name : List ℕ) → AreNamesOf names before → is_taken name before ≡ is_one_of names name
taken-is [] [] name are = refl
taken-is [] (t ∷ ts) name are = absurd (cc)
taken-is (n ∷ ns) [] name are = absurd (cc)
taken-is (n ∷ ns) (t ∷ ts) name are =
    let head : t.name ≡ n.now = cc in
    let rest : bytes_of ns ≡ names_of ts = cc in
    ap (λ (each : List ℕ). bytes_eq each name || is_taken name ts) head
    ∙ ap (λ (here : Bool). here || is_taken name ts) (same-both n.now name)
    ∙ ap (λ (later : Bool). bytes_eq name n.now || later) (taken-is ns ts name rest)

-- A target is refused if its name is one of those before.
pub target-taken : (least at id : ℕ) (names : List (Bor (List ℕ))) (before : List Target) (name : List ℕ) → AreNamesOf names before → least ≤ id → is_one_of names name ≡ true
    → target_of least before at (Some (id, name)) ≡ wrong at RepeatedOutput
target-taken least at id names before name are from is = step (taken-is names before name are ∙ is)
  where
    step : is_taken name before ≡ true → target_of least before at (Some (id, name)) ≡ wrong at RepeatedOutput
    step taken = grind (arith, nat_tests)

-- A target is read if its name isn't one of those before, and their names are then the names before and its own.
pub target-free : (least at id : ℕ) (names new : List (Bor (List ℕ))) (before : List Target) (name : List ℕ) → AreNamesOf names before → least ≤ id → is_one_of names name ≡ false → bytes_of new ≡ bytes_of names ++ name ∷ []
    → (target_of least before at (Some (id, name)) ≡ Ok (record { id = id; name = name })) × (AreNamesOf new (before ++ record { id = id; name = name } ∷ []))
target-free least at id names new before name are from is adds = (step (taken-is names before name are ∙ is), adds ∙ ap (λ (all : List (List ℕ)). all ++ name ∷ []) are ∙ sym (map-append (λ (t : Target). t.name) before (record { id = id; name = name } ∷ [])))
  where
    step : is_taken name before ≡ false → target_of least before at (Some (id, name)) ≡ Ok (record { id = id; name = name })
    step free = grind (arith, nat_tests)

-- A name is added to a set of names.
pub name-added : (old new : List (Bor (List ℕ))) (name : Bor (List ℕ)) (is_new : Bool) → is_new ≡ not (is_one_of old name.now) → new ≡ insert_key (λ (x y : Bor (List ℕ)). bytes_eq x.now y.now) old name → AddsName old new name.now is_new
name-added old new name is_new added keys = by (is_one_of old name.now) refl is_new added
  where
    by : (among : Bool) → is_one_of old name.now ≡ among → (b : Bool) → b ≡ not (is_one_of old name.now) → AddsName old new name.now b
    by true is true says = absurd (cc)
    by true is false says = is
    by false is false says = absurd (cc)
    by false is true says = (is, ap bytes_of (keys ∙ ap (λ (c : Bool). if c then old else old ++ name ∷ []) is) ∙ map-append (λ (n : Bor (List ℕ)). n.now) old (name ∷ []))
