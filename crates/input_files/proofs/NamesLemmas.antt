-- The first name of the inputs that passes a test, and the contents of open files.
use Rattle.std.proofs.Common.{◌≡◌, ◌≢◌, ℕ, zero, suc, ◌+◌, ◌<◌, Bool, true, false, if◌then◌else◌, List, [], ◌∷◌, ◌++◌, length, take, drop, get_or, map, Option, Some, None, is_none, refl, sym, ◌∙◌, ap, arith}
use Rattle.std.specs.List.{position_from}
use Rattle.std.proofs.Math.Seq.{drop-cons, take-suc}
use Rattle.mkv_io.specs.declared.outside.FileId.{FileId}
use Rattle.mkv_io.specs.Names.{AreOthers}
use Rattle.sidecar_edit.specs.Name.{sidecar_of}
use Rattle.sidecar_edit.specs.Pending.{is_pending}
use Rattle.requests.specs.declared.merge.FileWords.{FileWords}
use Rattle.mkv_outputs.specs.Sinks.{AreLive, holders_of}
use Rattle.input_files.specs.Inputs.{contents_of, file_names}

-- ---- first name that passes a test

-- the first name of the inputs `words` that passes a test, with numbers from `k` on
abbrev pub first_from : (List ℕ → Bool) → ℕ → List FileWords → Option ℕ
first_from test k words = position_from test k (file_names words)

-- the first name without a content
abbrev pub missing_from : (List ℕ → Option (List ℕ)) → ℕ → List (List ℕ) → Option ℕ
missing_from world k names = position_from (λ name. is_none (world name)) k names

-- the first name with a pending edit
abbrev pub pending_from : (List ℕ → Option (List ℕ)) → ℕ → List FileWords → Option ℕ
pending_from world k words = first_from (is_pending world) k words

-- The name `k` is the first, or a later one is.
pub first-next : (test : List ℕ → Bool) (words : List FileWords) (k : ℕ) (w : FileWords) (is : Bool) → k < length words → w ≡ get_or words k w → test w.name ≡ is → first_from test k (drop k words) ≡ (if is then Some k else first_from test (k + 1) (drop (k + 1) words))
first-next test words k w is below at tested =
    ap (first_from test k) (drop-cons words k w below ∙ ap (λ (each : FileWords). each ∷ drop (suc k) words) (sym at))
    ∙ ap (λ (here : Bool). if here then Some k else first_from test (k + 1) (drop (suc k) words)) tested
    ∙ ap (λ (n : ℕ). if is then Some k else first_from test (k + 1) (drop n words)) (one_more k)
  where
    one_more : (n : ℕ) → suc n ≡ n + 1
    one_more n = omega arith

-- A name with a content is skipped.
pub missing-passed : (world : List ℕ → Option (List ℕ)) (names : List (List ℕ)) (k : ℕ) (name : List ℕ) → k < length names → name ≡ get_or names k name → world name ≢ None → missing_from world k (drop k names) ≡ missing_from world (k + 1) (drop (k + 1) names)
missing-passed world names k name below at there =
    ap (missing_from world k) (drop-cons names k name below ∙ ap (λ (each : List ℕ). each ∷ drop (suc k) names) (sym at))
    ∙ ap (λ (here : Bool). if here then Some k else missing_from world (k + 1) (drop (suc k) names)) (step (world name) refl)
    ∙ ap (λ (n : ℕ). missing_from world (k + 1) (drop n names)) (one_more k)
  where
    step : (content : Option (List ℕ)) → world name ≡ content → is_none content ≡ false
    step None none = absurd (there none)
    step (Some bytes) some = refl

    one_more : (n : ℕ) → suc n ≡ n + 1
    one_more n = omega arith

-- One more name.
pub names-more : (names : List (List ℕ)) (k : ℕ) (each name : List ℕ) → k < length names → each ≡ get_or names k each → name ≡ each → take (k + 1) names ≡ take k names ++ name ∷ []
names-more names k each name below is named =
    ap (λ (n : ℕ). take n names) (one_more k) ∙ take-suc names k each below ∙ ap (λ (last : List ℕ). take k names ++ last ∷ []) (sym is ∙ sym named)
  where
    one_more : (n : ℕ) → n + 1 ≡ suc n
    one_more n = omega arith

-- ---- different names

-- A name outside all is outside the first ones.
pub others-first : (name : List ℕ) (names : List (List ℕ)) (k : ℕ) → AreOthers name names → AreOthers name (take k names)
others-first name [] zero others = tt
others-first name [] (suc k) others = tt
others-first name (n ∷ ns) zero others = tt
others-first name (n ∷ ns) (suc k) others = (others.0, others-first name ns k others.1)

-- A name outside all journals differs from each.
pub others-sidecar : (name : List ℕ) (words : List FileWords) (k : ℕ) (w : FileWords) → k < length words → w ≡ get_or words k w → AreOthers name (map sidecar_of (file_names words)) → sidecar_of w.name ≢ name
others-sidecar name [] k w below is others = absurd (omega arith)
others-sidecar name (x ∷ xs) zero w below is others = λ same. others.0 (ap (λ (each : FileWords). sidecar_of each.name) (sym is) ∙ same)
others-sidecar name (x ∷ xs) (suc k) w below is others = others-sidecar name xs k w (omega arith) is others.1

-- ---- contents

-- Live files have the contents of their names.
pub contents-named : (live : ℕ → Bool) (content : ℕ → Option (List ℕ)) (holder : ℕ → List ℕ) (world : List ℕ → Option (List ℕ)) (ids : List FileId) → ((file : ℕ) → live file ≡ true → content file ≡ world (holder file)) → AreLive live ids → contents_of content ids ≡ map world (holders_of holder ids)
contents-named live content holder world [] named are = refl
contents-named live content holder world (f ∷ fs) named are =
    ap (λ (c : Option (List ℕ)). c ∷ contents_of content fs) (named f.n (are 0 f (omega arith)))
    ∙ ap (λ (cs : List (Option (List ℕ))). world (holder f.n) ∷ cs) (contents-named live content holder world fs named (λ k d below. are (suc k) d (omega arith)))
