-- Laws on the names after a change of one name's content. Callers that write files use them.
use Rattle.std.proofs.Common.{◌≡◌, ◌≢◌, ◌<◌, ℕ, List, [], ◌∷◌, ◌++◌, append_assoc, append-nil, Option, Some, None, option_map, Bool, true, false, if◌then◌else◌, refl, sym, ◌∙◌, ap, subst}
use Rattle.std.specs.Str.{bytes_eq}
use Rattle.std.proofs.lemmas.Slice.Eq.{bytes_eq-Decides}
use Rattle.mkv_io.specs.Contents.{overwritten, with_appended, with_overwritten}
use Rattle.mkv_io.specs.Names.{AreOthers, Names, changed_at, with_change, with_content}

-- ---- names that aren't in a list

-- A name that isn't in `xs ++ ys` isn't in `xs`.
pub others-front : (name : List ℕ) (xs ys : List (List ℕ)) → AreOthers name (xs ++ ys) → AreOthers name xs
others-front name [] ys others = tt
others-front name (x ∷ xs) ys others = (others.0, others-front name xs ys others.1)

-- Nor is it in `ys`.
pub others-behind : (name : List ℕ) (xs ys : List (List ℕ)) → AreOthers name (xs ++ ys) → AreOthers name ys
others-behind name [] ys others = others
others-behind name (x ∷ xs) ys others = others-behind name xs ys others.1

-- ---- contents

-- Two worlds with the same content of each name are equal.
pub same_world : (f g : List ℕ → Option (List ℕ)) → ((other : List ℕ) → f other ≡ g other) → f ≡ g
same_world f g each = λ i other. each other i

-- The content of the changed name is the result of the change.
pub changed_at-same : (world : List ℕ → Option (List ℕ)) (name : List ℕ) (change : Option (List ℕ) → Option (List ℕ)) → changed_at name change world name ≡ change (world name)
changed_at-same world name change = step (bytes_eq name name) ((bytes_eq-Decides name name).1 refl)
  where
    step : (same : Bool) → same ≡ true → (if same then change (world name) else world name) ≡ change (world name)
    step true is = refl
    step false is = cc

-- The content of each other name stays.
pub changed_at-other : (world : List ℕ → Option (List ℕ)) (name other : List ℕ) (change : Option (List ℕ) → Option (List ℕ)) → other ≢ name → changed_at name change world other ≡ world other
changed_at-other world name other change differs = step (bytes_eq name other) (bytes_eq-Decides name other).0
  where
    step : (same : Bool) → (same ≡ true → name ≡ other) → (if same then change (world other) else world other) ≡ world other
    step true is = absurd (differs (sym (is refl)))
    step false is = refl

-- A change that leaves the name's content leaves the whole world.
pub changed_at-nothing : (world : List ℕ → Option (List ℕ)) (name : List ℕ) (change : Option (List ℕ) → Option (List ℕ)) → change (world name) ≡ world name → changed_at name change world ≡ world
changed_at-nothing world name change same = same_world _ _ (λ other. step other (bytes_eq name other) (bytes_eq-Decides name other).0)
  where
    step : (other : List ℕ) (is_name : Bool) → (is_name ≡ true → name ≡ other) → (if is_name then change (world other) else world other) ≡ world other
    step other true is = let P : List ℕ → Type 0 = λ each. change (world each) ≡ world each in subst P (is refl) same
    step other false is = refl

-- Changes of two different names commute.
pub changed_at-swap : (world : List ℕ → Option (List ℕ)) (a b : List ℕ) (f g : Option (List ℕ) → Option (List ℕ)) → b ≢ a → changed_at a f (changed_at b g world) ≡ changed_at b g (changed_at a f world)
changed_at-swap world a b f g differs = same_world _ _ (λ other. step other (bytes_eq a other) (bytes_eq b other) (bytes_eq-Decides a other).0 (bytes_eq-Decides b other).0)
  where
    step : (other : List ℕ) (is_a is_b : Bool) → (is_a ≡ true → a ≡ other) → (is_b ≡ true → b ≡ other) → (if is_a then f (if is_b then g (world other) else world other) else (if is_b then g (world other) else world other)) ≡ (if is_b then g (if is_a then f (world other) else world other) else (if is_a then f (world other) else world other))
    step other true true a_is b_is = absurd (differs (b_is refl ∙ sym (a_is refl)))
    step other true false a_is b_is = refl
    step other false true a_is b_is = refl
    step other false false a_is b_is = refl

-- Two changes of one name are one change.
pub changed_at-twice : (world : List ℕ → Option (List ℕ)) (name : List ℕ) (first next : Option (List ℕ) → Option (List ℕ)) → changed_at name next (changed_at name first world) ≡ changed_at name (λ content. next (first content)) world
changed_at-twice world name first next = same_world _ _ (λ other. step other (bytes_eq name other))
  where
    step : (other : List ℕ) (same : Bool) → (if same then next (if same then first (world other) else world other) else (if same then first (world other) else world other)) ≡ (if same then next (first (world other)) else world other)
    step other true = refl
    step other false = refl

-- Two changes of one name are one change, also if the names are invisible to the proof.
pub with_change-twice : (names : Names) (name : List ℕ) (first next : Option (List ℕ) → Option (List ℕ)) → with_change (with_change names name first) name next ≡ with_change names name (λ content. next (first content))
with_change-twice None name first next = refl
with_change-twice (Some world) name first next = ap Some (changed_at-twice world name first next)

-- Changes of two different names commute, also if the names are invisible to the proof.
pub with_change-swap : (names : Names) (a b : List ℕ) (f g : Option (List ℕ) → Option (List ℕ)) → b ≢ a → with_change (with_change names b g) a f ≡ with_change (with_change names a f) b g
with_change-swap None a b f g differs = refl
with_change-swap (Some world) a b f g differs = ap Some (changed_at-swap world a b f g differs)

-- Two changes of a content that exists are one change.
pub with_change-mapped : (names : Names) (name : List ℕ) (first next : List ℕ → List ℕ) → with_change (with_change names name (option_map first)) name (option_map next) ≡ with_change names name (option_map (λ bytes. next (first bytes)))
with_change-mapped names name first next =
    with_change-twice names name (option_map first) (option_map next) ∙ ap (with_change names name) (λ i content. same content i)
  where
    same : (content : Option (List ℕ)) → option_map next (option_map first content) ≡ option_map (λ bytes. next (first bytes)) content
    same None = refl
    same (Some bytes) = refl

-- A name that gets the content `bytes`, which is then changed, has the changed content.
pub with_content-mapped : (names : Names) (name bytes : List ℕ) (change : List ℕ → List ℕ) → with_change (with_content names name bytes) name (option_map change) ≡ with_content names name (change bytes)
with_content-mapped names name bytes change = with_change-twice names name (λ _. Some bytes) (option_map change)

-- A name that gets the content `bytes`, and then `more` appended, has both.
pub with_content-appended : (names : Names) (name bytes more : List ℕ) → with_change (with_content names name bytes) name (with_appended more) ≡ with_content names name (bytes ++ more)
with_content-appended names name bytes more = with_content-mapped names name bytes (λ each. each ++ more)

-- A name that gets the content `bytes`, which is then overwritten in part, has the overwritten content.
pub with_content-overwritten : (names : Names) (name bytes : List ℕ) (at : ℕ) (now : List ℕ) → with_change (with_content names name bytes) name (with_overwritten at now) ≡ with_content names name (overwritten bytes at now)
with_content-overwritten names name bytes at now = with_content-mapped names name bytes (λ each. overwritten each at now)

-- ---- appended bytes

-- An append of no bytes leaves the names.
pub with_change-none : (names : Names) (name : List ℕ) → with_change names name (with_appended []) ≡ names
with_change-none None name = refl
with_change-none (Some world) name = ap Some (changed_at-nothing world name (with_appended []) (same (world name)))
  where
    same : (content : Option (List ℕ)) → with_appended [] content ≡ content
    same None = refl
    same (Some bytes) = ap Some (append-nil bytes)

-- An append of `first`, then of `next`, equals an append of both at once.
pub with_change-more : (names : Names) (name first next : List ℕ) → with_change (with_change names name (with_appended first)) name (with_appended next) ≡ with_change names name (with_appended (first ++ next))
with_change-more names name first next =
    with_change-mapped names name (λ bytes. bytes ++ first) (λ bytes. bytes ++ next)
    ∙ ap (λ (f : List ℕ → List ℕ). with_change names name (option_map f)) (λ i bytes. append_assoc bytes first next i)
