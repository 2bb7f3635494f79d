-- Two runs, step by step.
use Rattle.std.proofs.Common.{◌≡◌, Option, Some, None, Result, Ok, Err, refl}
use Rattle.mkv_io.specs.Results.{and_then, unless}
use Rattle.mkv_merge.specs.declared.refusal.Refusal.{Refusal}

-- Both have results with the property, or both are refused for the same reason.
abbrev pub Both : {A : Type 0} → (A → A → Type 0) → Result A Refusal → Result A Refusal → Type 0
Both P (Ok x) (Ok y) = P x y
Both P (Ok x) (Err why) = ⊥
Both P (Err why) (Ok y) = ⊥
Both P (Err why) (Err because) = why ≡ because

pub both-then : {A B : Type 0} (P : A → A → Type 0) (Q : B → B → Type 0) (x y : Result A Refusal) (f g : A → Result B Refusal)
    → Both P x y → ((a b : A) → P a b → Both Q (f a) (g b)) → Both Q (and_then x f) (and_then y g)
both-then P Q (Ok a) (Ok b) f g both more = more a b both
both-then P Q (Ok a) (Err why) f g both more = absurd both
both-then P Q (Err why) (Ok b) f g both more = absurd both
both-then P Q (Err why) (Err because) f g both more = both

pub both-unless : {A : Type 0} (P : A → A → Type 0) (o p : Option Refusal) (x y : A) → o ≡ p → (p ≡ None → P x y) → Both P (unless o x) (unless p y)
both-unless P None None x y same is = is refl
both-unless P None (Some why) x y same is = absurd (cc)
both-unless P (Some why) None x y same is = absurd (cc)
both-unless P (Some why) (Some because) x y same is = cc

pub both-same : {A : Type 0} (P : A → A → Type 0) (r : Result A Refusal) → ((x : A) → r ≡ Ok x → P x x) → Both P r r
both-same P (Ok x) holds = holds x refl
both-same P (Err why) holds = refl

pub both-weaker : {A : Type 0} (P Q : A → A → Type 0) (x y : Result A Refusal) → ((a b : A) → P a b → Q a b) → Both P x y → Both Q x y
both-weaker P Q (Ok a) (Ok b) more both = more a b both
both-weaker P Q (Ok a) (Err why) more both = absurd both
both-weaker P Q (Err why) (Ok b) more both = absurd both
both-weaker P Q (Err why) (Err because) more both = both
