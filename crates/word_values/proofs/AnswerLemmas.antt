-- Parts of a result.
use Rattle.std.proofs.Common.{◌≡◌, Bool, true, false, if◌then◌else◌, Result, Ok, Err, refl, subst}
use Rattle.word_values.specs.declared.usage.Usage.{Usage}
use Rattle.word_values.specs.Answers.{◌>>=◌}

-- A successful result followed a successful one.
pub ok-then : {A B : Type 0} (P : Type 0) (r : Result A Usage) (f : A → Result B Usage) (y : B) → (r >>= f) ≡ Ok y → ((x : A) → r ≡ Ok x → f x ≡ Ok y → P) → P
ok-then P (Ok x) f y is keeps = keeps x refl is
ok-then P (Err e) f y is keeps = absurd (cc)

-- A successful result passed the test.
pub ok-else : {B : Type 0} (b : Bool) (e : Usage) (r : Result B Usage) (y : B) → (if b then Err e else r) ≡ Ok y → (b ≡ false) × (r ≡ Ok y)
ok-else true e r y is = absurd (cc)
ok-else false e r y is = (refl, is)

-- A conditional value is one of its two branches.
pub either : {A : Type 0} (P : Type 0) (b : Bool) (x y z : A) → (if b then x else y) ≡ z → (x ≡ z → P) → (y ≡ z → P) → P
either P true x y z is one other = one is
either P false x y z is one other = other is

-- A property of a value holds for the equal value.
pub ok-made : {A : Type 0} (P : A → Type 0) (x y : A) → ◌≡◌ {A = Result A Usage} (Ok x) (Ok y) → P x → P y
ok-made P x y is holds = let same : x ≡ y = cc in subst P same holds
