-- Results of readers of text files.
use Rattle.std.proofs.Common.{◌≡◌, Err, ap}
use Rattle.std.specs.Prelude.{◌↔◌, IsErrOf}

err-same : {A E : Type 0} (e w : E) → IsErrOf {T = A} (Err e) w → e ≡ w
err-same e w is = cc

-- A failure doesn't depend on the type of the result.
pub err-moves : {A B E : Type 0} (e w : E) (P : Type 0) → (IsErrOf {T = A} (Err e) w ↔ P) → (IsErrOf {T = B} (Err e) w ↔ P)
err-moves {A} {B} e w P is = (
  λ same. is.0 (ap (λ x. Err x) (err-same {A = B} e w same)),
  λ p. ap (λ x. Err x) (err-same {A = A} e w (is.1 p)),
)
