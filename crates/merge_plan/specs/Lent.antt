-- Values that references point to.
use Rattle.std.specs.Prelude.{List, map}
use denote.Ref.{Bor}

-- the values that the references `refs` point to. Used by the contracts of functions that get references to tracks.
abbrev pub lent : {A : Type 0} → List (Bor A) → List A
lent refs = map (λ r. r.now) refs
