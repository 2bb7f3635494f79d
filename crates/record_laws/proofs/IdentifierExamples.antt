-- Numbers that identifiers get, computed: a wrong definition doesn't check.
use Rattle.std.proofs.Common.{◌≡◌, ◌-◌, ◌^◌, [], ◌∷◌, refl}
use Rattle.record_changes.specs.Identifiers.{smallest_free, number_for, renumbered}

-- ---- one number

pub record AreGiven : Type 0 where
  -- The smallest free number is positive, and may be between others.
  pub smallest : smallest_free [] ≡ 1
  pub between : smallest_free (4 ∷ 1 ∷ 2 ∷ []) ≡ 3
  -- The second with an identifier gets the smallest free number.
  pub second : number_for (5 ∷ 5 ∷ []) (5 ∷ []) 5 ≡ 1
  -- An identifier of the source isn't given to another, even if its own turn comes later.
  pub source : number_for (0 ∷ 1 ∷ []) [] 0 ≡ 2
  -- A number that was given before isn't given again.
  pub given : number_for (0 ∷ 0 ∷ []) (1 ∷ []) 0 ≡ 2

pub gives : AreGiven
gives = record { smallest = refl; between = refl; second = refl; source = refl; given = refl }

-- ---- all numbers of one kind

pub record AreRenumbered : Type 0 where
  -- Two tracks have one TrackUID.
  pub repeated : renumbered (5 ∷ 5 ∷ []) ≡ 5 ∷ 1 ∷ []
  -- Three tracks keep theirs, and one has none.
  pub missing : renumbered (11 ∷ 12 ∷ 14 ∷ 0 ∷ []) ≡ 11 ∷ 12 ∷ 14 ∷ 1 ∷ []
  -- One without an identifier comes before one with 1.
  pub missing_first : renumbered (0 ∷ 1 ∷ []) ≡ 2 ∷ 1 ∷ []
  -- Several without an identifier are around one with 3.
  pub several_missing : renumbered (0 ∷ 0 ∷ 3 ∷ 0 ∷ []) ≡ 1 ∷ 2 ∷ 3 ∷ 4 ∷ []
  -- One identifier occurs three times, before one with 1.
  pub three_times : renumbered (2 ∷ 2 ∷ 2 ∷ 1 ∷ []) ≡ 2 ∷ 3 ∷ 4 ∷ 1 ∷ []
  -- The greatest number of 64 bits occurs twice: the second gets the smallest free number.
  pub greatest : renumbered ((2 ^ 64 - 1) ∷ (2 ^ 64 - 1) ∷ []) ≡ (2 ^ 64 - 1) ∷ 1 ∷ []
  -- Renumbering again changes none.
  pub again : renumbered (renumbered (2 ∷ 2 ∷ 0 ∷ [])) ≡ renumbered (2 ∷ 2 ∷ 0 ∷ [])

pub renumbers : AreRenumbered
renumbers = assumption refl
