-- The contents that a crash may leave of a file and its journal while an edit is made or redone.
use Rattle.std.specs.Prelude.{◌≡◌, ◌⊎◌, ◌≤◌, ℕ, List, ◌∷◌, length, drop, Ok}
use Rattle.sidecar_edit.specs.declared.place.TheConstants.{OPEN}
use Rattle.sidecar_edit.specs.declared.outcome.Recovered.TheVariants.{Applied, Nothing}
use Rattle.sidecar_edit.specs.Writes.{applied}
use Rattle.sidecar_edit.specs.Fields.{Planned, body_of, writes_of}
use Rattle.sidecar_edit.specs.Recovery.{IsClosed, IsQuiet, recovered, recovery}

-- The content `s` is what a crash may leave of the journal `S` while its gate is written. The gate is closed, or it is `S` with an open gate. It is
-- the contract of `set_gate`.
abbrev pub IsGated : List ℕ → List ℕ → Type 0
IsGated S s = (s ≡ OPEN ∷ drop 1 S) ⊎ IsClosed s

-- The file `m` and the journal `s`, which a crash left, can be recovered: the journal has no pending edit, or one that belongs to the file. Used by
-- `IsEditing`, `IsRedoing` and others.
abbrev pub IsRecoverable : List ℕ → List ℕ → Type 0
IsRecoverable m s = (recovery m s ≡ Ok Nothing) ⊎ (recovery m s ≡ Ok Applied)

-- The contents `m` and `s` of file and journal are what a crash may leave while the plan `p` is carried out on the file `M`; `commit` promises it.
-- They recover to `M` before or after the edit. The journal has no pending edit, or exactly this plan. The file is never shorter than `M`.
pub record IsEditing (p : Planned) (M m s : List ℕ) : Type 0 where
  pub stands : (recovered m s ≡ M) ⊎ (recovered m s ≡ applied M (writes_of p))
  pub recoverable : IsRecoverable m s
  pub sidecar : IsQuiet s ⊎ (s ≡ OPEN ∷ body_of p)
  pub no_shorter : length M ≤ length m

-- The contents `m` and `s` of file and journal are what a crash may leave while `recover` redoes an edit on the file `M` with the journal `S`. They
-- recover to the same file as `M` and `S`. The journal has no pending edit, or is `S`. The file is never shorter than `M`.
pub record IsRedoing (M S m s : List ℕ) : Type 0 where
  pub stands : recovered m s ≡ recovered M S
  pub recoverable : IsRecoverable m s
  pub sidecar : IsQuiet s ⊎ (s ≡ S)
  pub no_shorter : length M ≤ length m
