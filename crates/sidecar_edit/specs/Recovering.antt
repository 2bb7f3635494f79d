-- The results of recovering a file with its journal, and the contents that a crash may leave meanwhile.
use Rattle.std.specs.Prelude.{◌≡◌, ℕ, List, [], ◌∷◌, Result, Ok, Err}
use Rattle.mkv_io.specs.Sources.{file_size}
use Rattle.mkv_io.specs.declared.reads.Reads as reads
use Rattle.mkv_disk.specs.Calls.{OfReads}
use Rattle.mkv_disk.specs.Pair.{Pair, both}
use Rattle.mkv_disk.specs.declared.disk.Disk.{Ghosts}
use Rattle.mkv_disk.specs.declared.disk.TheConstants.{SIDECAR}
use Rattle.sidecar_edit.specs.declared.held.Gate.TheVariants.{Live}
use Rattle.sidecar_edit.specs.Fields.{head_of}
use Rattle.sidecar_edit.specs.Gate.{IsLiveHead, state}
use Rattle.sidecar_edit.specs.declared.outcome.Recovered.{Recovered}
use Rattle.sidecar_edit.specs.declared.outcome.Recovered.TheVariants.{Applied, Nothing}
use Rattle.sidecar_edit.specs.declared.outcome.RecoverEnd.{RecoverEnd}
use Rattle.sidecar_edit.specs.declared.outcome.RecoverEnd.TheVariants.{DiskFault}
use Rattle.sidecar_edit.specs.Recovery.{recovered, recovery}
use Rattle.sidecar_edit.specs.Leaves.{IsRedoing}

-- The bytes `head` are the first bytes of the journal on `disk`, which has a pending edit, as the steps of `recover` require. `r` and `d` give the
-- proof's view of the disk.
pub record IsHeadOf {D : Type 0} (r : reads.Ghosts D) (d : Ghosts D) (disk : D) (head : List ℕ) : Type 0 where
  pub sound : IsLiveHead head (file_size r disk SIDECAR)
  pub its : OfReads d disk (λ M S. (head ≡ head_of S) × (state S ≡ Live))

-- The third argument is the result of recovering the file `M` with the journal `S`, unless the disk failed; `p` is the file and journal afterwards.
-- If an edit was applied, the file is the recovered one, the gate is closed, and all writes are synced. It is the contract of `recover`.
abbrev pub IsRecovered : List ℕ → List ℕ → Result Recovered RecoverEnd → Pair → Type 0
IsRecovered M S (Err DiskFault) p = Unit {0}
IsRecovered M S (Ok Applied) p = (recovery M S ≡ Ok Applied) × (p ≡ both (recovered M S) (0 ∷ []))
IsRecovered M S other p = recovery M S ≡ other

-- By the result of `recover`, the first argument, the state `new` of the disk is `old` unless an edit was applied or the disk failed.
abbrev pub KeepsUnlessApplied : {T : Type 0} → Result Recovered RecoverEnd → T → T → Type 0
KeepsUnlessApplied (Err DiskFault) old new = Unit {0}
KeepsUnlessApplied (Ok Applied) old new = Unit {0}
KeepsUnlessApplied other old new = new ≡ old

-- The contents `m` and `s` are what a crash may leave of the file `M` and the journal `S` during a recovery with the given result. While an edit is
-- redone, they recover to the same file. If none is, they are as they were. Used by `IsRecovering`.
abbrev pub LeftBy : Result Recovered RecoverEnd → List ℕ → List ℕ → List ℕ → List ℕ → Type 0
LeftBy (Ok Applied) M S m s = IsRedoing M S m s
LeftBy (Ok Nothing) M S m s = (m ≡ M) × (s ≡ S)
LeftBy (Err end) M S m s = (m ≡ M) × (s ≡ S)

-- The contents `m` and `s` are what a crash may leave of the file `M` and the journal `S` while `recover` recovers them.
abbrev pub IsRecovering : List ℕ → List ℕ → List ℕ → List ℕ → Type 0
IsRecovering M S m s = LeftBy (recovery M S) M S m s
