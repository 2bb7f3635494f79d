-- The effect of `recover` on a file and its journal, and the reasons why it fails.
use Rattle.std.specs.Prelude.{◌≡◌, ◌≢◌, ◌⊎◌, ℕ, false, IsTrue, List, [], ◌∷◌, Some, Result, Ok, Err}
use Rattle.mkv_io.specs.Faults.{HasIncreased}
use Rattle.mkv_io.specs.declared.reads.Reads as reads
use Rattle.mkv_disk.specs.Calls.{AnyMoment, OfReads}
use Rattle.mkv_disk.specs.Pair.{Pair, both}
use Rattle.mkv_disk.specs.Writing.{HasNoFault, HasOneFault}
use Rattle.mkv_disk.specs.declared.disk.Disk.{Ghosts}
use Rattle.mkv_lines.specs.Said.{HasSayCause}
use Rattle.mkv_lines.specs.declared.status.Status.{Status}
use Rattle.mkv_lines.specs.declared.status.Status.TheVariants as status
use Rattle.mkv_lines.specs.declared.status.CommandEnd.{CommandEnd}
use Rattle.mkv_lines.specs.declared.status.CommandEnd.TheVariants as stop
use Rattle.sidecar_edit.specs.declared.outcome.Recovered.{Recovered}
use Rattle.sidecar_edit.specs.declared.outcome.Recovered.TheVariants.{Applied}
use Rattle.sidecar_edit.specs.declared.outcome.RecoverEnd.{RecoverEnd}
use Rattle.sidecar_edit.specs.declared.outcome.RecoverEnd.TheVariants.{DiskFault}
use Rattle.sidecar_edit.specs.Recovery.{recovered, recovery}
use Rattle.sidecar_edit.specs.Recovering.{IsRecovering}

-- the content of the journal after a recovery with this result: reset if an edit was completed, or else `sidecar`, the content before. `LeavesPair`
-- uses it.
abbrev pub sidecar_after : Result Recovered RecoverEnd → List ℕ → List ℕ
sidecar_after (Ok Applied) sidecar = 0 ∷ []
sidecar_after other sidecar = sidecar

-- A recovery that ended with this status has made `p` of the file `M` and the journal `S`. If it is done, the file is the one that both determined.
-- After a refusal, or out of memory, nothing has changed. After a failed call nothing is promised here. The contract of `run` has it for `recover`.
abbrev pub LeavesPair : Status → List ℕ → List ℕ → Pair → Type 0
LeavesPair status.Done M S p = p ≡ both (recovered M S) (sidecar_after (recovery M S) S)
LeavesPair status.Outside M S p = Unit {0}
LeavesPair s M S p = p ≡ both M S

-- The contents `m` and `s` are a crash image of a recovery of the file `M` with the journal `S` that ended with this status. Both are as they were if
-- it was refused or ran out of memory. Used for the state after `recover` was cut off at any moment.
abbrev pub LeftByRecovery : Status → List ℕ → List ℕ → List ℕ → List ℕ → Type 0
LeftByRecovery status.Refused M S m s = (m ≡ M) × (s ≡ S)
LeftByRecovery status.NoMemory M S m s = (m ≡ M) × (s ≡ S)
LeftByRecovery e M S m s = IsRecovering M S m s

-- A recovery that ended with the status `s` took the disk from `old` to `new`. It has the file and journal at the end, and their crash images at any
-- moment. Used by the contract of `recover_open`.
pub record IsRecovery {D : Type 0} (d : Ghosts D) (old new : D) (s : Status) : Type 0 where
  pub pair : OfReads d old (λ M S. LeavesPair s M S (d.pair new))
  pub any_moment : AnyMoment d old new (LeftByRecovery s)

-- The file `name` and its journal weren't opened, since the file doesn't exist or a call failed. Nothing has changed from the state `old` to `new`;
-- `s` is the status. Used for `propedit`, `reindex` and `recover`.
pub record IsUnopened {D : Type 0} (r : reads.Ghosts D) (d : Ghosts D) (name : List ℕ) (old new : D) (s : Status) : Type 0 where
  pub standing : r.standing new ≡ r.standing old
  pub not_done : s ≢ status.Done
  pub missing : s ≡ status.Refused → IsTrue d.told → d.is_there old name ≡ false

-- A recovery of the file `name` that ended with the status `s` took the disk from `old` to `new`, as `IsRecovery` describes. The file and its journal
-- are open under this name, or couldn't be opened. Used by the contract of `recover_of`.
pub record IsRecoveryOf {D : Type 0} (r : reads.Ghosts D) (d : Ghosts D) (name : List ℕ) (old new : D) (s : Status) : Type 0 where
  pub leaves : IsRecovery d old new s
  pub opened : (d.opened new ≡ Some name) ⊎ IsUnopened r d name old new s

-- ---- the reasons why it stops

-- From the state `old` to `new`, the call fails with the disk only if one of its failure counts increased. It fails with the report only if the
-- report's own count increased, from `before` to `now`. Used by the contracts of `propedit`, `reindex` and `recover`. `r` and `d` give the proof's
-- view of the disk.
abbrev pub HasDiskStop : {D T : Type 0} → reads.Ghosts D → Ghosts D → D → D → ℕ → ℕ → Result T CommandEnd → Type 0
HasDiskStop r d old new before now (Ok _) = HasNoFault r d old new × (now ≡ before)
HasDiskStop r d old new before now (Err stop.Memory) = HasNoFault r d old new × (now ≡ before)
HasDiskStop r d old new before now (Err stop.Disk) = HasOneFault r d old new × (now ≡ before)
HasDiskStop r d old new before now (Err stop.Report) = HasNoFault r d old new × HasIncreased before now
HasDiskStop r d old new before now (Err stop.Files) = ⊥

-- A call printed the outcome of a recovery, which gave the result in the first argument. If the disk failed, the call fails with it. If an edit was
-- completed, it can fail only to print, and not for memory. `before` and `now` count the failed prints. Used by the contract of `tell` for `recover`.
-- `result` is what the call returned.
abbrev pub HasTellCause : {T : Type 0} → Result Recovered RecoverEnd → ℕ → ℕ → Result T CommandEnd → Type 0
HasTellCause (Err DiskFault) before now result = (result ≡ Err stop.Disk) × (now ≡ before)
HasTellCause (Ok Applied) before now result = HasSayCause before now result × (result ≢ Err stop.Memory)
HasTellCause other before now result = HasSayCause before now result
