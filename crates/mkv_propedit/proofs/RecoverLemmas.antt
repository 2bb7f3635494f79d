-- The effect of a recovery, and its messages.
use Rattle.std.proofs.Common.{◌≡◌, ◌∙◌, ℕ, IsTrue, List, [], ◌∷◌, Bool, true, false, if◌then◌else◌, Some, None, option_map, Result, Ok, Err, refl, ap, sym, subst}
use Rattle.mkv_io.specs.declared.reads.Reads as reads
use Rattle.mkv_io.specs.Told.{IfVisible}
use Rattle.mkv_disk.specs.Calls.{AtRest, OfReads}
use Rattle.mkv_disk.specs.Moments.{LeavesOnly}
use Rattle.mkv_disk.specs.Pair.{Pair, IsPairImage, IsSynced, both}
use Rattle.mkv_disk.specs.Writing.{HasDiskCause, HasNoFault}
use Rattle.mkv_disk.specs.declared.disk.Disk.{Ghosts}
use Rattle.mkv_disk.proofs.MomentsLemmas.{joined, stays, weaker}
use Rattle.mkv_disk.proofs.WritingLemmas.{none-then, one-then}
use Rattle.mkv_lines.specs.Code.{status_of}
use Rattle.mkv_lines.specs.Said.{HasSayCause, ReportLines}
use Rattle.mkv_lines.specs.Verdict.{SaysVerdict, Verdict, nothing, refused}
use Rattle.mkv_lines.specs.declared.status.Status.{Status}
use Rattle.mkv_lines.specs.declared.status.Status.TheVariants as status
use Rattle.mkv_lines.specs.declared.status.CommandEnd.{CommandEnd}
use Rattle.mkv_lines.specs.declared.status.CommandEnd.TheVariants as stop
use Rattle.mkv_lines.proofs.SaidLemmas.{SaysPart-before}
use Rattle.sidecar_edit.specs.declared.outcome.Recovered.{Recovered}
use Rattle.sidecar_edit.specs.declared.outcome.Recovered.TheVariants.{Applied, Nothing}
use Rattle.sidecar_edit.specs.declared.outcome.RecoverEnd.{RecoverEnd}
use Rattle.sidecar_edit.specs.declared.outcome.RecoverEnd.TheVariants.{BadSidecar, DiskFault, Foreign}
use Rattle.sidecar_edit.specs.Fields.{writes_in}
use Rattle.sidecar_edit.specs.Recovery.{is_disk_fault, recovered, recovery, when_applied}
use Rattle.sidecar_edit.specs.Writes.{applied}
use Rattle.sidecar_edit.specs.Recovering.{IsRecovered, IsRecovering, KeepsUnlessApplied, LeftBy}
use Rattle.sidecar_edit.proofs.GateLemmas.{both_image}
use Rattle.sidecar_edit.proofs.RecoverLemmas.{recovering-same}
use Rattle.mkv_propedit.specs.Recover.{DiskWorld, disk_world, recover_verdict, told, verdict_on}
use Rattle.mkv_propedit.specs.Recovery.{HasDiskStop, HasTellCause, IsRecovery, LeavesPair, LeftByRecovery, sidecar_after}

-- ---- messages

-- The outcome of a recovery is printed, or the disk failed before.
pub told-recovered : (M S name : List ℕ) (p : Pair) (outcome : Result Recovered RecoverEnd) (result : Result Status CommandEnd) (before now : ℕ) (old new : ReportLines) → IsRecovered M S outcome p
    → HasTellCause outcome before now result → SaysVerdict old new result (told name outcome) → SaysVerdict old new result (told name (recovery M S))
told-recovered M S name p (Ok Applied) result before now old new is cause says = subst (λ r. SaysVerdict old new result (told name r)) (sym is.0) says
told-recovered M S name p (Ok Nothing) result before now old new is cause says = subst (λ r. SaysVerdict old new result (told name r)) (sym is) says
told-recovered M S name p (Err (BadSidecar offset)) result before now old new is cause says = subst (λ r. SaysVerdict old new result (told name r)) (sym is) says
told-recovered M S name p (Err (Foreign mark kept found)) result before now old new is cause says = subst (λ r. SaysVerdict old new result (told name r)) (sym is) says
told-recovered M S name p (Err DiskFault) result before now old new is cause says =
    subst (λ (r : Result Status CommandEnd). SaysVerdict old new r (told name (recovery M S))) (sym cause.0)
    (SaysPart-before old new [] (told name (recovery M S)).lines (subst (λ (r : Result Status CommandEnd). SaysVerdict old new r (told name (Err DiskFault))) cause.0 says))

-- ---- the pair after a recovery

-- Nothing was pending.
pair-nothing : (M S : List ℕ) → recovery M S ≡ Ok Nothing → both M S ≡ both (recovered M S) (sidecar_after (recovery M S) S)
pair-nothing M S is = sym (ap (λ r. both (when_applied r M (applied M (writes_in S))) (sidecar_after r S)) is)

module _ (M S name : List ℕ) (p : Pair) (before now : ℕ) (old new : ReportLines) where
  -- An edit was completed.
  left-applied : (result : Result Status CommandEnd) → recovery M S ≡ Ok Applied → p ≡ both (recovered M S) (0 ∷ []) → (result ≡ Err stop.Memory → ⊥) → SaysVerdict old new result (told name (Ok Applied)) → LeavesPair (status_of result) M S p
  left-applied (Ok s) is pair some says =
      subst (λ (t : Status). LeavesPair t M S p) (sym says.0) (pair ∙ ap (λ r. both (recovered M S) (sidecar_after r S)) (sym is))
  left-applied (Err stop.Memory) is pair some says = absurd (some refl)
  left-applied (Err stop.Files) is pair some says = tt
  left-applied (Err stop.Disk) is pair some says = tt
  left-applied (Err stop.Report) is pair some says = tt

  -- Nothing was written.
  left-same : (v : Verdict) (result : Result Status CommandEnd) → p ≡ both M S → LeavesPair v.status M S p → SaysVerdict old new result v → LeavesPair (status_of result) M S p
  left-same v (Ok s) pair leaves says = subst (λ (t : Status). LeavesPair t M S p) (sym says.0) leaves
  left-same v (Err stop.Memory) pair leaves says = pair
  left-same v (Err stop.Files) pair leaves says = tt
  left-same v (Err stop.Disk) pair leaves says = tt
  left-same v (Err stop.Report) pair leaves says = tt

  pub left-recovered : (outcome : Result Recovered RecoverEnd) (result : Result Status CommandEnd) → IsRecovered M S outcome p → KeepsUnlessApplied outcome (both M S) p → HasTellCause outcome before now result → SaysVerdict old new result (told name outcome) → LeavesPair (status_of result) M S p
  left-recovered (Ok Applied) result is keeps cause says = left-applied result is.0 is.1 cause.1 says
  left-recovered (Ok Nothing) result is keeps cause says = left-same (told name (Ok Nothing)) result keeps (keeps ∙ pair-nothing M S is) says
  left-recovered (Err (BadSidecar offset)) result is keeps cause says = left-same (told name (Err (BadSidecar offset))) result keeps keeps says
  left-recovered (Err (Foreign mark kept found)) result is keeps cause says = left-same (told name (Err (Foreign mark kept found))) result keeps keeps says
  left-recovered (Err DiskFault) result is keeps cause says = subst (λ (r : Result Status CommandEnd). LeavesPair (status_of r) M S p) (sym cause.0) tt

-- The pair is determined by the state that reading leaves.
pub keeps-pair : {T : Type 0} (a b : T) (p q : Pair) (outcome : Result Recovered RecoverEnd) → (b ≡ a → q ≡ p) → KeepsUnlessApplied outcome a b → KeepsUnlessApplied outcome p q
keeps-pair a b p q (Ok Applied) so keeps = tt
keeps-pair a b p q (Ok Nothing) so keeps = so keeps
keeps-pair a b p q (Err (BadSidecar offset)) so keeps = so keeps
keeps-pair a b p q (Err (Foreign mark kept found)) so keeps = so keeps
keeps-pair a b p q (Err DiskFault) so keeps = tt

-- ---- the reasons why it stops

module _ {D : Type 0} (r : reads.Ghosts D) (d : Ghosts D) where
  -- The disk didn't fail.
  pub said-stop : {T : Type 0} (old new : D) (before now : ℕ) (result : Result T CommandEnd) → HasNoFault r d old new → HasSayCause before now result → HasDiskStop r d old new before now result
  said-stop old new before now (Ok x) none cause = (none, cause)
  said-stop old new before now (Err stop.Memory) none cause = (none, cause)
  said-stop old new before now (Err stop.Files) none cause = absurd cause
  said-stop old new before now (Err stop.Disk) none cause = absurd cause
  said-stop old new before now (Err stop.Report) none cause = (none, cause)

  pub told-stop : {T : Type 0} (old new : D) (before now : ℕ) (outcome : Result Recovered RecoverEnd) (result : Result T CommandEnd) → HasDiskCause r d is_disk_fault old new outcome → HasTellCause outcome before now result → HasDiskStop r d old new before now result
  told-stop old new before now (Ok Applied) result disk cause = said-stop old new before now result disk cause.0
  told-stop old new before now (Ok Nothing) result disk cause = said-stop old new before now result disk cause
  told-stop old new before now (Err (BadSidecar offset)) result disk cause = said-stop old new before now result disk cause
  told-stop old new before now (Err (Foreign mark kept found)) result disk cause = said-stop old new before now result disk cause
  told-stop old new before now (Err DiskFault) result disk cause = subst (λ r'. HasDiskStop r d old new before now r') (sym cause.0) (disk, cause.1)

  -- The call follows one that didn't fail.
  pub stop-then : {T : Type 0} (old mid new : D) (before now : ℕ) (result : Result T CommandEnd) → HasNoFault r d old mid → HasDiskStop r d mid new before now result → HasDiskStop r d old new before now result
  stop-then old mid new before now (Ok x) none cause = (none-then r d old mid new none cause.0, cause.1)
  stop-then old mid new before now (Err stop.Memory) none cause = (none-then r d old mid new none cause.0, cause.1)
  stop-then old mid new before now (Err stop.Files) none cause = cause
  stop-then old mid new before now (Err stop.Disk) none cause = (one-then r d old mid new none cause.0, cause.1)
  stop-then old mid new before now (Err stop.Report) none cause = (none-then r d old mid new none cause.0, cause.1)

-- ---- crash images

module _ (M S m t : List ℕ) where
  -- The two files as they were are a crash image, whatever the status.
  pub still-image : (e : Status) → (m ≡ M) × (t ≡ S) → LeftByRecovery e M S m t
  still-image status.Done same = recovering-same M S m t same
  still-image status.Warned same = recovering-same M S m t same
  still-image status.Refused same = same
  still-image status.NoMemory same = same
  still-image status.Outside same = recovering-same M S m t same

  -- A crash image of a recovery is one by its status: once an edit is completed, memory doesn't run out.
  pub recovered-image : (name : List ℕ) (p : Pair) (before now : ℕ) (old new : ReportLines) (outcome : Result Recovered RecoverEnd) (result : Result Status CommandEnd) → IsRecovered M S outcome p
      → HasTellCause outcome before now result → SaysVerdict old new result (told name outcome) → IsRecovering M S m t → LeftByRecovery (status_of result) M S m t
  recovered-image name p before now old new (Ok Applied) (Ok s) is cause says image = subst (λ (e : Status). LeftByRecovery e M S m t) (sym says.0) image
  recovered-image name p before now old new (Ok Applied) (Err stop.Memory) is cause says image = absurd (cause.1 refl)
  recovered-image name p before now old new (Ok Applied) (Err stop.Files) is cause says image = image
  recovered-image name p before now old new (Ok Applied) (Err stop.Disk) is cause says image = image
  recovered-image name p before now old new (Ok Applied) (Err stop.Report) is cause says image = image
  recovered-image name p before now old new (Ok Nothing) result is cause says image = still-image (status_of result) (subst (λ (o : Result Recovered RecoverEnd). LeftBy o M S m t) is image)
  recovered-image name p before now old new (Err (BadSidecar offset)) result is cause says image = still-image (status_of result) (subst (λ (o : Result Recovered RecoverEnd). LeftBy o M S m t) is image)
  recovered-image name p before now old new (Err (Foreign mark kept found)) result is cause says image = still-image (status_of result) (subst (λ (o : Result Recovered RecoverEnd). LeftBy o M S m t) is image)
  recovered-image name p before now old new (Err DiskFault) result is cause says image = subst (λ (r : Result Status CommandEnd). LeftByRecovery (status_of r) M S m t) (sym cause.0) image

module _ {D : Type 0} (d : Ghosts D) where
  abbrev pub Recovers : Status → D → D → Type 0
  Recovers e old new = LeavesOnly d.moment d.left_since old new (LeftByRecovery e (d.pair old).media.reads (d.pair old).sidecar.reads)

  -- This is a call that leaves the pair.
  pub opened-moment : (e : Status) (old new : D) → IsSynced (d.pair old) → LeavesOnly d.moment d.left_since old new (IsPairImage (d.pair old)) → Recovers e old new
  opened-moment e old new synced run =
      let M = (d.pair old).media.reads in let S = (d.pair old).sidecar.reads in
      weaker d.moment d.left_since old new (IsPairImage (d.pair old)) (LeftByRecovery e M S) (λ m s image. still-image M S m s e (both_image (d.pair old) m s synced image)) run

  -- A recovery follows a call that leaves the pair.
  pub recovery-then : (old mid new : D) (s : Status) → AtRest d old → (IsTrue d.told → d.pair mid ≡ d.pair old) → (IsTrue d.told → LeavesOnly d.moment d.left_since old mid (IsPairImage (d.pair old))) → IsRecovery d mid new s → IsRecovery d old new s
  recovery-then old mid new s rest pair run recovery = record {
    pair = λ told. subst (λ (p : Pair). LeavesPair s p.media.reads p.sidecar.reads (d.pair new)) (pair told) (recovery.pair told);
    any_moment = λ told.
        joined d.moment d.left_since old mid new (LeftByRecovery s (d.pair old).media.reads (d.pair old).sidecar.reads) (opened-moment s old mid (rest told) (run told))
        (subst (λ (p : Pair). LeavesOnly d.moment d.left_since mid new (LeftByRecovery s p.media.reads p.sidecar.reads)) (pair told) (recovery.any_moment told));
  }

  -- Nothing was recovered, and the pair is left.
  pub recovery-none : (old new : D) (s : Status) → AtRest d old → ((M S : List ℕ) (p : Pair) → p ≡ both M S → LeavesPair s M S p) → (IsTrue d.told → d.pair new ≡ d.pair old) → (IsTrue d.told → LeavesOnly d.moment d.left_since old new (IsPairImage (d.pair old))) → IsRecovery d old new s
  recovery-none old new s rest leaves pair run = record {
    pair = λ told. leaves (d.pair old).media.reads (d.pair old).sidecar.reads (d.pair new) (pair told ∙ rest told);
    any_moment = λ told. opened-moment s old new (rest told) (run told);
  }

  -- A recovery that doesn't touch the disk leaves the pair as it was.
  pub recovery-still : (old : D) (s : Status) → AtRest d old → ((M S : List ℕ) (p : Pair) → p ≡ both M S → LeavesPair s M S p) → ((m t : List ℕ) → IsTrue d.told → d.left_since old (d.moment old) m t → IsPairImage (d.pair old) m t) → IsRecovery d old old s
  recovery-still old s rest leaves only =
      recovery-none old old s rest leaves (λ told. refl) (λ told. stays d.moment d.left_since old (IsPairImage (d.pair old)) (λ m t left. only m t told left))

-- A refusal was printed, or couldn't be.
pub refused-left : (line : List ℕ) (old new : ReportLines) (result : Result Status CommandEnd) → SaysVerdict old new result (refused line) → (M S : List ℕ) (p : Pair) → p ≡ both M S → LeavesPair (status_of result) M S p
refused-left line old new (Ok s) says M S p same = subst (λ (t : Status). LeavesPair t M S p) (sym says.0) same
refused-left line old new (Err stop.Memory) says M S p same = same
refused-left line old new (Err stop.Files) says M S p same = tt
refused-left line old new (Err stop.Disk) says M S p same = tt
refused-left line old new (Err stop.Report) says M S p same = tt

pub refused-status : (line : List ℕ) (old new : ReportLines) (result : Result Status CommandEnd) → SaysVerdict old new result (refused line) → status_of result ≡ status.Done → ⊥
refused-status line old new (Ok s) says is = let refuses : s ≡ status.Refused = says.0 in absurd (cc)
refused-status line old new (Err stop.Memory) says is = absurd (cc)
refused-status line old new (Err stop.Files) says is = absurd (cc)
refused-status line old new (Err stop.Disk) says is = absurd (cc)
refused-status line old new (Err stop.Report) says is = absurd (cc)

-- ---- over a disk that is visible to the proof

-- The result of a recovery writes no output.
told-outputs : (name : List ℕ) (outcome : Result Recovered RecoverEnd) → (told name outcome).outputs ≡ nothing
told-outputs name (Ok Applied) = refl
told-outputs name (Ok Nothing) = refl
told-outputs name (Err (BadSidecar offset)) = refl
told-outputs name (Err (Foreign mark kept found)) = refl
told-outputs name (Err DiskFault) = refl

pub recover-outputs : (is_there : Bool) (name M S : List ℕ) → (recover_verdict is_there name M S).outputs ≡ nothing
recover-outputs true name M S = told-outputs name (recovery M S)
recover-outputs false name M S = refl

-- A property of the result for the content of the files is a property of the visible result.
pub verdict-told : {D : Type 0} (d : Ghosts D) (disk : D) (name : List ℕ) (Q : Verdict → Type 0) → OfReads d disk (λ M S. Q (recover_verdict (d.is_there disk name) name M S)) → IfVisible (option_map (λ world. verdict_on world name) (disk_world d disk)) Q
verdict-told d disk name Q so = by_told d.told so
  where
    world : DiskWorld
    world = record { is_there = d.is_there disk; media = (d.pair disk).media.reads; sidecar = (d.pair disk).sidecar.reads }

    by_told : (b : Bool) → (IsTrue b → Q (verdict_on world name)) → IfVisible (option_map (λ w. verdict_on w name) (if b then Some world else None)) Q
    by_told true so = λ v is. let same : verdict_on world name ≡ v = cc in subst Q same (so refl)
    by_told false so = λ v is. absurd (cc)

pub there : (b : Bool) → (b ≡ false → ⊥) → b ≡ true
there true isnt = refl
there false isnt = absurd (isnt refl)
