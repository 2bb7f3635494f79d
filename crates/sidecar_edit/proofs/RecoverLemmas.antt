-- Laws on recovering after calls that only read.
use Rattle.std.proofs.Common.{◌≡◌, ◌∙◌, ℕ, List, Result, Ok, Err, ap, sym, subst, length, take}
use Rattle.std.specs.Prelude.{IsErrAnd}
use Rattle.mkv_io.specs.declared.reads.Reads as reads
use Rattle.mkv_disk.specs.declared.disk.Disk.{Ghosts}
use Rattle.mkv_disk.specs.Moments.{LeavesOnly}
use Rattle.mkv_disk.specs.Pair.{Pair, IsPairImage, IsSynced}
use Rattle.mkv_disk.proofs.MomentsLemmas.{same, weaker}
use Rattle.mkv_disk.proofs.WritingLemmas.{IsLeft, left-run}
use Rattle.sidecar_edit.specs.declared.outcome.Recovered.{Recovered}
use Rattle.sidecar_edit.specs.declared.outcome.Recovered.TheVariants.{Applied, Nothing}
use Rattle.sidecar_edit.specs.declared.outcome.RecoverEnd.{RecoverEnd}
use Rattle.sidecar_edit.specs.declared.outcome.RecoverEnd.TheVariants.{BadSidecar, DiskFault, Foreign}
use Rattle.sidecar_edit.specs.declared.place.TheConstants.{KEPT}
use Rattle.sidecar_edit.specs.declared.held.Gate.{Gate}
use Rattle.sidecar_edit.specs.declared.held.Gate.TheVariants.{Live}
use Rattle.sidecar_edit.specs.Fields.{head_of, writes_in}
use Rattle.sidecar_edit.specs.Gate.{IsLiveHead, gate_of, state}
use Rattle.sidecar_edit.specs.Recovery.{if_live, recovery, unfit, applied_unless}
use Rattle.sidecar_edit.specs.Writes.{Torn}
use Rattle.sidecar_edit.specs.Leaves.{IsRedoing}
use Rattle.sidecar_edit.specs.Recovering.{IsHeadOf, IsRecovered, IsRecovering, LeftBy}
use Rattle.sidecar_edit.proofs.EditLemmas.{redoing-writes, whole_is_torn}
use Rattle.sidecar_edit.proofs.GateLemmas.{both_image}

-- Two files that are unchanged.
pub recovering-same : (M S m s : List ℕ) → (m ≡ M) × (s ≡ S) → IsRecovering M S m s
recovering-same M S m s has = by_answer (recovery M S) (λ i. recovery M S)
  where
    by_answer : (r : Result Recovered RecoverEnd) → recovery M S ≡ r → LeftBy r M S m s
    by_answer (Ok Applied) is = redoing-writes M S is m s (subst (λ t. Torn (writes_in S) M t) (sym has.0) (whole_is_torn (writes_in S) M), has.1)
    by_answer (Ok Nothing) is = has
    by_answer (Err end) is = has

-- Two files whose edit is redone.
pub recovering-redoing : (M S m s : List ℕ) → recovery M S ≡ Ok Applied → IsRedoing M S m s → IsRecovering M S m s
recovering-redoing M S m s applies redoing = subst (λ r. LeftBy r M S m s) (sym applies) redoing

-- ---- results

-- A journal's first bytes and its length determine its state.
pub state-read : (S head : List ℕ) (size : ℕ) (gate : Gate) → head ≡ head_of S → size ≡ length S → gate ≡ gate_of head size → state S ≡ gate
state-read S head size gate its len is = sym (is ∙ ap (λ h. gate_of h size) its ∙ ap (λ n. gate_of (head_of S) n) len)

-- A pending journal with the first bytes `head`, and a file.
module _ (M S head : List ℕ) (its : head ≡ head_of S) (live : state S ≡ Live) where
  pub recovery-live : recovery M S ≡ applied_unless (unfit head (length M) (take KEPT M))
  recovery-live =
      ap (λ g. if_live g (head_of S) (length M) (take KEPT M)) live
      ∙ ap (λ h. applied_unless (unfit h (length M) (take KEPT M))) (sym its)

pub recovered-refused : (M S : List ℕ) (end : RecoverEnd) (p : Pair) → recovery M S ≡ Err end → IsRecovered M S (Err end) p
recovered-refused M S (BadSidecar offset) p is = is
recovered-refused M S (Foreign mark kept found) p is = is
recovered-refused M S DiskFault p is = tt

-- A failure that is passed on is a failure of the disk.
pub fault-told : {T : Type 0} (r : Result T RecoverEnd) → IsErrAnd r (λ end. end ≡ DiskFault) → r ≡ Err DiskFault
fault-told (Ok value) is = absurd is
fault-told (Err end) is = λ i. Err (is i)

-- ---- after a call that only reads

module _ {S : Type 0} (r : reads.Ghosts S) (d : Ghosts S) (old mid : S) (left : IsLeft r d old mid) where
  pub left-head : (head : List ℕ) → IsHeadOf r d old head → IsHeadOf r d mid head
  left-head head is = record {
    sound = subst (λ s. IsLiveHead head ((r.files s).size 1)) (sym left.standing) is.sound;
    its = λ told. subst (λ (p : Pair). (head ≡ head_of p.sidecar.reads) × (state p.sidecar.reads ≡ Live)) (sym left.pair) (is.its told);
  }

  abbrev pub Recovers : S → S → Type 0
  Recovers a b = LeavesOnly d.moment d.left_since a b (IsRecovering (d.pair a).media.reads (d.pair a).sidecar.reads)

  -- Everything is unchanged.
  pub recovering-reads : IsSynced (d.pair old) → ((m s : List ℕ) → d.left_since old (d.moment old) m s → IsPairImage (d.pair old) m s) → Recovers old mid
  recovering-reads synced only =
      same d.moment d.left_since old mid _ left.moment left.back left.forth
      (λ m s was. recovering-same (d.pair old).media.reads (d.pair old).sidecar.reads m s (both_image (d.pair old) m s synced (only m s was)))

  -- The files that are left are recovered.
  pub recovering-after : (new : S) → Recovers mid new → Recovers old new
  recovering-after new run =
      left-run r d old mid new _ left
      (subst (λ (p : Pair). LeavesOnly d.moment d.left_since mid new (IsRecovering p.media.reads p.sidecar.reads)) left.pair run)

  -- By redoing an edit.
  pub redoing-after : (new : S) → recovery (d.pair mid).media.reads (d.pair mid).sidecar.reads ≡ Ok Applied → LeavesOnly d.moment d.left_since mid new (IsRedoing (d.pair mid).media.reads (d.pair mid).sidecar.reads) → Recovers old new
  redoing-after new applies run =
      recovering-after new (weaker d.moment d.left_since mid new _ _ (λ m s redoing. recovering-redoing (d.pair mid).media.reads (d.pair mid).sidecar.reads m s applies redoing) run)
