-- Laws on sequences of calls that read and write the two files of a disk, by their effects and causes.
use Rattle.std.proofs.Common.{◌≡◌, inl, inr, ℕ, ◌+◌, ◌≤◌, Bool, true, false, IsTrue, List, ap, sym, ◌∙◌, subst, arith, MatchBool, Result, Ok, Err}
use Rattle.mkv_io.specs.Faults.{HasIncreased}
use Rattle.mkv_io.specs.declared.reads.Reads as reads
use Rattle.mkv_disk.specs.Calls.{IsReady}
use Rattle.mkv_disk.specs.Moments.{LeavesOnly}
use Rattle.mkv_disk.specs.Pair.{IsSynced}
use Rattle.mkv_disk.specs.Writing.{HasDiskCause, HasNoFault, HasOneFault, KeepsOpen}
use Rattle.mkv_disk.specs.declared.disk.Disk.{Ghosts}
use Rattle.mkv_disk.proofs.MomentsLemmas.{after_same}

-- The call changes nothing that reading leaves.
pub record IsLeft {S : Type 0} (r : reads.Ghosts S) (d : Ghosts S) (old new : S) : Type 0 where
  pub standing : r.standing new ≡ r.standing old
  pub pair : d.pair new ≡ d.pair old
  pub moment : d.moment new ≡ d.moment old
  pub back : (t : ℕ) (m s : List ℕ) → d.left_since new t m s → d.left_since old t m s
  pub forth : (t : ℕ) (m s : List ℕ) → d.left_since old t m s → d.left_since new t m s
  pub opened : d.opened new ≡ d.opened old
  pub writing : d.writing_faults new ≡ d.writing_faults old

module _ {S : Type 0} (r : reads.Ghosts S) (d : Ghosts S) where
  -- A call that only reads keeps the files open.
  pub left-keeps : (old new : S) (n : ℕ) → IsLeft r d old new → r.octets_read old ≤ r.octets_read new → r.octets_read new ≤ r.octets_read old + n → KeepsOpen r d old new n
  left-keeps old new n left least most = record {
    live = λ file. ap (λ s. (r.files s).live file) left.standing;
    opened = left.opened;
    least = least;
    most = most;
  }

  pub left-ready : (old new : S) → IsLeft r d old new → IsReady r d old → IsReady r d new
  left-ready old new left ready = record {
    media = subst (λ s. IsTrue ((r.files s).live 0)) (sym left.standing) ready.media;
    sidecar = subst (λ s. IsTrue ((r.files s).live 1)) (sym left.standing) ready.sidecar;
    at_rest = λ told. subst IsSynced (sym left.pair) (ready.at_rest told);
  }

  -- A sequence of calls after a call that only reads.
  pub left-run : (old mid new : S) (P : List ℕ → List ℕ → Type 0) → IsLeft r d old mid → LeavesOnly d.moment d.left_since mid new P → LeavesOnly d.moment d.left_since old new P
  left-run old mid new P left run = after_same d.moment d.left_since old mid new P left.moment left.back left.forth run

  -- Two calls.
  pub keeps-then : (old mid new : S) (n more : ℕ) → KeepsOpen r d old mid n → KeepsOpen r d mid new more → KeepsOpen r d old new (n + more)
  keeps-then old mid new n more first second = record {
    live = λ file. second.live file ∙ first.live file;
    opened = second.opened ∙ first.opened;
    least = let a = first.least in let b = second.least in omega arith;
    most = let a = first.most in let b = second.most in omega arith;
  }

  pub one-then : (old mid new : S) → HasNoFault r d old mid → HasOneFault r d mid new → HasOneFault r d old new
  one-then old mid new none (inl reads) = inl (subst (λ n. HasIncreased n (r.reading_faults new)) none.reading reads.0, reads.1 ∙ none.writing)
  one-then old mid new none (inr writes) = inr (writes.0 ∙ none.reading, subst (λ n. HasIncreased n (d.writing_faults new)) none.writing writes.1)

  pub none-then : (old mid new : S) → HasNoFault r d old mid → HasNoFault r d mid new → HasNoFault r d old new
  none-then old mid new first second = record { reading = second.reading ∙ first.reading; writing = second.writing ∙ first.writing }

  -- A call after another one without a fault.
  pub cause-then : {T E : Type 0} (is_fault : E → Bool) (old mid new : S) (result : Result T E) → HasNoFault r d old mid → HasDiskCause r d is_fault mid new result → HasDiskCause r d is_fault old new result
  cause-then is_fault old mid new (Ok value) none cause = none-then old mid new none cause
  cause-then is_fault old mid new (Err e) none cause = by_test (is_fault e) cause
    where
      by_test : (b : Bool) → MatchBool b (HasOneFault r d mid new) (HasNoFault r d mid new) → MatchBool b (HasOneFault r d old new) (HasNoFault r d old new)
      by_test true one = one-then old mid new none one
      by_test false nothing = none-then old mid new none nothing
