-- Laws on sequences of calls, by the contents that a crash may leave at any moment of them.
use Rattle.std.proofs.Common.{◌≡◌, inl, inr, ⊎_elim, ℕ, List, arith, subst, sym}
use Rattle.mkv_disk.specs.Moments.{LeavesOnly}
use Rattle.mkv_disk.specs.Pair.{Pair, IsPairImage}

module _ {D : Type 0} (moment : D → ℕ) (left_since : D → ℕ → List ℕ → List ℕ → Type 0) where
  -- No call.
  pub stays : (old : D) (P : List ℕ → List ℕ → Type 0) → ((m s : List ℕ) → left_since old (moment old) m s → P m s) → LeavesOnly moment left_since old old P
  stays old P here = record { later = omega arith; each = here; before = λ t m s le left. inl left; keeps = λ t m s le left. left }

  -- Contents that fulfil `P` fulfil a weaker `Q`.
  pub weaker : (old new : D) (P Q : List ℕ → List ℕ → Type 0) → ((m s : List ℕ) → P m s → Q m s) → LeavesOnly moment left_since old new P → LeavesOnly moment left_since old new Q
  weaker old new P Q so run = record {
    later = run.later;
    each = λ m s left. so m s (run.each m s left);
    before = λ t m s le left. ⊎_elim (λ was. inl was) (λ has. inr (so m s has)) (run.before t m s le left);
    keeps = run.keeps;
  }

  -- Two sequences, one after another.
  pub joined : (old mid new : D) (P : List ℕ → List ℕ → Type 0) → LeavesOnly moment left_since old mid P → LeavesOnly moment left_since mid new P → LeavesOnly moment left_since old new P
  joined old mid new P first second = record {
    later = let a = first.later in let b = second.later in omega arith;
    each = λ m s left. ⊎_elim (first.each m s) (λ has. has) (second.before (moment old) m s first.later left);
    before = λ t m s le left. ⊎_elim (first.before t m s le) (λ has. inr has) (second.before t m s (let a = first.later in omega arith) left);
    keeps = λ t m s le left. second.keeps t m s (let a = first.later in omega arith) (first.keeps t m s le left);
  }

  -- Two sequences, one after another, if the contents of the second fulfil a stronger `Q`.
  pub followed : (old mid new : D) (P Q : List ℕ → List ℕ → Type 0) → ((m s : List ℕ) → Q m s → P m s) → LeavesOnly moment left_since old mid P → LeavesOnly moment left_since mid new Q → LeavesOnly moment left_since old new P
  followed old mid new P Q so first second = joined old mid new P first (weaker mid new Q P so second)

  -- A call that writes, then a sync of what was written.
  pub written_then : (pair : D → Pair) (old mid new : D) (q : Pair) (P : List ℕ → List ℕ → Type 0) → ((m s : List ℕ) → IsPairImage q m s → P m s)
      → LeavesOnly moment left_since old mid (IsPairImage q) → pair mid ≡ q → LeavesOnly moment left_since mid new (IsPairImage (pair mid)) → LeavesOnly moment left_since old new P
  written_then pair old mid new q P so first is second =
      followed old mid new P (IsPairImage (pair mid)) (λ m s image. so m s (subst (λ (p : Pair). IsPairImage p m s) is image)) (weaker old mid (IsPairImage q) P so first) second

  -- A call that leaves the moment, and the possible contents, as they were.
  pub same : (old new : D) (P : List ℕ → List ℕ → Type 0) → moment new ≡ moment old
      → ((t : ℕ) (m s : List ℕ) → left_since new t m s → left_since old t m s)
      → ((t : ℕ) (m s : List ℕ) → left_since old t m s → left_since new t m s)
      → ((m s : List ℕ) → left_since old (moment old) m s → P m s) → LeavesOnly moment left_since old new P
  same old new P time back forth here = record {
    later = omega arith;
    each = λ m s left. here m s (back (moment old) m s left);
    before = λ t m s le left. inl (back t m s left);
    keeps = λ t m s le left. forth t m s left;
  }

  -- A sequence after such a call.
  pub after_same : (old mid new : D) (P : List ℕ → List ℕ → Type 0) → moment mid ≡ moment old
      → ((t : ℕ) (m s : List ℕ) → left_since mid t m s → left_since old t m s)
      → ((t : ℕ) (m s : List ℕ) → left_since old t m s → left_since mid t m s)
      → LeavesOnly moment left_since mid new P → LeavesOnly moment left_since old new P
  after_same old mid new P time back forth run = record {
    later = let later = run.later in omega arith;
    each = λ m s left. run.each m s (subst (λ t. left_since new t m s) (sym time) left);
    before = λ t m s le left. ⊎_elim (λ was. inl (back t m s was)) (λ has. inr has) (run.before t m s (omega arith) left);
    keeps = λ t m s le left. run.keeps t m s (omega arith) (forth t m s left);
  }
