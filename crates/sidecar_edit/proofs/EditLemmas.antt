-- The file that the two files recover to at each step of an edit.
use Rattle.std.proofs.Common.{◌≡◌, inl, inr, ⊎_elim, ℕ, ◌≤◌, true, nat_le, List, [], ◌∷◌, length, drop, take, slice_index, refl, sym, ◌∙◌, ap, subst, arith, Result, Ok}
use Rattle.std.proofs.lemmas.Bool.{cases_eq, cond-true, le-leb, ne_eqb, not_from_false, or_left, or_right}
use Rattle.std.proofs.lemmas.List.{get_or-take}
use Rattle.sidecar_edit.specs.declared.place.TheConstants.{HEAD, KEPT, OPEN}
use Rattle.sidecar_edit.specs.declared.held.Gate.TheVariants.{Live, Quiet}
use Rattle.sidecar_edit.specs.declared.outcome.Recovered.{Recovered}
use Rattle.sidecar_edit.specs.declared.outcome.Recovered.TheVariants.{Applied, Nothing}
use Rattle.sidecar_edit.specs.declared.outcome.RecoverEnd.{RecoverEnd}
use Rattle.sidecar_edit.specs.Writes.{Fits, Torn, Write, applied}
use Rattle.sidecar_edit.specs.Fields.{IsMadeFor, IsPlan, Planned, body_of, head_of, writes_in, writes_of}
use Rattle.sidecar_edit.specs.Gate.{is_quiet, state}
use Rattle.sidecar_edit.specs.Recovery.{IsClosed, IsQuiet, if_live, recovered, recovery, when_applied}
use Rattle.sidecar_edit.proofs.RecordLemmas.{writes-written}
use Rattle.sidecar_edit.proofs.RedoLemmas.{edited_is_torn, extent_grows}
use Rattle.sidecar_edit.proofs.FitLemmas.{IsOwn, fits-of_own, own-applies, own-is, own-torn}
use Rattle.sidecar_edit.proofs.WrittenLemmas.{own-written, recovered-torn}
use Rattle.mkv_disk.specs.Moments.{LeavesOnly}
use Rattle.mkv_disk.specs.Pair.{Pair, both}
use Rattle.mkv_disk.proofs.MomentsLemmas.{followed, weaker}
use Rattle.sidecar_edit.specs.Leaves.{IsEditing, IsGated, IsRedoing}

-- ---- journals without a pending edit

pub state-quiet : (s : List ℕ) → IsQuiet s → state s ≡ Quiet
state-quiet s quiet = cond-true (is_quiet (head_of s) (length s)) Quiet _ (test quiet)
  where
    test : IsQuiet s → is_quiet (head_of s) (length s) ≡ true
    test (inl closed) = or_right (nat_le (length s) 1) _ (not_from_false _ (ne_eqb (slice_index (head_of s) 0) OPEN (λ is. closed (sym (get_or-take HEAD s 0 0 (omega arith)) ∙ is))))
    test (inr short) = or_left (nat_le (length s) 1) _ (le-leb (length s) 1 short)

pub recovery-quiet : (m s : List ℕ) → IsQuiet s → recovery m s ≡ Ok Nothing
recovery-quiet m s quiet = ap (λ g. if_live g (head_of s) (length m) (take KEPT m)) (state-quiet s quiet)

pub recovered-quiet : (m s : List ℕ) → IsQuiet s → recovered m s ≡ m
recovered-quiet m s quiet = ap (λ (r : Result Recovered RecoverEnd). when_applied r m (applied m (writes_in s))) (recovery-quiet m s quiet)

-- A file is torn with none of the writes made.
pub whole_is_torn : (ws : List _) (file : List ℕ) → Torn ws file file
whole_is_torn ws file = record { no_shorter = omega arith; no_longer = extent_grows (length file) ws; elsewhere = λ k inside untouched. refl }

-- ---- an edit

module _ (p : Planned) (M : List ℕ) (plan : IsPlan p) (some : 1 ≤ length p.head.places) (made : IsMadeFor p.head M) where
  own : IsOwn M (OPEN ∷ body_of p)
  own = own-written p.head p.payload M plan.sound some plan.full made

  same-writes : writes_in (OPEN ∷ body_of p) ≡ writes_of p
  same-writes = writes-written p.head p.payload plan.sound

  -- The writes of a plan fit the file.
  pub fits-of_plan : Fits (length M) (writes_of p)
  fits-of_plan = subst (λ ws. Fits (length M) ws) same-writes (fits-of_own M (OPEN ∷ body_of p) own)

  -- Before the gate is open.
  pub editing-before : (m s : List ℕ) → (m ≡ M) × IsQuiet s → IsEditing p M m s
  editing-before m s has = record {
    stands = inl (recovered-quiet m s has.1 ∙ has.0);
    recoverable = inl (recovery-quiet m s has.1);
    sidecar = inl has.1;
    no_shorter = let same = ap length has.0 in omega arith;
  }

  -- While the writes are made.
  pub editing-writes : (m s : List ℕ) → Torn (writes_of p) M m × (s ≡ OPEN ∷ body_of p) → IsEditing p M m s
  editing-writes m s has =
      let torn = subst (λ ws. Torn ws M m) (sym same-writes) has.0 in
      record {
        stands = inr (ap (recovered m) has.1 ∙ recovered-torn M (OPEN ∷ body_of p) m own torn ∙ ap (applied M) same-writes);
        recoverable = inr (ap (recovery m) has.1 ∙ own-applies m (OPEN ∷ body_of p) (own-torn M (OPEN ∷ body_of p) own m torn));
        sidecar = inr has.1;
        no_shorter = has.0.no_shorter;
      }

  -- While the gate is opened.
  pub editing-opening : (m s : List ℕ) → (m ≡ M) × IsGated (0 ∷ body_of p) s → IsEditing p M m s
  editing-opening m s has =
      ⊎_elim (λ (is : s ≡ OPEN ∷ body_of p). editing-writes m s (subst (λ t. Torn (writes_of p) M t) (sym has.0) (whole_is_torn (writes_of p) M), is))
      (λ (closed : IsClosed s). editing-before m s (has.0, inl closed)) has.1

  -- While the gate is closed again.
  pub editing-closing : (m s : List ℕ) → (m ≡ applied M (writes_of p)) × IsGated (OPEN ∷ body_of p) s → IsEditing p M m s
  editing-closing m s has =
      let torn : Torn (writes_of p) M m = subst (λ t. Torn (writes_of p) M t) (sym has.0) (edited_is_torn (writes_of p) M fits-of_plan) in
      ⊎_elim (λ (is : s ≡ OPEN ∷ body_of p). editing-writes m s (torn, is))
      (λ (closed : IsClosed s). record {
        stands = inr (recovered-quiet m s (inl closed) ∙ has.0);
        recoverable = inl (recovery-quiet m s (inl closed));
        sidecar = inl (inl closed);
        no_shorter = torn.no_shorter;
      }) has.1

-- ---- an edit that is redone

module _ (M S : List ℕ) (applies : recovery M S ≡ Ok Applied) where
  its : IsOwn M S
  its = own-is M S applies

  pub fits-of_live : Fits (length M) (writes_in S)
  fits-of_live = fits-of_own M S its

  pub recovered-is : recovered M S ≡ applied M (writes_in S)
  recovered-is = recovered-torn M S M its (whole_is_torn (writes_in S) M)

  pub redoing-writes : (m s : List ℕ) → Torn (writes_in S) M m × (s ≡ S) → IsRedoing M S m s
  redoing-writes m s has = record {
    stands = ap (recovered m) has.1 ∙ recovered-torn M S m its has.0 ∙ sym recovered-is;
    recoverable = inr (ap (recovery m) has.1 ∙ own-applies m S (own-torn M S its m has.0));
    sidecar = inr has.1;
    no_shorter = has.0.no_shorter;
  }

  pub redoing-closing : (m s : List ℕ) → (m ≡ applied M (writes_in S)) × IsGated S s → IsRedoing M S m s
  redoing-closing m s has =
      let torn : Torn (writes_in S) M m = subst (λ t. Torn (writes_in S) M t) (sym has.0) (edited_is_torn (writes_in S) M fits-of_live) in
      ⊎_elim (λ (is : s ≡ OPEN ∷ drop 1 S). redoing-writes m s (torn, is ∙ open-is))
      (λ (closed : IsClosed s). record {
        stands = recovered-quiet m s (inl closed) ∙ has.0 ∙ sym recovered-is;
        recoverable = inl (recovery-quiet m s (inl closed));
        sidecar = inl (inl closed);
        no_shorter = torn.no_shorter;
      }) has.1
    where
      open-octet : (T : List ℕ) → (IsQuiet T → ⊥) → OPEN ∷ drop 1 T ≡ T
      open-octet [] loud = absurd (loud (inr (omega arith)))
      open-octet (octet ∷ T) loud = ⊎_elim (λ (is : octet ≡ OPEN). ap (λ first. first ∷ T) (sym is)) (λ (isnt : octet ≡ OPEN → ⊥). absurd (loud (inl isnt))) (cases_eq octet OPEN)

      open-is : OPEN ∷ drop 1 S ≡ S
      open-is = open-octet S (λ quiet. let no : Quiet ≡ Live = sym (state-quiet S quiet) ∙ its.live in cc)

-- ---- sequences of calls

module _ {D : Type 0} (moment : D → ℕ) (left_since : D → ℕ → List ℕ → List ℕ → Type 0) (pair : D → Pair) where
  -- The gate is written over the journal of the pair.
  abbrev pub Gates : D → D → Type 0
  Gates b c = LeavesOnly moment left_since b c (λ m s. (m ≡ (pair b).media.reads) × IsGated (pair b).sidecar.reads s)

  -- The writes are made in the file of the pair.
  abbrev pub Writes : List Write → D → D → Type 0
  Writes ws b c = LeavesOnly moment left_since b c (λ m s. Torn ws (pair b).media.reads m × (s ≡ (pair b).sidecar.reads))

  -- For an edit.
  module _ (p : Planned) (a : D) (plan : IsPlan p) (some : 1 ≤ length p.head.places) (made : IsMadeFor p.head (pair a).media.reads) where
    abbrev pub M : List ℕ
    M = (pair a).media.reads

    abbrev pub Run : D → Type 0
    Run b = LeavesOnly moment left_since a b (IsEditing p M)

    pub recorded : (b : D) → LeavesOnly moment left_since a b (λ m s. (m ≡ M) × IsClosed s) → Run b
    recorded b run = weaker moment left_since a b _ (IsEditing p M) (λ m s has. editing-before p M plan some made m s (has.0, inl has.1)) run

    pub opened : (b c : D) → pair b ≡ both M (0 ∷ body_of p) → Run b → Gates b c → Run c
    opened b c is run next = followed moment left_since a b c (IsEditing p M) (λ m s. (m ≡ (pair b).media.reads) × IsGated (pair b).sidecar.reads s)
        (λ m s has. editing-opening p M plan some made m s (subst (λ (q : Pair). (m ≡ q.media.reads) × IsGated q.sidecar.reads s) is has)) run next

    pub written : (b c : D) → pair b ≡ both M (OPEN ∷ body_of p) → Run b → Writes (writes_of p) b c → Run c
    written b c is run next = followed moment left_since a b c (IsEditing p M) (λ m s. Torn (writes_of p) (pair b).media.reads m × (s ≡ (pair b).sidecar.reads))
        (λ m s has. editing-writes p M plan some made m s (subst (λ (q : Pair). Torn (writes_of p) q.media.reads m × (s ≡ q.sidecar.reads)) is has)) run next

    pub closed : (b c : D) → pair b ≡ both (applied M (writes_of p)) (OPEN ∷ body_of p) → Run b → Gates b c → Run c
    closed b c is run next = followed moment left_since a b c (IsEditing p M) (λ m s. (m ≡ (pair b).media.reads) × IsGated (pair b).sidecar.reads s)
        (λ m s has. editing-closing p M plan some made m s (subst (λ (q : Pair). (m ≡ q.media.reads) × IsGated q.sidecar.reads s) is has)) run next

  -- For an edit that is redone.
  module _ (a : D) (applies : recovery (pair a).media.reads (pair a).sidecar.reads ≡ Ok Applied) where
    abbrev pub Redo : D → Type 0
    Redo b = LeavesOnly moment left_since a b (IsRedoing (pair a).media.reads (pair a).sidecar.reads)

    pub rewritten : (b : D) → Writes (writes_in (pair a).sidecar.reads) a b → Redo b
    rewritten b run = weaker moment left_since a b _ (IsRedoing (pair a).media.reads (pair a).sidecar.reads) (λ m s has. redoing-writes (pair a).media.reads (pair a).sidecar.reads applies m s has) run

    pub shut : (b c : D) → pair b ≡ both (applied (pair a).media.reads (writes_in (pair a).sidecar.reads)) (pair a).sidecar.reads → Redo b → Gates b c → Redo c
    shut b c is run next = followed moment left_since a b c (IsRedoing (pair a).media.reads (pair a).sidecar.reads) (λ m s. (m ≡ (pair b).media.reads) × IsGated (pair b).sidecar.reads s)
        (λ m s has. redoing-closing (pair a).media.reads (pair a).sidecar.reads applies m s (subst (λ (q : Pair). (m ≡ q.media.reads) × IsGated q.sidecar.reads s) is has)) run next
