-- The effect of edits, and their messages.
use Rattle.std.proofs.Common.{◌≡◌, ◌∙◌, ◌⊎◌, inl, inr, ⊎_elim, ℕ, ◌+◌, ◌≤◌, IsTrue, Bool, true, false, not, ◌||◌, nat_le, nat_lt, if◌then◌else◌, List, [], ◌∷◌, length, slice_index, Option, Some, None, option_map, Result, Ok, Err, refl, ap, sym, subst, arith, eq-eqb}
use Rattle.std.specs.Prelude.{◌==◌, OnOk}
use Rattle.std.proofs.lemmas.List.{get_or-take}
use Rattle.std.proofs.lemmas.Bool.Decides.{nat_tests}
use Rattle.mkv_io.specs.declared.reads.Reads as reads
use Rattle.mkv_io.specs.Faults.{HasCause}
use Rattle.mkv_io.specs.Told.{IfVisible}
use Rattle.mkv_disk.specs.Calls.{AtRest, OfReads}
use Rattle.mkv_disk.specs.Moments.{LeavesOnly}
use Rattle.mkv_disk.specs.Pair.{Pair, IsPairImage, IsSynced, both}
use Rattle.mkv_disk.specs.declared.disk.Disk.{Ghosts}
use Rattle.mkv_disk.proofs.MomentsLemmas.{joined, same, stays, weaker}
use Rattle.mkv_disk.proofs.WritingLemmas.{IsLeft}
use Rattle.requests.specs.declared.edit.Edit.{Edit}
use Rattle.mkv_lines.specs.Code.{status_of}
use Rattle.mkv_lines.specs.Said.{ReportLines}
use Rattle.mkv_lines.specs.Verdict.{SaysVerdict, Verdict, done, nothing, refused}
use Rattle.mkv_lines.specs.declared.status.Status.{Status}
use Rattle.mkv_lines.specs.declared.status.Status.TheVariants as status
use Rattle.mkv_lines.specs.declared.status.CommandEnd.{CommandEnd}
use Rattle.mkv_lines.specs.declared.status.CommandEnd.TheVariants as stop
use Rattle.mkv_propedit.specs.Recover.{DiskWorld, disk_world}
use Rattle.mkv_propedit.specs.Recovery.{HasDiskStop}
use Rattle.mkv_propedit.proofs.RecoverLemmas.{said-stop}
use Rattle.sidecar_edit.specs.declared.held.Gate.{Gate}
use Rattle.sidecar_edit.specs.declared.held.Gate.TheVariants.{Bad, Live, Quiet}
use Rattle.sidecar_edit.specs.declared.place.TheConstants.{HEAD, HEAD_1, OPEN}
use Rattle.sidecar_edit.specs.Fields.{IsMadeFor, Planned, body_of, head_of, total_in, writes_of}
use Rattle.sidecar_edit.specs.Gate.{first_breach, is_quiet, rules_of, state, unless_broken}
use Rattle.sidecar_edit.specs.Recovery.{IsQuiet, recovered}
use Rattle.sidecar_edit.specs.Writes.{Write, applied}
use Rattle.sidecar_edit.specs.Leaves.{IsEditing}
use Rattle.sidecar_edit.proofs.GateLemmas.{both_image}
use Rattle.edit_changes.specs.declared.refusal.Refusal.{Refusal}
use Rattle.mkv_io.specs.Results.{and_then}
use Rattle.edit_changes.specs.Plan.{edited, recorded as record_for}
use Rattle.edit_plan.proofs.RecordLemmas.{writes_of-recorded}
use Rattle.mkv_propedit.specs.Left.{HasMadeCause, IsEdit, IsUnderway, LeavesEdited, LeavesPlanned, LeftByEdit, LeftByPlan, StaysOpen}
use Rattle.mkv_propedit.specs.Propedit.{propedit_on, propedit_verdict, told, unless_begun}

-- ---- a journal without a pending edit

-- A journal with an open gate always has a pending edit or is invalid.
not-quiet : (breach : Option ℕ) (total size : ℕ) → unless_broken breach total size ≡ Quiet → ⊥
not-quiet (Some octet) total size is = absurd (cc)
not-quiet None total size is = of (nat_lt size total) is
  where
    of : (short : Bool) → (if short then Bad size else Live) ≡ Quiet → ⊥
    of true is = absurd (cc)
    of false is = absurd (cc)

pub quiet-state : (s : List ℕ) → state s ≡ Quiet → IsQuiet s
quiet-state s is = of (is_quiet (head_of s) (length s)) refl is
  where
    long : (short : Bool) → (if short then Bad (length s) else unless_broken (first_breach (rules_of (head_of s))) (total_in (head_of s)) (length s)) ≡ Quiet → ⊥
    long true is = absurd (cc)
    long false is = not-quiet (first_breach (rules_of (head_of s))) (total_in (head_of s)) (length s) is

    parts : (few closed : Bool) → nat_le (length s) 1 ≡ few → (slice_index (head_of s) 0 == OPEN) ≡ closed → (few || not closed) ≡ true → IsQuiet s
    parts true closed few_is closed_is test = inr (grind (arith, nat_tests))
    parts false true few_is closed_is test = absurd (cc)
    parts false false few_is closed_is test =
        inl (λ is. let yes : (slice_index (head_of s) 0 == OPEN) ≡ true = eq-eqb (slice_index (head_of s) 0) OPEN (get_or-take HEAD s 0 0 (omega arith) ∙ is) in absurd (cc))

    of : (quiet : Bool) → is_quiet (head_of s) (length s) ≡ quiet
        → (if quiet then Quiet else if nat_lt (length s) HEAD_1 then Bad (length s) else unless_broken (first_breach (rules_of (head_of s))) (total_in (head_of s)) (length s)) ≡ Quiet → IsQuiet s
    of true test is = parts (nat_le (length s) 1) (slice_index (head_of s) 0 == OPEN) refl refl test
    of false test is = absurd (long (nat_lt (length s) HEAD_1) is)

-- ---- the record of edits, and the edited file

module _ (M : List ℕ) (found : List ℕ → Result (List Write) Refusal) where
  abbrev record_from : Result (List Write) Refusal → Result Planned Refusal
  record_from r = and_then r (λ ws. Ok (record_for M ws))

  -- The record has the writes that were found.
  record-writes : (p : Planned) → record_from (found M) ≡ Ok p → (ws : List Write) × (found M ≡ Ok ws) × (record_for M ws ≡ p)
  record-writes p is = of (found M) refl is
    where
      of : (r : Result (List Write) Refusal) → found M ≡ r → record_from r ≡ Ok p → (ws : List Write) × (found M ≡ Ok ws) × (record_for M ws ≡ p)
      of (Ok ws) made is = let its : record_for M ws ≡ p = cc in (ws, made, its)
      of (Err r) made is = absurd (cc)

  record-same : (p : Planned) (is : record_from (found M) ≡ Ok p) → writes_of p ≡ (record-writes p is).0
  record-same p is = let all = record-writes p is in sym (ap writes_of all.2) ∙ writes_of-recorded M all.0

  pub record-made : (p : Planned) → record_from (found M) ≡ Ok p → IsMadeFor p.head M
  record-made p is = subst (λ (q : Planned). IsMadeFor q.head M) (record-writes p is).2 (record { len = refl; first = refl })

  -- A crash during the execution of the plan leaves an edit that is underway.
  pub underway : (S m s : List ℕ) (p : Planned) → state S ≡ Quiet → record_from (found M) ≡ Ok p → IsEditing p M m s → IsUnderway found M S m s
  underway S m s p quiet is editing =
      let all = record-writes p is in record {
        quiet = quiet;
        writes = all.0;
        made = all.1;
        stands = ⊎_elim (λ (was : recovered m s ≡ M). inl was) (λ (new : recovered m s ≡ applied M (writes_of p)). inr (new ∙ ap (λ (vs : List Write). applied M vs) (record-same p is))) editing.stands;
        recoverable = editing.recoverable;
        sidecar = subst (λ (q : Planned). IsQuiet s ⊎ (s ≡ OPEN ∷ body_of q)) (sym all.2) editing.sidecar;
        no_shorter = editing.no_shorter;
      }

  -- The execution of the plan has the effect of an edit.
  pub leaves-planned : (S : List ℕ) (p : Planned) (s : Status) (q : Pair) → state S ≡ Quiet → record_from (found M) ≡ Ok p → LeavesPlanned s p M S q → LeavesEdited s found M S q
  leaves-planned S p status.Done q quiet is leaves =
      let all = record-writes p is in
      record { quiet = quiet; writes = all.0; made = all.1; pair = leaves ∙ ap (λ (vs : List Write). both (applied M vs) (0 ∷ [])) (record-same p is) }
  leaves-planned S p status.Warned q quiet is leaves = leaves
  leaves-planned S p status.Refused q quiet is leaves = leaves
  leaves-planned S p status.NoMemory q quiet is leaves = leaves
  leaves-planned S p status.Outside q quiet is leaves = leaves

  -- A crash image of the execution of the plan is one of an edit.
  pub planned-image : (S m t : List ℕ) (p : Planned) (e : Status) → state S ≡ Quiet → record_from (found M) ≡ Ok p → LeftByPlan e p M S m t → LeftByEdit e found M S m t
  planned-image S m t p status.Done quiet is image = inr (underway S m t p quiet is image)
  planned-image S m t p status.Warned quiet is image = inr (underway S m t p quiet is image)
  planned-image S m t p status.Refused quiet is image = image
  planned-image S m t p status.NoMemory quiet is image = image
  planned-image S m t p status.Outside quiet is image = inr (underway S m t p quiet is image)

  -- The two files as they were are a crash image, whatever the status.
  pub still-image : (S m t : List ℕ) (e : Status) → (m ≡ M) × (t ≡ S) → LeftByEdit e found M S m t
  still-image S m t status.Done same = inl same
  still-image S m t status.Warned same = inl same
  still-image S m t status.Refused same = same
  still-image S m t status.NoMemory same = same
  still-image S m t status.Outside same = inl same

-- ---- crash images

module _ {D : Type 0} (r : reads.Ghosts D) (d : Ghosts D) where
  -- This is a call that only reads.
  pub reads-moment : (old new : D) → IsLeft r d old new → ((m s : List ℕ) → d.left_since old (d.moment old) m s → IsPairImage (d.pair old) m s) → LeavesOnly d.moment d.left_since old new (IsPairImage (d.pair old))
  reads-moment old new left only = same d.moment d.left_since old new (IsPairImage (d.pair old)) left.moment left.back left.forth only

  -- Bytes are read before a call that leaves the pair open.
  pub stays-then : (old mid new : D) (n more : ℕ) → IsLeft r d old mid → r.octets_read mid ≤ r.octets_read old + n → StaysOpen r d mid new more → StaysOpen r d old new (n + more)
  stays-then old mid new n more left read later = record { opened = later.opened ∙ left.opened; octets = omega arith }

module _ {D : Type 0} (d : Ghosts D) (found : List ℕ → Result (List Write) Refusal) where
  abbrev pub Edits : Status → D → D → Type 0
  Edits e old new = LeavesOnly d.moment d.left_since old new (LeftByEdit e found (d.pair old).media.reads (d.pair old).sidecar.reads)

  -- This is a call that leaves the pair.
  pub left-moment : (e : Status) (old new : D) → IsSynced (d.pair old) → LeavesOnly d.moment d.left_since old new (IsPairImage (d.pair old)) → Edits e old new
  left-moment e old new synced run =
      let M = (d.pair old).media.reads in let S = (d.pair old).sidecar.reads in
      weaker d.moment d.left_since old new (IsPairImage (d.pair old)) (LeftByEdit e found M S) (λ m s image. still-image M found S m s e (both_image (d.pair old) m s synced image)) run

  -- An edit follows a call that leaves the pair.
  pub edit-then : (old mid new : D) (s : Status) → AtRest d old → (IsTrue d.told → d.pair mid ≡ d.pair old) → (IsTrue d.told → LeavesOnly d.moment d.left_since old mid (IsPairImage (d.pair old))) → IsEdit d found mid new s → IsEdit d found old new s
  edit-then old mid new s rest pair run edit = record {
    pair = λ told. subst (λ (p : Pair). LeavesEdited s found p.media.reads p.sidecar.reads (d.pair new)) (pair told) (edit.pair told);
    any_moment = λ told.
        joined d.moment d.left_since old mid new (LeftByEdit s found (d.pair old).media.reads (d.pair old).sidecar.reads) (left-moment s old mid (rest told) (run told))
        (subst (λ (p : Pair). LeavesOnly d.moment d.left_since mid new (LeftByEdit s found p.media.reads p.sidecar.reads)) (pair told) (edit.any_moment told));
  }

  -- Nothing was edited, and the pair is left.
  pub edit-none : (old new : D) (s : Status) → AtRest d old → ((M S : List ℕ) (p : Pair) → p ≡ both M S → LeavesEdited s found M S p) → (IsTrue d.told → d.pair new ≡ d.pair old) → (IsTrue d.told → LeavesOnly d.moment d.left_since old new (IsPairImage (d.pair old))) → IsEdit d found old new s
  edit-none old new s rest leaves pair run = record {
    pair = λ told. leaves (d.pair old).media.reads (d.pair old).sidecar.reads (d.pair new) (pair told ∙ rest told);
    any_moment = λ told. left-moment s old new (rest told) (run told);
  }

  -- An edit that doesn't touch the disk leaves the pair as it was.
  pub edit-still : (old : D) (s : Status) → AtRest d old → ((M S : List ℕ) (p : Pair) → p ≡ both M S → LeavesEdited s found M S p) → ((m t : List ℕ) → IsTrue d.told → d.left_since old (d.moment old) m t → IsPairImage (d.pair old) m t) → IsEdit d found old old s
  edit-still old s rest leaves only =
      edit-none old old s rest leaves (λ told. refl) (λ told. stays d.moment d.left_since old (IsPairImage (d.pair old)) (λ m t left. only m t told left))

  -- A refusal was printed, or couldn't be.
  pub refused-left : (line : List ℕ) (old new : ReportLines) (result : Result Status CommandEnd) → SaysVerdict old new result (refused line) → (M S : List ℕ) (p : Pair) → p ≡ both M S → LeavesEdited (status_of result) found M S p
  refused-left line old new (Ok s) says M S p same = subst (λ (t : Status). LeavesEdited t found M S p) (sym says.0) same
  refused-left line old new (Err stop.Memory) says M S p same = same
  refused-left line old new (Err stop.Files) says M S p same = tt
  refused-left line old new (Err stop.Disk) says M S p same = tt
  refused-left line old new (Err stop.Report) says M S p same = tt

-- ---- the message of the execution

module _ {A E : Type 0} (before now : ℕ) where
  pub made-left : (p : Planned) (M S : List ℕ) (q : Pair) (line : List ℕ) (old new : ReportLines) (made : Result A E) (result : Result Status CommandEnd) → OnOk made (q ≡ both (applied M (writes_of p)) (0 ∷ []))
      → HasMadeCause made before now result → SaysVerdict old new result (done (line ∷ [])) → LeavesPlanned (status_of result) p M S q
  made-left p M S q line old new (Ok u) (Ok s) is cause says = subst (λ (t : Status). LeavesPlanned t p M S q) (sym says.0) is
  made-left p M S q line old new (Ok u) (Err stop.Memory) is cause says = absurd (cause.1 refl)
  made-left p M S q line old new (Ok u) (Err stop.Files) is cause says = tt
  made-left p M S q line old new (Ok u) (Err stop.Disk) is cause says = tt
  made-left p M S q line old new (Ok u) (Err stop.Report) is cause says = tt
  made-left p M S q line old new (Err e) result is cause says = subst (λ (r : Result Status CommandEnd). LeavesPlanned (status_of r) p M S q) (sym cause.0) tt

  -- A crash image of an execution is one by its status: once it is made, memory doesn't run out.
  pub made-image : (p : Planned) (M S m t line : List ℕ) (old new : ReportLines) (made : Result A E) (result : Result Status CommandEnd) → HasMadeCause made before now result → SaysVerdict old new result (done (line ∷ []))
      → IsEditing p M m t → LeftByPlan (status_of result) p M S m t
  made-image p M S m t line old new (Ok u) (Ok s) cause says image = subst (λ (e : Status). LeftByPlan e p M S m t) (sym says.0) image
  made-image p M S m t line old new (Ok u) (Err stop.Memory) cause says image = absurd (cause.1 refl)
  made-image p M S m t line old new (Ok u) (Err stop.Files) cause says image = image
  made-image p M S m t line old new (Ok u) (Err stop.Disk) cause says image = image
  made-image p M S m t line old new (Ok u) (Err stop.Report) cause says image = image
  made-image p M S m t line old new (Err e) result cause says image = subst (λ (r : Result Status CommandEnd). LeftByPlan (status_of r) p M S m t) (sym cause.0) image

  pub made-stop : {D T : Type 0} (r : reads.Ghosts D) (d : Ghosts D) (old new : D) (made : Result A E) (result : Result T CommandEnd) → r.reading_faults new ≡ r.reading_faults old
      → HasCause (λ _. true) (d.writing_faults old) (d.writing_faults new) made → HasMadeCause made before now result → HasDiskStop r d old new before now result
  made-stop r d old new (Ok u) result reading disk cause = said-stop r d old new before now result (record { reading = reading; writing = disk }) cause.0
  made-stop r d old new (Err e) result reading disk cause = subst (λ x. HasDiskStop r d old new before now x) (sym cause.0) (inr (reading, disk), cause.1)

-- ---- over a disk that is visible to the proof

told-outputs : (name : List ℕ) (r : Result (List ℕ) Refusal) → (told name r).outputs ≡ nothing
told-outputs name (Ok file) = refl
told-outputs name (Err why) = refl

pub begun-outputs : (name : List ℕ) (gate : Gate) (v : Verdict) → v.outputs ≡ nothing → (unless_begun name gate v).outputs ≡ nothing
begun-outputs name Quiet v none = none
begun-outputs name Live v none = refl
begun-outputs name (Bad offset) v none = refl

-- Edits write no output.
pub propedit-outputs : (is_there : Bool) (name : List ℕ) (edits : List Edit) (M S : List ℕ) → (propedit_verdict is_there name edits M S).outputs ≡ nothing
propedit-outputs true name edits M S = begun-outputs name (state S) (told name (edited M edits)) (told-outputs name (edited M edits))
propedit-outputs false name edits M S = refl

-- A property of the result for the content of the files is a property of the visible result.
pub edit-told : {D : Type 0} (d : Ghosts D) (disk : D) (name : List ℕ) (edits : List Edit) (Q : Verdict → Type 0) → OfReads d disk (λ M S. Q (propedit_verdict (d.is_there disk name) name edits M S)) → IfVisible (option_map (λ world. propedit_on world name edits) (disk_world d disk)) Q
edit-told d disk name edits Q so = by_told d.told so
  where
    world : DiskWorld
    world = record { is_there = d.is_there disk; media = (d.pair disk).media.reads; sidecar = (d.pair disk).sidecar.reads }

    by_told : (b : Bool) → (IsTrue b → Q (propedit_on world name edits)) → IfVisible (option_map (λ w. propedit_on w name edits) (if b then Some world else None)) Q
    by_told true so = λ v is. let same : propedit_on world name edits ≡ v = cc in subst Q same (so refl)
    by_told false so = λ v is. absurd (cc)
