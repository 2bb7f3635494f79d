-- The effect of an edit in place on a file and its journal, at its end and at any moment. It is this project's.
use Rattle.std.specs.Prelude.{◌≡◌, ◌≢◌, ◌⊎◌, ◌≤◌, ◌+◌, ℕ, List, [], ◌∷◌, length, Some, Result, Ok, Err}
use Rattle.mkv_io.specs.declared.reads.Reads as reads
use Rattle.mkv_disk.specs.Calls.{AnyMoment, OfReads}
use Rattle.mkv_disk.specs.Pair.{Pair, both}
use Rattle.mkv_disk.specs.declared.disk.Disk.{Ghosts}
use Rattle.requests.specs.declared.edit.Edit.{Edit}
use Rattle.mkv_lines.specs.Said.{HasSayCause}
use Rattle.mkv_lines.specs.declared.status.Status.{Status}
use Rattle.mkv_lines.specs.declared.status.Status.TheVariants as status
use Rattle.mkv_lines.specs.declared.status.CommandEnd.{CommandEnd}
use Rattle.mkv_lines.specs.declared.status.CommandEnd.TheVariants as stop
use Rattle.mkv_propedit.specs.Recovery.{IsUnopened}
use Rattle.sidecar_edit.specs.declared.held.Gate.TheVariants.{Quiet}
use Rattle.sidecar_edit.specs.declared.place.TheConstants.{OPEN}
use Rattle.sidecar_edit.specs.Fields.{IsMadeFor, IsPlan, Planned, body_of, writes_of}
use Rattle.sidecar_edit.specs.Gate.{state}
use Rattle.sidecar_edit.specs.Recovery.{IsQuiet, recovered}
use Rattle.sidecar_edit.specs.Writes.{Write, applied}
use Rattle.sidecar_edit.specs.Leaves.{IsEditing, IsRecoverable}
use Rattle.edit_changes.specs.declared.refusal.Refusal.{Refusal}
use Rattle.edit_changes.specs.Plan.{plan_of, recorded}
use Rattle.mkv_io.specs.Sources.{file_size}
use Rattle.mkv_disk.specs.declared.disk.TheConstants.{MEDIA}

-- ---- the writes

-- the writes of the edits `edits` of `propedit` to a file with the content `M`, or the refusal
abbrev pub writes_of_edits : List Edit → List ℕ → Result (List Write) Refusal
writes_of_edits edits M = plan_of M edits

-- ---- after the end

-- The file with the content `M` and the journal with the content `S`, without a pending edit, have become `p`. The file has the writes that `found`
-- gives for it, and the journal is reset. It is the state after a successful `propedit` or `reindex`.
pub record IsEdited (found : List ℕ → Result (List Write) Refusal) (M S : List ℕ) (p : Pair) : Type 0 where
  pub quiet : state S ≡ Quiet
  pub writes : List Write
  pub made : found M ≡ Ok writes
  pub pair : p ≡ both (applied M writes) (0 ∷ [])

-- An edit in place that ended with this status has made `p` of the file `M` and the journal `S`. If it is done, the file is edited by the writes that
-- `found` gives. After a refusal, or out of memory, nothing has changed. After a failed call nothing is promised here. The contract of `run` has it
-- for `propedit` and `reindex`.
abbrev pub LeavesEdited : Status → (List ℕ → Result (List Write) Refusal) → List ℕ → List ℕ → Pair → Type 0
LeavesEdited status.Done found M S p = IsEdited found M S p
LeavesEdited status.Outside found M S p = Unit {0}
LeavesEdited s found M S p = p ≡ both M S

-- ---- at any moment

-- The contents `m` and `s` are a crash image of an edit of the file `M` beside the journal `S`, which had no pending edit. The edit makes the writes
-- that `found` gives. A recovery gives the file as it was or with the writes, and the pair can be recovered. The journal has no pending edit, or
-- holds exactly the record of the writes. The file isn't shorter than it was. A part of `IsBeingEdited`.
pub record IsUnderway (found : List ℕ → Result (List Write) Refusal) (M S m s : List ℕ) : Type 0 where
  pub quiet : state S ≡ Quiet
  pub writes : List Write
  pub made : found M ≡ Ok writes
  pub stands : (recovered m s ≡ M) ⊎ (recovered m s ≡ applied M writes)
  pub recoverable : IsRecoverable m s
  pub sidecar : IsQuiet s ⊎ (s ≡ OPEN ∷ body_of (recorded M writes))
  pub no_shorter : length M ≤ length m

-- The contents `m` and `s` are a crash image of an edit of the file `M` beside the journal `S`. They are as they were, or an image of the edit that
-- is underway. The edit makes the writes that `found` gives. A part of `LeftByEdit`.
abbrev pub IsBeingEdited : (List ℕ → Result (List Write) Refusal) → List ℕ → List ℕ → List ℕ → List ℕ → Type 0
IsBeingEdited found M S m s = ((m ≡ M) × (s ≡ S)) ⊎ IsUnderway found M S m s

-- The contents `m` and `s` are a crash image of an edit of the file `M` beside the journal `S` that ended with this status. Both are as they were if
-- it was refused or ran out of memory, or else an image of the edit. It makes the writes that `found` gives. Used for the state after `propedit` or
-- `reindex` was cut off at any moment.
abbrev pub LeftByEdit : Status → (List ℕ → Result (List Write) Refusal) → List ℕ → List ℕ → List ℕ → List ℕ → Type 0
LeftByEdit status.Refused found M S m s = (m ≡ M) × (s ≡ S)
LeftByEdit status.NoMemory found M S m s = (m ≡ M) × (s ≡ S)
LeftByEdit e found M S m s = IsBeingEdited found M S m s

-- ---- after the end and at any moment

-- An edit that ended with the status `s` took the disk from `old` to `new`. It has the file and journal at the end, and their crash images at any
-- moment. It makes the writes that `found` gives. Used by the contracts of `change_open` and `change_quiet`.
pub record IsEdit {D : Type 0} (d : Ghosts D) (found : List ℕ → Result (List Write) Refusal) (old new : D) (s : Status) : Type 0 where
  pub pair : OfReads d old (λ M S. LeavesEdited s found M S (d.pair new))
  pub any_moment : AnyMoment d old new (LeftByEdit s found)

-- An edit of the file `name` that ended with the status `s` took the disk from `old` to `new`, as `IsEdit` describes. `found` gives the writes for a
-- content. The file and its journal are open under this name, or couldn't be opened. Used by the contracts of `propedit` and `reindex`.
pub record IsEditOf {D : Type 0} (r : reads.Ghosts D) (d : Ghosts D) (name : List ℕ) (found : List ℕ → Result (List Write) Refusal) (old new : D) (s : Status) : Type 0 where
  pub leaves : IsEdit d found old new s
  pub opened : (d.opened new ≡ Some name) ⊎ IsUnopened r d name old new s

-- From the state `old` to `new`, the file and its journal stay open under their name, and at most `most` bytes are read. Used by the contract of
-- `recover_open`.
pub record StaysOpen {D : Type 0} (r : reads.Ghosts D) (d : Ghosts D) (old new : D) (most : ℕ) : Type 0 where
  pub opened : d.opened new ≡ d.opened old
  pub octets : r.octets_read new ≤ r.octets_read old + most

-- From the state `old` to `new`, the file and its journal stay open under their name. The number of bytes that are read is bounded by `most` of the
-- file's length in `old`. Used by the contracts of `change_open` and `change_quiet`. `r` and `d` give the proof's view of the disk.
abbrev pub StaysOpenOf : {D : Type 0} → reads.Ghosts D → Ghosts D → D → D → (ℕ → ℕ) → Type 0
StaysOpenOf r d old new most = StaysOpen r d old new (most (file_size r old MEDIA))

-- ---- the execution of a plan

-- The plan `plan` was made for a file with the content `M`, and its journal, with the content `S`, has no pending edit. `edit_planned` and
-- `carry_out` require it.
pub record IsPlannedFor (plan : Planned) (M S : List ℕ) : Type 0 where
  pub sound : IsPlan plan
  pub made : IsMadeFor plan.head M
  pub quiet : IsQuiet S

-- The execution of `plan` that ended with this status has made `p` of the file `M` and the journal `S`. If it is done, the writes of the plan are
-- made, and the journal is reset. Out of memory, nothing has changed. After a failed call nothing is promised here. Used by the contract of
-- `edit_planned`.
abbrev pub LeavesPlanned : Status → Planned → List ℕ → List ℕ → Pair → Type 0
LeavesPlanned status.Done plan M S p = p ≡ both (applied M (writes_of plan)) (0 ∷ [])
LeavesPlanned status.Outside plan M S p = Unit {0}
LeavesPlanned s plan M S p = p ≡ both M S

-- The contents `m` and `s` are a crash image of the execution of `plan` for the file `M` beside the journal `S`. They are as they were if it ended
-- out of memory. Used by the contract of `edit_planned`.
abbrev pub LeftByPlan : Status → Planned → List ℕ → List ℕ → List ℕ → List ℕ → Type 0
LeftByPlan status.Refused plan M S m s = (m ≡ M) × (s ≡ S)
LeftByPlan status.NoMemory plan M S m s = (m ≡ M) × (s ≡ S)
LeftByPlan e plan M S m s = IsEditing plan M m s

-- A call printed the outcome of a change, which gave the result in the first argument. If the change failed, the call fails with the disk and prints
-- nothing. If not, it can fail only to print, and not for memory. `before` and `now` count the failed prints. Used by the contract of `tell` for
-- `propedit` and `reindex`. `result` is what the call returned.
abbrev pub HasMadeCause : {A E T : Type 0} → Result A E → ℕ → ℕ → Result T CommandEnd → Type 0
HasMadeCause (Ok _) before now result = HasSayCause before now result × (result ≢ Err stop.Memory)
HasMadeCause (Err _) before now result = (result ≡ Err stop.Disk) × (now ≡ before)
