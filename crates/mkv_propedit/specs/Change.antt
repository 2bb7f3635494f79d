-- A change of a file in place, by `propedit` or `reindex`: its writes, and the outcome of the command. It is this project's.
use Rattle.std.specs.Prelude.{◌≡◌, ⊤, ℕ, ◌+◌, Bool, List, [], ◌∷◌, Result, Ok, Err}
use Rattle.mkv_lines.specs.Line.{text_of}
use Rattle.mkv_lines.specs.Verdict.{Verdict, done, refused}
use Rattle.sidecar_edit.specs.declared.place.TheConstants.{HEAD}
use Rattle.sidecar_edit.specs.Fields.{Planned}
use Rattle.sidecar_edit.specs.Writes.{Write}
use Rattle.mkv_io.specs.Results.{and_then}
use Rattle.edit_changes.specs.Plan.{edited, recorded}
use Rattle.edit_changes.specs.declared.refusal.Refusal.{Refusal}
use Rattle.edit_plan.specs.declared.plan_end.PlanEnd.{PlanEnd}
use Rattle.edit_plan.specs.declared.plan_end.PlanEnd.TheVariants as end
use Rattle.reindex.specs.Plan.{index_of}
use Rattle.mkv_propedit.specs.Bound.{most_to_plan}
use Rattle.mkv_propedit.specs.Left.{writes_of_edits}
use Rattle.mkv_propedit.specs.Propedit.{file_verdict, refusal_text, told, unless_begun}
use Rattle.mkv_propedit.specs.Reindex.{indexed_told, most_to_index, writes_of_index}
use Rattle.mkv_propedit.specs.declared.change.FileChange.{FileChange}
use Rattle.mkv_propedit.specs.declared.change.FileChange.TheVariants.{Edits, Index}
use Rattle.mkv_propedit.specs.declared.change.ChangePlan.{ChangePlan}
use Rattle.mkv_disk.specs.declared.disk.Disk.{Ghosts}
use Rattle.mkv_io.specs.declared.report.Report.{Ghosts as ReportGhosts}
use Rattle.mkv_lines.specs.declared.status.Status.{Status}
use Rattle.mkv_lines.specs.declared.status.CommandEnd.{CommandEnd}
use Rattle.mkv_propedit.specs.Command.{SaysOfDisk}
use Rattle.sidecar_edit.specs.Gate.{state}

-- the writes of the change in the first argument to a file, given the file's content, or the refusal. Contracts of the common steps of `propedit` and
-- `reindex` have them.
abbrev pub writes_of_change : FileChange → List ℕ → Result (List Write) Refusal
writes_of_change (Edits edits) = writes_of_edits edits.now
writes_of_change Index = writes_of_index

-- the outcome of a change of the file `name` with the content `M`, by `propedit` or `reindex`: the line that reports it, or the error line of its
-- refusal
abbrev pub change_told : List ℕ → FileChange → List ℕ → Verdict
change_told name (Edits edits) M = told name (edited M edits.now)
change_told name Index M = indexed_told name (index_of M)

-- the outcome of `change`, by `propedit` or `reindex`, for the file `name` with the content `media` and a journal with the content `sidecar`. If
-- `is_there` is false, the file doesn't exist.
abbrev pub change_verdict : Bool → List ℕ → FileChange → List ℕ → List ℕ → Verdict
change_verdict is_there name change media sidecar = file_verdict is_there name sidecar (change_told name change media)

-- The call prints the outcome of `change` for the file `name`. `disk` is the state of the disk before, `report` and `report'` are the states of the
-- report before and after. It is promised if the disk is visible to the proof. Used by the contract of `change_file`. `d` and `p` give the proof's
-- view of the disk and the report. `result` is what the call returned.
abbrev pub SaysOfChange : {D P : Type 0} → Ghosts D → ReportGhosts P → D → P → P → Result Status CommandEnd → List ℕ → FileChange → Type 0
SaysOfChange d p disk report report' result name change = SaysOfDisk d p disk report report' result (change_verdict (d.is_there disk name) name change)

-- The call prints the outcome of `change` for the file `name`, which is open with its journal on `disk`. `report` and `report'` are the states of the
-- report before and after. It is promised if the disk is visible to the proof. Used by the contract of `change_open`. `d` and `p` give the proof's
-- view of the disk and the report. `result` is what the call returned.
abbrev pub SaysOfOpened : {D P : Type 0} → Ghosts D → ReportGhosts P → D → P → P → Result Status CommandEnd → List ℕ → FileChange → Type 0
SaysOfOpened d p disk report report' result name change = SaysOfDisk d p disk report report' result (λ M S. unless_begun name (state S) (change_told name change M))

-- The call prints the outcome of `change` for the file `name`, which is open on `disk` without a pending edit. `report` and `report'` are the states
-- of the report before and after. It is promised if the disk is visible to the proof. Used by the contract of `change_quiet`. `d` and `p` give the
-- proof's view of the disk and the report. `result` is what the call returned.
abbrev pub SaysOfQuiet : {D P : Type 0} → Ghosts D → ReportGhosts P → D → P → P → Result Status CommandEnd → List ℕ → FileChange → Type 0
SaysOfQuiet d p disk report report' result name change = SaysOfDisk d p disk report report' result (λ M S. change_told name change M)

-- ---- the bytes that are read

-- the limit in bytes for planning a change, given in the first argument, of a file of `octets` bytes. The contract of `plan_change` has it.
abbrev pub most_to_plan_change : FileChange → ℕ → ℕ
most_to_plan_change (Edits edits) octets = most_to_plan octets
most_to_plan_change Index octets = most_to_index octets

-- the limit in bytes for making `change` of a file of `octets` bytes in place: that for planning, and the head of its journal. The contract of
-- `change_file` has it.
abbrev pub most_to_change : FileChange → ℕ → ℕ
most_to_change change octets = HEAD + most_to_plan_change change octets

-- ---- the plan of a change

-- the journal's record of the writes of `change` to a file with the content `M`, or the refusal. `GivesChange` uses it.
abbrev pub record_of_change : FileChange → List ℕ → Result Planned Refusal
record_of_change change M = and_then (writes_of_change change M) (λ ws. Ok (recorded M ws))

-- The result is a plan of `change` for the file `name` with the content `M`: its record and the line that reports it. Or the change is refused, with
-- the error line of its refusal; or a read failed, or memory ran out. Used by the contract of `plan_change`.
abbrev pub GivesChange : List ℕ → FileChange → List ℕ → Result ChangePlan PlanEnd → Type 0
GivesChange name change M (Ok made) = (record_of_change change M ≡ Ok made.plan) × (change_told name change M ≡ done (text_of made.line ∷ []))
GivesChange name change M (Err (end.Refused why)) = change_told name change M ≡ refused (refusal_text name why)
GivesChange name change M (Err end.ReadFault) = ⊤
GivesChange name change M (Err end.Memory) = ⊤
