-- The steps of `taken_of` that are left inside each inner call, and the effects of the calls. In each effect, `files` and `files'` are the states of
-- the files before and after the call, and `report` and `report'` of the report. No outcome depends on this module.
use Rattle.std.specs.Prelude.{ℕ, Bool, true, if◌then◌else◌, List, Some, None, Result}
use Rattle.mkv_io.specs.Results.{and_then, unless}
use Rattle.mkv_io.specs.Sources.{IfTold}
use Rattle.mkv_io.specs.Told.{IfVisible}
use Rattle.mkv_io.specs.declared.damage.Damage.{Damage}
use Rattle.mkv_io.specs.declared.outside.FileId.{FileId}
use Rattle.mkv_io.specs.declared.reads.Reads.{Ghosts as ReadsGhosts}
use Rattle.mkv_io.specs.declared.files.Files.{Ghosts as FilesGhosts}
use Rattle.mkv_io.specs.declared.report.Report.{Ghosts as ReportGhosts}
use Rattle.requests.specs.declared.job.Job.{Job}
use Rattle.block_format.specs.Events.{Event}
use Rattle.file_format.specs.FileBlocks.{file_events}
use Rattle.mkv_lines.specs.Command.{Fulfils}
use Rattle.mkv_lines.specs.Line.{pending_edit_line}
use Rattle.sidecar_edit.specs.Pending.{is_pending}
use Rattle.extractors.specs.Source.{events_in}
use Rattle.extractors.specs.declared.source.Source.{Source}
use Rattle.mkv_lines.specs.declared.status.Status.{Status}
use Rattle.mkv_lines.specs.declared.status.CommandEnd.{CommandEnd}
use Rattle.mkv_extract.specs.Extract.{Taken, attached_taken, done_verdict, frames_taken, or_line, taken_by, unfit_track, verdict_of}
use Rattle.mkv_extract.specs.Read.{FileRead, read_in, read_of}
use Rattle.requests.specs.declared.job.Target.{Target}

-- the content for `job` from the file `name` with the content `bytes`, once it was read as `file`, with the blocks and damage `events`. The check of
-- its tracks for the job's form is left. For `found_taken` and the contract of `extract_job`.
abbrev pub fit_taken : List ℕ → Job → List ℕ → FileRead → List Event → Result Taken (List ℕ)
fit_taken name job bytes file events = unless (unfit_track name job file) (taken_by name job bytes file events)

-- the content for `job` from the file `name` with the content `bytes`, given `found`, its records or their refusal; or the refusal. For `file_taken`
-- and `settled_taken`, in the steps of `extract`.
abbrev pub found_taken : List ℕ → Job → List ℕ → Result FileRead Damage → Result Taken (List ℕ)
found_taken name job bytes found =
    and_then (or_line name found) (λ (file : FileRead). fit_taken name job bytes file (file_events true bytes file.segment))

-- the content for `job` from the file `name` with the content `bytes`, after the check for a pending edit; or the refusal. For the contract of
-- `extract_file`.
abbrev pub file_taken : List ℕ → Job → List ℕ → Result Taken (List ℕ)
file_taken name job bytes = found_taken name job bytes (read_of job bytes)

-- the content for `job` from the file `name` with the content `bytes`, or the refusal. If `pending` is true, its journal has a pending edit, and it
-- is refused. For the contract of `extract_settled`.
abbrev pub settled_taken : List ℕ → Job → Bool → List ℕ → Result Taken (List ℕ)
settled_taken name job pending bytes =
    and_then (unless (if pending then Some (pending_edit_line name) else None) (read_of job bytes)) (found_taken name job bytes)

-- ---- the effects of the calls

-- The call has the outcome of `taken` for the content of the open file `file` with the name `name`. `files` and `files'` are the states of the files
-- before and after, `report` and `report'` of the report. It is promised if the content is visible to the proof. Used by the contracts of `extract`'s
-- steps. `r`, `f` and `p` give the proof's view of the files and the report. `result` is what the call returned.
abbrev pub ComesToTaken : {F P : Type 0} → ReadsGhosts F → FilesGhosts F → ReportGhosts P → FileId → F → F → P → P → Result Status CommandEnd → List ℕ → (List ℕ → Result Taken (List ℕ)) → Type 0
ComesToTaken r f p file files files' report report' result name taken =
    IfTold r files file (λ bytes. Fulfils r f p files files' report report' result (verdict_of name (taken bytes)))

-- The call did `job` on the open file `file` with the name `name`, unless its journal has a pending edit. `files` and `files'` are the states of the
-- files before and after, `report` and `report'` of the report. The contract of `extract_settled` states it. `r`, `f` and `p` give the proof's view
-- of the files and the report. `result` is what the call returned.
abbrev pub TakesSettled : {F P : Type 0} → ReadsGhosts F → FilesGhosts F → ReportGhosts P → FileId → F → F → P → P → Result Status CommandEnd → List ℕ → Job → Type 0
TakesSettled r f p file files files' report report' result name job =
    IfVisible (f.names files) (λ world. ComesToTaken r f p file files files' report report' result name (settled_taken name job (is_pending world name)))

-- The call did `job` on the open file `file` with the name `name`, or refused the file. `files` and `files'` are the states of the files before and
-- after, `report` and `report'` of the report. The contract of `extract_file` states it. `r`, `f` and `p` give the proof's view of the files and the
-- report. `result` is what the call returned.
abbrev pub TakesFile : {F P : Type 0} → ReadsGhosts F → FilesGhosts F → ReportGhosts P → FileId → F → F → P → P → Result Status CommandEnd → List ℕ → Job → Type 0
TakesFile r f p file files files' report report' result name job = ComesToTaken r f p file files files' report report' result name (file_taken name job)

-- The call did `job` on `source`, which was read from the file `name`, unless a track can't be extracted in its form. `files` and `files'` are the
-- states of the files before and after, `report` and `report'` of the report. The contract of `extract_job` states it. `r`, `f` and `p` give the
-- proof's view of the files and the report. `result` is what the call returned.
abbrev pub TakesSource : {F P : Type 0} → ReadsGhosts F → FilesGhosts F → ReportGhosts P → Source → F → F → P → P → Result Status CommandEnd → List ℕ → Job → Type 0
TakesSource r f p source files files' report report' result name job =
    ComesToTaken r f p source.file files files' report report' result name (λ bytes. fit_taken name job bytes (read_in source) (events_in source bytes))

-- The call extracted the frames that `job` asks for from `source`, the file `name`, unless a track can't be extracted in its form. `files` and
-- `files'` are the states of the files before and after, `report` and `report'` of the report. The contract of `extract_fit` states it. `r`, `f` and
-- `p` give the proof's view of the files and the report. `result` is what the call returned.
abbrev pub TakesFrames : {F P : Type 0} → ReadsGhosts F → FilesGhosts F → ReportGhosts P → Source → F → F → P → P → Result Status CommandEnd → List ℕ → Job → Type 0
TakesFrames r f p source files files' report report' result name job =
    ComesToTaken r f p source.file files files' report report' result name (λ bytes.
    unless (unfit_track name job (read_in source)) (frames_taken name job (read_in source) (events_in source bytes)))

-- The call extracted the frames that `job` asks for from `source`, the file `name`, whose tracks can all be extracted in its form. `files` and
-- `files'` are the states of the files before and after, `report` and `report'` of the report. The contract of `extract_source` states it. `r`, `f`
-- and `p` give the proof's view of the files and the report. `result` is what the call returned.
abbrev pub TakesFit : {F P : Type 0} → ReadsGhosts F → FilesGhosts F → ReportGhosts P → Source → F → F → P → P → Result Status CommandEnd → List ℕ → Job → Type 0
TakesFit r f p source files files' report report' result name job = IfTold r files source.file (λ bytes.
    Fulfils r f p files files' report report' result (done_verdict name (frames_taken name job (read_in source) (events_in source bytes))))

-- The call extracted the attached files that `targets` name from `source`, which was read from the file `name`. `files` and `files'` are the states
-- of the files before and after, `report` and `report'` of the report. The contract of `extract_attachments` states it. `r`, `f` and `p` give the
-- proof's view of the files and the report. `result` is what the call returned.
abbrev pub TakesAttached : {F P : Type 0} → ReadsGhosts F → FilesGhosts F → ReportGhosts P → Source → F → F → P → P → Result Status CommandEnd → List ℕ → List Target → Type 0
TakesAttached r f p source files files' report report' result name targets = IfTold r files source.file (λ bytes.
    Fulfils r f p files files' report report' result (done_verdict name (attached_taken name targets bytes (read_in source))))
