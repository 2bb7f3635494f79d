-- The requirements of an extraction from a file, and the effect of the whole call.
use Rattle.std.specs.Prelude.{ℕ, List, Result}
use Rattle.mkv_io.specs.Names.{AreOthers}
use Rattle.mkv_io.specs.Sources.{IsLive}
use Rattle.mkv_io.specs.declared.files.Files.{Ghosts as FilesGhosts}
use Rattle.mkv_io.specs.declared.outside.FileId.{FileId}
use Rattle.mkv_io.specs.declared.reads.Reads.{Ghosts as ReadsGhosts}
use Rattle.mkv_io.specs.declared.report.Report.{Ghosts as ReportGhosts}
use Rattle.mkv_io.specs.Told.{IfVisible}
use Rattle.requests.specs.declared.job.Job.{Job}
use Rattle.extractors.specs.Job.{CanBeDone, names_for, targets_of}
use Rattle.extractors.specs.Source.{AreUsable, IsSource}
use Rattle.extractors.specs.declared.source.Source.{Source}
use Rattle.mkv_lines.specs.Command.{Fulfils}
use Rattle.mkv_lines.specs.declared.status.Status.{Status}
use Rattle.mkv_lines.specs.declared.status.CommandEnd.{CommandEnd}
use Rattle.mkv_extract.specs.Extract.{extract_verdict}

-- The call has the outcome of `extract` for the file `name` and `job`. `files` and `files'` are the states of the files before and after, `report`
-- and `report'` of the report. It is promised if the contents are visible to the proof. The contract of `extract_of` states it. `r`, `f` and `p` give
-- the proof's view of the files and the report. `result` is what the call returned.
abbrev pub Takes : {F P : Type 0} → ReadsGhosts F → FilesGhosts F → ReportGhosts P → F → F → P → P → Result Status CommandEnd → List ℕ → Job → Type 0
Takes r f p files files' report report' result name job =
    IfVisible (f.names files) (λ world. Fulfils r f p files files' report report' result (extract_verdict world name job))

-- `job` can be done on `file`, which is open in the state `files`, and no output has its name. The condition of `extract_settled` and `extract_file`.
pub record CanTake {F : Type 0} (r : ReadsGhosts F) (f : FilesGhosts F) (files : F) (file : FileId) (job : Job) : Type 0 where
  pub done : CanBeDone job
  pub live : IsLive r files file
  pub other : AreOthers (f.holder files file.n) (names_for job)

-- `job` can be done on `source`, which is open in the state `files`. The frames of the tracks that the job names can be used, and no output has the
-- name of the source. The condition of `extract_job` and what it calls.
pub record CanTakeFrom {F : Type 0} (r : ReadsGhosts F) (f : FilesGhosts F) (files : F) (source : Source) (job : Job) : Type 0 where
  pub done : CanBeDone job
  pub sound : IsSource r files source
  pub usable : AreUsable source (targets_of job)
  pub other : AreOthers (f.holder files source.file.n) (names_for job)
