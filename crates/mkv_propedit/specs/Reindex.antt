-- The outcome of `reindex`: its status and its lines. All of it is this project's.
use Rattle.std.specs.Prelude.{ℕ, ◌+◌, ◌*◌, Bool, List, [], ◌∷◌, length, Result, Ok, Err}
use Rattle.mkv_lines.specs.Line.{reindexed_line}
use Rattle.mkv_lines.specs.Verdict.{Verdict, done, refused}
use Rattle.sidecar_edit.specs.declared.place.TheConstants.{HEAD, KEPT}
use Rattle.sidecar_edit.specs.Writes.{Write}
use Rattle.mkv_io.specs.Results.{and_then}
use Rattle.edit_changes.specs.declared.refusal.Refusal.{Refusal}
use Rattle.reindex.specs.Plan.{Index, index_of}
use Rattle.mkv_propedit.specs.Propedit.{file_verdict, refusal_text}
use Rattle.mkv_propedit.specs.Recover.{DiskWorld}
use Rattle.mkv_disk.specs.declared.disk.Disk.{Ghosts}
use Rattle.mkv_io.specs.declared.report.Report.{Ghosts as ReportGhosts}
use Rattle.mkv_lines.specs.declared.status.Status.{Status}
use Rattle.mkv_lines.specs.declared.status.CommandEnd.{CommandEnd}
use Rattle.mkv_propedit.specs.Command.{SaysOfDisk}

-- ---- the result

-- the writes of a new index by `reindex` to a file with the content `M`, or the refusal
abbrev pub writes_of_index : List ℕ → Result (List Write) Refusal
writes_of_index M = and_then (index_of M) (λ x. Ok x.writes)

-- the outcome of `reindex` for the file `name`, given its new index or the refusal
abbrev pub indexed_told : List ℕ → Result Index Refusal → Verdict
indexed_told name (Ok x) = done (reindexed_line name (length x.points) ∷ [])
indexed_told name (Err why) = refused (refusal_text name why)

-- the outcome of `reindex` for the file `name` with the content `media` and a journal with the content `sidecar`; `is_there` is whether the file
-- exists
abbrev pub reindex_verdict : Bool → List ℕ → List ℕ → List ℕ → Verdict
reindex_verdict is_there name media sidecar = file_verdict is_there name sidecar (indexed_told name (index_of media))

-- The call prints the outcome of `reindex` for the file `name`. `disk` is the state of the disk before, `report` and `report'` are the states of the
-- report before and after. It is promised if the disk is visible to the proof. Used by the contract of `reindex`. `d` and `p` give the proof's view
-- of the disk and the report. `result` is what the call returned.
abbrev pub SaysOfReindex : {D P : Type 0} → Ghosts D → ReportGhosts P → D → P → P → Result Status CommandEnd → List ℕ → Type 0
SaysOfReindex d p disk report report' result name = SaysOfDisk d p disk report report' result (reindex_verdict (d.is_there disk name) name)

-- the outcome of `reindex` for the file `name` on a disk with the content `world`. The outcome of a run uses it.
abbrev pub reindex_on : DiskWorld → List ℕ → Verdict
reindex_on world name = reindex_verdict (world.is_there name) name world.media world.sidecar

-- ---- the bytes that are read

-- the limit in bytes for planning a new index of a file of `octets` bytes. It is 26 times the file, and its first KEPT bytes, which the journal has.
-- `reindex` reads no more.
abbrev pub most_to_index : ℕ → ℕ
most_to_index octets = 26 * octets + KEPT

-- the limit in bytes for writing a new index into a file of `octets` bytes: that for planning, and the head of its journal. The contract of `reindex`
-- has it.
abbrev pub most_to_reindex : ℕ → ℕ
most_to_reindex octets = HEAD + most_to_index octets
