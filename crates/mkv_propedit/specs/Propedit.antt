-- The outcome of `propedit`: its status and its lines. All of it is this project's, after mkvpropedit(1).
use Rattle.std.specs.Prelude.{ℕ, Bool, if◌then◌else◌, List, [], ◌∷◌, codes, Result, Ok, Err}
use Rattle.requests.specs.declared.edit.Edit.{Edit}
use Rattle.mkv_lines.specs.Line.{bad_sidecar_line, edit_refused_line, edit_too_large_line, edited_line, missing_line, no_room_line, pending_edit_line, refusal_line}
use Rattle.mkv_lines.specs.Verdict.{Verdict, done, refused}
use Rattle.mkv_propedit.specs.Recover.{DiskWorld}
use Rattle.sidecar_edit.specs.declared.held.Gate.{Gate}
use Rattle.sidecar_edit.specs.declared.held.Gate.TheVariants.{Bad, Live, Quiet}
use Rattle.sidecar_edit.specs.Gate.{state}
use Rattle.edit_changes.specs.declared.refusal.Refusal.{Refusal}
use Rattle.edit_changes.specs.declared.refusal.Refusal.TheVariants as refusal
use Rattle.edit_changes.specs.declared.refusal.Room.{Room}
use Rattle.edit_changes.specs.declared.refusal.Room.TheVariants.{SeekHead, SegmentSize, Tail, Twin}
use Rattle.edit_changes.specs.declared.refusal.EditRefusal.{EditRefusal}
use Rattle.edit_changes.specs.declared.refusal.EditRefusal.TheVariants.{AlreadyThere, BadPropertyValue, Mandatory, NoInfo, NoSuchProperty, NoSuchTrack}
use Rattle.edit_changes.specs.Plan.{edited}
use Rattle.mkv_disk.specs.declared.disk.Disk.{Ghosts}
use Rattle.mkv_io.specs.declared.report.Report.{Ghosts as ReportGhosts}
use Rattle.mkv_lines.specs.declared.status.Status.{Status}
use Rattle.mkv_lines.specs.declared.status.CommandEnd.{CommandEnd}
use Rattle.mkv_propedit.specs.Command.{SaysOfDisk}

-- ---- the names of refusals in a message

-- the name of the reason for a refused edit in an error line of `propedit`
abbrev pub why_name : EditRefusal → List ℕ
why_name NoInfo = codes "NoInfo"
why_name NoSuchTrack = codes "NoSuchTrack"
why_name NoSuchProperty = codes "NoSuchProperty"
why_name BadPropertyValue = codes "BadPropertyValue"
why_name AlreadyThere = codes "AlreadyThere"
why_name Mandatory = codes "Mandatory"

-- the name of the kind of missing room in an error line of `propedit` or `reindex`
abbrev pub room_name : Room → List ℕ
room_name Tail = codes "Tail"
room_name Twin = codes "Twin"
room_name SeekHead = codes "SeekHead"
room_name SegmentSize = codes "SegmentSize"

-- the error line for the refusal, in the second argument, of an edit or a new index of the file `name`. `propedit` and `reindex` print it.
abbrev pub refusal_text : List ℕ → Refusal → List ℕ
refusal_text name (refusal.Damaged damage) = refusal_line name damage
refusal_text name (refusal.Edit edit why) = edit_refused_line name (why_name why) edit
refusal_text name (refusal.EditTooLarge length nodes) = edit_too_large_line name length nodes
refusal_text name (refusal.NoRoom why need have) = no_room_line name (room_name why) need have

-- ---- the result

-- the outcome of `propedit` for the file `name`, given its edited content or the refusal of the edits
abbrev pub told : List ℕ → Result (List ℕ) Refusal → Verdict
told name (Ok file) = done (edited_line name ∷ [])
told name (Err why) = refused (refusal_text name why)

-- the outcome `v` for the file `name`, or its refusal by the state of its journal, given second: a pending edit, or an invalid journal.
-- `file_verdict` uses it.
abbrev pub unless_begun : List ℕ → Gate → Verdict → Verdict
unless_begun name Quiet v = v
unless_begun name Live v = refused (pending_edit_line name)
unless_begun name (Bad offset) v = refused (bad_sidecar_line name offset)

-- the outcome of a change in place of the file `name`, whose journal has the content `sidecar`. A missing file (`is_there` is false), a pending edit
-- and an invalid journal are refused. Otherwise it is `v`. Used for `propedit` and `reindex`.
abbrev pub file_verdict : Bool → List ℕ → List ℕ → Verdict → Verdict
file_verdict is_there name sidecar v = if is_there then unless_begun name (state sidecar) v else refused (missing_line name)

-- the outcome of `propedit` with `edits` for the file `name` with the content `media` and a journal with the content `sidecar`. `is_there` is whether
-- the file exists. Used by `SaysOfEdits`.
abbrev pub propedit_verdict : Bool → List ℕ → List Edit → List ℕ → List ℕ → Verdict
propedit_verdict is_there name edits media sidecar = file_verdict is_there name sidecar (told name (edited media edits))

-- The call prints the outcome of `edits` for the file `name`. `disk` is the state of the disk before, `report` and `report'` are the states of the
-- report before and after. It is promised if the disk is visible to the proof. Used by the contract of `propedit`. `d` and `p` give the proof's view
-- of the disk and the report. `result` is what the call returned.
abbrev pub SaysOfEdits : {D P : Type 0} → Ghosts D → ReportGhosts P → D → P → P → Result Status CommandEnd → List ℕ → List Edit → Type 0
SaysOfEdits d p disk report report' result name edits = SaysOfDisk d p disk report report' result (propedit_verdict (d.is_there disk name) name edits)

-- the outcome of `propedit` with `edits` for the file `name` on a disk with the content `world`. The outcome of a run uses it.
abbrev pub propedit_on : DiskWorld → List ℕ → List Edit → Verdict
propedit_on world name edits = propedit_verdict (world.is_there name) name edits world.media world.sidecar
