-- The effects of the calls that read an open file and print its description. `old` and `new` are the states of the report before and after.
use Rattle.std.specs.Prelude.{◌≡◌, ℕ, List, Result, Ok}
use Rattle.mkv_io.specs.Sources.{IfTold}
use Rattle.mkv_io.specs.declared.outside.FileId.{FileId}
use Rattle.mkv_io.specs.declared.reads.Reads.{Ghosts as ReadsGhosts}
use Rattle.mkv_io.specs.declared.report.Report.{Ghosts as ReportGhosts}
use Rattle.element_reader.specs.Outline.{FileOutline, outline_in}
use Rattle.mkv_lines.specs.Command.{Fulfils, SaysTo}
use Rattle.mkv_lines.specs.Faults.{HasReadStop}
use Rattle.mkv_lines.specs.Verdict.{SaysVerdict, Verdict}
use Rattle.mkv_lines.specs.declared.status.Status.{Status}
use Rattle.mkv_lines.specs.declared.status.CommandEnd.{CommandEnd}
use Rattle.mkv_info.specs.Listed.{listed_verdict, shown_lines}
use Rattle.mkv_io.specs.Told.{IfVisible}
use Rattle.mkv_io.specs.declared.files.Files.{Ghosts as FilesGhosts}
use Rattle.mkv_info.specs.Info.{info_verdict, settled_verdict}
use Rattle.mkv_info.specs.declared.info.Form.{Form}

-- The call printed the lines of `verdict`, the outcome for the content of the file `file` in the state `src`, and has its status. A call that failed
-- printed a first part of them. `old` and `new` are the states of the report before and after. It is promised if the content is visible to the proof.
-- Contracts of `list_file` and `identify_file` use it. `r` and `p` give the proof's view of the files and the report. `result` is what the call
-- returned.
abbrev pub Informs : {S P : Type 0} → ReadsGhosts S → ReportGhosts P → S → FileId → P → P → Result Status CommandEnd → (List ℕ → Verdict) → Type 0
Informs r p src file old new result verdict = IfTold r src file (λ bytes. SaysVerdict (p.lines old) (p.lines new) result (verdict bytes))

-- The call printed `lines`, which depend on the content of the file `file` in the state `src`. A call that failed printed a first part of them. `old`
-- and `new` are the states of the report before and after. It is promised if the content is visible to the proof. Contracts of printing level 1 use
-- it. `r` and `p` give the proof's view of the files and the report. `result` is what the call returned.
abbrev pub SaysOf : {S P T : Type 0} → ReadsGhosts S → ReportGhosts P → S → FileId → P → P → Result T CommandEnd → (List ℕ → List (List ℕ)) → Type 0
SaysOf r p src file old new result lines = IfTold r src file (λ bytes. SaysTo p old new (lines bytes) result)

-- The call printed the list of the open file `file` with the name `name`, whose outline is `outline`, from the report `old` to `new`. `src` is the
-- state of the files; `r` and `p` have the parts of a state. The contract of `list_outline` promises it. `result` is what the call returned.
abbrev pub ListsOutline : {S P : Type 0} → ReadsGhosts S → ReportGhosts P → S → FileId → FileOutline → List ℕ → P → P → Result Status CommandEnd → Type 0
ListsOutline r p src file outline name old new result =
    IfTold r src file (λ bytes. outline_in 0 bytes ≡ Ok outline → SaysVerdict (p.lines old) (p.lines new) result (listed_verdict name bytes))

-- The call printed a line for the EBML header, the Segment, and each Element at level 1 of the open file `file`. `outline` is the file's outline, and
-- `src` the state of the files; the report `old` became `new`. The contract of `say_elements` promises it. `r` and `p` give the proof's view of the
-- files and the report. `result` is what the call returned.
abbrev pub SaysElements : {S P T : Type 0} → ReadsGhosts S → ReportGhosts P → S → FileId → FileOutline → P → P → Result T CommandEnd → Type 0
SaysElements r p src file outline old new result = SaysOf r p src file old new result (λ bytes. shown_lines bytes outline)

-- The call failed only because a count of failed reads or prints increased. `src` and `src_now` are the states of the files before and after, `old`
-- and `new` of the report. Contracts of the calls that print a description of a file promise it. `r` and `p` give the proof's view of the files and
-- the report. `result` is what the call returned.
abbrev pub HasTellStop : {S P T : Type 0} → ReadsGhosts S → ReportGhosts P → S → S → P → P → Result T CommandEnd → Type 0
HasTellStop r p src src_now old new result = HasReadStop (r.reading_faults src) (r.reading_faults src_now) (p.faults old) (p.faults new) result

-- ---- by the names, if they are visible to the proof

-- The call has the outcome of the command for the file `name` in the form `form`. `files` and `files'` are the states of the files before and after,
-- `report` and `report'` of the report. It is promised if the contents are visible to the proof. The contract of `info_of` promises it. `r`, `f` and
-- `p` give the proof's view of the files and the report. `result` is what the call returned.
abbrev pub Presents : {S P : Type 0} → ReadsGhosts S → FilesGhosts S → ReportGhosts P → S → S → P → P → Result Status CommandEnd → Form → List ℕ → Type 0
Presents r f p files files' report report' result form name =
    IfVisible (f.names files) (λ world. Fulfils r f p files files' report report' result (info_verdict form world name))

-- The call described the open file `file` with the name `name` in the form `form`, unless it has a pending edit. `files` is the state of the files,
-- `old` and `new` are the states of the report before and after. It is promised if the contents are visible to the proof. The contract of
-- `report_unless_pending` promises it. `r`, `f` and `p` give the proof's view of the files and the report. `result` is what the call returned.
abbrev pub TellsSettled : {S P : Type 0} → ReadsGhosts S → FilesGhosts S → ReportGhosts P → S → FileId → P → P → Result Status CommandEnd → Form → List ℕ → Type 0
TellsSettled r f p files file old new result form name =
    IfVisible (f.names files) (λ world. Informs r p files file old new result (settled_verdict form world name))
