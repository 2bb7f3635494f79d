-- The outcome of a command: its status, the lines that it prints, and the outputs that it writes. It is this project's.
use Rattle.std.specs.Prelude.{◌≡◌, ◌⊎◌, ℕ, Bool, true, false, List, [], ◌∷◌, Result, Ok, Err}
use Rattle.mkv_io.specs.Lines.{with_lines}
use Rattle.mkv_io.specs.Names.{Names}
use Rattle.mkv_outputs.specs.Drafts.{Draft, AreWrittenInOrder, outputs_of}
use Rattle.mkv_outputs.specs.Outputs.{Output, with_outputs}
use Rattle.mkv_outputs.specs.Starts.{ArePrefixes}
use Rattle.mkv_lines.specs.Line.{pending_edit_line}
use Rattle.mkv_lines.specs.Said.{ReportLines, SaysPart}
use Rattle.mkv_lines.specs.Seen.{Seen}
use Rattle.mkv_lines.specs.declared.status.Status.{Status}
use Rattle.mkv_lines.specs.declared.status.Status.TheVariants as status
use Rattle.mkv_lines.specs.declared.status.CommandEnd.{CommandEnd}

-- Outputs of a command: written together, as by an extraction (`at_once`), or in sequence, as the parts of a merge (`in_turn`).
pub data WrittenOutputs : Type 0 where
  at_once : List Output → WrittenOutputs
  in_turn : List Draft → WrittenOutputs

-- the outputs of a command as a list of names and contents, in their order. `IsDone` uses it.
abbrev pub list_of : WrittenOutputs → List Output
list_of (at_once all) = all
list_of (in_turn all) = outputs_of all

-- the outputs of a command that writes none, such as `info`
abbrev pub nothing : WrittenOutputs
nothing = at_once []

-- The outcome of a command. The lines of `before`, the first of `lines`, are printed before an output is created. The others are printed when all
-- outputs are complete. Each command has a definition of its outcome.
pub record Verdict : Type 0 where
  pub status : Status
  pub lines : List (List ℕ)
  pub before : List (List ℕ)
  pub outputs : WrittenOutputs

-- the outcome with the status `s` of a command that writes nothing and prints `lines`. Used by `done`, `refused` and others.
abbrev pub only_said : Status → List (List ℕ) → Verdict
only_said s lines = record { status = s; lines = lines; before = []; outputs = nothing }

-- the outcome of a command that is done, writes nothing and prints `lines`. Used by `octets_done` of `mkv_memory` and others.
abbrev pub done : List (List ℕ) → Verdict
done lines = only_said status.Done lines

-- the outcome of a refused command, which prints only `line`. Used by `refuse` and `unless_pending`.
abbrev pub refused : List ℕ → Verdict
refused line = only_said status.Refused (line ∷ [])

-- the outcome `v` of `info` for the file `name`, or its refusal if the boolean, whether its journal has a pending edit, is true
abbrev pub unless_pending : List ℕ → Bool → Verdict → Verdict
unless_pending name true v = refused (pending_edit_line name)
unless_pending name false v = v

-- ---- a command

-- A command that writes nothing has the outcome `v`: from the report `old` to `new` its lines were printed, and it has its status. Or it ended early,
-- with a first part of the lines printed. Used by the contracts of `info`, `propedit`, `reindex` and `recover`.
abbrev pub SaysVerdict : ReportLines → ReportLines → Result Status CommandEnd → Verdict → Type 0
SaysVerdict old new (Ok s) v = (s ≡ v.status) × (new ≡ with_lines old v.lines)
SaysVerdict old new (Err e) v = SaysPart old new v.lines

-- From the state `old` to `new`, all lines of `v` are printed, all its outputs are written, and no other name has changed. `Reaches` uses it.
pub record IsDone (old new : Seen) (v : Verdict) : Type 0 where
  pub lines : new.lines ≡ with_lines old.lines v.lines
  pub names : new.names ≡ with_outputs old.names (list_of v.outputs)

-- From the names `old` to `new`, a command that ended early has written some first outputs. Outputs that are written together have a first part each.
-- Outputs in sequence are complete up to the last one that was begun. `StopsSaying` uses it.
abbrev pub Leaves : Names → Names → WrittenOutputs → Type 0
Leaves old new (at_once all) = ArePrefixes old new all
Leaves old new (in_turn all) = AreWrittenInOrder old new all

-- A command with the outcome `v` ended early, and took the names `old` to `new`. `says` states of a list of lines what was printed of it. If the
-- outputs weren't complete, it holds of the lines before them. If they were, it holds of all lines. `IsStopped` uses it.
abbrev pub StopsSaying : (List (List ℕ) → Type 0) → Names → Names → Verdict → Type 0
StopsSaying says old new v = (says v.before × Leaves old new v.outputs) ⊎ (says v.lines × (new ≡ with_outputs old (list_of v.outputs)))

-- From the state `old` to `new`, a command with the outcome `v` ended early and has printed a first part of its lines. `Reaches` uses it.
abbrev pub IsStopped : Seen → Seen → Verdict → Type 0
IsStopped old new v = StopsSaying (SaysPart old.lines new.lines) old.names new.names v

-- From the state `old` to `new`, a command has its outcome `v`, or it ended early. `Fulfils` uses it.
abbrev pub Reaches : Seen → Seen → Result Status CommandEnd → Verdict → Type 0
Reaches old new (Ok s) v = (s ≡ v.status) × IsDone old new v
Reaches old new (Err e) v = IsStopped old new v
