-- The names that a run may open and create, by its command line. The rule is this project's.
use Rattle.std.specs.Prelude.{◌≡◌, ⊤, ℕ, List, [], Result, Ok, Err}
use Rattle.std.specs.declared.alloc.Global.{Global}
use Rattle.std.specs.declared.string.String.{String}
use Rattle.mkv_io.specs.Asked.{AsksNone, IsNotAmong}
use Rattle.mkv_io.specs.Sources.{live_files}
use Rattle.mkv_io.specs.declared.asked.Asked.{Asked}
use Rattle.mkv_io.specs.declared.files.Files.{Ghosts as FilesGhosts}
use Rattle.mkv_io.specs.declared.reads.Reads.{Ghosts as ReadsGhosts}
use Rattle.sidecar_edit.specs.Name.{with_sidecar}
use Rattle.extractors.specs.Job.{names_for}
use Rattle.word_values.specs.Place.{texts}
use Rattle.word_values.specs.declared.usage.Usage.{Usage}
use Rattle.mkv_args.specs.Words.{command}
use Rattle.mkv_args.specs.declared.command.Command.{Command}
use Rattle.mkv_args.specs.declared.command.Command.TheVariants.{Info, Identify, Generate, Extract, Merge}
use Rattle.mkv_merge.specs.Asked.{IsBesidesMerge, opened_by}
use Rattle.mkv_generate.specs.Asked.{IsBesidesGenerate}
use Rattle.mkv_generate.specs.Generate.{names_of}

-- The command doesn't ask for `asked`, a call that opens or creates a name. An edit in place opens its file on the disk, and asks for nothing here.
-- Nor do help and the version. For the promise that a run opens and creates no other name. Used by `IsBesidesAfter` and `AsksToObey`.
abbrev pub IsNotRequested : Command → Asked → Type 0
IsNotRequested (Info file) asked = IsNotAmong (with_sidecar file) [] asked
IsNotRequested (Identify file) asked = IsNotAmong (with_sidecar file) [] asked
IsNotRequested (Extract file job) asked = IsNotAmong (with_sidecar file) (names_for job) asked
IsNotRequested (Merge words) asked = IsBesidesMerge (opened_by words) words asked
IsNotRequested (Generate n prefix) asked = IsBesidesGenerate (names_of prefix) asked
IsNotRequested _ asked = ⊤

-- A command line, as parsed, doesn't ask for `asked`, a call that opens or creates a name. A refused command line asks for none. Used by
-- `AsksByWords` and by the promise of the program.
abbrev pub IsBesidesAfter : Result Command Usage → Asked → Type 0
IsBesidesAfter (Ok command) asked = IsNotRequested command asked
IsBesidesAfter (Err usage) asked = ⊤

-- From the state `files` to `files'`, no name is opened or created that `command` doesn't ask for. The contract of `execute` states it. `f` gives the
-- proof's view of the files.
abbrev pub AsksToObey : {F : Type 0} → FilesGhosts F → F → F → Command → Type 0
AsksToObey f files files' command = AsksNone (IsNotRequested command) (f.asked files) (f.asked files')

-- From the state `files` to `files'`, no name is opened or created that the command line `words` doesn't ask for. The contract of `carry_out` states
-- it. `f` gives the proof's view of the files.
abbrev pub AsksByWords : {F : Type 0} → FilesGhosts F → F → F → List (String Global) → Type 0
AsksByWords f files files' words = AsksNone (IsBesidesAfter (command (texts words))) (f.asked files) (f.asked files')

-- From the state `files` to `files'`, the same files are open. No name is opened or created that the command line `words` doesn't ask for. The
-- contract of `run_command_line` states it.
pub record LeavesFiles {F : Type 0} (r : ReadsGhosts F) (f : FilesGhosts F) (files files' : F) (words : List (String Global)) : Type 0 where
  pub live : (file : ℕ) → (live_files r files').live file ≡ (live_files r files).live file
  pub asks : AsksByWords f files files' words
