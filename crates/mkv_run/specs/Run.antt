-- The outcome of each command line: status, lines and outputs. The commands are this project's; the content of their outputs follows RFC 9559.
use Rattle.std.specs.Prelude.{◌≡◌, ◌≤◌, ⊤, IfOk, ℕ, ◌+◌, List, [], ◌∷◌, length, Option, Some, option_map, Result, Ok, Err}
use Rattle.mkv_io.specs.Names.{Names}
use Rattle.mkv_io.specs.Told.{IfVisible}
use Rattle.word_values.specs.Why.{why_name}
use Rattle.word_values.specs.declared.usage.Usage.{Usage}
use Rattle.mkv_args.specs.Explain.{explained}
use Rattle.mkv_args.specs.Help.{usage_lines, version_line}
use Rattle.mkv_args.specs.Words.{command}
use Rattle.mkv_args.specs.declared.command.Command.{Command}
use Rattle.mkv_args.specs.declared.command.Command.TheVariants.{Help, Version, Explain, Info, Identify, Recover, Reindex, Generate, Extract, Propedit, Merge}
use Rattle.mkv_lines.specs.Line.{word_line}
use Rattle.mkv_lines.specs.Verdict.{Verdict, done, refused}
use Rattle.mkv_lines.specs.declared.status.Status.{Status}
use Rattle.mkv_lines.specs.declared.status.Status.TheVariants as status
use Rattle.mkv_lines.specs.declared.status.CommandEnd.{CommandEnd}
use Rattle.mkv_info.specs.Bound.{most_to_tell}
use Rattle.mkv_info.specs.Info.{info_verdict}
use Rattle.mkv_info.specs.declared.info.Form.TheVariants.{Lines, Json}
use Rattle.mkv_propedit.specs.Bound.{most_to_edit, most_to_recover}
use Rattle.mkv_propedit.specs.Recover.{DiskWorld, verdict_on}
use Rattle.mkv_propedit.specs.Propedit.{propedit_on}
use Rattle.mkv_propedit.specs.Reindex.{most_to_reindex, reindex_on}
use Rattle.mkv_extract.specs.Bound.{most_to_extract}
use Rattle.mkv_extract.specs.Extract.{extract_verdict}
use Rattle.mkv_generate.specs.Bound.{most_to_generate}
use Rattle.mkv_generate.specs.Generate.{generate_verdict}
use Rattle.mkv_merge.specs.Bound.{most_read}
use Rattle.mkv_merge.specs.Merge.{merge_verdict, sources_of}
use Rattle.mkv_merge.specs.Records.{EndsReadable}

-- the error line for `usage`: it names the first wrong word of a command line and the reason. The run then prints only this line. Used by
-- `verdict_after`.
abbrev pub usage_line : Usage → List ℕ
usage_line usage = word_line usage.word (why_name usage.why)

-- The outcome of a command: its status, its lines and its outputs. It is a function of `names`, the contents of all names, or for an edit in place of
-- `disk`. It is None if these aren't visible to the proof. A command without a file needs neither. Used for the promise of a whole run.
abbrev pub verdict_of : Names → Option DiskWorld → Command → Option Verdict
verdict_of names disk (Help about) = Some (done (usage_lines about))
verdict_of names disk Version = Some (done (version_line ∷ []))
verdict_of names disk (Explain name) = Some (done (explained name))
verdict_of names disk (Info file) = option_map (λ world. info_verdict Lines world file) names
verdict_of names disk (Identify file) = option_map (λ world. info_verdict Json world file) names
verdict_of names disk (Recover file) = option_map (λ world. verdict_on world file) disk
verdict_of names disk (Reindex file) = option_map (λ world. reindex_on world file) disk
verdict_of names disk (Generate n prefix) = option_map (λ world. generate_verdict n prefix) names
verdict_of names disk (Extract file job) = option_map (λ world. extract_verdict world file job) names
verdict_of names disk (Propedit file edits) = option_map (λ world. propedit_on world file edits) disk
verdict_of names disk (Merge words) = option_map (λ world. merge_verdict world words) names

-- the outcome of a command line, as parsed; `names` has the contents of all names, and `disk` is for an edit in place. A refused command line has the
-- same outcome whatever files there are. For `verdict_in`, in the promise of a whole run.
abbrev pub verdict_after : Names → Option DiskWorld → Result Command Usage → Option Verdict
verdict_after names disk (Ok command) = verdict_of names disk command
verdict_after names disk (Err usage) = Some (refused (usage_line usage))

-- the outcome of the command line `words` for the files `names` and the disk `disk`, if they are visible to the proof. The promise of a whole run
-- states it.
abbrev pub verdict_in : Names → Option DiskWorld → List (List ℕ) → Option Verdict
verdict_in names disk words = verdict_after names disk (command words)

-- ---- limits on the bytes that are read

-- The number of bytes read grows from `before` to `now` by at most the limit of the command. It needs that the files `names`, or for an edit in place
-- the disk `disk`, are visible to the proof. A recovery reads at most the largest size of a record, however large the file is. Help and the version
-- read nothing. Used for the promise of a whole run.
abbrev pub ReadsWithin : Names → Option DiskWorld → Command → ℕ → ℕ → Type 0
ReadsWithin names disk (Help about) before now = now ≡ before
ReadsWithin names disk Version before now = now ≡ before
ReadsWithin names disk (Explain name) before now = now ≡ before
ReadsWithin names disk (Info file) before now = IfVisible names (λ world. now ≤ before + most_to_tell Lines world file)
ReadsWithin names disk (Identify file) before now = IfVisible names (λ world. now ≤ before + most_to_tell Json world file)
ReadsWithin names disk (Recover file) before now = now ≤ before + most_to_recover
ReadsWithin names disk (Reindex file) before now = IfVisible disk (λ world. now ≤ before + most_to_reindex (length world.media))
ReadsWithin names disk (Generate n prefix) before now = IfVisible names (λ world. now ≤ before + most_to_generate n prefix)
ReadsWithin names disk (Extract file job) before now = IfVisible names (λ world. now ≤ before + most_to_extract world file job)
ReadsWithin names disk (Propedit file edits) before now = IfVisible disk (λ world. now ≤ before + most_to_edit (length world.media))
ReadsWithin names disk (Merge words) before now = IfVisible names (λ world. now ≤ before + most_read world words)

-- The number of bytes read grows from `before` to `now` by at most the limit of a command line, as parsed. `names` are the files and `disk` is the
-- disk before the run. A refused command line reads nothing. For `ReadsWithinIn`, in the promise of a whole run.
abbrev pub ReadsWithinAfter : Names → Option DiskWorld → Result Command Usage → ℕ → ℕ → Type 0
ReadsWithinAfter names disk (Ok command) before now = ReadsWithin names disk command before now
ReadsWithinAfter names disk (Err usage) before now = now ≡ before

-- The number of bytes read grows from `before` to `now` by at most the limit of the command line `words`. `names` are the files and `disk` is the
-- disk before the run. A refused command line reads nothing. The promise of a whole run states it.
abbrev pub ReadsWithinIn : Names → Option DiskWorld → List (List ℕ) → ℕ → ℕ → Type 0
ReadsWithinIn names disk words before now = ReadsWithinAfter names disk (command words) before now

-- ---- the output of a merge

-- If the command merges and ended by itself with the result `r`, its output can be read again. It is promised if `names` is visible to the proof. The
-- contract of `execute` states it.
abbrev pub MergesReadable : Names → Command → Result Status CommandEnd → Type 0
MergesReadable names (Merge words) r = IfVisible names (λ world. EndsReadable words (sources_of world words) r)
MergesReadable names _ r = ⊤

-- If the command line `words` merges and ended by itself with the result `r`, its output can be read again. It is promised if `names` is visible to
-- the proof. The contract of `carry_out` states it.
abbrev pub MergesReadableIn : Names → List (List ℕ) → Result Status CommandEnd → Type 0
MergesReadableIn names words r = IfOk (command words) (λ (c : Command). MergesReadable names c r)

-- If the command line `words` merges, its output can be read again after a run with this status; `names` has the contents before the run. It isn't
-- promised if memory ran out or a call of the system failed. The contract of `run_command_line` states it.
abbrev pub LeavesReadable : Names → List (List ℕ) → Status → Type 0
LeavesReadable names words status.NoMemory = ⊤
LeavesReadable names words status.Outside = ⊤
LeavesReadable names words s = MergesReadableIn names words (Ok s)
