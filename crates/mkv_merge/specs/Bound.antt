-- The number of bytes that a merge may read. The bounds are this project's.
use Rattle.std.specs.Prelude.{ℕ, ◌+◌, ◌*◌, if◌then◌else◌, List, [], ◌∷◌, length, map, sum_by, Option, is_none, unwrap_or, Result, Ok, Err}
use Rattle.std.specs.List.{zip}
use Rattle.mkv_io.specs.declared.outside.FileId.{FileId}
use Rattle.mkv_io.specs.LiveFiles.{LiveFiles}
use Rattle.mkv_io.specs.Sources.{live_files}
use Rattle.mkv_io.specs.declared.reads.Reads.{Ghosts}
use Rattle.sidecar_edit.specs.declared.place.TheConstants.{HEAD}
use Rattle.input_files.specs.TextFiles.{text_octets}
use Rattle.remux_plan.specs.declared.plan.MergePlan.{MergePlan}
use Rattle.remuxer.specs.Plan.{data_length}
use Rattle.requests.specs.declared.merge.AttachedWords.{AttachedWords}
use Rattle.requests.specs.declared.merge.FileWords.{FileWords}
use Rattle.requests.specs.declared.merge.MergeWords.{MergeWords}
use Rattle.merge_plan.specs.Front.{attached_length, reads_of}
use Rattle.merge_plan.specs.Plan.{Source, lanes_given}
use Rattle.mkv_merge.specs.Merge.{sources_of}
use Rattle.mkv_merge.specs.declared.refusal.Refusal.{Refusal}

-- the sum of the lengths in bytes of the live files `f` with the IDs `list`; a file counts as often as `list` has it. For `live_size`, as a bound on
-- what `merge` reads.
abbrev pub files_size : LiveFiles → List FileId → ℕ
files_size f list = sum_by (λ (file : FileId). f.size file.n) list

-- the sum of the lengths in bytes of the live files with the IDs `list` in the state `files`. A file counts as often as `list` has it. `r` shows them
-- to the proof. For the bound on bytes read from inputs.
abbrev pub live_size : {S : Type 0} → Ghosts S → S → List FileId → ℕ
live_size r files list = files_size (live_files r files) list

-- the number of bytes that are walked over to find the end to which the file `pair.0` is appended. It is the length `pair.1` of the file before it,
-- or 0 if it isn't appended. For `walked_size`, as a bound on what `merge` reads.
abbrev pub walked_before : FileWords × ℕ → ℕ
walked_before pair = if pair.0.appended then pair.1 else 0

-- the sum of the lengths of the files that the next one on the command line is appended to. `sizes` has the length of each file in `files`. The first
-- one is paired with 0, since no file is before it. For the bound on bytes that `merge` reads.
abbrev pub walked_size : List FileWords → List ℕ → ℕ
walked_size files sizes = sum_by walked_before (zip files (0 ∷ sizes))

-- the sum of the lengths in bytes of the live files in `list` that another one is appended to; `files` has the options of each. For `live_walked`, as
-- a bound on what `merge` reads. `f` gives the proof's view of the files.
abbrev pub files_walked : LiveFiles → List FileWords → List FileId → ℕ
files_walked f files list = walked_size files (map (λ (file : FileId). f.size file.n) list)

-- the sum of the lengths in bytes of the live files in `list` that another one is appended to. `src` is the state of all files, and `files` has the
-- options of each. For the bound on bytes that `merge` reads. `r` gives the proof's view of the files.
abbrev pub live_walked : {S : Type 0} → Ghosts S → S → List FileWords → List FileId → ℕ
live_walked r src files list = files_walked (live_files r src) files list

-- the number of bytes that a merge with the plan `p` may read while it writes, of inputs with `octets` bytes in all. Each input is read twice for
-- each output track, and the data of attached files once. For the contract of `write`.
abbrev pub most_planned : MergePlan → ℕ → ℕ
most_planned p octets = 2 * (length p.lanes * octets) + data_length p

-- the sum of the lengths in bytes of the inputs `files` whose contents are in `world`. A file counts as often as the command line names it. For the
-- bound `most_read`.
abbrev pub contents_length : (List ℕ → Option (List ℕ)) → List FileWords → ℕ
contents_length world files = sum_by (λ (w : FileWords). length (unwrap_or (world w.name) [])) files

-- the sum of the lengths in bytes of the inputs `files` that another one is appended to, by their contents in `world`. For the bound `most_read`.
abbrev pub contents_walked : (List ℕ → Option (List ℕ)) → List FileWords → ℕ
contents_walked world files = walked_size files (map (λ (w : FileWords). length (unwrap_or (world w.name) [])) files)

-- the sum of the lengths in bytes of the files that `attached` attaches, by their contents in `world`. A file counts as often as the command line
-- attaches it. For the bound `most_read`.
abbrev pub attached_octets : (List ℕ → Option (List ℕ)) → List AttachedWords → ℕ
attached_octets world attached = sum_by (λ (w : AttachedWords). length (unwrap_or (world w.file) [])) attached

-- the sum of the lengths in bytes of all files that the merge `words` keeps open: its inputs and the files that it attaches. `world` has the contents.
-- For the bound `most_read`.
abbrev pub opened_length : (List ℕ → Option (List ℕ)) → MergeWords → ℕ
opened_length world words = contents_length world words.files + attached_octets world words.attached

-- the number of output tracks of the merge with the given sources, or 0 if it is refused. For the bound `most_of`.
abbrev pub lane_count : Result (List Source) Refusal → ℕ
lane_count (Ok sources) = length (lanes_given sources)
lane_count (Err why) = 0

-- the number of bytes of data of all attached files in the sources of a merge, or 0 if the merge is refused. For the bound `most_of`.
abbrev pub data_count : Result (List Source) Refusal → ℕ
data_count (Ok sources) = attached_length (reads_of sources)
data_count (Err why) = 0

-- the number of bytes that a merge may read of inputs and attached files with `octets` bytes in all. All inputs are read 25 times before the blocks,
-- and twice for each output track. Those that another one is appended to have `walked` bytes, and are read twice to find their ends. The data of
-- attached files is added. `sources` are its sources, or its refusal. For the bound `most_read`.
abbrev pub most_of : Result (List Source) Refusal → ℕ → ℕ → ℕ
most_of sources octets walked = 25 * octets + 2 * walked + (2 * (lane_count sources * octets) + data_count sources)

-- the number of journals that the merge `words` looks into for a pending edit: one for each input, and unless it is split the output's. For the bound
-- `most_looked`.
abbrev pub looked_into : MergeWords → ℕ
looked_into words = if is_none words.split then length words.files + 1 else length words.files

-- the number of bytes that the merge `words` may read of journals: the first `HEAD` bytes of each. For the bound `most_read`.
abbrev pub most_looked : MergeWords → ℕ
most_looked words = HEAD * looked_into words

-- the number of bytes that the merge `words` may read if the files are `world`. It reads inputs and journals, and its chapter file and timestamp
-- files once. The contract of `merge_of` and its laws state it as a bound.
abbrev pub most_read : (List ℕ → Option (List ℕ)) → MergeWords → ℕ
most_read world words =
    text_octets world words.chapters words.files
    + (most_of (sources_of world words) (opened_length world words) (contents_walked world words.files) + most_looked words)
