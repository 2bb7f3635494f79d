-- Append offsets while they are found, input after input. `Places` defines them for a whole merge.
use Rattle.std.specs.Prelude.{◌≡◌, ℕ, ◌+◌, ◌-◌, List, length, Option, None, Some, slice_get, ◌*◌}
use Rattle.std.specs.List.{All}
use Rattle.std.specs.Option.{option_map, option_map_or}
use Rattle.mkv_io.specs.LiveFiles.{LiveFiles}
use Rattle.lanes.specs.declared.survey_result.TheConstants.{MAX_END}
use Rattle.merge_inputs.specs.Input.{read_in}
use Rattle.merge_inputs.specs.declared.input.Blocks.{Blocks}
use Rattle.merge_inputs.specs.declared.input.Blocks.TheVariants.{Clusters, Entries}
use Rattle.merge_inputs.specs.declared.input.Input.{Input}
use Rattle.merge_plan.specs.Places.{end_of}
use Rattle.merge_plan.specs.Plan.{append_offset}
use Rattle.merge_plan.specs.Planned.{IsToldInput, source_in}
use Rattle.mkv_io.specs.Bounds.{ReadsUpTo}
use Rattle.mkv_io.specs.Sources.{live_files}
use Rattle.mkv_io.specs.declared.reads.Reads.{Ghosts}

-- `time` is the end in nanoseconds of the input `i` in the output, if the content of its file is visible to the proof. `f` are the live files. Used
-- by the contract of `end_of`.
abbrev pub EndsAt : LiveFiles → Input → ℕ → Type 0
EndsAt f i time = IsToldInput f i → time ≡ end_of (source_in f i)

-- the last of the inputs `inputs`, if there is one. An input that is appended to it begins at its end. `end_behind` uses it.
abbrev pub last_in : List Input → Option Input
last_in inputs = slice_get inputs (length inputs - 1)

-- the end in nanoseconds of the last of `inputs` in the output, or 0 if there is none. An input that is appended to it begins then. `f` are the live
-- files. `IsBehind` uses it.
abbrev pub end_behind : LiveFiles → List Input → ℕ
end_behind f inputs = option_map_or (λ (i : Input). end_of (source_in f i)) (last_in inputs) 0

-- an upper bound for the end in nanoseconds of the last of `inputs` in the output, or 0 if there is none. Used by the contract of `shift_behind`.
abbrev pub most_behind : List Input → ℕ
most_behind inputs = option_map_or (λ (i : Input). append_offset (read_in i) + MAX_END) (last_in inputs) 0

-- the number of bytes that are walked over to find the end of an input with the blocks in the first argument: its `size`, or none for a text.
-- `walked_of` uses it.
abbrev pub walked_in : Blocks → ℕ → ℕ
walked_in (Clusters outline scale) size = size
walked_in (Entries entries) size = 0

-- the number of bytes that are walked over to find the end of the input `i`: its length among the live files `f`, or none for a text. Used to bound
-- what a merge reads. Used by `end_of`, `size_behind` and others.
abbrev pub walked_of : LiveFiles → Input → ℕ
walked_of f i = walked_in i.blocks (f.size i.file.n)

-- the number of bytes of the last of `inputs` that are walked over to find its end, or 0 if there is none. `f` are the live files. `ReadsToPlace`
-- uses it.
abbrev pub size_behind : LiveFiles → List Input → ℕ
size_behind f inputs = option_map_or (walked_of f) (last_in inputs) 0

-- the number of bytes that are walked over to find an append offset: `before`, the previous input's, or none if the input isn't appended. The first
-- argument is the input's append offset, if any. `ReadsToPlace` uses it.
abbrev pub walked_for : Option ℕ → ℕ → ℕ
walked_for None before = 0
walked_for (Some time) before = before

-- From `old` to `new` the file of the last of the inputs `before` is read at most twice to find an append offset. Nothing is read if the input has no
-- `shift` and so isn't appended. Used by the contract of `shift_behind`. `r` gives the proof's view of the files.
abbrev pub ReadsToPlace : {S : Type 0} → Ghosts S → S → S → List Input → Option ℕ → Type 0
ReadsToPlace r old new before shift = ReadsUpTo r old new (2 * walked_for shift (size_behind (live_files r old) before))

-- `later` is the append offset in nanoseconds of an input after the inputs `before`, if the contents of their files are visible to the proof. An
-- input without `shift` isn't appended and has none. `f` are the live files. Used by the contract of `shift_behind`.
abbrev pub IsBehind : LiveFiles → List Input → Option ℕ → Option ℕ → Type 0
IsBehind f before shift later = All (IsToldInput f) before → later ≡ option_map (λ _. end_behind f before) shift
