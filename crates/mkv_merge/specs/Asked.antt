-- The files that a merge opens and makes. They are this project's.
use Rattle.std.specs.Prelude.{◌≡◌, ℕ, false, if◌then◌else◌, List, [], ◌∷◌, ◌++◌, map}
use Rattle.mkv_io.specs.Asked.{AsksNone}
use Rattle.mkv_io.specs.Names.{AreOthers}
use Rattle.mkv_io.specs.declared.asked.Asked.{Asked}
use Rattle.mkv_io.specs.declared.asked.Asked.TheVariants.{Made, Opened}
use Rattle.sidecar_edit.specs.Name.{sidecar_of}
use Rattle.remux_plan.specs.Parts.{may_be_written}
use Rattle.requests.specs.declared.merge.MergeWords.{MergeWords}
use Rattle.input_files.specs.Inputs.{file_names}
use Rattle.input_files.specs.TextFiles.{text_names}
use Rattle.mkv_merge.specs.Opened.{opened_names}
use Rattle.mkv_merge.specs.Read.{is_split}

-- ---- opened files

-- the names of the journals that the merge `words` looks into for a pending edit: the inputs' journals, and unless it is split the output's. For
-- `opened_by`.
abbrev pub sidecars_of : MergeWords → List (List ℕ)
sidecars_of words = map sidecar_of (file_names words.files) ++ (if is_split words then [] else sidecar_of words.output ∷ [])

-- the names of the files that the merge `words` opens: its chapter file, timestamp files, inputs, attached files and journals. The contract of `merge_of` bounds by
-- it what `merge` opens.
abbrev pub opened_by : MergeWords → List (List ℕ)
opened_by words = text_names words.chapters words.files ++ (opened_names words ++ sidecars_of words)

-- ---- calls for files

-- The call, the last argument, isn't one of the merge `words`. It opens a name that isn't in `opened`, or makes a file whose name no output of the
-- merge can have. Used by `AsksToMerge` and by the promise of a whole run.
abbrev pub IsBesidesMerge : List (List ℕ) → MergeWords → Asked → Type 0
IsBesidesMerge opened words (Opened name) = AreOthers name opened
IsBesidesMerge opened words (Made name) = may_be_written (is_split words) words.output name ≡ false

-- Between the calls `old` and the later calls `new`, the merge `words` opened only names in `opened`. It made only files with names that its outputs
-- may have. The contracts of `merge_of` and of its steps state it.
abbrev pub AsksToMerge : List (List ℕ) → MergeWords → List Asked → List Asked → Type 0
AsksToMerge opened words old new = AsksNone (IsBesidesMerge opened words) old new
