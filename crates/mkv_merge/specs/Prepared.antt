-- Facts about a merge whose inputs were read and planned.
use Rattle.std.specs.Prelude.{◌≡◌, ⊤, ℕ, ◌+◌, ◌*◌, Bool, List, [], ◌++◌, length, map, Some, Result, Ok, Err}
use Rattle.std.specs.List.{All, zip}
use Rattle.mkv_io.specs.declared.outside.FileId.{FileId}
use Rattle.mkv_io.specs.Bounds.{ReadsUpTo}
use Rattle.mkv_io.specs.LiveFiles.{LiveFiles}
use Rattle.mkv_io.specs.Sources.{live_files}
use Rattle.mkv_io.specs.declared.reads.Reads.{Ghosts}
use Rattle.mkv_outputs.specs.Sinks.{AreLive}
use Rattle.input_files.specs.Inputs as files
use Rattle.input_files.specs.declared.text_files.TextFiles.{TextFiles}
use Rattle.requests.specs.declared.merge.MergeWords.{MergeWords}
use Rattle.requests.specs.Sound.{IsSoundMerge}
use Rattle.requests.specs.declared.merge.FileWords.{FileWords}
use Rattle.merge_inputs.specs.Input.{InputRead, IsInput, input_of, read_in}
use Rattle.merge_inputs.specs.Select.{unmoved}
use Rattle.merge_inputs.specs.declared.input.Input.{Input}
use Rattle.merge_plan.specs.Plan.{Source}
use Rattle.merge_plan.specs.Planned.{CanBeWritten, IsPlanOf}
use Rattle.merge_plan.specs.TakenTracks.{HasPlace}
use Rattle.mkv_merge.specs.Attached.{attached_reads}
use Rattle.mkv_merge.specs.Bound.{live_size, live_walked}
use Rattle.mkv_merge.specs.Ends.{HasReadCause}
use Rattle.mkv_merge.specs.Merge.{sources_unless}
use Rattle.mkv_merge.specs.Read.{inputs_of, numbered}
use Rattle.mkv_merge.specs.declared.preparing.Prepared.{Prepared}
use Rattle.mkv_merge.specs.declared.refusal.MergeEnd.{MergeEnd}
use Rattle.mkv_merge.specs.declared.refusal.MergeEnd.TheVariants.{Refused, Stopped}
use Rattle.mkv_merge.specs.declared.refusal.Refusal.{Refusal}

-- The live files with the IDs `list` have the contents `contents`, and these are visible to the proof. Used by `IfAllTold`, in the contracts of the
-- stages of `merge`. `f` gives the proof's view of the files.
abbrev pub AreTold : LiveFiles → List FileId → List (List ℕ) → Type 0
AreTold f list contents = files.contents_of f.content list ≡ map Some contents

-- `P` holds for the contents of the live files `list` in the state `s`, if all of them are visible to the proof. `r` shows them to the proof. Used by
-- the contracts of the stages of `merge`.
abbrev pub IfAllTold : {S : Type 0} → Ghosts S → S → List FileId → (List (List ℕ) → Type 0) → Type 0
IfAllTold r s list P = (contents : List (List ℕ)) → AreTold (live_files r s) list contents → P contents

-- `P` holds for the contents of the live files `list` and of the live files `attached` in the state `s`, if all of them are visible to the proof. `r`
-- shows them to the proof. Used by the contracts of the stages of `merge` with attached files.
abbrev pub IfBothTold : {S : Type 0} → Ghosts S → S → List FileId → List FileId → (List (List ℕ) → List (List ℕ) → Type 0) → Type 0
IfBothTold r s list attached P = IfAllTold r s list (λ contents. IfAllTold r s attached (P contents))

-- The inputs of the merge `words` can be read and planned. The command line keeps its limits, and `list` has a live file for each input. The
-- condition of `prepare`.
pub record CanPrepare {S : Type 0} (r : Ghosts S) (s : S) (words : MergeWords) (list : List FileId) : Type 0 where
  pub sound : IsSoundMerge words
  pub live : AreLive (live_files r s).live list
  pub each : length list ≡ length words.files

-- A call that only reads changed the state from `old` to `new`. No file changed, and a failed read was counted if it stopped the call. The contracts
-- of `prepare` and its steps state it.
pub record EndsReading {S T : Type 0} (r : Ghosts S) (old new : S) (result : Result T MergeEnd) : Type 0 where
  pub standing : r.standing new ≡ r.standing old
  pub cause : HasReadCause (r.reading_faults old) (r.reading_faults new) result

-- The result of reading is `found`, the expected one, or reading was stopped by a failed call or by lack of memory. `shown` gives what the
-- definitions know of a value that the code has read. The contracts of the functions that read and check inputs state it.
abbrev pub ReadsAs : {A B : Type 0} → (B → A) → Result A Refusal → Result B MergeEnd → Type 0
ReadsAs shown found (Ok x) = found ≡ Ok (shown x)
ReadsAs shown found (Err (Refused why)) = found ≡ Err why
ReadsAs shown found (Err (Stopped stop)) = ⊤

-- the inputs as the definitions have them, without the open file and the caches that the code has for each. For the contracts of `merge`'s stages.
abbrev pub reads_in : List Input → List InputRead
reads_in inputs = map read_in inputs

-- The input number `input`, counted from 0, with the content `bytes` was read as expected, or refused. `held` is the size in bytes of the records of
-- the inputs before it. `webm` is true for a WebM output. The contract of `read_one` states it. `words` are the options of the input, and `result` is
-- what the call returned.
abbrev pub ReadsOne : ℕ → FileWords → Bool → ℕ → List ℕ → Result Input MergeEnd → Type 0
ReadsOne input words webm held bytes result = ReadsAs read_in (numbered input (input_of words webm held bytes)) result

-- The inputs of `words` with the contents `contents` were read as expected, or the first refusal was found, or reading was stopped. The contract of
-- `read_inputs` states it. `result` is what the call returned.
abbrev pub ReadsEach : MergeWords → List (List ℕ) → Result (List Input) MergeEnd → Type 0
ReadsEach words contents result = ReadsAs reads_in (inputs_of words contents) result

-- the sources for the opened inputs `inputs`, whose files have the contents `contents`. For the contracts of `prepare` and `write`.
abbrev pub sources_from : List (List ℕ) → List Input → List Source
sources_from contents inputs = zip contents (reads_in inputs)

-- The inputs are read from the live files `list`, one from each, and no append offset is greater than a link's may be. A part of `IsPrepared`, in the
-- contracts of the stages of `merge`. `f` gives the proof's view of the files, and `inputs` are the inputs that were read.
pub record AreInputsOf (f : LiveFiles) (list : List FileId) (inputs : List Input) : Type 0 where
  pub good : All (IsInput f) inputs
  pub of : map (λ (i : Input). i.file) inputs ≡ list
  pub places : All HasPlace inputs

-- Each input has an append offset exactly if its file, the one of `files` at its index, is appended. It is 0: no end is known yet. The contract of
-- `read_inputs` states it. `inputs` are the inputs that were read.
abbrev pub AreUnmoved : List FileWords → List Input → Type 0
AreUnmoved files inputs = map (λ (i : Input). i.shift) inputs ≡ map unmoved files

-- From the state `old` to `new` the live files `list`, the inputs of `words`, are read at most 25 times. Those that another one is appended to are
-- read twice more. The contract of `prepare` states it. `r` gives the proof's view of the files.
abbrev pub ReadsToPrepare : {S : Type 0} → Ghosts S → S → S → MergeWords → List FileId → Type 0
ReadsToPrepare r old new words list = ReadsUpTo r old new (25 * live_size r old list + 2 * live_walked r old words.files list)

-- The inputs `inputs` are those of the merge `words`, as they were read, and after them its attached files, which have the lengths `sizes`. Used by
-- `IsPrepared`.
pub record AreOwnAndAttached (words : MergeWords) (inputs : List Input) : Type 0 where
  pub own : List InputRead
  pub sizes : List ℕ
  pub are : reads_in inputs ≡ own ++ attached_reads words.webm words.attached sizes
  pub many : length own ≡ length words.files

-- The inputs in `p` were read from the files `list` among `f`, and its plan was made from them for the merge `words`. `prepare` returns it, and
-- `write` requires it.
pub record IsPrepared (f : LiveFiles) (words : MergeWords) (list : List FileId) (p : Prepared) : Type 0 where
  pub inputs : AreInputsOf f list p.inputs
  pub both : AreOwnAndAttached words p.inputs
  pub plan : IsPlanOf words p.inputs p.plan
  pub written : CanBeWritten words.order p.inputs p.plan

-- `result` is the one of `prepare` for inputs with the contents `contents`, attached files with the contents `attached`, and the text files `texts`.
-- Its inputs give the expected sources of the merge `words`, or it has the expected refusal, or it was stopped. Its contract states it.
abbrev pub Prepares : MergeWords → TextFiles → List (List ℕ) → List (List ℕ) → Result Prepared MergeEnd → Type 0
Prepares words texts contents attached result =
    ReadsAs (λ (p : Prepared). sources_from (contents ++ attached) p.inputs) (sources_unless [] words texts contents attached) result
