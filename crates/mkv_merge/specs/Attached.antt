-- The files that a merge attaches, while it prepares its outputs.
use Rattle.std.specs.Prelude.{◌≡◌, ℕ, Bool, List, ◌++◌, length, map, take, drop, Some, None, option_map, Result, Ok, Err}
use Rattle.std.specs.List.{All, zip}
use Rattle.mkv_io.specs.declared.outside.FileId.{FileId}
use Rattle.mkv_io.specs.LiveFiles.{LiveFiles}
use Rattle.mkv_io.specs.Sources.{live_files}
use Rattle.mkv_io.specs.declared.reads.Reads.{Ghosts}
use Rattle.mkv_outputs.specs.Sinks.{AreLive}
use Rattle.input_files.specs.Inputs.{first_large, sizes_of}
use Rattle.requests.specs.declared.merge.AttachedWords.{AttachedWords}
use Rattle.requests.specs.declared.merge.MergeWords.{MergeWords}
use Rattle.merge_inputs.specs.Input.{InputRead, IsInput, read_in}
use Rattle.merge_inputs.specs.declared.input.Input.{Input}
use Rattle.merge_plan.specs.Attached.{attached_read}
use Rattle.merge_plan.specs.TakenTracks.{HasPlace}
use Rattle.mkv_merge.specs.declared.refusal.MergeEnd.{MergeEnd}
use Rattle.mkv_merge.specs.declared.refusal.MergeEnd.TheVariants.{Refused, Stopped}
use Rattle.mkv_merge.specs.declared.refusal.Refusal.TheVariants.{AttachedTooLarge}

-- those of the open files `ids` of the merge `words` that are its inputs: the first ones. Used by the contracts of `merge_opened` and `join_opened`.
abbrev pub own_ids : MergeWords → List FileId → List FileId
own_ids words ids = take (length words.files) ids

-- those of the open files `ids` of the merge `words` that it attaches: the ones after its inputs. Used by the contracts of `merge_opened` and
-- `join_opened`.
abbrev pub attached_ids : MergeWords → List FileId → List FileId
attached_ids words ids = drop (length words.files) ids

-- The open files `list` can be attached by the merge `words`: they are live in the state `s`, and there is one for each file that it attaches. `r`
-- gives the proof's view of the files. A condition of `prepare`.
pub record CanBeAttached {S : Type 0} (r : Ghosts S) (s : S) (words : MergeWords) (list : List FileId) : Type 0 where
  pub live : AreLive (live_files r s).live list
  pub each : length list ≡ length words.attached

-- The attached files have the lengths `lens` in bytes, and the result refuses the merge because of the first that is too large, if any. The contract of
-- `check_sizes` states it.
abbrev pub ChecksSizes : {T : Type 0} → List ℕ → Result T MergeEnd → Type 0
ChecksSizes lens (Ok x) = first_large lens ≡ None
ChecksSizes lens (Err (Refused why)) = option_map AttachedTooLarge (first_large lens) ≡ Some why
ChecksSizes lens (Err (Stopped stop)) = ⊥

-- the files that `attached` attaches, read as inputs of the merge; they have the lengths `sizes`. `webm` is true for a WebM output. Used by
-- `AttachesFiles`.
abbrev pub attached_reads : Bool → List AttachedWords → List ℕ → List InputRead
attached_reads webm attached sizes = map (λ (pair : AttachedWords × ℕ). attached_read pair.0 webm pair.1) (zip attached sizes)

-- The inputs `new` are `inputs` and after them the files `list` among `f`, which the merge `words` attaches. The contract of `with_attached` states
-- it.
abbrev pub AttachesFiles : LiveFiles → MergeWords → List FileId → List Input → List Input → Type 0
AttachesFiles f words list inputs new = map read_in new ≡ map read_in inputs ++ attached_reads words.webm words.attached (sizes_of f list)

-- The inputs `new` are read from the files of `inputs`, and then from the files `list`, among `f`. They are valid if `inputs` are, and no append offset
-- is greater than a link's may be. The contract of `with_attached` states it.
pub record AreAttachedTo (f : LiveFiles) (list : List FileId) (inputs new : List Input) : Type 0 where
  pub good : All (IsInput f) inputs → All (IsInput f) new
  pub of : map (λ (i : Input). i.file) new ≡ map (λ (i : Input). i.file) inputs ++ list
  pub places : All HasPlace inputs → All HasPlace new
