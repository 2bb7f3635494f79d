-- The files that a merge keeps open, and which of them is missing. The order of the checks is this project's.
use Rattle.std.specs.Prelude.{◌≡◌, ⊤, ℕ, ◌-◌, nat_lt, if◌then◌else◌, List, [], ◌∷◌, ◌++◌, length, Option, Some, None, option_map, unwrap_or, Result, Ok, Err}
use Rattle.mkv_io.specs.declared.outside.FileId.{FileId}
use Rattle.input_files.specs.Inputs.{attached_names, file_names, first_missing}
use Rattle.input_files.specs.declared.text_files.TextFiles.{TextFiles}
use Rattle.requests.specs.declared.merge.MergeWords.{MergeWords}
use Rattle.mkv_merge.specs.Refused.{first_cause}
use Rattle.mkv_merge.specs.Texts.{missing_text}
use Rattle.mkv_merge.specs.declared.refusal.MergeEnd.{MergeEnd}
use Rattle.mkv_merge.specs.declared.refusal.MergeEnd.TheVariants.{Refused, Stopped}
use Rattle.mkv_merge.specs.declared.refusal.Refusal.{Refusal}
use Rattle.mkv_merge.specs.declared.refusal.Refusal.TheVariants.{Missing, MissingAttached}

-- the names of the files that the merge `words` keeps open: its inputs, and after them the files that it attaches. The contracts of the stages of
-- `merge` have them.
abbrev pub opened_names : MergeWords → List (List ℕ)
opened_names words = file_names words.files ++ attached_names words.attached

-- the refusal of the merge `words` because the name number `missing`, counted from 0, of those in `opened_names` has no file. `texts` has its text
-- files; a missing one is reported before an attached file. The contract of the function of the same name states it.
abbrev pub missing_refusal : MergeWords → TextFiles → ℕ → Refusal
missing_refusal words texts missing =
    if nat_lt missing (length words.files) then Missing missing
    else unwrap_or (missing_text texts) (MissingAttached (missing - length words.files))

-- the first refusal of the merge `words` because a file is missing in `world`: an input, a text file of `texts`, or an attached file, in this order.
-- Used by `FindsAll`.
abbrev pub missing_first : (List ℕ → Option (List ℕ)) → MergeWords → TextFiles → Option Refusal
missing_first world words texts = first_cause (
    option_map Missing (first_missing world (file_names words.files))
    ∷ missing_text texts
    ∷ option_map MissingAttached (first_missing world (attached_names words.attached))
    ∷ [])

-- The result of opening the files of the merge `words` reports the first that is missing in `world`, if any; `texts` has its text files. If all are
-- open, no input and no attached file is missing. The contract of `open_files` states it.
abbrev pub FindsAll : (List ℕ → Option (List ℕ)) → MergeWords → TextFiles → Result (List FileId) MergeEnd → Type 0
FindsAll world words texts (Ok ids) = first_missing world (opened_names words) ≡ None
FindsAll world words texts (Err (Refused why)) = missing_first world words texts ≡ Some why
FindsAll world words texts (Err (Stopped stop)) = ⊤
