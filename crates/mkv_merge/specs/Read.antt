-- The inputs of a merge as they are read, and their refusals. Both are this project's.
use Rattle.std.specs.Prelude.{◌≡◌, ℕ, suc, Bool, true, false, ◌&&◌, List, [], ◌∷◌, ◌++◌, map, find, Option, Some, None, is_none, is_some, unwrap_or, Result, Ok, Err}
use Rattle.std.specs.List.{zip}
use Rattle.std.specs.Option.{option_or, option_to_list}
use Rattle.std.specs.Str.{bytes_eq}
use Rattle.mkv_io.specs.Faults.{counted}
use Rattle.sidecar_edit.specs.Name.{sidecar_of}
use Rattle.sidecar_edit.specs.Pending.{is_pending}
use Rattle.input_files.specs.TimesFile.{times_named, times_names}
use Rattle.input_files.specs.TextFiles.{text_files}
use Rattle.input_files.specs.declared.text_files.TextFiles.{TextFiles}
use Rattle.splitter.specs.Names.{is_part_name}
use Rattle.requests.specs.declared.merge.FileWords.{FileWords}
use Rattle.requests.specs.declared.merge.MergeWords.{MergeWords}
use Rattle.requests.specs.Sound.{IsSoundMerge}
use Rattle.input_files.specs.Inputs.{attached_names, file_names, first_pending}
use Rattle.merge_inputs.specs.Input.{InputRead, input_of}
use Rattle.merge_inputs.specs.declared.input.InputRefusal.{InputRefusal}
use Rattle.mkv_merge.specs.Chapters.{chaptered, with_chapters}
use Rattle.mkv_merge.specs.Texts.{timed_from}
use Rattle.mkv_io.specs.Results.{and_then}
use Rattle.mkv_merge.specs.declared.refusal.Refusal.{Refusal}
use Rattle.mkv_merge.specs.declared.refusal.Refusal.TheVariants.{PendingInput, PendingOutput, Input}

-- ---- names

-- the names that no output of the merge `words` may have, in the order of the check. They are inputs, chapter file, timestamp files, attached files,
-- and the journals of inputs and timestamp files. For `first_written`.
abbrev pub read_names : MergeWords → List (List ℕ)
read_names words =
    file_names words.files ++ (option_to_list words.chapters ++ (times_names (times_named words.files)
    ++ (attached_names words.attached ++ (map sidecar_of (file_names words.files) ++ map sidecar_of (times_names (times_named words.files))))))

-- The output of the merge `words` is split into parts. The outputs then have names made from the command line's. Used for the names and the Chapters
-- of outputs.
abbrev pub is_split : MergeWords → Bool
is_split words = is_some words.split

-- `name` is the output's name on the command line `words`. For `first_written`, when `merge` reads or refuses its inputs.
abbrev pub is_output : MergeWords → List ℕ → Bool
is_output words name = bytes_eq name words.output

-- The output of the merge `words` is split, and `name` could be the name of one of its parts. For `first_written`.
abbrev pub is_part : MergeWords → List ℕ → Bool
is_part words name = is_split words && is_part_name words.output name

-- the first name of a file that is read and that an output of the merge `words` could have. The output's name on the command line is looked for
-- first, also if the output is split; then names of parts. If there is one, `merge` is refused.
abbrev pub first_written : MergeWords → Option (List ℕ)
first_written words = option_or (find (is_output words) (read_names words)) (find (is_part words) (read_names words))

-- The command line `words` keeps its limits, and none of the files that it reads has a name that an output may have. So no output overwrites a file
-- that is read: a condition of the stages of `merge` after the check.
pub record IsApartMerge (words : MergeWords) : Type 0 where
  pub sound : IsSoundMerge words
  pub apart : first_written words ≡ None

-- ---- contents

-- the contents of the inputs of `words` in `world`, in the order of the command line; an absent file counts as empty. `merge` reads them.
abbrev pub contents_held : (List ℕ → Option (List ℕ)) → MergeWords → List (List ℕ)
contents_held world words = map (λ name. unwrap_or (world name) []) (file_names words.files)

-- the contents of the files that `words` attaches in `world`, in the order of the command line; an absent file counts as empty. `merge` copies them.
abbrev pub attached_held : (List ℕ → Option (List ℕ)) → MergeWords → List (List ℕ)
attached_held world words = map (λ name. unwrap_or (world name) []) (attached_names words.attached)

-- the contents of the chapter file and of the timestamp files of `words` in `world`. `merge` reads them.
abbrev pub texts_held : (List ℕ → Option (List ℕ)) → MergeWords → TextFiles
texts_held world words = text_files world words.chapters words.files

-- ---- pending edits

-- the refusal because of a pending edit: the input with this number, counted from 0, has one, or else (`output`) the file with the output's name. For
-- `pending_of`, when `merge` reads or refuses its inputs.
abbrev pub pending_refusal : Option ℕ → Bool → Option Refusal
pending_refusal (Some input) output = Some (PendingInput input)
pending_refusal None true = Some PendingOutput
pending_refusal None false = None

-- the refusal of the merge `words` because of a pending edit, if the files are `world`. The inputs are checked in their order, then the file with the
-- output's name, unless the output is split. `merge` checks it before it reads an input.
abbrev pub pending_of : (List ℕ → Option (List ℕ)) → MergeWords → Option Refusal
pending_of world words = pending_refusal (first_pending world (file_names words.files)) (is_none words.split && is_pending world words.output)

-- ---- before the blocks

-- the result of reading an input; a refusal then names the input by its number `input`, counted from 0. For `inputs_from`, when `merge` reads or
-- refuses its inputs.
abbrev pub numbered : ℕ → Result InputRead InputRefusal → Result InputRead Refusal
numbered input (Ok read) = Ok read
numbered input (Err why) = Err (Input input why)

-- the results of reading the inputs from the number `input` onwards, or the first refusal. The inputs before them have `held` bytes of Info, Tracks,
-- Chapters and Tags, whose total size is limited. `webm` is true for a WebM output. For `inputs_of`, when `merge` reads or refuses its inputs.
abbrev pub inputs_from : Bool → ℕ → ℕ → List (FileWords × List ℕ) → Result (List InputRead) Refusal
inputs_from webm input held [] = Ok []
inputs_from webm input held (file ∷ files) =
    and_then (numbered input (input_of file.0 webm held file.1)) (λ read.
    and_then (inputs_from webm (suc input) (counted held read.held) files) (λ reads.
    Ok (read ∷ reads)))

-- the results of reading the inputs of `words`, which have the contents `contents`, or the first refusal of one. `merge` reads and checks them in
-- this order.
abbrev pub inputs_of : MergeWords → List (List ℕ) → Result (List InputRead) Refusal
inputs_of words contents = inputs_from words.webm 0 0 (zip words.files contents)

-- the results of reading the inputs, or none if an input is refused. For `reads_with`, when `merge` reads or refuses its inputs.
abbrev pub found_in : Result (List InputRead) Refusal → List InputRead
found_in (Ok reads) = reads
found_in (Err why) = []

-- the inputs of `words` as they are read from `contents`, with the Chapters and timestamps of the text files `texts`. There are none if an input is
-- refused. `merge` plans from them.
abbrev pub reads_with : MergeWords → TextFiles → List (List ℕ) → List InputRead
reads_with words texts contents = timed_from texts.times 0 (chaptered with_chapters words.webm texts.chapters (found_in (inputs_of words contents)))
