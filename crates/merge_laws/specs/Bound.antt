-- The number of bytes that a merge may read, by the lengths of its inputs and attached files. The bound is this project's.
use Rattle.std.specs.Prelude.{◌≡◌, ℕ, ◌+◌, ◌*◌, ◌≤◌, false, List, Option, All}
use Rattle.input_files.specs.TextFiles.{text_octets}
use Rattle.requests.specs.declared.merge.FileWords.{FileWords}
use Rattle.requests.specs.declared.merge.MergeWords.{MergeWords}
use Rattle.requests.specs.Sound.{IsSoundMerge}
use Rattle.mkv_merge.specs.Bound.{data_count, lane_count, most_looked, most_read, opened_length}
use Rattle.mkv_merge.specs.Merge.{sources_of}

-- the most bytes that the merge `words` may read if the files are `world`, by the sum of the lengths of its inputs and attached files in bytes. The sum
-- counts 16 times for each output track and 48 times besides; a file counts as often as `words` names it. The text files and 1 MiB are added.
-- `ReadsAreBounded` compares it with `most_read`.
abbrev pub most_by_length : (List ℕ → Option (List ℕ)) → MergeWords → ℕ
most_by_length world words =
    16 * (lane_count (sources_of world words) + 3) * opened_length world words + 1048576 + text_octets world words.chapters words.files

-- The merge `words` of the files `world` may read at most `most_by_length` bytes, also if it is refused. The command line must keep its limits. It is
-- the law `reads_are_bounded_by_lengths`.
abbrev pub ReadsAreBounded : Type 0
ReadsAreBounded = (world : List ℕ → Option (List ℕ)) (words : MergeWords) → IsSoundMerge words → most_read world words ≤ most_by_length world words

-- No input on the command line `words` of a merge is appended to another. It is the condition of the law `only_appending_walks`.
abbrev pub AppendsNone : MergeWords → Type 0
AppendsNone words = All (λ (w : FileWords). w.appended ≡ false) words.files

-- If the merge `words` appends no file, it may read its inputs and attached files 25 times, and twice for each output track, in bytes. The data of
-- attachments, the starts of the journals, and the text files are added, as in every merge. `world` has the files. It is the law
-- `only_appending_walks`.
abbrev pub OnlyAppendingWalks : Type 0
OnlyAppendingWalks =
    (world : List ℕ → Option (List ℕ)) (words : MergeWords) → AppendsNone words → let octets = opened_length world words in let sources = sources_of world words in
    most_read world words ≡ text_octets world words.chapters words.files + (25 * octets + (2 * (lane_count sources * octets) + data_count sources) + most_looked words)
