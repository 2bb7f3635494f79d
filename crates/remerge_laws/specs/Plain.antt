-- A merge of one file without options. Its command line is this project's.
use Rattle.std.specs.Prelude.{ℕ, Bool, List, [], ◌∷◌, None}
use Rattle.requests.specs.declared.merge.MergeWords.{MergeWords}
use Rattle.requests.specs.Plain.{plain_file, plain_words}

-- the command line that merges the file `name` to `out`, by itself and without options, as the laws on a repeated merge have it
abbrev pub plain_merge : List ℕ → List ℕ → MergeWords
plain_merge out name = plain_words out None (plain_file name ∷ [])

-- the command line that merges the file `name` to `out`, by itself and without options, but with `--duration` if `duration` is true. The laws on a
-- repeated merge suppose that the first merge had the same.
abbrev pub merge_again : Bool → List ℕ → List ℕ → MergeWords
merge_again duration out name = record (plain_merge out name) { duration = duration }
