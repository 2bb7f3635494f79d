-- The timestamps that `extract` writes for a track, given back to the track in a merge.
use Rattle.std.specs.Prelude.{◌≡◌, ℕ, zero, suc, ◌==◌, Bool, true, false, not, List, [], ◌∷◌, ◌++◌, filter, map, slice_get, Option, Some, IfSome}
use Rattle.std.specs.List.{list_any}
use Rattle.ebml_numbers.specs.Number.{AreOctets}
use Rattle.requests.specs.declared.job.Job.{Job}
use Rattle.requests.specs.declared.job.Job.TheVariants.{Tracks}
use Rattle.requests.specs.declared.job.Form.TheVariants.{Times}
use Rattle.extractors.specs.Whole.{output}
use Rattle.requests.specs.declared.merge.FileWords.{FileWords}
use Rattle.requests.specs.declared.merge.MergeWords.{MergeWords}
use Rattle.input_files.specs.TimesFile.{times_files}
use Rattle.input_files.specs.declared.refusal.TextRefusal.TheVariants.{Bad, TooLarge}
use Rattle.input_files.specs.declared.times_file.TimesFile.{TimesFile}
use Rattle.input_files.specs.declared.times_file.TimesGiven.{TimesGiven}
use Rattle.input_files.specs.declared.times_file.TimesGiven.TheVariants.{Missing, Read, Refused}
use Rattle.input_files.specs.declared.times_file.TimesName.{TimesName}
use Rattle.mkv_lines.specs.Verdict.{at_once}
use Rattle.mkv_extract.specs.Extract.{extract_verdict}
use Rattle.mkv_merge.specs.Merge.{merge_verdict}
use Rattle.mkv_merge.specs.Read.{first_written}

-- the contents of files by their names; a name without a file has none. For the law on timestamps that are given back.
abbrev pub World : Type 0
World = List ℕ → Option (List ℕ)

-- ---- the option

-- the options of the input `file` without its timestamp files and the tracks that options name. For `HasOption`, in the laws on timestamp files.
abbrev pub untold : FileWords → FileWords
untold file = record file { times = []; named = [] }

-- the tracks in `named`, except the track `id`. For `HasOption`, in the laws on timestamp files.
abbrev pub others : ℕ → List ℕ → List ℕ
others id named = filter (λ k. not (k == id)) named

-- One of the timestamp files `times` is for the track `id`. For `HasOption`, in the laws on timestamp files.
abbrev pub is_timed : ℕ → List (ℕ × List ℕ) → Bool
is_timed id times = list_any (λ (pair : ℕ × List ℕ). pair.0 == id) times

-- The options `new` of an input are `old` with `--timestamps ID:NAME` added, for the track `id` and the file `name`. Both have the same other
-- timestamp files and name the same other tracks. No later file is for the same track. For `IsTakenOut`.
pub record HasOption (id : ℕ) (name : List ℕ) (new old : FileWords) : Type 0 where
  pub before : List (ℕ × List ℕ)
  pub behind : List (ℕ × List ℕ)
  pub times : new.times ≡ before ++ (id, name) ∷ behind
  pub without : old.times ≡ before ++ behind
  pub alone : is_timed id behind ≡ false
  pub named : others id new.named ≡ others id old.named
  pub alike : untold new ≡ untold old

-- the inputs in the list with `new` in the place of the one with the number `number`, from 0. For `with_input`, in the laws on timestamp files.
abbrev pub set_input : ℕ → FileWords → List FileWords → List FileWords
set_input number new [] = []
set_input zero new (file ∷ files) = new ∷ files
set_input (suc number) new (file ∷ files) = file ∷ set_input number new files

-- the command line `words` of a merge with `new` as the options of the input number `number`, from 0. The law on timestamps that are given back
-- compares the two command lines.
abbrev pub with_input : ℕ → FileWords → MergeWords → MergeWords
with_input number new words = record words { files = set_input number new words.files }

-- ---- the file

-- the job of `extract FILE timestamps_v2 ID:OUT`, for the track `id` and the output `out`. For `WritesTimes`.
abbrev pub times_job : ℕ → List ℕ → Job
times_job id out = Tracks Times (record { id = id; name = out } ∷ [])

-- `extract FILE timestamps_v2 ID:OUT`, for the file `file` in `world` and the track with the index `id` in Tracks, from 0, writes `content` to some
-- output. For `IsTakenOut`.
abbrev pub WritesTimes : World → List ℕ → ℕ → List ℕ → Type 0
WritesTimes world file id content = (out : List ℕ) × ((extract_verdict world file (times_job id out)).outputs ≡ at_once (output out content ∷ []))

-- The options `new` of an input of the merge `words` give a track the timestamps of the file `n`. It names the input and the track, and holds what
-- was extracted from the same track in `before`. In `world` the input consists of bytes and hasn't changed since. A condition of the law on
-- timestamps that are given back.
pub record IsTakenOut (before world : World) (words : MergeWords) (n : TimesName) (new : FileWords) : Type 0 where
  pub input : FileWords
  pub content : List ℕ
  pub number : slice_get words.files n.input ≡ Some input
  pub option : HasOption n.id n.name new input
  pub octets : IfSome (world input.name) AreOctets
  pub unchanged : world input.name ≡ before input.name
  pub written : WritesTimes before input.name n.id content
  pub holds : world n.name ≡ Some content

-- The timestamp file is refused because it is too long, by itself or together with the files before it. For `too_long`, in the laws on timestamp
-- files.
abbrev pub is_too_long : TimesGiven → Bool
is_too_long Missing = false
is_too_long (Refused TooLarge) = true
is_too_long (Refused (Bad line)) = false
is_too_long (Read times) = false

-- the timestamp files of the inputs `files` that are too long, in the order of the command line; `world` has the content of each name. For
-- `IsAllowed`, in the laws on timestamp files.
abbrev pub too_long : World → List FileWords → List TimesName
too_long world files = map (λ (f : TimesFile). f.named) (filter (λ (f : TimesFile). is_too_long f.given) (times_files world files))

-- The option in `new`, for the timestamp file `n`, adds no refusal to the merge `words` by a name or a length. The first output name that is also the
-- name of a file that is read is the same. So are the timestamp files that are too long. `world` has the content of each name. A condition of the law
-- on timestamps that are given back.
pub record IsAllowed (world : World) (words : MergeWords) (n : TimesName) (new : FileWords) : Type 0 where
  pub name : first_written (with_input n.input new words) ≡ first_written words
  pub length : too_long world (with_input n.input new words).files ≡ too_long world words.files

-- ---- the law

-- Timestamps that were extracted from a track and given back to it change nothing in the merge `words`. Status, lines and outputs are the same.
-- `world` has the files, and `before` had them at the extraction. `new` are the options of the input of the timestamp file `n`. The law
-- `times_given_back_change_nothing` states it.
abbrev pub TimesGivenBackChangeNothing : Type 0
TimesGivenBackChangeNothing =
    (before world : World) (words : MergeWords) (n : TimesName) (new : FileWords) → IsTakenOut before world words n new → IsAllowed world words n new
    → merge_verdict world (with_input n.input new words) ≡ merge_verdict world words
