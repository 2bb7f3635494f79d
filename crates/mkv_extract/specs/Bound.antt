-- The limits on the bytes that `extract` reads of a file. They are this project's.
use Rattle.std.specs.Prelude.{◌≡◌, ℕ, ◌+◌, ◌*◌, min, List, length, Option, Some, None}
use Rattle.mkv_io.specs.declared.reads.Reads.{Ghosts}
use Rattle.requests.specs.declared.job.Job.{Job}
use Rattle.requests.specs.declared.job.Job.TheVariants as jobs
use Rattle.meta_records.specs.declared.limits.TheConstants.{MAX_ATTACHMENTS_LEN}
use Rattle.mkv_lines.specs.Command.{with_sidecar_head}
use Rattle.mkv_io.specs.Bounds.{ReadsByNames, ReadsUpTo}
use Rattle.mkv_io.specs.declared.files.Files as writing

-- the limit in bytes for reading the first Cues of a file of `octets` bytes; 0 unless the job extracts cue points. For `most_before`, as a limit on
-- what `extract` reads.
abbrev pub most_of_cues : Job → ℕ → ℕ
most_of_cues (jobs.Cues list) octets = octets
most_of_cues job octets = 0

-- the limit in bytes for reading a file of `octets` bytes up to its blocks, for `job`. It is the first Cues; the outline twice; Info, Tracks,
-- Chapters and Tags once each; and attached files without their data. The contract of `read_source` states it.
abbrev pub most_before : Job → ℕ → ℕ
most_before job octets = 6 * octets + min (16 * octets) (2 * MAX_ATTACHMENTS_LEN) + most_of_cues job octets

-- the limit in bytes for reading the content that a job extracts from a file of `octets` bytes. For frames it is twice the file, for any number of
-- tracks. For attached files it is the file for each of them. The contract of `extract_job` states it.
abbrev pub most_of_content : Job → ℕ → ℕ
most_of_content (jobs.Tracks form list) octets = 2 * octets
most_of_content (jobs.Attachments list) octets = length list * octets
most_of_content job octets = 0

-- the limit in bytes for the job `job` and a file of `octets` bytes. For `most_with`, as a limit on what `extract` reads.
abbrev pub most_of_file : Job → ℕ → ℕ
most_of_file job octets = most_before job octets + most_of_content job octets

-- the limit in bytes for the job `job` and a file with the content `bytes`, including the head of its journal; 0 without a file. For
-- `most_to_extract`, as a limit on what `extract` reads.
abbrev pub most_with : Job → Option (List ℕ) → ℕ
most_with job None = 0
most_with job (Some bytes) = with_sidecar_head (most_of_file job) (length bytes)

-- the limit in bytes for the job `job` and the file `name`, if `world` has the content of each name. The promise of a whole run uses it for
-- `extract`.
abbrev pub most_to_extract : (List ℕ → Option (List ℕ)) → List ℕ → Job → ℕ
most_to_extract world name job = most_with job (world name)

-- From the state `old` to `new`, at most the limit for the file `name` and the job `job` was read. It is promised if the contents are visible to the
-- proof. The contract of `extract_of` states it. `r` and `f` give the proof's view of the files.
abbrev pub ReadsToExtract : {S : Type 0} → Ghosts S → writing.Ghosts S → S → S → List ℕ → Job → Type 0
ReadsToExtract r f old new name job = ReadsByNames r f old new (λ world. most_to_extract world name job)

-- From the state `old` to `new`, only the count of bytes read has changed, by at most `most`. The contract of `read_source` states it.
pub record ReadsAtMost {S : Type 0} (r : Ghosts S) (old new : S) (most : ℕ) : Type 0 where
  pub standing : r.standing new ≡ r.standing old
  pub octets : ReadsUpTo r old new most
