-- The check that no output of an extraction has the name of a file that is read. It is this project's.
use Rattle.std.specs.Prelude.{ℕ, Bool, ◌||◌, List, Option}
use Rattle.std.specs.List.{find}
use Rattle.std.specs.Str.{bytes_eq}
use Rattle.requests.specs.declared.job.Job.{Job}
use Rattle.sidecar_edit.specs.Name.{sidecar_of}
use Rattle.extractors.specs.Job.{names_for}

-- The output name `out` is `name`, the file's, or `sidecar`, its journal's. For `is_read`, so that `extract` overwrites no file that it reads.
abbrev pub is_either : List ℕ → List ℕ → List ℕ → Bool
is_either name sidecar out = bytes_eq out name || bytes_eq out sidecar

-- An extraction from the file `name` reads the file `out`: it is the file itself or its journal. For `first_written`, so that `extract` overwrites no
-- file that it reads.
abbrev pub is_read : List ℕ → List ℕ → Bool
is_read name out = is_either name (sidecar_of name) out

-- the first output name of `job` that is also the name of a file that is read for the input `name`, if any. If there is one, `extract` is refused.
abbrev pub first_written : List ℕ → Job → Option (List ℕ)
first_written name job = find (is_read name) (names_for job)
