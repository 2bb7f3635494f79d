-- No file up to now is too large.
use Rattle.std.proofs.Common.{◌≡◌, drop}
use Rattle.std.specs.Prelude.{nat_lt}
use Rattle.std.specs.List.{position_from}
use Rattle.mkv_io.specs.Sources.{live_files}
use Rattle.input_files.specs.Inputs.{first_large, sizes_of}
use Rattle.input_files.specs.declared.limits.TheConstants.{MAX_ATTACHED_LEN}
use Rattle.input_files.proofs.attached.first_large.Given as goal

abbrev pub invariant-loop-k : goal.invariant-loop-k
invariant-loop-k g l =
    first_large (sizes_of (live_files g.R.Reads l.src) l.files) ≡ position_from (λ len. nat_lt MAX_ATTACHED_LEN len) l.k (sizes_of (live_files g.R.Reads l.src) (drop l.k l.files))
