use Rattle.std.proofs.Common.{◌<◌}
use Rattle.std.proofs.lemmas.Result.{err_from_is_err_and}
use Rattle.mkv_io.specs.Sources.{file_size}
use Rattle.input_files.specs.declared.limits.TheConstants.{MAX_SRT_LEN}
use Rattle.input_files.specs.declared.refusal.TextFileEnd.TheVariants.{Refused}
use Rattle.input_files.specs.declared.refusal.TextRefusal.TheVariants.{TooLarge}
use Rattle.input_files.proofs.TextLemmas.{err-moves}
use Rattle.input_files.proofs.reading.read_entries.Goals as goal

-- The file wasn't read.
pub returns-in_err-octets-clause-large : goal.returns-in_err-octets-clause-large
returns-in_err-octets-clause-large g c =
    let p = err_from_is_err_and c.from_residual.result c.from_residual.ensures.1 in
    rw (p.1, p.2) (err-moves c.in_err-octets.field-0.0 (Refused TooLarge) (MAX_SRT_LEN < file_size g.R.Reads c.args.src.now c.args.file) c.in_err-octets.ensures.large)
