-- Limits that are kept don't change the entries.
use Rattle.file_format.proofs.FileLemmas.{limits-no-entry}
use Rattle.file_format.proofs.track_laws.limits_change_no_entry.Goals as goal

pub returns : goal.returns
returns c = limits-no-entry
