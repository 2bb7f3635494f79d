-- Limits that are kept don't change the scale.
use Rattle.file_format.proofs.InfoLemmas.{limits-no-scale}
use Rattle.file_format.proofs.info_laws.limits_change_no_scale.Goals as goal

pub returns : goal.returns
returns c = limits-no-scale
