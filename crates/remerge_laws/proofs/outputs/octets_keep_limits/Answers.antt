use Rattle.remerge_laws.proofs.LimitLemmas.{octets-keep}
use Rattle.remerge_laws.proofs.outputs.octets_keep_limits.Goals as goal

pub returns : goal.returns
returns c = octets-keep
