use Rattle.remerge_laws.proofs.AgainInfoLemmas.{info-again}
use Rattle.remerge_laws.proofs.merges.info_is_written_again.Goals as goal

pub returns : goal.returns
returns c = info-again
