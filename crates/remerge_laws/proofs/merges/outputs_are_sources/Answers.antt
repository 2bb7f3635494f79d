use Rattle.remerge_laws.proofs.AgainSourceLemmas.{outputs-sources}
use Rattle.remerge_laws.proofs.merges.outputs_are_sources.Goals as goal

pub returns : goal.returns
returns c = outputs-sources
