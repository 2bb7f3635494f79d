use Rattle.remerge_laws.proofs.RecordLemmas.{outputs-read}
use Rattle.remerge_laws.proofs.outputs.outputs_are_read_with_limits.Goals as goal

pub returns : goal.returns
returns c = outputs-read
