use Rattle.remerge_laws.proofs.AlikeLemmas.{alike-one}
use Rattle.remerge_laws.proofs.outputs.alike_documents_are_one.Goals as goal

pub returns : goal.returns
returns c = alike-one
