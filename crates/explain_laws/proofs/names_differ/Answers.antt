use Rattle.explain_laws.proofs.MessageLemmas.{names-differ}
use Rattle.explain_laws.proofs.names_differ.Goals as goal

-- each pair of names is compared
pub returns : goal.returns
returns c = names-differ
