use Rattle.remerge_laws.proofs.NamedLemmas.{joined-named}
use Rattle.remerge_laws.proofs.merges.joined_tags_name_the_output.Goals as goal

pub returns : goal.returns
returns c = joined-named
