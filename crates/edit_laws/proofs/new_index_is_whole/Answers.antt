use Rattle.edit_laws.proofs.AnewLemmas.{index-whole}
use Rattle.edit_laws.proofs.new_index_is_whole.Goals as goal

pub returns : goal.returns
returns c = index-whole
