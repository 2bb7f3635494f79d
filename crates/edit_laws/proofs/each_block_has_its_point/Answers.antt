use Rattle.edit_laws.proofs.PointLemmas.{block-point}
use Rattle.edit_laws.proofs.each_block_has_its_point.Goals as goal

pub returns : goal.returns
returns c = block-point
