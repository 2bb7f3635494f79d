use Rattle.edit_laws.proofs.PointLemmas.{points-point_at}
use Rattle.edit_laws.proofs.points_point_at_blocks.Goals as goal

pub returns : goal.returns
returns c = points-point_at
