use Rattle.mkv_schema.proofs.BodyDamageLemmas.{damages-by_place}
use Rattle.mkv_schema.proofs.element_laws.damages_are_by_place.Goals as goal

pub returns : goal.returns
returns c = damages-by_place
