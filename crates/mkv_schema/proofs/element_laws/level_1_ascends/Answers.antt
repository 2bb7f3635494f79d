use Rattle.mkv_schema.proofs.ElementsLemmas.{level_1-ascends}
use Rattle.mkv_schema.proofs.element_laws.level_1_ascends.Goals as goal

pub returns : goal.returns
returns c = level_1-ascends
