use Rattle.merge_plan.specs.Plan.{lanes_ordered}
use Rattle.merge_laws.proofs.TakenLemmas.{lanes-go-on}
use Rattle.merge_laws.proofs.damaged_lanes_go_on.Goals as goal

pub returns : goal.returns
returns c = λ words sources on. lanes-go-on words.scale words.append_damaged (lanes_ordered words.order sources) on
