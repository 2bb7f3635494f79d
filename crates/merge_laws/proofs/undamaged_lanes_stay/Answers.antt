use Rattle.merge_plan.specs.Front.{reads_of}
use Rattle.merge_plan.specs.Plan.{lanes_given, lanes_ordered}
use Rattle.std.specs.List.{All}
use Rattle.merge_plan.proofs.OrderedLemmas.{ordered-all}
use Rattle.merge_laws.specs.Laws.{NeverStops}
use Rattle.merge_laws.proofs.TakenLemmas.{lanes-stay}
use Rattle.merge_laws.proofs.undamaged_lanes_stay.Goals as goal

pub returns : goal.returns
returns c = λ words sources never. lanes-stay words.append_damaged (lanes_ordered words.order sources) (ordered-all (All NeverStops) words.order (reads_of sources) (lanes_given sources) never)
