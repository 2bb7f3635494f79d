use Rattle.time_merge.proofs.QueueLemmas.{starts-due, lanes-due}
use Rattle.std.proofs.Common.{refl}
use Rattle.time_merge.proofs.merge.Merge.start.Goals as goal

pub returns-clause-starts : goal.returns-clause-starts
returns-clause-starts g c = λ f. starts-due f c.args.lanes c.in_ok-queues.queues c.in_ok-queues.ensures

pub returns-clause-begins : goal.returns-clause-begins
returns-clause-begins g c = record { lanes = lanes-due c.args.lanes c.in_ok-queues.queues c.in_ok-queues.ensures; given = refl }
