use Rattle.cluster_reader.proofs.next_step.turn.Goals as goal

-- At level 1 there is no block, so the filter doesn't matter.
pub returns-in-None-clause-gives : goal.returns-in-None-clause-gives
returns-in-None-clause-gives g c = λ bytes told. c.turn_at_level_1.ensures.gives bytes told c.args.takes

pub returns-in-None-clause-takes : goal.returns-in-None-clause-takes
returns-in-None-clause-takes g c = c.turn_at_level_1.ensures.takes c.args.takes
