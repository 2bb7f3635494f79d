use Rattle.std.proofs.Common.{refl}
use Rattle.ebml_numbers.specs.Number.{is_id}
use Rattle.remuxer.proofs.InfoLemmas.{on-ok-then, uuids-added}
use Rattle.remuxer.proofs.info.add_uuids.Goals as goal

pub add_uuid-requires-clause-id : goal.add_uuid-requires-clause-id
unfolding is_id
add_uuid-requires-clause-id c = refl

pub add_uuid-requires-2-clause-id : goal.add_uuid-requires-2-clause-id
unfolding is_id
add_uuid-requires-2-clause-id c = refl

pub add_uuid-requires-3-clause-id : goal.add_uuid-requires-3-clause-id
unfolding is_id
add_uuid-requires-3-clause-id c = refl

pub returns-clause-added : goal.returns-clause-added
returns-clause-added c =
    on-ok-then c.add_uuid-3.result _ _
    (λ third. uuids-added c.args.info.now c.add_uuid.new.info c.add_uuid-2.new.info c.add_uuid-3.new.info c.args.uuids c.in_ok-add_uuid.ensures.added c.in_ok-add_uuid-2.ensures.added third)
    c.add_uuid-3.ensures.added
