-- A target is an integer of the table.
use Rattle.record_changes.proofs.TargetLemmas.{target-short}
use Rattle.record_changes.proofs.target.number_of.Goals as goal

pub uint-requires : goal.uint-requires
uint-requires c = target-short c.args.target.now c.requires.stands c.requires.target
