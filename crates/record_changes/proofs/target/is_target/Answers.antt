-- A target is an integer of the table.
use Rattle.std.proofs.Common.{sym, ap, ◌∙◌}
use Rattle.record_changes.specs.Tags.{is_target_id}
use Rattle.record_changes.proofs.TargetLemmas.{target-short}
use Rattle.record_changes.proofs.target.is_target.Goals as goal

pub uint-requires : goal.uint-requires
uint-requires c = target-short c.args.child.now c.requires (sym (c.is_target_id.ensures ∙ ap is_target_id c.id.ensures) ∙ c.if-is_target_id.true)
