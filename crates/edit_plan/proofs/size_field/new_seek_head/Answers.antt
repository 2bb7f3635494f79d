-- The Seeks are of valid IDs.
use Rattle.std.proofs.Common.{◌∙◌, map, subst, sym}
use Rattle.cues_seekhead.specs.Places.{AreIds}
use Rattle.edit_plan.specs.Shown.{shown}
use Rattle.edit_plan.proofs.HeadLemmas.{seeks-valid}
use Rattle.edit_plan.proofs.size_field.new_seek_head.Goals as goal

pub seek_head_body-requires-clause-seeks : goal.seek_head_body-requires-clause-seeks
seek_head_body-requires-clause-seeks c =
    subst AreIds (sym (c.as_slice.ensures.value ∙ c.in_ok-seeks.ensures)) (seeks-valid c.args.ids.now c.args.outline.now (map shown c.args.parts.now) c.requires)
