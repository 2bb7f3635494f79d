-- A refusal of the tracks refuses their Tracks.
use Rattle.std.proofs.Common.{◌∙◌, ap}
use Rattle.edit_changes.specs.Records as spec
use Rattle.edit_plan.proofs.TreesLemmas.{tracks-refused}
use Rattle.edit_plan.proofs.reading.good_tracks.Goals as goal

pub returns-in-Err-Damage-clause-exact : goal.returns-in-Err-Damage-clause-exact
returns-in-Err-Damage-clause-exact c =
    ap (spec.good_tracks c.args.segment.now) c.in-Some.is
    ∙ tracks-refused c.in-Some.tracks c.in-Err-Damage.damage (rw c.in-Err-Damage.field-0-is at c.in-Err-Damage.ensures.exact)
