use Rattle.std.proofs.Common.{◌≡◌, drop}
use Rattle.lanes.specs.Survey.{first_track}
use Rattle.lanes.proofs.file_survey.first_track.Given as goal

abbrev pub invariant-loop-link : goal.invariant-loop-link
invariant-loop-link l = first_track (drop l.link-index l.links) ≡ first_track l.links
