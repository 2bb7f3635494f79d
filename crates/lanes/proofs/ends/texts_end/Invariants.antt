use Rattle.std.proofs.Common.{◌≡◌, ◌≤◌, max, drop}
use Rattle.lanes.specs.Ends.{texts_end}
use Rattle.lanes.specs.declared.survey_result.TheConstants.{MAX_END}
use Rattle.lanes.proofs.ends.texts_end.Given as goal

abbrev pub invariant-loop-link : goal.invariant-loop-link
invariant-loop-link l = record {
  exact : max l.end (texts_end (drop l.link-index l.links)) ≡ texts_end l.links;
  small : l.end ≤ MAX_END;
}
