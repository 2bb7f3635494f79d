use Rattle.std.proofs.Common.{◌≡◌, ◌≤◌, max, drop}
use Rattle.lanes.specs.Ends.{ends_of}
use Rattle.lanes.specs.Frames.{by_head}
use Rattle.lanes.specs.declared.survey_result.TheConstants.{MAX_END}
use Rattle.lanes.proofs.ends.greatest_end.Given as goal

abbrev pub invariant-loop-k : goal.invariant-loop-k
invariant-loop-k l = record {
  exact : max l.end (ends_of (by_head l.cursor.block) (drop l.k l.before) (drop l.k l.links)) ≡ max l.initial.end (ends_of (by_head l.cursor.block) l.before l.links);
  small : l.end ≤ MAX_END;
}
