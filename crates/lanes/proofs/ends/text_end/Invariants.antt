use Rattle.std.proofs.Common.{◌≡◌, ◌≤◌, max, drop, map, []}
use Rattle.merge_model.specs.Links.{entry_block}
use Rattle.merge_model.specs.Ends.{last_end}
use Rattle.merge_model.specs.FileLinks.{text_with}
use Rattle.lanes.specs.Ends.{text_end}
use Rattle.lanes.specs.declared.survey_result.TheConstants.{MAX_END}
use Rattle.lanes.proofs.ends.text_end.Given as goal

abbrev pub invariant-loop-entry : goal.invariant-loop-entry
invariant-loop-entry l = record {
  exact : max l.end (last_end (text_with l.text []).placing (map entry_block (drop l.entry-index l.entry-items))) ≡ max l.initial.end (text_end l.text);
  small : l.end ≤ MAX_END;
}
