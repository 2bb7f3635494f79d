-- The Tags found and the rest make the whole.
use Rattle.std.proofs.Common.{◌≡◌, ◌++◌, drop, List}
use Rattle.mkv_schema.specs.declared.ids.TheConstants.{TAGS}
use Rattle.tree_format.specs.Node.{Node, master, nodes_of}
use Rattle.output_model.specs.Sound.{IsRecord}
use Rattle.output_records.specs.Tags.{all_uids, tags_from}
use Rattle.output_records.proofs.tags.joined_tags.Given as goal

abbrev pub invariant-loop-input : goal.invariant-loop-input
invariant-loop-input l = record {
  written : List Node;
  exact : l.joined ≡ master TAGS 0 (nodes_of written);
  all : written ++ tags_from (all_uids l.editions l.chapters l.attachments) (drop l.input-index l.inputs) ≡ tags_from l.numbers l.inputs;
  own : IsRecord TAGS l.joined;
}
