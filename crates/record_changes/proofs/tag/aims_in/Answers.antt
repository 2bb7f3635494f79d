-- A child of a Tag is valid.
use Rattle.ebml_tree.proofs.BuildLemmas.{child-of}
use Rattle.record_changes.proofs.tag.aims_in.Goals as goal

pub tag_targets_in_part-requires : goal.tag_targets_in_part-requires
tag_targets_in_part-requires c = child-of _ _ _ _ _ c.requires c.children-part-items.ensures.exact c.loop-part-test.true c.part-item.is
