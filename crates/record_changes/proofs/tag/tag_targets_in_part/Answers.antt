-- A child of Targets is valid.
use Rattle.std.proofs.Common.{sym, ◌∙◌}
use Rattle.ebml_tree.proofs.BuildLemmas.{stands-read, child-of}
use Rattle.record_changes.proofs.TagFacts.{targets-in}
use Rattle.record_changes.proofs.tag.tag_targets_in_part.Goals as goal

pub tag_targets_of-requires : goal.tag_targets_of-requires
tag_targets_of-requires c = child-of _ _ _ _ _ (stands-read _ _ _ targets-in c.requires (sym c.id.ensures ∙ c.if-id-eq-TARGETS.true)) c.children-child-items.ensures.exact c.loop-child-test.true c.child-item.is
