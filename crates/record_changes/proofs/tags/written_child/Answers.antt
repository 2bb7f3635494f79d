-- A Tag in Tags is a master.
use Rattle.std.proofs.Common.{sym, ◌∙◌}
use Rattle.ebml_tree.proofs.BuildLemmas.{stands-read}
use Rattle.record_changes.proofs.TagFacts.{tag-in}
use Rattle.record_changes.proofs.tags.written_child.Goals as goal

pub aims_in-requires : goal.aims_in-requires
aims_in-requires c = stands-read _ _ _ tag-in c.requires (sym c.id.ensures ∙ c.if-id-ne-TAG.false)

pub written_tag-requires : goal.written_tag-requires
written_tag-requires c = stands-read _ _ _ tag-in c.requires (sym c.id.ensures ∙ c.if-id-ne-TAG.false)
