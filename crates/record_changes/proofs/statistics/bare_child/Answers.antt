-- A Tag in Tags is a master.
use Rattle.std.proofs.Common.{sym, ◌∙◌}
use Rattle.ebml_tree.proofs.BuildLemmas.{stands-read}
use Rattle.record_changes.proofs.TagFacts.{tag-in}
use Rattle.record_changes.proofs.statistics.bare_child.Goals as goal

pub bare_tag-requires : goal.bare_tag-requires
bare_tag-requires c = stands-read _ _ _ tag-in c.requires (sym c.id.ensures ∙ c.if-id-eq-TAG.true)
