-- Targets in a Tag is a master.
use Rattle.std.proofs.Common.{sym, ◌∙◌}
use Rattle.ebml_tree.proofs.BuildLemmas.{stands-read}
use Rattle.record_changes.proofs.TagFacts.{targets-in}
use Rattle.record_changes.proofs.tag.written_part.Goals as goal

pub written_targets-requires : goal.written_targets-requires
written_targets-requires c = stands-read _ _ _ targets-in c.requires (sym c.id.ensures ∙ c.if-id-eq-TARGETS.true)
