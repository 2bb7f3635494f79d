-- The keys are compared by their bytes.
use Rattle.std.proofs.Common.{◌∙◌}
use Rattle.record_changes.proofs.StatisticsLemmas.{one-of-keys}
use Rattle.record_changes.proofs.statistics.is_one_of.Goals as goal

pub returns : goal.returns
returns c = c.contains.ensures ∙ one-of-keys c.args.names.now.keys c.args.name.now
