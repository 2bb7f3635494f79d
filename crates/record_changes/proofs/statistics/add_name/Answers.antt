-- The inserted name is added.
use Rattle.record_changes.proofs.StatisticsLemmas.{name-inserted}
use Rattle.record_changes.proofs.statistics.add_name.Goals as goal

pub returns : goal.returns
returns c = name-inserted c.args.names.now.keys c.insert.new.self.keys c.args.name c.in_ok-insert.ensures.keys
