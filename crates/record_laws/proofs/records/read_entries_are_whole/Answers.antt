use Rattle.record_laws.proofs.WholeLemmas.{read-entries-whole}
use Rattle.record_laws.proofs.records.read_entries_are_whole.Goals as goal

pub returns : goal.returns
returns c = read-entries-whole
