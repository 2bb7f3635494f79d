use Rattle.remerge_laws.proofs.AgainTrackLemmas.{entries-again}
use Rattle.remerge_laws.proofs.merges.entries_are_written_again.Goals as goal

pub returns : goal.returns
returns c = entries-again c.tracks_stay.ensures
