use Rattle.remerge_laws.proofs.AgainTrackLemmas.{tracks-taken}
use Rattle.remerge_laws.proofs.merges.tracks_are_taken_again.Goals as goal

pub returns : goal.returns
returns c = tracks-taken
