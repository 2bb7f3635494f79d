use Rattle.record_laws.proofs.TrackLemmas.{tracks-stay}
use Rattle.record_laws.proofs.records.tracks_stay.Goals as goal

pub returns : goal.returns
returns c = tracks-stay
