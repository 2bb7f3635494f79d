use Rattle.remerge_laws.proofs.TrackLemmas.{tracks-read}
use Rattle.remerge_laws.proofs.tracks.tracks_are_read.Goals as goal

pub returns : goal.returns
returns c = tracks-read
