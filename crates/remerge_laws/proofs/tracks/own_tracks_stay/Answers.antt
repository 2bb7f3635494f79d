use Rattle.remerge_laws.proofs.OwnTrackLemmas.{own-tracks}
use Rattle.remerge_laws.proofs.tracks.own_tracks_stay.Goals as goal

pub returns : goal.returns
returns c = own-tracks c.tracks_stay.ensures
