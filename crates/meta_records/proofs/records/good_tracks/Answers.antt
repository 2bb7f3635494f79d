use Rattle.meta_records.proofs.RecordsLemmas.{AreRead-made}
use Rattle.meta_records.proofs.records.good_tracks.Goals as goal

-- Valid entries give the tracks.
pub returns-in-Ok-clause-good : goal.returns-in-Ok-clause-good
returns-in-Ok-clause-good c = AreRead-made c.in-Some.tracks c.in-Ok.tracks c.in-Ok.ensures.exact c.in-Ok.ensures.taken c.in-Ok.ensures.sound c.in-Ok.ensures.room
