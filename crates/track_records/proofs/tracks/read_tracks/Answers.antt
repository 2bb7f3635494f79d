-- The result is the definition's.
use Rattle.track_records.proofs.TracksLemmas.{taken, refused, sound, room}
use Rattle.track_records.proofs.tracks.read_tracks.Goals as goal

pub returns-clause-taken : goal.returns-clause-taken
returns-clause-taken c = taken c.read.result c.args.tracks.now c.read.ensures.exact

pub returns-clause-refused : goal.returns-clause-refused
returns-clause-refused c = refused c.read.result c.args.tracks.now c.read.ensures.exact

pub returns-clause-sound : goal.returns-clause-sound
returns-clause-sound c = sound c.read.result c.args.tracks.now c.requires c.read.ensures.exact

pub returns-clause-room : goal.returns-clause-room
returns-clause-room c = room c.read.result c.args.tracks.now c.read.ensures.room c.read.ensures.exact
