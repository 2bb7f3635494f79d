-- The TrackEntry that is selected is the one that is edited.
use Rattle.std.proofs.Common.{sym}
use Rattle.edit_changes.proofs.TrackLemmas.{tracks-made, tracks-stand}
use Rattle.edit_changes.proofs.editing.edit_track.Goals as goal

pub returns-clause-exact : goal.returns-clause-exact
returns-clause-exact c =
    tracks-made c.edit_entry.result c.args.tracks.now.items c.edit_entry.new.tracks.items c.in-Some.k c.args.edit.now
    (rw c.as_slice.ensures.value at (sym c.in-Some.ensures.exact)) c.edit_entry.ensures.exact

pub returns-clause-tracks : goal.returns-clause-tracks
returns-clause-tracks c =
    tracks-stand c.edit_entry.result c.args.tracks.now.items c.edit_entry.new.tracks.items c.in-Some.k c.args.edit.now c.requires.tracks
    (rw c.as_slice.ensures.value at c.in-Some.ensures.entry) c.edit_entry.ensures.exact
