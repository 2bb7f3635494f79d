-- The leaf is valid in a TrackEntry.
use Rattle.std.proofs.Common.{refl}
use Rattle.track_records.proofs.StandLemmas.{set-leaf}
use Rattle.track_records.proofs.written_entry.set_uint.Goals as goal

pub returns : goal.returns
returns c =
    set-leaf _ _ c.requires.whole _ _ c.args.id _ _ c.in_ok-uint_leaf.ensures.exact refl c.set.ensures.ok c.set.ensures.master c.set.ensures.sound
    (c.in_ok-uint_leaf.ensures.stands _ c.requires.id)
