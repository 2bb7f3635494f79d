-- The leaf is valid in a TrackEntry.
use Rattle.track_records.proofs.StandLemmas.{set-leaf, set-given}
use Rattle.track_records.proofs.written_entry.set_text.Goals as goal

pub returns-in_ok-text_leaf-in-Some : goal.returns-in_ok-text_leaf-in-Some
returns-in_ok-text_leaf-in-Some c =
    set-given _ _ c.requires.whole _ _ c.args.id _ c.in-Some.is
    (set-leaf _ _ c.requires.whole _ _ c.args.id _ _ c.in_ok-text_leaf-in-Some.ensures.exact c.as_str.ensures.same c.set.ensures.ok c.set.ensures.master c.set.ensures.sound
    (c.in_ok-text_leaf-in-Some.ensures.stands _ c.requires.id))
