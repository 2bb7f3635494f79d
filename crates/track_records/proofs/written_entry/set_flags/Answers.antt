-- Each flag is a child of a TrackEntry, and they are set in sequence.
use Rattle.track_records.proofs.StandLemmas.{set-flags, enabled, hearing_impaired, visual_impaired, text_descriptions, original, commentary}
use Rattle.track_records.proofs.written_entry.set_flags.Goals as goal

pub set_flag-requires-clause-id : goal.set_flag-requires-clause-id
set_flag-requires-clause-id c = enabled

pub set_flag-requires-2-clause-id : goal.set_flag-requires-2-clause-id
set_flag-requires-2-clause-id c = hearing_impaired

pub set_flag-requires-3-clause-id : goal.set_flag-requires-3-clause-id
set_flag-requires-3-clause-id c = visual_impaired

pub set_flag-requires-4-clause-id : goal.set_flag-requires-4-clause-id
set_flag-requires-4-clause-id c = text_descriptions

pub set_flag-requires-5-clause-id : goal.set_flag-requires-5-clause-id
set_flag-requires-5-clause-id c = original

pub set_flag-requires-6-clause-id : goal.set_flag-requires-6-clause-id
set_flag-requires-6-clause-id c = commentary

pub returns : goal.returns
returns c =
    set-flags c.args.flags.now _ _ _ _ _ _ _ c.in_ok-set_flag.ensures c.in_ok-set_flag-2.ensures c.in_ok-set_flag-3.ensures c.in_ok-set_flag-4.ensures c.in_ok-set_flag-5.ensures c.in_ok-set_flag-6.ensures
