-- The TrackEntries are valid, like their Tracks Element, and may have a DefaultDuration.
use Rattle.std.proofs.Common.{ℕ, refl, sym, subst, ◌∙◌}
use Rattle.mkv_schema.specs.Schema.{entry_of}
use Rattle.mkv_schema.specs.Table.{table}
use Rattle.mkv_schema.specs.declared.ids.TheConstants.{DEFAULT_DURATION, TRACK_ENTRY}
use Rattle.tree_format.specs.Values.{HasUint}
use Rattle.track_records.proofs.EntriesLemmas.{child-entry}
use Rattle.remuxer.proofs.durations.default_durations.Goals as goal

known : HasUint TRACK_ENTRY DEFAULT_DURATION
unfolding entry_of table
known = record { stands = refl; kind = refl }

pub integer_in-requires-clause-sound : goal.integer_in-requires-clause-sound
integer_in-requires-clause-sound c = (child-entry _ _ _ _ _ c.requires.sound c.children-entry-items.ensures.exact c.loop-entry-test.true c.entry-item.is c.id.ensures c.if-id-eq-TRACK_ENTRY.true).sound

pub integer_in-requires-clause-uint : goal.integer_in-requires-clause-uint
integer_in-requires-clause-uint c = let P : ℕ → Type 0 = λ parent. HasUint parent DEFAULT_DURATION in subst P (sym c.if-id-eq-TRACK_ENTRY.true ∙ c.id.ensures) known
