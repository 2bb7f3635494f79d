-- The previous entries are in the Tracks, and the others are whole.
use Rattle.std.proofs.Common.{◌≡◌, ◌++◌}
use Rattle.std.specs.Prelude.{All}
use Rattle.mkv_schema.specs.declared.ids.TheConstants.{TRACKS}
use Rattle.track_records.specs.Entry.{IsWholeEntry}
use Rattle.ebml_tree.specs.Building.{IsBuilt}
use Rattle.output_records.proofs.tracks.tracks_of.Given as goal

abbrev pub invariant-loop-entry : goal.invariant-loop-entry
invariant-loop-entry l = record {
  built : IsBuilt TRACKS 0 31 l.yielded l.tracks;
  all : l.yielded ++ l.entry-iterator.rest.items ≡ l.initial.entry-iterator.rest.items;
  whole : All IsWholeEntry l.entry-iterator.rest.items;
}
