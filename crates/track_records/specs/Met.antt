-- The values of a TrackEntry that came before the one that is checked.
use Rattle.std.specs.Prelude.{ℕ, ◌==◌, Bool, ◌&&◌, ◌||◌}
use Rattle.mkv_schema.specs.declared.ids.TheConstants.{TRACK_NUMBER, DEFAULT_DURATION}

-- An Element with the ID `id` came before in the TrackEntry: `numbered` is true if a TrackNumber did, `timed` if a DefaultDuration did. Only the
-- first of each is checked.
abbrev pub is_met : Bool → Bool → ℕ → Bool
is_met numbered timed id = (numbered && id == TRACK_NUMBER) || (timed && id == DEFAULT_DURATION)
