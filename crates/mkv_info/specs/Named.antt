-- The match of a TrackUID that a Targets names.
use Rattle.std.specs.Prelude.{ℕ, ◌==◌, Bool, true, Option, Some, None}

-- The TrackUID `own` is the one that is looked for; without one, any TrackUID is. The contract of the function with this name uses it for tags of a
-- track.
abbrev pub is_wanted : Option ℕ → ℕ → Bool
is_wanted None own = true
is_wanted (Some uid) own = own == uid
