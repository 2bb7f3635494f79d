-- Validity of the entries of a Tracks.
use Rattle.mkv_schema.specs.declared.ids.TheConstants.{TRACK_ENTRY}
use Rattle.tree_format.specs.Node.{Node}
use Rattle.tree_format.specs.Standing.{IsSoundOf}

-- The node `n` is a TrackEntry, and the Matroska table allows its children there. Code that reads a track requires it. Used by `bad_encoding`,
-- `cause_of` and others.
abbrev pub IsEntry : Node → Type 0
IsEntry n = IsSoundOf TRACK_ENTRY n
