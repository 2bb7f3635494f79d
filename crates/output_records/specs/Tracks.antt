-- The Tracks of an output: RFC 9559, section 5.1.4 (Tracks).
use Rattle.std.specs.Prelude.{List}
use Rattle.mkv_schema.specs.declared.ids.TheConstants.{TRACKS}
use Rattle.tree_format.specs.Node.{Node, master, nodes_of}

-- the Tracks of an output of a merge or of `generate` with the TrackEntries `entries`, in their order
abbrev pub output_tracks : List Node → Node
output_tracks entries = master TRACKS 0 (nodes_of entries)
