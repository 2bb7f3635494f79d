-- One step of the changes that a TrackEntry gets.
use Rattle.std.specs.Prelude.{◌≡◌, List}
use Rattle.tree_format.specs.Node.{Node}
use Rattle.tree_format.specs.Children.{set_each}
use Rattle.track_records.specs.Entry.{IsWholeEntry}

-- The TrackEntry `old` became `new`: the children `children` are set, and it can be written. Contracts of the steps of `written` promise it.
pub record SetsEach (children : List Node) (old new : Node) : Type 0 where
  pub changed : new ≡ set_each children old
  pub whole : IsWholeEntry new
