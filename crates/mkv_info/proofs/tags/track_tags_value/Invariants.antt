-- All values are the values made and the values of the rest.
use Rattle.std.proofs.Common.{◌≡◌, ◌++◌, drop, map}
use Rattle.serde_json.specs.View.{view}
use Rattle.mkv_info.specs.Json.{numbered}
use Rattle.mkv_info.specs.Tags.{track_tags}
use Rattle.mkv_info.proofs.tags.track_tags_value.Given as goal

abbrev pub invariant-loop-index : goal.invariant-loop-index
invariant-loop-index l =
    map view l.values.items ++ numbered (track_tags l.tags) l.index (drop l.index l.tracks) ≡ numbered (track_tags l.tags) 0 l.tracks
