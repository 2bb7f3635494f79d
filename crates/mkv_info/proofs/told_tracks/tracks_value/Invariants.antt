-- All values are the values made and the values of the rest.
use Rattle.std.proofs.Common.{◌≡◌, ◌++◌, ◌∷◌, [], drop, map}
use Rattle.serde_json.specs.View.{view}
use Rattle.mkv_info.specs.ToldTracks.{track_value}
use Rattle.mkv_info.specs.Json.{numbered}
use Rattle.mkv_info.proofs.told_tracks.tracks_value.Given as goal

abbrev pub invariant-loop-index : goal.invariant-loop-index
invariant-loop-index l =
    map view l.values.items ++ numbered (λ id t. track_value id t ∷ []) l.index (drop l.index l.tracks)
    ≡ numbered (λ id t. track_value id t ∷ []) 0 l.tracks
