use Rattle.std.proofs.Common.{◌∷◌, [], ◌∙◌, ap, arith}
use Rattle.serde_json.proofs.Views.{view-Array}
use Rattle.mkv_info.specs.ToldTracks.{track_value}
use Rattle.mkv_info.specs.Json.{array_of}
use Rattle.mkv_info.proofs.JsonLemmas.{numbered-all, shown-next}
use Rattle.mkv_info.proofs.told_tracks.tracks_value.Goals as goal

-- One more track was passed.
pub loop-index-preserved : goal.loop-index-preserved
loop-index-preserved c =
    shown-next track_value c.loop-index.index c.loop-index.index c.args.tracks.now c.index-tracks-index.result c.loop-index.values.items c.push.new.self.items _ _
    c.loop-index-test.true c.index-tracks-index.is c.in_ok-push.ensures.items c.in_ok-track_value.ensures c.loop-index.invariant

-- All tracks were passed.
pub returns : goal.returns
returns c =
    view-Array c.loop-index.values
    ∙ ap array_of (numbered-all (λ id t. track_value id t ∷ []) c.loop-index.index c.loop-index.index c.args.tracks.now _ _ (omega arith) c.loop-index.invariant)
