use Rattle.std.proofs.Common.{◌≡◌, ◌++◌, map, sym, ◌∙◌, ap, arith}
use Rattle.std.proofs.lemmas.List.{append-nil}
use Rattle.serde_json.proofs.Views.{view-Array}
use Rattle.serde_json.specs.View.{view}
use Rattle.mkv_info.specs.Json.{array_of}
use Rattle.mkv_info.specs.Tags.{counted_tags, track_tags}
use Rattle.mkv_info.proofs.JsonLemmas.{numbered-all, numbered-more, view-more}
use Rattle.mkv_info.proofs.TagLemmas.{tags-left_out, tags-told}
use Rattle.mkv_info.proofs.tags.track_tags_value.Goals as goal
use Rattle.mkv_info.proofs.tags.track_tags_value.Goals.{then-count-gt0+in_ok-track_tags+in_ok-push, else-count-gt0}

-- One more track is in the list, or left out.
pub loop-index-preserved : goal.loop-index-preserved
loop-index-preserved c =
    let tags = c.args.tags.now in
    let k = c.loop-index.index in
    let t = c.index-tracks-index.result in
    let before = map view c.loop-index.values.items in
    let now : map view c.if-count-gt0.values.items ≡ before ++ track_tags tags k t = elim c.if-count-gt0.branch [
      | then-count-gt0+in_ok-track_tags+in_ok-push w ↦
          rw w.values-is (view-more _ _ _ (counted_tags c.tags_of_uid-count.result k) w.in_ok-push.ensures.items w.in_ok-track_tags.ensures
          ∙ ap (λ told. before ++ told) (sym (tags-told tags k c.tags_of_uid-count.result t w.if-count-gt0.true (c.tags_of_uid-count.ensures ∙ c.in_ok-counts.ensures t.uid))))
      | else-count-gt0 w ↦
          rw w.values-is (sym (append-nil before) ∙ ap (λ told. before ++ told) (sym (tags-left_out tags k c.tags_of_uid-count.result t w.if-count-gt0.false (c.tags_of_uid-count.ensures ∙ c.in_ok-counts.ensures t.uid))))
    ] in
    numbered-more (track_tags tags) k k c.args.tracks.now t before _ _ c.loop-index-test.true c.index-tracks-index.is now c.loop-index.invariant

-- All tracks were passed.
pub returns : goal.returns
returns c =
    view-Array c.loop-index.values
    ∙ ap array_of (numbered-all (track_tags c.args.tags.now) c.loop-index.index c.loop-index.index c.args.tracks.now _ _ (omega arith) c.loop-index.invariant)
