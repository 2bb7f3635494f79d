use Rattle.std.proofs.Common.{◌≡◌, ◌+◌, ◌++◌, drop, flat_map, Global, String, sym, ◌∙◌, ap, subst}
use Rattle.std.specs.String.{string_bytes}
use Rattle.mkv_schema.specs.declared.ids.TheConstants.{CUE_TRACK_POSITIONS}
use Rattle.tree_format.specs.Changes.{part}
use Rattle.extractors.specs.Lines.{place_lines}
use Rattle.extractors.proofs.LinesLemmas.{child-sound, part-added, part-passed}
use Rattle.extractors.proofs.lines.put_point.Goals as goal
use Rattle.extractors.proofs.lines.put_point.Goals.{then-id-eq-CUE_TRACK_POSITIONS+in_ok-put_place, else-id-eq-CUE_TRACK_POSITIONS}

-- A CueTrackPositions of a sound cue point is sound.
pub put_place-requires : goal.put_place-requires
put_place-requires c = child-sound _ _ _ _ _ _ _ c.requires c.children-place-items.ensures.exact c.loop-place-test.true c.place-item.is c.id.ensures c.if-id-eq-CUE_TRACK_POSITIONS.true

-- Its line was appended, or it was passed.
pub loop-place-preserved : goal.loop-place-preserved
loop-place-preserved c =
    let f = place_lines c.time_of-time.result c.args.track in
    let ns = c.children-place-items.result.now in
    let i = c.loop-place.place-index in
    let before = string_bytes c.loop-place.out in
    let whole = string_bytes c.args.out.now ++ flat_map f (part CUE_TRACK_POSITIONS ns) in
    elim c.if-id-eq-CUE_TRACK_POSITIONS.branch [
      | then-id-eq-CUE_TRACK_POSITIONS+in_ok-put_place w ↦
          part-added f CUE_TRACK_POSITIONS c.id.result ns i c.place-item.result before (string_bytes c.if-id-eq-CUE_TRACK_POSITIONS.out) whole c.loop-place-test.true c.place-item.is c.id.ensures w.if-id-eq-CUE_TRACK_POSITIONS.true
          (ap string_bytes w.out-is ∙ w.in_ok-put_place.ensures) c.loop-place.invariant
      | else-id-eq-CUE_TRACK_POSITIONS w ↦
          subst (λ (out : String Global). string_bytes out ++ flat_map f (part CUE_TRACK_POSITIONS (drop (i + 1) ns)) ≡ whole) (sym w.out-is)
          (part-passed f CUE_TRACK_POSITIONS c.id.result ns i c.place-item.result before whole c.loop-place-test.true c.place-item.is c.id.ensures w.if-id-eq-CUE_TRACK_POSITIONS.false c.loop-place.invariant)
    ]
