-- The rest of a file at its start is the file, and its blocks ascend.
use Rattle.std.proofs.Common.{ℕ, List, sym, ◌∙◌, ap, subst}
use Rattle.mkv_io.specs.declared.outside.FileId.{FileId}
use Rattle.mkv_schema.specs.Outline.{segment_run}
use Rattle.mkv_schema.specs.declared.element.Header.{Header}
use Rattle.block_format.specs.Elements.{with_limits}
use Rattle.block_format.specs.Events.{Event, blocks_of}
use Rattle.cluster_reader.specs.Reading.{left_of}
use Rattle.reindex.specs.Points.{indexed_tracks}
use Rattle.reindex.specs.Reading.{BlocksAscend, ReadsPoints}
use Rattle.reindex.proofs.PlaceLemmas.{events-ascend}
use Rattle.reindex.proofs.PointsLemmas.{outline-total, points_in-file}
use Rattle.reindex.proofs.ScaleLemmas.{trees-scale}
use Rattle.reindex.proofs.reading.read_points.Goals as goal

pub returns-clause-exact : goal.returns-clause-exact
returns-clause-exact g c = λ bytes told held outline trees.
    let segment = c.args.outline.now.segment in
    let total = outline-total held bytes c.args.outline.now outline in
    let scale = trees-scale bytes segment c.args.trees.now trees in
    let events = c.in_ok-cursor.ensures.left bytes total in
    let file = c.in_ok-cursor.ensures.begins.file in
    let here = ap (λ (f : FileId). (g.R.Reads.files (g.R.Reads.standing c.args.src.now)).content f.n) file ∙ told in
    let A : List Event → Type 0 = λ es. BlocksAscend 0 (blocks_of es) in
    let B : ℕ → Type 0 = λ n. BlocksAscend n (blocks_of (left_of bytes c.in_ok-cursor.cursor)) in
    let ascend = subst B (sym c.start-clusters.ensures.reached) (subst A (sym events) (events-ascend (with_limits c.scale_of.result) bytes segment)) in
    let whole = points_in-file (record { tracks = c.in_ok-indexed_tracks.field-0; scale = c.scale_of.result; base = c.segment.result.body }) bytes segment c.args.trees.now.tracks (left_of bytes c.in_ok-cursor.cursor)
    (c.in_ok-indexed_tracks.ensures ∙ ap indexed_tracks c.as_slice.ensures) (c.scale_of.ensures.value scale.good ∙ scale.file) (ap (λ (h : Header). h.body) c.segment.ensures.exact) events in
    subst (λ found. ReadsPoints found c.collect.result) whole (c.collect.ensures.exact bytes here (segment_run bytes segment).list (c.start-clusters.ensures.come bytes total) ascend)
