-- A point is appended, or none.
use Rattle.std.proofs.Common.{◌≡◌, max, true, false, ◌∙◌, ap, arith}
use Rattle.block_reader.specs.Buffered.{block_of}
use Rattle.block_reader.specs.declared.head.BlockHead.{BlockHead}
use Rattle.reindex.specs.Points.{is_indexed}
use Rattle.reindex.specs.Reading.{cues_of, points_for}
use Rattle.reindex.proofs.PointsLemmas.{adds-full, adds-none, adds-one, kept-before, points_for-none, points_for-nowhere, points_for-one}
use Rattle.reindex.proofs.reading.add_point.Goals as goal
use Rattle.reindex.proofs.reading.add_point.Goals.{then-len-ge-MAX_CUES-via-then-len-ge-MAX_CUES, then-len-ge-MAX_CUES-via-else-len-ge-MAX_CUES+then-not-is_indexed}

-- There is no room, or the block has no point.
pub returns-then-len-ge-MAX_CUES-clause-adds : goal.returns-then-len-ge-MAX_CUES-clause-adds
returns-then-len-ge-MAX_CUES-clause-adds g c = λ bytes told list come before.
    let b = block_of c.args.cursor.now.block in
    let few = c.requires.few in
    let count = c.len.ensures in
    record {
      come = come;
      points = elim c.then-len-ge-MAX_CUES.branch [
        | then-len-ge-MAX_CUES-via-then-len-ge-MAX_CUES w ↦
            let full = w.if-len-ge-MAX_CUES.true in
            adds-full c.args.points.now (points_for c.args.by.now list b) (omega arith) few
        | then-len-ge-MAX_CUES-via-else-len-ge-MAX_CUES+then-not-is_indexed w ↦
            let none : is_indexed c.args.by.now.tracks b ≡ false = cc (w.is_indexed.ensures, w.if-not-is_indexed.true) in
            adds-none c.args.points.now (points_for c.args.by.now list b) (points_for-none c.args.by.now list b none) few
      ];
    }

pub returns-in_ok-push-clause-adds : goal.returns-in_ok-push-clause-adds
returns-in_ok-push-clause-adds g c = λ bytes told list come before.
    let b = block_of c.args.cursor.now.block in
    let gone = c.in_ok-go_to.ensures.exact bytes told list come in
    let is : is_indexed c.args.by.now.tracks b ≡ true = cc (c.is_indexed.ensures, c.if-not-is_indexed.false) in
    let reached = c.in_ok-go_to.ensures.reached ∙ ap (λ (h : BlockHead). max c.args.clusters.now.reached h.offset) c.head.ensures.exact in
    let few = c.requires.few in
    let count = c.len.ensures in
    let room = c.if-len-ge-MAX_CUES.false in
    record {
      come = gone.come;
      points =
          ap cues_of c.in_ok-push.ensures.ok
          ∙ adds-one c.args.points.now c.point.result (points_for c.args.by.now list b)
          (points_for-one c.args.by.now list b c.in-Some.cluster c.point.result is (kept-before list c.go_to.new.self c.args.clusters.now.reached b.offset gone.last reached before ∙ c.in-Some.is) c.point.ensures) (omega arith);
    }

-- The block is in no Cluster.
pub returns-in_default-clause-adds : goal.returns-in_default-clause-adds
returns-in_default-clause-adds g c = λ bytes told list come before.
    let b = block_of c.args.cursor.now.block in
    let gone = c.in_ok-go_to.ensures.exact bytes told list come in
    let is : is_indexed c.args.by.now.tracks b ≡ true = cc (c.is_indexed.ensures, c.if-not-is_indexed.false) in
    let reached = c.in_ok-go_to.ensures.reached ∙ ap (λ (h : BlockHead). max c.args.clusters.now.reached h.offset) c.head.ensures.exact in
    record {
      come = gone.come;
      points = adds-none c.args.points.now (points_for c.args.by.now list b)
          (points_for-nowhere c.args.by.now list b is (kept-before list c.go_to.new.self c.args.clusters.now.reached b.offset gone.last reached before ∙ c.in_default.is)) c.requires.few;
    }
