use Rattle.std.proofs.Common.{◌≡◌, ◌++◌, None, Some, sym, ◌∙◌, refl}
use Rattle.elementary.specs.Pgs.{segment_at}
use Rattle.elementary.proofs.SegmentsLemmas.{segment_at-fewer, segments-step}
use Rattle.mkv_outputs.proofs.FilesLemmas.{WritesOutputs-none, WritesOutputs-then}
use Rattle.mkv_outputs.proofs.GivenLemmas.{length-same}
use Rattle.extractors.proofs.FramesLemmas.{GivesUpTo-begins, GivesUpTo-ends, GivesUpTo-more, GivesUpTo-stops, HasGiven-none}
use Rattle.extractors.specs.Walks.{segmented}
use Rattle.extractors.proofs.UnitsLemmas.{segments-bad, segments-next, segments-none}
use Rattle.extractors.proofs.frames.give_segments.Goals as goal

-- A bad frame writes nothing.
pub returns-then-not-is_segments-clause-gives : goal.returns-then-not-is_segments-clause-gives
returns-then-not-is_segments-clause-gives g c =
    HasGiven-none g.F.Files c.args.files.now c.args.outputs.now c.args.k _ (segments-bad c.args.header.now c.args.frame.now (sym c.is_segments.ensures ∙ c.if-not-is_segments.true))

pub returns-then-not-is_segments-clause-only : goal.returns-then-not-is_segments-clause-only
returns-then-not-is_segments-clause-only g c = WritesOutputs-none g.F.Reads g.F.Files c.args.files.now c.args.outputs.now c.requires.open

-- No segment is written yet.
pub loop-segment-init : goal.loop-segment-init
loop-segment-init g c = record {
  so = GivesUpTo-begins g.F.Files c.args.files.now c.args.outputs.now c.args.k _ _ refl;
  join = sym c.is_segments.ensures ∙ c.if-not-is_segments.false;
  count = refl;
  wrote = WritesOutputs-none g.F.Reads g.F.Files c.args.files.now c.args.outputs.now c.requires.open;
  writing = refl;
}

-- The first segment was written.
pub loop-segment-preserved : goal.loop-segment-preserved
loop-segment-preserved g c =
    let header = c.args.header.now in
    let rest = c.loop-segment.rest.now in
    let segment = c.in-Some.segment.now in
    let behind = c.in-Some.behind.now in
    let found : segment_at rest ≡ Some (segment, behind) = c.in-Some.ensures in
    record {
      so = GivesUpTo-more c.loop-segment.invariant.so c.give_behind.new.files c.give_behind.new.outputs (header ++ segment) (segmented header behind)
          (segments-next header rest segment behind found c.loop-segment.invariant.join) c.in_ok-give_behind.ensures.gives;
      join = sym (segments-step rest segment behind found) ∙ c.loop-segment.invariant.join;
      count = length-same c.loop-segment.outputs c.give_behind.new.outputs c.give_behind.ensures.only.same ∙ c.loop-segment.invariant.count;
      wrote = WritesOutputs-then g.F.Reads g.F.Files c.args.files.now c.loop-segment.files c.give_behind.new.files c.args.outputs.now c.loop-segment.outputs c.give_behind.new.outputs c.requires.open c.loop-segment.invariant.wrote c.give_behind.ensures.only;
      writing = c.in_ok-give_behind.ensures.cause ∙ c.loop-segment.invariant.writing;
    }

pub loop-segment-smaller : goal.loop-segment-smaller
loop-segment-smaller g c =
    let found : segment_at c.loop-segment.rest.now ≡ Some (c.in-Some.segment.now, c.in-Some.behind.now) = c.in-Some.ensures in
    segment_at-fewer _ _ _ found

-- The segment was written in part.
pub returns-in_err-give_behind-clause-gives : goal.returns-in_err-give_behind-clause-gives
returns-in_err-give_behind-clause-gives g c =
    let header = c.args.header.now in
    let rest = c.loop-segment.rest.now in
    let segment = c.in-Some.segment.now in
    let behind = c.in-Some.behind.now in
    let found : segment_at rest ≡ Some (segment, behind) = c.in-Some.ensures in
    GivesUpTo-stops c.loop-segment.invariant.so c.give_behind.new.files c.give_behind.new.outputs (header ++ segment) (segmented header behind)
    (segments-next header rest segment behind found c.loop-segment.invariant.join) c.from_residual.result c.from_residual.ensures.0 c.in_err-give_behind.ensures.gives

-- Only the output was written until then.
pub returns-in_err-give_behind-clause-only : goal.returns-in_err-give_behind-clause-only
returns-in_err-give_behind-clause-only g c =
    WritesOutputs-then g.F.Reads g.F.Files c.args.files.now c.loop-segment.files c.give_behind.new.files c.args.outputs.now c.loop-segment.outputs c.give_behind.new.outputs c.requires.open c.loop-segment.invariant.wrote c.give_behind.ensures.only

-- All segments were written.
pub returns-clause-gives : goal.returns-clause-gives
returns-clause-gives g c =
    let none : segment_at c.loop-segment.rest.now ≡ None = c.in_default.ensures in
    GivesUpTo-ends c.loop-segment.invariant.so (segments-none c.args.header.now c.loop-segment.rest.now none)
