-- Each turn passes a segment; without a first segment the rest is a join only if it is empty.
use Rattle.std.proofs.Common.{◌≡◌, None, Some, sym, ◌∙◌}
use Rattle.elementary.specs.Pgs.{segment_at}
use Rattle.elementary.proofs.SegmentsLemmas.{segment_at-fewer, segments-step, segments-stop}
use Rattle.elementary.proofs.pgs.is_segments.Goals as goal

pub loop-behind-preserved : goal.loop-behind-preserved
loop-behind-preserved c =
    let found : segment_at c.loop-behind.rest.now ≡ Some (c.in-Some.field-0-0.now, c.in-Some.behind.now) = c.in-Some.ensures in
    sym (segments-step _ _ _ found) ∙ c.loop-behind.invariant

pub loop-behind-smaller : goal.loop-behind-smaller
loop-behind-smaller c =
    let found : segment_at c.loop-behind.rest.now ≡ Some (c.in-Some.field-0-0.now, c.in-Some.behind.now) = c.in-Some.ensures in
    segment_at-fewer _ _ _ found

pub returns : goal.returns
returns c =
    let none : segment_at c.loop-behind.rest.now ≡ None = c.in_default.ensures in
    c.is_empty.ensures ∙ segments-stop _ none ∙ c.loop-behind.invariant
