use Rattle.std.proofs.Common.{◌≡◌, ◌<◌, length, sym, ◌∙◌, ap, arith}
use Rattle.mkv_schema.specs.Element.{at_level_0, element_at}
use Rattle.mkv_schema.specs.Elements.{id_of}
use Rattle.element_reader.proofs.SegmentLemmas.{segment_from-found, segment_from-breaks}
use Rattle.element_reader.proofs.segment.find_segment.Goals as goal

-- The Segment itself, or its damage.
pub returns-then-id_of-eq-SEGMENT-clause-ok : goal.returns-then-id_of-eq-SEGMENT-clause-ok
returns-then-id_of-eq-SEGMENT-clause-ok g c = λ bytes told.
    let total : c.args.total ≡ length bytes = c.requires.whole ∙ sym (g.met.R.Reads.told_size (g.R.Reads.standing c.args.src.now) c.args.file.n bytes told) in
    let now = ap (λ s. (g.R.Reads.files s).content c.args.file.n) c.loop-at.invariant.same.standing ∙ told in
    let inside : c.loop-at.at < length bytes = omega (arith, total, c.loop-at-test.true) in
    sym (c.loop-at.invariant.rest bytes told
    ∙ segment_from-found bytes c.loop-at.at c.in_ok-found.found inside
    (c.in_ok-found.ensures.ok bytes now ∙ ap (element_at at_level_0 bytes c.loop-at.at) total)
    (sym c.id_of.ensures ∙ c.if-id_of-eq-SEGMENT.true))

-- A damage before it.
pub returns-in-Err-clause-ok : goal.returns-in-Err-clause-ok
returns-in-Err-clause-ok g c = λ bytes told.
    let total : c.args.total ≡ length bytes = c.requires.whole ∙ sym (g.met.R.Reads.told_size (g.R.Reads.standing c.args.src.now) c.args.file.n bytes told) in
    let now = ap (λ s. (g.R.Reads.files s).content c.args.file.n) c.loop-at.invariant.same.standing ∙ told in
    let inside : c.loop-at.at < length bytes = omega (arith, total, c.loop-at-test.true) in
    sym (c.loop-at.invariant.rest bytes told
    ∙ segment_from-breaks bytes c.loop-at.at c.in-Err.damage inside
    (sym c.in-Err.is ∙ c.in_ok-found.ensures.ok bytes now ∙ ap (element_at at_level_0 bytes c.loop-at.at) total)
    (λ is. c.if-id_of-eq-SEGMENT.false (c.id_of.ensures ∙ ap id_of c.in-Err.is ∙ is)))
