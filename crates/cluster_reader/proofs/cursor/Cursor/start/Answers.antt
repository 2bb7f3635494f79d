use Rattle.std.proofs.Common.{◌∙◌, ap}
use Rattle.block_format.specs.Elements.{with_limits}
use Rattle.cluster_reader.specs.Left.{left}
use Rattle.cluster_reader.specs.Places.{first_place}
use Rattle.cluster_reader.proofs.TurnLemmas.{left-first}
use Rattle.cluster_reader.proofs.cursor.Cursor.start.Goals as goal

-- All events are left.
pub returns-clause-left : goal.returns-clause-left
returns-clause-left g c = λ bytes whole.
    let segment = g.O.HasSegment.segment c.args.outline.now in
    ap (left (with_limits c.args.scale) bytes) (c.first.ensures ∙ ap (λ h. first_place h c.total.result) c.segment.ensures.exact)
    ∙ left-first (with_limits c.args.scale) bytes segment c.total.result (c.total.ensures ∙ whole)
