use Rattle.std.proofs.Common.{arith}
use Rattle.cues_seekhead.proofs.AttachedLemmas.{total-next}
use Rattle.cues_seekhead.proofs.front.attachments_len.Goals as goal

pub loop-attachment-preserved : goal.loop-attachment-preserved
loop-attachment-preserved c = record {
  same = omega (
    arith,
    c.in_ok-total.ensures.0,
    c.in_ok-attached_len.ensures.exact,
    c.loop-attachment.invariant.same,
    total-next c.loop-attachment.attachment-index c.args.attachments.now c.attachment-item.result c.loop-attachment-test.true c.attachment-item.is,
  );
  few = c.in_ok-total.ensures.1;
}
