-- The sum and the rest make the whole.
use Rattle.std.proofs.Common.{◌≡◌, ◌≤◌, ◌+◌, sum_by, drop}
use Rattle.tree_format.specs.NormalForm.{longest}
use Rattle.cues_seekhead.specs.Attached.{attached_total}
use Rattle.cues_seekhead.proofs.front.attachments_len.Given as goal

abbrev pub invariant-loop-attachment : goal.invariant-loop-attachment
invariant-loop-attachment l = record {
  same : l.total + sum_by attached_total (drop l.attachment-index l.attachments) ≡ sum_by attached_total l.attachments;
  few : l.total ≤ longest;
}
