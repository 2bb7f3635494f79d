-- The previous children were scanned, and the attached files among them found.
use Rattle.std.proofs.Common.{◌≡◌, ◌-◌, ◌≤◌}
use Rattle.std.specs.Prelude.{All}
use Rattle.mkv_io.specs.Told.{IfVisible}
use Rattle.meta_records.specs.Attachments.{at_child}
use Rattle.meta_records.specs.Walk.{IsAttachedIn, IsPaid}
use Rattle.meta_records.proofs.MetLemmas.{IsMet}
use Rattle.meta_records.proofs.FilesLemmas.{AreFound}
use Rattle.meta_records.proofs.attachments.read_children.Given as goal

abbrev pub invariant-loop-at : goal.invariant-loop-at
invariant-loop-at g l = record {
  begin : l.fn.header.body ≤ l.at;
  place : l.at ≤ l.end;
  standing : g.R.Reads.standing l.src ≡ g.R.Reads.standing l.fn.src;
  faults : g.R.Reads.reading_faults l.src ≡ g.R.Reads.reading_faults l.fn.src;
  sound : All (IsAttachedIn l.file l.end) l.found.attachments;
  none : l.initial.counts.octets ≡ 0;
  one : l.initial.counts.nodes ≡ 1;
  met : IfVisible ((g.R.Reads.files (g.R.Reads.standing l.fn.src)).content l.file.n) (λ bytes. IsMet (at_child bytes) bytes l.fn.header.body l.at l.end l.initial.counts l.counts);
  are : IfVisible ((g.R.Reads.files (g.R.Reads.standing l.fn.src)).content l.file.n) (λ bytes. AreFound bytes l.file l.fn.header.body l.at l.end l.found);
  pays : IsPaid (l.at - l.fn.header.body) l.initial.counts l.counts (g.R.Reads.octets_read l.fn.src) (g.R.Reads.octets_read l.src);
}

abbrev pub decreases-loop-at : goal.decreases-loop-at
decreases-loop-at g l = l.end - l.at
