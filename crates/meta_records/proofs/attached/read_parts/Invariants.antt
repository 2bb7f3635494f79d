-- The previous children were scanned and read.
use Rattle.std.proofs.Common.{◌≡◌, ◌-◌, ◌≤◌, IfSome}
use Rattle.mkv_io.specs.Told.{IfVisible}
use Rattle.mkv_schema.specs.declared.ids.TheConstants.{ATTACHED_FILE}
use Rattle.mkv_schema.specs.declared.element.Header.{Header}
use Rattle.mkv_schema.specs.Element.{stated_end}
use Rattle.tree_format.specs.Node.{children}
use Rattle.ebml_tree.specs.Building.{IsBuilt}
use Rattle.meta_records.specs.Attachments.{at_part}
use Rattle.meta_records.specs.Walk.{IsPaid}
use Rattle.meta_records.proofs.MetLemmas.{IsMet}
use Rattle.meta_records.proofs.PartsLemmas.{AreRead}
use Rattle.meta_records.proofs.attached.read_parts.Given as goal

abbrev pub invariant-loop-at : goal.invariant-loop-at
invariant-loop-at g l = record {
  begin : l.fn.attached.body ≤ l.at;
  place : l.at ≤ l.end;
  standing : g.R.Reads.standing l.src ≡ g.R.Reads.standing l.fn.src;
  faults : g.R.Reads.reading_faults l.src ≡ g.R.Reads.reading_faults l.fn.src;
  built : IsBuilt ATTACHED_FILE l.fn.attached.offset 0 (children l.entry) l.entry;
  inside : IfSome l.first (λ (d : Header). stated_end d ≤ l.end);
  met : IfVisible ((g.R.Reads.files (g.R.Reads.standing l.fn.src)).content l.file.n) (λ bytes. IsMet (at_part bytes) bytes l.fn.attached.body l.at l.end l.fn.counts l.counts);
  read : IfVisible ((g.R.Reads.files (g.R.Reads.standing l.fn.src)).content l.file.n) (λ bytes. AreRead bytes l.fn.attached.body l.at l.end (children l.entry) l.first);
  pays : IsPaid (l.at - l.fn.attached.body) l.fn.counts l.counts (g.R.Reads.octets_read l.fn.src) (g.R.Reads.octets_read l.src);
}

abbrev pub decreases-loop-at : goal.decreases-loop-at
decreases-loop-at g l = l.end - l.at
