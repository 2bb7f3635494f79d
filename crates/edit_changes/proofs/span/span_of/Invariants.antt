use Rattle.std.proofs.Common.{◌≡◌, ◌≤◌, drop}
use Rattle.mkv_schema.specs.Element.{stated_end}
use Rattle.edit_changes.specs.Span.{behind_voids}
use Rattle.edit_changes.proofs.span.span_of.Given as goal

-- The remaining Voids continue from the current offset.
abbrev pub invariant-loop-k : goal.invariant-loop-k
invariant-loop-k l = record {
  inside : l.end ≤ l.outline.total;
  way : behind_voids (stated_end l.header) l.outline.others ≡ behind_voids l.end (drop l.k l.outline.others);
}
