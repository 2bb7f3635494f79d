use Rattle.std.proofs.Common.{◌+◌, ◌-◌, ◌≤◌, ℕ, List, length}
use Rattle.std.specs.Option.{IfSome}
use Rattle.mkv_schema.specs.Element.{in_master}
use Rattle.mkv_schema.specs.Elements.{children_in}
use Rattle.elements.specs.Body.{IsBody}
use Rattle.block_reader.specs.Group.{IsInside}
use Rattle.block_reader.proofs.RunLemmas.{IsOnWay}
use Rattle.block_reader.proofs.gathered.Gathered.gather.Given as goal

abbrev pub invariant-loop-at : goal.invariant-loop-at
invariant-loop-at l = record {
  begin : l.base ≤ l.at;
  place : l.at ≤ l.end;
  block : IfSome l.self.block (IsInside l.base l.end);
  kept : l.base + length l.self.kept.items ≤ l.at;
  way : (bytes : List ℕ) → IsBody bytes l.base l.total l.body → IsOnWay bytes (children_in in_master bytes l.base l.end) (children_in in_master bytes l.at l.end) l.self;
}

abbrev pub decreases-loop-at : goal.decreases-loop-at
decreases-loop-at l = l.end - l.at
