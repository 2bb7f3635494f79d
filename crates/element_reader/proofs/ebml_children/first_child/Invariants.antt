use Rattle.std.proofs.Common.{◌≡◌, ◌-◌, ◌≤◌, ℕ, List}
use Rattle.mkv_schema.specs.Value.{first_of}
use Rattle.elements.specs.Body.{IsBody}
use Rattle.element_reader.specs.EbmlChildren.{children}
use Rattle.element_reader.proofs.ebml_children.first_child.Given as goal

abbrev pub invariant-loop-at : goal.invariant-loop-at
invariant-loop-at l = record {
  begin : l.base ≤ l.at;
  place : l.at ≤ l.end;
  rest : (bytes : List ℕ) → IsBody bytes l.base l.total l.body → first_of l.id (children bytes l.base l.end).list ≡ first_of l.id (children bytes l.at l.end).list;
}

abbrev pub decreases-loop-at : goal.decreases-loop-at
decreases-loop-at l = l.end - l.at
