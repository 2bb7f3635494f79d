use Rattle.std.proofs.Common.{◌≡◌, ◌-◌, ◌≤◌, ℕ, List}
use Rattle.elements.specs.Body.{IsBody}
use Rattle.element_reader.specs.EbmlChildren.{children, child_refusal}
use Rattle.element_reader.proofs.ebml_children.child_refusal.Given as goal

abbrev pub invariant-loop-at : goal.invariant-loop-at
invariant-loop-at l = record {
  begin : l.base ≤ l.at;
  place : l.at ≤ l.end;
  rest : (bytes : List ℕ) → IsBody bytes l.base l.total l.body → child_refusal bytes (children bytes l.base l.end) ≡ child_refusal bytes (children bytes l.at l.end);
}

abbrev pub decreases-loop-at : goal.decreases-loop-at
decreases-loop-at l = l.end - l.at
