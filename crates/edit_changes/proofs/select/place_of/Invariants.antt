use Rattle.std.proofs.Common.{◌≡◌, drop}
use Rattle.edit_changes.specs.Change.{fits, turn_of, nth_place}
use Rattle.edit_changes.proofs.select.place_of.Given as goal

-- The remaining position is searched in the rest.
abbrev pub invariant-loop-k : goal.invariant-loop-k
invariant-loop-k l = nth_place (fits l.fn.selector) (turn_of l.fn.selector) 0 l.tracks ≡ nth_place (fits l.fn.selector) l.left l.k (drop l.k l.tracks)
