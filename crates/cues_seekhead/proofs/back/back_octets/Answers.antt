use Rattle.std.proofs.Common.{[]}
use Rattle.cues_seekhead.proofs.PlacesLemmas.{Adds-then}
use Rattle.cues_seekhead.proofs.back.back_octets.Goals as goal

pub returns : goal.returns
returns c =
    Adds-then c.args.at _ _ [] _ _ _ _ _ (rw c.new-out.ensures at c.in_ok-add_cues.ensures)
    (Adds-then c.args.at _ _ _ _ _ _ _ _ c.in_ok-add_tree_of.ensures c.in_ok-add_tree_of-2.ensures)
