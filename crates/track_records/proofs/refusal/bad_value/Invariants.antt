-- The rest has the first damage, if the IDs that came before are excluded.
use Rattle.std.proofs.Common.{◌≡◌, drop, find}
use Rattle.tree_format.specs.Node.{children}
use Rattle.file_format.specs.Refusal.{firsts, is_bad}
use Rattle.track_records.proofs.RefusalLemmas.{is_new_bad}
use Rattle.track_records.proofs.refusal.bad_value.Given as goal

abbrev pub invariant-loop-child : goal.invariant-loop-child
invariant-loop-child l = find (is_new_bad l.numbered l.timed) (firsts (drop l.child-index l.child-items)) ≡ find is_bad (firsts (children l.entry))
