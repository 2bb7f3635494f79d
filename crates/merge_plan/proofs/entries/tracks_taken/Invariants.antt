-- The tracks are the selected tracks of the inputs passed.
use Rattle.std.proofs.Common.{◌≡◌, ◌++◌, take}
use Rattle.merge_plan.specs.Lent.{lent}
use Rattle.merge_plan.proofs.RecordLemmas.{taken_in}
use Rattle.merge_plan.proofs.entries.tracks_taken.Given as goal

abbrev pub invariant-loop-input : goal.invariant-loop-input
invariant-loop-input l = lent l.taken.items ≡ taken_in (take l.input-index l.inputs)

abbrev pub invariant-loop-track : goal.invariant-loop-track
invariant-loop-track l = lent l.taken.items ≡ lent l.initial.taken.items ++ take l.track-index l.track-items
