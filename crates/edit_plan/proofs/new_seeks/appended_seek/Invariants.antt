-- The Seek is among the rest.
use Rattle.std.proofs.Common.{◌≡◌, ◌==◌, drop}
use Rattle.std.specs.Prelude.{find}
use Rattle.output_model.specs.declared.places.Seek.{Seek}
use Rattle.edit_plan.proofs.new_seeks.appended_seek.Given as goal

abbrev pub invariant-loop-seek : goal.invariant-loop-seek
invariant-loop-seek l = find (λ (s : Seek). s.id == l.id) l.moved ≡ find (λ (s : Seek). s.id == l.id) (drop l.seek-index l.moved)
