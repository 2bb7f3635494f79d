-- The values are the values of the tracks that were passed.
use Rattle.std.proofs.Common.{◌≡◌, map, take}
use denote.Ref.{Bor}
use Rattle.merge_inputs.specs.declared.taken.TakenTrack.{TakenTrack}
use Rattle.merge_plan.specs.Plan.{is_video}
use Rattle.merge_plan.proofs.splitting.videos_of.Given as goal

abbrev pub invariant-loop-each : goal.invariant-loop-each
invariant-loop-each l = l.videos ≡ map (λ (r : Bor TakenTrack). is_video r.now) (take l.each-index l.taken)
