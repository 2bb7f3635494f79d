-- The outputs of the first targets were made, and the first bad configuration among them is known.
use Rattle.std.proofs.Common.{map}
use Rattle.extractors.specs.Source.{entry_in}
use Rattle.extractors.proofs.JobLemmas.{AreMade}
use Rattle.extractors.proofs.job.outputs_for.Given as goal

abbrev pub invariant-loop-target : goal.invariant-loop-target
invariant-loop-target l = AreMade l.form l.targets (map entry_in l.tracks) l.target-index l.list l.bad_config
