use Rattle.cluster_reader.specs.Reading.{CanRead}
use Rattle.format_cases.proofs.blocks.tell_steps.Given as goal

abbrev pub invariant-loop : goal.invariant-loop
invariant-loop g l = CanRead (g.R.Reads.files (g.R.Reads.standing l.src)) l.cursor
