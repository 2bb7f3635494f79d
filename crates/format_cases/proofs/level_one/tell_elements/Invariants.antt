use Rattle.element_reader.specs.LevelOne.{CanRead}
use Rattle.format_cases.proofs.level_one.tell_elements.Given as goal

abbrev pub invariant-loop : goal.invariant-loop
invariant-loop g l = CanRead (g.R.Reads.files (g.R.Reads.standing l.src)) l.elements
