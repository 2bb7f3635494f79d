-- The targets read before, with those in the arguments that are left, are the targets of all arguments. The names are those of the targets
-- read before.
use Rattle.std.proofs.Common.{◌≡◌, ◌-◌, length, drop, []}
use Rattle.word_values.specs.Place.{texts}
use Rattle.mkv_args.specs.Extract.{targets_from}
use Rattle.mkv_args.specs.TargetNames.{AreNamesOf}
use Rattle.mkv_args.proofs.extract.targets.Given as goal

abbrev pub invariant-loop-word : goal.invariant-loop-word
invariant-loop-word l = record {
  rest : targets_from l.least l.list l.at (drop l.at (texts l.words)) ≡ targets_from l.least [] l.start (drop l.start (texts l.words));
  names : AreNamesOf l.names.keys l.list;
}

abbrev pub decreases-loop-word : goal.decreases-loop-word
decreases-loop-word l = length l.words - l.at
