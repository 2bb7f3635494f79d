-- The edits read before, with those in the arguments that are left, are the edits of all arguments.
use Rattle.std.proofs.Common.{◌≡◌, ◌-◌, length}
use Rattle.word_values.specs.Place.{texts}
use Rattle.mkv_args.specs.Propedit.{edits}
use Rattle.mkv_args.proofs.PropeditLemmas.{edits_from}
use Rattle.mkv_args.proofs.propedit.edits.Given as goal

abbrev pub invariant-loop-word : goal.invariant-loop-word
invariant-loop-word l =
    edits_from (length l.words) l.list l.place l.edited l.at (texts l.words) ≡ edits (texts l.words)

abbrev pub decreases-loop-word : goal.decreases-loop-word
decreases-loop-word l = length l.words - l.at
