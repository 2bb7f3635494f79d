-- All values are the values that were read and the values of the rest.
use Rattle.std.proofs.Common.{◌≡◌, length}
use Rattle.word_values.specs.Lists.{pieces, each}
use Rattle.word_values.proofs.ListsLemmas.{joined}
use Rattle.word_values.proofs.lists.list_of.Given as goal

abbrev pub invariant-loop-piece : goal.invariant-loop-piece
invariant-loop-piece g l = joined l.list (each g.P.Piece.spelled (pieces l.rest)) ≡ each g.P.Piece.spelled (pieces l.word)

abbrev pub decreases-loop-piece : goal.decreases-loop-piece
decreases-loop-piece g l = length l.rest
