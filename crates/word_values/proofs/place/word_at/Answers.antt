use Rattle.std.proofs.Common.{sym, add-one}
use Rattle.word_values.specs.Place.{texts}
use Rattle.word_values.proofs.PlaceLemmas.{rest_some, rest_none}
use Rattle.word_values.proofs.place.word_at.Goals as goal

-- The argument is the first of the rest.
pub returns-in-Some-clause-rest : goal.returns-in-Some-clause-rest
returns-in-Some-clause-rest c = rw add-one (rest_some (texts c.args.words.now) c.args.at c.in-Some.word.now (sym c.in-Some.ensures))

pub returns-in-None-clause-rest : goal.returns-in-None-clause-rest
returns-in-None-clause-rest c = rest_none (texts c.args.words.now) c.args.at (sym c.in-None.ensures)
