-- The returned command is the definition's, which is within its limits.
use Rattle.word_values.specs.Place.{texts}
use Rattle.mkv_args.proofs.SoundLemmas.{told-sound}
use Rattle.mkv_args.proofs.words.read_words.Goals as goal

pub returns-clause-sound : goal.returns-clause-sound
returns-clause-sound c = told-sound (texts c.as_slice.result.now) c.command.result c.command.ensures
