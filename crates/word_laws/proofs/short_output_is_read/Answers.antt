use Rattle.word_laws.proofs.PlainLemmas.{short_read}
use Rattle.word_laws.proofs.short_output_is_read.Goals as goal

pub returns : goal.returns
returns c = short_read
