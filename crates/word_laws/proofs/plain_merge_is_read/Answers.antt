use Rattle.word_laws.proofs.PlainLemmas.{plain_read}
use Rattle.word_laws.proofs.plain_merge_is_read.Goals as goal

pub returns : goal.returns
returns c = plain_read
