use Rattle.word_laws.proofs.LawLemmas.{spelled_read}
use Rattle.word_laws.proofs.spelled_words_are_read.Goals as goal

pub returns : goal.returns
returns c = spelled_read
