use Rattle.merge_words.proofs.SoundLemmas.{merged-title}
use Rattle.mkv_args.proofs.TextLemmas.{asked-merged}
use Rattle.word_laws.proofs.titles_are_texts.Goals as goal

pub returns : goal.returns
returns c = λ line words is. merged-title line words (asked-merged line words is)
