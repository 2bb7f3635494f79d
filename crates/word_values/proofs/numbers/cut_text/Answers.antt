use Rattle.word_values.proofs.NumbersLemmas.{cut_split}
use Rattle.word_values.proofs.numbers.cut_text.Goals as goal

pub returns : goal.returns
returns c = cut_split c.args.mark c.args.word.now c.split_once.result c.split_once.ensures.cases c.requires
