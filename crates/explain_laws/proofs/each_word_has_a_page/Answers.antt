use Rattle.explain_laws.proofs.MessageLemmas.{words-have-pages}
use Rattle.explain_laws.proofs.each_word_has_a_page.Goals as goal

-- each variant is computed
pub returns : goal.returns
returns c = words-have-pages
