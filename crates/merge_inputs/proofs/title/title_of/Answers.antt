use Rattle.std.proofs.Common.{sym}
use Rattle.merge_inputs.proofs.TitleLemmas.{title-utf8}
use Rattle.merge_inputs.proofs.title.title_of.Goals as goal

-- A Title is a text.
pub text_of-requires : goal.text_of-requires
text_of-requires c =
    let good = rw c.in-Some.is at c.requires in
    title-utf8 c.in-Some.info c.in-Some-child.title.now good.sound (sym c.in-Some-child.ensures.exact)
