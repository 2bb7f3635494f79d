-- The child is a text of the table.
use Rattle.std.proofs.Common.{sym}
use Rattle.ebml_tree.proofs.TextLemmas.{text-utf8}
use Rattle.ebml_tree.proofs.values.text_in.Goals as goal

pub text_of-requires : goal.text_of-requires
text_of-requires c = text-utf8 _ _ _ c.requires.sound c.requires.text (sym c.in-Some.ensures.exact)
