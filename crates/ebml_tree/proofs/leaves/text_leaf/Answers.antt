-- A text is valid under a parent if the table has one there.
use Rattle.ebml_tree.proofs.LeafLemmas.{text-made}
use Rattle.ebml_tree.proofs.leaves.text_leaf.Goals as goal

pub returns-clause-stands : goal.returns-clause-stands
returns-clause-stands c = text-made _ _ _ _ c.leaf.ensures.exact c.as_bytes.ensures.value c.utf8.text
